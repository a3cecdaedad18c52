-- The running quotient of `emit_u64` (document 02, Q-3): what holds whenever its loop comes round.
use Rattle.std.specs.Prelude.{◌≡◌, List, ℕ, ◌/◌, ◌^◌, ◌≤◌}
use Rattle.agreement.specs.X86.Memory.{bytes_of}
use Rattle.emitter.specs.Written.{Wrote}

-- k bytes of v, eight at most, stand in the output from place at on, the least significant first (Intel SDM volume 1, "Bit and Byte
-- Order"). The quotient is v divided by 256 to the power k, rounded down; its lowest byte is the next to be written.
pub record RunningQuotient (v k quotient : ℕ) (before : List ℕ) (at : ℕ) (after : List ℕ) (next : ℕ) : Type 0 where
  pub most : k ≤ 8
  pub divided : quotient ≡ v / 256 ^ k
  pub written : Wrote before at (bytes_of k v) after next
