-- What lent bytes are filled with: each byte tells its index.
use Rattle.std.specs.Prelude.{◌≡◌, List, ℕ, ◌%◌, ◌<◌, ◌≤◌, length, map, slice_index}
use Rattle.std.specs.List.{range_with_len}

-- 251 is a prime: no copy by a power of two or by a block's length goes unseen
abbrev pub pattern_byte : ℕ → ℕ
pattern_byte i = i % 251

-- n bytes as they are filled
abbrev pub patterned : ℕ → List ℕ
patterned n = map pattern_byte (range_with_len 0 n)

-- the bytes from one index up to another, as far as there are any, are as they were filled
abbrev pub IsUntouched : List ℕ → (from to : ℕ) → Type 0
IsUntouched bytes from to = (i : ℕ) → from ≤ i → i < to → i < length bytes → slice_index bytes i ≡ pattern_byte i
