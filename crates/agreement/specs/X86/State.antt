-- The host's state. Intel SDM volume 1, "Basic Program Execution Registers".
use Rattle.std.specs.Prelude.{Bool, cond, ℕ, eqb}
use Rattle.agreement.specs.X86.Memory.{Memory}

-- the status flags of EFLAGS
pub record Flags : Type 0 where
  pub cf : Bool
  pub pf : Bool
  pub af : Bool
  pub zf : Bool
  pub sf : Bool
  pub of : Bool

-- registers by number, as Form names them. They are numbers without a bound here: that they are below 2^64 is asked of
-- the sixteen at entry, and of RAX and RDX when a helper returns (RSP is given by `Keeps`; the rest is not looked at).
pub record State : Type 0 where
  pub regs : ℕ → ℕ
  pub flags : Flags
  pub rip : ℕ
  pub mem : Memory

-- the addresses that may be fetched from, read and written; an access to another has no next state
pub record Permissions : Type 0 where
  pub fetch : ℕ → Bool
  pub read : ℕ → Bool
  pub write : ℕ → Bool

abbrev pub set : (ℕ → ℕ) → ℕ → ℕ → ℕ → ℕ
set f r v k = cond (eqb k r) v (f k)
