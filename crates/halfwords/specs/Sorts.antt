-- How many of all halfwords are reserved, C.EBREAK, loads and stores, and read in line, ending the turn or going straight on.
use Rattle.std.specs.Prelude.{Bool, true, false, cond, ◌||◌, ◌≡◌, ℕ, zero, suc, ◌+◌, ◌^◌, eqb, Option, None, Some}
use Rattle.agreement.specs.Riscv.Fields.{opcode}
use Rattle.agreement.specs.Riscv.Compressed.{expansion}
use Rattle.agreement.specs.Riscv.Instruction.{Instruction}
use Rattle.agreement.specs.Riscv.Instruction.Instruction.{op, op_imm, branch, access, unmodelled, LUI, AUIPC, JAL, JALR, FENCE, FENCE_I, other}
use Rattle.agreement.specs.Riscv.Run.{in_line, is_long, taken}

pub record Counts : Type 0 where
  pub reserved : ℕ
  pub breakpoints : ℕ
  pub accesses : ℕ
  pub ending : ℕ
  pub straight : ℕ

abbrev pub counts : ℕ → ℕ → ℕ → ℕ → ℕ → Counts
counts r b a e s = record { reserved = r; breakpoints = b; accesses = a; ending = e; straight = s }

abbrev pub together : Counts → Counts → Counts
together c d =
    counts (c.reserved + d.reserved) (c.breakpoints + d.breakpoints) (c.accesses + d.accesses) (c.ending + d.ending)
    (c.straight + d.straight)

-- whether a turn that reads it ends there
abbrev pub ends : Instruction → Bool
ends (op o) = false
ends (op_imm o) = false
ends LUI = false
ends AUIPC = false
ends FENCE = false
ends (branch c) = true
ends JAL = true
ends JALR = true
ends FENCE_I = true
ends (access a) = false
ends (unmodelled u) = false
ends other = false

-- what C.EBREAK expands to
abbrev pub ebreak : ℕ
ebreak = 0x00100073

-- LOAD and STORE, and LOAD-FP and STORE-FP of chapter "D"
abbrev pub is_access : ℕ → Bool
is_access w = eqb (opcode w) 0x03 || (eqb (opcode w) 0x23 || (eqb (opcode w) 0x07 || eqb (opcode w) 0x27))

-- a halfword by the word that it is read as, and by the word that it expands to
unfoldable pub counted : Option ℕ → Option ℕ → Counts
counted (Some w) e = cond (ends (taken w)) (counts 0 0 0 1 0) (counts 0 0 0 0 1)
counted None (Some w) = cond (eqb w ebreak) (counts 0 1 0 0 0) (cond (is_access w) (counts 0 0 1 0 0) (counts 0 0 0 0 0))
counted None None = counts 1 0 0 0 0

-- of the 2^k halfwords from a on those whose low two bits are not 3
unfoldable pub count : ℕ → ℕ → Counts
count zero a = cond (is_long a) (counts 0 0 0 0 0) (counted (in_line a) (expansion a))
count (suc k) a = together (count k a) (count k (a + 2 ^ k))

-- all of them: 49,152, of which 22,294 are read in line
unfoldable pub AllCounted : Type 0
AllCounted = count 16 0 ≡ counts 2409 1 24448 6206 16088
