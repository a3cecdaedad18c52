-- How many steps an entry takes. Jumps stand only in the words that divide, and go forward: each instruction of a block is
-- executed at most once, and exactly once where the turn meets no such word (document 02, Q-2 and Q-12).
use Rattle.std.specs.Prelude.{◌≡◌, Bool, true, false, cond, List, [], ◌∷◌, ℕ, zero, suc, ◌≤◌, length, drop, Option, None, Some}
use Rattle.agreement.specs.Riscv.Instruction.{Op, Instruction}
use Rattle.agreement.specs.Riscv.Instruction.Op.{ADD, SUB, SLT, SLTU, XOR, OR, AND, SLL, SRL, SRA, MUL, ADDW, SUBW, SLLW, SRLW, SRAW}
use Rattle.agreement.specs.Riscv.Instruction.Op.{MULW, MULH, MULHSU, MULHU, DIV, DIVU, REM, REMU, DIVW, DIVUW, REMW, REMUW}
use Rattle.agreement.specs.Riscv.Instruction.Instruction.{op, op_imm, branch, access, unmodelled, LUI, AUIPC, JAL, JALR, FENCE, FENCE_I, other}
use Rattle.agreement.specs.Riscv.Run.{in_line, is_long, taken, word_of}
use Rattle.agreement.specs.X86.Form.{Instr}

unfoldable pub divides : Op → Bool
divides ADD = false
divides SUB = false
divides SLL = false
divides SLT = false
divides SLTU = false
divides XOR = false
divides SRL = false
divides SRA = false
divides OR = false
divides AND = false
divides ADDW = false
divides SUBW = false
divides SLLW = false
divides SRLW = false
divides SRAW = false
divides MUL = false
divides MULW = false
divides MULH = false
divides MULHSU = false
divides MULHU = false
divides DIV = true
divides DIVU = true
divides REM = true
divides REMU = true
divides DIVW = true
divides DIVUW = true
divides REMW = true
divides REMUW = true

-- neither this word nor, where it is straight, those behind it, of which `rest` says it
unfoldable pub unless_dividing : Instruction → Bool → Bool
unless_dividing (op o) rest = cond (divides o) false rest
unless_dividing (op_imm o) rest = rest
unless_dividing LUI rest = rest
unless_dividing AUIPC rest = rest
unless_dividing FENCE rest = rest
unless_dividing FENCE_I rest = true
unless_dividing (branch c) rest = true
unless_dividing JAL rest = true
unless_dividing JALR rest = true
unless_dividing (access a) rest = true
unless_dividing (unmodelled u) rest = true
unless_dividing other rest = true

-- the word whose lower halfword is h, and a halfword read as a word: `does_word` and `does_halfword`, Riscv/Run
abbrev pub undivided_word : ℕ → List ℕ → Bool → Bool
undivided_word h [] rest = true
undivided_word h (u ∷ hs) rest = unless_dividing (taken (word_of h u)) rest

abbrev pub undivided_halfword : Option ℕ → Bool → Bool
undivided_halfword None rest = true
undivided_halfword (Some w) rest = unless_dividing (taken w) rest

-- no word that divides among those that a turn reads, at most n, from a run of halfwords (`reading`)
unfoldable pub undivided : ℕ → List ℕ → Bool
undivided zero hs = true
undivided (suc n) [] = true
undivided (suc n) (h ∷ hs) = elim (is_long h) [
  | true ↦ undivided_word h hs (undivided n (drop 1 hs))
  | false ↦ undivided_halfword (in_line h) (undivided n hs)
]

-- n steps through the instructions of a block, u saying that no word of it divides
pub record StepsOf (is : List Instr) (u : Bool) (n : ℕ) : Type 0 where
  pub most : n ≤ length is
  pub exact : u ≡ true → n ≡ length is
