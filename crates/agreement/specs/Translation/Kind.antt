-- Which words the translator takes: the nested matches of the Rust's `emit_native_instr_x64`, and behind them those of
-- `emit_native_term_mem_helper_x64`. Numbers from src/isa.rs: funct7 0x00 is F7_BASE, 0x20 F7_SUB_SRA, 0x01 F7_MULDIV.
use Rattle.std.specs.Prelude.{cond, List, [], ◌∷◌, ℕ, eqb}
use Rattle.agreement.specs.Riscv.Instruction.{Instruction}
use Rattle.agreement.specs.Riscv.Instruction.Op.{ADD, SUB, SLT, SLTU, XOR, OR, AND, SLL, SRL, SRA, MUL, ADDW, SUBW, SLLW, SRLW, SRAW}
use Rattle.agreement.specs.Riscv.Instruction.Op.{MULW, MULH, MULHSU, MULHU, DIV, DIVU, REM, REMU, DIVW, DIVUW, REMW, REMUW}
use Rattle.agreement.specs.Riscv.Instruction.OpImm.{ADDI, SLTI, SLTIU, XORI, ORI, ANDI, SLLI, SRLI, SRAI, ADDIW, SLLIW, SRLIW, SRAIW}
use Rattle.agreement.specs.Riscv.Instruction.Branch.{BEQ, BNE, BLT, BGE, BLTU, BGEU}
use Rattle.agreement.specs.Riscv.Instruction.Access.{LB, LH, LW, LD, LBU, LHU, LWU, SB, SH, SW, SD}
use Rattle.agreement.specs.Riscv.Instruction.Instruction.{op, op_imm, branch, access, unmodelled, LUI, AUIPC, JAL, JALR, FENCE}
use Rattle.agreement.specs.Riscv.Instruction.Instruction.{FENCE_I, other}
use Rattle.agreement.specs.Translation.Decode32.{opcode, funct3, funct7, imm_hi}

-- an arm `pattern => value` of a match on a number
pub record Arm : Type 0 where
  pub pattern : ℕ
  pub value : Instruction

infix 80 ◌⇒◌
abbrev pub ◌⇒◌ : ℕ → Instruction → Arm
◌⇒◌ p v = record { pattern = p; value = v }

-- the arms in order; where none fits, `_ => return None`: the word is not taken
unfoldable pub match : ℕ → List Arm → Instruction
match n [] = other
match n (a ∷ arms) = cond (eqb n a.pattern) a.value (match n arms)

-- OPCODE_OP: the Rust matches on the pair of funct7 and funct3; here funct3 = f, then funct7 = s. Of F7_MULDIV the Rust
-- takes MUL and MULW, request Q-2 the rest.
unfoldable pub kind_op : ℕ → ℕ → Instruction
kind_op f s = match f (
    0 ⇒ match s (0x00 ⇒ op ADD ∷ 0x20 ⇒ op SUB ∷ 0x01 ⇒ op MUL ∷ [])
    ∷ 1 ⇒ match s (0x00 ⇒ op SLL ∷ 0x01 ⇒ op MULH ∷ [])
    ∷ 2 ⇒ match s (0x00 ⇒ op SLT ∷ 0x01 ⇒ op MULHSU ∷ [])
    ∷ 3 ⇒ match s (0x00 ⇒ op SLTU ∷ 0x01 ⇒ op MULHU ∷ [])
    ∷ 4 ⇒ match s (0x00 ⇒ op XOR ∷ 0x01 ⇒ op DIV ∷ [])
    ∷ 5 ⇒ match s (0x00 ⇒ op SRL ∷ 0x20 ⇒ op SRA ∷ 0x01 ⇒ op DIVU ∷ [])
    ∷ 6 ⇒ match s (0x00 ⇒ op OR ∷ 0x01 ⇒ op REM ∷ [])
    ∷ 7 ⇒ match s (0x00 ⇒ op AND ∷ 0x01 ⇒ op REMU ∷ [])
    ∷ [])

-- OPCODE_OP_32
unfoldable pub kind_op32 : ℕ → ℕ → Instruction
kind_op32 f s = match f (
    0 ⇒ match s (0x00 ⇒ op ADDW ∷ 0x20 ⇒ op SUBW ∷ 0x01 ⇒ op MULW ∷ [])
    ∷ 1 ⇒ match s (0x00 ⇒ op SLLW ∷ [])
    ∷ 4 ⇒ match s (0x01 ⇒ op DIVW ∷ [])
    ∷ 5 ⇒ match s (0x00 ⇒ op SRLW ∷ 0x20 ⇒ op SRAW ∷ 0x01 ⇒ op DIVUW ∷ [])
    ∷ 6 ⇒ match s (0x01 ⇒ op REMW ∷ [])
    ∷ 7 ⇒ match s (0x01 ⇒ op REMUW ∷ [])
    ∷ [])

-- OPCODE_OP_IMM, the shifts by imm_hi = t
unfoldable pub kind_op_imm : ℕ → ℕ → Instruction
kind_op_imm f t = match f (
    0 ⇒ op_imm ADDI
    ∷ 2 ⇒ op_imm SLTI
    ∷ 3 ⇒ op_imm SLTIU
    ∷ 4 ⇒ op_imm XORI
    ∷ 6 ⇒ op_imm ORI
    ∷ 7 ⇒ op_imm ANDI
    ∷ 1 ⇒ match t (0x00 ⇒ op_imm SLLI ∷ [])
    ∷ 5 ⇒ match t (0x00 ⇒ op_imm SRLI ∷ 0x10 ⇒ op_imm SRAI ∷ [])
    ∷ [])

-- OPCODE_OP_IMM_32
unfoldable pub kind_op_imm32 : ℕ → ℕ → Instruction
kind_op_imm32 f s = match f (
    0 ⇒ op_imm ADDIW
    ∷ 1 ⇒ match s (0x00 ⇒ op_imm SLLIW ∷ [])
    ∷ 5 ⇒ match s (0x00 ⇒ op_imm SRLIW ∷ 0x20 ⇒ op_imm SRAIW ∷ [])
    ∷ [])

-- OPCODE_BRANCH
unfoldable pub kind_branch : ℕ → Instruction
kind_branch f = match f (
    0 ⇒ branch BEQ
    ∷ 1 ⇒ branch BNE
    ∷ 4 ⇒ branch BLT
    ∷ 5 ⇒ branch BGE
    ∷ 6 ⇒ branch BLTU
    ∷ 7 ⇒ branch BGEU
    ∷ [])

-- OPCODE_LOAD and OPCODE_STORE, which go to the helper
unfoldable pub kind_load : ℕ → Instruction
kind_load f = match f (
    0 ⇒ access LB
    ∷ 1 ⇒ access LH
    ∷ 2 ⇒ access LW
    ∷ 3 ⇒ access LD
    ∷ 4 ⇒ access LBU
    ∷ 5 ⇒ access LHU
    ∷ 6 ⇒ access LWU
    ∷ [])

unfoldable pub kind_store : ℕ → Instruction
kind_store f = match f (
    0 ⇒ access SB
    ∷ 1 ⇒ access SH
    ∷ 2 ⇒ access SW
    ∷ 3 ⇒ access SD
    ∷ [])

-- OPCODE_MISC_MEM
unfoldable pub kind_fence : ℕ → Instruction
kind_fence f = match f (0 ⇒ FENCE ∷ 1 ⇒ FENCE_I ∷ [])

-- opcode, funct3, funct7, imm_hi. The Rust takes JALR with any funct3, request Q-6 with 0 alone
unfoldable pub kind_of : ℕ → ℕ → ℕ → ℕ → Instruction
kind_of o f s t = match o (
    0x37 ⇒ LUI
    ∷ 0x17 ⇒ AUIPC
    ∷ 0x6F ⇒ JAL
    ∷ 0x67 ⇒ match f (0 ⇒ JALR ∷ [])
    ∷ 0x63 ⇒ kind_branch f
    ∷ 0x13 ⇒ kind_op_imm f t
    ∷ 0x1B ⇒ kind_op_imm32 f s
    ∷ 0x33 ⇒ kind_op f s
    ∷ 0x3B ⇒ kind_op32 f s
    ∷ 0x0F ⇒ kind_fence f
    ∷ 0x03 ⇒ kind_load f
    ∷ 0x23 ⇒ kind_store f
    ∷ [])

unfoldable pub kind : ℕ → Instruction
kind w = kind_of (opcode w) (funct3 w) (funct7 w) (imm_hi w)

-- what becomes of the word (document 01, "Words taken"), numbered as document 02 does at Q-9: 0 it is not taken, 1 the block goes on
-- behind it, 2 it ends the block, 3 it is a load or store, and the memory helper ends the block
abbrev pub kind_number : Instruction → ℕ
kind_number (unmodelled u) = 0
kind_number other = 0
kind_number (op o) = 1
kind_number (op_imm o) = 1
kind_number LUI = 1
kind_number AUIPC = 1
kind_number FENCE = 1
kind_number FENCE_I = 2
kind_number (branch c) = 2
kind_number JAL = 2
kind_number JALR = 2
kind_number (access a) = 3
