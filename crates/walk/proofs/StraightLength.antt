-- A word that goes on has at most 63 bytes.
use Rattle.std.proofs.Common.{◌≡◌, ℕ, ◌≤◌, length, Some, arith}
use Rattle.agreement.specs.Riscv.Instruction.{Instruction}
use Rattle.agreement.specs.Riscv.Instruction.Instruction.{op, op_imm, branch, access, unmodelled, LUI, AUIPC, JAL, JALR, FENCE, FENCE_I, other}
use Rattle.agreement.specs.X86.Encode.{bytes}
use Rattle.agreement.specs.Translation.Decode32.{rd, rs1, rs2, imm32, shamt, shamt_w, imm_u, wrapping_add}
use Rattle.agreement.proofs.Block.Length.{len_op, len_imm, len_const}
use Rattle.words.specs.Word.{word_as}
use Rattle.words.specs.declared.X64EmitFlow.TheVariants.{Continue}

pub straight_short : (k : Instruction) (z pc w : ℕ) → (word_as k z pc w).flow ≡ Some Continue → length (bytes (word_as k z pc w).code) ≤ 63
straight_short (op o) z pc w e = len_op o (rd w) (rs1 w) (rs2 w)
straight_short (op_imm o) z pc w e = omega (arith, len_imm o (rd w) (rs1 w) (imm32 w) (shamt w) (shamt_w w))
straight_short LUI z pc w e = omega (arith, len_const (rd w) (imm_u w))
straight_short AUIPC z pc w e = omega (arith, len_const (rd w) (wrapping_add pc (imm_u w)))
straight_short FENCE z pc w e = omega arith
straight_short FENCE_I z pc w e = cc
straight_short (branch c) z pc w e = cc
straight_short JAL z pc w e = cc
straight_short JALR z pc w e = cc
straight_short (access a) z pc w e = cc
straight_short (unmodelled u) z pc w e = cc
straight_short other z pc w e = cc
