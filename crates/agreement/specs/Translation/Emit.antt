-- The host instructions for a word: the Rust's `emit_native_instr_x64`, its prologue, epilogue and helper ends.
-- Document 01, "Block bytes". RBX holds the registers' address, guest register r is at RBX + 8r; R10, R11, RCX, RAX and RDX work.
use Rattle.std.specs.Prelude.{cond, List, [], ◌∷◌, ◌++◌, ℕ, ◌-◌, ◌*◌, ◌^◌, eqb, length}
use Rattle.agreement.specs.Riscv.Instruction.{Op, OpImm, Branch}
use Rattle.agreement.specs.Riscv.Instruction.Op.{ADD, SUB, SLT, SLTU, XOR, OR, AND, SLL, SRL, SRA, MUL, ADDW, SUBW, SLLW, SRLW, SRAW}
use Rattle.agreement.specs.Riscv.Instruction.Op.{MULW, MULH, MULHSU, MULHU, DIV, DIVU, REM, REMU, DIVW, DIVUW, REMW, REMUW}
use Rattle.agreement.specs.Riscv.Instruction.OpImm.{ADDI, SLTI, SLTIU, XORI, ORI, ANDI, SLLI, SRLI, SRAI, ADDIW, SLLIW, SRLIW, SRAIW}
use Rattle.agreement.specs.Riscv.Instruction.Branch.{BEQ, BNE, BLT, BGE, BLTU, BGEU}
use Rattle.agreement.specs.X86.Encode.{bytes}
use Rattle.agreement.specs.X86.Form.{RAX, RCX, RDX, RBX, RSP, RBP, RSI, RDI, R8, R9, R10, R11, R12, R13, R14, R15}
use Rattle.agreement.specs.X86.Form.{Width, Cc, Instr}
use Rattle.agreement.specs.X86.Form.Width.{r32, r64}
use Rattle.agreement.specs.X86.Form.Alu.{add, or, and, sub, xor, cmp}
use Rattle.agreement.specs.X86.Form.Shift.{shl, shr, sar}
use Rattle.agreement.specs.X86.Form.MulDiv.{umul, smul, udiv, sdiv}
use Rattle.agreement.specs.X86.Form.Cc.{B, AE, E, NE, L, GE}
use Rattle.agreement.specs.X86.Form.Instr.{push, pop, mov, mov_imm64, load, store, alu, alu_imm32, alu_imm8, shift_cl, shift_imm8, imul}
use Rattle.agreement.specs.X86.Form.Instr.{movsxd, setcc_al, movzx, cmov, mul_div, cqo, jcc}

-- x64_emit_load_reg, and x64_emit_store_reg, which writes no x0
abbrev pub load_reg : ℕ → ℕ → Instr
load_reg host r = load host RBX (8 * r)

abbrev pub store_reg : ℕ → ℕ → List Instr
store_reg r host = cond (eqb r 0) [] (store RBX (8 * r) host ∷ [])

-- Document 02, Q-2, the rest of M: R10 divided by R11, RAX and RDX getting quotient and remainder. The manual's value for a divisor at
-- which the host may fault (0, and -1 where it is signed) is first put into the one that is asked for, q; then one test of the divisor
-- jumps over the division or does not.

-- instructions, and before them a conditional jump to what stands behind them
abbrev pub skip_if : Cc → List Instr → List Instr
skip_if c is = jcc c (length (bytes is)) ∷ is

-- RDX:RAX holds R10, extended by zeros or by its sign
abbrev pub division_u : Width → List Instr
division_u w = mov RAX R10 ∷ alu r32 xor RDX RDX ∷ mul_div w udiv R11 ∷ []

abbrev pub division_s : Width → List Instr
division_s w = mov RAX R10 ∷ cqo w ∷ mul_div w sdiv R11 ∷ []

-- by R11, unless that is 0
abbrev pub divide_u : Width → ℕ → List Instr
divide_u w q = alu w and R11 R11 ∷ (skip_if E (division_u w) ++ mov R10 q ∷ [])

-- by R11, unless RCX, which is 1 more than that, is 0 or 1
abbrev pub divide_s : Width → ℕ → List Instr
divide_s w q = alu_imm8 cmp RCX 2 ∷ (skip_if B (division_s w) ++ mov R10 q ∷ [])

-- b + 1 in RCX; b being 0 or -1, the quotient is a * b - (b + 1): -1 or -a; the remainder is a * (b + 1): a or 0
abbrev pub divisor_plus1 : List Instr
divisor_plus1 = mov RCX R11 ∷ alu_imm8 add RCX 1 ∷ []

abbrev pub first_quotient : List Instr
first_quotient = divisor_plus1 ++ mov RAX R10 ∷ imul r64 RAX R11 ∷ alu r64 sub RAX RCX ∷ []

abbrev pub first_remainder : List Instr
first_remainder = divisor_plus1 ++ mov RDX R10 ∷ imul r64 RDX RCX ∷ []

abbrev pub quotient_s : Width → List Instr
quotient_s w = first_quotient ++ divide_s w RAX

abbrev pub remainder_s : Width → List Instr
remainder_s w = first_remainder ++ divide_s w RDX

abbrev pub quotient_u : Width → List Instr
quotient_u w = alu_imm8 or RAX 0xFF ∷ divide_u w RAX

abbrev pub remainder_u : Width → List Instr
remainder_u w = mov RDX R10 ∷ divide_u w RDX

-- the operands of a signed division of 32 bits: their low 32 bits, sign-extended
abbrev pub sign_extend_pair : List Instr
sign_extend_pair = movsxd R10 R10 ∷ movsxd R11 R11 ∷ []

-- two source registers, a in R10 and b in R11: the value into R10. MULHSU is the unsigned product's upper half less b
-- where a is negative.
abbrev pub body_op : Op → List Instr
body_op ADD = alu r64 add R10 R11 ∷ []
body_op SUB = alu r64 sub R10 R11 ∷ []
body_op SLL = mov RCX R11 ∷ shift_cl r64 shl R10 ∷ []
body_op SLT = alu r64 cmp R10 R11 ∷ setcc_al L ∷ movzx R10 RAX ∷ []
body_op SLTU = alu r64 cmp R10 R11 ∷ setcc_al B ∷ movzx R10 RAX ∷ []
body_op XOR = alu r64 xor R10 R11 ∷ []
body_op SRL = mov RCX R11 ∷ shift_cl r64 shr R10 ∷ []
body_op SRA = mov RCX R11 ∷ shift_cl r64 sar R10 ∷ []
body_op OR = alu r64 or R10 R11 ∷ []
body_op AND = alu r64 and R10 R11 ∷ []
body_op ADDW = alu r32 add R10 R11 ∷ movsxd R10 R10 ∷ []
body_op SUBW = alu r32 sub R10 R11 ∷ movsxd R10 R10 ∷ []
body_op SLLW = mov RCX R11 ∷ alu_imm8 and RCX 0x1F ∷ shift_cl r32 shl R10 ∷ movsxd R10 R10 ∷ []
body_op SRLW = mov RCX R11 ∷ alu_imm8 and RCX 0x1F ∷ shift_cl r32 shr R10 ∷ movsxd R10 R10 ∷ []
body_op SRAW = mov RCX R11 ∷ alu_imm8 and RCX 0x1F ∷ shift_cl r32 sar R10 ∷ movsxd R10 R10 ∷ []
body_op MUL = imul r64 R10 R11 ∷ []
body_op MULW = imul r32 R10 R11 ∷ movsxd R10 R10 ∷ []
body_op MULH = mov RAX R10 ∷ mul_div r64 smul R11 ∷ mov R10 RDX ∷ []
body_op MULHSU =
    mov RAX R10 ∷ mul_div r64 umul R11 ∷ shift_imm8 r64 sar R10 63 ∷ imul r64 R10 R11 ∷ alu r64 add R10 RDX ∷ []
body_op MULHU = mov RAX R10 ∷ mul_div r64 umul R11 ∷ mov R10 RDX ∷ []
body_op DIV = quotient_s r64
body_op DIVU = quotient_u r64
body_op REM = remainder_s r64
body_op REMU = remainder_u r64
body_op DIVW = sign_extend_pair ++ (quotient_s r32 ++ movsxd R10 R10 ∷ [])
body_op DIVUW = quotient_u r32 ++ movsxd R10 R10 ∷ []
body_op REMW = sign_extend_pair ++ (remainder_s r32 ++ movsxd R10 R10 ∷ [])
body_op REMUW = remainder_u r32 ++ movsxd R10 R10 ∷ []

abbrev pub code_op : Op → ℕ → ℕ → ℕ → List Instr
code_op o rd rs1 rs2 = load_reg R10 rs1 ∷ load_reg R11 rs2 ∷ (body_op o ++ store_reg rd R10)

-- a register in R10 and an immediate: i its 32 bits, c and d the shift amounts of six and five bits
abbrev pub body_op_imm : OpImm → ℕ → ℕ → ℕ → List Instr
body_op_imm ADDI i c d = alu_imm32 add R10 i ∷ []
body_op_imm SLTI i c d = alu_imm32 cmp R10 i ∷ setcc_al L ∷ movzx R10 RAX ∷ []
body_op_imm SLTIU i c d = alu_imm32 cmp R10 i ∷ setcc_al B ∷ movzx R10 RAX ∷ []
body_op_imm XORI i c d = alu_imm32 xor R10 i ∷ []
body_op_imm ORI i c d = alu_imm32 or R10 i ∷ []
body_op_imm ANDI i c d = alu_imm32 and R10 i ∷ []
body_op_imm SLLI i c d = shift_imm8 r64 shl R10 c ∷ []
body_op_imm SRLI i c d = shift_imm8 r64 shr R10 c ∷ []
body_op_imm SRAI i c d = shift_imm8 r64 sar R10 c ∷ []
body_op_imm ADDIW i c d = alu_imm32 add R10 i ∷ movsxd R10 R10 ∷ []
body_op_imm SLLIW i c d = shift_imm8 r32 shl R10 d ∷ movsxd R10 R10 ∷ []
body_op_imm SRLIW i c d = shift_imm8 r32 shr R10 d ∷ movsxd R10 R10 ∷ []
body_op_imm SRAIW i c d = shift_imm8 r32 sar R10 d ∷ movsxd R10 R10 ∷ []

abbrev pub code_op_imm : OpImm → ℕ → ℕ → ℕ → ℕ → ℕ → List Instr
code_op_imm o rd rs1 i c d = load_reg R10 rs1 ∷ (body_op_imm o i c d ++ store_reg rd R10)

-- LUI, AUIPC, and JAL's link: a constant through R10, or nothing for x0
abbrev pub code_const : ℕ → ℕ → List Instr
code_const rd v = cond (eqb rd 0) [] (mov_imm64 R10 v ∷ store RBX (8 * rd) R10 ∷ [])

abbrev pub code_jal : ℕ → ℕ → ℕ → List Instr
code_jal rd link target = code_const rd link ++ mov_imm64 RAX target ∷ []

-- the target is computed before the link is stored: rd may be rs1
abbrev pub code_jalr : ℕ → ℕ → ℕ → ℕ → List Instr
code_jalr rd rs1 i link =
    load_reg R10 rs1 ∷ alu_imm32 add R10 i ∷ alu_imm32 and R10 (2 ^ 32 - 2)
    ∷ (cond (eqb rd 0) [] (mov_imm64 R11 link ∷ store RBX (8 * rd) R11 ∷ []) ++ mov RAX R10 ∷ [])

abbrev pub cc_for : Branch → Cc
cc_for BEQ = E
cc_for BNE = NE
cc_for BLT = L
cc_for BGE = GE
cc_for BLTU = B
cc_for BGEU = AE

-- loads and comparison, which a branch with funct3 2 or 3 leaves too
abbrev pub compare : ℕ → ℕ → List Instr
compare rs1 rs2 = load_reg R10 rs1 ∷ load_reg R11 rs2 ∷ alu r64 cmp R10 R11 ∷ []

abbrev pub code_branch : Branch → ℕ → ℕ → ℕ → ℕ → List Instr
code_branch c rs1 rs2 next target =
    compare rs1 rs2 ++ mov_imm64 R11 next ∷ mov_imm64 RAX target ∷ cmov (cc_for c) R11 RAX ∷ mov RAX R11 ∷ []

-- what a word that is not taken leaves behind, by its opcode: the Rust loads (and compares) before it tests funct3 and funct7. A reserved
-- funct3 of JALR, which the Rust does not test, leaves nothing (document 02, Q-6)
unfoldable pub leftover : ℕ → ℕ → ℕ → List Instr
leftover o rs1 rs2 =
    cond (eqb o 0x63) (compare rs1 rs2) (
    cond (eqb o 0x33) (load_reg R10 rs1 ∷ load_reg R11 rs2 ∷ []) (
    cond (eqb o 0x3B) (load_reg R10 rs1 ∷ load_reg R11 rs2 ∷ []) (
    cond (eqb o 0x13) (load_reg R10 rs1 ∷ []) (
    cond (eqb o 0x1B) (load_reg R10 rs1 ∷ []) []))))

-- x64_emit_prologue; the 8 bytes keep the stack pointer a multiple of 16 at a call
abbrev pub opening : List Instr
opening =
    push RBX ∷ push RBP ∷ push R12 ∷ push R13 ∷ push R14 ∷ push R15 ∷ alu_imm8 sub RSP 8
    ∷ mov RBX RDI ∷ mov R12 RSI ∷ mov R13 RDX ∷ mov R14 RCX ∷ mov R15 R8 ∷ mov RBP R9 ∷ []

-- x64_emit_epilogue, all but its RET
abbrev pub closing : List Instr
closing = alu_imm8 add RSP 8 ∷ pop R15 ∷ pop R14 ∷ pop R13 ∷ pop R12 ∷ pop RBP ∷ pop RBX ∷ []

-- emit_native_term_helper16_x64 and emit_native_term_mem_helper_x64: what the block was entered with in RSI, RDX and RCX,
-- the instruction and its pc as arguments, and RAX the address called; behind the CALL the earlier count is added
abbrev pub passes : ℕ → ℕ → ℕ → List Instr
passes i pc a =
    mov RDI R12 ∷ mov RSI R13 ∷ mov RDX R14 ∷ mov_imm64 RCX i ∷ mov_imm64 R8 pc ∷ mov_imm64 RAX a ∷ []

abbrev pub add_count : ℕ → List Instr
add_count n = cond (eqb n 0) [] (alu_imm32 add RDX n ∷ [])
