-- The bytes of an instruction. Intel SDM volume 2, "Instruction Format"; opcode and /digit from the page of each mnemonic.
use Rattle.std.specs.Prelude.{cond, List, [], ◌∷◌, ◌++◌, ℕ, ◌+◌, ◌*◌, ◌/◌, ◌%◌, eqb}
use Rattle.agreement.specs.X86.Memory.{bytes_of}
use Rattle.agreement.specs.X86.Form.{Width, Alu, Shift, MulDiv, Cc, Instr}
use Rattle.agreement.specs.X86.Form.Width.{r32, r64}
use Rattle.agreement.specs.X86.Form.Alu.{add, or, and, sub, xor, cmp}
use Rattle.agreement.specs.X86.Form.Shift.{shl, shr, sar}
use Rattle.agreement.specs.X86.Form.MulDiv.{umul, smul, udiv, sdiv}
use Rattle.agreement.specs.X86.Form.Cc.{B, AE, E, NE, L, GE}
use Rattle.agreement.specs.X86.Form.Instr.{push, pop, mov, mov_imm64, load, store, alu, alu_imm32, alu_imm8, shift_cl, shift_imm8, imul}
use Rattle.agreement.specs.X86.Form.Instr.{movsxd, setcc_al, movzx, cmov, mul_div, cqo, jcc, call_rax, ret}

-- the /digit of 81 and 83; the opcode of the register form is 8 * digit + 1
abbrev pub digit : Alu → ℕ
digit add = 0
digit or = 1
digit and = 4
digit sub = 5
digit xor = 6
digit cmp = 7

-- the /digit of C1 and D3
abbrev pub shift_digit : Shift → ℕ
shift_digit shl = 4
shift_digit shr = 5
shift_digit sar = 7

-- the /digit of F7
abbrev pub mul_div_digit : MulDiv → ℕ
mul_div_digit umul = 4
mul_div_digit smul = 5
mul_div_digit udiv = 6
mul_div_digit sdiv = 7

-- the low four bits of 0F 4x (CMOVcc), 0F 9x (SETcc) and 7x (Jcc with an 8-bit displacement)
abbrev pub cc_number : Cc → ℕ
cc_number B = 0x2
cc_number AE = 0x3
cc_number E = 0x4
cc_number NE = 0x5
cc_number L = 0xC
cc_number GE = 0xD

-- 0100WR0B: R extends ModRM.reg, B extends ModRM.rm or the opcode's register; a bare 0x40 is left out
abbrev pub rex : Width → ℕ → ℕ → List ℕ
rex r64 r b = (0x48 + 4 * (r / 8) + b / 8) ∷ []
rex r32 r b = cond (eqb (4 * (r / 8) + b / 8) 0) [] ((0x40 + 4 * (r / 8) + b / 8) ∷ [])

-- ModRM with mod 11: a register in rm
abbrev pub mod_reg : ℕ → ℕ → ℕ
mod_reg r b = 0xC0 + 8 * (r % 8) + b % 8

-- ModRM with mod 10: a base register and disp32; where its low bits are 4, a SIB byte with no index
abbrev pub mod_mem : ℕ → ℕ → ℕ → List ℕ
mod_mem r b d = cond (eqb (b % 8) 4)
    ((0x80 + 8 * (r % 8) + 4) ∷ (0x20 + b % 8) ∷ bytes_of 4 d)
    ((0x80 + 8 * (r % 8) + b % 8) ∷ bytes_of 4 d)

abbrev pub encode : Instr → List ℕ
encode (push r) = rex r32 0 r ++ (0x50 + r % 8) ∷ []
encode (pop r) = rex r32 0 r ++ (0x58 + r % 8) ∷ []
encode (mov d s) = rex r64 s d ++ 0x89 ∷ mod_reg s d ∷ []
encode (mov_imm64 d v) = rex r64 0 d ++ (0xB8 + d % 8) ∷ bytes_of 8 v
encode (load d b o) = rex r64 d b ++ 0x8B ∷ mod_mem d b o
encode (store b o s) = rex r64 s b ++ 0x89 ∷ mod_mem s b o
encode (alu w op d s) = rex w s d ++ (8 * digit op + 1) ∷ mod_reg s d ∷ []
encode (alu_imm32 op d v) = rex r64 0 d ++ 0x81 ∷ mod_reg (digit op) d ∷ bytes_of 4 v
encode (alu_imm8 op d v) = rex r64 0 d ++ 0x83 ∷ mod_reg (digit op) d ∷ v ∷ []
encode (shift_cl w op d) = rex w 0 d ++ 0xD3 ∷ mod_reg (shift_digit op) d ∷ []
encode (shift_imm8 w op d v) = rex w 0 d ++ 0xC1 ∷ mod_reg (shift_digit op) d ∷ v ∷ []
encode (imul w d s) = rex w d s ++ 0x0F ∷ 0xAF ∷ mod_reg d s ∷ []
encode (movsxd d s) = rex r64 d s ++ 0x63 ∷ mod_reg d s ∷ []
encode (setcc_al c) = 0x0F ∷ (0x90 + cc_number c) ∷ 0xC0 ∷ []
encode (movzx d s) = rex r64 d s ++ 0x0F ∷ 0xB6 ∷ mod_reg d s ∷ []
encode (cmov c d s) = rex r64 d s ++ 0x0F ∷ (0x40 + cc_number c) ∷ mod_reg d s ∷ []
encode (mul_div w op r) = rex w 0 r ++ 0xF7 ∷ mod_reg (mul_div_digit op) r ∷ []
encode (cqo w) = rex w 0 0 ++ 0x99 ∷ []
encode (jcc c d) = (0x70 + cc_number c) ∷ d ∷ []
encode call_rax = 0xFF ∷ 0xD0 ∷ []
encode ret = 0xC3 ∷ []

abbrev pub bytes : List Instr → List ℕ
bytes [] = []
bytes (i ∷ is) = encode i ++ bytes is
