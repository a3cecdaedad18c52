-- The flags after an instruction: those that it sets, at both widths, what it leaves undefined taken from `undefined` and from
-- nowhere else; and the instructions that leave every flag. The values are a processor's, as in Checks/Flags.
use Rattle.std.proofs.Common.{Bool, ◌&&◌, true, List, [], ◌∷◌, ◌≡◌, refl, ℕ, eqb}
use Rattle.agreement.specs.X86.Execute.{exec}
use Rattle.agreement.specs.X86.Flags.{add_flags, alu_flags, as_bits, as_signed, even_ones, holds, imul_flags, logic_flags, ones, sext}
use Rattle.agreement.specs.X86.Flags.{shift_flags, shift_overflow, shifted, shifted_out, smul_flags, sub_flags, umul_flags}
use Rattle.agreement.specs.X86.Form.{Instr, R10, R11, R12, RAX, RBX}
use Rattle.agreement.specs.X86.Form.Alu.{add, and, cmp, or, sub, xor}
use Rattle.agreement.specs.X86.Form.Cc.{AE, B, E, GE, L, NE}
use Rattle.agreement.specs.X86.Form.Instr.{alu, alu_imm32, alu_imm8, call_rax, cmov, cqo, imul, jcc, load, mov, mov_imm64, movsxd, movzx}
use Rattle.agreement.specs.X86.Form.Instr.{mul_div, pop, push, ret, setcc_al, shift_cl, shift_imm8, store}
use Rattle.agreement.specs.X86.Form.MulDiv.{sdiv, smul, udiv, umul}
use Rattle.agreement.specs.X86.Form.Shift.{sar, shl, shr}
use Rattle.agreement.specs.X86.Form.Width.{r32, r64}
use Rattle.agreement.specs.X86.Memory.{nth}
use Rattle.agreement.specs.X86.State.{Flags, State}
use Rattle.agreement.proofs.Checks.Flags.{number, off, on}

-- RAX 0x55, RCX 33, RDX 0, R10 0xFFFFFFFF80000001, R11 0x1FFFFFFFF, R12 3
abbrev state : Flags → State
state f = record {
  regs = nth (0x55 ∷ 33 ∷ 0 ∷ 0x1000 ∷ 0x2000 ∷ 0 ∷ 0 ∷ 0 ∷ 0 ∷ 0 ∷ 0xFFFFFFFF80000001 ∷ 0x1FFFFFFFF ∷ 3 ∷ []);
  flags = f;
  rip = 0;
  mem = λ a. 0;
}

-- the flags that i leaves where those before it are `old` and undefined ones become `u`
abbrev flags_after : Flags → Flags → Instr → ℕ
flags_after old u i = number (exec (λ s. u) i (state old)).flags

-- 1. Flags that are set: where undefined ones become 0, all having been 1, and the other way round

record Vector : Type 0 where
  i : Instr
  low : ℕ
  high : ℕ

abbrev sets : Instr → ℕ → ℕ → Vector
sets i low high = record { i = i; low = low; high = high }

abbrev pass : List Vector → Bool
pass [] = true
pass (v ∷ vs) = (eqb (flags_after on off v.i) v.low && eqb (flags_after off on v.i) v.high) && pass vs

vectors : List Vector
vectors =
    sets (alu r64 add R10 R11) 0b111000 0b111000
    ∷ sets (alu r64 or R10 R11) 0b010010 0b011010
    ∷ sets (alu r64 and R10 R11) 0b000000 0b001000
    ∷ sets (alu r64 sub R10 R11) 0b001010 0b001010
    ∷ sets (alu r64 xor R10 R11) 0b000010 0b001010
    ∷ sets (alu r64 cmp R10 R11) 0b001010 0b001010
    ∷ sets (alu r32 add R10 R11) 0b111010 0b111010
    ∷ sets (alu r32 or R10 R11) 0b010010 0b011010
    ∷ sets (alu r32 and R10 R11) 0b000010 0b001010
    ∷ sets (alu r32 sub R10 R11) 0b101010 0b101010
    ∷ sets (alu r32 xor R10 R11) 0b000000 0b001000
    ∷ sets (alu r32 cmp R10 R11) 0b101010 0b101010
    ∷ sets (alu_imm32 add R10 0xFFFFFFFF) 0b111010 0b111010
    ∷ sets (alu_imm32 cmp R10 0x80000000) 0b000000 0b000000
    ∷ sets (alu_imm8 sub R10 0x80) 0b110010 0b110010
    ∷ sets (alu_imm8 and R10 0x7F) 0b000000 0b001000
    ∷ sets (shift_cl r64 shl R10) 0b110000 0b111001
    ∷ sets (shift_cl r64 shr R10) 0b110000 0b111001
    ∷ sets (shift_cl r64 sar R10) 0b110010 0b111011
    ∷ sets (shift_cl r32 shl R10) 0b100001 0b101001
    ∷ sets (shift_cl r32 shr R10) 0b110001 0b111001
    ∷ sets (shift_cl r32 sar R10) 0b110010 0b111010
    ∷ sets (shift_imm8 r64 shl R10 31) 0b110010 0b111011
    ∷ sets (shift_imm8 r64 shr R10 31) 0b010000 0b011001
    ∷ sets (shift_imm8 r64 sar R10 31) 0b010010 0b011011
    ∷ sets (shift_imm8 r32 shl R10 31) 0b010010 0b011011
    ∷ sets (shift_imm8 r32 shr R10 31) 0b000000 0b001001
    ∷ sets (shift_imm8 r32 sar R10 31) 0b010010 0b011011
    ∷ sets (imul r64 R10 R11) 0b100001 0b111111
    ∷ sets (imul r32 R10 R11) 0b000000 0b011110
    ∷ sets (imul r64 R11 R12) 0b000000 0b011110
    ∷ sets (imul r64 R12 R11) 0b000000 0b011110
    ∷ sets (mul_div r64 umul R10) 0b100001 0b111111
    ∷ sets (mul_div r64 umul R11) 0b000000 0b011110
    ∷ sets (mul_div r32 umul R10) 0b100001 0b111111
    ∷ sets (mul_div r32 umul R12) 0b000000 0b011110
    ∷ sets (mul_div r64 smul R10) 0b000000 0b011110
    ∷ sets (mul_div r32 smul R10) 0b100001 0b111111
    ∷ sets (mul_div r32 smul R11) 0b000000 0b011110
    ∷ sets (mul_div r64 udiv R11) 0b000000 0b111111
    ∷ sets (mul_div r32 udiv R12) 0b000000 0b111111
    ∷ sets (mul_div r64 sdiv R10) 0b000000 0b111111
    ∷ sets (mul_div r32 sdiv R11) 0b000000 0b111111 ∷ []

vectors_pass : pass vectors ≡ true
unfolding
    exec alu_flags add_flags sub_flags logic_flags shift_flags imul_flags shifted_out shift_overflow shifted even_ones ones sext nth vectors
    as_signed as_bits umul_flags smul_flags
vectors_pass = refl

-- 2. Flags that are left, shifts by a count that is 0 at the operand size among them, and jumps, taken and not taken

abbrev keeps : List Instr → Bool
keeps [] = true
keeps (i ∷ is) = (eqb (flags_after on off i) 0b111111 && eqb (flags_after off on i) 0b000000) && keeps is

keeping : List Instr
keeping =
    push RAX ∷ pop R10 ∷ mov R10 R11 ∷ mov_imm64 R10 7 ∷ load R10 RBX 8 ∷ store RBX 8 R10 ∷ movsxd R10 R11 ∷ setcc_al B ∷ movzx R10 RAX
    ∷ cmov B R10 R11 ∷ cmov AE R10 R11 ∷ call_rax ∷ ret ∷ shift_imm8 r64 shl R10 64 ∷ shift_imm8 r32 sar R10 32 ∷ cqo r64 ∷ cqo r32
    ∷ jcc B 8 ∷ jcc AE 8 ∷ jcc E 8 ∷ jcc NE 8 ∷ jcc L 8 ∷ jcc GE 8 ∷ []

keeping_keeps : keeps keeping ≡ true
unfolding exec shift_flags sext holds nth keeping
keeping_keeps = refl
