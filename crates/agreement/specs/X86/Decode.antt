-- What a reader of the SDM makes of bytes: an optional REX prefix, the opcode, ModRM, SIB, displacement, immediate.
-- Intel SDM volume 2, "Instruction Format", "REX Prefixes", "ModR/M and SIB Bytes" and the page of each mnemonic.
-- It uses no definition of Encode. Of several encodings of an instruction (an idle REX or SIB byte, the other direction of
-- MOV, an 8-bit displacement) it takes the one that the encoder writes; all else is not decoded: no next state.
-- Of the jumps (7x cb) it takes those forward: a displacement of 128 or more is negative.
use Rattle.std.specs.Prelude.{Bool, true, false, not, ◌&&◌, List, [], ◌∷◌, ℕ, zero, suc, ◌+◌, ◌*◌, ◌/◌, ◌%◌, ◌<◌, ltb, eqb, Option, None, Some}
use Rattle.agreement.specs.X86.Form.{Width, Alu, Shift, MulDiv, Cc, Instr}
use Rattle.agreement.specs.X86.Form.Width.{r32, r64}
use Rattle.agreement.specs.X86.Form.Alu.{add, or, and, sub, xor, cmp}
use Rattle.agreement.specs.X86.Form.Shift.{shl, shr, sar}
use Rattle.agreement.specs.X86.Form.MulDiv.{umul, smul, udiv, sdiv}
use Rattle.agreement.specs.X86.Form.Cc.{B, AE, E, NE, L, GE}
use Rattle.agreement.specs.X86.Form.Instr.{push, pop, mov, mov_imm64, load, store, alu, alu_imm32, alu_imm8, shift_cl, shift_imm8, imul}
use Rattle.agreement.specs.X86.Form.Instr.{movsxd, setcc_al, movzx, cmov, mul_div, cqo, jcc, call_rax, ret}

-- an operand named by ModRM.rm: a register, or memory at a base register plus a displacement
pub data Operand : Type 0 where
  reg : ℕ → Operand
  mem : ℕ → ℕ → Operand

-- the instruction, and the bytes behind it
abbrev pub Answer : Type 0
Answer = Option (Instr × List ℕ)

unfoldable pub pick : Bool → Answer → Answer → Answer
pick true x y = x
pick false x y = y

unfoldable pub only : Bool → Answer → Answer
only true x = x
only false x = None

-- an immediate or a displacement of n bytes, the least significant first
unfoldable pub imm : ℕ → List ℕ → (ℕ → List ℕ → Answer) → Answer
imm zero bs k = k 0 bs
imm (suc n) [] k = None
imm (suc n) (b ∷ bs) k = imm n bs (λ v r. k (b + 256 * v) r)

-- the SIB byte that follows rm 100: scale 00, index 100 (none), base 100
unfoldable pub sib : ℕ → List ℕ → (Operand → List ℕ → Answer) → Answer
sib b [] k = None
sib b (s ∷ r) k = only (eqb s 0x24) (imm 4 r (λ d r. k (mem (8 * b + 4) d) r))

-- mod 10: a base register, with REX.B = b, and disp32
unfoldable pub memory : ℕ → ℕ → List ℕ → (Operand → List ℕ → Answer) → Answer
memory b rm bs k = pick (eqb rm 4) (sib b bs k) (imm 4 bs (λ d r. k (mem (8 * b + rm) d) r))

-- ModRM: mod in bits 7 and 6, reg in 5 to 3 (extended by REX.R = r), rm in 2 to 0; mod 11 or 10 only
unfoldable pub modrm : ℕ → ℕ → List ℕ → (Operand → ℕ → List ℕ → Answer) → Answer
modrm r b [] k = None
modrm r b (m ∷ bs) k =
    pick (eqb (m / 64) 3) (k (reg (8 * b + m % 8)) (8 * r + m / 8 % 8) bs)
    (only (eqb (m / 64) 2) (memory b (m % 8) bs (λ o. k o (8 * r + m / 8 % 8))))

-- the operand size by REX.W
unfoldable pub width_of : ℕ → Width
width_of w = elim (eqb w 1) [ true ↦ r64 | false ↦ r32 ]

unfoldable pub alu_of : ℕ → (Alu → Answer) → Answer
alu_of n k =
    pick (eqb n 0) (k add) (pick (eqb n 1) (k or) (pick (eqb n 4) (k and) (
    pick (eqb n 5) (k sub) (pick (eqb n 6) (k xor) (only (eqb n 7) (k cmp))))))

unfoldable pub shift_of : ℕ → (Shift → Answer) → Answer
shift_of n k = pick (eqb n 4) (k shl) (pick (eqb n 5) (k shr) (only (eqb n 7) (k sar)))

unfoldable pub mul_div_of : ℕ → (MulDiv → Answer) → Answer
mul_div_of n k = pick (eqb n 4) (k umul) (pick (eqb n 5) (k smul) (pick (eqb n 6) (k udiv) (only (eqb n 7) (k sdiv))))

unfoldable pub cc_of : ℕ → (Cc → Answer) → Answer
cc_of n k =
    pick (eqb n 0x2) (k B) (pick (eqb n 0x3) (k AE) (pick (eqb n 0x4) (k E) (
    pick (eqb n 0x5) (k NE) (pick (eqb n 0xC) (k L) (only (eqb n 0xD) (k GE))))))

-- only a register operand is a form here
unfoldable pub on_reg : Operand → (ℕ → Answer) → Answer
on_reg (reg d) k = k d
on_reg (mem b d) k = None

-- 89 /r: MOV r/m64, r64
unfoldable pub moved : Operand → ℕ → List ℕ → Answer
moved (reg d) g rest = Some (mov d g, rest)
moved (mem b o) g rest = Some (store b o g, rest)

-- 8B /r: MOV r64, r/m64, from memory
unfoldable pub loaded : Operand → ℕ → List ℕ → Answer
loaded (reg d) g rest = None
loaded (mem b o) g rest = Some (load g b o, rest)

-- the opcodes of two bytes, 0F o; w r b are the bits W, R and B of REX, 0 where it is absent
unfoldable pub opcode_0f : ℕ → ℕ → ℕ → List ℕ → Answer
opcode_0f w r b [] = None
opcode_0f w r b (o ∷ bs) =
    pick (eqb o 0xAF) (modrm r b bs (λ p g rest. on_reg p (λ s. Some (imul (width_of w) g s, rest)))) (
    pick (eqb o 0xB6) (only (eqb w 1) (modrm r b bs (λ p g rest. on_reg p (λ s. Some (movzx g s, rest))))) (
    pick (eqb (o / 16) 4) (only (eqb w 1) (cc_of (o % 16) (λ c.
    modrm r b bs (λ p g rest. on_reg p (λ s. Some (cmov c g s, rest)))))) (
    only (eqb (o / 16) 9) (only (eqb (4 * w + 2 * r + b) 0) (cc_of (o % 16) (λ c.
    modrm 0 0 bs (λ p g rest. on_reg p (λ s. only (eqb (g + s) 0) (Some (setcc_al c, rest))))))))))

-- the opcodes of one byte
unfoldable pub opcode1 : ℕ → ℕ → ℕ → List ℕ → Answer
opcode1 w r b [] = None
opcode1 w r b (o ∷ bs) =
    pick (eqb (o / 8) 10) (only (eqb (2 * w + r) 0) (Some (push (8 * b + o % 8), bs))) (
    pick (eqb (o / 8) 11) (only (eqb (2 * w + r) 0) (Some (pop (8 * b + o % 8), bs))) (
    pick (eqb (o / 8) 23) (only (eqb (2 * w + r) 2) (imm 8 bs (λ v rest. Some (mov_imm64 (8 * b + o % 8) v, rest)))) (
    pick (ltb o 64 && eqb (o % 8) 1) (alu_of (o / 8) (λ op.
    modrm r b bs (λ p g rest. on_reg p (λ d. Some (alu (width_of w) op d g, rest))))) (
    pick (eqb o 0x89) (only (eqb w 1) (modrm r b bs moved)) (
    pick (eqb o 0x8B) (only (eqb w 1) (modrm r b bs loaded)) (
    pick (eqb o 0x81) (only (eqb (2 * w + r) 2) (modrm 0 b bs (λ p g rest. on_reg p (λ d. alu_of g (λ op.
    imm 4 rest (λ v rest. Some (alu_imm32 op d v, rest))))))) (
    pick (eqb o 0x83) (only (eqb (2 * w + r) 2) (modrm 0 b bs (λ p g rest. on_reg p (λ d. alu_of g (λ op.
    imm 1 rest (λ v rest. Some (alu_imm8 op d v, rest))))))) (
    pick (eqb o 0xD3) (only (eqb r 0) (modrm 0 b bs (λ p g rest. on_reg p (λ d. shift_of g (λ op.
    Some (shift_cl (width_of w) op d, rest)))))) (
    pick (eqb o 0xC1) (only (eqb r 0) (modrm 0 b bs (λ p g rest. on_reg p (λ d. shift_of g (λ op.
    imm 1 rest (λ v rest. Some (shift_imm8 (width_of w) op d v, rest))))))) (
    pick (eqb o 0x63) (only (eqb w 1) (modrm r b bs (λ p g rest. on_reg p (λ s. Some (movsxd g s, rest))))) (
    pick (eqb o 0x0F) (opcode_0f w r b bs) (
    pick (eqb o 0xFF) (only (eqb (4 * w + 2 * r + b) 0) (modrm 0 0 bs (λ p g rest. on_reg p (λ d.
    only (eqb (16 * g + d) 32) (Some (call_rax, rest)))))) (
    pick (eqb o 0xF7) (only (eqb r 0) (modrm 0 b bs (λ p g rest. on_reg p (λ d. mul_div_of g (λ op.
    Some (mul_div (width_of w) op d, rest)))))) (
    pick (eqb o 0x99) (only (eqb (2 * r + b) 0) (Some (cqo (width_of w), bs))) (
    pick (eqb (o / 16) 7) (only (eqb (4 * w + 2 * r + b) 0) (cc_of (o % 16) (λ c.
    imm 1 bs (λ d rest. only (ltb d 128) (Some (jcc c d, rest)))))) (
    only (eqb o 0xC3) (only (eqb (4 * w + 2 * r + b) 0) (Some (ret, bs)))))))))))))))))))

-- a REX prefix is 0100WRXB; X = 0, since no form has an index register, and not the bare 0x40
unfoldable pub decode : List ℕ → Answer
decode [] = None
decode (c ∷ bs) =
    pick (eqb (c / 16) 4)
    (only (not (eqb c 0x40)) (only (eqb (c / 2 % 2) 0) (opcode1 (c / 8 % 2) (c / 4 % 2) (c % 2) bs)))
    (opcode1 0 0 0 (c ∷ bs))

unfoldable pub Bytes : List ℕ → Type 0
Bytes [] = Unit
Bytes (b ∷ bs) = (b < 256) × Bytes bs
