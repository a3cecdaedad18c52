-- The fields that decode.rs takes by shift and mask are the manual's.
use Rattle.std.proofs.Common.{◌∙◌, ◌≡◌, refl, ◌%◌, ◌/◌, ◌<◌, ◌^◌, ℕ, arith, bit_and, eqb, shr-shr}
use native.Mathlib.Nat.{mod-mod}
use lib.Bits.{and_mask, or_shifted}
use lib.Pow.{field, mod-mod-pow}
use Rattle.agreement.specs.Riscv.Fields.{bits, funct3, funct6, funct7, opcode, rd, rs1, rs2, shamt5, shamt6}
use Rattle.agreement.specs.Riscv.Run.{is_long, word_of}
use Rattle.agreement.specs.Translation.Decode32 as Decode32

pub opcode_is : (w : ℕ) → Decode32.opcode w ≡ opcode w
unfolding Decode32.opcode
opcode_is w = and_mask w 7 ∙ omega arith

pub rd_is : (w : ℕ) → Decode32.rd w ≡ rd w
unfolding Decode32.rd
rd_is w = and_mask (w / 2 ^ 7) 5

pub funct3_is : (w : ℕ) → Decode32.funct3 w ≡ funct3 w
unfolding Decode32.funct3
funct3_is w = and_mask (w / 2 ^ 12) 3

pub rs1_is : (w : ℕ) → Decode32.rs1 w ≡ rs1 w
unfolding Decode32.rs1
rs1_is w = and_mask (w / 2 ^ 15) 5

pub rs2_is : (w : ℕ) → Decode32.rs2 w ≡ rs2 w
unfolding Decode32.rs2
rs2_is w = and_mask (w / 2 ^ 20) 5

pub funct7_is : (w : ℕ) → Decode32.funct7 w ≡ funct7 w
unfolding Decode32.funct7
funct7_is w = and_mask (w / 2 ^ 25) 7

imm12_is : (w : ℕ) → Decode32.imm12 w ≡ w / 2 ^ 20 % 2 ^ 12
unfolding Decode32.imm12
imm12_is w = and_mask (w / 2 ^ 20) 12

pub funct6_is : (w : ℕ) → Decode32.imm_hi w ≡ funct6 w
unfolding Decode32.imm_hi
funct6_is w = rw (imm12_is w) (and_mask (w / 2 ^ 20 % 2 ^ 12 / 2 ^ 6) 6
    ∙ rw (field (w / 2 ^ 20) 6 6, shr-shr w 20 6) (mod-mod (w / 2 ^ 26) (2 ^ 6)))

-- the same out of the manual's bits 31 to 20
pub funct6_of : (w : ℕ) → bits 31 20 w / 64 ≡ funct6 w
funct6_of w = field (w / 2 ^ 20) 6 6 ∙ rw (shr-shr w 20 6) refl

-- and out of funct7
pub funct6_in_funct7 : (w : ℕ) → funct7 w / 2 ≡ funct6 w
funct6_in_funct7 w = field (w / 2 ^ 25) 6 1 ∙ rw (shr-shr w 25 1) refl

pub shamt6_is : (w : ℕ) → Decode32.shamt w ≡ shamt6 w
unfolding Decode32.shamt
shamt6_is w = rw (imm12_is w) (and_mask (w / 2 ^ 20 % 2 ^ 12) 6 ∙ mod-mod-pow (w / 2 ^ 20) 6 6)

pub shamt5_is : (w : ℕ) → Decode32.shamt_w w ≡ shamt5 w
unfolding Decode32.shamt_w
shamt5_is w = rw (imm12_is w) (and_mask (w / 2 ^ 20 % 2 ^ 12) 5 ∙ mod-mod-pow (w / 2 ^ 20) 7 5)

-- an instruction of 16 bits, by mask and by remainder
pub long_is : (h : ℕ) → eqb (bit_and h 0x3) 0x3 ≡ is_long h
unfolding is_long
long_is h = rw (and_mask h 2)

-- a word of two halfwords, by shift and or and as a number
pub word_of_is : (h u : ℕ) → h < 65536 → Decode32.word_of h u ≡ word_of h u
unfolding Decode32.word_of
word_of_is h u l = or_shifted u 16 h l ∙ omega arith
