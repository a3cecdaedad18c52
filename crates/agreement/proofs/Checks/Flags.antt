-- Flags, also those that no block looks at: the SDM's values as computed vectors, and the laws of a shift by 0.
-- The values are what a processor gave for the same instruction and operands, but for the flags that the SDM leaves undefined.
use Rattle.std.proofs.Common.{Bool, ◌&&◌, cond, false, true, List, [], ◌∷◌, ◌≡◌, refl, ◌*◌, ◌+◌, ◌-◌, ◌^◌, ℕ, eqb}
use Rattle.agreement.specs.X86.Execute.{mul_div_to}
use Rattle.agreement.specs.X86.Flags.{add_flags, alu_flags, as_bits, as_signed, bit_of, even_ones, imul_flags, logic_flags, ones, sext}
use Rattle.agreement.specs.X86.Flags.{shift_flags, shift_overflow, shifted, shifted_out, smul_flags, sub_flags, umul_flags}
use Rattle.agreement.specs.X86.Form.{Alu, MulDiv, RAX, Shift}
use Rattle.agreement.specs.X86.Form.Alu.{add, and, cmp, or, sub, xor}
use Rattle.agreement.specs.X86.Form.MulDiv.{sdiv, smul, udiv, umul}
use Rattle.agreement.specs.X86.Form.Shift.{sar, shl, shr}
use Rattle.agreement.specs.X86.State.{Flags, State}

-- a shift by count 0 leaves every flag
pub shift_zero : (w : ℕ) (op : Shift) (a : ℕ) (old u : Flags) → shift_flags w op a 0 old u ≡ old
unfolding shift_flags
shift_zero w op a old u = refl

-- CF PF AF ZF SF OF as one binary number
abbrev pub number : Flags → ℕ
number f = 32 * bit_of f.cf + 16 * bit_of f.pf + 8 * bit_of f.af + 4 * bit_of f.zf + 2 * bit_of f.sf + bit_of f.of

abbrev pub off : Flags
off = record { cf = false; pf = false; af = false; zf = false; sf = false; of = false }

abbrev pub on : Flags
on = record { cf = true; pf = true; af = true; zf = true; sf = true; of = true }

-- an operation of w bits on a and b, and its flags where what it leaves undefined is 0 and where it is 1
data Vector : Type 0 where
  by_alu : (w : ℕ) (op : Alu) (a b low high : ℕ) → Vector
  by_shift : (w : ℕ) (op : Shift) (a c low high : ℕ) → Vector
  by_imul : (w a b low high : ℕ) → Vector
  by_mul_div : (w : ℕ) (op : MulDiv) (a b low high : ℕ) → Vector

-- before MUL, IMUL, DIV and IDIV of one operand: a in RAX, RDX 0
abbrev holding : ℕ → Flags → State
holding a f = record { regs = λ k. cond (eqb k RAX) a 0; flags = f; rip = 0; mem = λ x. 0 }

-- the flags before a shift, a product or a division are the opposite of what it leaves undefined
abbrev passes : Vector → Bool
passes (by_alu w op a b low high) = eqb (number (alu_flags w op a b off)) low && eqb (number (alu_flags w op a b on)) high
passes (by_shift w op a c low high) = eqb (number (shift_flags w op a c on off)) low && eqb (number (shift_flags w op a c off on)) high
passes (by_imul w a b low high) = eqb (number (imul_flags w a b off)) low && eqb (number (imul_flags w a b on)) high
passes (by_mul_div w op a b low high) =
    eqb (number (mul_div_to (λ s. off) op w b (holding a on)).flags) low
    && eqb (number (mul_div_to (λ s. on) op w b (holding a off)).flags) high

abbrev pass : List Vector → Bool
pass [] = true
pass (v ∷ vs) = passes v && pass vs

vectors : List Vector
vectors =
    by_alu 64 add (2 ^ 64 - 1) 1 0b111100 0b111100
    ∷ by_alu 64 add (2 ^ 63 - 1) 1 0b011011 0b011011
    ∷ by_alu 64 add 7 8 0b010000 0b010000
    ∷ by_alu 64 add (2 ^ 64 - 1) 0 0b010010 0b010010
    ∷ by_alu 64 add 15 1 0b001000 0b001000
    ∷ by_alu 64 sub 0 1 0b111010 0b111010
    ∷ by_alu 64 sub 5 5 0b010100 0b010100
    ∷ by_alu 64 sub 16 1 0b011000 0b011000
    ∷ by_alu 64 cmp (2 ^ 63) 1 0b011001 0b011001
    ∷ by_alu 64 and 6 3 0b000000 0b001000
    ∷ by_alu 64 or 0 0 0b010100 0b011100
    ∷ by_alu 64 or 0x100 1 0b000000 0b001000
    ∷ by_alu 64 xor (2 ^ 63) 1 0b000010 0b001010
    ∷ by_alu 32 add (2 ^ 32 - 1) 1 0b111100 0b111100
    ∷ by_alu 32 add (2 ^ 31 - 1) 1 0b011011 0b011011
    ∷ by_alu 32 sub 0 1 0b111010 0b111010
    ∷ by_alu 32 cmp (2 ^ 31) 1 0b011001 0b011001
    ∷ by_alu 32 xor (2 ^ 31) 1 0b000010 0b001010
    ∷ by_shift 64 shl (2 ^ 63) 1 0b110101 0b111101
    ∷ by_shift 64 shl (3 * 2 ^ 62) 2 0b110100 0b111101
    ∷ by_shift 64 shl (2 ^ 62) 1 0b010011 0b011011
    ∷ by_shift 64 shl 1 2 0b000000 0b001001
    ∷ by_shift 64 shr 3 1 0b100000 0b101000
    ∷ by_shift 64 shr (2 ^ 63) 1 0b010001 0b011001
    ∷ by_shift 64 shr 5 2 0b000000 0b001001
    ∷ by_shift 64 sar (2 ^ 64 - 1) 63 0b110010 0b111011
    ∷ by_shift 64 sar 2 1 0b000000 0b001000
    ∷ by_shift 64 sar (2 ^ 63 + 1) 1 0b110010 0b111010
    ∷ by_shift 64 sar (2 ^ 64 - 3) 2 0b010010 0b011011
    ∷ by_shift 32 shl (2 ^ 31) 1 0b110101 0b111101
    ∷ by_shift 32 shl (3 * 2 ^ 30) 2 0b110100 0b111101
    ∷ by_shift 32 shr (2 ^ 31) 1 0b010001 0b011001
    ∷ by_shift 32 sar (2 ^ 31 + 1) 1 0b110010 0b111010
    ∷ by_imul 64 (2 ^ 32) (2 ^ 32) 0b100001 0b111111
    ∷ by_imul 64 (2 ^ 64 - 1) (2 ^ 64 - 1) 0b000000 0b011110
    ∷ by_imul 64 (2 ^ 64 - 3) 5 0b000000 0b011110
    ∷ by_imul 64 (2 ^ 32) (2 ^ 31) 0b100001 0b111111
    ∷ by_imul 32 (2 ^ 16) (2 ^ 16) 0b100001 0b111111
    ∷ by_imul 32 (2 ^ 32 - 3) 5 0b000000 0b011110
    ∷ by_imul 32 (2 ^ 16) (2 ^ 15) 0b100001 0b111111
    ∷ by_mul_div 64 umul (2 ^ 32) (2 ^ 32) 0b100001 0b111111
    ∷ by_mul_div 64 umul (2 ^ 32 - 1) (2 ^ 32 + 1) 0b000000 0b011110
    ∷ by_mul_div 64 umul (2 ^ 64 - 1) 1 0b000000 0b011110
    ∷ by_mul_div 64 umul (2 ^ 64 - 1) (2 ^ 64 - 1) 0b100001 0b111111
    ∷ by_mul_div 64 umul (2 ^ 63) 2 0b100001 0b111111
    ∷ by_mul_div 64 umul 0 (2 ^ 64 - 1) 0b000000 0b011110
    ∷ by_mul_div 32 umul (2 ^ 16) (2 ^ 16) 0b100001 0b111111
    ∷ by_mul_div 32 umul (2 ^ 16 - 1) (2 ^ 16 + 1) 0b000000 0b011110
    ∷ by_mul_div 32 umul (2 ^ 32 - 1) 1 0b000000 0b011110
    ∷ by_mul_div 32 umul (2 ^ 32 - 1) (2 ^ 32 - 1) 0b100001 0b111111
    ∷ by_mul_div 64 smul (2 ^ 62) 2 0b100001 0b111111
    ∷ by_mul_div 64 smul (2 ^ 63 - 1) 1 0b000000 0b011110
    ∷ by_mul_div 64 smul (2 ^ 62) (2 ^ 64 - 2) 0b000000 0b011110
    ∷ by_mul_div 64 smul 0xD555555555555555 3 0b100001 0b111111
    ∷ by_mul_div 64 smul (2 ^ 63) (2 ^ 64 - 1) 0b100001 0b111111
    ∷ by_mul_div 64 smul (2 ^ 64 - 1) (2 ^ 64 - 1) 0b000000 0b011110
    ∷ by_mul_div 64 smul (2 ^ 63) (2 ^ 63) 0b100001 0b111111
    ∷ by_mul_div 32 smul (2 ^ 30) 2 0b100001 0b111111
    ∷ by_mul_div 32 smul (2 ^ 30) (2 ^ 32 - 2) 0b000000 0b011110
    ∷ by_mul_div 32 smul 0xD5555555 3 0b100001 0b111111
    ∷ by_mul_div 32 smul (2 ^ 31) (2 ^ 32 - 1) 0b100001 0b111111
    ∷ by_mul_div 32 smul (2 ^ 32 - 1) (2 ^ 32 - 1) 0b000000 0b011110
    ∷ by_mul_div 64 udiv 7 2 0b000000 0b111111
    ∷ by_mul_div 32 udiv 7 2 0b000000 0b111111
    ∷ by_mul_div 64 sdiv (2 ^ 64 - 7) 2 0b000000 0b111111
    ∷ by_mul_div 32 sdiv 7 (2 ^ 32 - 2) 0b000000 0b111111 ∷ []

vectors_pass : pass vectors ≡ true
unfolding vectors alu_flags add_flags sub_flags logic_flags shift_flags imul_flags shifted_out shift_overflow shifted even_ones ones sext
    as_signed as_bits umul_flags smul_flags
vectors_pass = refl
