-- The laws of numbers, each taken at its bounds: the least and great widths, the greatest number, the least and greatest count of a shift,
-- a divisor of one and of minus one. A law that asks for more, or says less, does not serve here.
use Rattle.std.proofs.Common.{◌≡◌, ◌≢◌, refl, ltb, eqb, ◌+◌, ◌-◌, ◌*◌, ◌^◌, ◌<◌, ℕ, arith}
use Rattle.std.specs.Prelude.{ℤ, nat_abs, ◌+ℤ◌, ◌*ℤ◌}
use Rattle.std.proofs.Math.IntN.{ℤ.pos, ℤ.negsuc}
use Rattle.std.specs.Int.Signed.{lt_z, non_neg}
use Rattle.agreement.specs.Riscv.Immediates as Manual
use Rattle.agreement.specs.Riscv.Instruction.{bits_of, overflows, quotient, quotient_u, remainder, remainder_u, shift_right_arithmetic, signed, upper_half}
use Rattle.agreement.specs.Translation.Decode32 as Decode32
use Rattle.agreement.specs.X86.Flags.{holds, sext, shifted, sub_flags}
use Rattle.agreement.specs.X86.Form.{Cc.B, Cc.E, Cc.L, Shift.sar}
use Rattle.agreement.specs.Laws.{BitsOf, ComparesByFlags, DivideTowardZero, DivideUnsigned, Divides, DividesU, IntegersHaveBits}
use Rattle.agreement.specs.Laws.{ShiftsArithmetic, SignExtends, SignExtendsByShifts, StandForIntegers, StandsFor, UpperHalves}
use Rattle.agreement.proofs.Laws.Compare.{compares_by_flags}
use Rattle.agreement.proofs.Laws.Integers.{divide_toward_zero, divide_unsigned, integers_have_bits, stand_for_integers, upper_halves}
use Rattle.agreement.proofs.Laws.Width.{shifts_arithmetic, sign_extends, sign_extends_by_shifts}

-- 1. Sign extension: of one bit, of 64, and of a hundred, where nothing is left to be extended

extends_1 : Manual.sign_extend 1 1 ≡ sext 1 64 1
unfolding SignExtends
extends_1 = sign_extends 0 1 (omega arith)

extends_64 : Manual.sign_extend 64 (2 ^ 64 - 1) ≡ sext 64 64 (2 ^ 64 - 1)
unfolding SignExtends
extends_64 = sign_extends 63 (2 ^ 64 - 1) (omega arith)

extends_100 : Manual.sign_extend 100 (2 ^ 100 - 1) ≡ sext 100 64 (2 ^ 100 - 1)
unfolding SignExtends
extends_100 = sign_extends 99 (2 ^ 100 - 1) (omega arith)

by_shifts_1 : Decode32.sign_extend 1 1 ≡ Manual.sign_extend 1 1
unfolding SignExtendsByShifts
by_shifts_1 = sign_extends_by_shifts 0 1 (omega arith) (omega arith)

by_shifts_64 : Decode32.sign_extend 64 (2 ^ 64 - 1) ≡ Manual.sign_extend 64 (2 ^ 64 - 1)
unfolding SignExtendsByShifts
by_shifts_64 = sign_extends_by_shifts 63 (2 ^ 64 - 1) (omega arith) (omega arith)

-- 2. Arithmetic shifts: by nothing, and by the whole width

shifts_1 : shift_right_arithmetic 1 1 1 ≡ shifted 1 sar 1 1
unfolding ShiftsArithmetic
shifts_1 = shifts_arithmetic 0 1 1 (omega arith) (omega arith)

shifts_by_0 : shift_right_arithmetic 64 (2 ^ 64 - 1) 0 ≡ shifted 64 sar (2 ^ 64 - 1) 0
unfolding ShiftsArithmetic
shifts_by_0 = shifts_arithmetic 63 (2 ^ 64 - 1) 0 (omega arith) (omega arith)

shifts_by_100 : shift_right_arithmetic 100 (2 ^ 100 - 1) 100 ≡ shifted 100 sar (2 ^ 100 - 1) 100
unfolding ShiftsArithmetic
shifts_by_100 = shifts_arithmetic 99 (2 ^ 100 - 1) 100 (omega arith) (omega arith)

-- 3. Comparisons: of the greatest number with itself, with the least, and of single bits

record Compared (k a b : ℕ) : Type 0 where
  signed_order : holds L (sub_flags k a b) ≡ lt_z (signed k a) (signed k b)
  order : holds B (sub_flags k a b) ≡ ltb a b
  equality : holds E (sub_flags k a b) ≡ eqb a b

compares_1 : Compared 1 1 0
unfolding ComparesByFlags
compares_1 = let h = compares_by_flags 0 1 0 (omega arith) (omega arith) in record { signed_order = h.0; order = h.1; equality = h.2 }

compares_64 : Compared 64 (2 ^ 64 - 1) (2 ^ 64 - 1)
unfolding ComparesByFlags
compares_64 =
    let h = compares_by_flags 63 (2 ^ 64 - 1) (2 ^ 64 - 1) (omega arith) (omega arith) in
    record { signed_order = h.0; order = h.1; equality = h.2 }

compares_100 : Compared 100 (2 ^ 99) (2 ^ 99 - 1)
unfolding ComparesByFlags
compares_100 =
    let h = compares_by_flags 99 (2 ^ 99) (2 ^ 99 - 1) (omega arith) (omega arith) in
    record { signed_order = h.0; order = h.1; equality = h.2 }

-- 4. Numbers and integers

stands_low : signed 100 (2 ^ 99 - 1) ≡ pos (2 ^ 99 - 1)
unfolding StandForIntegers
stands_low = let h : StandsFor 99 (2 ^ 99 - 1) = stand_for_integers 99 (2 ^ 99 - 1) (omega arith) in h.low (omega arith)

stands_high : signed 100 (2 ^ 99) +ℤ pos (2 ^ 100) ≡ pos (2 ^ 99)
unfolding StandForIntegers
stands_high = let h : StandsFor 99 (2 ^ 99) = stand_for_integers 99 (2 ^ 99) (omega arith) in h.high (omega arith)

stands_1 : signed 1 1 +ℤ pos 2 ≡ pos 1
unfolding StandForIntegers
stands_1 = let h : StandsFor 0 1 = stand_for_integers 0 1 (omega arith) in h.high (omega arith)

-- what the bits of an integer are is left open: so is that they are the only ones
record Bits (n b : ℕ) (z : ℤ) : Type 0 where
  below : b < 2 ^ n
  times : ℤ
  apart : z ≡ pos b +ℤ times *ℤ pos (2 ^ n)

bits : (n : ℕ) (z : ℤ) → BitsOf n z → Bits n (bits_of n z) z
bits n z h = record { below = h.below; times = h.times; apart = h.apart }

bits_of_none : Bits 0 (bits_of 0 (negsuc 6)) (negsuc 6)
unfolding IntegersHaveBits
bits_of_none = bits 0 (negsuc 6) (integers_have_bits 0 (negsuc 6))

bits_of_100 : Bits 100 (bits_of 100 (negsuc (2 ^ 120))) (negsuc (2 ^ 120))
unfolding IntegersHaveBits
bits_of_100 = bits 100 (negsuc (2 ^ 120)) (integers_have_bits 100 (negsuc (2 ^ 120)))

bits_of_pos : Bits 64 (bits_of 64 (pos (2 ^ 120))) (pos (2 ^ 120))
unfolding IntegersHaveBits
bits_of_pos = bits 64 (pos (2 ^ 120)) (integers_have_bits 64 (pos (2 ^ 120)))

half_of_none : bits_of 0 (negsuc 6) ≡ upper_half 0 (negsuc 6) * 1 + bits_of 0 (negsuc 6)
unfolding UpperHalves
half_of_none = upper_halves 0 (negsuc 6)

half_of_100 : bits_of 200 (negsuc (2 ^ 120)) ≡ upper_half 100 (negsuc (2 ^ 120)) * 2 ^ 100 + bits_of 100 (negsuc (2 ^ 120))
unfolding UpperHalves
half_of_100 = upper_halves 100 (negsuc (2 ^ 120))

half_of_pos : bits_of 128 (pos (2 ^ 120)) ≡ upper_half 64 (pos (2 ^ 120)) * 2 ^ 64 + bits_of 64 (pos (2 ^ 120))
unfolding UpperHalves
half_of_pos = upper_halves 64 (pos (2 ^ 120))

-- 5. Division: the least number by one; a number by minus one; a remainder below zero; the divisor greater than the dividend

record Divided (n a b : ℕ) : Type 0 where
  whole : signed n a ≡ signed n b *ℤ signed n (quotient n a b) +ℤ signed n (remainder n a b)
  less : nat_abs (signed n (remainder n a b)) < nat_abs (signed n b)
  sign : signed n (remainder n a b) ≢ pos 0 → non_neg (signed n (remainder n a b)) ≡ non_neg (signed n a)

divided : (n a b : ℕ) → Divides n a b → Divided n a b
divided n a b h = record { whole = h.whole; less = h.less; sign = h.sign }

least_by_1 : Divided 64 (2 ^ 63) 1
unfolding DivideTowardZero overflows
least_by_1 = divided 64 (2 ^ 63) 1 (divide_toward_zero 63 (2 ^ 63) 1 (omega arith) (omega arith) (λ e. omega (arith, e)) refl)

by_minus_1 : Divided 64 (2 ^ 64 - 1) (2 ^ 64 - 1)
unfolding DivideTowardZero overflows
by_minus_1 =
    divided 64 (2 ^ 64 - 1) (2 ^ 64 - 1)
    (divide_toward_zero 63 (2 ^ 64 - 1) (2 ^ 64 - 1) (omega arith) (omega arith) (λ e. omega (arith, e)) refl)

remainder_below_0 : Divided 100 (2 ^ 100 - 7) 2
unfolding DivideTowardZero overflows
remainder_below_0 =
    divided 100 (2 ^ 100 - 7) 2 (divide_toward_zero 99 (2 ^ 100 - 7) 2 (omega arith) (omega arith) (λ e. omega (arith, e)) refl)

of_one_bit : Divided 1 0 1
unfolding DivideTowardZero overflows
of_one_bit = divided 1 0 1 (divide_toward_zero 0 0 1 (omega arith) (omega arith) (λ e. omega (arith, e)) refl)

by_greater : Divided 32 5 (2 ^ 31 - 1)
unfolding DivideTowardZero overflows
by_greater = divided 32 5 (2 ^ 31 - 1) (divide_toward_zero 31 5 (2 ^ 31 - 1) (omega arith) (omega arith) (λ e. omega (arith, e)) refl)

-- unsigned, of numbers that fit no width
record DividedU (n a b : ℕ) : Type 0 where
  whole : a ≡ b * quotient_u n a b + remainder_u n a b
  less : remainder_u n a b < b

unsigned : (n a b : ℕ) → DividesU n a b → DividedU n a b
unsigned n a b h = record { whole = h.whole; less = h.less }

unsigned_0 : DividedU 0 (2 ^ 120) 1
unfolding DivideUnsigned
unsigned_0 = unsigned 0 (2 ^ 120) 1 (divide_unsigned 0 (2 ^ 120) 1 (λ e. omega (arith, e)))

unsigned_100 : DividedU 100 7 (2 ^ 120)
unfolding DivideUnsigned
unsigned_100 = unsigned 100 7 (2 ^ 120) (divide_unsigned 100 7 (2 ^ 120) (λ e. omega (arith, e)))

positive_by_negative : Divided 64 7 (2 ^ 64 - 2)
unfolding DivideTowardZero overflows
positive_by_negative =
    divided 64 7 (2 ^ 64 - 2) (divide_toward_zero 63 7 (2 ^ 64 - 2) (omega arith) (omega arith) (λ e. omega (arith, e)) refl)
