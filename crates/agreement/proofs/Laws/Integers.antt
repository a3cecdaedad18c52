-- Two's complement, product and division of the manual, tied to the integers.
use Rattle.std.proofs.Common.{false, true, ◌≢◌, ◌∙◌, ◌≡◌, ap, refl, sym, ◌%◌, ◌*◌, ◌+◌, ◌-◌, ◌/◌, ◌<◌, ◌^◌, ◌≤◌, suc, zero, ℕ, div-add-mod'}
use Rattle.std.proofs.Common.{div-lt_iff_lt-mul, div-one, mod-eq_of_lt, mod-lt, mul_comm, mul-pos, mul-zero, arith, ◌*ℤ◌, ◌+ℤ◌, nat_abs}
use Rattle.std.proofs.Common.{neg_ℤ, ℤ, pow-add, pow_pos}
use native.Mathlib.Decide.{dec_lt, ℕ_discrete}
use native.Mathlib.Nat.{dvd-mul_left, mod-mod_of_dvd}
use native.Mathlib.Nat.{mul-add-mod_self_right}
use lib.IntN.{neg_ℤ-+ℤ, ℤ.negsuc, ℤ.pos}
use lib.Signed.{mag, mag_rem, non_neg, quot_z, rem_z}
use Rattle.agreement.specs.Laws.{DivideTowardZero, DivideUnsigned, IntegersHaveBits, StandForIntegers}
use Rattle.agreement.specs.Laws.{UpperHalves}
use Rattle.agreement.specs.Riscv.Instruction.{bits_of, overflows, quotient, quotient_u, remainder, remainder_u, signed}
use Rattle.agreement.proofs.Laws.Signed.{bits-lt, mag-neg, mag_signed, minus_one, overflow_is, quot_fits, signed_high, signed_low}
use Rattle.agreement.proofs.Laws.Signed.{signed-minus, signed-zero}
use Rattle.agreement.proofs.Laws.Tests.{eqb_no, eqb_yes, leb_no, leb_yes}
use Rattle.agreement.proofs.Laws.Width.{half, half_is, twice}

-- 1. Natural numbers, negated

abbrev minus : ℕ → ℤ
minus n = neg_ℤ (pos n)

add-minus : (m n : ℕ) → minus m +ℤ minus n ≡ minus (m + n)
add-minus m n = sym (neg_ℤ-+ℤ (pos m) (pos n))

pos-minus : (b q : ℕ) → pos b *ℤ minus q ≡ minus (b * q)
pos-minus b zero = rw (mul-zero b)
pos-minus b (suc q) = refl

negsuc-minus : (b q : ℕ) → negsuc b *ℤ minus q ≡ pos (suc b * q)
negsuc-minus b zero = rw (mul-zero (suc b))
negsuc-minus b (suc q) = refl

abs-minus : (n : ℕ) → nat_abs (minus n) ≡ n
abs-minus zero = refl
abs-minus (suc n) = refl

pos-plus-minus : (x y : ℕ) → x < y → pos x +ℤ minus y ≡ negsuc (y - suc x)
pos-plus-minus x zero h = absurd (omega arith)
pos-plus-minus x (suc y) h = rw (leb_yes (suc x) (suc y) h)

minus-plus-pos : (x y : ℕ) → x ≤ y → minus x +ℤ pos y ≡ pos (y - x)
minus-plus-pos zero y h = ap pos (omega arith)
minus-plus-pos (suc x) y h = rw (leb_no (suc y) (suc x) (omega arith))

-- 2. The kit's division of integers

split : (a b : ℕ) → b * (a / b) + a % b ≡ a
split a b = ap (λ (x : ℕ). x + a % b) (mul_comm b (a / b)) ∙ div-add-mod' a b

whole : (x y : ℤ) → x ≡ y *ℤ quot_z x y +ℤ rem_z x y
whole (pos a) (pos b) = ap pos (sym (split a b))
whole (pos a) (negsuc b) = rw (negsuc-minus b (a / suc b)) (ap pos (sym (split a (suc b))))
whole (negsuc a) (pos b) =
    rw (pos-minus b (suc a / b)) (sym (add-minus (b * (suc a / b)) (suc a % b) ∙ ap minus (split (suc a) b)))
whole (negsuc a) (negsuc b) = sym (add-minus (suc b * (suc a / suc b)) (suc a % suc b) ∙ ap minus (split (suc a) (suc b)))

abs-pos : (y : ℤ) → y ≢ pos 0 → 0 < nat_abs y
abs-pos (pos zero) n = absurd (n refl)
abs-pos (pos (suc b)) n = omega arith
abs-pos (negsuc b) n = omega arith

less : (x y : ℤ) → y ≢ pos 0 → nat_abs (rem_z x y) < nat_abs y
less (pos a) y n = mod-lt a (abs-pos y n)
less (negsuc a) y n = rw (abs-minus (suc a % nat_abs y)) (mod-lt (suc a) (abs-pos y n))

sign : (x y : ℤ) → rem_z x y ≢ pos 0 → non_neg (rem_z x y) ≡ non_neg x
sign (pos a) y n = refl
sign (negsuc a) y n = go (suc a % nat_abs y) n
  where
    go : (r : ℕ) → minus r ≢ pos 0 → non_neg (minus r) ≡ false
    go zero n = absurd (n refl)
    go (suc r) n = refl

-- 3. Numbers of k + 1 bits and integers

pub stand_for_integers : StandForIntegers
unfolding StandForIntegers
stand_for_integers k a h = record {
  low = signed_low k a;
  high = λ l. rw (signed_high k a l) (minus-plus-pos (suc (2 ^ suc k - 1 - a)) (2 ^ suc k) (omega arith) ∙ ap pos (omega arith));
}

pub integers_have_bits : IntegersHaveBits
unfolding IntegersHaveBits bits_of
integers_have_bits n (pos a) = record {
  below = bits-lt n (pos a);
  times = pos (a / 2 ^ n);
  apart = ap pos (sym (div-add-mod' a (2 ^ n)) ∙ omega arith);
}
integers_have_bits n (negsuc a) = record {
  below = bits-lt n (negsuc a);
  times = negsuc (a / 2 ^ n);
  apart = sym (pos-plus-minus (2 ^ n - 1 - a % 2 ^ n) (suc (a / 2 ^ n) * 2 ^ n) lt ∙ ap negsuc whole_is);
}
  where
    m : a % 2 ^ n < 2 ^ n
    m = mod-lt a (pow_pos n)

    e : a / 2 ^ n * 2 ^ n + a % 2 ^ n ≡ a
    e = div-add-mod' a (2 ^ n)

    lt : 2 ^ n - 1 - a % 2 ^ n < suc (a / 2 ^ n) * 2 ^ n
    lt = omega (arith, m)

    whole_is : suc (a / 2 ^ n) * 2 ^ n - suc (2 ^ n - 1 - a % 2 ^ n) ≡ a
    whole_is = omega (arith, m, e)

-- an integer that fits is what its bits stand for
signed-bits : (k : ℕ) (z : ℤ) → mag z < 2 ^ k → signed (suc k) (bits_of (suc k) z) ≡ z
unfolding bits_of
signed-bits k (pos a) h =
    let e : a % 2 ^ suc k ≡ a = mod-eq_of_lt (omega (arith, twice k)) in
    rw e (signed_low k a h)
signed-bits k (negsuc a) h =
    let e : a % 2 ^ suc k ≡ a = mod-eq_of_lt (omega (arith, twice k)) in
    rw e (signed_high k (2 ^ suc k - 1 - a) (omega (arith, twice k)) ∙ ap negsuc (omega (arith, twice k)))

-- 4. The upper half

cut_low : (M a : ℕ) → a % (M * M) % M ≡ a % M
cut_low M a = mod-mod_of_dvd M a (dvd-mul_left M M)

cut_high : (M a : ℕ) → 0 < M → (M * M - 1 - a % (M * M)) % M ≡ M - 1 - a % M
cut_high M a l =
    let s : ℕ = a % (M * M) in
    let u : ℕ = s / M in
    let i : u < M = (div-lt_iff_lt-mul {k = M} {x = s} {y = M} l).1 (mod-lt a (mul-pos {m = M} {n = M} l l)) in
    let v : s % M < M = mod-lt s l in
    let e : u * M + s % M ≡ s = div-add-mod' s M in
    let f : (M - 1 - u) + u + 1 ≡ M = omega arith in
    let g : M * M ≡ ((M - 1 - u) + u + 1) * M = ap (λ (x : ℕ). x * M) (sym f) in
    let d : M * M - 1 - s ≡ (M - 1 - u) * M + (M - 1 - s % M) = omega arith in
    rw d (mul-add-mod_self_right (M - 1 - u) M (M - 1 - s % M) ∙ mod-eq_of_lt (omega arith) ∙ ap (λ (x : ℕ). M - 1 - x) (cut_low M a))

bits-cut : (n : ℕ) (z : ℤ) → bits_of (2 * n) z % 2 ^ n ≡ bits_of n z
unfolding bits_of
bits-cut n z = let e : 2 ^ (2 * n) ≡ 2 ^ n * 2 ^ n = squared in go z e
  where
    squared : 2 ^ (2 * n) ≡ 2 ^ n * 2 ^ n
    squared = let s : 2 * n ≡ n + n = omega arith in rw s (pow-add 2 n n)

    go : (z : ℤ) → 2 ^ (2 * n) ≡ 2 ^ n * 2 ^ n → bits_of (2 * n) z % 2 ^ n ≡ bits_of n z
    go (pos a) e = rw e (cut_low (2 ^ n) a)
    go (negsuc a) e = rw e (cut_high (2 ^ n) a (pow_pos n))

pub upper_halves : UpperHalves
unfolding UpperHalves
upper_halves n z =
    sym (ap (λ (x : ℕ). bits_of (2 * n) z / 2 ^ n * 2 ^ n + x) (sym (bits-cut n z)) ∙ div-add-mod' (bits_of (2 * n) z) (2 ^ n))

-- 5. Division

-- a quotient fits, but for the overflow
fits : (k a b : ℕ) → a < 2 ^ suc k → b < 2 ^ suc k → b ≢ 0 → overflows (suc k) a b ≡ false
    → mag (quot_z (signed (suc k) a) (signed (suc k) b)) < 2 ^ k
fits k a b h l n o = go (ℕ_discrete b (2 ^ suc k - 1))
  where
    by_minus_one : a ≢ 2 ^ k → Dec (a < 2 ^ k) → mag (quot_z (signed (suc k) a) (negsuc 0)) < 2 ^ k
    by_minus_one m (yes j) = rw (signed_low k a j) (rw (div-one a) (mag-neg a (2 ^ k) (omega arith) (omega arith)))
    by_minus_one m (no j) = rw (signed_high k a (omega arith)) (rw (div-one (suc (2 ^ suc k - 1 - a))) (omega (arith, twice k)))

    not_least : b ≡ 2 ^ suc k - 1 → a ≢ 2 ^ k
    not_least e z =
        let t : true ≡ false =
        sym (eqb_yes a (half (suc k)) (z ∙ sym (half_is k))) ∙ sym (overflow_is k a) ∙ ap (overflows (suc k) a) (sym e) ∙ o in
        let c : ◌≡◌ {A = ℕ} 0 1 = cc in
        omega arith

    go : Dec (b ≡ 2 ^ suc k - 1) → mag (quot_z (signed (suc k) a) (signed (suc k) b)) < 2 ^ k
    go (yes e) = rw (e, minus_one k) (by_minus_one (not_least e) (dec_lt a (2 ^ k)))
    go (no m) = rw (← (half_is k)) (quot_fits (half (suc k)) (signed (suc k) a) (signed (suc k) b)
        (mag_signed k a h) (signed-zero k b n) (signed-minus k b l m))

quotient_is : (k a b : ℕ) → a < 2 ^ suc k → b < 2 ^ suc k → b ≢ 0 → overflows (suc k) a b ≡ false
    → signed (suc k) (quotient (suc k) a b) ≡ quot_z (signed (suc k) a) (signed (suc k) b)
unfolding quotient
quotient_is k a b h l n o = rw (eqb_no b 0 n, o) (signed-bits k _ (fits k a b h l n o))

remainder_is : (k a b : ℕ) → a < 2 ^ suc k → b ≢ 0 → overflows (suc k) a b ≡ false
    → signed (suc k) (remainder (suc k) a b) ≡ rem_z (signed (suc k) a) (signed (suc k) b)
unfolding remainder
remainder_is k a b h n o =
    rw (eqb_no b 0 n, o) (signed-bits k _ (omega (arith, mag_rem (signed (suc k) a) (signed (suc k) b), mag_signed k a h, half_is k)))

pub divide_toward_zero : DivideTowardZero
unfolding DivideTowardZero
divide_toward_zero k a b h l n o =
    let q = quotient_is k a b h l n o in
    let r = remainder_is k a b h n o in
    record {
      whole = rw (q, r) (whole (signed (suc k) a) (signed (suc k) b));
      less = rw r (less (signed (suc k) a) (signed (suc k) b) (signed-zero k b n));
      sign = λ m. rw r (sign (signed (suc k) a) (signed (suc k) b) (rw r at m));
    }

pub divide_unsigned : DivideUnsigned
unfolding DivideUnsigned quotient_u remainder_u
divide_unsigned n a b m = record {
  whole = rw (eqb_no b 0 m) (sym (split a b));
  less = rw (eqb_no b 0 m) (mod-lt a (omega arith));
}
