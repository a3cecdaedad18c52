-- Integers and their bits: products, quotients and remainders, as M and the host have them.
use Rattle.std.proofs.Common.{Bool, ◌&&◌, cond, false, true, ◌≢◌, ◌∙◌, ◌≡◌, ap, refl, sym, ◌%◌, ◌*◌, ◌+◌, ◌-◌, ◌/◌, ◌<◌, ◌^◌, ◌≤◌, suc}
use Rattle.std.proofs.Common.{zero, ℕ, add-mul, div-add-mod', div-le_self, div-lt_iff_lt-mul, div-one, le-add_right, le_trans}
use Rattle.std.proofs.Common.{lt_of_le_of_lt, lt_of_lt_of_le, mod-eq_of_lt, mod-lt, mul_comm, mul-le-mul_left, mul-le-mul_right}
use Rattle.std.proofs.Common.{mul-lt-mul_of_pos_right, mul-pos, mul-zero, zero-lt-suc, zero-mul, arith, eqb, ◌*ℤ◌, neg_ℤ, ℤ, pow-add}
use Rattle.std.proofs.Common.{pow_mono, pow_pos, shr_lt}
use native.Mathlib.Decide.{dec_lt, ℕ_discrete}
use native.Mathlib.Nat.{div-lt_self}
use native.Mathlib.Nat.{mod-le, mod-one, mod_self, mul-add-mod_self_right}
use native.Mathlib.Nat.{zero-mod}
use lib.IntN.{pos-ne-negsuc, ℤ.negsuc, ℤ.pos}
use lib.Pow.{le_ones, ones_lt, suc_ones}
use lib.Signed.{mag, quot_z, rem_z}
use Rattle.agreement.specs.Riscv.Instruction.{bits_of, overflows, quotient, quotient_u, remainder, remainder_u, signed, upper_half}
use Rattle.agreement.specs.X86.Flags.{as_bits, as_signed, negative, shifted}
use Rattle.agreement.specs.X86.Form.Shift.{sar}
use Rattle.agreement.proofs.Laws.Tests.{eqb_no, eqb_yes, leb_no, leb_yes}
use Rattle.agreement.proofs.Laws.Width.{floor, half, half_is, twice}

-- 1. Manual and host read and write integers alike

pub as_signed_lem : (w a : ℕ) → as_signed w a ≡ signed w a
unfolding as_signed signed
as_signed_lem w a = refl

pub as_bits_lem : (w : ℕ) (z : ℤ) → as_bits w z ≡ bits_of w z
unfolding as_bits bits_of
as_bits_lem w (pos a) = refl
as_bits_lem w (negsuc a) = refl

-- 2. Bits

pub bits-lt : (w : ℕ) (z : ℤ) → bits_of w z < 2 ^ w
unfolding bits_of
bits-lt w (pos a) = mod-lt a (pow_pos w)
bits-lt w (negsuc a) = omega (arith, pow_pos w)

pub bits_pos : (w a : ℕ) → bits_of w (pos a) ≡ a % 2 ^ w
unfolding bits_of
bits_pos w a = refl

-- of a negative integer
pub bits-neg : (w p : ℕ) → p ≤ 2 ^ w → bits_of w (neg_ℤ (pos p)) ≡ (2 ^ w - p) % 2 ^ w
unfolding bits_of
bits-neg w zero h =
    let z : 2 ^ w - 0 ≡ 2 ^ w = omega arith in
    rw z (mod-eq_of_lt (pow_pos w) ∙ sym (mod_self (2 ^ w)))
bits-neg w (suc k) h =
    let e : k % 2 ^ w ≡ k = mod-eq_of_lt (omega arith) in
    let f : (2 ^ w - suc k) % 2 ^ w ≡ 2 ^ w - suc k = mod-eq_of_lt (omega (arith, pow_pos w)) in
    rw (e, f) (omega arith)

-- 3. The upper half of a product. (omega reads no number as great as 2^128: bounds on it are library lemmas.)

pub upper_lt : (z : ℤ) → upper_half 64 z < 2 ^ 64
upper_lt z = shr_lt 64 64 (bits-lt 128 z)

-- a product with b is below 2^64 times b, and that is not above 2^128
times_le : (b : ℕ) → b < 2 ^ 64 → 2 ^ 64 * b ≤ 2 ^ 128
times_le b k = mul-le-mul_left {m = b} {n = 2 ^ 64} (2 ^ 64) (omega arith)

product_lt : (a b : ℕ) → a < 2 ^ 64 → b < 2 ^ 64 → a * b < 2 ^ 128
product_lt a b h k =
    lt_of_le_of_lt (mul-le-mul_left {m = b} {n = 2 ^ 64} a (omega arith))
    (mul-lt-mul_of_pos_right {m = a} {n = 2 ^ 64} {k = 2 ^ 64} h (omega arith))

pub mulhu_is : (a b : ℕ) → a < 2 ^ 64 → b < 2 ^ 64 → a * b / 2 ^ 64 ≡ upper_half 64 (pos a *ℤ pos b)
unfolding bits_of
mulhu_is a b h k = let e : a * b % 2 ^ 128 ≡ a * b = mod-eq_of_lt (product_lt a b h k) in rw e

pub mulh_is : (a b : ℕ) → as_bits (2 * 64) (as_signed 64 a *ℤ as_signed 64 b) / 2 ^ 64 ≡ upper_half 64 (signed 64 a *ℤ signed 64 b)
mulh_is a b = rw (as_signed_lem 64 a, as_signed_lem 64 b) (rw (as_bits_lem 128 (signed 64 a *ℤ signed 64 b)))

-- the product with -1
pub opposite : (m b : ℕ) → 0 < b → b ≤ m → m * b % suc m ≡ suc m - b
opposite m zero h k = absurd (omega arith)
opposite m (suc c) h k =
    let e : m * suc c ≡ c * suc m + (suc m - suc c) = omega arith in
    rw e (mul-add-mod_self_right c (suc m) (suc m - suc c) ∙ mod-eq_of_lt (omega arith))

under : (K M p : ℕ) → 0 < M → 0 < p → p ≤ K * M → (p - 1) / M < K
under K M p l h k = (div-lt_iff_lt-mul {k = M} {x = p - 1} {y = K} l).1 (omega arith)

-- p taken off K times M
borrow : (K M p : ℕ) → 0 < M → 0 < p → p ≤ K * M → (K * M - p) / M ≡ K - 1 - (p - 1) / M
borrow K M p l h k =
    let q : ℕ = (p - 1) / M in
    let r : ℕ = (p - 1) % M in
    let e : q * M + r ≡ p - 1 = div-add-mod' (p - 1) M in
    let lt : q < K = under K M p l h k in
    let f : K - 1 - q + q + 1 ≡ K = omega arith in
    let g : K * M - p ≡ (K - 1 - q + q + 1) * M - 1 - (q * M + r) = rw f (omega arith) in
    rw g (floor (K - 1 - q) q M r (mod-lt (p - 1) l))

-- a product whose first factor is negative, in unsigned numbers q and p apart; M is 2^64
below : (m b p q : ℕ) → b ≤ m → 0 < p → q + p ≡ suc m * b
    → (m * b % suc m % suc m + q / suc m % suc m) % suc m ≡ (suc m * suc m - p) % (suc m * suc m) / suc m
below m b p q k l e =
    let M : ℕ = suc m in
    let i : 0 < M = omega arith in
    let c : q + p ≡ b * M = e ∙ mul_comm M b in
    let h : p ≤ b * M = omega arith in
    let j : b * M ≤ M * M = mul-le-mul_right {m = b} {n = M} M (omega arith) in
    let u : ℕ = (p - 1) / M in
    let n : u < b = under b M p i l h in
    let z : m * b % M ≡ M - b = opposite m b (omega arith) k in
    let y : (M * M - p) % (M * M) ≡ M * M - p = mod-eq_of_lt (omega arith) in
    let v : (M * M - p) / M ≡ M - 1 - u = borrow M M p i l (le_trans h j) in
    let d : q ≡ b * M - p = omega arith in
    let w : (b * M - p) / M ≡ b - 1 - u = borrow b M p i l h in
    rw (z, y, v, d, w) (last M b u n (omega arith))
  where
    last : (M b u : ℕ) → u < b → b < M → ((M - b) % M + (b - 1 - u) % M) % M ≡ M - 1 - u
    last M b u n k =
        let e : (M - b) % M ≡ M - b = mod-eq_of_lt (omega arith) in
        let f : (b - 1 - u) % M ≡ b - 1 - u = mod-eq_of_lt (omega arith) in
        let g : M - b + (b - 1 - u) ≡ M - 1 - u = omega arith in
        rw (e, f, g) (mod-eq_of_lt (omega arith))

bare : (x : ℕ) → x < 2 ^ 64 → (0 % 2 ^ 64 % 2 ^ 64 + x % 2 ^ 64) % 2 ^ 64 ≡ x
bare x h = omega arith

least : (b : ℕ) → ¬ (0 < b) → b ≡ 0
least b f = omega arith

part : (x p y : ℕ) → x + p ≡ y → p ≤ y
part x p y e = omega arith

right_zero : (x p : ℕ) → x + p ≡ 0 → p ≡ 0
right_zero x p e = omega arith

-- the unsigned product's upper half, and b taken off where a is negative
pub mulhsu_is : (a b : ℕ) → a < 2 ^ 64 → b < 2 ^ 64
    → (shifted 64 sar a 63 * b % 2 ^ 64 % 2 ^ 64 + a * b / 2 ^ 64 % 2 ^ 64) % 2 ^ 64 ≡ upper_half 64 (signed 64 a *ℤ pos b)
unfolding shifted signed
mulhsu_is a b h k = go (dec_lt a (2 ^ 63))
  where
    go : Dec (a < 2 ^ 63) → (shifted 64 sar a 63 * b % 2 ^ 64 % 2 ^ 64 + a * b / 2 ^ 64 % 2 ^ 64) % 2 ^ 64
        ≡ upper_half 64 (signed 64 a *ℤ pos b)
    go (yes l) =
        let z : a / 2 ^ 63 ≡ 0 = omega arith in
        let y : a * b / 2 ^ 64 < 2 ^ 64 = shr_lt 64 64 (product_lt a b h k) in
        rw (leb_no (2 ^ 64 / 2) a l) (rw (z, zero-mul b) (bare (a * b / 2 ^ 64) y ∙ mulhu_is a b h k))
    go (no l) =
        let t : 2 ^ 63 ≤ a = omega arith in
        let x : ℕ = 2 ^ 64 - 1 - a in
        let z : 2 ^ 64 - 1 - (2 ^ 64 - 1 - a) / 2 ^ 63 ≡ 2 ^ 64 - 1 = omega arith in
        let e : a * b + suc x * b ≡ 2 ^ 64 * b = sym (add-mul a (suc x) b) ∙ ap (λ (y : ℕ). y * b) (omega arith) in
        let m : suc x * b ≤ 2 ^ 64 * b = part (a * b) (suc x * b) (2 ^ 64 * b) e in
        rw (leb_yes (2 ^ 64 / 2) a t) (rw (z, bits-neg 128 (suc x * b) (le_trans m (times_le b k)))
        (by (suc x * b) e (dec_lt 0 b) (mul-pos {m = suc x} {n = b} (zero-lt-suc x))))
      where
        by : (p : ℕ) → a * b + p ≡ 2 ^ 64 * b → Dec (0 < b) → (0 < b → 0 < p)
            → ((2 ^ 64 - 1) * b % 2 ^ 64 % 2 ^ 64 + a * b / 2 ^ 64 % 2 ^ 64) % 2 ^ 64 ≡ (2 ^ 128 - p) % 2 ^ 128 / 2 ^ 64
        by p e (yes f) g = below (2 ^ 64 - 1) b p (a * b) (le_ones 64 k) (g f) e
        by p e (no f) g =
            let z : b ≡ 0 = least b f in
            let c : a * b ≡ 0 = rw z (mul-zero a) in
            let d : p ≡ 0 = right_zero (a * b) p (e ∙ rw z) in
            rw (c, d) (rw z)

-- 4. A quotient by neither 0 nor -1 fits where the dividend does

pub mag-neg : (q h : ℕ) → q ≤ h → 1 ≤ h → mag (neg_ℤ (pos q)) < h
mag-neg zero h p k = omega arith
mag-neg (suc q) h p k = omega arith

pub quot_fits : (h : ℕ) (x y : ℤ) → mag x < h → y ≢ pos 0 → y ≢ negsuc 0 → mag (quot_z x y) < h
quot_fits h (pos a) (pos b) l n m = omega (arith, div-le_self a b)
quot_fits h (pos a) (negsuc b) l n m = mag-neg (a / suc b) h (omega (arith, div-le_self a (suc b))) (omega arith)
quot_fits h (negsuc a) (pos b) l n m = mag-neg (suc a / b) h (omega (arith, div-le_self (suc a) b)) (omega arith)
quot_fits h (negsuc a) (negsuc zero) l n m = absurd (m refl)
quot_fits h (negsuc a) (negsuc (suc b)) l n m =
    omega (arith, div-lt_self {n = suc a} {k = suc (suc b)} (omega arith) (omega arith))

-- 5. Signed numbers of w = k + 1 bits

pub signed_low : (k a : ℕ) → a < 2 ^ k → signed (suc k) a ≡ pos a
unfolding signed
signed_low k a h = rw (leb_no (half (suc k)) a (rw (half_is k) h))

pub signed_high : (k a : ℕ) → 2 ^ k ≤ a → signed (suc k) a ≡ negsuc (2 ^ suc k - 1 - a)
unfolding signed
signed_high k a h = rw (leb_yes (half (suc k)) a (rw (half_is k) h))

pub mag_signed : (k a : ℕ) → a < 2 ^ suc k → mag (signed (suc k) a) < half (suc k)
mag_signed k a h = go (dec_lt a (2 ^ k))
  where
    go : Dec (a < 2 ^ k) → mag (signed (suc k) a) < half (suc k)
    go (yes l) = rw (signed_low k a l, half_is k) l
    go (no l) = rw (signed_high k a (omega arith), half_is k) (omega (arith, twice k))

pos_is : {a b : ℕ} → pos a ≡ pos b → a ≡ b
pos_is e = cc

negsuc_is : {a b : ℕ} → negsuc a ≡ negsuc b → a ≡ b
negsuc_is e = cc

pub signed-zero : (k b : ℕ) → b ≢ 0 → signed (suc k) b ≢ pos 0
signed-zero k b n = go (dec_lt b (2 ^ k))
  where
    go : Dec (b < 2 ^ k) → signed (suc k) b ≢ pos 0
    go (yes l) e = n (pos_is (sym (signed_low k b l) ∙ e))
    go (no l) e = pos-ne-negsuc 0 (2 ^ suc k - 1 - b) (sym e ∙ signed_high k b (omega arith))

pub signed-minus : (k b : ℕ) → b < 2 ^ suc k → b ≢ 2 ^ suc k - 1 → signed (suc k) b ≢ negsuc 0
signed-minus k b h n = go (dec_lt b (2 ^ k))
  where
    go : Dec (b < 2 ^ k) → signed (suc k) b ≢ negsuc 0
    go (yes l) e = pos-ne-negsuc b 0 (sym (signed_low k b l) ∙ e)
    go (no l) e =
        let z : 2 ^ suc k - 1 - b ≡ 0 = negsuc_is (sym (signed_high k b (omega arith)) ∙ e) in
        n (omega arith)

-- a number of w bits below its sign, as CQO leaves it, is the same integer
corner : (m M a : ℕ) → suc m ≡ M → M * M - 1 - (m * M + a) ≡ M - 1 - a
corner m M a e = rw (← e) (omega arith)

pub extended : (k a : ℕ) → a < 2 ^ suc k
    → as_signed (2 * suc k) (cond (negative (suc k) a) (2 ^ suc k - 1) 0 % 2 ^ suc k * 2 ^ suc k + a) ≡ signed (suc k) a
extended k a h =
    let e : 2 * suc k ≡ suc (k + suc k) = omega arith in
    rw e (rw (as_signed_lem (suc (k + suc k)) (above (negative (suc k) a) % M * M + a)) (go (dec_lt a (2 ^ k))))
  where
    M : ℕ
    M = 2 ^ suc k

    above : Bool → ℕ
    above t = cond t (2 ^ suc k - 1) 0

    go : Dec (a < 2 ^ k) → signed (suc (k + suc k)) (above (negative (suc k) a) % M * M + a) ≡ signed (suc k) a
    go (yes l) =
        let z : 0 % M * M + a ≡ a = rw (zero-mod M) (rw (zero-mul M) (omega arith)) in
        let n : negative (suc k) a ≡ false = leb_no (half (suc k)) a (rw (half_is k) l) in
        let b : a < 2 ^ (k + suc k) = lt_of_lt_of_le l (pow_mono (omega arith)) in
        rw n (rw z (signed_low (k + suc k) a b ∙ sym (signed_low k a l)))
    go (no l) =
        let m : ℕ = 2 ^ suc k - 1 in
        let s : suc m ≡ M = suc_ones (suc k) in
        let t : 2 ^ k ≤ a = omega arith in
        let n : negative (suc k) a ≡ true = leb_yes (half (suc k)) a (rw (half_is k) t) in
        let z : m % M ≡ m = mod-eq_of_lt (ones_lt (suc k)) in
        let i : 2 ^ k * M ≤ m * M = mul-le-mul_right {m = 2 ^ k} {n = m} M (omega (arith, twice k, pow_pos k)) in
        let j : 2 ^ (k + suc k) ≤ m * M + a = rw (pow-add 2 k (suc k)) (le_trans i (le-add_right (m * M) a)) in
        let v : suc (k + suc k) ≡ suc k + suc k = omega arith in
        let q : 2 ^ suc (k + suc k) ≡ M * M = rw v (pow-add 2 (suc k) (suc k)) in
        let c : 2 ^ suc (k + suc k) - 1 - (m * M + a) ≡ M - 1 - a = rw q (corner m M a s) in
        rw n (rw z (signed_high (k + suc k) (m * M + a) j ∙ ap negsuc c ∙ sym (signed_high k a t)))

-- 6. The manual's quotient and remainder: by neither 0 nor -1, and by -1

no_overflow : (w a b : ℕ) → b ≢ 2 ^ w - 1 → overflows w a b ≡ false
unfolding overflows
no_overflow w a b n = rw (eqb_no b (2 ^ w - 1) n) (go (eqb a (2 ^ w / 2)))
  where
    go : (t : Bool) → t && false ≡ false
    go true = refl
    go false = refl

pub quotient_usual : (w a b : ℕ) → b ≢ 0 → b ≢ 2 ^ w - 1 → quotient w a b ≡ bits_of w (quot_z (signed w a) (signed w b))
unfolding quotient
quotient_usual w a b n m = rw (eqb_no b 0 n, no_overflow w a b m)

pub remainder_usual : (w a b : ℕ) → b ≢ 0 → b ≢ 2 ^ w - 1 → remainder w a b ≡ bits_of w (rem_z (signed w a) (signed w b))
unfolding remainder
remainder_usual w a b n m = rw (eqb_no b 0 n, no_overflow w a b m)

module _ (k : ℕ) where
  not_zero : 2 ^ suc k - 1 ≢ 0
  not_zero e = omega (arith, twice k, pow_pos k)

  pub minus_one : signed (suc k) (2 ^ suc k - 1) ≡ negsuc 0
  minus_one =
      signed_high k (2 ^ suc k - 1) (omega (arith, twice k, pow_pos k))
      ∙ ap negsuc (omega arith)

  -- where it overflows, that is a itself
  pub overflow_is : (a : ℕ) → overflows (suc k) a (2 ^ suc k - 1) ≡ eqb a (half (suc k))
  unfolding overflows
  overflow_is a = rw (eqb_yes (2 ^ suc k - 1) (2 ^ suc k - 1) refl) (go (eqb a (half (suc k))))
    where
      go : (t : Bool) → t && true ≡ t
      go true = refl
      go false = refl

  negated : (a : ℕ) → a < 2 ^ suc k → a ≢ 2 ^ k → bits_of (suc k) (quot_z (signed (suc k) a) (negsuc 0)) ≡ (2 ^ suc k - a) % 2 ^ suc k
  negated a h n = go (dec_lt a (2 ^ k))
    where
      go : Dec (a < 2 ^ k) → bits_of (suc k) (quot_z (signed (suc k) a) (negsuc 0)) ≡ (2 ^ suc k - a) % 2 ^ suc k
      go (yes l) = rw (signed_low k a l) (rw (div-one a) (bits-neg (suc k) a (omega arith)))
      go (no l) =
          let z : suc (2 ^ suc k - 1 - a) ≡ 2 ^ suc k - a = omega arith in
          rw (signed_high k a (omega arith)) (rw (div-one (suc (2 ^ suc k - 1 - a)), z, bits_pos (suc k) (2 ^ suc k - a)))

  pub quotient-minus : (a : ℕ) → a < 2 ^ suc k → quotient (suc k) a (2 ^ suc k - 1) ≡ (2 ^ suc k - a) % 2 ^ suc k
  unfolding quotient
  quotient-minus a h = rw (eqb_no (2 ^ suc k - 1) 0 not_zero, overflow_is a, minus_one) (go (ℕ_discrete a (2 ^ k)))
    where
      go : Dec (a ≡ 2 ^ k)
          → cond (eqb a (half (suc k))) (half (suc k)) (bits_of (suc k) (quot_z (signed (suc k) a) (negsuc 0)))
          ≡ (2 ^ suc k - a) % 2 ^ suc k
      go (yes e) =
          let z : 2 ^ suc k - a ≡ 2 ^ k = omega (arith, twice k) in
          rw (eqb_yes a (half (suc k)) (e ∙ sym (half_is k))) (half_is k ∙ sym (rw z (mod-eq_of_lt (omega (arith, twice k, pow_pos k)))))
      go (no n) = rw (eqb_no a (half (suc k)) (λ e. n (e ∙ half_is k))) (negated a h n)

  pub remainder-minus : (a : ℕ) → remainder (suc k) a (2 ^ suc k - 1) ≡ 0
  unfolding remainder
  remainder-minus a = rw (eqb_no (2 ^ suc k - 1) 0 not_zero, overflow_is a, minus_one) (go (eqb a (half (suc k))) (signed (suc k) a))
    where
      go : (t : Bool) (z : ℤ) → cond t 0 (bits_of (suc k) (rem_z z (negsuc 0))) ≡ 0
      go true z = refl
      go false (pos a) = rw (mod-one a, bits_pos (suc k) 0) (zero-mod (2 ^ suc k))
      go false (negsuc a) = rw (mod-one (suc a), bits_pos (suc k) 0) (zero-mod (2 ^ suc k))

-- 7. Both fit

pub quotient-lt : (k a b : ℕ) → quotient (suc k) a b < 2 ^ suc k
unfolding quotient
quotient-lt k a b = go (eqb b 0) (overflows (suc k) a b)
  where
    go : (s t : Bool)
        → cond s (2 ^ suc k - 1) (cond t (half (suc k)) (bits_of (suc k) (quot_z (signed (suc k) a) (signed (suc k) b)))) < 2 ^ suc k
    go true t = ones_lt (suc k)
    go false true = rw (half_is k) (omega (arith, twice k, pow_pos k))
    go false false = bits-lt (suc k) _

pub remainder-lt : (w a b : ℕ) → a < 2 ^ w → remainder w a b < 2 ^ w
unfolding remainder
remainder-lt w a b h = go (eqb b 0) (overflows w a b)
  where
    go : (s t : Bool) → cond s a (cond t 0 (bits_of w (rem_z (signed w a) (signed w b)))) < 2 ^ w
    go true t = h
    go false true = pow_pos w
    go false false = bits-lt w _

pub quotient_u-lt : (w a b : ℕ) → a < 2 ^ w → quotient_u w a b < 2 ^ w
unfolding quotient_u
quotient_u-lt w a b h = go (eqb b 0)
  where
    go : (s : Bool) → cond s (2 ^ w - 1) (a / b) < 2 ^ w
    go true = ones_lt w
    go false = omega (arith, div-le_self a b)

pub remainder_u-lt : (w a b : ℕ) → a < 2 ^ w → remainder_u w a b < 2 ^ w
unfolding remainder_u
remainder_u-lt w a b h = go (eqb b 0)
  where
    go : (s : Bool) → cond s a (a % b) < 2 ^ w
    go true = h
    go false = omega (arith, mod-le a b)
