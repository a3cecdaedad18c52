-- The sum that `sign_extend` makes, once over the width: it is the manual's, and it does not wrap.
use Rattle.std.proofs.Common.{◌≡◌, refl, ℕ, zero, suc, ◌+◌, ◌-◌, ◌*◌, ◌/◌, ◌%◌, ◌^◌, ◌<◌, ◌≤◌, one-mul, mod-eq_of_lt, arith, pow_mono}
use Rattle.std.proofs.Common.{pow_pos, shr_lt}
use lib.Pow.{pow-lt}
use Rattle.agreement.specs.Riscv.Immediates.{sign_extend}

pub one_shl : (n : ℕ) → n ≤ 32 → 1 * 2 ^ n % 2 ^ 64 ≡ 2 ^ n
one_shl n h = rw one-mul (mod-eq_of_lt (pow-lt {j = 64} (omega arith)))

-- the ones above bit n - 1
pub ones : (n : ℕ) → n ≤ 32 → 2 ^ 64 - 1 - (1 * 2 ^ n % 2 ^ 64 - 1) ≡ 2 ^ 64 - 2 ^ n
ones n h = rw (one_shl n h) (omega (arith, pow_pos n))

-- a bit times a number
once : (b x : ℕ) → b < 2 → b * x ≤ x
once zero x h = omega arith
once (suc zero) x h = omega arith
once (suc (suc b)) x h = omega arith

less_one : (k : ℕ) → suc k - 1 ≡ k
less_one k = omega arith

-- the top bit
bit : (n a : ℕ) → 1 ≤ n → a < 2 ^ n → a / 2 ^ (n - 1) < 2
bit zero a h l = omega arith
bit (suc k) a h l = rw less_one (shr_lt 1 k (rw suc_is at l))
  where
    suc_is : suc k ≡ 1 + k
    suc_is = omega arith

pub fits : (n a : ℕ) → 1 ≤ n → n ≤ 32 → a < 2 ^ n → a + a / 2 ^ (n - 1) * (2 ^ 64 - 2 ^ n) < 2 ^ 64
fits n a h g l =
    omega (arith, once (a / 2 ^ (n - 1)) (2 ^ 64 - 2 ^ n) (bit n a h l), pow_mono {i = n} {j = 64} (omega arith))

pub extends : (n a : ℕ) → 1 ≤ n → a + a / 2 ^ (n - 1) * (2 ^ 64 - 2 ^ n) ≡ sign_extend n a
unfolding sign_extend
extends zero a h = omega arith
extends (suc k) a h = rw less_one refl
