-- Sign extension and arithmetic shift, once over the width: the manual's, the SDM's and the Rust's are the same numbers.
use Rattle.std.proofs.Common.{Bool, cond, false, true, ◌∙◌, ◌≡◌, ap, sym, ◌%◌, ◌*◌, ◌+◌, ◌-◌, ◌/◌, ◌<◌, ◌^◌, ◌≤◌, suc, ℕ, mod-lt}
use Rattle.std.proofs.Common.{mul-div_cancel, mul-le-mul_right, mul-lt-mul_of_pos_right, pow-suc, arith, leb, pow-add, pow_mono, pow_pos}
use Rattle.std.proofs.Common.{shl_exact, shr_lt}
use native.Mathlib.Decide.{dec_lt}
use native.Mathlib.Nat.{div-eq_of_lt, div-eq_of_lt-le, mod-mod}
use lib.Pow.{shl-shr, shr_le, split}
use Rattle.agreement.specs.Laws.{ShiftsArithmetic, SignExtends, SignExtendsByShifts}
use Rattle.agreement.specs.Riscv.Instruction.{shift_right_arithmetic, word}
use Rattle.agreement.specs.X86.Flags.{negative, sext, shifted}
use Rattle.agreement.specs.X86.Form.{Shift.sar}
use Rattle.agreement.proofs.Laws.Tests.{leb_no, leb_yes}
use Rattle.agreement.specs.Translation.Decode32 as Decode32
use Rattle.agreement.specs.Riscv.Immediates as Manual

abbrev pub half : ℕ → ℕ
half w = 2 ^ w / 2

-- 2^(k+1) as the model writes halves of it
pub half_is : (k : ℕ) → half (suc k) ≡ 2 ^ k
half_is k = rw pow-suc (mul-div_cancel (2 ^ k) (omega arith))

pub twice : (k : ℕ) → 2 ^ suc k ≡ 2 ^ k + 2 ^ k
twice k = rw pow-suc (omega arith)

top_bit : (k a : ℕ) → a < 2 ^ suc k → 2 ^ k ≤ a → a / 2 ^ k ≡ 1
top_bit k a h l = div-eq_of_lt-le (2 ^ k) (omega arith) (omega (arith, twice k))

-- what is left of a complement when whole multiples of M are taken from it
pub floor : (d q M r : ℕ) → r < M → ((d + q + 1) * M - 1 - (q * M + r)) / M ≡ d
floor d q M r h = div-eq_of_lt-le M (omega arith) (omega arith)

complement : (W K S a : ℕ) → W ≡ K * S → a < K → 0 < S → (W - 1 - a * S) / S ≡ K - 1 - a
complement W K S a e h p =
    let n : K ≡ K - 1 - a + a + 1 = omega arith in
    let w : W ≡ (K - 1 - a + a + 1) * S = e ∙ ap (λ (x : ℕ). x * S) n in
    let z : a * S + 0 ≡ a * S = omega arith in
    rw w (rw z at (floor (K - 1 - a) a S 0 p))

-- copies of the top bit, and the SDM's case on the sign
pub sign_extends : SignExtends
unfolding SignExtends Manual.sign_extend sext
sign_extends k a h = go (dec_lt a (2 ^ k))
  where
    go : Dec (a < 2 ^ k) → a + a / 2 ^ k * (2 ^ 64 - 2 ^ suc k) ≡ cond (leb (half (suc k)) a) (a + (2 ^ 64 - 2 ^ suc k)) a
    go (yes l) = rw (div-eq_of_lt l) (rw (leb_no (half (suc k)) a (rw (half_is k) l)) (omega arith))
    go (no l) =
        let l' : 2 ^ k ≤ a = omega arith in
        rw (top_bit k a h l') (rw (leb_yes (half (suc k)) a (rw (half_is k) l')) (omega arith))

pub sign_extend_is : (k a : ℕ) → a < 2 ^ suc k → Manual.sign_extend (suc k) a ≡ sext (suc k) 64 a
sign_extend_is = unfold SignExtends in sign_extends

pub sign_extend-lt : (k a : ℕ) → suc k ≤ 64 → a < 2 ^ suc k → Manual.sign_extend (suc k) a < 2 ^ 64
sign_extend-lt k a w h = rw (sign_extend_is k a h) (unfold sext in go (negative (suc k) a))
  where
    go : (t : Bool) → cond t (a + (2 ^ 64 - 2 ^ suc k)) a < 2 ^ 64
    go true = omega (arith, pow_mono {i = suc k} {j = 64} w)
    go false = omega (arith, pow_mono {i = suc k} {j = 64} w)

-- shifted up to bit 63 and arithmetically down again
pub sign_extends_by_shifts : SignExtendsByShifts
unfolding SignExtendsByShifts Decode32.sign_extend Manual.sign_extend
sign_extends_by_shifts k a w h = go (dec_lt a (2 ^ k))
  where
    S : ℕ
    S = 2 ^ (64 - suc k)

    whole : 2 ^ 64 ≡ 2 ^ suc k * 2 ^ (64 - suc k)
    whole = let z : suc k + (64 - suc k) ≡ 64 = omega arith in sym (ap (λ (e : ℕ). 2 ^ e) z) ∙ pow-add 2 (suc k) (64 - suc k)

    middle : 2 ^ 63 ≡ 2 ^ k * 2 ^ (64 - suc k)
    middle = let z : k + (64 - suc k) ≡ 63 = omega arith in sym (ap (λ (e : ℕ). 2 ^ e) z) ∙ pow-add 2 k (64 - suc k)

    up_is : a * 2 ^ (64 - suc k) % 2 ^ 64 ≡ a * 2 ^ (64 - suc k)
    up_is = shl_exact (suc k) (64 - suc k) 64 h (omega arith)

    low : a < 2 ^ k → a * 2 ^ (64 - suc k) < 2 ^ 63
    low l = rw middle (mul-lt-mul_of_pos_right l (pow_pos (64 - suc k)))

    high : 2 ^ k ≤ a → 2 ^ 63 ≤ a * 2 ^ (64 - suc k)
    high l = rw middle (mul-le-mul_right (2 ^ (64 - suc k)) l)

    go : Dec (a < 2 ^ k) → Decode32.sign_extend (suc k) a ≡ Manual.sign_extend (suc k) a
    go (yes l) =
        rw up_is (rw (leb_no (2 ^ 63) (a * 2 ^ (64 - suc k)) (low l)) (rw (shl-shr a (64 - suc k), div-eq_of_lt l) (omega arith)))
    go (no l) =
        let l' : 2 ^ k ≤ a = omega arith in
        let d : (2 ^ 64 - 1 - a * 2 ^ (64 - suc k)) / 2 ^ (64 - suc k) ≡ 2 ^ suc k - 1 - a =
        complement (2 ^ 64) (2 ^ suc k) (2 ^ (64 - suc k)) a whole h (pow_pos (64 - suc k)) in
        rw up_is (rw (leb_yes (2 ^ 63) (a * 2 ^ (64 - suc k)) (high l'))
        (rw (d, top_bit k a h l') (omega (arith, pow_mono {i = suc k} {j = 64} w))))

pub by_shifts_is : (k a : ℕ) → suc k ≤ 64 → a < 2 ^ suc k → Decode32.sign_extend (suc k) a ≡ Manual.sign_extend (suc k) a
by_shifts_is = unfold SignExtendsByShifts in sign_extends_by_shifts

-- the sign bit copied into the vacated bits, and the signed number divided rounding down
pub shifts_arithmetic : ShiftsArithmetic
unfolding ShiftsArithmetic shift_right_arithmetic shifted
shifts_arithmetic k a c h l = go (dec_lt a (2 ^ k))
  where
    whole : 2 ^ suc k ≡ 2 ^ (suc k - c) * 2 ^ c
    whole = let z : suc k - c + c ≡ suc k = omega arith in sym (ap (λ (e : ℕ). 2 ^ e) z) ∙ pow-add 2 (suc k - c) c

    below : a / 2 ^ c < 2 ^ (suc k - c)
    below = let z : suc k - c + c ≡ suc k = omega arith in shr_lt (suc k - c) c (rw z h)

    down : (2 ^ suc k - 1 - a) / 2 ^ c ≡ 2 ^ (suc k - c) - 1 - a / 2 ^ c
    down =
        let d : ℕ = 2 ^ (suc k - c) - 1 - a / 2 ^ c in
        let n : 2 ^ (suc k - c) ≡ d + a / 2 ^ c + 1 = omega (arith, below) in
        let e : a ≡ a / 2 ^ c * 2 ^ c + a % 2 ^ c = sym (split a c) in
        let r : a % 2 ^ c < 2 ^ c = mod-lt a (pow_pos c) in
        let w : 2 ^ suc k ≡ (d + a / 2 ^ c + 1) * 2 ^ c = whole ∙ ap (λ (x : ℕ). x * 2 ^ c) n in
        let g : 2 ^ suc k - 1 - a ≡ (d + a / 2 ^ c + 1) * 2 ^ c - 1 - (a / 2 ^ c * 2 ^ c + a % 2 ^ c) = cc in
        rw g (floor d (a / 2 ^ c) (2 ^ c) (a % 2 ^ c) r)

    go : Dec (a < 2 ^ k)
        → a / 2 ^ c + a / 2 ^ k * (2 ^ suc k - 2 ^ (suc k - c))
        ≡ cond (leb (half (suc k)) a) (2 ^ suc k - 1 - (2 ^ suc k - 1 - a) / 2 ^ c) (a / 2 ^ c)
    go (yes m) = rw (leb_no (half (suc k)) a (rw (half_is k) m)) (rw (div-eq_of_lt m) (omega arith))
    go (no m) =
        let m' : 2 ^ k ≤ a = omega arith in
        let le : 2 ^ (suc k - c) ≤ 2 ^ suc k = pow_mono {i = suc k - c} {j = suc k} (omega arith) in
        rw (leb_yes (half (suc k)) a (rw (half_is k) m')) (rw (top_bit k a h m', down) (omega (arith, below)))

pub shift_right_is : (k a c : ℕ) → a < 2 ^ suc k → c ≤ suc k → shift_right_arithmetic (suc k) a c ≡ shifted (suc k) sar a c
shift_right_is = unfold ShiftsArithmetic in shifts_arithmetic

pub sar_lt : (w a c : ℕ) → a < 2 ^ w → shifted w sar a c < 2 ^ w
unfolding shifted
sar_lt w a c h = go (negative w a)
  where
    go : (t : Bool) → cond t (2 ^ w - 1 - (2 ^ w - 1 - a) / 2 ^ c) (a / 2 ^ c) < 2 ^ w
    go true = omega arith
    go false = omega (arith, shr_le a c)

-- a 32-bit result through MOVSXD
pub word_is : (a b : ℕ) → a % 2 ^ 32 ≡ b % 2 ^ 32 → sext 32 64 (a % 2 ^ 32) ≡ word b
word_is a b e = rw e (sym (sign_extend_is 31 (b % 2 ^ 32) (omega arith)))

pub word_mod : (a : ℕ) → sext 32 64 (a % 2 ^ 32 % 2 ^ 32) ≡ word a
word_mod a = word_is (a % 2 ^ 32) a (mod-mod a (2 ^ 32))

pub word_lt : (a : ℕ) → word a < 2 ^ 64
word_lt a = sign_extend-lt 31 (a % 2 ^ 32) (omega arith) (omega arith)
