-- The immediates of decode.rs are the manual's, and their ranges. Sign extension is cited at 12, 13, 21 and 32 bits.
use Rattle.std.proofs.Common.{Bool, cond, false, true, ◌∙◌, ◌≡◌, refl, ◌%◌, ◌*◌, ◌+◌, ◌-◌, ◌/◌, ◌<◌, ◌^◌, ◌≤◌, ℕ, mod-eq_of_lt, arith}
use Rattle.std.proofs.Common.{bit_and, bit_or, leb}
use native.Mathlib.Nat.{add-mod_right}
use lib.Bits.{and_high, and_mask, or_shifted}
use lib.Pow.{split}
use Rattle.agreement.specs.Laws.{ImmediatesAlike, Ranges}
use Rattle.agreement.specs.Riscv.Fields.{bits}
use Rattle.agreement.specs.X86.Flags.{negative, sext}
use Rattle.agreement.proofs.Laws.Tests.{leb-false, leb_no, leb-true, leb_yes}
use Rattle.agreement.proofs.Laws.Width.{by_shifts_is, sign_extend_is, sign_extend-lt}
use Rattle.agreement.specs.Translation.Decode32 as Decode32
use Rattle.agreement.specs.Riscv.Immediates as Manual

-- the or of a number whose low k bits are 0 and one of k bits is their sum
or_above : (k x b : ℕ) → x % 2 ^ k ≡ 0 → b < 2 ^ k → bit_or x b ≡ x + b
or_above k x b e l =
    let s : x / 2 ^ k * 2 ^ k ≡ x = omega (arith, split x k) in
    rw s at (or_shifted (x / 2 ^ k) k b l)

mask_is : (w k n : ℕ) → bit_and (w / 2 ^ k) (2 ^ n - 1) ≡ w / 2 ^ k % 2 ^ n
mask_is w k n = and_mask (w / 2 ^ k) n

-- the scattered bits, before sign extension
abbrev pub scatter_b : ℕ → ℕ
scatter_b w = bits 31 31 w * 2 ^ 12 + bits 7 7 w * 2 ^ 11 + bits 30 25 w * 2 ^ 5 + bits 11 8 w * 2

abbrev pub scatter_j : ℕ → ℕ
scatter_j w = bits 31 31 w * 2 ^ 20 + bits 19 12 w * 2 ^ 12 + bits 20 20 w * 2 ^ 11 + bits 30 21 w * 2

-- four fields that stand one above the other
or_four : (a b c d i j k : ℕ) → a % 2 ^ i ≡ 0 → b < 2 ^ i → (a + b) % 2 ^ j ≡ 0 → c < 2 ^ j → (a + b + c) % 2 ^ k ≡ 0 → d < 2 ^ k
    → bit_or (bit_or (bit_or a b) c) d ≡ a + b + c + d
or_four a b c d i j k p q r s t u = rw (or_above i a b p q, or_above j (a + b) c r s) (or_above k (a + b + c) d t u)

-- the bits of w from bit i, under a mask, put at bit j
abbrev masked : ℕ → ℕ → ℕ → ℕ → ℕ
masked w i mask j = bit_and (w / 2 ^ i) mask * 2 ^ j

b_scatter : (w : ℕ)
    → bit_or (bit_or (bit_or (masked w 31 0x1 12) (masked w 7 0x1 11)) (masked w 25 0x3F 5)) (masked w 8 0xF 1) ≡ scatter_b w
b_scatter w =
    rw (mask_is w 31 1, mask_is w 7 1, mask_is w 25 6, mask_is w 8 4)
    (or_four (bits 31 31 w * 2 ^ 12) (bits 7 7 w * 2 ^ 11) (bits 30 25 w * 2 ^ 5) (bits 11 8 w * 2) 12 11 5
    (omega arith) (omega arith) (omega arith) (omega arith) (omega arith) (omega arith))

j_scatter : (w : ℕ)
    → bit_or (bit_or (bit_or (masked w 31 0x1 20) (masked w 12 0xFF 12)) (masked w 20 0x1 11)) (masked w 21 0x3FF 1) ≡ scatter_j w
j_scatter w =
    rw (mask_is w 31 1, mask_is w 12 8, mask_is w 20 1, mask_is w 21 10)
    (or_four (bits 31 31 w * 2 ^ 20) (bits 19 12 w * 2 ^ 12) (bits 20 20 w * 2 ^ 11) (bits 30 21 w * 2) 20 12 11
    (omega arith) (omega arith) (omega arith) (omega arith) (omega arith) (omega arith))

pub imm_i_is : (w : ℕ) → w < 2 ^ 32 → Decode32.imm_i w ≡ Manual.imm_i w
unfolding Decode32.imm_i
imm_i_is w h =
    let e : bits 31 20 w ≡ w / 2 ^ 20 = omega arith in
    rw e (by_shifts_is 11 (w / 2 ^ 20) (omega arith) (omega arith))

imm_s_is : (w : ℕ) → w < 2 ^ 32 → Decode32.imm_s w ≡ Manual.imm_s w
unfolding Decode32.imm_s
imm_s_is w h =
    let e : bits 31 25 w ≡ w / 2 ^ 25 = omega arith in
    rw (e, mask_is w 7 5, or_shifted (w / 2 ^ 25) 5 (bits 11 7 w) (omega arith))
    (by_shifts_is 11 (w / 2 ^ 25 * 2 ^ 5 + bits 11 7 w) (omega arith) (omega arith))

pub imm_b_is : (w : ℕ) → Decode32.imm_b w ≡ Manual.imm_b w
unfolding Decode32.imm_b
imm_b_is w = rw (b_scatter w) (by_shifts_is 12 (scatter_b w) (omega arith) (omega arith))

pub imm_u_is : (w : ℕ) → Decode32.imm_u w ≡ Manual.imm_u w
unfolding Decode32.imm_u
imm_u_is w = rw (and_high w 20 12) (by_shifts_is 31 (bits 31 12 w * 2 ^ 12) (omega arith) (omega arith))

pub imm_j_is : (w : ℕ) → Decode32.imm_j w ≡ Manual.imm_j w
unfolding Decode32.imm_j
imm_j_is w = rw (j_scatter w) (by_shifts_is 20 (scatter_j w) (omega arith) (omega arith))

pub immediates_alike : ImmediatesAlike
immediates_alike = record { i_alike = imm_i_is; s_alike = imm_s_is; b_alike = imm_b_is; u_alike = imm_u_is; j_alike = imm_j_is }

-- an even number below M = 2H, sign-extended from there: even, and from -H to H - 2
record Range (H v : ℕ) : Type 0 where
  within : (v + H) % 2 ^ 64 ≤ H + (H - 2)
  even : v % 2 ≡ 0

range : (M H a : ℕ) → M ≡ H + H → H % 2 ≡ 0 → M ≤ 2 ^ 64 → a < M → a % 2 ≡ 0 → Range H (cond (leb H a) (a + (2 ^ 64 - M)) a)
range M H a m h l k e = go (leb H a) refl
  where
    go : (t : Bool) → leb H a ≡ t → Range H (cond t (a + (2 ^ 64 - M)) a)
    go true q =
        let o : H ≤ a = leb-true H a q in
        let y : a + (2 ^ 64 - M) + H ≡ a - H + 2 ^ 64 = omega arith in
        let z : (a + (2 ^ 64 - M) + H) % 2 ^ 64 ≡ a - H = rw y (add-mod_right (a - H) (2 ^ 64) ∙ mod-eq_of_lt (omega arith)) in
        let s : a / 2 < H = omega arith in
        let s' : a ≡ 2 * (a / 2) = omega arith in
        record { within = rw z (omega arith); even = omega arith }
    go false q =
        let o : a < H = leb-false H a q in
        let z : (a + H) % 2 ^ 64 ≡ a + H = omega arith in
        let s : a / 2 < H / 2 = omega arith in
        let s' : a ≡ 2 * (a / 2) = omega arith in
        let s'' : H ≡ 2 * (H / 2) = omega arith in
        record { within = rw z (omega arith); even = omega arith }

range_b : (w : ℕ) → Range 4096 (Manual.imm_b w)
range_b w = rw (sign_extend_is 12 (scatter_b w) (omega arith))
    (unfold sext in range 8192 4096 (scatter_b w) refl refl (omega arith) (omega arith) (omega arith))

range_j : (w : ℕ) → Range 1048576 (Manual.imm_j w)
range_j w = rw (sign_extend_is 20 (scatter_j w) (omega arith))
    (unfold sext in range 2097152 1048576 (scatter_j w) refl refl (omega arith) (omega arith) (omega arith))

pub ranges : Ranges
ranges = record {
  b_range = λ w. (range_b w).within;
  b_even = λ w. (range_b w).even;
  j_range = λ w. (range_j w).within;
  j_even = λ w. (range_j w).even;
}

-- the 32 bits of an I immediate in a host instruction, which sign-extends them again
low_half : (a : ℕ) → a < 2 ^ 12 → sext 32 64 (sext 12 64 a % 2 ^ 32) ≡ sext 12 64 a
unfolding sext
low_half a h = go (negative 12 a) refl
  where
    extended : (t : Bool) → ℕ
    extended t = cond t (a + (2 ^ 64 - 2 ^ 12)) a

    go : (t : Bool) → negative 12 a ≡ t
        → cond (negative 32 (extended t % 2 ^ 32)) (extended t % 2 ^ 32 + (2 ^ 64 - 2 ^ 32)) (extended t % 2 ^ 32) ≡ extended t
    go true e =
        let o : 2048 ≤ a = leb-true 2048 a e in
        let z : (a + (2 ^ 64 - 2 ^ 12)) % 2 ^ 32 ≡ a + (2 ^ 32 - 2 ^ 12) = omega arith in
        rw z (rw (leb_yes (2 ^ 32 / 2) (a + (2 ^ 32 - 2 ^ 12)) (omega arith)) (omega arith))
    go false e =
        let z : a % 2 ^ 32 ≡ a = omega arith in
        rw z (rw (leb_no (2 ^ 32 / 2) a (omega arith)))

pub imm32_is : (w : ℕ) → w < 2 ^ 32 → sext 32 64 (Decode32.imm32 w) ≡ Manual.imm_i w
unfolding Decode32.imm32
imm32_is w h = rw (imm_i_is w h) (by (Manual.imm_i w) (i_is w))
  where
    i_is : (w : ℕ) → Manual.imm_i w ≡ sext 12 64 (bits 31 20 w)
    i_is w = sign_extend_is 11 (bits 31 20 w) (omega arith)

    by : (v : ℕ) → v ≡ sext 12 64 (bits 31 20 w) → sext 32 64 (v % 2 ^ 32) ≡ v
    by v e = rw e (low_half (bits 31 20 w) (omega arith))

pub imm_i-lt : (w : ℕ) → Manual.imm_i w < 2 ^ 64
imm_i-lt w = sign_extend-lt 11 (bits 31 20 w) (omega arith) (omega arith)

pub imm_u-lt : (w : ℕ) → Manual.imm_u w < 2 ^ 64
imm_u-lt w = sign_extend-lt 31 (bits 31 12 w * 2 ^ 12) (omega arith) (omega arith)

pub imm32-lt : (w : ℕ) → Decode32.imm32 w < 2 ^ 32
unfolding Decode32.imm32
imm32-lt w = omega arith
