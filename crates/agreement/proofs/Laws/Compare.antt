-- After CMP: L is the signed order, B the unsigned one, E equality, once over the width.
use Rattle.std.proofs.Common.{Bool, ◌&&◌, cond, false, true, ◌∙◌, ◌≡◌, refl, sym, ◌%◌, ◌+◌, ◌-◌, ◌<◌, ◌^◌, ◌≤◌, suc, ℕ, mod-eq_of_lt}
use Rattle.std.proofs.Common.{mul-div_cancel, pow-suc, arith, eqb, leb, ltb}
use native.Mathlib.Decide.{dec_le}
use native.Mathlib.Nat.{add-mod_right}
use lib.IntN.{ℤ.negsuc, ℤ.pos}
use lib.Signed.{lt_z}
use Rattle.agreement.specs.Laws.{ComparesByFlags}
use Rattle.agreement.specs.Riscv.Instruction.{signed}
use Rattle.agreement.specs.X86.Flags.{holds, sub_flags, unlike}
use Rattle.agreement.specs.X86.Form.{Cc.B, Cc.E, Cc.L}
use Rattle.agreement.proofs.Laws.Tests.{eqb_no, eqb_yes, leb-false, leb_no, leb-true, leb_yes}
use Rattle.agreement.proofs.Laws.Width.{half}

wrap : (M a b : ℕ) → a < M → b < M → b ≤ a → (a + (M - b)) % M ≡ a - b
wrap M a b h k l =
    let e : a + (M - b) ≡ (a - b) + M = omega arith in
    rw e (rw (add-mod_right (a - b) M) (mod-eq_of_lt (omega arith)))

wrap' : (M a b : ℕ) → a < M → b < M → a < b → (a + (M - b)) % M ≡ a + (M - b)
wrap' M a b h k l = mod-eq_of_lt (omega arith)

pub less_z : (M H a b : ℕ) → M ≡ H + H → a < M → b < M
    → unlike (leb H ((a + (M - b)) % M)) (unlike (leb H a) (leb H b) && unlike (leb H ((a + (M - b)) % M)) (leb H a))
    ≡ lt_z (cond (leb H a) (negsuc (M - 1 - a)) (pos a)) (cond (leb H b) (negsuc (M - 1 - b)) (pos b))
less_z M H a b m h k = go (dec_le b a)
  where
    G : Bool → Bool → Bool → Type 0
    G x y z = unlike z (unlike x y && unlike z x) ≡ lt_z (cond x (negsuc (M - 1 - a)) (pos a)) (cond y (negsuc (M - 1 - b)) (pos b))

    up : b ≤ a → (x y z : Bool) → leb H a ≡ x → leb H b ≡ y → leb H (a - b) ≡ z → G x y z
    up o true true true p q r =
        sym (leb_yes (suc (M - 1 - b)) (M - 1 - a) (omega (arith, leb-true H a p, leb-true H b q, leb-true H (a - b) r)))
    up o true true false p q r =
        sym (leb_no (suc (M - 1 - b)) (M - 1 - a) (omega (arith, leb-true H a p, leb-true H b q, leb-false H (a - b) r)))
    up o true false true p q r = refl
    up o true false false p q r = refl
    up o false true true p q r = refl
    up o false true false p q r = refl
    up o false false true p q r = sym (leb_yes (suc a) b (omega (arith, leb-false H a p, leb-false H b q, leb-true H (a - b) r)))
    up o false false false p q r = sym (leb_no (suc a) b (omega (arith, leb-false H a p, leb-false H b q, leb-false H (a - b) r)))

    down : a < b → (x y z : Bool) → leb H a ≡ x → leb H b ≡ y → leb H (a + (M - b)) ≡ z → G x y z
    down o true true true p q r =
        sym (leb_yes (suc (M - 1 - b)) (M - 1 - a) (omega (arith, leb-true H a p, leb-true H b q, leb-true H (a + (M - b)) r)))
    down o true true false p q r =
        sym (leb_no (suc (M - 1 - b)) (M - 1 - a) (omega (arith, leb-true H a p, leb-true H b q, leb-false H (a + (M - b)) r)))
    down o true false true p q r = refl
    down o true false false p q r = refl
    down o false true true p q r = refl
    down o false true false p q r = refl
    down o false false true p q r = sym (leb_yes (suc a) b (omega (arith, leb-false H a p, leb-false H b q, leb-true H (a + (M - b)) r)))
    down o false false false p q r = sym (leb_no (suc a) b (omega (arith, leb-false H a p, leb-false H b q, leb-false H (a + (M - b)) r)))

    go : Dec (b ≤ a) → unlike (leb H ((a + (M - b)) % M)) (unlike (leb H a) (leb H b) && unlike (leb H ((a + (M - b)) % M)) (leb H a))
        ≡ lt_z (cond (leb H a) (negsuc (M - 1 - a)) (pos a)) (cond (leb H b) (negsuc (M - 1 - b)) (pos b))
    go (yes o) = rw (wrap M a b h k o) (up o (leb H a) (leb H b) (leb H (a - b)) refl refl refl)
    go (no o) = let o' : a < b = omega arith in rw (wrap' M a b h k o') (down o' (leb H a) (leb H b) (leb H (a + (M - b))) refl refl refl)

halves : (k : ℕ) → 2 ^ suc k ≡ half (suc k) + half (suc k)
halves k = rw pow-suc (rw (mul-div_cancel (2 ^ k) {n = 2} (omega arith)) (omega arith))

pub cmp-L : (k a b : ℕ) → a < 2 ^ suc k → b < 2 ^ suc k → holds L (sub_flags (suc k) a b) ≡ lt_z (signed (suc k) a) (signed (suc k) b)
unfolding holds sub_flags signed
cmp-L k a b h l = less_z (2 ^ suc k) (half (suc k)) a b (halves k) h l

pub cmp-B : (w a b : ℕ) → holds B (sub_flags w a b) ≡ ltb a b
unfolding holds sub_flags
cmp-B w a b = refl

pub cmp-E : (w a b : ℕ) → a < 2 ^ w → b < 2 ^ w → holds E (sub_flags w a b) ≡ eqb a b
unfolding holds sub_flags
cmp-E w a b h l = go (dec_le b a)
  where
    up : b ≤ a → Dec (a ≤ b) → eqb (a - b) 0 ≡ eqb a b
    up o (yes p) = eqb_yes (a - b) 0 (omega arith) ∙ sym (eqb_yes a b (omega arith))
    up o (no p) = eqb_no (a - b) 0 (omega arith) ∙ sym (eqb_no a b (omega arith))

    go : Dec (b ≤ a) → eqb ((a + (2 ^ w - b)) % 2 ^ w) 0 ≡ eqb a b
    go (yes o) = rw (wrap (2 ^ w) a b h l o) (up o (dec_le a b))
    go (no o) =
        let o' : a < b = omega arith in
        rw (wrap' (2 ^ w) a b h l o') (eqb_no (a + (2 ^ w - b)) 0 (omega arith) ∙ sym (eqb_no a b (omega arith)))

pub compares_by_flags : ComparesByFlags
unfolding ComparesByFlags
compares_by_flags k a b h l = (cmp-L k a b h l, cmp-B (suc k) a b, cmp-E (suc k) a b h l)
