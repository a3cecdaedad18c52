-- Boolean tests on numbers, decided; a choice between the same.
use Rattle.std.proofs.Common.{Bool, cond, false, not, true, ◌≢◌, ◌≡◌, refl, subst, ◌<◌, ◌≤◌, ℕ, arith, T, eqb, eqb→eq, leb, leb→le, le→leb}
use lib.Dec.{eqb_refl, nleb→lt}

pub yes_is : (b : Bool) → T b → b ≡ true
yes_is true t = refl
yes_is false t = absurd t

pub no_is : (b : Bool) → (T b → ⊥) → b ≡ false
no_is true t = absurd (t tt)
no_is false t = refl

pub eqb_yes : (a b : ℕ) → a ≡ b → eqb a b ≡ true
eqb_yes a b e = yes_is (eqb a b) (subst (λ (x : ℕ). T (eqb a x)) e (eqb_refl a))

pub eqb_no : (a b : ℕ) → a ≢ b → eqb a b ≡ false
eqb_no a b n = no_is (eqb a b) (λ t. n (eqb→eq a b t))

pub leb_yes : (a b : ℕ) → a ≤ b → leb a b ≡ true
leb_yes a b h = yes_is (leb a b) (le→leb a b h)

pub leb_no : (a b : ℕ) → b < a → leb a b ≡ false
leb_no a b h = no_is (leb a b) (λ t. no h (leb→le a b t))
  where
    no : b < a → a ≤ b → ⊥
    no h k = omega arith

pub of_true : (b : Bool) → b ≡ true → T b
of_true b e = rw e tt

pub of_false : (b : Bool) → b ≡ false → T (not b)
of_false b e = rw e tt

pub leb-true : (a b : ℕ) → leb a b ≡ true → a ≤ b
leb-true a b e = leb→le a b (of_true (leb a b) e)

pub leb-false : (a b : ℕ) → leb a b ≡ false → b < a
leb-false a b e = nleb→lt a b (of_false (leb a b) e)

pub eqb-true : (a b : ℕ) → eqb a b ≡ true → a ≡ b
eqb-true a b e = eqb→eq a b (of_true (eqb a b) e)

pub cond_same : {A : Type 0} (b : Bool) (x : A) → cond b x x ≡ x
cond_same true x = refl
cond_same false x = refl
