-- A number with its values, as replies are given: where two are equal, so are their numbers and the first three values.
use Rattle.std.proofs.Common.{List, [], ◌∷◌, ◌≡◌, ap, ℕ}

abbrev pub first : List ℕ → ℕ
first [] = 0
first (x ∷ xs) = x

abbrev pub second : List ℕ → ℕ
second [] = 0
second (x ∷ xs) = first xs

abbrev pub third : List ℕ → ℕ
third [] = 0
third (x ∷ xs) = second xs

pub first-value : {p q : ℕ × List ℕ} → p ≡ q → first p.1 ≡ first q.1
first-value e = ap (λ (x : ℕ × List ℕ). first x.1) e

pub second_value : {p q : ℕ × List ℕ} → p ≡ q → second p.1 ≡ second q.1
second_value e = ap (λ (x : ℕ × List ℕ). second x.1) e

pub third_value : {p q : ℕ × List ℕ} → p ≡ q → third p.1 ≡ third q.1
third_value e = ap (λ (x : ℕ × List ℕ). third x.1) e

-- so those with different numbers are not equal
pub differ : {A : Type 0} {p q : ℕ × List ℕ} → p ≡ q → (p.0 ≡ q.0 → ⊥) → A
differ e n = absurd (n (ap (λ (x : ℕ × List ℕ). x.0) e))
