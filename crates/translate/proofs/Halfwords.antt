-- The halfwords of a run of bytes, one at a time.
use Rattle.std.proofs.Common.{◌≡◌, refl, sym, ap, ◌∙◌, List, [], ◌∷◌, ℕ, zero, suc, ◌+◌, ◌*◌, ◌/◌, ◌<◌, ◌≤◌, arith, length, get_or, set}
use Rattle.std.proofs.Common.{take, take-suc, take-suc-set, take_all}
use Rattle.translate.specs.Program.{halfwords_of}

pub how_many : (l : List ℕ) → length (halfwords_of l) ≡ length l / 2
how_many [] = refl
how_many (a ∷ []) = refl
how_many (a ∷ b ∷ l) = ap suc (how_many l) ∙ omega arith

each : (l : List ℕ) (i : ℕ) → i < length l / 2 → get_or (halfwords_of l) i 0 ≡ get_or l (2 * i) 0 + 256 * get_or l (2 * i + 1) 0
each [] i h = absurd (omega arith)
each (a ∷ []) i h = absurd (omega arith)
each (a ∷ b ∷ l) zero h = refl
each (a ∷ b ∷ l) (suc i) h =
    let e : 2 * suc i ≡ suc (suc (2 * i)) = omega arith in
    let f : 2 * suc i + 1 ≡ suc (suc (2 * i + 1)) = omega arith in
    let m : List ℕ = a ∷ b ∷ l in
    each l i (omega arith)
    ∙ sym (
    ap (λ (k : ℕ). get_or m k 0 + 256 * get_or m (2 * suc i + 1) 0) e
    ∙ ap (λ (k : ℕ). get_or m (suc (suc (2 * i))) 0 + 256 * get_or m k 0) f
    )

-- one halfword more
pub one_more : (l code : List ℕ) (i v : ℕ) → i < length l → i < length code / 2
    → v ≡ get_or code (2 * i) 0 + 256 * get_or code (2 * i + 1) 0 → take i l ≡ take i (halfwords_of code)
    → take (i + 1) (set l i v) ≡ take (i + 1) (halfwords_of code)
one_more l code i v a b e h =
    let s : i + 1 ≡ suc i = omega arith in
    let k : i < length (halfwords_of code) = omega (arith, b, how_many code) in
    rw s (take-suc-set l i v a ∙ rw (h, e, sym (each code i b)) (sym (take-suc (halfwords_of code) i 0 k)))

-- all of them
pub all_read : (l code : List ℕ) (i n : ℕ) → i ≤ n → n ≤ i → n ≡ length code / 2 → take i l ≡ take i (halfwords_of code)
    → take n l ≡ halfwords_of code
all_read l code i n a b e h =
    let s : n ≡ i = omega (arith, a, b) in
    rw s (h ∙ take_all i (halfwords_of code) (omega (arith, a, b, e, how_many code)))
