-- Two ranges of addresses that have a common byte, and the code's test of it by two distances, each modulo 2^64.
use Rattle.std.proofs.Common.{◌≡◌, ◌≢◌, refl, sym, ap, ◌∙◌, Bool, true, false, not, ◌&&◌, ◌||◌, true≢false, inl, inr, ℕ, zero, suc}
use Rattle.std.proofs.Common.{◌+◌, ◌-◌, ◌%◌, ◌^◌, ◌<◌, ◌≤◌, arith, eqb, ltb, eqb-true, eq-eqb, ne_eqb}
use Rattle.std.proofs.lemmas.Bool.{ltb-true, lt-ltb, le-ltb, eqb-false, not-true, both_ways, false_from_ne_true, cases_lt, and_parts, and_from}
use Rattle.std.proofs.lemmas.Bool.{or_left, or_right, or_from}
use Rattle.entry.specs.Index.{any_below, touches}
use Rattle.entry.specs.Laws.{EmptyTouchesNothing}

-- 1. Some number below n passes

some_below : (n : ℕ) (p : ℕ → Bool) (i : ℕ) → i < n → p i ≡ true → any_below n p ≡ true
some_below zero p i h k = absurd (omega arith)
some_below (suc n) p i h k = at (p n) (eqb i n) refl refl (some_below n p i)
  where
    at : (b c : Bool) → p n ≡ b → eqb i n ≡ c → (i < n → p i ≡ true → any_below n p ≡ true) → (b || any_below n p) ≡ true
    at true c e f r = refl
    at false true e f r = absurd (true≢false (sym k ∙ ap p (eqb-true i n f) ∙ e))
    at false false e f r =
        let d : i ≢ n = eqb-false i n f in
        r (omega arith) k

record Passes (n : ℕ) (p : ℕ → Bool) : Type 0 where
  number : ℕ
  below : number < n
  passes : p number ≡ true

which_below : (n : ℕ) (p : ℕ → Bool) → any_below n p ≡ true → Passes n p
which_below zero p h = absurd (true≢false (sym h))
which_below (suc n) p h = at (p n) refl h (which_below n p)
  where
    at : (b : Bool) → p n ≡ b → (b || any_below n p) ≡ true → (any_below n p ≡ true → Passes n p) → Passes (suc n) p
    at true e g r = record { number = n; below = omega arith; passes = e }
    at false e g r =
        let f = r g in
        let l : f.number < suc n = omega arith in
        record { number = f.number; below = l; passes = f.passes }

-- 2. A byte that both ranges have, and none

pub common : (pc span a n i j : ℕ) → i < span → j < n → (pc + i) % 2 ^ 64 ≡ (a + j) % 2 ^ 64 → touches pc span a n ≡ true
unfolding touches
common pc span a n i j h k e = some_below span _ i h (some_below n _ j k (eq-eqb _ _ e))

pub no_common : (pc span a n i j : ℕ) → touches pc span a n ≡ false → i < span → j < n → (pc + i) % 2 ^ 64 ≢ (a + j) % 2 ^ 64
no_common pc span a n i j t h k e = true≢false (sym (common pc span a n i j h k e) ∙ t)

-- byte i of the one is byte j of the other
pub record Shared (pc span a n : ℕ) : Type 0 where
  pub i : ℕ
  pub j : ℕ
  pub spanned : i < span
  pub written : j < n
  pub same : (pc + i) % 2 ^ 64 ≡ (a + j) % 2 ^ 64

pub shared : (pc span a n : ℕ) → touches pc span a n ≡ true → Shared pc span a n
unfolding touches
shared pc span a n h =
    let f = which_below span _ h in
    let g = which_below n _ f.passes in
    record { i = f.number; j = g.number; spanned = f.below; written = g.below; same = eqb-true _ _ g.passes }

pub empty_touches_nothing : EmptyTouchesNothing
unfolding EmptyTouchesNothing
empty_touches_nothing pc span a n = (
  false_from_ne_true (touches pc span a 0) (λ h. let s = shared pc span a 0 h in omega (arith, s.written)),
  false_from_ne_true (touches pc 0 a n) (λ h. let s = shared pc 0 a n h in omega (arith, s.spanned)),
)

-- 3. The code's test

-- how far it is up from an address to another, modulo 2^64
abbrev pub up : ℕ → ℕ → ℕ
up x y = (y + (2 ^ 64 - x)) % 2 ^ 64

-- y is one of the s bytes from x on, and of the m bytes from y on there is one
abbrev pub begins_within : ℕ → ℕ → ℕ → ℕ → Bool
begins_within x s y m = ltb (up x y) s && not (eqb m 0)

-- one lemma for each modulus: `omega` gives up on a sum of several
arrives : (x y : ℕ) → x < 2 ^ 64 → y < 2 ^ 64 → (x + up x y) % 2 ^ 64 ≡ y
arrives x y h k = omega arith

cancel : (x i j : ℕ) → (x + i) % 2 ^ 64 ≡ (x + j) % 2 ^ 64 → i % 2 ^ 64 ≡ j % 2 ^ 64
cancel x i j e = omega arith

shift : (x y j : ℕ) → x % 2 ^ 64 ≡ y → (x + j) % 2 ^ 64 ≡ (y + j) % 2 ^ 64
shift x y j e = omega arith

-- of two numbers that are equal modulo 2^64
no_further : (d j i : ℕ) → d < 2 ^ 64 → i < 2 ^ 64 → j ≤ i → (d + j) % 2 ^ 64 ≡ i % 2 ^ 64 → d ≤ i
no_further d j i h k l e = omega arith

-- byte i from x on is byte j from y on, and not before it: then y is at most i bytes up from x
near : (x y i j : ℕ) → x < 2 ^ 64 → y < 2 ^ 64 → i < 2 ^ 64 → j ≤ i → (x + i) % 2 ^ 64 ≡ (y + j) % 2 ^ 64 → up x y ≤ i
near x y i j h k l m e =
    let regroup : x + (up x y + j) ≡ (x + up x y) + j = omega arith in
    let moved : (x + (up x y + j)) % 2 ^ 64 ≡ (x + i) % 2 ^ 64 =
    ap (λ (z : ℕ). z % 2 ^ 64) regroup ∙ shift (x + up x y) y j (arrives x y h k) ∙ sym e in
    let b : up x y < 2 ^ 64 = omega arith in
    no_further (up x y) j i b l m (cancel x (up x y + j) i moved)

-- where the one begins within the other, that byte is in both
begun : (x s y m : ℕ) → x < 2 ^ 64 → y < 2 ^ 64 → begins_within x s y m ≡ true → Shared x s y m
begun x s y m h k b =
    let t = and_parts (ltb (up x y) s) (not (eqb m 0)) b in
    let n : m ≢ 0 = eqb-false m 0 (not-true (eqb m 0) t.1) in
    let l : up x y < s = ltb-true (up x y) s t.0 in
    record { i = up x y; j = 0; spanned = l; written = omega arith; same = arrives x y h k ∙ omega arith }

-- and of a common byte one is reached from the other's first byte
begins : (x s y m i j : ℕ) → x < 2 ^ 64 → y < 2 ^ 64 → s < 2 ^ 64 → i < s → j < m → j ≤ i → (x + i) % 2 ^ 64 ≡ (y + j) % 2 ^ 64
    → begins_within x s y m ≡ true
begins x s y m i j h k l within some before same =
    let d : up x y ≤ i = near x y i j h k (omega arith) before same in
    and_from (ltb (up x y) s) (not (eqb m 0)) (lt-ltb (up x y) s (omega arith)) (ap not (ne_eqb m 0 (omega arith)))

module _ (pc span a n : ℕ) (pc_fits : pc < 2 ^ 64) (span_fits : span < 2 ^ 64) (a_fits : a < 2 ^ 64) (n_fits : n < 2 ^ 64) where
  touched_up : begins_within pc span a n ≡ true → touches pc span a n ≡ true
  touched_up h = let s = begun pc span a n pc_fits a_fits h in common pc span a n s.i s.j s.spanned s.written s.same

  touched_down : begins_within a n pc span ≡ true → touches pc span a n ≡ true
  touched_down h = let s = begun a n pc span a_fits pc_fits h in common pc span a n s.j s.i s.written s.spanned (sym s.same)

  one_begins : Shared pc span a n → (begins_within pc span a n || begins_within a n pc span) ≡ true
  one_begins s = elim (cases_lt s.i s.j) [
    | inl l ↦ or_right (begins_within pc span a n) (begins_within a n pc span)
        (begins a n pc span s.j s.i a_fits pc_fits n_fits s.written s.spanned (omega arith) (sym s.same))
    | inr l ↦ or_left (begins_within pc span a n) (begins_within a n pc span)
        (begins pc span a n s.i s.j pc_fits a_fits span_fits s.spanned s.written l s.same)
  ]

  pub touches_is : touches pc span a n ≡ (begins_within pc span a n || begins_within a n pc span)
  touches_is = at (touches pc span a n) refl
    where
      at : (t : Bool) → touches pc span a n ≡ t → t ≡ (begins_within pc span a n || begins_within a n pc span)
      at true h = sym (one_begins (shared pc span a n h))
      at false h =
          sym (or_from (begins_within pc span a n) (begins_within a n pc span)
          (false_from_ne_true (begins_within pc span a n) (λ b. both_ways (touches pc span a n) h (touched_up b)))
          (false_from_ne_true (begins_within a n pc span) (λ b. both_ways (touches pc span a n) h (touched_down b))))

  -- the same, of what the code's tests answered
  pub by_tests : (b c : Bool) → b ≡ begins_within pc span a n → c ≡ begins_within a n pc span → (b || c) ≡ touches pc span a n
  by_tests b c e f = ap (λ (t : Bool). t || c) e ∙ ap (λ (t : Bool). begins_within pc span a n || t) f ∙ sym touches_is

-- one of the two tests, by the two ways through it
pub test_passes : (x s y m : ℕ) (b : Bool) → up x y < s → b ≡ not (eqb m 0) → b ≡ begins_within x s y m
test_passes x s y m b h e = e ∙ sym (ap (λ (t : Bool). t && not (eqb m 0)) (lt-ltb (up x y) s h))

pub test_fails : (x s y m : ℕ) (b : Bool) → s ≤ up x y → b ≡ ltb (up x y) s → b ≡ begins_within x s y m
test_fails x s y m b h e =
    let f : ltb (up x y) s ≡ false = le-ltb (up x y) s h in
    e ∙ f ∙ sym (ap (λ (t : Bool). t && not (eqb m 0)) f)

-- 4. A write of all addresses but one touches every byte but the one before its first. It is too long to be computed

pub all_but_one : (pc x : ℕ) → pc < 2 ^ 64 → x < 2 ^ 64 → touches pc 1 x (2 ^ 64 - 1) ≡ not (eqb pc ((x + 2 ^ 64 - 1) % 2 ^ 64))
all_but_one pc x h k = at (eqb pc ((x + 2 ^ 64 - 1) % 2 ^ 64)) refl
  where
    at : (b : Bool) → eqb pc ((x + 2 ^ 64 - 1) % 2 ^ 64) ≡ b → touches pc 1 x (2 ^ 64 - 1) ≡ not b
    at true e =
        let before : pc ≡ (x + 2 ^ 64 - 1) % 2 ^ 64 = eqb-true pc ((x + 2 ^ 64 - 1) % 2 ^ 64) e in
        false_from_ne_true (touches pc 1 x (2 ^ 64 - 1)) (λ t.
        let s = shared pc 1 x (2 ^ 64 - 1) t in
        let first : s.i ≡ 0 = omega (arith, s.spanned) in
        let there : (x + s.j) % 2 ^ 64 ≡ (x + (2 ^ 64 - 1)) % 2 ^ 64 =
        sym s.same ∙ ap (λ (i : ℕ). (pc + i) % 2 ^ 64) first ∙ omega arith in
        let j : s.j % 2 ^ 64 ≡ 2 ^ 64 - 1 = cancel x s.j (2 ^ 64 - 1) there in
        omega (arith, s.written))
    at false e =
        let other : pc ≢ (x + 2 ^ 64 - 1) % 2 ^ 64 = eqb-false pc ((x + 2 ^ 64 - 1) % 2 ^ 64) e in
        let there : (x + up x pc) % 2 ^ 64 ≡ pc = arrives x pc k h in
        let last : up x pc ≢ 2 ^ 64 - 1 = λ f. other (sym there ∙ ap (λ (j : ℕ). (x + j) % 2 ^ 64) f ∙ omega arith) in
        let j : up x pc < 2 ^ 64 - 1 = omega arith in
        common pc 1 x (2 ^ 64 - 1) 0 (up x pc) (omega arith) j (omega arith)
