-- Laws of scans and of the entry that insert changes, over any test of an entry.
use Rattle.std.specs.Prelude.{Option, Some, None}
use Rattle.std.proofs.Common.{◌≡◌, refl, sym, ap, ◌∙◌, Bool, true, false, not, cond, ◌||◌, true≢false, List, [], ◌∷◌, ℕ, suc, ◌+◌, ltb}
use Rattle.std.proofs.Common.{◌<◌, ◌≤◌, length, set, get_or, arith, ltb-true, ltb-false}
use Rattle.std.proofs.lemmas.List.Folds.{list_any_at}
use Rattle.std.proofs.lemmas.List.Sums.{passes_at_first}
use Rattle.std.specs.List.{find, list_any, position, position_or_len}
use Rattle.entry.specs.Index.{blank, over_first}
use Rattle.entry.specs.declared.Entry.{Entry}

-- 1. Some entry passes

-- what a scan for an index answers
pub record FoundAt (p : Entry → Bool) (es : List Entry) (i : ℕ) : Type 0 where
  pub first : i ≡ position_or_len p es
  pub within : i < length es
  pub passes : list_any p es ≡ true

pub found_at : (p : Entry → Bool) (es : List Entry) (i : ℕ) → position p es ≡ Some i → FoundAt p es i
found_at p es i = at (ltb (position_or_len p es) (length es)) refl
  where
    at : (b : Bool) → ltb (position_or_len p es) (length es) ≡ b → cond b (Some (position_or_len p es)) None ≡ Some i → FoundAt p es i
    at true t e =
        let k : position_or_len p es ≡ i = cc in
        let h : position_or_len p es < length es = ltb-true (position_or_len p es) (length es) t in
        record {
          first = sym k;
          within = omega arith;
          passes = list_any_at p es (position_or_len p es) blank h (passes_at_first p es blank h);
        }
    at false t e = absurd (cc)

none_before : (p : Entry → Bool) (es : List Entry) → length es ≤ position_or_len p es → list_any p es ≡ false
none_before p [] h = refl
none_before p (e ∷ es) h = at (p e) h (none_before p es)
  where
    at : (b : Bool) → suc (length es) ≤ cond (not b) (1 + position_or_len p es) 0
        → (length es ≤ position_or_len p es → list_any p es ≡ false) → (b || list_any p es) ≡ false
    at true h' i = absurd (omega arith)
    at false h' i = i (omega arith)

pub found_nowhere : (p : Entry → Bool) (es : List Entry) → position p es ≡ None → list_any p es ≡ false
found_nowhere p es = at (ltb (position_or_len p es) (length es)) refl
  where
    at : (b : Bool) → ltb (position_or_len p es) (length es) ≡ b → cond b (Some (position_or_len p es)) None ≡ None → list_any p es ≡ false
    at true t e = absurd (cc)
    at false t e = none_before p es (ltb-false (position_or_len p es) (length es) t)

pub found_none : (p : Entry → Bool) (es : List Entry) → list_any p es ≡ false → find p es ≡ None
found_none p [] h = refl
found_none p (e ∷ es) h = at (p e) h (found_none p es)
  where
    at : (b : Bool) → (b || list_any p es) ≡ false → (list_any p es ≡ false → find p es ≡ None) → cond b (Some e) (find p es) ≡ None
    at true h' i = absurd (true≢false h')
    at false h' i = i h'

-- 2. The first that passes is changed

pub set_over : (p : Entry → Bool) (f : Entry → Entry) (d : Entry) (es : List Entry)
    → set es (position_or_len p es) (f (get_or es (position_or_len p es) d)) ≡ over_first p f es
set_over p f d [] = refl
set_over p f d (e ∷ es) = at (p e) (set_over p f d es)
  where
    at : (b : Bool) → set es (position_or_len p es) (f (get_or es (position_or_len p es) d)) ≡ over_first p f es
        → set (e ∷ es) (cond (not b) (1 + position_or_len p es) 0) (f (get_or (e ∷ es) (cond (not b) (1 + position_or_len p es) 0) d))
        ≡ cond b (f e ∷ es) (e ∷ over_first p f es)
    at true i = refl
    at false i =
        let n : 1 + position_or_len p es ≡ suc (position_or_len p es) = omega arith in
        ap (λ (k : ℕ). set (e ∷ es) k (f (get_or (e ∷ es) k d))) n ∙ ap (λ (l : List Entry). e ∷ l) i

-- where none passes nothing is changed
pub over_none : (p : Entry → Bool) (f : Entry → Entry) (es : List Entry) → list_any p es ≡ false → over_first p f es ≡ es
over_none p f [] h = refl
over_none p f (e ∷ es) h = at (p e) h (over_none p f es)
  where
    at : (b : Bool) → (b || list_any p es) ≡ false → (list_any p es ≡ false → over_first p f es ≡ es)
        → cond b (f e ∷ es) (e ∷ over_first p f es) ≡ e ∷ es
    at true h' i = absurd (true≢false h')
    at false h' i = ap (λ (l : List Entry). e ∷ l) (i h')

abbrev pub changed : (Entry → Entry) → Option Entry → Option Entry
changed f None = None
changed f (Some e) = Some (f e)

-- it is found by its own test
pub over_found : (p : Entry → Bool) (f : Entry → Entry) (es : List Entry) → ((e : Entry) → p (f e) ≡ true)
    → find p (over_first p f es) ≡ changed f (find p es)
over_found p f [] k = refl
over_found p f (e ∷ es) k = at (p e) refl (over_found p f es k)
  where
    at : (b : Bool) → p e ≡ b → find p (over_first p f es) ≡ changed f (find p es)
        → find p (cond b (f e ∷ es) (e ∷ over_first p f es)) ≡ changed f (cond b (Some e) (find p es))
    at true e' i = rw (k e)
    at false e' i = rw e' i

-- by a test that none passed before
pub over_alone : (q p : Entry → Bool) (f : Entry → Entry) (es : List Entry) → list_any q es ≡ false → ((e : Entry) → q (f e) ≡ true)
    → find q (over_first p f es) ≡ changed f (find p es)
over_alone q p f [] n k = refl
over_alone q p f (e ∷ es) n k = at (p e) (q e) refl n (λ n'. over_alone q p f es n' k)
  where
    at : (b c : Bool) → q e ≡ c → (c || list_any q es) ≡ false
        → (list_any q es ≡ false → find q (over_first p f es) ≡ changed f (find p es))
        → find q (cond b (f e ∷ es) (e ∷ over_first p f es)) ≡ changed f (cond b (Some e) (find p es))
    at b true e' n' i = absurd (true≢false n')
    at true false e' n' i = rw (k e)
    at false false e' n' i = rw e' (i n')

-- and a test that neither it nor what stood there passes finds what it found
pub over_other : (q p : Entry → Bool) (f : Entry → Entry) (es : List Entry) → ((e : Entry) → q (f e) ≡ false)
    → ((e : Entry) → p e ≡ true → q e ≡ false) → find q (over_first p f es) ≡ find q es
over_other q p f [] k o = refl
over_other q p f (e ∷ es) k o = at (p e) refl (over_other q p f es k o)
  where
    at : (b : Bool) → p e ≡ b → find q (over_first p f es) ≡ find q es
        → find q (cond b (f e ∷ es) (e ∷ over_first p f es)) ≡ cond (q e) (Some e) (find q es)
    at true e' i = rw (k e, o e e')
    at false e' i = ap (λ (r : Option Entry). cond (q e) (Some e) r) i
