-- Number 8 is given where the key shows nothing and every entry is in use, and nowhere else.
use Rattle.std.specs.Prelude.{Some, None}
use Rattle.std.specs.List.{list_any, position_or_len}
use Rattle.std.specs.List as Lists
use Rattle.std.proofs.Common.{◌≡◌, refl, sym, ap, ◌∙◌, Bool, true, false, not, cond, ◌||◌, true≢false, List, [], ◌∷◌, ℕ, eq-eqb}
use Rattle.entry.specs.Index.{free, holds, find, taken, insert_answer}
use Rattle.entry.specs.Laws.{RefusesWhenFull}
use Rattle.entry.specs.declared.Key.{Key}
use Rattle.entry.specs.declared.Entry.{Entry}
use Rattle.entry.proofs.Scans.{found_none}
use Rattle.entry.proofs.LastShown.{refused_is}

-- where none is found none passes
none_found : (p : Entry → Bool) (es : List Entry) → Lists.find p es ≡ None → list_any p es ≡ false
none_found p [] h = refl
none_found p (e ∷ es) h = at (p e) h (none_found p es)
  where
    at : (t : Bool) → cond t (Some e) (Lists.find p es) ≡ None → (Lists.find p es ≡ None → list_any p es ≡ false)
        → (t || list_any p es) ≡ false
    at true n i = absurd (cc)
    at false n i = i n

not_any : (t : Bool) → not t ≡ true → t ≡ false
not_any true h = absurd (true≢false (sym h))
not_any false h = refl

module _ (es : List Entry) (k : Key) where
  -- no entry is taken: then none holds the key, and none is free
  none_taken : list_any (taken es k) es ≡ false → (find es k ≡ None) × (list_any free es ≡ false)
  none_taken = at (list_any (holds k) es) refl
    where
      at : (t : Bool) → list_any (holds k) es ≡ t → list_any (cond t (holds k) free) es ≡ false
          → (find es k ≡ None) × (list_any free es ≡ false)
      at true h n = absurd (true≢false (sym h ∙ n))
      at false h n = (found_none (holds k) es h, n)

  full_taken : find es k ≡ None → list_any free es ≡ false → list_any (taken es k) es ≡ false
  full_taken h n = ap (λ (t : Bool). list_any (cond t (holds k) free) es) (none_found (holds k) es h) ∙ n

pub refuses_when_full : RefusesWhenFull
unfolding RefusesWhenFull
refuses_when_full es k = record {
  only = λ h. none_taken es k (not_any _ (sym (refused_is es k) ∙ eq-eqb (insert_answer es k).0 8 h));
  always = λ h n. ap (λ (t : Bool). cond {A = ℕ × List ℕ} t (0, position_or_len (taken es k) es ∷ []) (8, [])) (full_taken es k h n);
}
