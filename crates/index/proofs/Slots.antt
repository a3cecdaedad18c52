-- What the code of insert learns from its scans.
use Rattle.std.specs.Prelude.{Option, Some, None, Ok, Err}
use Rattle.std.specs.List.{list_any, position}
use Rattle.std.proofs.Common.{◌≡◌, sym, ap, ◌∙◌, Bool, false, cond, List, [], ◌∷◌, ℕ, set, get_or}
use Rattle.entry.specs.Index.{holds, free, taken, renewed}
use Rattle.entry.specs.declared.Key.{Key}
use Rattle.entry.specs.declared.Entry.{Entry}
use Rattle.entry.specs.declared.NativeBlock.{NativeBlock}
use Rattle.entry.proofs.Scans.{found_at, found_nowhere, set_over, over_none}
use Rattle.index.specs.Answers.{Inserts}
use Rattle.index.specs.declared.Refusal.{Refusal}
use Rattle.index.specs.declared.Refusal.TheVariants.{Full}

module _ (es : List Entry) (k : Key) where
  pub slot_held : (i : ℕ) → Some i ≡ position (holds k) es → Some i ≡ position (taken es k) es
  slot_held i e =
      e ∙ sym (ap (λ (t : Bool). position (cond t (holds k) free) es) (found_at (holds k) es i (sym e)).passes)

  pub slot_free : (r : Option ℕ) → None ≡ position (holds k) es → r ≡ position free es → r ≡ position (taken es k) es
  slot_free r e f = f ∙ sym (ap (λ (t : Bool). position (cond t (holds k) free) es) (found_nowhere (holds k) es (sym e)))

  module _ (b : NativeBlock) where
    pub put_in : (o : Option ℕ) (i : ℕ) (d r : Entry) → o ≡ Some i → o ≡ position (taken es k) es → r ≡ renewed k b (get_or es i d)
        → Inserts es (set es i r) k b (Ok i)
    put_in o i d r n e f =
        let p : Entry → Bool = taken es k in
        let a = found_at p es i (sym e ∙ n) in
        record {
          answers = rw a.passes (ap (λ (j : ℕ). (0, j ∷ [])) a.first);
          leaves =
              ap (set es i) f ∙ ap (λ (j : ℕ). set es j (renewed k b (get_or es j d))) a.first ∙ set_over p (renewed k b) d es;
        }

    pub put_off : (o : Option ℕ) (r : Refusal) → o ≡ None → o ≡ position (taken es k) es → Inserts es es k b (Err r)
    put_off o Full n e =
        let p : Entry → Bool = taken es k in
        let a : list_any p es ≡ false = found_nowhere p es (sym e ∙ n) in
        record { answers = rw a; leaves = sym (over_none p (renewed k b) es a) }
