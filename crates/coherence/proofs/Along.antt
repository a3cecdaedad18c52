-- The same of functions whose every call leaves what the definitions say.
use Rattle.std.specs.Prelude.{Some}
use Rattle.std.proofs.Common.{◌≡◌, refl, sym, ap, ◌∙◌, subst, List, [], ◌∷◌}
use Rattle.entry.specs.Index.{drop_touched, empty, find}
use Rattle.entry.specs.declared.Entry.{Entry}
use Rattle.entry.specs.declared.Key.{Key}
use Rattle.coherence.specs.Keeping.{Codes, reply_to, Operation, Operation.translates, Operation.writes, Operation.empties, codes_after, inserted, after}
use Rattle.coherence.specs.Keeping.{AllCurrent, KeepsSpans}
use Rattle.coherence.specs.Entering.{FoundMayBeEntered}
use Rattle.coherence.specs.KeepingOf.{Calls, Finding, Leads, Leads.begin, KeepsSpansOf, FoundMayBeEnteredOf, CanBeMade}
use Rattle.coherence.specs.KeepingOf as Of
use Rattle.coherence.proofs.Kept.{keeps_spans}
use Rattle.coherence.proofs.Found.{found_may_be_entered}

-- what one operation leaves, by the definitions
abbrev pub left_by : Codes → Operation → List Entry → List Entry
left_by cs (translates q) xs = inserted xs q (reply_to q cs)
left_by cs (writes a n cs') xs = drop_touched xs a n
left_by cs empties xs = empty xs

one_more : (es : List Entry) (cs : Codes) (o : Operation) (earlier : List Operation)
    → left_by (codes_after cs earlier) o (after es cs earlier) ≡ after es cs (o ∷ earlier)
one_more es cs (translates q) earlier = refl
one_more es cs (writes a n cs') earlier = refl
one_more es cs empties earlier = refl

module _ (May : Calls) (leaves : (cs : Codes) (o : Operation) (xs ys : List Entry) → May cs o xs ys → ys ≡ left_by cs o xs) where
  led : (es : List Entry) (cs : Codes) (operations : List Operation) (xs : List Entry) → Leads May es cs operations xs
      → xs ≡ after es cs operations
  led es cs operations xs begin = refl
  led es cs operations ys (Of.Leads.then {o = o} {operations = earlier} {xs = xs} l call) =
      leaves (codes_after cs earlier) o xs ys call ∙ ap (left_by (codes_after cs earlier) o) (led es cs earlier xs l)
      ∙ one_more es cs o earlier

  pub keeps_spans_of : KeepsSpansOf May
  unfolding KeepsSpans
  keeps_spans_of es xs cs operations n w l =
      subst (AllCurrent cs operations) (sym (led es cs operations xs l)) (keeps_spans es cs operations n w)

  pub found_may_be_entered_of : (Finds : Finding)
      → ((xs : List Entry) (j : Key) (e : Entry) → Finds xs j e → find xs j ≡ Some e) → FoundMayBeEnteredOf Finds May
  unfolding FoundMayBeEntered
  found_may_be_entered_of Finds finds es xs cs operations n w l j e f =
      found_may_be_entered es cs operations n w j e
      (sym (ap (λ (zs : List Entry). find zs j) (led es cs operations xs l)) ∙ finds xs j e f)

module _ (May : Calls) (can : (cs : Codes) (o : Operation) (xs : List Entry) → May cs o xs (left_by cs o xs)) where
  pub reached : CanBeMade May
  reached es cs [] = begin
  reached es cs (translates q ∷ earlier) =
      Of.Leads.then (reached es cs earlier) (can (codes_after cs earlier) (translates q) (after es cs earlier))
  reached es cs (writes a n cs' ∷ earlier) =
      Of.Leads.then (reached es cs earlier) (can (codes_after cs earlier) (writes a n cs') (after es cs earlier))
  reached es cs (empties ∷ earlier) = Of.Leads.then (reached es cs earlier) (can (codes_after cs earlier) empties (after es cs earlier))
