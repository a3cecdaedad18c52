-- The history of functions whose every call tells and leaves what the definitions say.
use Rattle.std.specs.Prelude.{Option}
use Rattle.std.specs.List.{list_any}
use Rattle.std.proofs.Common.{◌≡◌, sym, ap, ◌∙◌, subst, false, List, [], ◌∷◌}
use Rattle.entry.specs.Index.{is_in_use, find, insert_answer, insert, empty, drop_touched}
use Rattle.entry.specs.History.{Event, Event.emptied, Event.dropped, Operation, Operation.inserts, Operation.empties, Operation.drops}
use Rattle.entry.specs.History.{after, events, outcome}
use Rattle.entry.specs.declared.Key.{Key}
use Rattle.entry.specs.declared.Entry.{Entry}
use Rattle.entry.proofs.LastShown.{Preserved, preserved_start, preserved_insert, preserved_empty, preserved_drop, shows_last}
use Rattle.index.specs.HistoryOf.{Calls, Finding, Leads, Leads.begin, HistoryOf}
use Rattle.index.specs.HistoryOf as Of

-- 1. One call, by the definitions

abbrev pub told_by : Operation → List Entry → Event
told_by (inserts k b) xs = outcome (insert_answer xs k) k b
told_by empties xs = emptied
told_by (drops a n) xs = dropped a n

abbrev pub left_by : Operation → List Entry → List Entry
left_by (inserts k b) xs = insert xs k b
left_by empties xs = empty xs
left_by (drops a n) xs = drop_touched xs a n

pub record Meets (o : Operation) (xs : List Entry) (event : Event) (ys : List Entry) : Type 0 where
  pub tells : event ≡ told_by o xs
  pub leaves : ys ≡ left_by o xs

preserved_by : (o : Operation) (xs : List Entry) (happened : List Event) → Preserved xs happened
    → Preserved (left_by o xs) (told_by o xs ∷ happened)
preserved_by (inserts k b) xs happened p = preserved_insert xs happened p k b
preserved_by empties xs happened p = preserved_empty xs happened p
preserved_by (drops a n) xs happened p = preserved_drop xs happened p a n

-- 2. The history

module _ (May : Calls)
    (meets : (o : Operation) (xs : List Entry) (event : Event) (ys : List Entry) → May o xs event ys → Meets o xs event ys) where
  preserved_along : (es zs : List Entry) (all : List Event) → list_any is_in_use es ≡ false → Leads May es all zs → Preserved zs all
  preserved_along es zs all h begin = preserved_start es h
  preserved_along es zs all h (Of.Leads.then {o} {event} {happened} {xs} {ys} led call) =
      let m = meets o xs event ys call in
      subst (λ (l : List Entry). Preserved l all) (sym m.leaves)
      (subst (λ (e : Event). Preserved (left_by o xs) (e ∷ happened)) (sym m.tells)
      (preserved_by o xs happened (preserved_along es xs happened h led)))

  pub history_of : {Answer : Type 0} (Finds : Finding Answer) (told : Option Entry → Answer)
      → ((xs : List Entry) (k : Key) (r : Answer) → Finds xs k r → r ≡ told (find xs k)) → HistoryOf Finds told May
  history_of Finds told finds es xs happened h led =
      let p = preserved_along es xs happened h led in
      record {
        shows = λ k r f. finds xs k r f ∙ ap told (p.shows k);
        distinct = (shows_last xs happened p).distinct;
      }

-- 3. Where each call can be made, any list of them can

module _ (May : Calls) (can : (o : Operation) (xs : List Entry) → May o xs (told_by o xs) (left_by o xs)) where
  pub reached : (es : List Entry) (operations : List Operation) → Leads May es (events es operations) (after es operations)
  reached es [] = begin
  reached es (inserts k b ∷ earlier) = Of.Leads.then (reached es earlier) (can (inserts k b) (after es earlier))
  reached es (empties ∷ earlier) = Of.Leads.then (reached es earlier) (can empties (after es earlier))
  reached es (drops a n ∷ earlier) = Of.Leads.then (reached es earlier) (can (drops a n) (after es earlier))
