-- The history of the code: of calls of `find`, `insert`, `empty` and `drop_touched` that meet their contracts.
use Rattle.std.specs.Prelude.{List, ℕ, Result}
use Rattle.index.specs.Answers.{numbered, Finds, Inserts, Empties, Drops}
use Rattle.index.specs.HistoryOf.{HistoryOf, CanBeMade}
use Rattle.entry.specs.History.{Event, Event.emptied, Event.dropped, Operation, Operation.inserts, Operation.empties, Operation.drops, outcome}
use Rattle.entry.specs.declared.Key.{Key}
use Rattle.entry.specs.declared.Entry.{Entry}
use Rattle.entry.specs.declared.NativeBlock.{NativeBlock}
use Rattle.index.specs.declared.Refusal.{Refusal}

-- a call that its contract allows: from the entries xs to ys, and what happened
pub data Does : Operation → List Entry → Event → List Entry → Type 0 where
  insert : {xs ys : List Entry} {k : Key} {b : NativeBlock} {r : Result ℕ Refusal}
      → Inserts xs ys k b r → Does (inserts k b) xs (outcome (numbered r) k b) ys
  empty : {xs ys : List Entry} {mark : ℕ} → Empties xs ys mark → Does empties xs emptied ys
  drop : {xs ys : List Entry} {address n r : ℕ} → Drops xs ys address n r → Does (drops address n) xs (dropped address n) ys

unfoldable pub HistoryInCode : Type 0
HistoryInCode = HistoryOf Finds (λ answer. answer) Does

unfoldable pub CallsCanBeMade : Type 0
CallsCanBeMade = CanBeMade Finds Does
