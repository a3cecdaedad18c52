-- The history of the exported functions: of calls of `emuko_index_find`, `emuko_index_insert`, `emuko_index_empty` and `emuko_index_drop`
-- that meet their contracts.
use Rattle.std.specs.Prelude.{List, [], ℕ}
use Rattle.entry.specs.History.{Event, Event.emptied, Event.dropped, Operation, Operation.inserts, Operation.empties, Operation.drops, outcome}
use Rattle.entry.specs.declared.Key.{Key}
use Rattle.entry.specs.declared.Entry.{Entry}
use Rattle.entry.specs.declared.NativeBlock.{NativeBlock}
use Rattle.index.specs.Answers.{Empties, Drops}
use Rattle.index.specs.HistoryOf.{Finding, HistoryOf, CanBeMade}
use Rattle.capi.specs.Indexes.{told, RepliesToFind, RepliesToInsert}
use Rattle.capi.specs.declared.Reply.{Reply}

-- the functions take a key by its parts, and reply with an entry, the blank one where none is found
abbrev pub Finds : Finding Entry
Finds xs k r = RepliesToFind xs k.satp k.pc r

-- a call that its contract allows: from the entries xs to ys, and what happened: by its number an insert was refused, or not
pub data Does : Operation → List Entry → Event → List Entry → Type 0 where
  insert : {xs ys : List Entry} {k : Key} {b : NativeBlock} {r : Reply}
      → RepliesToInsert xs ys k.satp k.pc b r → Does (inserts k b) xs (outcome (r.number, []) k b) ys
  empty : {xs ys : List Entry} {mark : ℕ} → Empties xs ys mark → Does empties xs emptied ys
  drop : {xs ys : List Entry} {address n r : ℕ} → Drops xs ys address n r → Does (drops address n) xs (dropped address n) ys

unfoldable pub HistoryInC : Type 0
HistoryInC = HistoryOf Finds told Does

unfoldable pub CallsCanBeMade : Type 0
CallsCanBeMade = CanBeMade Finds Does
