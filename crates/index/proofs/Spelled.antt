-- The statements spelled out once more, of any arguments, and what each contract says: whoever lets one ask more, or say less, has to
-- write it here
-- too.
use Rattle.std.specs.Prelude.{Option, Result}
use Rattle.std.specs.List.{list_any}
use Rattle.std.proofs.Common.{◌≡◌, false, List, ℕ}
use Rattle.entry.specs.Index.{drop_answer, drop_touched, empty, find, insert, insert_answer, is_in_use}
use Rattle.entry.specs.History.{Event, Operation, after, events, last, showing, Distinct}
use Rattle.entry.specs.declared.Key.{Key}
use Rattle.entry.specs.declared.Entry.{Entry}
use Rattle.entry.specs.declared.NativeBlock.{NativeBlock}
use Rattle.index.specs.Answers.{Finds, Inserts, Empties, Drops, numbered}
use Rattle.index.specs.HistoryOf.{Leads}
use Rattle.index.specs.HistoryInCode.{Does, HistoryInCode, CallsCanBeMade}
use Rattle.index.specs.declared.Refusal.{Refusal}
use Rattle.index.proofs.InCode.{history_in_code, calls_can_be_made}

of_any : (es xs : List Entry) (happened : List Event) → list_any is_in_use es ≡ false → Leads Does es happened xs
    → ((k : Key) (r : Option Entry) → Finds xs k r → r ≡ showing k (last happened k)) × Distinct xs
unfolding HistoryInCode
of_any es xs happened h l = let s = history_in_code es xs happened h l in (s.shows, s.distinct)

calls_on_any : (es : List Entry) (operations : List Operation) → Leads Does es (events es operations) (after es operations)
unfolding CallsCanBeMade
calls_on_any = calls_can_be_made.operations

found_in_any : (es : List Entry) (k : Key) → (r : Option Entry) × Finds es k r
unfolding CallsCanBeMade
found_in_any = calls_can_be_made.find

finds_says : (es : List Entry) (k : Key) (r : Option Entry) → Finds es k r → r ≡ find es k
finds_says es k r f = f

inserts_says : (es es' : List Entry) (k : Key) (b : NativeBlock) (r : Result ℕ Refusal) → Inserts es es' k b r
    → (numbered r ≡ insert_answer es k) × (es' ≡ insert es k b)
inserts_says es es' k b r i = (i.answers, i.leaves)

empties_says : (es es' : List Entry) (mark' : ℕ) → Empties es es' mark' → (es' ≡ empty es) × (mark' ≡ 0)
empties_says es es' mark' e = (e.leaves, e.clears)

drops_says : (es es' : List Entry) (address n r : ℕ) → Drops es es' address n r → (r ≡ drop_answer es address n)
    × (es' ≡ drop_touched es address n)
drops_says es es' address n r d = (d.answers, d.leaves)
