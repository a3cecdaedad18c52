-- The history of the exported functions: each contract gives what the definitions say, and a call that gives it can be made.
use Rattle.std.proofs.Common.{refl, ap, List, []}
use Rattle.entry.specs.Index.{find, insert_answer}
use Rattle.entry.specs.History.{Event, Operation, Operation.inserts, Operation.empties, Operation.drops, outcome}
use Rattle.entry.specs.declared.Entry.{Entry}
use Rattle.index.proofs.Along.{told_by, left_by, Meets, history_of, reached}
use Rattle.capi.specs.Replies.{padded}
use Rattle.capi.specs.Indexes.{told}
use Rattle.capi.specs.HistoryInC.{Finds, Does, HistoryInC, CallsCanBeMade}
use Rattle.capi.specs.declared.Reply.{Reply}

-- the record of numbers has the answer's number
meets : (o : Operation) (xs : List Entry) (event : Event) (ys : List Entry) → Does o xs event ys → Meets o xs event ys
meets o xs event ys (Does.insert {k = k} {b = b} call) = record {
  tells = ap (λ (r : Reply). outcome (r.number, []) k b) call.replies;
  leaves = call.leaves;
}
meets o xs event ys (Does.empty call) = record { tells = refl; leaves = call.leaves }
meets o xs event ys (Does.drop call) = record { tells = refl; leaves = call.leaves }

pub history_in_c : HistoryInC
unfolding HistoryInC
history_in_c = history_of Does meets Finds told (λ xs k r finds. finds.tells)

can : (o : Operation) (xs : List Entry) → Does o xs (told_by o xs) (left_by o xs)
can (inserts k b) xs = Does.insert {r = padded (insert_answer xs k)} (record { replies = refl; leaves = refl })
can empties xs = Does.empty (record { leaves = refl; clears = refl })
can (drops a n) xs = Does.drop (record { answers = refl; leaves = refl })

pub calls_can_be_made : CallsCanBeMade
unfolding CallsCanBeMade
calls_can_be_made = record { operations = reached Does can; find = λ xs k. (told (find xs k), record { tells = refl }) }
