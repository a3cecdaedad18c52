-- The history of the code: each call's contract gives what the definitions say, and a call that gives it can be made.
use Rattle.std.specs.Prelude.{Result, Ok, Err}
use Rattle.std.specs.List.{list_any, position_or_len}
use Rattle.std.proofs.Common.{◌≡◌, refl, ap, subst, Bool, true, false, List, ℕ}
use Rattle.entry.specs.Index.{find, insert, taken}
use Rattle.entry.specs.History.{Event, Operation, Operation.inserts, Operation.empties, Operation.drops, outcome}
use Rattle.entry.specs.declared.Key.{Key}
use Rattle.entry.specs.declared.Entry.{Entry}
use Rattle.entry.specs.declared.NativeBlock.{NativeBlock}
use Rattle.index.specs.Answers.{Inserts}
use Rattle.index.specs.HistoryInCode.{Does, HistoryInCode, CallsCanBeMade}
use Rattle.index.proofs.Along.{told_by, left_by, Meets, history_of, reached}
use Rattle.index.specs.declared.Refusal.{Refusal}
use Rattle.index.specs.declared.Refusal.TheVariants.{Full}

meets : (o : Operation) (xs : List Entry) (event : Event) (ys : List Entry) → Does o xs event ys → Meets o xs event ys
meets o xs event ys (Does.insert {k = k} {b = b} call) = record {
  tells = ap (λ (a : ℕ × List ℕ). outcome a k b) call.answers;
  leaves = call.leaves;
}
meets o xs event ys (Does.empty call) = record { tells = refl; leaves = call.leaves }
meets o xs event ys (Does.drop call) = record { tells = refl; leaves = call.leaves }

pub history_in_code : HistoryInCode
unfolding HistoryInCode
history_in_code = history_of Does meets _ (λ answer. answer) (λ xs k r finds. finds)

-- an insert that answers by the definition
pub record Inserted (es : List Entry) (k : Key) (b : NativeBlock) : Type 0 where
  pub r : Result ℕ Refusal
  pub call : Inserts es (insert es k b) k b r

pub inserted : (es : List Entry) (k : Key) (b : NativeBlock) → Inserted es k b
inserted es k b = at (list_any (taken es k) es) refl
  where
    at : (t : Bool) → list_any (taken es k) es ≡ t → Inserted es k b
    at true e = record { r = Ok (position_or_len (taken es k) es); call = record { answers = rw e refl; leaves = refl } }
    at false e = record { r = Err Full; call = record { answers = rw e refl; leaves = refl } }

can : (o : Operation) (xs : List Entry) → Does o xs (told_by o xs) (left_by o xs)
can (inserts k b) xs =
    let i = inserted xs k b in
    subst (λ (a : ℕ × List ℕ). Does (inserts k b) xs (outcome a k b) (insert xs k b)) i.call.answers (Does.insert i.call)
can empties xs = Does.empty (record { leaves = refl; clears = refl })
can (drops a n) xs = Does.drop (record { answers = refl; leaves = refl })

pub calls_can_be_made : CallsCanBeMade
unfolding CallsCanBeMade
calls_can_be_made = record { operations = reached Does can; find = λ xs k. (find xs k, refl) }
