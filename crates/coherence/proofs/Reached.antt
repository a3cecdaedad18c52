-- The calls that the statements of the code speak of can be made: whatever the operations, some leave the definition's entries.
use Rattle.std.proofs.Common.{◌≡◌, refl, subst, List, ℕ, length, replicate}
use Rattle.agreement.specs.Translation.Replies.{Reply, Reply.block, Reply.refusal, output_after, translate}
use Rattle.agreement.specs.Translation.Replies.Refusal.{limit_zero, odd_start, missing, not_taken, output_short}
use Rattle.block.specs.Answers.{Answers}
use Rattle.block.proofs.CodeAgrees.{answer_to, answers}
use Rattle.std.proofs.lemmas.List.{length-replicate}
use Rattle.entry.specs.declared.Entry.{Entry}
use Rattle.coherence.specs.Keeping.{Codes, Request, reply_to, run_for, key, native, Operation, Operation.translates, Operation.writes, Operation.empties}
use Rattle.coherence.specs.Keeping as Keeping
use Rattle.coherence.specs.KeepingInCode.{Calls, Does, CallsCanBeMade}
use Rattle.coherence.proofs.Along.{left_by, reached}
use Rattle.index.proofs.InCode.{inserted}

calls : (q : Request) (cs : Codes) → Calls q cs (answer_to (reply_to q cs))
calls q cs = (out, output_after (reply (length out)) out, long, subst Answered long (answers (reply (length out)) out))
  where
    out : List ℕ
    out = replicate q.room 0

    long : length out ≡ q.room
    long = length-replicate q.room 0

    reply : ℕ → Reply
    reply = translate q.pc q.limit (run_for q cs) q.helper16 q.helper_mem

    Answered : ℕ → Type 0
    Answered n = Answers (reply (length out)) out (output_after (reply (length out)) out) (answer_to (reply n))

can : (cs : Codes) (o : Operation) (xs : List Entry) → Does cs o xs (left_by cs o xs)
can cs (translates q) xs = at (reply_to q cs) (calls q cs)
  where
    at : (r : Reply) → Calls q cs (answer_to r) → Does cs (translates q) xs (Keeping.inserted xs q r)
    at (block b) c = Does.insert c (inserted xs (key q) (native q b)).call
    at (refusal limit_zero) c = Does.refused c
    at (refusal (odd_start start)) c = Does.refused c
    at (refusal (missing index)) c = Does.refused c
    at (refusal (not_taken word)) c = Does.refused c
    at (refusal output_short) c = Does.refused c
can cs (writes a n cs') xs = Does.drop (record { answers = refl; leaves = refl })
can cs empties xs = Does.empty (record { leaves = refl; clears = refl })

pub calls_can_be_made : CallsCanBeMade
unfolding CallsCanBeMade
calls_can_be_made = reached Does can
