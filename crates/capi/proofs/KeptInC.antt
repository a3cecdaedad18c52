-- Blocks that are kept, of the exported functions: each contract gives what the definitions say, and a call that gives it can be made.
use Rattle.std.specs.Prelude.{Option, Some, None}
use Rattle.std.proofs.Common.{◌≡◌, ◌≢◌, refl, sym, ap, ◌∙◌, true, true≢false, List, ℕ, ◌<◌, length, replicate, arith}
use Rattle.std.proofs.lemmas.List.{length-replicate}
use Rattle.agreement.specs.Translation.Replies.{Block, Reply.block, Reply.refusal, output_after, numbered, translate}
use Rattle.agreement.specs.Translation.Replies.Refusal.{limit_zero, odd_start, missing, not_taken, output_short}
use Rattle.agreement.specs.Translation.Replies as Translation
use Rattle.entry.specs.Index.{is_in_use, find, insert_answer, insert}
use Rattle.entry.specs.declared.Entry.{Entry}
use Rattle.coherence.specs.Keeping.{Codes, Request, reply_to, run_for, key, Operation, Operation.translates, Operation.writes}
use Rattle.coherence.specs.Keeping.{Operation.empties, inserted}
use Rattle.coherence.proofs.Along.{left_by, keeps_spans_of, found_may_be_entered_of, reached}
use Rattle.capi.specs.Replies.{padded}
use Rattle.capi.specs.Indexes.{told}
use Rattle.capi.specs.KeepingInC.{Calls, native_of, Does, Finds, KeepsSpansInC, FoundMayBeEnteredInC, CallsCanBeMade}
use Rattle.capi.specs.declared.Reply.{Reply}

-- 1. What a reply says

replied : (q : Request) (cs : Codes) (r : Reply) → Calls q cs r → r ≡ padded (numbered (reply_to q cs))
replied q cs r (before, after, long, call) =
    call.replies ∙ ap (λ (n : ℕ). padded (numbered (translate q.pc q.limit (run_for q cs) q.helper16 q.helper_mem n))) long

-- with number 0 a block that is inserted is the definition's
block_inserted : (q : Request) (p : Translation.Reply) (r : Reply) (es : List Entry) → r ≡ padded (numbered p) → r.number ≡ 0
    → insert es (key q) (native_of q r) ≡ inserted es q p
unfolding numbered
block_inserted q (block b) r es e z = ap (λ (s : Reply). insert es (key q) (native_of q s)) e
block_inserted q (refusal limit_zero) r es e z = let n : r.number ≡ 1 = ap (λ (s : Reply). s.number) e in absurd (omega (arith, n, z))
block_inserted q (refusal (odd_start s)) r es e z = let n : r.number ≡ 2 = ap (λ (s : Reply). s.number) e in absurd (omega (arith, n, z))
block_inserted q (refusal (missing i)) r es e z = let n : r.number ≡ 3 = ap (λ (s : Reply). s.number) e in absurd (omega (arith, n, z))
block_inserted q (refusal (not_taken w)) r es e z = let n : r.number ≡ 4 = ap (λ (s : Reply). s.number) e in absurd (omega (arith, n, z))
block_inserted q (refusal output_short) r es e z = let n : r.number ≡ 5 = ap (λ (s : Reply). s.number) e in absurd (omega (arith, n, z))

-- with another nothing is
none_inserted : (q : Request) (p : Translation.Reply) (r : Reply) (es : List Entry) → r ≡ padded (numbered p) → r.number ≢ 0
    → es ≡ inserted es q p
unfolding numbered
none_inserted q (block b) r es e z = absurd (z (ap (λ (s : Reply). s.number) e))
none_inserted q (refusal x) r es e z = refl

leaves : (cs : Codes) (o : Operation) (xs ys : List Entry) → Does cs o xs ys → ys ≡ left_by cs o xs
leaves cs o xs ys (Does.insert {q = q} {r = r} c z i) = i.leaves ∙ block_inserted q (reply_to q cs) r xs (replied q cs r c) z
leaves cs o xs ys (Does.refused {q = q} {r = r} c z) = none_inserted q (reply_to q cs) r xs (replied q cs r c) z
leaves cs o xs ys (Does.drop d) = d.leaves
leaves cs o xs ys (Does.empty d) = d.leaves

-- an entry in use is not the blank one
in_use : (o : Option Entry) (e : Entry) → e ≡ told o → is_in_use e ≡ true → o ≡ Some e
in_use (Some d) e t u = ap (λ (x : Entry). Some x) (sym t)
in_use None e t u = absurd (true≢false (sym u ∙ ap is_in_use t))

-- 2. The theorems

pub keeps_spans_in_c : KeepsSpansInC
unfolding KeepsSpansInC
keeps_spans_in_c = keeps_spans_of Does leaves

pub found_may_be_entered_in_c : FoundMayBeEnteredInC
unfolding FoundMayBeEnteredInC
found_may_be_entered_in_c = found_may_be_entered_of Does leaves Finds (λ xs j e f. in_use (find xs j) e f.0.tells f.1)

-- 3. Such calls

calls : (q : Request) (cs : Codes) → Calls q cs (padded (numbered (reply_to q cs)))
calls q cs = (
  out,
  output_after (reply (length out)) out,
  long,
  record { replies = ap (λ (n : ℕ). padded (numbered (reply n))) (sym long); leaves = refl },
)
  where
    out : List ℕ
    out = replicate q.room 0

    long : length out ≡ q.room
    long = length-replicate q.room 0

    reply : ℕ → Translation.Reply
    reply = translate q.pc q.limit (run_for q cs) q.helper16 q.helper_mem

not_0 : (n : ℕ) → 0 < n → n ≢ 0
not_0 n h e = omega (arith, h, e)

can : (cs : Codes) (o : Operation) (xs : List Entry) → Does cs o xs (left_by cs o xs)
unfolding numbered
can cs (translates q) xs = at (reply_to q cs) (calls q cs)
  where
    at : (p : Translation.Reply) → Calls q cs (padded (numbered p)) → Does cs (translates q) xs (inserted xs q p)
    at (block b) c = Does.insert {inserted = padded (insert_answer xs (key q))} c refl (record { replies = refl; leaves = refl })
    at (refusal limit_zero) c = Does.refused c (not_0 1 (omega arith))
    at (refusal (odd_start start)) c = Does.refused c (not_0 2 (omega arith))
    at (refusal (missing index)) c = Does.refused c (not_0 3 (omega arith))
    at (refusal (not_taken word)) c = Does.refused c (not_0 4 (omega arith))
    at (refusal output_short) c = Does.refused c (not_0 5 (omega arith))
can cs (writes a n cs') xs = Does.drop (record { answers = refl; leaves = refl })
can cs empties xs = Does.empty (record { leaves = refl; clears = refl })

pub calls_can_be_made : CallsCanBeMade
unfolding CallsCanBeMade
calls_can_be_made = reached Does can
