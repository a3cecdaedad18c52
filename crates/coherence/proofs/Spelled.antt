-- The statements spelled out once more, of any arguments: whoever lets one ask more, or say less, has to write it here too.
use Rattle.std.specs.Prelude.{Some, slice_get}
use Rattle.std.specs.List.{list_any}
use Rattle.std.proofs.Common.{◌≡◌, ◌≢◌, true, false, List, ◌∷◌, ◌++◌, ℕ, ◌+◌, ◌*◌, ◌%◌, ◌^◌, ◌<◌, ◌≤◌, length}
use Rattle.agreement.specs.Riscv.Code.{SameIn}
use Rattle.agreement.specs.Statement.Kept.{Kept, Current}
use Rattle.agreement.specs.Statement.Premises.{Unchanged}
use Rattle.agreement.specs.Translation.Replies.{Reply.block}
use Rattle.entry.specs.Index.{find, is_in_use, key_of}
use Rattle.entry.specs.declared.Entry.{Entry}
use Rattle.entry.specs.declared.Key.{Key}
use Rattle.index.specs.Answers.{Finds}
use Rattle.coherence.specs.Keeping.{Codes, Request, key, native, reply_to, run_for, Operation, Operation.translates, Operation.writes, Operation.empties}
use Rattle.coherence.specs.Keeping.{codes_after, OnlyWrites, after, IsCurrent, KeepsSpans}
use Rattle.coherence.specs.Entering.{AskedOfCode, Enters, MayBeEntered, FoundMayBeEntered}
use Rattle.coherence.specs.KeepingOf.{Leads}
use Rattle.coherence.specs.KeepingInCode.{Does, KeepsSpansInCode, FoundMayBeEnteredInCode, CallsCanBeMade}
use Rattle.coherence.proofs.Kept.{keeps_spans}
use Rattle.coherence.proofs.Found.{found_may_be_entered}
use Rattle.coherence.proofs.KeptInCode.{keeps_spans_in_code, found_may_be_entered_in_code}
use Rattle.coherence.proofs.Reached.{calls_can_be_made}

-- 1. The theorems, of any arguments

kept_of_any : (es : List Entry) (cs : Codes) (operations : List Operation) → list_any is_in_use es ≡ false → OnlyWrites cs operations
    → (slot : ℕ) (e : Entry) → slice_get (after es cs operations) slot ≡ Some e → is_in_use e ≡ true → IsCurrent cs operations e
unfolding KeepsSpans
kept_of_any = keeps_spans

found_of_any : (es : List Entry) (cs : Codes) (operations : List Operation) → list_any is_in_use es ≡ false → OnlyWrites cs operations
    → (j : Key) (e : Entry) → find (after es cs operations) j ≡ Some e → MayBeEntered cs operations j e
unfolding FoundMayBeEntered
found_of_any = found_may_be_entered

kept_by_any_calls : (es xs : List Entry) (cs : Codes) (operations : List Operation) → list_any is_in_use es ≡ false
    → OnlyWrites cs operations
    → Leads Does es cs operations xs → (slot : ℕ) (e : Entry) → slice_get xs slot ≡ Some e → is_in_use e ≡ true → IsCurrent cs operations e
unfolding KeepsSpansInCode
kept_by_any_calls = keeps_spans_in_code

found_by_any_calls : (es xs : List Entry) (cs : Codes) (operations : List Operation) → list_any is_in_use es ≡ false
    → OnlyWrites cs operations
    → Leads Does es cs operations xs → (j : Key) (e : Entry) → Finds xs j (Some e) → MayBeEntered cs operations j e
unfolding FoundMayBeEnteredInCode
found_by_any_calls = found_may_be_entered_in_code

calls_on_any : (es : List Entry) (cs : Codes) (operations : List Operation) → Leads Does es cs operations (after es cs operations)
unfolding CallsCanBeMade
calls_on_any = calls_can_be_made

-- 2. What is asked of operations: of a write that it changes no more than it writes, of the others nothing

write_by : (a n : ℕ) (cs cs' : Codes) (earlier : List Operation)
    → ((satp x : ℕ) → x < 2 ^ 64 → ((j : ℕ) → j < n → (a + j) % 2 ^ 64 ≢ x) → ((j : ℕ) → j < n → (a + j) % 2 ^ 64 ≢ (x + 1) % 2 ^ 64)
    → cs' satp x ≡ codes_after cs earlier satp x)
    → OnlyWrites cs earlier → OnlyWrites cs (writes a n cs' ∷ earlier)
write_by a n cs cs' earlier w o = (w, o)

translation_by : (q : Request) (cs : Codes) (earlier : List Operation) → OnlyWrites cs earlier → OnlyWrites cs (translates q ∷ earlier)
translation_by q cs earlier o = o

emptying_by : (cs : Codes) (earlier : List Operation) → OnlyWrites cs earlier → OnlyWrites cs (empties ∷ earlier)
emptying_by cs earlier o = o

-- 3. What is said of an entry

current_says : (cs : Codes) (operations : List Operation) (e : Entry) → (c : IsCurrent cs operations e)
    → (operations ≡ c.later ++ (translates c.request ∷ c.earlier)) × (reply_to c.request (codes_after cs c.earlier) ≡ block c.b)
    × (key_of e ≡ key c.request) × (e.block ≡ native c.request c.b)
    × SameIn c.request.pc c.b.span (codes_after cs c.earlier c.request.satp) (codes_after cs operations c.request.satp)
current_says cs operations e c = (c.when, c.made, c.has_key, c.has_block, c.same)

may_be_entered_says : (cs : Codes) (operations : List Operation) (j : Key) (e : Entry) → (m : MayBeEntered cs operations j e)
    → (m.current.request.satp ≡ j.satp) × (m.current.request.pc ≡ j.pc)
    × ((k : Kept) → Enters m.current.request (codes_after cs m.current.earlier) (codes_after cs operations) k → e.block.span ≤ 2 * k.reach
    → Unchanged k.turn j.pc × Current k j.pc)
may_be_entered_says cs operations j e m = (m.under, m.at, λ k n r. let a : AskedOfCode k j.pc = m.enters k n r in (a.made, a.now))

-- a turn enters a block by its request's numbers and the two codes alone
enters_by : (q : Request) (those these : Codes) (k : Kept) → k.turn.limit ≡ q.limit → k.turn.made ≡ run_for q those
    → k.turn.code ≡ those q.satp
    → k.turn.reach ≡ q.reach → k.turn.helper16 ≡ q.helper16 → k.turn.helper_mem ≡ q.helper_mem → length k.turn.output ≡ q.room
    → k.now ≡ these q.satp → Enters q those these k
enters_by q those these k a b c d e f g h = record {
  limit = a;
  made = b;
  code = c;
  reach = d;
  helper16 = e;
  helper_mem = f;
  room = g;
  now = h;
}
