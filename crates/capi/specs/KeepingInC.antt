-- Blocks that are kept, of the exported functions: of calls of `emuko_translate`, `emuko_index_insert`, `emuko_index_drop`,
-- `emuko_index_empty` and `emuko_index_find` that meet their contracts.
use Rattle.std.specs.Prelude.{◌≡◌, ◌≢◌, true, List, ℕ, length}
use Rattle.entry.specs.Index.{is_in_use}
use Rattle.entry.specs.declared.Entry.{Entry}
use Rattle.entry.specs.declared.NativeBlock.{NativeBlock}
use Rattle.index.specs.Answers.{Empties, Drops}
use Rattle.coherence.specs.Keeping.{Codes, Request, run_for, Operation, Operation.translates, Operation.writes, Operation.empties}
use Rattle.coherence.specs.KeepingOf.{Finding, KeepsSpansOf, FoundMayBeEnteredOf, CanBeMade}
use Rattle.capi.specs.Replies.{Replies}
use Rattle.capi.specs.Indexes.{RepliesToFind, RepliesToInsert}
use Rattle.capi.specs.declared.Reply.{Reply}

-- a call of `emuko_translate` for a request replies r, with an output of so many bytes
abbrev pub Calls : Request → Codes → Reply → Type 0
Calls q cs r = (before : List ℕ) × (after : List ℕ) × (length before ≡ q.room)
    × Replies q.pc q.limit (run_for q cs) q.helper16 q.helper_mem before after r

-- what a caller makes of a block that was placed at the request's offset: the reply's values are its length, count and span
abbrev pub native_of : Request → Reply → NativeBlock
native_of q r = record { offset = q.offset; count = r.second; length = r.first; span = r.third }

-- an operation by calls that their contracts allow: a block, whose number is 0, is inserted
pub data Does (cs : Codes) : Operation → List Entry → List Entry → Type 0 where
  insert : {xs ys : List Entry} {q : Request} {r inserted : Reply}
      → Calls q cs r → r.number ≡ 0 → RepliesToInsert xs ys q.satp q.pc (native_of q r) inserted → Does cs (translates q) xs ys
  refused : {xs : List Entry} {q : Request} {r : Reply} → Calls q cs r → r.number ≢ 0 → Does cs (translates q) xs xs
  drop : {xs ys : List Entry} {a n r : ℕ} {cs' : Codes} → Drops xs ys a n r → Does cs (writes a n cs') xs ys
  empty : {xs ys : List Entry} {mark : ℕ} → Empties xs ys mark → Does cs empties xs ys

-- an entry is found where the reply is in use
abbrev pub Finds : Finding
Finds xs j e = RepliesToFind xs j.satp j.pc e × (is_in_use e ≡ true)

unfoldable pub KeepsSpansInC : Type 0
KeepsSpansInC = KeepsSpansOf Does

unfoldable pub FoundMayBeEnteredInC : Type 0
FoundMayBeEnteredInC = FoundMayBeEnteredOf Finds Does

unfoldable pub CallsCanBeMade : Type 0
CallsCanBeMade = CanBeMade Does
