-- The same of the code: of calls of `translate`, `insert`, `drop_touched`, `empty` and `find` that meet their contracts.
use Rattle.std.specs.Prelude.{◌≡◌, List, ℕ, length, Some, Result, Ok, Err}
use Rattle.block.specs.Answers.{Answer, Translates}
use Rattle.block.specs.declared.Block as Rust
use Rattle.block.specs.declared.Refusal.{Refusal}
use Rattle.entry.specs.declared.Entry.{Entry}
use Rattle.entry.specs.declared.NativeBlock.{NativeBlock}
use Rattle.index.specs.Answers.{Finds, Inserts, Empties, Drops}
use Rattle.index.specs.declared.Refusal as Index
use Rattle.coherence.specs.Keeping.{Codes, Request, run_for, key, Operation, Operation.translates, Operation.writes, Operation.empties}
use Rattle.coherence.specs.KeepingOf.{KeepsSpansOf, FoundMayBeEnteredOf, CanBeMade}

-- a call of `translate` for a request answers r, with an output of so many bytes
abbrev pub Calls : Request → Codes → Answer → Type 0
Calls q cs r = (before : List ℕ) × (after : List ℕ) × (length before ≡ q.room)
    × Translates q.pc q.limit (run_for q cs) q.helper16 q.helper_mem before after r

-- what a caller makes of a block that was placed at the request's offset
abbrev pub native_of : Request → Rust.Block → NativeBlock
native_of q b = record { offset = q.offset; count = b.count; length = b.length; span = b.span }

-- an operation by calls that their contracts allow: a block that `translate` answers is inserted
pub data Does (cs : Codes) : Operation → List Entry → List Entry → Type 0 where
  insert : {xs ys : List Entry} {q : Request} {b : Rust.Block} {r : Result ℕ Index.Refusal}
      → Calls q cs (Ok b) → Inserts xs ys (key q) (native_of q b) r → Does cs (translates q) xs ys
  refused : {xs : List Entry} {q : Request} {r : Refusal} → Calls q cs (Err r) → Does cs (translates q) xs xs
  drop : {xs ys : List Entry} {a n r : ℕ} {cs' : Codes} → Drops xs ys a n r → Does cs (writes a n cs') xs ys
  empty : {xs ys : List Entry} {mark : ℕ} → Empties xs ys mark → Does cs empties xs ys

unfoldable pub KeepsSpansInCode : Type 0
KeepsSpansInCode = KeepsSpansOf Does

unfoldable pub FoundMayBeEnteredInCode : Type 0
FoundMayBeEnteredInCode = FoundMayBeEnteredOf (λ xs j e. Finds xs j (Some e)) Does

unfoldable pub CallsCanBeMade : Type 0
CallsCanBeMade = CanBeMade Does
