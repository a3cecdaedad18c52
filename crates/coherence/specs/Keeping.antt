-- Blocks kept while the guest writes (document 02, Q-5): from an empty index, through any order of translations that are inserted, guest
-- writes each followed by its drop, and emptyings, every entry in use has its code unchanged in the bytes that its block spans. Lists
-- have the latest first.
use Rattle.std.specs.Prelude.{◌≡◌, ◌≢◌, false, true, List, [], ◌∷◌, ◌++◌, ℕ, ◌+◌, ◌%◌, ◌^◌, ◌<◌, length, Some, slice_get}
use Rattle.std.specs.List.{list_any}
use Rattle.agreement.specs.Riscv.Code.{Code, run_at, SameIn}
use Rattle.agreement.specs.Translation.Replies.{Block, Reply, Reply.block, Reply.refusal, translate}
use Rattle.entry.specs.Index.{is_in_use, key_of, insert, empty, drop_touched}
use Rattle.entry.specs.declared.Key.{Key}
use Rattle.entry.specs.declared.Entry.{Entry}
use Rattle.entry.specs.declared.NativeBlock.{NativeBlock}

-- 1. The guest's code, one for each satp, and its writes

abbrev pub Codes : Type 0
Codes = ℕ → Code

-- the byte at x is none of the n bytes from a on
abbrev pub Spared : ℕ → ℕ → ℕ → Type 0
Spared a n x = (j : ℕ) → j < n → (a + j) % 2 ^ 64 ≢ x

-- a write of n bytes from a on may change, under every satp, the halfwords that have one of these bytes, and nothing else; the halfword
-- at x has the bytes x and x + 1
abbrev pub Writes : ℕ → ℕ → Codes → Codes → Type 0
Writes a n cs cs' = (satp x : ℕ) → x < 2 ^ 64 → Spared a n x → Spared a n ((x + 1) % 2 ^ 64) → cs' satp x ≡ cs satp x

-- 2. What a caller does

-- a translation of the code under satp as it is then, so far as it was fetched, and where its block was placed
pub record Request : Type 0 where
  pub satp : ℕ
  pub pc : ℕ
  pub limit : ℕ
  pub reach : ℕ
  pub helper16 : ℕ
  pub helper_mem : ℕ
  pub room : ℕ
  pub offset : ℕ

abbrev pub run_for : Request → Codes → List ℕ
run_for q cs = run_at (cs q.satp) q.pc q.reach

abbrev pub reply_to : Request → Codes → Reply
reply_to q cs = translate q.pc q.limit (run_for q cs) q.helper16 q.helper_mem q.room

abbrev pub key : Request → Key
key q = record { satp = q.satp; pc = q.pc }

abbrev pub native : Request → Block → NativeBlock
native q b = record { offset = q.offset; count = b.count; length = length b.code; span = b.span }

-- a translation, whose block is inserted; a write of n bytes from an address on, with the codes that it leaves, behind which the entries
-- that it touches are dropped; emptying
pub data Operation : Type 0 where
  translates : Request → Operation
  writes : (a n : ℕ) → Codes → Operation
  empties : Operation

abbrev pub codes_after : Codes → List Operation → Codes
codes_after cs [] = cs
codes_after cs (translates q ∷ earlier) = codes_after cs earlier
codes_after cs (writes a n cs' ∷ earlier) = cs'
codes_after cs (empties ∷ earlier) = codes_after cs earlier

-- each write changes the codes at its addresses alone
abbrev pub OnlyWrites : Codes → List Operation → Type 0
OnlyWrites cs [] = Unit
OnlyWrites cs (translates q ∷ earlier) = OnlyWrites cs earlier
OnlyWrites cs (writes a n cs' ∷ earlier) = Writes a n (codes_after cs earlier) cs' × OnlyWrites cs earlier
OnlyWrites cs (empties ∷ earlier) = OnlyWrites cs earlier

abbrev pub inserted : List Entry → Request → Reply → List Entry
inserted es q (block b) = insert es (key q) (native q b)
inserted es q (refusal r) = es

abbrev pub after : List Entry → Codes → List Operation → List Entry
after es cs [] = es
after es cs (translates q ∷ earlier) = inserted (after es cs earlier) q (reply_to q (codes_after cs earlier))
after es cs (writes a n cs' ∷ earlier) = drop_touched (after es cs earlier) a n
after es cs (empties ∷ earlier) = empty (after es cs earlier)

-- 3. The theorem

-- the entry is of one of these translations, and the code is in the bytes that its block spans what it was then
pub record IsCurrent (cs : Codes) (operations : List Operation) (e : Entry) : Type 0 where
  pub later : List Operation
  pub request : Request
  pub earlier : List Operation
  pub when : operations ≡ later ++ (translates request ∷ earlier)
  pub b : Block
  pub made : reply_to request (codes_after cs earlier) ≡ block b
  pub has_key : key_of e ≡ key request
  pub has_block : e.block ≡ native request b
  pub same : SameIn request.pc b.span (codes_after cs earlier request.satp) (codes_after cs operations request.satp)

abbrev pub AllCurrent : Codes → List Operation → List Entry → Type 0
AllCurrent cs operations es = (slot : ℕ) (e : Entry) → slice_get es slot ≡ Some e → is_in_use e ≡ true → IsCurrent cs operations e

unfoldable pub KeepsSpans : Type 0
KeepsSpans = (es : List Entry) (cs : Codes) (operations : List Operation) → list_any is_in_use es ≡ false → OnlyWrites cs operations
    → AllCurrent cs operations (after es cs operations)
