-- The history of an index that began with none in use: what find shows after any list of operations, by a specification that knows no
-- slice. Lists have the latest first.
use Rattle.std.specs.Prelude.{◌≡◌, true, false, cond, ◌&&◌, List, [], ◌∷◌, ℕ, eqb, Option, Some, None, slice_get}
use Rattle.std.specs.List.{list_any}
use Rattle.entry.specs.Index.{is_in_use, find, insert_answer, insert, empty, touches, drop_touched}
use Rattle.entry.specs.declared.Key.{Key}
use Rattle.entry.specs.declared.Entry.{Entry}
use Rattle.entry.specs.declared.NativeBlock.{NativeBlock}

-- 1. Without a slice: what happened, and what a key shows then

pub data Event : Type 0 where
  inserted : Key → NativeBlock → Event
  refused : Event
  emptied : Event
  -- a write of so many bytes from an address on
  dropped : ℕ → ℕ → Event

-- what is left of a key's block behind a write: nothing, where it touches the bytes that the block spans
abbrev pub unless_touched : Key → ℕ → ℕ → Option NativeBlock → Option NativeBlock
unless_touched k a n None = None
unless_touched k a n (Some b) = cond (touches k.pc b.span a n) None (Some b)

-- the block last inserted for the key since it was last freed, or none
abbrev pub last : List Event → Key → Option NativeBlock
last [] k = None
last (inserted j b ∷ earlier) k = cond (eqb j.satp k.satp && eqb j.pc k.pc) (Some b) (last earlier k)
last (refused ∷ earlier) k = last earlier k
last (emptied ∷ earlier) k = None
last (dropped a n ∷ earlier) k = unless_touched k a n (last earlier k)

-- 2. With one: the operations, the entries that they leave, and what happened: an insert with number 8 is refused

pub data Operation : Type 0 where
  inserts : Key → NativeBlock → Operation
  empties : Operation
  drops : ℕ → ℕ → Operation

abbrev pub after : List Entry → List Operation → List Entry
after es [] = es
after es (inserts k b ∷ earlier) = insert (after es earlier) k b
after es (empties ∷ earlier) = empty (after es earlier)
after es (drops a n ∷ earlier) = drop_touched (after es earlier) a n

abbrev pub outcome : ℕ × List ℕ → Key → NativeBlock → Event
outcome answer k b = cond (eqb answer.0 8) refused (inserted k b)

abbrev pub events : List Entry → List Operation → List Event
events es [] = []
events es (inserts k b ∷ earlier) = outcome (insert_answer (after es earlier) k) k b ∷ events es earlier
events es (empties ∷ earlier) = emptied ∷ events es earlier
events es (drops a n ∷ earlier) = dropped a n ∷ events es earlier

-- 3. The theorem

-- the entry that shows a block
abbrev pub showing : Key → Option NativeBlock → Option Entry
showing k None = None
showing k (Some b) = Some (record { satp = k.satp; pc = k.pc; block = b; in_use = 1 })

-- no key stands in two entries in use: this is why it does not matter there that the first counts
abbrev pub Distinct : List Entry → Type 0
Distinct es = (i j : ℕ) (e f : Entry) → slice_get es i ≡ Some e → slice_get es j ≡ Some f
    → is_in_use e ≡ true → is_in_use f ≡ true → e.satp ≡ f.satp → e.pc ≡ f.pc → i ≡ j

pub record ShowsLast (es : List Entry) (happened : List Event) : Type 0 where
  pub shows : (k : Key) → find es k ≡ showing k (last happened k)
  pub distinct : Distinct es

unfoldable pub History : Type 0
History = (es : List Entry) (operations : List Operation) → list_any is_in_use es ≡ false
    → ShowsLast (after es operations) (events es operations)
