-- What the code's functions promise, by the definitions of Index.
use Rattle.std.specs.Prelude.{◌≡◌, List, [], ◌∷◌, ℕ, Option, Result, Ok, Err}
use Rattle.entry.specs.Index.{find, insert_answer, insert, empty, drop_touched, drop_answer}
use Rattle.entry.specs.declared.Key.{Key}
use Rattle.entry.specs.declared.Entry.{Entry}
use Rattle.entry.specs.declared.NativeBlock.{NativeBlock}
use Rattle.index.specs.declared.Refusal.{Refusal}
use Rattle.index.specs.declared.Refusal.TheVariants.{Full}

-- the answer is the definition's
abbrev pub Finds : List Entry → Key → Option Entry → Type 0
Finds es k r = r ≡ find es k

-- insert's number and values: the index, or 8
abbrev pub numbered : Result ℕ Refusal → ℕ × List ℕ
numbered (Ok i) = (0, i ∷ [])
numbered (Err Full) = (8, [])

-- the answer, and every entry afterwards, are the definition's
pub record Inserts (es es' : List Entry) (k : Key) (b : NativeBlock) (r : Result ℕ Refusal) : Type 0 where
  pub answers : numbered r ≡ insert_answer es k
  pub leaves : es' ≡ insert es k b

-- emptying has no answer; the store's mark returns to 0 with it
pub record Empties (es es' : List Entry) (mark' : ℕ) : Type 0 where
  pub leaves : es' ≡ empty es
  pub clears : mark' ≡ 0

-- how many were dropped, and every entry afterwards
pub record Drops (es es' : List Entry) (address n : ℕ) (r : ℕ) : Type 0 where
  pub answers : r ≡ drop_answer es address n
  pub leaves : es' ≡ drop_touched es address n
