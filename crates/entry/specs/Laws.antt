-- What is proved beside the history: when an insert is refused, and what no write touches.
use Rattle.std.specs.Prelude.{◌≡◌, false, List, [], ℕ, None}
use Rattle.std.specs.List.{list_any}
use Rattle.entry.specs.Index.{free, find, insert_answer, touches}
use Rattle.entry.specs.declared.Key.{Key}
use Rattle.entry.specs.declared.Entry.{Entry}

-- of any entries: number 8 where the key shows nothing and every entry is in use, and nowhere else
pub record Refuses (es : List Entry) (k : Key) : Type 0 where
  pub only : (insert_answer es k).0 ≡ 8 → (find es k ≡ None) × (list_any free es ≡ false)
  pub always : find es k ≡ None → list_any free es ≡ false → insert_answer es k ≡ (8, [])

unfoldable pub RefusesWhenFull : Type 0
RefusesWhenFull = (es : List Entry) (k : Key) → Refuses es k

-- of any numbers: a write of no bytes touches nothing, and no write touches a block that spans none
unfoldable pub EmptyTouchesNothing : Type 0
EmptyTouchesNothing = (pc span a n : ℕ) → (touches pc span a 0 ≡ false) × (touches pc 0 a n ≡ false)
