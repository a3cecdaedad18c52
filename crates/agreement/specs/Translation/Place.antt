-- Placing code in the store: the Rust's `NativeCodeCache::alloc`. Document 01, "Replies", numbers 6 and 7 in that order.
use Rattle.std.specs.Prelude.{true, false, List, [], ◌∷◌, ◌++◌, ℕ, ◌+◌, ◌*◌, ◌/◌, take, drop, ltb}

-- placed at an offset, with the new mark; the mark is beyond the store; the code does not fit behind the rounded mark
pub data Placing : Type 0 where
  placed : ℕ → ℕ → Placing
  beyond : Placing
  full : Placing

-- the number of each reply, 0 where the code was placed, and its values: offset and new mark
unfoldable pub placing_numbered : Placing → ℕ × List ℕ
placing_numbered (placed offset new_mark) = (0, offset ∷ new_mark ∷ [])
placing_numbered beyond = (6, [])
placing_numbered full = (7, [])

-- up to a multiple of 4, without wrapping: the numbers here have no bound
abbrev pub round_up : ℕ → ℕ
round_up used = (used + 3) / 4 * 4

-- the code's length, the store's length, the mark: how much of the store is used
unfoldable pub place : ℕ → ℕ → ℕ → Placing
place n size used =
    elim (ltb size used) [
      | true ↦ beyond
      | false ↦ elim (ltb size (round_up used + n)) [ true ↦ full | false ↦ placed (round_up used) (round_up used + n) ]
    ]

-- store and mark after placing code of that length: the code at the offset and all else as before, or both as before
unfoldable pub store_after : Placing → List ℕ → List ℕ → List ℕ
store_after (placed offset new_mark) code store = take offset store ++ (code ++ drop new_mark store)
store_after beyond code store = store
store_after full code store = store

unfoldable pub mark_after : Placing → ℕ → ℕ
mark_after (placed offset new_mark) old = new_mark
mark_after beyond old = old
mark_after full old = old
