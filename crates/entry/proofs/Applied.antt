-- The theorems applied to lists of operations and entries, and what they say there, in numbers: a statement that asks more or says less no
-- longer serves here.
use Rattle.std.specs.Prelude.{Option, Some, None, replicate}
use Rattle.std.specs.List.{list_any}
use Rattle.std.proofs.Common.{◌≡◌, refl, ap, Bool, true, false, true≢false, List, [], ◌∷◌, ℕ, zero, suc, ◌-◌, ◌^◌, arith}
use Rattle.entry.specs.Index.{free, find, insert_answer, touches}
use Rattle.entry.specs.History.{Event.inserted, Event.refused, Event.emptied, Event.dropped, last, Operation, Operation.inserts}
use Rattle.entry.specs.History.{Operation.empties, Operation.drops, after, events, showing, ShowsLast, History}
use Rattle.entry.specs.Laws.{RefusesWhenFull, EmptyTouchesNothing}
use Rattle.entry.specs.declared.Key.{Key}
use Rattle.entry.specs.declared.Entry.{Entry}
use Rattle.entry.proofs.LastShown.{history}
use Rattle.entry.proofs.Refusing.{refuses_when_full}
use Rattle.entry.proofs.Touching.{empty_touches_nothing}
use Rattle.entry.proofs.Cases.{block, key, entry, zeros, full}

-- 1. Ten operations on three entries, the first of which has had the last key of all, and is not in use

abbrev pub top : ℕ
top = 2 ^ 64 - 1

abbrev pub three : List Entry
three = entry 0 top top 5 6 7 8 ∷ zeros ∷ zeros ∷ []

-- the first block goes on behind the last address; a fourth key finds no entry
abbrev pub filled : List Operation
filled =
    inserts (key 9 9) (block 0 1 67 2) ∷ inserts (key 1 8) (block 200 3 90 4) ∷ inserts (key 2 8) (block 100 2 80 4)
    ∷ inserts (key 2 top) (block 0 1 67 4) ∷ []

-- a write of no bytes; of one, the last that the first block spans; then the fourth key again; and the third with a block of another span
abbrev pub written : List Operation
written =
    inserts (key 1 8) (block 400 1 67 2) ∷ inserts (key top top) (block 300 1 67 1) ∷ drops 2 1 ∷ drops 2 0 ∷ filled

-- a write that touches the second key's block, and not the third's; emptying
abbrev pub ended : List Operation
ended = empties ∷ drops 10 8 ∷ written

after_filled : after three filled ≡ entry 1 2 top 0 1 67 4 ∷ entry 1 2 8 100 2 80 4 ∷ entry 1 1 8 200 3 90 4 ∷ []
after_filled = refl

events_filled : events three filled
    ≡ refused ∷ inserted (key 1 8) (block 200 3 90 4) ∷ inserted (key 2 8) (block 100 2 80 4) ∷ inserted (key 2 top) (block 0 1 67 4) ∷ []
events_filled = refl

after_written : after three written ≡ entry 1 top top 300 1 67 1 ∷ entry 1 2 8 100 2 80 4 ∷ entry 1 1 8 400 1 67 2 ∷ []
unfolding touches
after_written = refl

events_written : events three written
    ≡ inserted (key 1 8) (block 400 1 67 2) ∷ inserted (key top top) (block 300 1 67 1) ∷ dropped 2 1 ∷ dropped 2 0 ∷ events three filled
unfolding touches
events_written = refl

after_dropped : after three (drops 10 8 ∷ written) ≡ entry 1 top top 300 1 67 1 ∷ entry 0 2 8 100 2 80 4 ∷ entry 1 1 8 400 1 67 2 ∷ []
unfolding touches
after_dropped = refl

after_ended : after three ended ≡ entry 0 top top 300 1 67 1 ∷ entry 0 2 8 100 2 80 4 ∷ entry 0 1 8 400 1 67 2 ∷ []
unfolding touches
after_ended = refl

events_ended : events three ended ≡ emptied ∷ dropped 10 8 ∷ events three written
unfolding touches
events_ended = refl

-- 2. What the theorem says of them

three_filled : ShowsLast (after three filled) (events three filled)
unfolding History
three_filled = history three filled refl

three_written : ShowsLast (after three written) (events three written)
unfolding History
three_written = history three written refl

three_ended : ShowsLast (after three ended) (events three ended)
unfolding History
three_ended = history three ended refl

-- of any key, which is not computed
any_key : (k : Key) → find (after three written) k
    ≡ showing k (last (inserted (key 1 8) (block 400 1 67 2) ∷ inserted (key top top) (block 300 1 67 1) ∷ dropped 2 1 ∷ dropped 2 0
    ∷ events three filled) k)
unfolding touches
any_key = three_written.shows

-- the last pc under satp 2, until a write touches the byte at 2
pub last_pc : find (after three filled) (key 2 top) ≡ Some (entry 1 2 top 0 1 67 4)
last_pc = three_filled.shows (key 2 top)

last_pc_written : find (after three written) (key 2 top) ≡ None
unfolding touches
last_pc_written = three_written.shows (key 2 top)

-- the last key of all
last_key : find (after three written) (key top top) ≡ Some (entry 1 top top 300 1 67 1)
unfolding touches
last_key = three_written.shows (key top top)

-- the refused one
ninth : find (after three filled) (key 9 9) ≡ None
ninth = three_filled.shows (key 9 9)

-- the same pc under two satps, and a block in the place of another
eighth : find (after three written) (key 2 8) ≡ Some (entry 1 2 8 100 2 80 4)
unfolding touches
eighth = three_written.shows (key 2 8)

replaced : find (after three written) (key 1 8) ≡ Some (entry 1 1 8 400 1 67 2)
unfolding touches
replaced = three_written.shows (key 1 8)

none_left : find (after three ended) (key 1 8) ≡ None
none_left = three_ended.shows (key 1 8)

-- two of them have one pc, and so not one satp; the first and the second one satp, and so not one pc
eighths_apart : ◌≡◌ {A = ℕ} 2 1 → ⊥
unfolding touches
eighths_apart s =
    let z : ◌≡◌ {A = ℕ} 1 2 = three_written.distinct 1 2 (entry 1 2 8 100 2 80 4) (entry 1 1 8 400 1 67 2) refl refl refl refl s refl in
    omega (arith, z)

pcs_apart : top ≡ 8 → ⊥
pcs_apart c =
    let z : ◌≡◌ {A = ℕ} 0 1 = three_filled.distinct 0 1 (entry 1 2 top 0 1 67 4) (entry 1 2 8 100 2 80 4) refl refl refl refl refl c in
    omega (arith, z)

-- 3. No entry, and 64 of them, each of which a key takes

nothing_shown : find (after [] ended) (key 2 8) ≡ None
unfolding History
nothing_shown = (history [] ended refl).shows (key 2 8)

none_happened : events [] filled ≡ refused ∷ refused ∷ refused ∷ refused ∷ []
none_happened = refl

unfoldable pub many : List Entry
many = replicate 64 zeros

-- so many keys, the last one being number 0
abbrev pub fill : ℕ → List Operation
fill zero = []
fill (suc n) = inserts (key 7 n) (block n 1 67 4) ∷ fill n

many_filled : ShowsLast (after many (fill 65)) (events many (fill 65))
unfolding History many
many_filled = history many (fill 65) refl

sixty_fourth : find (after many (fill 65)) (key 7 63) ≡ Some (entry 1 7 63 63 1 67 4)
unfolding many
sixty_fourth = many_filled.shows (key 7 63)

sixty_fifth : find (after many (fill 65)) (key 7 64) ≡ None
unfolding many
sixty_fifth = many_filled.shows (key 7 64)

ends_apart : ◌≡◌ {A = ℕ} 0 63 → ⊥
unfolding many
ends_apart c =
    let z : ◌≡◌ {A = ℕ} 0 63 = many_filled.distinct 0 63 (entry 1 7 0 0 1 67 4) (entry 1 7 63 63 1 67 4) refl refl refl refl refl c in
    omega (arith, z)

-- 4. Number 8: of a list that is full, for a key that it has not and for one that it has; of one that is not full, and of none

refused_new : insert_answer full (key top 5) ≡ (8, [])
unfolding RefusesWhenFull
refused_new = (refuses_when_full full (key top 5)).always refl refl

why_refused : (find full (key top 5) ≡ None) × (list_any free full ≡ false)
unfolding RefusesWhenFull
why_refused = (refuses_when_full full (key top 5)).only refl

not_refused_held : (insert_answer full (key 1 5)).0 ≡ 8 → ⊥
unfolding RefusesWhenFull
not_refused_held h =
    let z : ◌≡◌ {A = Bool} true false = ap is_some ((refuses_when_full full (key 1 5)).only h).0 in
    true≢false z
  where
    is_some : Option Entry → Bool
    is_some (Some e) = true
    is_some None = false

not_refused_free : (insert_answer (zeros ∷ full) (key top 5)).0 ≡ 8 → ⊥
unfolding RefusesWhenFull
not_refused_free h = true≢false ((refuses_when_full (zeros ∷ full) (key top 5)).only h).1

-- of any two entries, which is not computed
refused_any : (e f : Entry) (k : Key) → find (e ∷ f ∷ []) k ≡ None → list_any free (e ∷ f ∷ []) ≡ false
    → insert_answer (e ∷ f ∷ []) k ≡ (8, [])
unfolding RefusesWhenFull
refused_any e f k = (refuses_when_full (e ∷ f ∷ []) k).always

refused_by_none : insert_answer [] (key top top) ≡ (8, [])
unfolding RefusesWhenFull
refused_by_none = (refuses_when_full [] (key top top)).always refl refl

-- 5. No bytes: too many numbers to compute

no_bytes_written : touches top top 0 0 ≡ false
unfolding EmptyTouchesNothing
no_bytes_written = (empty_touches_nothing top top 0 0).0

no_bytes_spanned : touches top 0 top top ≡ false
unfolding EmptyTouchesNothing
no_bytes_spanned = (empty_touches_nothing top 1 top top).1
