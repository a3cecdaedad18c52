-- The statements spelled out once more, of any arguments: whoever lets one ask more, or say less, has to write it here too.
use Rattle.std.specs.Prelude.{None, slice_get, Some}
use Rattle.std.specs.List.{list_any}
use Rattle.std.proofs.Common.{◌≡◌, true, false, List, [], ℕ}
use Rattle.entry.specs.Index.{free, find, insert_answer, is_in_use, touches}
use Rattle.entry.specs.History.{Event, Operation, after, events, last, showing, ShowsLast, History}
use Rattle.entry.specs.Laws.{RefusesWhenFull, EmptyTouchesNothing}
use Rattle.entry.specs.declared.Key.{Key}
use Rattle.entry.specs.declared.Entry.{Entry}
use Rattle.entry.proofs.LastShown.{history}
use Rattle.entry.proofs.Refusing.{refuses_when_full}
use Rattle.entry.proofs.Touching.{empty_touches_nothing}

of_any : (es : List Entry) (operations : List Operation) → list_any is_in_use es ≡ false
    → ShowsLast (after es operations) (events es operations)
unfolding History
of_any = history

shows_last_says : (es : List Entry) (happened : List Event) → ShowsLast es happened
    → ((k : Key) → find es k ≡ showing k (last happened k))
    × ((i j : ℕ) (e f : Entry) → slice_get es i ≡ Some e → slice_get es j ≡ Some f → is_in_use e ≡ true → is_in_use f ≡ true
    → e.satp ≡ f.satp → e.pc ≡ f.pc → i ≡ j)
shows_last_says es happened s = (s.shows, s.distinct)

refused_only : (es : List Entry) (k : Key) → (insert_answer es k).0 ≡ 8 → (find es k ≡ None) × (list_any free es ≡ false)
unfolding RefusesWhenFull
refused_only es k = (refuses_when_full es k).only

refused_always : (es : List Entry) (k : Key) → find es k ≡ None → list_any free es ≡ false → insert_answer es k ≡ (8, [])
unfolding RefusesWhenFull
refused_always es k = (refuses_when_full es k).always

none_touched : (pc span a n : ℕ) → (touches pc span a 0 ≡ false) × (touches pc 0 a n ≡ false)
unfolding EmptyTouchesNothing
none_touched = empty_touches_nothing
