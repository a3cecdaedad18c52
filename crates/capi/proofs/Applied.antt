-- The history of the exported functions applied to the operations of crate entry's example (its proofs/Applied), by calls that can be made.
use Rattle.std.proofs.Common.{◌≡◌, refl, [], ℕ, arith}
use Rattle.entry.specs.Index.{blank, touches}
use Rattle.entry.specs.History.{after, events}
use Rattle.entry.specs.declared.Entry.{Entry}
use Rattle.entry.proofs.Applied.{top, three, filled, written, many, fill}
use Rattle.entry.proofs.Cases.{key, entry}
use Rattle.index.specs.HistoryOf.{Leads, ShowsLastOf}
use Rattle.capi.specs.Indexes.{told, RepliesToFind}
use Rattle.capi.specs.HistoryInC.{Finds, Does, HistoryInC, CallsCanBeMade}
use Rattle.capi.proofs.IndexInC.{history_in_c, calls_can_be_made}

-- 1. Three entries

written_led : Leads Does three (events three written) (after three written)
unfolding CallsCanBeMade
written_led = calls_can_be_made.operations three written

of_written : ShowsLastOf Finds told (after three written) (events three written)
unfolding HistoryInC
of_written = history_in_c three (after three written) (events three written) refl written_led

last_key : (r : Entry) → RepliesToFind (after three written) top top r → r ≡ entry 1 top top 300 1 67 1
unfolding touches
last_key = of_written.shows (key top top)

replaced : (r : Entry) → RepliesToFind (after three written) 1 8 r → r ≡ entry 1 1 8 400 1 67 2
unfolding touches
replaced = of_written.shows (key 1 8)

-- where none is found, zeros
written_over : (r : Entry) → RepliesToFind (after three written) 2 top r → r ≡ blank
unfolding touches
written_over = of_written.shows (key 2 top)

eighths_apart : ◌≡◌ {A = ℕ} 2 1 → ⊥
unfolding touches
eighths_apart s =
    let z : ◌≡◌ {A = ℕ} 1 2 = of_written.distinct 1 2 (entry 1 2 8 100 2 80 4) (entry 1 1 8 400 1 67 2) refl refl refl refl s refl in
    omega (arith, z)

answered : (r : Entry) × RepliesToFind (after three written) 2 8 r
unfolding CallsCanBeMade
answered = calls_can_be_made.find (after three written) (key 2 8)

-- 2. No entry, and 64

none_led : Leads Does [] (events [] filled) (after [] filled)
unfolding CallsCanBeMade
none_led = calls_can_be_made.operations [] filled

none_shown : (r : Entry) → RepliesToFind (after [] filled) 2 8 r → r ≡ blank
unfolding HistoryInC
none_shown = (history_in_c [] (after [] filled) (events [] filled) refl none_led).shows (key 2 8)

many_led : Leads Does many (events many (fill 65)) (after many (fill 65))
unfolding CallsCanBeMade
many_led = calls_can_be_made.operations many (fill 65)

sixty_fourth : (r : Entry) → RepliesToFind (after many (fill 65)) 7 63 r → r ≡ entry 1 7 63 63 1 67 4
unfolding HistoryInC many
sixty_fourth = (history_in_c many (after many (fill 65)) (events many (fill 65)) refl many_led).shows (key 7 63)
