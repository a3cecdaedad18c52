-- The theorem of the code applied to the operations of crate entry's example (its proofs/Applied), by calls that can be made.
use Rattle.std.specs.Prelude.{Option, Some, None}
use Rattle.std.proofs.Common.{◌≡◌, refl, [], ℕ, arith}
use Rattle.entry.specs.Index.{touches}
use Rattle.entry.specs.History.{after, events}
use Rattle.entry.specs.declared.Entry.{Entry}
use Rattle.entry.proofs.Applied.{top, three, filled, written, ended, many, fill}
use Rattle.entry.proofs.Cases.{key, entry}
use Rattle.index.specs.Answers.{Finds}
use Rattle.index.specs.HistoryOf.{Leads, ShowsLastOf}
use Rattle.index.specs.HistoryInCode.{Does, HistoryInCode, CallsCanBeMade}
use Rattle.index.proofs.InCode.{history_in_code, calls_can_be_made}

-- 1. Three entries, in use and then all free

written_led : Leads Does three (events three written) (after three written)
unfolding CallsCanBeMade
written_led = calls_can_be_made.operations three written

ended_led : Leads Does three (events three ended) (after three ended)
unfolding CallsCanBeMade
ended_led = calls_can_be_made.operations three ended

of_written : ShowsLastOf Finds (λ answer. answer) (after three written) (events three written)
unfolding HistoryInCode
of_written = history_in_code three (after three written) (events three written) refl written_led

of_ended : ShowsLastOf Finds (λ answer. answer) (after three ended) (events three ended)
unfolding HistoryInCode
of_ended = history_in_code three (after three ended) (events three ended) refl ended_led

last_key : (r : Option Entry) → Finds (after three written) (key top top) r → r ≡ Some (entry 1 top top 300 1 67 1)
unfolding touches
last_key = of_written.shows (key top top)

replaced : (r : Option Entry) → Finds (after three written) (key 1 8) r → r ≡ Some (entry 1 1 8 400 1 67 2)
unfolding touches
replaced = of_written.shows (key 1 8)

written_over : (r : Option Entry) → Finds (after three written) (key 2 top) r → r ≡ None
unfolding touches
written_over = of_written.shows (key 2 top)

none_left : (r : Option Entry) → Finds (after three ended) (key 1 8) r → r ≡ None
none_left = of_ended.shows (key 1 8)

eighths_apart : ◌≡◌ {A = ℕ} 2 1 → ⊥
unfolding touches
eighths_apart s =
    let z : ◌≡◌ {A = ℕ} 1 2 = of_written.distinct 1 2 (entry 1 2 8 100 2 80 4) (entry 1 1 8 400 1 67 2) refl refl refl refl s refl in
    omega (arith, z)

-- and find answers
answered : (r : Option Entry) × Finds (after three written) (key 2 8) r
unfolding CallsCanBeMade
answered = calls_can_be_made.find (after three written) (key 2 8)

-- 2. No entry, and 64

none_led : Leads Does [] (events [] filled) (after [] filled)
unfolding CallsCanBeMade
none_led = calls_can_be_made.operations [] filled

none_shown : (r : Option Entry) → Finds (after [] filled) (key 2 8) r → r ≡ None
unfolding HistoryInCode
none_shown = (history_in_code [] (after [] filled) (events [] filled) refl none_led).shows (key 2 8)

many_led : Leads Does many (events many (fill 65)) (after many (fill 65))
unfolding CallsCanBeMade
many_led = calls_can_be_made.operations many (fill 65)

sixty_fourth : (r : Option Entry) → Finds (after many (fill 65)) (key 7 63) r → r ≡ Some (entry 1 7 63 63 1 67 4)
unfolding HistoryInCode many
sixty_fourth = (history_in_code many (after many (fill 65)) (events many (fill 65)) refl many_led).shows (key 7 63)
