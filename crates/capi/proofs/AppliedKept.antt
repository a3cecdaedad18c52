-- The statements on kept blocks, of the exported functions, applied to the operations of crate coherence's example (its proofs/Applied), by
-- calls that can be made.
use Rattle.std.proofs.Common.{refl, [], ◌-◌}
use Rattle.agreement.specs.Riscv.Code.{run_at}
use Rattle.agreement.specs.Cases.{words}
use Rattle.agreement.proofs.Checks.CasesHold.{translations}
use Rattle.entry.specs.Index.{touches}
use Rattle.entry.proofs.Applied.{many}
use Rattle.coherence.specs.Keeping.{after, AllCurrent, IsCurrent}
use Rattle.coherence.specs.Entering.{MayBeEntered}
use Rattle.coherence.specs.KeepingOf.{Leads}
use Rattle.coherence.proofs.Applied.{end, first, kept, again, three, entry, wrapping, last_key, only_kept, only_touched}
use Rattle.capi.specs.Indexes.{RepliesToFind}
use Rattle.capi.specs.KeepingInC.{Does, KeepsSpansInC, FoundMayBeEnteredInC, CallsCanBeMade}
use Rattle.capi.proofs.KeptInC.{keeps_spans_in_c, found_may_be_entered_in_c, calls_can_be_made}

led_kept : Leads Does three first kept (after three first kept)
unfolding CallsCanBeMade
led_kept = calls_can_be_made three first kept

led_again : Leads Does three first again (after three first again)
unfolding CallsCanBeMade
led_again = calls_can_be_made three first again

of_again : AllCurrent first again (after three first again)
unfolding KeepsSpansInC
of_again = keeps_spans_in_c three (after three first again) first again refl only_touched led_again

anew : IsCurrent first again (entry 1 3 0x80000000 0 2 88 8)
unfolding translations words run_at touches
anew = of_again 1 (entry 1 3 0x80000000 0 2 88 8) refl refl

-- the reply is the entry that is found
replied : RepliesToFind (after three first kept) 2 (end - 4) wrapping
unfolding translations words run_at touches
replied = record { tells = refl }

found : MayBeEntered first kept last_key wrapping
unfolding FoundMayBeEnteredInC
found = found_may_be_entered_in_c three (after three first kept) first kept refl only_kept led_kept last_key wrapping (replied, refl)

-- no entry, and 64
none_led : Leads Does [] first again (after [] first again)
unfolding CallsCanBeMade
none_led = calls_can_be_made [] first again

none_current : AllCurrent first again (after [] first again)
unfolding KeepsSpansInC
none_current = keeps_spans_in_c [] (after [] first again) first again refl only_touched none_led

many_led : Leads Does many first kept (after many first kept)
unfolding CallsCanBeMade
many_led = calls_can_be_made many first kept

many_current : AllCurrent first kept (after many first kept)
unfolding KeepsSpansInC many
many_current = keeps_spans_in_c many (after many first kept) first kept refl only_kept many_led
