-- The agreement of `emuko_translate` applied as crate block applies its own (Witness, KeptWitness): to three and to five turns from a pc
-- 8 below 2^64, to two at the last pc with full registers, and to kept blocks behind which the code has changed.
use Rattle.std.proofs.Common.{[], ◌≡◌, refl, arith}
use Rattle.agreement.specs.Translation.Replies.{numbered, output_after, translate, Refusal.limit_zero, Reply.refusal}
use Rattle.agreement.specs.X86.Memory.{read}
use Rattle.agreement.proofs.Checks.Example.{first_pc, five_turns, refused_turn, three_turns, zeros}
use Rattle.agreement.proofs.Checks.KeptBlocks as KeptBlocks
use Rattle.agreement.proofs.Checks.KeptBlocks.{three_kept}
use Rattle.agreement.proofs.Checks.PremisesMet.{five_met, three_met}
use Rattle.agreement.specs.Statement.Kept.{turns}
use Rattle.block.specs.AgreementInCode.{AgreesBy, AgreesNowBy, Ran.skip, Run, Run.end, Run.then}
use Rattle.block.proofs.KeptWitness as Kept
use Rattle.block.proofs.KeptWitness.{along, five_asked, sames}
use Rattle.block.proofs.Witness.{EndOfFive, EndOfThree, asked, both_events, end_of_five, end_of_three, full, last_asked, last_pc, refused_turns}
use Rattle.capi.specs.AgreementInC.{Replied}
use Rattle.capi.proofs.ReadInC.{agreement_in_c, agreement_of_kept_in_c}

-- 1. Lists of turns

three : AgreesBy Replied first_pc zeros three_turns
unfolding read
three = agreement_in_c first_pc zeros three_turns (omega arith) refl (asked first_pc three_turns (omega arith) three_met)

run_of_three : EndOfThree three.agrees.events three.agrees.pc' three.agrees.rb'
run_of_three = end_of_three three _ _ _ three.runs.run

five : AgreesBy Replied first_pc zeros five_turns
unfolding read
five = agreement_in_c first_pc zeros five_turns (omega arith) refl (asked first_pc five_turns (omega arith) five_met)

run_of_five : EndOfFive five.agrees.events five.agrees.pc' five.agrees.rb'
run_of_five = end_of_five five _ _ _ five.runs.run

-- two calls that reply with number 1, written out, and theirs is the run that the theorem has
last : AgreesBy Replied last_pc full refused_turns
unfolding read
last = agreement_in_c last_pc full refused_turns (omega arith) refl last_asked

written : Run Replied last_pc full refused_turns both_events last_pc full
unfolding translate numbered output_after
written = then (skip call) (then (skip call) end)
  where
    call : Replied last_pc refused_turn (refusal limit_zero)
    call = record {
      reply = record { number = 1; first = 0; second = 0; third = 0 };
      after = [];
      replies = record { replies = refl; leaves = refl };
      reads = refl;
    }

record EndOfLast : Type 0 where
  events : last.agrees.events ≡ both_events
  pc : last.agrees.pc' ≡ last_pc
  bytes : last.agrees.rb' ≡ full

end_of_last : EndOfLast
end_of_last =
    let o = last.runs.only both_events last_pc full written in
    record { events = o.0; pc = o.1; bytes = o.2 }

-- 2. Kept blocks

kept_three : AgreesNowBy Replied 0x80000000 zeros three_kept
unfolding read
kept_three = agreement_of_kept_in_c 0x80000000 zeros three_kept (omega arith) refl KeptBlocks.asked.0 KeptBlocks.asked.1

kept_run_of_three : Kept.EndOfThree kept_three.now.agrees.events kept_three.now.agrees.pc' kept_three.now.agrees.rb'
kept_run_of_three = Kept.end_of_three kept_three _ _ _ kept_three.runs.run

kept_five : AgreesNowBy Replied first_pc zeros (sames five_turns)
unfolding read turns
kept_five =
    agreement_of_kept_in_c first_pc zeros (sames five_turns) (omega arith) refl five_asked
    (along five_turns first_pc zeros five_asked)

kept_run_of_five : Kept.EndOfFive kept_five.now.agrees.events kept_five.now.agrees.pc' kept_five.now.agrees.rb'
unfolding turns
kept_run_of_five = Kept.end_of_five kept_five _ _ _ kept_five.runs.run
