-- The code's agreement applied to the lists of crate agreement (Checks): three and five turns from a pc 8 below 2^64, with a refused one
-- and calls of both helpers; four, between which the code changes; and two at the last pc of all, with full registers. What the theorem
-- says of any run of the code is used.
use Rattle.std.proofs.Common.{cond, true, List, [], ◌∷◌, ◌∙◌, ◌≡◌, refl, subst, sym, ◌*◌, ◌<◌, ◌^◌, ℕ, arith, ltb, Err}
use Rattle.agreement.specs.Riscv.Run.{GuestState}
use Rattle.agreement.specs.Translation.Replies.{numbered, output_after, translate, Refusal.limit_zero, Reply.refusal}
use Rattle.agreement.specs.Statement.Agreement.{after, is_refused, start}
use Rattle.agreement.specs.Statement.Machine.{Event, Event.rejected, RegisterBytes, Turn}
use Rattle.agreement.specs.Statement.Premises.{Premises}
use Rattle.agreement.specs.X86.Memory.{read}
use Rattle.agreement.proofs.Checks.CodeChanges.{Four, four_ends, four_met, four_turns}
use Rattle.agreement.proofs.Checks.Example.{first_pc, five_turns, refused_turn, three_turns, zeros}
use Rattle.agreement.proofs.Checks.ExampleStates.{reads_a_turn}
use Rattle.agreement.proofs.Checks.PremisesMet.{five_met, refused_meets, three_met}
use Rattle.agreement.proofs.Checks.Witness.{FiveTurns, Three, five_ends, three_ends}
use Rattle.agreement.proofs.Theorem.AlongTheRun.{Met, met, met_refused}
use Rattle.block.specs.AgreementInCode.{AgreesBy, Learning, Ran.skip, Run, Run.end, Run.then, Translated}
use Rattle.block.specs.declared.Refusal.TheVariants.{LimitZero}
use Rattle.block.proofs.CodeAgrees.{agreement_in_code}

-- 1. The theorem is applied

pub asked : (pc : ℕ) (ts : List Turn) → pc < 2 ^ 64 → Met (start pc zeros) ts → Premises pc zeros ts
unfolding read
asked pc ts low h = met ts (start pc zeros) zeros low (λ r k. refl) refl h

three : AgreesBy Translated first_pc zeros three_turns
unfolding read
three = agreement_in_code first_pc zeros three_turns (omega arith) refl (asked first_pc three_turns (omega arith) three_met)

five : AgreesBy Translated first_pc zeros five_turns
unfolding read
five = agreement_in_code first_pc zeros five_turns (omega arith) refl (asked first_pc five_turns (omega arith) five_met)

four : AgreesBy Translated 0x80000008 zeros four_turns
unfolding read
four = agreement_in_code 0x80000008 zeros four_turns (omega arith) refl (asked 0x80000008 four_turns (omega arith) four_met)

-- 2. What it says of a run, however replies are learned and whichever it is: where it ends, and that along it each turn is as the manual
-- has it

pub record EndOfThree (es : List Event) (p : ℕ) (b : RegisterBytes) : Type 0 where
  pub on_the_way : Three es (after first_pc zeros three_turns es)
  pub pc : p ≡ 0x80000024
  pub x1 : read 8 b (8 * 1) ≡ 7
  pub x2 : read 8 b (8 * 2) ≡ 8

pub end_of_three : {learns : Learning} (a : AgreesBy learns first_pc zeros three_turns) (es : List Event) (p : ℕ) (b : RegisterBytes)
    → Run learns first_pc zeros three_turns es p b → EndOfThree es p b
end_of_three a es p b r =
    let g = a.agrees in
    let o = a.runs.only es p b r in
    let P : List Event → Type 0 = λ x. Three x (after first_pc zeros three_turns x) in
    let t : P g.events = three_ends _ _ g.events _ _ g.history g.along in
    record {
      on_the_way = subst P o.0 t;
      pc = sym o.1 ∙ g.at_pc ∙ t.after.pc;
      x1 = rw (← o.2) (g.at_slots 1 (omega arith) ∙ t.after.x1);
      x2 = rw (← o.2) (g.at_slots 2 (omega arith) ∙ t.after.x2);
    }

-- the run of the code that there is
run_of_three : EndOfThree three.agrees.events three.agrees.pc' three.agrees.rb'
run_of_three = end_of_three three _ _ _ three.runs.run

pub record EndOfFive (es : List Event) (p : ℕ) (b : RegisterBytes) : Type 0 where
  pub on_the_way : FiveTurns es (after first_pc zeros five_turns es)
  pub pc : p ≡ 0x80000031
  pub x10 : read 8 b (8 * 10) ≡ 9
  pub x0 : read 8 b (8 * 0) ≡ 0

pub end_of_five : {learns : Learning} (a : AgreesBy learns first_pc zeros five_turns) (es : List Event) (p : ℕ) (b : RegisterBytes)
    → Run learns first_pc zeros five_turns es p b → EndOfFive es p b
end_of_five a es p b r =
    let g = a.agrees in
    let o = a.runs.only es p b r in
    let P : List Event → Type 0 = λ x. FiveTurns x (after first_pc zeros five_turns x) in
    let t : P g.events = five_ends _ _ g.events _ _ g.history g.along in
    record {
      on_the_way = subst P o.0 t;
      pc = sym o.1 ∙ g.at_pc ∙ t.after.pc;
      x10 = rw (← o.2) (g.at_slots 10 (omega arith) ∙ t.after.x10);
      x0 = rw (← o.2) (g.at_slots 0 (omega arith) ∙ g.at_x0);
    }

run_of_five : EndOfFive five.agrees.events five.agrees.pc' five.agrees.rb'
run_of_five = end_of_five five _ _ _ five.runs.run

pub record EndOfFour (es : List Event) (p : ℕ) (b : RegisterBytes) : Type 0 where
  pub on_the_way : Four es (after 0x80000008 zeros four_turns es)
  pub pc : p ≡ 0x80000000
  pub x1 : read 8 b (8 * 1) ≡ 7

pub end_of_four : {learns : Learning} (a : AgreesBy learns 0x80000008 zeros four_turns) (es : List Event) (p : ℕ) (b : RegisterBytes)
    → Run learns 0x80000008 zeros four_turns es p b → EndOfFour es p b
end_of_four a es p b r =
    let g = a.agrees in
    let o = a.runs.only es p b r in
    let P : List Event → Type 0 = λ x. Four x (after 0x80000008 zeros four_turns x) in
    let t : P g.events = four_ends _ _ g.events _ _ g.history g.along in
    record {
      on_the_way = subst P o.0 t;
      pc = sym o.1 ∙ g.at_pc ∙ t.pc;
      x1 = rw (← o.2) (g.at_slots 1 (omega arith) ∙ t.x1);
    }

run_of_four : EndOfFour four.agrees.events four.agrees.pc' four.agrees.rb'
run_of_four = end_of_four four _ _ _ four.runs.run

-- 3. Two calls at the last pc, each answered that the limit is 0, x1 to x31 being 2^64 - 1: a run that is written out, and it is the one
-- that the theorem has

abbrev pub last_pc : ℕ
last_pc = 0xFFFFFFFFFFFFFFFF

abbrev pub full : RegisterBytes
full i = cond (ltb i 8) 0 0xFF

abbrev pub refused_turns : List Turn
refused_turns = refused_turn ∷ refused_turn ∷ []

refused_at_last : is_refused refused_turn (start last_pc full) ≡ true
unfolding reads_a_turn
refused_at_last = refl

last_met : Met (start last_pc full) refused_turns
last_met =
    let m : GuestState = start last_pc full in
    met_refused m refused_turn (refused_turn ∷ []) (refused_meets last_pc) refused_at_last
    (met_refused m refused_turn [] (refused_meets last_pc) refused_at_last (unfold Met in tt))

pub last_asked : Premises last_pc full refused_turns
unfolding read
last_asked = met refused_turns (start last_pc full) full (omega arith) (λ r k. refl) refl last_met

last : AgreesBy Translated last_pc full refused_turns
unfolding read
last = agreement_in_code last_pc full refused_turns (omega arith) refl last_asked

abbrev pub both_events : List Event
both_events = rejected last_pc limit_zero ∷ rejected last_pc limit_zero ∷ []

written : Run Translated last_pc full refused_turns both_events last_pc full
unfolding translate numbered output_after
written = then (skip call) (then (skip call) end)
  where
    call : Translated last_pc refused_turn (refusal limit_zero)
    call = record { answer = Err LimitZero; after = []; translates = record { answers = refl; leaves = refl }; reads = refl }

record EndOfLast : Type 0 where
  events : last.agrees.events ≡ both_events
  pub pc : last.agrees.pc' ≡ last_pc
  bytes : last.agrees.rb' ≡ full

end_of_last : EndOfLast
end_of_last =
    let o = last.runs.only both_events last_pc full written in
    record { events = o.0; pc = o.1; bytes = o.2 }
