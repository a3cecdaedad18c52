-- What the theorem says of the example's two lists: each turn's visit, and pc, registers and count at the end.
use Rattle.std.proofs.Common.{List, [], ◌∷◌, ◌∙◌, ◌≡◌, refl, ◌*◌, arith}
use Rattle.agreement.specs.Common.{Helper.for_access, Helper.for_halfword}
use Rattle.agreement.specs.Riscv.Run.{GuestState}
use Rattle.agreement.specs.Statement.Agreement.{At, after}
use Rattle.agreement.specs.Statement.Machine.{Event, since}
use Rattle.agreement.specs.X86.Memory.{read}
use Rattle.agreement.specs.X86.State.{State}
use Rattle.agreement.proofs.Checks.Example.{first_pc, five_turns, halfword_turn, helper_turn, odd_turn, plain_turn, refused_turn, three_turns, zeros}
use Rattle.agreement.proofs.Checks.ExampleStates.{AfterThree, Five, after_five, after_three, fifth_refused, first_refused_lem, third_taken}
use Rattle.agreement.proofs.Checks.ExampleStates.{fourth_calls, fourth_taken, m0, m2, m3, second_calls, second_taken, third_plain}
use Rattle.agreement.proofs.Checks.PremisesMet.{five, three}
use Rattle.agreement.proofs.Checks.WitnessEntries.{HalfwordSays, HelperSays, PlainSays, halfword_says, helper_says, plain_says}
use Rattle.agreement.proofs.Theorem.Consequences.{WentHelped, WentPlainly, after_helper, refused_x0}
use Rattle.agreement.proofs.Theorem.AlongTheRun.{Ends, ends_helped, ends_here, ends_plain, ends_refused}

-- 1. The list of three: the second turn leads from m0 to m2, by a helper that was entered in `inside`, and the third on to m3

pub record Three (es : List Event) (m : GuestState) : Type 0 where
  pub e0 : Event
  pub e1 : Event
  pub e2 : Event
  pub events : es ≡ e0 ∷ e1 ∷ e2 ∷ []
  pub second : WentHelped m0 helper_turn e1
  pub second_says : HelperSays second.was.pc second.was.b.count second.was.v second.call
  pub third : WentPlainly (m2 second.call.inside) plain_turn e2
  pub third_says : PlainSays third.was.pc third.was.b.count third.was.v
  pub after : AfterThree m

pub three_ends : Ends m0 three_turns Three
three_ends =
    ends_refused m0 refused_turn (helper_turn ∷ plain_turn ∷ []) Three first_refused_lem (λ e0 a0.
    ends_helped m0 helper_turn (plain_turn ∷ []) (λ es. Three (e0 ∷ es)) for_access 0x0000B083 second_taken second_calls (λ e1 w1.
    let a : State = w1.call.inside in
    ends_plain (m2 a) plain_turn [] (λ es. Three (e0 ∷ e1 ∷ es)) (third_taken a) (third_plain a) (λ e2 w2.
    ends_here (m3 a) (λ es. Three (e0 ∷ e1 ∷ e2 ∷ es)) (says e0 e1 e2 w1 w2))))
  where
    says : (e0 e1 e2 : Event) (w1 : WentHelped m0 helper_turn e1) → WentPlainly (m2 w1.call.inside) plain_turn e2
        → Three (e0 ∷ e1 ∷ e2 ∷ []) (m3 w1.call.inside)
    says e0 e1 e2 w1 w2 = record {
      e0 = e0;
      e1 = e1;
      e2 = e2;
      events = refl;
      second = w1;
      second_says = helper_says w1;
      third = w2;
      third_says = plain_says w1.call.inside w2;
      after = after_three w1.call.inside;
    }

pub three_turns_lem : Three three.events (after first_pc zeros three_turns three.events)
three_turns_lem = three_ends _ _ three.events _ _ three.history three.along

-- so the machine's own pc and slots at the end, and the sum of RDX since the last helper, are these
pub record ThreeEnd : Type 0 where
  pub pc : three.pc' ≡ 0x80000024
  pub x1 : read 8 three.rb' (8 * 1) ≡ 7
  pub x2 : read 8 three.rb' (8 * 2) ≡ 8
  pub count : since 0 three.events ≡ 2

pub three_end : ThreeEnd
three_end = record {
  pc = three.at_pc ∙ three_turns_lem.after.pc;
  x1 = three.at_slots 1 (omega arith) ∙ three_turns_lem.after.x1;
  x2 = three.at_slots 2 (omega arith) ∙ three_turns_lem.after.x2;
  count = three.at_count ∙ three_turns_lem.after.count;
}

-- 2. The list of five: the halfword's helper leaves an odd pc, at which the last turn is refused, x0 zero there too

pub record FiveTurns (es : List Event) (m : GuestState) : Type 0 where
  pub inside : State
  pub e : Event
  pub fourth : WentHelped (m3 inside) halfword_turn e
  pub fourth_says : HalfwordSays fourth.was.b.count fourth.was.v fourth.call
  pub x0 : (after_helper halfword_turn fourth.call.inside).registers 0 ≡ 0
  pub after : Five m

pub five_ends : Ends m0 five_turns FiveTurns
five_ends =
    ends_refused m0 refused_turn (helper_turn ∷ plain_turn ∷ halfword_turn ∷ odd_turn ∷ []) FiveTurns first_refused_lem (λ e0 a0.
    ends_helped m0 helper_turn (plain_turn ∷ halfword_turn ∷ odd_turn ∷ []) (λ es. FiveTurns (e0 ∷ es))
    for_access 0x0000B083 second_taken second_calls (λ e1 w1.
    let a : State = w1.call.inside in
    let p : (m3 a).pc ≡ 0x80000024 = (after_three a).pc in
    ends_plain (m2 a) plain_turn (halfword_turn ∷ odd_turn ∷ []) (λ es. FiveTurns (e0 ∷ e1 ∷ es)) (third_taken a) (third_plain a) (λ e2 w2.
    ends_helped (m3 a) halfword_turn (odd_turn ∷ []) (λ es. FiveTurns (e0 ∷ e1 ∷ e2 ∷ es))
    for_halfword 0x4108 (fourth_taken (m3 a) p) (fourth_calls (m3 a) p) (λ e3 w3.
    let c : GuestState = after_helper halfword_turn w3.call.inside in
    ends_refused c odd_turn [] (λ es. FiveTurns (e0 ∷ e1 ∷ e2 ∷ e3 ∷ es)) (fifth_refused w3.call.inside) (λ e4 a4.
    ends_here c (λ es. FiveTurns (e0 ∷ e1 ∷ e2 ∷ e3 ∷ e4 ∷ es)) (says (e0 ∷ e1 ∷ e2 ∷ e3 ∷ e4 ∷ []) a e3 e4 w3 a4))))))
  where
    says : (es : List Event) (a : State) (e3 e4 : Event) (w : WentHelped (m3 a) halfword_turn e3)
        → At (after_helper halfword_turn w.call.inside) odd_turn e4 → FiveTurns es (after_helper halfword_turn w.call.inside)
    says es a e3 e4 w a4 = record {
      inside = a;
      e = e3;
      fourth = w;
      fourth_says = halfword_says (m3 a) w (after_three a).pc;
      x0 = refused_x0 _ odd_turn e4 (fifth_refused w.call.inside) a4;
      after = after_five w.call.inside;
    }

pub five_turns_lem : FiveTurns five.events (after first_pc zeros five_turns five.events)
five_turns_lem = five_ends _ _ five.events _ _ five.history five.along

pub record FiveEnd : Type 0 where
  pub pc : five.pc' ≡ 0x80000031
  pub x10 : read 8 five.rb' (8 * 10) ≡ 9
  pub x0 : read 8 five.rb' (8 * 0) ≡ 0
  pub count : since 0 five.events ≡ 0

pub five_end : FiveEnd
five_end = record {
  pc = five.at_pc ∙ five_turns_lem.after.pc;
  x10 = five.at_slots 10 (omega arith) ∙ five_turns_lem.after.x10;
  x0 = five.at_slots 0 (omega arith) ∙ five.at_x0;
  count = five.at_count ∙ five_turns_lem.after.count;
}
