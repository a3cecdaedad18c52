-- The code's agreement of kept blocks applied: to three turns behind whose blocks the code has changed (crate agreement,
-- Checks/KeptBlocks), and to five from a pc 8 below 2^64, whose code is as it was. What the theorem says of any run of the code is used.
use Rattle.std.proofs.Common.{List, [], ◌∷◌, ◌∙◌, ◌≡◌, ap, refl, subst, sym, zero, suc, ◌*◌, ◌≤◌, ℕ, arith, length}
use Rattle.std.specs.Prelude.{Option, None, Some}
use Rattle.agreement.specs.Laws.{Spans}
use Rattle.agreement.specs.Riscv.Code.{Code, front, run_at}
use Rattle.agreement.specs.Riscv.Fields.{plus}
use Rattle.agreement.specs.Riscv.Run.{manual}
use Rattle.agreement.specs.Translation.Replies.{Block, Reply.block}
use Rattle.agreement.specs.Statement.Agreement.{after, start}
use Rattle.agreement.specs.Statement.Kept.{Current, CurrentAlong, Kept, feeds_now, turns}
use Rattle.agreement.specs.Statement.Machine.{Event, RegisterBytes, Turn, reply}
use Rattle.agreement.specs.Statement.Premises.{Premises, Unchanged, rests_on_code}
use Rattle.agreement.specs.X86.Memory.{read}
use Rattle.agreement.proofs.Checks.Example.{first_pc, five_turns, zeros}
use Rattle.agreement.proofs.Checks.KeptBlocks as KeptBlocks
use Rattle.agreement.proofs.Checks.KeptBlocks.{three_kept}
use Rattle.agreement.proofs.Checks.PremisesMet.{five_met}
use Rattle.agreement.proofs.Checks.Witness.{FiveTurns, five_ends}
use Rattle.agreement.proofs.Theorem.AlongTheRun.{met}
use Rattle.agreement.proofs.Theorem.Kept.{spans}
use Rattle.agreement.proofs.Theorem.RefusedAlike.{made_halfwords}
use Rattle.block.specs.AgreementInCode.{AgreesNowBy, Learning, Run, Translated}
use Rattle.block.proofs.CodeAgrees.{agreement_of_kept_in_code}

-- 1. Where the code has changed

three : AgreesNowBy Translated 0x80000000 zeros three_kept
unfolding read
three = agreement_of_kept_in_code 0x80000000 zeros three_kept (omega arith) refl KeptBlocks.asked.0 KeptBlocks.asked.1

pub record EndOfThree (es : List Event) (p : ℕ) (b : RegisterBytes) : Type 0 where
  pub on_the_way : KeptBlocks.Three es
  pub pc : p ≡ 0x80000006

pub end_of_three : {learns : Learning} (a : AgreesNowBy learns 0x80000000 zeros three_kept) (es : List Event) (p : ℕ) (b : RegisterBytes)
    → Run learns 0x80000000 zeros (turns three_kept) es p b → EndOfThree es p b
end_of_three a es p b r =
    let n = a.now in
    let o = a.runs.only es p b r in
    let t : KeptBlocks.Three n.agrees.events = KeptBlocks.three_turns n.agrees.events n.agrees.history n.agrees.along n.along in
    record {
      on_the_way = subst KeptBlocks.Three o.0 t;
      pc = sym o.1 ∙ n.agrees.at_pc ∙ sym (ap (λ m. m.pc) n.at_end) ∙ t.pc;
    }

run_of_three : EndOfThree three.now.agrees.events three.now.agrees.pc' three.now.agrees.rb'
run_of_three = end_of_three three _ _ _ three.runs.run

-- 2. A turn whose code is as it was when its block was made is current

abbrev pub same : Turn → Kept
same t = record { turn = t; now = t.code; reach = t.reach }

abbrev pub sames : List Turn → List Kept
sames [] = []
sames (t ∷ ts) = same t ∷ sames ts

one_longer : (o : Option ℕ) (l : List ℕ) (n : ℕ) → length l ≤ n → length (front o l) ≤ suc n
one_longer None l n h = omega arith
one_longer (Some x) l n h = omega (arith, h)

no_longer : (c : Code) (n pc : ℕ) → length (run_at c pc n) ≤ n
unfolding run_at
no_longer c zero pc = omega arith
no_longer c (suc n) pc = one_longer (c pc) (run_at c (plus pc 2) n) n (no_longer c n (plus pc 2))

span_there : (t : Turn) (pc : ℕ) (b : Block) → Unchanged t pc → reply t pc ≡ block b → b.span ≤ 2 * t.reach
span_there t pc b u e = omega (arith, by spans, ap length made, no_longer t.code t.reach pc)
  where
    made : t.made ≡ run_at t.code pc t.reach
    made = u (ap rests_on_code e)

    by : Spans → b.span ≤ 2 * length t.made
    by s = unfold Spans in (s pc t.limit t.made t.helper16 t.helper_mem (length t.output) b (made_halfwords t pc made) e).there

current : (t : Turn) (pc : ℕ) → Unchanged t pc → Current (same t) pc
current t pc u = record {
  spanned = λ b e k l. refl;
  fetched = λ b e. span_there t pc b u e;
  refused = λ r e y. u (ap rests_on_code e ∙ y);
}

pub along : (ts : List Turn) (pc : ℕ) (rb : RegisterBytes) → Premises pc rb ts → CurrentAlong pc rb (sames ts)
unfolding Premises CurrentAlong
along [] pc rb h = tt
along (t ∷ ts) pc rb h = (current t pc h.1, λ e pc' rb' k. along ts pc' rb' (h.3 e pc' rb' k))

pub five_asked : Premises first_pc zeros five_turns
unfolding read
five_asked = met five_turns (start first_pc zeros) zeros (omega arith) (λ r k. refl) refl five_met

five : AgreesNowBy Translated first_pc zeros (sames five_turns)
unfolding read turns
five =
    agreement_of_kept_in_code first_pc zeros (sames five_turns) (omega arith) refl five_asked
    (along five_turns first_pc zeros five_asked)

pub record EndOfFive (es : List Event) (p : ℕ) (b : RegisterBytes) : Type 0 where
  pub on_the_way : FiveTurns es (after first_pc zeros five_turns es)
  pub pc : p ≡ 0x80000031
  pub x10 : read 8 b (8 * 10) ≡ 9
  pub now_pc : (manual (feeds_now (sames five_turns) es) (start first_pc zeros)).pc ≡ 0x80000031

pub end_of_five : {learns : Learning} (a : AgreesNowBy learns first_pc zeros (sames five_turns))
    (es : List Event) (p : ℕ) (b : RegisterBytes) → Run learns first_pc zeros five_turns es p b → EndOfFive es p b
unfolding turns
end_of_five a es p b r =
    let g = a.now.agrees in
    let o = a.runs.only es p b r in
    let P : List Event → Type 0 = λ x. FiveTurns x (after first_pc zeros five_turns x) in
    let t : P g.events = five_ends _ _ g.events _ _ g.history g.along in
    let Q : List Event → Type 0 = λ x. (manual (feeds_now (sames five_turns) x) (start first_pc zeros)).pc ≡ 0x80000031 in
    let n : Q g.events = ap (λ m. m.pc) a.now.at_end ∙ t.after.pc in
    record {
      on_the_way = subst P o.0 t;
      pc = sym o.1 ∙ g.at_pc ∙ t.after.pc;
      x10 = rw (← o.2) (g.at_slots 10 (omega arith) ∙ t.after.x10);
      now_pc = subst Q o.0 n;
    }

run_of_five : EndOfFive five.now.agrees.events five.now.agrees.pc' five.now.agrees.rb'
unfolding turns
run_of_five = end_of_five five _ _ _ five.runs.run
