-- A run of the code is a history of crate agreement, and the other way round, where what is learned is the reply, and the reply can be
-- learned.
use Rattle.std.proofs.Common.{◌≡◌, refl, sym, ◌∙◌, subst, List, ℕ, arith, length, Ok, Err}
use Rattle.agreement.specs.Translation.Replies.{Reply, numbered, output_after}
use Rattle.agreement.specs.Translation.Replies.Reply.{block, refusal}
use Rattle.agreement.specs.Translation.Replies.Refusal.{limit_zero, odd_start, missing, not_taken, output_short}
use Rattle.agreement.specs.Statement.Machine.{RegisterBytes, Turn, Event, Turned, History, reply}
use Rattle.agreement.proofs.Theorem.Agreement.{agreement}
use Rattle.agreement.specs.Statement.Agreement.{Agreement, Agrees}
use Rattle.agreement.proofs.Theorem.Kept.{agreement_of_kept}
use Rattle.agreement.specs.Statement.Kept.{AgreesNow, AgreementOfKept}
use Rattle.block.specs.Answers.{Answer, Answers}
use Rattle.block.specs.AgreementInCode.{Learning, Ran, Run, OneRun, AgreementBy, AgreementOfKeptBy}
use Rattle.block.specs.AgreementInCode.{Translated, AgreementInCode, AgreementOfKeptInCode}
use Rattle.block.specs.declared.Refusal.TheVariants.{LimitZero, OddStart, Missing, NotTaken, OutputShort}
use Rattle.block.proofs.CallerReadsReply.{reads}

-- 1. For every way to learn replies

pub record Faithful (learns : Learning) : Type 0 where
  pub right : (pc : ℕ) (t : Turn) (p : Reply) → learns pc t p → reply t pc ≡ p
  pub can : (pc : ℕ) (t : Turn) → learns pc t (reply t pc)

-- one turn
turned : {learns : Learning} {pc pc' : ℕ} {rb : RegisterBytes} {t : Turn} {rb' : RegisterBytes} {e : Event}
    → Faithful learns → Ran learns pc rb t e pc' rb' → Turned pc rb t e pc' rb'
turned {pc = pc} {t = t} f (Ran.skip {q} l) = Turned.skip (f.right pc t (refusal q) l)
turned {pc = pc} {t = t} f (Ran.visit {b} l w) = Turned.visit (f.right pc t (block b) l) w

ran : {learns : Learning} {pc pc' : ℕ} {rb : RegisterBytes} {t : Turn} {rb' : RegisterBytes} {e : Event}
    → Faithful learns → Turned pc rb t e pc' rb' → Ran learns pc rb t e pc' rb'
ran {learns = learns} {pc = pc} {t = t} f (Turned.skip e) = Ran.skip (subst (λ (p : Reply). learns pc t p) e (f.can pc t))
ran {learns = learns} {pc = pc} {t = t} f (Turned.visit e w) = Ran.visit (subst (λ (p : Reply). learns pc t p) e (f.can pc t)) w

-- a list of them
history : {learns : Learning} {pc pc' : ℕ} {rb rb' : RegisterBytes} {ts : List Turn} {es : List Event}
    → Faithful learns → Run learns pc rb ts es pc' rb' → History pc rb ts es pc' rb'
history f Run.end = History.end
history f (Run.then r rs) = History.then (turned f r) (history f rs)

run : {learns : Learning} {pc pc' : ℕ} {rb rb' : RegisterBytes} {ts : List Turn} {es : List Event}
    → Faithful learns → History pc rb ts es pc' rb' → Run learns pc rb ts es pc' rb'
run f History.end = Run.end
run f (History.then r rs) = Run.then (ran f r) (run f rs)

one_run : {learns : Learning} {pc : ℕ} {rb : RegisterBytes} {ts : List Turn} → Faithful learns → (g : Agrees pc rb ts)
    → OneRun learns pc rb ts g.events g.pc' g.rb'
one_run f g = record {
  run = run f g.history;
  only = λ es p b r.
      let o = g.only es p b (history f r) in
      let e : g.events ≡ es = o.0 in
      let q : g.pc' ≡ p = o.1 in
      let i : g.rb' ≡ b = o.2 in ((cc), (cc), (cc));
}

pub agreement_by : {learns : Learning} → Faithful learns → AgreementBy learns
unfolding Agreement
agreement_by f pc rb ts low x0 met =
    let g : Agrees pc rb ts = agreement pc rb ts (omega (arith, low)) x0 met in
    record { agrees = g; runs = one_run f g }

pub agreement_of_kept_by : {learns : Learning} → Faithful learns → AgreementOfKeptBy learns
unfolding AgreementOfKept
agreement_of_kept_by f pc rb ks low x0 met current =
    let g : AgreesNow pc rb ks = agreement_of_kept pc rb ks (omega (arith, low)) x0 met current in
    record { now = g; runs = one_run f g.agrees }

-- 2. Of the library: an answer for each reply

abbrev pub answer_to : Reply → Answer
answer_to (block b) = Ok (record { length = length b.code; count = b.count; span = b.span })
answer_to (refusal limit_zero) = Err LimitZero
answer_to (refusal (odd_start start)) = Err (OddStart start)
answer_to (refusal (missing index)) = Err (Missing index)
answer_to (refusal (not_taken word)) = Err (NotTaken word)
answer_to (refusal output_short) = Err OutputShort

pub answers : (p : Reply) (l : List ℕ) → Answers p l (output_after p l) (answer_to p)
unfolding numbered
answers (block b) l = record { answers = refl; leaves = refl }
answers (refusal limit_zero) l = record { answers = refl; leaves = refl }
answers (refusal (odd_start start)) l = record { answers = refl; leaves = refl }
answers (refusal (missing index)) l = record { answers = refl; leaves = refl }
answers (refusal (not_taken word)) l = record { answers = refl; leaves = refl }
answers (refusal output_short) l = record { answers = refl; leaves = refl }

translated : Faithful Translated
translated = record {
  right = λ pc t p l. sym (reads (reply t pc) l.answer l.translates) ∙ l.reads;
  can = λ pc t.
      let c = answers (reply t pc) t.output in
      record {
        answer = answer_to (reply t pc);
        after = output_after (reply t pc) t.output;
        translates = c;
        reads = reads (reply t pc) (answer_to (reply t pc)) c;
      };
}

pub agreement_in_code : AgreementInCode
agreement_in_code = agreement_by translated

pub agreement_of_kept_in_code : AgreementOfKeptInCode
agreement_of_kept_in_code = agreement_of_kept_by translated
