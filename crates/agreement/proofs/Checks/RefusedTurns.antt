-- Turns that are refused whatever their code is: for a limit of 0, an odd start and an output that is too short. Their code has changed,
-- and both theorems are applied to them. Where the first word is not there or not taken the premise on code cannot be left out.
use Rattle.std.specs.Prelude.{None}
use Rattle.std.proofs.Common.{false, true, List, [], ◌∷◌, ◌∙◌, ◌≡◌, ap, refl, replicate, subst, sym, ◌+◌, ◌%◌, ◌<◌, ◌^◌, ℕ, arith}
use Rattle.agreement.specs.Riscv.Code.{Code, run_at}
use Rattle.agreement.specs.Riscv.Run.{GuestState}
use Rattle.agreement.specs.Translation.Replies.{Block, Refusal, Refusal.missing, Refusal.not_taken, Reply.block, Reply.refusal}
use Rattle.agreement.specs.Statement.Agreement.{Agrees, Along, At, is_refused, start}
use Rattle.agreement.specs.Statement.Kept.{AgreesNow, AgreementOfKept, Current, Kept}
use Rattle.agreement.specs.Statement.Machine.{Event, Event.rejected, History.end, History.then, Turn, Turned.skip, reply}
use Rattle.agreement.specs.Statement.Premises.{rests_on_code}
use Rattle.agreement.specs.X86.Memory.{read}
use Rattle.agreement.specs.Cases.{words}
use Rattle.agreement.proofs.Checks.CasesHold.{translations}
use Rattle.agreement.proofs.Checks.Example.{clear, permissions, zeros}
use Rattle.agreement.proofs.Checks.ExampleStates.{reads_a_turn}
use Rattle.agreement.proofs.Checks.KeptBlocks.{Asked, MetNow, met_now}
use Rattle.agreement.proofs.Checks.PremisesMet.{applied}
use Rattle.agreement.proofs.Laws.Runs.{held}
use Rattle.agreement.proofs.Theorem.AlongTheRun.{MeetsAt, Met, met_refused}
use Rattle.agreement.proofs.Theorem.Consequences.{after_refused}
use Rattle.agreement.proofs.Theorem.Kept.{agreement_of_kept}

-- 1. The turns: their code now has no halfword, and each was made from ADDI x1, x0, 5

abbrev nowhere : Code
nowhere x = None

abbrev addi : List ℕ
addi = words (0x00500093 ∷ [])

-- a limit, a run, a code and an output of so many bytes
abbrev turn_with : ℕ → List ℕ → Code → ℕ → Turn
turn_with limit hs code room = record {
  limit = limit;
  made = hs;
  code = code;
  reach = 2;
  helper16 = 0x1111;
  helper_mem = 0x2222;
  output = replicate room 0;
  block = 0x20000;
  base = 0x10000;
  sp = 0x30008;
  others = λ k. 100 + k;
  flags = clear;
  rest = λ a. a % 256;
  ok = permissions;
  undefined = λ s. clear;
  helper = λ s. s;
}

abbrev limit_turn : Turn
limit_turn = turn_with 0 addi nowhere 4099

abbrev odd_turn : Turn
odd_turn = turn_with 64 addi nowhere 4099

abbrev short_turn : Turn
short_turn = turn_with 64 addi nowhere 4098

code_changed : (pc : ℕ) → addi ≡ run_at nowhere pc 2 → ⊥
unfolding words run_at
code_changed pc e = let z : ◌≡◌ {A = ℕ} 0 1 = cc in omega arith

-- the reply to a turn with that code does not rest on it
record RefusedAnyway (t : Turn) (pc : ℕ) : Type 0 where
  not_asked : rests_on_code (reply t pc) ≡ false
  refused : is_refused t (start pc zeros) ≡ true

not_both : {A : Type 0} → false ≡ true → A
not_both e = absurd (let z : ◌≡◌ {A = ℕ} 0 1 = cc in omega arith)

limit_anyway : RefusedAnyway limit_turn 0x80000000
unfolding translations words reads_a_turn
limit_anyway = record { not_asked = refl; refused = refl }

odd_anyway : RefusedAnyway odd_turn 0x80000001
unfolding translations words reads_a_turn
odd_anyway = record { not_asked = refl; refused = refl }

short_anyway : RefusedAnyway short_turn 0x80000000
unfolding translations words reads_a_turn
short_anyway = record { not_asked = refl; refused = refl }

-- a block rests on the code
not_a_block : (t : Turn) (pc : ℕ) → rests_on_code (reply t pc) ≡ false → (b : Block) → reply t pc ≡ block b → ⊥
not_a_block t pc n b e = not_both (sym n ∙ ap rests_on_code e)

-- 2. Both theorems are applied

meets : (limit room pc : ℕ) → rests_on_code (reply (turn_with limit addi nowhere room) pc) ≡ false
    → MeetsAt (turn_with limit addi nowhere room) pc
meets limit room pc n = record {
  typed = record { helper16 = omega arith; helper_mem = omega arith; others = λ k h. omega arith };
  unchanged = λ r. not_both (sym n ∙ r);
  enterable = λ b rb x0 e. absurd (not_a_block (turn_with limit addi nowhere room) pc n b e);
}

limit_meets : MeetsAt limit_turn 0x80000000
limit_meets = meets 0 4099 0x80000000 limit_anyway.not_asked

odd_meets : MeetsAt odd_turn 0x80000001
odd_meets = meets 64 4099 0x80000001 odd_anyway.not_asked

short_meets : MeetsAt short_turn 0x80000000
short_meets = meets 64 4098 0x80000000 short_anyway.not_asked

abbrev even_turns : List Turn
even_turns = limit_turn ∷ short_turn ∷ []

abbrev odd_turns : List Turn
odd_turns = odd_turn ∷ []

even_agrees : Agrees 0x80000000 zeros even_turns
even_agrees =
    applied 0x80000000 even_turns (omega arith)
    (met_refused (start 0x80000000 zeros) limit_turn (short_turn ∷ []) limit_meets limit_anyway.refused
    (met_refused (start 0x80000000 zeros) short_turn [] short_meets short_anyway.refused (unfold Met in tt)))

odd_agrees : Agrees 0x80000001 zeros odd_turns
odd_agrees =
    applied 0x80000001 odd_turns (omega arith)
    (met_refused (start 0x80000001 zeros) odd_turn [] odd_meets odd_anyway.refused (unfold Met in tt))

-- the code as it is now has no halfword either
abbrev kept_of : Turn → Kept
kept_of t = record { turn = t; now = nowhere; reach = 2 }

current : (t : Turn) (pc : ℕ) → rests_on_code (reply t pc) ≡ false → Current (kept_of t) pc
current t pc n = record {
  spanned = λ b e. absurd (not_a_block t pc n b e);
  fetched = λ b e. absurd (not_a_block t pc n b e);
  refused = λ r e y. not_both (sym n ∙ ap rests_on_code e ∙ y);
}

-- a refused turn, and what is met behind it
one_more : (t : Turn) (ks : List Kept) (m : GuestState) → MeetsAt t m.pc → Current (kept_of t) m.pc → is_refused t m ≡ true → MetNow m ks
    → MetNow m (kept_of t ∷ ks)
unfolding MetNow
one_more t ks m a c f k = (a, c, λ e pc' rb rb' h w. rw (after_refused m t e f w) k)

kept_agree : (pc : ℕ) (ks : List Kept) → pc < 2 ^ 64 → MetNow (start pc zeros) ks → AgreesNow pc zeros ks
kept_agree pc ks low h = by agreement_of_kept
  where
    asked : Asked pc zeros ks
    asked = met_now ks (start pc zeros) zeros low (λ r k. refl) (unfold read in refl) h

    by : AgreementOfKept → AgreesNow pc zeros ks
    by a = unfold AgreementOfKept in a pc zeros ks low (unfold read in refl) asked.0 asked.1

even_kept : AgreesNow 0x80000000 zeros (kept_of limit_turn ∷ kept_of short_turn ∷ [])
even_kept =
    kept_agree 0x80000000 (kept_of limit_turn ∷ kept_of short_turn ∷ []) (omega arith)
    (one_more limit_turn (kept_of short_turn ∷ []) (start 0x80000000 zeros) limit_meets
    (current limit_turn 0x80000000 limit_anyway.not_asked) limit_anyway.refused
    (one_more short_turn [] (start 0x80000000 zeros) short_meets
    (current short_turn 0x80000000 short_anyway.not_asked) short_anyway.refused (unfold MetNow in tt)))

odd_kept : AgreesNow 0x80000001 zeros (kept_of odd_turn ∷ [])
odd_kept =
    kept_agree 0x80000001 (kept_of odd_turn ∷ []) (omega arith)
    (one_more odd_turn [] (start 0x80000001 zeros) odd_meets
    (current odd_turn 0x80000001 odd_anyway.not_asked) odd_anyway.refused (unfold MetNow in tt))

-- 3. Of a turn that is refused because its first word is not there, or not taken, the premise cannot be left out: where ADDI stands now,
-- the manual's run takes the turn

abbrev addi_code : Code
addi_code = held 0x80000000 addi

abbrev missing_turn : Turn
missing_turn = turn_with 64 [] addi_code 4099

-- a word that is not taken
abbrev untaken_turn : Turn
untaken_turn = turn_with 64 (words (0x4020C1B3 ∷ [])) addi_code 4099

taken_now : (t : Turn) (r : Refusal) → reply t 0x80000000 ≡ refusal r → is_refused t (start 0x80000000 zeros) ≡ false
    → Agrees 0x80000000 zeros (t ∷ []) → ⊥
unfolding Along At
taken_now t r e f a =
    let q = a.only (rejected 0x80000000 r ∷ []) 0x80000000 zeros (then (skip e) end) in
    let w : Along (start 0x80000000 zeros) (t ∷ []) (rejected 0x80000000 r ∷ []) =
    subst (λ (es : List Event). Along (start 0x80000000 zeros) (t ∷ []) es) q.0 a.along in
    not_both (sym f ∙ w.0.refuses)

missing_disagrees : Agrees 0x80000000 zeros (missing_turn ∷ []) → ⊥
unfolding translations words reads_a_turn
missing_disagrees = taken_now missing_turn (missing 0) refl refl

untaken_disagrees : Agrees 0x80000000 zeros (untaken_turn ∷ []) → ⊥
unfolding translations words reads_a_turn
untaken_disagrees = taken_now untaken_turn (not_taken 0x4020C1B3) refl refl
