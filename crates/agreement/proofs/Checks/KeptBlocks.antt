-- Blocks that are kept while the code behind what they span changes: the theorem on kept blocks is applied to two turns whose code has
-- changed, so that the premise of the agreement is not met by the code as it is now, and to one that is refused.
use Rattle.std.proofs.Common.{false, true, List, [], ◌∷◌, ◌++◌, ◌∙◌, ◌≡◌, ap, refl, subst, sym, ◌<◌, ◌^◌, ℕ, zero, suc, arith}
use Rattle.agreement.specs.Common.{Helper.for_halfword}
use Rattle.agreement.specs.Riscv.Code.{Code, SameIn, run_at}
use Rattle.agreement.specs.Riscv.Instruction.{value_op_imm}
use Rattle.agreement.specs.Riscv.Immediates as Manual
use Rattle.agreement.specs.Riscv.Run.{GuestState, Read, read_turn, Stop.called, Stop.plain, manual, turn, write_x}
use Rattle.agreement.specs.Translation.Replies.{Block, Reply, Reply.block, Reply.refusal}
use Rattle.agreement.specs.Statement.Agreement.{Along, At, feed, feed_of, is_refused, start}
use Rattle.agreement.specs.Statement.Kept.{Kept, turns, Current, CurrentAlong, AgreesNow, AgreementOfKept, AlongNow, ReadsAlike, refuses_now, feed_now, feeds_now}
use Rattle.agreement.specs.Statement.Machine.{Event, Event.rejected, Event.visited, History, History.end, History.then, RegisterBytes, Turn, Turned, reply}
use Rattle.agreement.specs.Statement.Premises.{Enterable, Premises, Unchanged, rests_on_code}
use Rattle.agreement.specs.X86.Memory.{read}
use Rattle.agreement.specs.X86.State.{State}
use Rattle.agreement.specs.Cases.{words}
use Rattle.agreement.proofs.Checks.CasesHold.{translations}
use Rattle.agreement.proofs.Checks.Example.{leaves, turn_of, zeros}
use Rattle.agreement.proofs.Checks.ExampleStates.{reads_a_turn}
use Rattle.agreement.proofs.Checks.PremisesMet.{Allowed, turn_of_meets}
use Rattle.agreement.proofs.Laws.Runs.{held}
use Rattle.agreement.proofs.Theorem.Agreement.{x0_at_start}
use Rattle.agreement.proofs.Theorem.AlongTheRun.{MeetsAt, x0_of}
use Rattle.agreement.proofs.Theorem.Consequences.{WentHelped, WentPlainly, after_helper, after_helper_lem, after_plain, after_plain_lem, after_refused, read_as}
use Rattle.agreement.proofs.Theorem.Determined.{turned_once}
use Rattle.agreement.proofs.Theorem.Kept.{agreement_of_kept}
use Rattle.agreement.proofs.Theorem.TurnByTurn.{Led, SlotsAre, led}
use Rattle.agreement.proofs.Checks.StaleBlock.{recoded}

-- 1. The guest: the code as it is now at 0x80000000 is ADDI x1, x0, 5; C.LI x10, 0; a word that is not taken

abbrev pub now : Code
now = held 0x80000000 (words (0x00500093 ∷ []) ++ 0x4108 ∷ words (0x4020C1B3 ∷ []))

-- when the first block was made, a word that is not taken stood behind its ADDI, and ended it
abbrev pub first_code : Code
first_code = held 0x80000000 (words (0x00500093 ∷ 0x4020C1B3 ∷ []))

abbrev pub first_turn : Turn
first_turn = turn_of 0x30008 first_code (words (0x00500093 ∷ 0x4020C1B3 ∷ [])) (leaves 1 0 0 0)

-- when the second was made, other code stood behind its halfword
abbrev pub second_code : Code
second_code = held 0x80000004 (0x4108 ∷ 0xFFFF ∷ [])

abbrev pub second_turn : Turn
second_turn = turn_of 0x30008 second_code (0x4108 ∷ 0xFFFF ∷ []) (leaves 10 9 0x80000006 1)

-- the last word, refused before the code in front of it was this
abbrev pub third_code : Code
third_code = held 0x80000006 (words (0x4020C1B3 ∷ []))

abbrev pub third_turn : Turn
third_turn = turn_of 0x30008 third_code (words (0x4020C1B3 ∷ [])) (leaves 1 0 0 0)

abbrev pub first_kept : Kept
first_kept = record { turn = first_turn; now = now; reach = 2 }

abbrev pub second_kept : Kept
second_kept = record { turn = second_turn; now = now; reach = 64 }

abbrev pub third_kept : Kept
third_kept = record { turn = third_turn; now = now; reach = 2 }

abbrev pub three_kept : List Kept
three_kept = first_kept ∷ second_kept ∷ third_kept ∷ []

-- the agreement itself says nothing of them
first_changed : Unchanged (recoded first_turn now 4) 0x80000000 → ⊥
unfolding words run_at translations
first_changed u = let e = u refl in let z : ◌≡◌ {A = ℕ} 0xC1B3 0x4108 = cc in omega arith

-- 2. The premises, along the manual's run

-- what is asked of each turn, at the manual's pc
unfoldable pub MetNow : GuestState → List Kept → Type 0
MetNow m [] = Unit
MetNow m (k ∷ ks) = MeetsAt k.turn m.pc × Current k m.pc
    × ((e : Event) (pc' : ℕ) (rb rb' : RegisterBytes) → Turned m.pc rb k.turn e pc' rb' → At m k.turn e
    → MetNow (turn (feed k.turn e) m) ks)

abbrev pub Asked : ℕ → RegisterBytes → List Kept → Type 0
Asked pc rb ks = Premises pc rb (turns ks) × CurrentAlong pc rb ks

pub met_now : (ks : List Kept) (m : GuestState) (rb : RegisterBytes) → m.pc < 2 ^ 64 → SlotsAre rb m → m.registers 0 ≡ 0
    → MetNow m ks → Asked m.pc rb ks
unfolding MetNow Premises CurrentAlong turns
met_now [] m rb low sl z h = (tt, tt)
met_now (k ∷ ks) m rb low sl z h = (
  (a.typed, a.unchanged, enter, λ e pc' rb' t. (on e pc' rb' t (met_now ks)).0),
  (h.1, λ e pc' rb' t. (on e pc' rb' t (met_now ks)).1),
)
  where
    a : MeetsAt k.turn m.pc
    a = h.0

    enter : (b : Block) → reply k.turn m.pc ≡ block b → Enterable k.turn b rb
    enter b = a.enterable b rb (x0_of rb m sl z)

    l : Led k.turn m rb
    l = led k.turn m rb a.typed a.unchanged enter low sl z

    on : (e : Event) (pc' : ℕ) (rb' : RegisterBytes) → Turned m.pc rb k.turn e pc' rb'
        → ((n : GuestState) (rb : RegisterBytes) → n.pc < 2 ^ 64 → SlotsAre rb n → n.registers 0 ≡ 0 → MetNow n ks → Asked n.pc rb ks)
        → Asked pc' rb' ks
    on e pc' rb' t f =
        let q = turned_once l.turned t in
        let n : MetNow l.m2 ks = rw l.is at (h.2 l.e l.pc' rb l.rb' l.turned l.at) in
        let p : Asked l.pc' l.rb' ks = subst (λ (x : ℕ). Asked x l.rb' ks) (sym l.pcs) (f l.m2 l.rb' l.low l.slots l.x0 n) in
        subst (λ (x : RegisterBytes). Asked pc' x ks) q.bytes (subst (λ (x : ℕ). Asked x l.rb' ks) q.pcs p)

-- a reply's span; none of a refusal, which the first two turns do not have
abbrev pub span_of : Reply → ℕ
span_of (block b) = b.span
span_of (refusal r) = 0

first_span : (b : Block) → reply first_turn 0x80000000 ≡ block b → b.span ≡ 4
first_span b e = sym (ap span_of e) ∙ computed
  where
    computed : span_of (reply first_turn 0x80000000) ≡ 4
    computed = unfold translations words in refl

second_span : (b : Block) → reply second_turn 0x80000004 ≡ block b → b.span ≡ 2
second_span b e = sym (ap span_of e) ∙ computed
  where
    computed : span_of (reply second_turn 0x80000004) ≡ 2
    computed = unfold translations words in refl

same_first : SameIn 0x80000000 4 first_code now
unfolding words
same_first zero h = refl
same_first (suc zero) h = refl
same_first (suc (suc k)) h = absurd (omega (arith, h))

same_second : SameIn 0x80000004 2 second_code now
unfolding words
same_second zero h = refl
same_second (suc k) h = absurd (omega (arith, h))

first_current : Current first_kept 0x80000000
unfolding translations words
first_current = record {
  spanned = λ b e. rw (first_span b e) same_first;
  fetched = λ b e. rw (first_span b e) (omega arith);
  refused = λ r e y. absurd (let z : ◌≡◌ {A = ℕ} 0 1 = cc in omega arith);
}

second_current : Current second_kept 0x80000004
unfolding translations words
second_current = record {
  spanned = λ b e. rw (second_span b e) same_second;
  fetched = λ b e. rw (second_span b e) (omega arith);
  refused = λ r e y. absurd (let z : ◌≡◌ {A = ℕ} 0 1 = cc in omega arith);
}

third_current : Current third_kept 0x80000006
unfolding translations words run_at
third_current = record {
  spanned = λ b e. absurd (let z : ◌≡◌ {A = ℕ} 0 1 = cc in omega arith);
  fetched = λ b e. absurd (let z : ◌≡◌ {A = ℕ} 0 1 = cc in omega arith);
  refused = λ r e y. refl;
}

allowed : Allowed 0x30008
allowed = record { above = omega arith; fits = omega arith; aligned = refl }

first_meets : MeetsAt first_turn 0x80000000
first_meets =
    turn_of_meets 0x30008 first_code first_turn.made 1 0 0 0 0x80000000 allowed
    (unfold words run_at in refl) (omega arith) (omega arith) (omega arith)

second_meets : MeetsAt second_turn 0x80000004
second_meets =
    turn_of_meets 0x30008 second_code second_turn.made 10 9 0x80000006 1 0x80000004 allowed
    (unfold run_at in refl) (omega arith) (omega arith) (omega arith)

third_meets : MeetsAt third_turn 0x80000006
third_meets =
    turn_of_meets 0x30008 third_code third_turn.made 1 0 0 0 0x80000006 allowed
    (unfold words run_at in refl) (omega arith) (omega arith) (omega arith)

-- the manual's states: at the start, after the first turn, and after the second, whose helper was entered in u
abbrev pub n0 : GuestState
n0 = start 0x80000000 zeros

abbrev pub n1 : GuestState
n1 = after_plain first_turn n0

abbrev pub n2 : State → GuestState
n2 u = after_helper second_turn u

first_taken : is_refused first_turn n0 ≡ false
unfolding reads_a_turn
first_taken = refl

first_plain : (read_as first_turn n0).stop ≡ plain
unfolding reads_a_turn
first_plain = refl

second_taken : is_refused second_turn n1 ≡ false
unfolding reads_a_turn
second_taken = refl

second_calls : (read_as second_turn n1).stop ≡ called for_halfword 0x4108
unfolding reads_a_turn
second_calls = refl

third_refused : (u : State) → is_refused third_turn (n2 u) ≡ true
unfolding reads_a_turn
third_refused u = refl

three_met : MetNow n0 three_kept
unfolding MetNow
three_met = (first_meets, first_current, λ e pc' rb rb' h w. rw (after_plain_lem n0 first_taken first_plain h w).turned second_met)
  where
    third_met : (u : State) → MetNow (n2 u) (third_kept ∷ [])
    third_met u = (unfold leaves in third_meets, unfold leaves in third_current, λ e pc' rb rb' h w. tt)

    at_second : MeetsAt second_turn n1.pc
    at_second = unfold reads_a_turn in second_meets

    current_at : Current second_kept n1.pc
    current_at = unfold reads_a_turn in second_current

    second_met : MetNow n1 (second_kept ∷ third_kept ∷ [])
    second_met = (
      at_second,
      current_at,
      λ e pc' rb rb' h w.
          let c = after_helper_lem n1 for_halfword 0x4108 second_taken second_calls h w in
          rw c.turned (third_met c.call.inside),
    )

-- the theorem on kept blocks, whatever the register bytes
pub applied_now : (pc : ℕ) (rb : RegisterBytes) (ks : List Kept) → pc < 2 ^ 64 → read 8 rb 0 ≡ 0 → MetNow (start pc rb) ks
    → AgreesNow pc rb ks
applied_now pc rb ks low z h = by agreement_of_kept
  where
    asked : Asked pc rb ks
    asked = met_now ks (start pc rb) rb low (λ r k. refl) (x0_at_start pc rb z) h

    by : AgreementOfKept → AgreesNow pc rb ks
    by a = unfold AgreementOfKept in a pc rb ks (omega (arith, low)) z asked.0 asked.1

pub asked : Asked 0x80000000 zeros three_kept
unfolding read
asked = met_now three_kept n0 zeros (omega arith) (λ r k. refl) refl three_met

pub three : AgreesNow 0x80000000 zeros three_kept
three = applied_now 0x80000000 zeros three_kept (omega arith) (unfold read in refl) three_met

-- 3. What it says of the code as it is now: x1 becomes 5 and nothing more is read; then the halfword's helper is called, and goes on; then
-- the turn is refused

pub reads_as : (t : Turn) (e : Event) (m : GuestState) → read_turn (feed t e) m ≡ read_as t m
unfolding feed feed_of
reads_as t (rejected pc r) m = refl
reads_as t (visited pc n v) m = refl

pub record Three (es : List Event) : Type 0 where
  pub e0 : Event
  pub e1 : Event
  pub e2 : Event
  pub events : es ≡ e0 ∷ e1 ∷ e2 ∷ []
  pub inside : State
  pub first_taken : refuses_now first_kept e0 n0 ≡ false
  pub first_x1 : (read_turn (feed_now first_kept e0) n0).registers 1 ≡ 5
  pub first_pc : (read_turn (feed_now first_kept e0) n0).pc ≡ 0x80000004
  pub second_taken : refuses_now second_kept e1 n1 ≡ false
  pub second_stop : (read_turn (feed_now second_kept e1) n1).stop ≡ called for_halfword 0x4108
  pub third_refused : refuses_now third_kept e2 (n2 inside) ≡ true
  pub pc : (manual (feeds_now three_kept es) n0).pc ≡ 0x80000006

-- both replies are blocks
first_rests : rests_on_code (reply first_turn n0.pc) ≡ true
unfolding translations words
first_rests = refl

second_rests : rests_on_code (reply second_turn n1.pc) ≡ true
unfolding translations words reads_a_turn
second_rests = refl

first_reads : (read_as first_turn n0).registers 1 ≡ 5
unfolding reads_a_turn value_op_imm Manual.sign_extend write_x read
first_reads = refl

first_ends : (read_as first_turn n0).pc ≡ 0x80000004
unfolding reads_a_turn
first_ends = refl

helper_pc : (u : State) → (n2 u).pc ≡ 0x80000006
unfolding leaves
helper_pc u = refl

pub three_turns : (es : List Event) {pc' : ℕ} {rb' : RegisterBytes} → History 0x80000000 zeros (turns three_kept) es pc' rb'
    → Along n0 (turns three_kept) es → AlongNow n0 three_kept es → Three es
unfolding turns Along AlongNow manual feeds_now
three_turns [] h a n = elim h [ ]
three_turns (e0 ∷ []) (then h hs) a n = elim hs [ ]
three_turns (e0 ∷ e1 ∷ []) (then h (then h1 hs)) a n = elim hs [ ]
three_turns (e0 ∷ e1 ∷ e2 ∷ es) (then h (then h1 (then h2 hs))) a n = says es hs
  where
    w0 : WentPlainly n0 first_turn e0
    w0 = after_plain_lem n0 first_taken first_plain h a.0

    w1 : WentHelped n1 second_turn e1
    w1 = after_helper_lem n1 for_halfword 0x4108 second_taken second_calls h1 (rw w0.turned at a.1.0)

    u : State
    u = w1.call.inside

    at_n1 : turn (feed_now first_kept e0) n0 ≡ n1
    at_n1 = n.0.goes ∙ w0.turned

    now1 : ReadsAlike second_kept e1 n1
    now1 = rw at_n1 at n.1.0

    at_n2 : turn (feed_now second_kept e1) (turn (feed_now first_kept e0) n0) ≡ n2 u
    at_n2 = rw at_n1 (now1.goes ∙ w1.turned)

    now2 : ReadsAlike third_kept e2 (n2 u)
    now2 = rw at_n2 at n.1.1.0

    third_at : At (n2 u) third_turn e2
    third_at =
        let e : turn (feed second_turn e1) (turn (feed first_turn e0) n0) ≡ n2 u = rw w0.turned w1.turned in rw e at a.1.1.0

    at_end : turn (feed_now third_kept e2) (turn (feed_now second_kept e1) (turn (feed_now first_kept e0) n0)) ≡ n2 u
    at_end = rw at_n2 (now2.goes ∙ after_refused (n2 u) third_turn e2 (third_refused u) third_at)

    first : read_turn (feed_now first_kept e0) n0 ≡ read_as first_turn n0
    first = n.0.reads first_rests ∙ reads_as first_turn e0 n0

    says : (es : List Event) {pc pc' : ℕ} {rb rb' : RegisterBytes} → History pc rb [] es pc' rb' → Three (e0 ∷ e1 ∷ e2 ∷ es)
    says [] end = record {
      e0 = e0;
      e1 = e1;
      e2 = e2;
      events = refl;
      inside = u;
      first_taken = n.0.refuses ∙ first_taken;
      first_x1 = ap (λ (q : Read). q.registers 1) first ∙ first_reads;
      first_pc = ap (λ (q : Read). q.pc) first ∙ first_ends;
      second_taken = now1.refuses ∙ second_taken;
      second_stop = ap (λ (q : Read). q.stop) (now1.reads second_rests ∙ reads_as second_turn e1 n1) ∙ second_calls;
      third_refused = now2.refuses ∙ third_refused u;
      pc = ap (λ (m : GuestState). m.pc) at_end ∙ helper_pc u;
    }
    says (e ∷ es) h = elim h [ ]

pub three_says : Three three.agrees.events
three_says = three_turns three.agrees.events three.agrees.history three.agrees.along three.along

-- so the machine's own pc at the end is the run's of the code as it is now
three_end : three.agrees.pc' ≡ 0x80000006
three_end = three.agrees.at_pc ∙ sym (ap (λ (m : GuestState). m.pc) three.at_end) ∙ three_says.pc

-- the run that is spoken of is of the code as it is now
reads_now : (k : Kept) (e : Event) → (feed_now k e).code ≡ k.now
unfolding feed_now
reads_now k (rejected pc r) = refl
reads_now k (visited pc n v) = refl
