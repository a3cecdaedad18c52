-- The guest's code changes between turns: it stores new code, issues FENCE.I and enters what it stored. The theorem is applied.
use Rattle.std.proofs.Common.{false, List, [], ◌∷◌, ◌∙◌, ◌≡◌, refl, ◌*◌, ◌+◌, ℕ, arith}
use Rattle.std.specs.Prelude.{Option, None, Some}
use Rattle.agreement.specs.Common.{Helper.for_access}
use Rattle.agreement.specs.Riscv.Code.{Code, run_at}
use Rattle.agreement.specs.Riscv.Instruction.{value_op_imm}
use Rattle.agreement.specs.Riscv.Immediates as Manual
use Rattle.agreement.specs.Riscv.Run.{GuestState, Stop.called, Stop.plain, jump, write_x}
use Rattle.agreement.specs.Statement.Agreement.{Agrees, after, is_refused, start}
use Rattle.agreement.specs.Statement.Machine.{Event, Turn, since}
use Rattle.agreement.specs.X86.Form.{RAX, RDX}
use Rattle.agreement.specs.X86.Memory.{put, read, write}
use Rattle.agreement.specs.X86.State.{State}
use Rattle.agreement.specs.Cases.{words}
use Rattle.agreement.proofs.Checks.Example.{leaves, turn_of, zeros}
use Rattle.agreement.proofs.Checks.ExampleStates.{reads_a_turn}
use Rattle.agreement.proofs.Checks.PremisesMet.{Allowed, applied, turn_of_meets}
use Rattle.agreement.proofs.Laws.Runs.{held}
use Rattle.agreement.proofs.Theorem.Consequences.{WentPlainly, after_helper, after_plain, read_as}
use Rattle.agreement.proofs.Theorem.AlongTheRun.{Ends, MeetsAt, Met, ends_helped, ends_here, ends_plain, met_helped, met_plain}

-- 1. The guest: SW x2, 0(x3); FENCE.I; ADDI x1, x0, 5; JAL x0, -12, at 0x80000000. The store writes ADDI x1, x0, 7 over the third word

abbrev old_code : Code
old_code = held 0x80000000 (words (0x0021A023 ∷ 0x0000100F ∷ 0x00500093 ∷ 0xFF5FF06F ∷ []))

-- elsewhere, odd addresses among it, there is code too
abbrev or_ones : Option ℕ → Option ℕ
or_ones None = Some 0xFFFF
or_ones (Some h) = Some h

abbrev pub new_code : Code
new_code x = or_ones (held 0x80000000 (words (0x0021A023 ∷ 0x0000100F ∷ 0x00700093 ∷ 0xFF5FF06F ∷ [])) x)

-- ADDI x1, x0, 5 and JAL, the code as it was; entered first
abbrev pub old_turn : Turn
old_turn = turn_of 0x30008 old_code (words (0x00500093 ∷ 0xFF5FF06F ∷ [])) (leaves 1 0 0 0)

-- the store, by the memory helper, which goes on behind it
abbrev store_turn : Turn
store_turn = turn_of 0x30008 old_code (words (0x0021A023 ∷ [])) (leaves 5 9 0x80000004 1)

-- FENCE.I. The block was made before the store, from the old code: its run has not changed
abbrev fence_turn : Turn
fence_turn = turn_of 0x30008 new_code (words (0x0000100F ∷ [])) (leaves 1 0 0 0)

made_before : fence_turn.made ≡ run_at old_code 0x80000004 2
unfolding words run_at
made_before = refl

-- ADDI x1, x0, 7 and JAL, the code as it is then, at the pc of the first turn
abbrev new_turn : Turn
new_turn = turn_of 0x30008 new_code (words (0x00700093 ∷ 0xFF5FF06F ∷ [])) (leaves 1 0 0 0)

abbrev pub four_turns : List Turn
four_turns = old_turn ∷ store_turn ∷ fence_turn ∷ new_turn ∷ []

-- 2. The premises are met, and the theorem is applied

allowed : Allowed 0x30008
allowed = record { above = omega arith; fits = omega arith; aligned = refl }

pub old_meets : MeetsAt old_turn 0x80000008
old_meets =
    turn_of_meets 0x30008 old_code old_turn.made 1 0 0 0 0x80000008 allowed
    (unfold words run_at in refl) (omega arith) (omega arith) (omega arith)

store_meets : MeetsAt store_turn 0x80000000
store_meets =
    turn_of_meets 0x30008 old_code store_turn.made 5 9 0x80000004 1 0x80000000 allowed
    (unfold words run_at in refl) (omega arith) (omega arith) (omega arith)

fence_meets : MeetsAt fence_turn 0x80000004
fence_meets =
    turn_of_meets 0x30008 new_code fence_turn.made 1 0 0 0 0x80000004 allowed
    (unfold words run_at in refl) (omega arith) (omega arith) (omega arith)

new_meets : MeetsAt new_turn 0x80000008
new_meets =
    turn_of_meets 0x30008 new_code new_turn.made 1 0 0 0 0x80000008 allowed
    (unfold words run_at in refl) (omega arith) (omega arith) (omega arith)

-- the manual's states: at the start, after the first turn, after the store's helper, which was entered in u, and after FENCE.I
abbrev pub n0 : GuestState
n0 = start 0x80000008 zeros

abbrev n1 : GuestState
n1 = after_plain old_turn n0

abbrev n2 : State → GuestState
n2 u = after_helper store_turn u

abbrev n3 : State → GuestState
n3 u = after_plain fence_turn (n2 u)

-- what kind of turn each is, by computing
pub record Plainly (t : Turn) (m : GuestState) : Type 0 where
  pub taken : is_refused t m ≡ false
  pub stops : (read_as t m).stop ≡ plain

pub old_plain : Plainly old_turn n0
unfolding reads_a_turn
old_plain = record { taken = refl; stops = refl }

store_taken : is_refused store_turn n1 ≡ false
unfolding reads_a_turn Manual.sign_extend
store_taken = refl

store_calls : (read_as store_turn n1).stop ≡ called for_access 0x0021A023
unfolding reads_a_turn Manual.sign_extend
store_calls = refl

fence_plain : (u : State) → Plainly fence_turn (n2 u)
unfolding reads_a_turn
fence_plain u = record { taken = refl; stops = refl }

new_plain : (u : State) → Plainly new_turn (n3 u)
unfolding reads_a_turn
new_plain u = record { taken = refl; stops = refl }

pub four_met : Met n0 four_turns
four_met =
    met_plain n0 old_turn (store_turn ∷ fence_turn ∷ new_turn ∷ []) old_meets old_plain.taken old_plain.stops
    (met_helped n1 store_turn (fence_turn ∷ new_turn ∷ []) for_access 0x0021A023 at_store store_taken store_calls (λ u.
    met_plain (n2 u) fence_turn (new_turn ∷ []) (at_fence u) (fence_plain u).taken (fence_plain u).stops
    (met_plain (n3 u) new_turn [] (at_new u) (new_plain u).taken (new_plain u).stops (unfold Met in tt))))
  where
    at_store : MeetsAt store_turn n1.pc
    at_store = unfold reads_a_turn Manual.sign_extend in store_meets

    at_fence : (u : State) → MeetsAt fence_turn (n2 u).pc
    at_fence u = unfold leaves in fence_meets

    at_new : (u : State) → MeetsAt new_turn (n3 u).pc
    at_new u = unfold reads_a_turn in new_meets

pub four : Agrees 0x80000008 zeros four_turns
four = applied 0x80000008 four_turns (omega arith) four_met

-- 3. What it says of the list

pub old_x1 : (read_as old_turn n0).registers 1 ≡ 5
unfolding reads_a_turn value_op_imm Manual.sign_extend write_x read
old_x1 = refl

fence_reads : (u : State) → read_as fence_turn (n2 u) ≡ jump (n2 u).registers 0x80000008
unfolding reads_a_turn
fence_reads u = refl

record NewReads (u : State) : Type 0 where
  x1 : (read_as new_turn (n3 u)).registers 1 ≡ 7
  pc : (read_as new_turn (n3 u)).pc ≡ 0x80000000
  count : (n3 u).count + (read_as new_turn (n3 u)).added ≡ 3

new_reads : (u : State) → NewReads u
unfolding reads_a_turn value_op_imm Manual.sign_extend write_x read write put
new_reads u = record { x1 = refl; pc = refl; count = refl }

-- in the first turn x1 becomes 5; the block of FENCE.I has count 1 and goes on behind it; in the last turn, at the pc of the first,
-- x1 becomes 7. Since the store 3 instructions were executed
pub record Four (es : List Event) (m : GuestState) : Type 0 where
  pub e0 : Event
  pub e1 : Event
  pub e2 : Event
  pub e3 : Event
  pub events : es ≡ e0 ∷ e1 ∷ e2 ∷ e3 ∷ []
  pub inside : State
  pub first : WentPlainly n0 old_turn e0
  pub first_pc : first.was.pc ≡ 0x80000008
  pub first_x1 : read 8 first.was.v.exit.mem 0x10008 ≡ 5
  pub fence : WentPlainly (n2 inside) fence_turn e2
  pub fence_pc : fence.was.pc ≡ 0x80000004
  pub fence_count : fence.was.b.count ≡ 1
  pub fence_rax : fence.was.v.exit.regs RAX ≡ 0x80000008
  pub fence_rdx : fence.was.v.exit.regs RDX ≡ 1
  pub last : WentPlainly (n3 inside) new_turn e3
  pub last_pc : last.was.pc ≡ 0x80000008
  pub last_x1 : read 8 last.was.v.exit.mem 0x10008 ≡ 7
  pub pc : m.pc ≡ 0x80000000
  pub x1 : m.registers 1 ≡ 7
  pub count : m.count ≡ 3

pub four_ends : Ends n0 four_turns Four
four_ends =
    ends_plain n0 old_turn (store_turn ∷ fence_turn ∷ new_turn ∷ []) Four old_plain.taken old_plain.stops (λ e0 w0.
    ends_helped n1 store_turn (fence_turn ∷ new_turn ∷ []) (λ es. Four (e0 ∷ es)) for_access 0x0021A023 store_taken store_calls (λ e1 w1.
    let u : State = w1.call.inside in
    ends_plain (n2 u) fence_turn (new_turn ∷ []) (λ es. Four (e0 ∷ e1 ∷ es)) (fence_plain u).taken (fence_plain u).stops (λ e2 w2.
    ends_plain (n3 u) new_turn [] (λ es. Four (e0 ∷ e1 ∷ e2 ∷ es)) (new_plain u).taken (new_plain u).stops (λ e3 w3.
    ends_here (after_plain new_turn (n3 u)) (λ es. Four (e0 ∷ e1 ∷ e2 ∷ e3 ∷ es)) (says e0 e1 e2 e3 u w0 w2 w3)))))
  where
    says : (e0 e1 e2 e3 : Event) (u : State) → WentPlainly n0 old_turn e0 → WentPlainly (n2 u) fence_turn e2
        → WentPlainly (n3 u) new_turn e3
        → Four (e0 ∷ e1 ∷ e2 ∷ e3 ∷ []) (after_plain new_turn (n3 u))
    says e0 e1 e2 e3 u w0 w2 w3 =
        let r = new_reads u in
        record {
          e0 = e0;
          e1 = e1;
          e2 = e2;
          e3 = e3;
          events = refl;
          inside = u;
          first = w0;
          first_pc = w0.was.returns.entry_pc;
          first_x1 = w0.says.slots 1 (omega arith) ∙ old_x1;
          fence = w2;
          fence_pc = w2.was.returns.entry_pc ∙ (unfold leaves in refl);
          fence_count = w2.says.count ∙ rw (fence_reads u);
          fence_rax = w2.says.rax ∙ rw (fence_reads u);
          fence_rdx = w2.says.rdx ∙ rw (fence_reads u);
          last = w3;
          last_pc = w3.was.returns.entry_pc ∙ rw (fence_reads u);
          last_x1 = w3.says.slots 1 (omega arith) ∙ r.x1;
          pc = r.pc;
          x1 = r.x1;
          count = r.count;
        }

pub four_turns_lem : Four four.events (after 0x80000008 zeros four_turns four.events)
four_turns_lem = four_ends _ _ four.events _ _ four.history four.along

-- so the machine's own pc, slot x1 and sum of RDX at the end are these
pub record FourEnd : Type 0 where
  pub pc : four.pc' ≡ 0x80000000
  pub x1 : read 8 four.rb' (8 * 1) ≡ 7
  pub count : since 0 four.events ≡ 3

pub four_end : FourEnd
four_end = record {
  pc = four.at_pc ∙ four_turns_lem.pc;
  x1 = four.at_slots 1 (omega arith) ∙ four_turns_lem.x1;
  count = four.at_count ∙ four_turns_lem.count;
}
