-- The premises are met by two concrete lists of turns, and the theorem is applied to them.
use Rattle.std.proofs.Common.{List, [], ◌∷◌, ◌≢◌, ◌∙◌, ◌≡◌, ap, refl, ◌%◌, ◌*◌, ◌+◌, ◌-◌, ◌<◌, ◌^◌, ◌≤◌, ℕ, arith, length}
use Rattle.agreement.specs.Common.{Helper.for_access, Helper.for_halfword}
use Rattle.agreement.specs.Laws.{Lengths}
use Rattle.agreement.specs.Riscv.Code.{Code, run_at}
use Rattle.agreement.specs.Translation.Replies.{Block, Reply.block, translate}
use Rattle.agreement.specs.Statement.Agreement.{Agreement, Agrees, start}
use Rattle.agreement.specs.Statement.Machine.{Turn, reply}
use Rattle.agreement.specs.Statement.Premises.{Keeps, Layout}
use Rattle.agreement.specs.X86.Memory.{Memory, read, write}
use Rattle.agreement.specs.X86.State.{State}
use Rattle.agreement.specs.Cases.{words}
use Rattle.agreement.proofs.Checks.Example.{first_pc, five_turns, halfword_turn, helper_run, helper_turn, leaves, odd_turn, plain_run}
use Rattle.agreement.proofs.Checks.Example.{plain_turn, refused_turn, three_turns, turn_of, zeros}
use Rattle.agreement.proofs.Checks.ExampleStates.{after_three, fifth_refused, first_refused_lem, fourth_calls, fourth_taken, m0, m2, m3}
use Rattle.agreement.proofs.Checks.ExampleStates.{second_calls, second_taken, third_plain, third_taken}
use Rattle.agreement.proofs.Laws.Tests.{eqb_no}
use Rattle.agreement.proofs.Host.Memory.{read-write, write_out}
use Rattle.agreement.proofs.Block.Length.{lengths}
use Rattle.agreement.proofs.Theorem.Agreement.{agreement}
use Rattle.agreement.proofs.Theorem.Consequences.{after_helper}
use Rattle.agreement.proofs.Theorem.AlongTheRun.{MeetsAt, Met, met, met_helped, met_plain, met_refused}

-- 1. The layout and the helpers keep document 01's premises

-- a stack pointer that the example's layout allows
pub record Allowed (sp : ℕ) : Type 0 where
  pub above : 0x30000 ≤ sp
  pub fits : sp + 8 ≤ 2 ^ 64
  pub aligned : sp % 16 ≡ 8

laid_out : (sp : ℕ) (g : Code) (hs : List ℕ) (h : State → State) (k : ℕ) → Allowed sp → k ≤ 4099 → Layout (turn_of sp g hs h) k
laid_out sp g hs h k s l = record {
  base_fits = omega arith;
  stack_low = omega (arith, s.above);
  stack_fits = omega (arith, s.fits);
  block_fits = omega arith;
  block_base_apart = λ i j a b. omega arith;
  block_stack_apart = λ i j a b. omega (arith, s.above);
  base_stack_apart = λ i j a b. omega (arith, s.above);
  block_fetch = λ i a. refl;
  base_read = λ i a. refl;
  base_write = λ i a. rw (eqb_no (0x10000 + i) 0 (λ e. omega (arith, e))) refl;
  stack_read = λ i a. refl;
  stack_write = λ i a. rw (eqb_no (sp - 64 + i) 0 (λ e. omega (arith, e, s.above))) refl;
  aligned = omega (arith, s.aligned);
}

-- a byte outside the slots, through the helper's two writes
outside : (m : Memory) (r v x : ℕ) → r < 32 → ((j : ℕ) → j < 256 → x ≢ 0x10000 + j)
    → write 8 (write 8 m (0x10000 + 8 * r) v) 0x10000 0 x ≡ m x
outside m r v x l h =
    write_out 8 (write 8 m (0x10000 + 8 * r) v) 0x10000 0 x (omega arith) (λ i k. omega (arith, h i (omega arith)))
    ∙ write_out 8 m (0x10000 + 8 * r) v x (omega arith) (λ i k. omega (arith, h (8 * r + i) (omega arith)))

leaves_keeps : (sp : ℕ) (g : Code) (hs : List ℕ) (h : State → State) (r v rax rdx k : ℕ) (u : State)
    → Allowed sp → r < 32 → rax < 2 ^ 64 → rdx < 2 ^ 64 → k ≤ 4099 → Keeps (turn_of sp g hs h) k u (leaves r v rax rdx u)
unfolding leaves
leaves_keeps sp g hs h r v rax rdx k u s l la ld lk = record {
  rip = refl;
  rsp = refl;
  rbx = refl;
  rbp = refl;
  r12 = refl;
  r13 = refl;
  r14 = refl;
  r15 = refl;
  x0 = read-write 8 (write 8 u.mem (0x10000 + 8 * r) v) 0x10000 0 (omega arith) (omega arith);
  frame = λ j a. ap (◌% 256) (outside u.mem r v (sp - 48 + j) l (λ i b. omega (arith, s.above)));
  block = λ i a. ap (◌% 256) (outside u.mem r v (0x20000 + i) l (λ j b. omega arith));
  rax = omega (arith, la);
  rdx = omega (arith, ld);
}

-- 2. The turns meet the premises, each at its pc

pub no_longer : (t : Turn) (pc : ℕ) (b : Block) → reply t pc ≡ block b → length b.code ≤ 4099
no_longer t pc b e = by lengths
  where
    by : Lengths → length b.code ≤ 4099
    by h = unfold Lengths in (h pc t.limit t.made t.helper16 t.helper_mem (length t.output) b e).1

pub turn_of_meets : (sp : ℕ) (g : Code) (hs : List ℕ) (r v rax rdx pc : ℕ) → Allowed sp → hs ≡ run_at g pc (length hs)
    → r < 32 → rax < 2 ^ 64 → rdx < 2 ^ 64 → MeetsAt (turn_of sp g hs (leaves r v rax rdx)) pc
unfolding leaves
turn_of_meets sp g hs r v rax rdx pc s un lr la ld = record {
  typed = record { helper16 = omega arith; helper_mem = omega arith; others = λ k h. omega arith };
  unchanged = λ r. un;
  enterable = λ b rb z e.
      let n : length b.code ≤ 4099 = no_longer (turn_of sp g hs (leaves r v rax rdx)) pc b e in
      record {
        layout = laid_out sp g hs (leaves r v rax rdx) (length b.code) s n;
        helper = λ u a k ws xs g' c. leaves_keeps sp g hs (leaves r v rax rdx) r v rax rdx (length b.code) a s lr la ld n;
      };
}

pub refused_meets : (pc : ℕ) → MeetsAt refused_turn pc
unfolding translate run_at
refused_meets pc = record {
  typed = record { helper16 = omega arith; helper_mem = omega arith; others = λ k h. omega arith };
  unchanged = λ r. refl;
  enterable = λ b rb x0 e. absurd (let z : ◌≡◌ {A = ℕ} 0 1 = cc in omega arith);
}

helper_meets : MeetsAt helper_turn first_pc
helper_meets =
    turn_of_meets 0x30008 helper_turn.code helper_run 1 7 0x80000010 3 first_pc
    (record { above = omega arith; fits = omega arith; aligned = refl })
    (unfold words run_at in refl) (omega arith) (omega arith) (omega arith)

plain_meets : MeetsAt plain_turn 0x80000010
plain_meets =
    turn_of_meets 0x30018 plain_turn.code plain_run 1 0 0 0 0x80000010
    (record { above = omega arith; fits = omega arith; aligned = refl })
    (unfold words run_at in refl) (omega arith) (omega arith) (omega arith)

halfword_meets : MeetsAt halfword_turn 0x80000024
halfword_meets =
    turn_of_meets 0xFFFFFFFFFFFFFFF8 halfword_turn.code (0x4108 ∷ []) 10 9 0x80000031 1 0x80000024
    (record { above = omega arith; fits = omega arith; aligned = refl })
    (unfold run_at in refl) (omega arith) (omega arith) (omega arith)

odd_meets : MeetsAt odd_turn 0x80000031
odd_meets =
    turn_of_meets 0x30018 odd_turn.code plain_run 1 0 0 0 0x80000031
    (record { above = omega arith; fits = omega arith; aligned = refl })
    (unfold words run_at in refl) (omega arith) (omega arith) (omega arith)

-- 3. The lists meet them along the manual's run, and the theorem is applied

after_helper_met : (u : State) (ts : List Turn) → ((m3 u).pc ≡ 0x80000024 → Met (m3 u) ts) → Met (m2 u) (plain_turn ∷ ts)
after_helper_met u ts k = met_plain (m2 u) plain_turn ts at_pc (third_taken u) (third_plain u) (k (after_three u).pc)
  where
    at_pc : MeetsAt plain_turn (m2 u).pc
    at_pc = unfold leaves in plain_meets

-- the first two turns of both lists
met_from : (ts : List Turn) → ((u : State) → Met (m2 u) ts) → Met m0 (refused_turn ∷ helper_turn ∷ ts)
met_from ts k =
    met_refused m0 refused_turn (helper_turn ∷ ts) (refused_meets first_pc) first_refused_lem
    (met_helped m0 helper_turn ts for_access 0x0000B083 helper_meets second_taken second_calls k)

pub three_met : Met m0 three_turns
three_met = met_from (plain_turn ∷ []) (λ u. after_helper_met u [] (λ e. unfold Met in tt))

last_met : (u : State) → Met (after_helper halfword_turn u) (odd_turn ∷ [])
last_met u = met_refused (after_helper halfword_turn u) odd_turn [] at_pc (fifth_refused u) (unfold Met in tt)
  where
    at_pc : MeetsAt odd_turn (after_helper halfword_turn u).pc
    at_pc = unfold leaves in odd_meets

pub five_met : Met m0 five_turns
five_met = met_from (plain_turn ∷ halfword_turn ∷ odd_turn ∷ []) (λ u. after_helper_met u (halfword_turn ∷ odd_turn ∷ []) (λ e.
    met_helped (m3 u) halfword_turn (odd_turn ∷ []) for_halfword 0x4108 (rw e halfword_meets)
    (fourth_taken (m3 u) e) (fourth_calls (m3 u) e) last_met))

-- from register bytes that are all zero
pub applied : (pc : ℕ) (ts : List Turn) → pc < 2 ^ 64 → Met (start pc zeros) ts → Agrees pc zeros ts
applied pc ts low h = by agreement
  where
    by : Agreement → Agrees pc zeros ts
    by a = unfold Agreement in
        a pc zeros ts (omega (arith, low)) (unfold read in refl) (met ts (start pc zeros) zeros low (λ r k. refl) (unfold read in refl) h)

pub three : Agrees first_pc zeros three_turns
three = applied first_pc three_turns (omega arith) three_met

pub five : Agrees first_pc zeros five_turns
five = applied first_pc five_turns (omega arith) five_met
