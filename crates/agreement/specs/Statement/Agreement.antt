-- The statement of demand 3: the machine's history beside the manual's run. Document 01, "What is equal to it".
use Rattle.std.specs.Prelude.{◌≡◌, Bool, true, false, ◌&&◌, ◌||◌, List, [], ◌∷◌, ℕ, suc, min, ◌+◌, ◌-◌, ◌*◌, ◌%◌, ◌^◌, ◌<◌, length, leb, ltb, Option, None, Some}
use Rattle.agreement.specs.Common.{most_steps, Helper, Helper.for_halfword, Helper.for_access}
use Rattle.agreement.specs.X86.Memory.{at, read}
use Rattle.agreement.specs.X86.Form.{RAX, RCX, RDX, RBX, RSP, RBP, RSI, RDI, R8, R12, R13, R14, R15}
use Rattle.agreement.specs.X86.Step.{all}
use Rattle.agreement.specs.Riscv.Code.{run_at}
use Rattle.agreement.specs.Riscv.Run.{Stop.plain, Stop.called, Read, refused, Left, Feed, GuestState, read_turn, turn, manual}
use Rattle.agreement.specs.Translation.Walk.{instrs}
use Rattle.agreement.specs.Translation.Replies.{walked}
use Rattle.agreement.specs.Statement.Machine.{RegisterBytes, Turn, Call, Visit, Event, Event.rejected, Event.visited, History, since}
use Rattle.agreement.specs.Statement.Premises.{Premises}
use Rattle.agreement.specs.Statement.Steps.{undivided, StepsOf}

-- 1. What a turn feeds to the manual's run: the code as it is then and, after a helper, the slots and RAX that the helper left.
-- `made`, which the machine translates, is not fed

unfoldable pub left_by : Turn → Option Call → Option Left
left_by t None = None
left_by t (Some c) = Some (record { slots = λ r. read 8 c.back.mem (t.base + 8 * r); rax = c.back.regs RAX })

unfoldable pub feed_of : Turn → Option Call → Feed
feed_of t c = record { limit = t.limit; code = t.code; reach = t.reach; room = length t.output; left = left_by t c }

unfoldable pub feed : Turn → Event → Feed
feed t (rejected pc r) = feed_of t None
feed t (visited pc n v) = feed_of t v.call

unfoldable pub feeds : List Turn → List Event → List Feed
feeds [] es = []
feeds (t ∷ ts) [] = []
feeds (t ∷ ts) (e ∷ es) = feed t e ∷ feeds ts es

-- the manual's state at the start: the register bytes, the first pc, count 0
abbrev pub start : ℕ → RegisterBytes → GuestState
start pc rb = record { registers = λ r. read 8 rb (8 * r); pc = pc; count = 0 }

-- 2. What holds of each turn, from the manual's state m when the turn begins

abbrev pub is_refused : Turn → GuestState → Bool
is_refused t m = refused t.limit m.pc (run_at t.code m.pc t.reach) (length t.output)

-- the addresses that a block may write: slots x1 to x31, and 56 bytes of stack, 48 for the six registers that it saves below
-- the entry stack pointer and 8 for the return address of its call. The 8 bytes between these, which make the stack
-- pointer a multiple of 16 at the call, are not written. (The frame that a helper keeps has 56 bytes too: those 48, and the
-- 8 at the entry stack pointer.)
abbrev pub in_slots : Turn → ℕ → Bool
in_slots t x = leb (t.base + 8) x && ltb x (t.base + 256)

abbrev pub in_saved : Turn → ℕ → Bool
in_saved t x = leb (t.sp - 48) x && ltb x t.sp

abbrev pub in_return : Turn → ℕ → Bool
in_return t x = leb (t.sp - 64) x && ltb x (t.sp - 56)

unfoldable pub own : Turn → ℕ → Bool
own t x = in_slots t x || (in_saved t x || in_return t x)

-- every entry: at the manual's pc with the manual's registers; slot x0 zero, at entry and at return; back to the address that
-- stands at the entry stack pointer, the stack pointer 8 higher, the psABI's saved registers as at entry; a step for each
-- instruction of the block at the most, and exactly that where no word divides
pub record Returns (t : Turn) (m : GuestState) (pc : ℕ) (v : Visit) : Type 0 where
  pub accepted : is_refused t m ≡ false
  pub entry_pc : pc ≡ m.pc
  pub entry_slots : (r : ℕ) → r < 32 → read 8 v.entry.mem (t.base + 8 * r) ≡ m.registers r
  pub entry_x0 : read 8 v.entry.mem t.base ≡ 0
  pub exit_x0 : read 8 v.exit.mem t.base ≡ 0
  pub rip : v.exit.rip ≡ read 8 v.entry.mem t.sp
  pub rsp : v.exit.regs RSP ≡ at t.sp 8
  pub rbx : v.exit.regs RBX ≡ v.entry.regs RBX
  pub rbp : v.exit.regs RBP ≡ v.entry.regs RBP
  pub r12 : v.exit.regs R12 ≡ v.entry.regs R12
  pub r13 : v.exit.regs R13 ≡ v.entry.regs R13
  pub r14 : v.exit.regs R14 ≡ v.entry.regs R14
  pub r15 : v.exit.regs R15 ≡ v.entry.regs R15
  pub steps : StepsOf (instrs t.helper16 t.helper_mem (walked m.pc t.limit t.made))
      (undivided (min t.limit most_steps) (run_at t.code m.pc t.reach)) v.steps
  pub log : all (own t) v.log ≡ true

-- an entry without a helper; n: the translation's count; q: the turn as the manual's run reads it
pub record Plain (t : Turn) (n : ℕ) (v : Visit) (q : Read) : Type 0 where
  pub stop : q.stop ≡ plain
  pub rax : v.exit.regs RAX ≡ q.pc
  pub rdx : v.exit.regs RDX ≡ q.added
  pub slots : (r : ℕ) → r < 32 → read 8 v.exit.mem (t.base + 8 * r) ≡ q.registers r
  pub rest : (x : ℕ) → own t x ≡ false → v.exit.mem x ≡ v.entry.mem x
  pub count : n ≡ q.added

-- document 01, "Block bytes": the pair's first address for a halfword, its second for a load or store
abbrev pub helper_of : Turn → Helper → ℕ
helper_of t for_halfword = t.helper16
helper_of t for_access = t.helper_mem

-- an entry with the call c of the helper h for the instruction i: just before the call; at the helper's first instruction,
-- where the slots are still the registers (the CALL has pushed its return address); then at return
pub record Helped (t : Turn) (n : ℕ) (v : Visit) (c : Call) (q : Read) : Type 0 where
  pub h : Helper
  pub i : ℕ
  pub stop : q.stop ≡ called h i
  pub slots : (r : ℕ) → r < 32 → read 8 c.before.mem (t.base + 8 * r) ≡ q.registers r
  pub r8 : c.before.regs R8 ≡ q.pc
  pub rcx : c.before.regs RCX ≡ i
  pub rdi : c.before.regs RDI ≡ v.entry.regs RSI
  pub rsi : c.before.regs RSI ≡ v.entry.regs RDX
  pub rdx : c.before.regs RDX ≡ v.entry.regs RCX
  pub rsp : c.before.regs RSP ≡ t.sp - 56
  pub aligned : c.before.regs RSP % 16 ≡ 0
  pub target : c.inside.rip ≡ helper_of t h
  pub slots_inside : (r : ℕ) → r < 32 → read 8 c.inside.mem (t.base + 8 * r) ≡ q.registers r
  pub rest : (x : ℕ) → own t x ≡ false → c.inside.mem x ≡ v.entry.mem x
  pub rax' : v.exit.regs RAX ≡ c.back.regs RAX
  pub rdx' : v.exit.regs RDX ≡ (c.back.regs RDX + q.added) % 2 ^ 64
  pub rest' : (x : ℕ) → v.exit.mem x ≡ c.back.mem x
  pub count : n ≡ suc q.added

unfoldable pub Entered : Turn → ℕ → Visit → Read → Option Call → Type 0
Entered t n v q None = Plain t n v q
Entered t n v q (Some c) = Helped t n v c q

-- a turn that was refused: the manual's run refuses it too, at the same pc, and x0 is zero
pub record Rejected (t : Turn) (m : GuestState) (pc : ℕ) : Type 0 where
  pub refuses : is_refused t m ≡ true
  pub at_pc : pc ≡ m.pc
  pub x0 : m.registers 0 ≡ 0

-- how a turn is read does not depend on what its helper left: `read_turn` does not look there
unfoldable pub At : GuestState → Turn → Event → Type 0
At m t (rejected pc r) = Rejected t m pc
At m t (visited pc n v) = Returns t m pc v × Entered t n v (read_turn (feed_of t None) m) v.call

-- along the list, the manual's run going from turn to turn
unfoldable pub Along : GuestState → List Turn → List Event → Type 0
Along m [] [] = Unit
Along m [] (e ∷ es) = ⊥
Along m (t ∷ ts) [] = ⊥
Along m (t ∷ ts) (e ∷ es) = At m t e × Along (turn (feed t e) m) ts es

-- 3. What holds of the list

-- the manual's state after the list
abbrev pub after : ℕ → RegisterBytes → List Turn → List Event → GuestState
after pc rb ts es = manual (feeds ts es) (start pc rb)

pub record Agrees (pc : ℕ) (rb : RegisterBytes) (ts : List Turn) : Type 0 where
  -- there is a history, every entry running to its return, and no other
  pub events : List Event
  pub pc' : ℕ
  pub rb' : RegisterBytes
  pub history : History pc rb ts events pc' rb'
  pub only : (es : List Event) (p : ℕ) (b : RegisterBytes)
      → History pc rb ts es p b → (events ≡ es) × (pc' ≡ p) × (rb' ≡ b)
  -- at its end pc, slots and the sum of RDX since the last helper are the manual's run's pc, registers and count
  pub at_pc : pc' ≡ (after pc rb ts events).pc
  pub at_slots : (r : ℕ) → r < 32 → read 8 rb' (8 * r) ≡ (after pc rb ts events).registers r
  pub at_x0 : (after pc rb ts events).registers 0 ≡ 0
  pub at_count : since 0 events ≡ (after pc rb ts events).count
  -- and on the way each turn is as the manual's run has it
  pub along : Along (start pc rb) ts events

-- The theorem: for every first pc below 2^64, all register bytes whose slot x0 is zero, and every list of turns that meets
-- the premises
unfoldable pub Agreement : Type 0
Agreement =
    (pc : ℕ) (rb : RegisterBytes) (ts : List Turn)
    → pc < 2 ^ 64 → read 8 rb 0 ≡ 0 → Premises pc rb ts → Agrees pc rb ts
