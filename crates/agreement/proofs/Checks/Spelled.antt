-- The statements spelled out once more: each premise is put together from what it says, and each conclusion is taken apart into what it
-- says. Whoever
-- lets a definition of Statement/ ask more, or say less, has to write it here too.
use Rattle.std.proofs.Common.{false, true, List, ◌∷◌, ◌≡◌, ◌≢◌, ℕ, suc, ◌+◌, ◌-◌, ◌*◌, ◌%◌, ◌^◌, ◌<◌, ◌≤◌, length}
use Rattle.std.specs.Prelude.{min}
use Rattle.agreement.specs.Riscv.Code.{SameIn, run_at}
use Rattle.agreement.specs.Riscv.Run.{GuestState, Read, Stop.called, Stop.plain, manual, read_turn, turn}
use Rattle.agreement.specs.Translation.Replies.{Block, Refusal, Reply.block, Reply.refusal, walked}
use Rattle.agreement.specs.Translation.Walk.{instrs}
use Rattle.agreement.specs.Statement.Agreement.{Along, Agreement, Agrees, Helped, Plain, Rejected, Returns, after, feed, helper_of, is_refused, own, start}
use Rattle.agreement.specs.Statement.Kept.{AgreementOfKept, AgreesNow, AlongNow, Current, CurrentAlong, Kept, ReadsAlike, feed_now, feeds_now, refuses_now, turns}
use Rattle.agreement.specs.Statement.Machine.{By, Call, Event, History, RegisterBytes, Steps, Turn, Turned, Visit, enter, reply, since}
use Rattle.agreement.specs.Statement.Premises.{Enterable, Keeps, Layout, Premises, Typed, Unchanged, rests_on_code}
use Rattle.agreement.specs.Statement.Steps.{undivided}
use Rattle.agreement.specs.X86.Form.{RAX, RBP, RBX, RCX, RDI, RDX, RSI, RSP, R8, R12, R13, R14, R15, Instr.call_rax}
use Rattle.agreement.specs.X86.Memory.{at, read}
use Rattle.agreement.specs.X86.State.{State}
use Rattle.agreement.specs.X86.Step.{all}
use Rattle.agreement.proofs.Theorem.Agreement.{agreement}
use Rattle.agreement.proofs.Theorem.Kept.{agreement_of_kept}

-- 1. The theorems, of any arguments

of_any : (pc : ℕ) (rb : RegisterBytes) (ts : List Turn) → pc < 2 ^ 64 → read 8 rb 0 ≡ 0 → Premises pc rb ts → Agrees pc rb ts
unfolding Agreement
of_any = agreement

of_any_kept : (pc : ℕ) (rb : RegisterBytes) (ks : List Kept) → pc < 2 ^ 64 → read 8 rb 0 ≡ 0 → Premises pc rb (turns ks)
    → CurrentAlong pc rb ks
    → AgreesNow pc rb ks
unfolding AgreementOfKept
of_any_kept = agreement_of_kept

-- 2. Premises: nothing else is asked

typed_by : (t : Turn) → t.helper16 < 2 ^ 64 → t.helper_mem < 2 ^ 64 → ((k : ℕ) → k < 16 → t.others k < 2 ^ 64) → Typed t
typed_by t h m o = record { helper16 = h; helper_mem = m; others = o }

unchanged_by : (t : Turn) (pc : ℕ) → (rests_on_code (reply t pc) ≡ true → t.made ≡ run_at t.code pc t.reach) → Unchanged t pc
unchanged_by t pc h = h

record LaidOut (t : Turn) (n : ℕ) : Type 0 where
  registers : t.base + 256 ≤ 2 ^ 64
  low : 64 ≤ t.sp
  high : t.sp + 8 ≤ 2 ^ 64
  code : t.block + n ≤ 2 ^ 64
  aligned : t.sp % 16 ≡ 8
  code_registers : (i j : ℕ) → i < n → j < 256 → t.block + i ≢ t.base + j
  code_stack : (i j : ℕ) → i < n → j < 72 → t.block + i ≢ t.sp - 64 + j
  registers_stack : (i j : ℕ) → i < 256 → j < 72 → t.base + i ≢ t.sp - 64 + j
  fetched : (i : ℕ) → i < n → t.ok.fetch (t.block + i) ≡ true
  registers_read : (i : ℕ) → i < 256 → t.ok.read (t.base + i) ≡ true
  registers_written : (i : ℕ) → i < 256 → t.ok.write (t.base + i) ≡ true
  stack_read : (i : ℕ) → i < 72 → t.ok.read (t.sp - 64 + i) ≡ true
  stack_written : (i : ℕ) → i < 72 → t.ok.write (t.sp - 64 + i) ≡ true

layout_by : (t : Turn) (n : ℕ) → LaidOut t n → Layout t n
layout_by t n l = record {
  base_fits = l.registers;
  stack_low = l.low;
  stack_fits = l.high;
  block_fits = l.code;
  block_base_apart = l.code_registers;
  block_stack_apart = l.code_stack;
  base_stack_apart = l.registers_stack;
  block_fetch = l.fetched;
  base_read = l.registers_read;
  base_write = l.registers_written;
  stack_read = l.stack_read;
  stack_write = l.stack_written;
  aligned = l.aligned;
}

record Kind (t : Turn) (n : ℕ) (u v : State) : Type 0 where
  returns : v.rip ≡ read 8 u.mem (u.regs RSP)
  stack : v.regs RSP ≡ at (u.regs RSP) 8
  saved : (v.regs RBX ≡ u.regs RBX) × (v.regs RBP ≡ u.regs RBP) × (v.regs R12 ≡ u.regs R12) × (v.regs R13 ≡ u.regs R13)
      × (v.regs R14 ≡ u.regs R14) × (v.regs R15 ≡ u.regs R15)
  zero : read 8 v.mem t.base ≡ 0
  frame : (j : ℕ) → j < 56 → v.mem (t.sp - 48 + j) % 256 ≡ u.mem (t.sp - 48 + j) % 256
  code : (i : ℕ) → i < n → v.mem (t.block + i) % 256 ≡ u.mem (t.block + i) % 256
  numbers : (v.regs RAX < 2 ^ 64) × (v.regs RDX < 2 ^ 64)

keeps_by : (t : Turn) (n : ℕ) (u v : State) → Kind t n u v → Keeps t n u v
keeps_by t n u v k = record {
  rip = k.returns;
  rsp = k.stack;
  rbx = k.saved.0;
  rbp = k.saved.1;
  r12 = k.saved.2;
  r13 = k.saved.3;
  r14 = k.saved.4;
  r15 = k.saved.5;
  x0 = k.zero;
  frame = k.frame;
  block = k.code;
  rax = k.numbers.0;
  rdx = k.numbers.1;
}

enterable_by : (t : Turn) (b : Block) (rb : RegisterBytes) → Layout t (length b.code)
    → ((u a : State) (k : ℕ) (ws xs : List ℕ) → Steps t (enter t b.code rb) k ws u → By t call_rax u a xs
    → Keeps t (length b.code) a (t.helper a))
    → Enterable t b rb
enterable_by t b rb l h = record { layout = l; helper = h }

premises_by : (pc : ℕ) (rb : RegisterBytes) (t : Turn) (ts : List Turn) → Typed t → Unchanged t pc
    → ((b : Block) → reply t pc ≡ block b → Enterable t b rb)
    → ((e : Event) (pc' : ℕ) (rb' : RegisterBytes) → Turned pc rb t e pc' rb' → Premises pc' rb' ts) → Premises pc rb (t ∷ ts)
unfolding Premises
premises_by pc rb t ts a b c d = (a, b, c, d)

current_by : (k : Kept) (pc : ℕ) → ((b : Block) → reply k.turn pc ≡ block b → SameIn pc b.span k.turn.code k.now)
    → ((b : Block) → reply k.turn pc ≡ block b → b.span ≤ 2 * k.reach)
    → ((r : Refusal) → reply k.turn pc ≡ refusal r → rests_on_code (refusal r) ≡ true → k.turn.made ≡ run_at k.now pc k.reach)
    → Current k pc
current_by k pc s f r = record { spanned = s; fetched = f; refused = r }

current_along_by : (pc : ℕ) (rb : RegisterBytes) (k : Kept) (ks : List Kept) → Current k pc
    → ((e : Event) (pc' : ℕ) (rb' : RegisterBytes) → Turned pc rb k.turn e pc' rb' → CurrentAlong pc' rb' ks) → CurrentAlong pc rb (k ∷ ks)
unfolding CurrentAlong
current_along_by pc rb k ks c h = (c, h)

-- 3. Conclusions: no less is said

returns_say : (t : Turn) (m : GuestState) (pc : ℕ) (v : Visit) → Returns t m pc v
    → (is_refused t m ≡ false) × (pc ≡ m.pc) × ((r : ℕ) → r < 32 → read 8 v.entry.mem (t.base + 8 * r) ≡ m.registers r)
    × (read 8 v.entry.mem t.base ≡ 0) × (read 8 v.exit.mem t.base ≡ 0) × (v.exit.rip ≡ read 8 v.entry.mem t.sp)
    × (v.exit.regs RSP ≡ at t.sp 8)
    × (v.exit.regs RBX ≡ v.entry.regs RBX) × (v.exit.regs RBP ≡ v.entry.regs RBP) × (v.exit.regs R12 ≡ v.entry.regs R12)
    × (v.exit.regs R13 ≡ v.entry.regs R13) × (v.exit.regs R14 ≡ v.entry.regs R14) × (v.exit.regs R15 ≡ v.entry.regs R15)
    × (all (own t) v.log ≡ true)
returns_say t m pc v r =
    (r.accepted, r.entry_pc, r.entry_slots, r.entry_x0, r.exit_x0, r.rip, r.rsp, r.rbx, r.rbp, r.r12, r.r13, r.r14, r.r15, r.log)

steps_say : (t : Turn) (m : GuestState) (pc : ℕ) (v : Visit) → Returns t m pc v
    → let is = instrs t.helper16 t.helper_mem (walked m.pc t.limit t.made) in
    (v.steps ≤ length is) × (undivided (min t.limit 64) (run_at t.code m.pc t.reach) ≡ true → v.steps ≡ length is)
steps_say t m pc v r = (r.steps.most, r.steps.exact)

plain_says : (t : Turn) (n : ℕ) (v : Visit) (q : Read) → Plain t n v q
    → (q.stop ≡ plain) × (v.exit.regs RAX ≡ q.pc) × (v.exit.regs RDX ≡ q.added)
    × ((r : ℕ) → r < 32 → read 8 v.exit.mem (t.base + 8 * r) ≡ q.registers r) × ((x : ℕ) → own t x ≡ false → v.exit.mem x ≡ v.entry.mem x)
    × (n ≡ q.added)
plain_says t n v q p = (p.stop, p.rax, p.rdx, p.slots, p.rest, p.count)

helped_says : (t : Turn) (n : ℕ) (v : Visit) (c : Call) (q : Read) → (h : Helped t n v c q)
    → (q.stop ≡ called h.h h.i) × ((r : ℕ) → r < 32 → read 8 c.before.mem (t.base + 8 * r) ≡ q.registers r)
    × (c.before.regs R8 ≡ q.pc) × (c.before.regs RCX ≡ h.i) × (c.before.regs RDI ≡ v.entry.regs RSI)
    × (c.before.regs RSI ≡ v.entry.regs RDX)
    × (c.before.regs RDX ≡ v.entry.regs RCX) × (c.before.regs RSP ≡ t.sp - 56) × (c.before.regs RSP % 16 ≡ 0)
    × (c.inside.rip ≡ helper_of t h.h)
    × ((r : ℕ) → r < 32 → read 8 c.inside.mem (t.base + 8 * r) ≡ q.registers r) × ((x : ℕ) → own t x ≡ false
    → c.inside.mem x ≡ v.entry.mem x)
    × (v.exit.regs RAX ≡ c.back.regs RAX) × (v.exit.regs RDX ≡ (c.back.regs RDX + q.added) % 2 ^ 64) × ((x : ℕ)
    → v.exit.mem x ≡ c.back.mem x)
    × (n ≡ suc q.added)
helped_says t n v c q h = (
  h.stop,
  h.slots,
  h.r8,
  h.rcx,
  h.rdi,
  h.rsi,
  h.rdx,
  h.rsp,
  h.aligned,
  h.target,
  h.slots_inside,
  h.rest,
  h.rax',
  h.rdx',
  h.rest',
  h.count,
)

rejected_says : (t : Turn) (m : GuestState) (pc : ℕ) → Rejected t m pc → (is_refused t m ≡ true) × (pc ≡ m.pc) × (m.registers 0 ≡ 0)
rejected_says t m pc r = (r.refuses, r.at_pc, r.x0)

agrees_says : (pc : ℕ) (rb : RegisterBytes) (ts : List Turn) (a : Agrees pc rb ts)
    → History pc rb ts a.events a.pc' a.rb'
    × ((es : List Event) (p : ℕ) (b : RegisterBytes) → History pc rb ts es p b → (a.events ≡ es) × (a.pc' ≡ p) × (a.rb' ≡ b))
    × (a.pc' ≡ (after pc rb ts a.events).pc) × ((r : ℕ) → r < 32 → read 8 a.rb' (8 * r) ≡ (after pc rb ts a.events).registers r)
    × ((after pc rb ts a.events).registers 0 ≡ 0) × (since 0 a.events ≡ (after pc rb ts a.events).count) × Along (start pc rb) ts a.events
agrees_says pc rb ts a = (a.history, a.only, a.at_pc, a.at_slots, a.at_x0, a.at_count, a.along)

reads_alike_says : (k : Kept) (e : Event) (m : GuestState) → ReadsAlike k e m
    → (refuses_now k e m ≡ is_refused k.turn m)
    × (rests_on_code (reply k.turn m.pc) ≡ true → read_turn (feed_now k e) m ≡ read_turn (feed k.turn e) m)
    × (turn (feed_now k e) m ≡ turn (feed k.turn e) m)
reads_alike_says k e m r = (r.refuses, r.reads, r.goes)

agrees_now_says : (pc : ℕ) (rb : RegisterBytes) (ks : List Kept) (a : AgreesNow pc rb ks)
    → Agrees pc rb (turns ks) × AlongNow (start pc rb) ks a.agrees.events
    × (manual (feeds_now ks a.agrees.events) (start pc rb) ≡ after pc rb (turns ks) a.agrees.events)
agrees_now_says pc rb ks a = (a.agrees, a.along, a.at_end)
