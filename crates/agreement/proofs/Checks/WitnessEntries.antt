-- What the theorem says of the example's entries, field by field, as numbers: every field of `Returns`, `Helped` and `Plain`.
use Rattle.std.proofs.Common.{Bool, false, not, true, List, [], ◌∷◌, ◌∙◌, ◌≡◌, ap, refl, sym, ◌%◌, ◌+◌, ◌-◌, ◌≤◌, ℕ, arith, eqb, length}
use Rattle.agreement.specs.Common.{Helper, Helper.for_access, Helper.for_halfword}
use Rattle.agreement.specs.Riscv.Code.{Code, run_at}
use Rattle.agreement.specs.Riscv.Run.{GuestState, Stop.called, help, write_x}
use Rattle.agreement.specs.Statement.Agreement.{Helped, is_refused, own}
use Rattle.agreement.specs.Statement.Machine.{Call, Event, RegisterBytes, Visit, enter}
use Rattle.agreement.specs.Statement.Steps.{undivided, unless_dividing}
use Rattle.agreement.specs.Translation.Replies.{walked}
use Rattle.agreement.specs.Translation.Walk.{instrs}
use Rattle.agreement.specs.X86.Form.{R12, R13, R14, R15, R8, RAX, RBP, RBX, RCX, RDI, RDX, RSI, RSP}
use Rattle.agreement.specs.X86.Memory.{at, nth, overlay, read}
use Rattle.agreement.specs.X86.State.{State}
use Rattle.agreement.specs.X86.Step.{all}
use Rattle.agreement.specs.Cases.{words}
use Rattle.agreement.proofs.Checks.CasesHold.{immediates, translations}
use Rattle.agreement.proofs.Checks.Example.{halfword_turn, helper_turn, leaves, plain_turn, turn_of}
use Rattle.agreement.proofs.Checks.ExampleStates.{after_three, fourth_reads, m0, m2, reads_a_turn, second_x1, x1_is}
use Rattle.agreement.proofs.Checks.PremisesMet.{Allowed, no_longer}
use Rattle.agreement.proofs.Host.Memory.{read_ext}
use Rattle.agreement.proofs.Laws.Tests.{eqb-true}
use Rattle.agreement.proofs.Theorem.Consequences.{WasEntered, WentHelped, WentPlainly}
use Rattle.agreement.proofs.Theorem.MemoryAtEntry.{overlay_out}

-- 1. Every entry

-- an address where a block may not write is not among those that it wrote
pub not_written : (P : ℕ → Bool) (x : ℕ) (ws : List ℕ) → P x ≡ false → all P ws ≡ true → all (λ y. not (eqb y x)) ws ≡ true
unfolding all
not_written P x [] n h = refl
not_written P x (w ∷ ws) n h = go (P w) refl (eqb w x) refl (not_written P x ws n) h
  where
    go : (b : Bool) → P w ≡ b → (c : Bool) → eqb w x ≡ c → (all P ws ≡ true → all (λ y. not (eqb y x)) ws ≡ true)
        → elim b [ true ↦ all P ws | false ↦ false ] ≡ true
        → elim (not c) [ true ↦ all (λ y. not (eqb y x)) ws | false ↦ false ] ≡ true
    go true p false q f e = f e
    go true p true q f e = absurd (let z : true ≡ false = sym p ∙ ap P (eqb-true w x q) ∙ n in let o : ◌≡◌ {A = ℕ} 0 1 = cc in omega arith)
    go false p c q f e = absurd (let z : ◌≡◌ {A = ℕ} 0 1 = cc in omega arith)

-- the stack at entry is the rest of memory: neither the register bytes nor the block stand there
stack_is : (sp : ℕ) (g : Code) (hs : List ℕ) (h : State → State) (code : List ℕ) (rb : RegisterBytes) (i : ℕ)
    → Allowed sp → length code ≤ 4099
    → (enter (turn_of sp g hs h) code rb).mem (sp + i) ≡ (sp + i) % 256
unfolding enter
stack_is sp g hs h code rb i s l =
    overlay_out (overlay (λ a. a % 256) 0x10000 256 rb) 0x20000 (length code) (nth code) (sp + i) (λ j k. omega (arith, s.above))
    ∙ overlay_out (λ a. a % 256) 0x10000 256 rb (sp + i) (λ j k. omega (arith, s.above))

return_address : (sp : ℕ) (g : Code) (hs : List ℕ) (h : State → State) (code : List ℕ) (rb : RegisterBytes)
    → Allowed sp → length code ≤ 4099
    → read 8 (enter (turn_of sp g hs h) code rb).mem sp ≡ read 8 (λ a. a % 256) sp
return_address sp g hs h code rb s l =
    read_ext 8 (enter (turn_of sp g hs h) code rb).mem (λ a. a % 256) sp (omega (arith, s.fits)) (λ i k.
    let z : at sp i ≡ sp + i = omega (arith, s.fits) in rw z (stack_is sp g hs h code rb i s l))

-- no word of a turn's run divides
abbrev Undivided : ℕ → Code → List ℕ → Type 0
Undivided pc g hs = undivided 64 (run_at g pc (length hs)) ≡ true

-- an entry at the stack pointer sp, of a block of n instructions, returning to the address a: RBX, RBP and R12 to R15 hold
-- 100 and their number; slot x0 and the first and last of the 8 bytes below the saved registers are not written
pub record EntrySays (sp a n : ℕ) (v : Visit) : Type 0 where
  pub x0_entry : read 8 v.entry.mem 0x10000 ≡ 0
  pub x0_exit : read 8 v.exit.mem 0x10000 ≡ 0
  pub rip : v.exit.rip ≡ a
  pub rsp : v.exit.regs RSP ≡ at sp 8
  pub rbx : v.exit.regs RBX ≡ 103
  pub rbp : v.exit.regs RBP ≡ 105
  pub r12 : v.exit.regs R12 ≡ 112
  pub r13 : v.exit.regs R13 ≡ 113
  pub r14 : v.exit.regs R14 ≡ 114
  pub r15 : v.exit.regs R15 ≡ 115
  pub steps : v.steps ≡ n
  pub x0_unwritten : all (λ y. not (eqb y 0x10000)) v.log ≡ true
  pub pad_unwritten : all (λ y. not (eqb y (sp - 56))) v.log ≡ true
  pub pad_end_unwritten : all (λ y. not (eqb y (sp - 49))) v.log ≡ true

-- what holds at sp alone: the return address, and which addresses are not the block's to write
pub record Numbers (sp a : ℕ) (g : Code) (hs : List ℕ) (h : State → State) : Type 0 where
  pub allowed : Allowed sp
  pub address : read 8 (λ x. x % 256) sp ≡ a
  pub x0 : own (turn_of sp g hs h) 0x10000 ≡ false
  pub pad : own (turn_of sp g hs h) (sp - 56) ≡ false
  pub pad_end : own (turn_of sp g hs h) (sp - 49) ≡ false

entry_says : (sp a n : ℕ) (g : Code) (hs : List ℕ) (h : State → State) (m : GuestState) (e : Event) (w : WasEntered m (turn_of sp g hs h) e)
    → Numbers sp a g hs h → length (instrs 0x2222 0x1111 (walked m.pc 64 hs)) ≡ n → Undivided m.pc g hs → EntrySays sp a n w.v
entry_says sp a n g hs h m e w k s d = record {
  x0_entry = w.returns.entry_x0;
  x0_exit = w.returns.exit_x0;
  rip = w.returns.rip ∙ rw w.entry (return_address sp g hs h w.b.code w.rb k.allowed short ∙ k.address);
  rsp = w.returns.rsp;
  rbx = w.returns.rbx ∙ rw w.entry (held RBX refl refl);
  rbp = w.returns.rbp ∙ rw w.entry (held RBP refl refl);
  r12 = w.returns.r12 ∙ rw w.entry (held R12 refl refl);
  r13 = w.returns.r13 ∙ rw w.entry (held R13 refl refl);
  r14 = w.returns.r14 ∙ rw w.entry (held R14 refl refl);
  r15 = w.returns.r15 ∙ rw w.entry (held R15 refl refl);
  steps = omega (arith, w.returns.steps.exact d, s);
  x0_unwritten = not_written (own (turn_of sp g hs h)) 0x10000 w.v.log k.x0 w.returns.log;
  pad_unwritten = not_written (own (turn_of sp g hs h)) (sp - 56) w.v.log k.pad w.returns.log;
  pad_end_unwritten = not_written (own (turn_of sp g hs h)) (sp - 49) w.v.log k.pad_end w.returns.log;
}
  where
    short : length w.b.code ≤ 4099
    short = no_longer (turn_of sp g hs h) w.pc w.b w.reply_is

    held : (r : ℕ) → eqb r RSP ≡ false → eqb r RDI ≡ false → (enter (turn_of sp g hs h) w.b.code w.rb).regs r ≡ 100 + r
    held r p q = unfold enter in rw (p, q)

-- 2. With a helper: ADDI x1, x0, 5; LD x1, 0(x1), entered at 0xFFFFFFFFFFFFFFF8 with all registers 0

pub record HelperSays (pc n : ℕ) (v : Visit) (c : Call) : Type 0 where
  pub entry : EntrySays 0x30008 0x0F0E0D0C0B0A0908 32 v
  pub accepted : is_refused helper_turn m0 ≡ false
  pub entry_pc : pc ≡ 0xFFFFFFFFFFFFFFF8
  pub entry_x1 : read 8 v.entry.mem 0x10008 ≡ 0
  -- just before the call
  pub x0_before : read 8 c.before.mem 0x10000 ≡ 0
  pub x1 : read 8 c.before.mem 0x10008 ≡ 5
  pub r8 : c.before.regs R8 ≡ 0xFFFFFFFFFFFFFFFC
  pub rcx : c.before.regs RCX ≡ 0x0000B083
  pub rdi : c.before.regs RDI ≡ 106
  pub rsi : c.before.regs RSI ≡ 102
  pub rdx : c.before.regs RDX ≡ 101
  pub rsp : c.before.regs RSP ≡ 0x2FFD0
  pub aligned : c.before.regs RSP % 16 ≡ 0
  -- at the helper's first instruction
  pub target : c.inside.rip ≡ 0x1111
  pub x1_inside : read 8 c.inside.mem 0x10008 ≡ 5
  pub x0_byte : c.inside.mem 0x10000 ≡ v.entry.mem 0x10000
  pub pad : c.inside.mem 0x2FFD0 ≡ v.entry.mem 0x2FFD0
  pub pad_end : c.inside.mem 0x2FFD7 ≡ v.entry.mem 0x2FFD7
  -- at return
  pub rax' : v.exit.regs RAX ≡ 0x80000010
  pub rdx' : v.exit.regs RDX ≡ 4
  pub memory' : v.exit.mem 0x2FFD8 ≡ (helper_turn.helper c.inside).mem 0x2FFD8
  pub count : n ≡ 2

-- the two addresses that a reading can stop with are told apart by its instruction
instruction_is : (h k : Helper) (i j : ℕ) → called h i ≡ called k j → (h ≡ k) × (i ≡ j)
instruction_is h k i j e = (cc, cc)

helper_numbers : Numbers 0x30008 0x0F0E0D0C0B0A0908 helper_turn.code helper_turn.made helper_turn.helper
unfolding read own
helper_numbers = record {
  allowed = record { above = omega arith; fits = omega arith; aligned = refl };
  address = refl;
  x0 = refl;
  pad = refl;
  pad_end = refl;
}

helper_instructions : length (instrs 0x2222 0x1111 (walked m0.pc 64 helper_turn.made)) ≡ 32
unfolding translations immediates words
helper_instructions = refl

helper_undivided : Undivided m0.pc helper_turn.code helper_turn.made
unfolding reads_a_turn undivided unless_dividing
helper_undivided = refl

pub helper_says : {e : Event} (w : WentHelped m0 helper_turn e) → HelperSays w.was.pc w.was.b.count w.was.v w.call
unfolding reads_a_turn
helper_says w =
    let k = w.says in
    let j = instruction_is k.h for_access k.i 0x0000B083 (sym k.stop) in
    record {
      entry = entry_says 0x30008 0x0F0E0D0C0B0A0908 32 _ _ _ m0 _ w.was helper_numbers helper_instructions helper_undivided;
      accepted = w.was.returns.accepted;
      entry_pc = w.was.returns.entry_pc;
      entry_x1 = w.was.returns.entry_slots 1 (omega arith) ∙ (unfold read in refl);
      x0_before = k.slots 0 (omega arith) ∙ (unfold write_x read in refl);
      x1 = k.slots 1 (omega arith) ∙ second_x1;
      r8 = k.r8;
      rcx = k.rcx ∙ j.1;
      rdi = k.rdi ∙ rw w.was.entry (unfold enter in refl);
      rsi = k.rsi ∙ rw w.was.entry (unfold enter in refl);
      rdx = k.rdx ∙ rw w.was.entry (unfold enter in refl);
      rsp = k.rsp;
      aligned = k.aligned;
      target = k.target ∙ rw j.0;
      x1_inside = k.slots_inside 1 (omega arith) ∙ second_x1;
      x0_byte = k.rest 0x10000 helper_numbers.x0;
      pad = k.rest 0x2FFD0 helper_numbers.pad;
      pad_end = k.rest 0x2FFD7 helper_numbers.pad_end;
      rax' = k.rax' ∙ rw w.back;
      rdx' = k.rdx' ∙ rw w.back;
      memory' = k.rest' 0x2FFD8 ∙ rw w.back;
      count = k.count;
    }

-- 3. Without a helper: ADDI x2, x1, 1; BNE x1, x2, 16, entered with what the helper left in a state a

pub record PlainSays (pc n : ℕ) (v : Visit) : Type 0 where
  pub entry : EntrySays 0x30018 0x1F1E1D1C1B1A1918 32 v
  pub entry_pc : pc ≡ 0x80000010
  pub entry_x1 : read 8 v.entry.mem 0x10008 ≡ 7
  pub rax : v.exit.regs RAX ≡ 0x80000024
  pub rdx : v.exit.regs RDX ≡ 2
  pub x2 : read 8 v.exit.mem 0x10010 ≡ 8
  pub x0_byte : v.exit.mem 0x10000 ≡ v.entry.mem 0x10000
  pub pad : v.exit.mem 0x2FFE0 ≡ v.entry.mem 0x2FFE0
  pub pad_end : v.exit.mem 0x2FFE7 ≡ v.entry.mem 0x2FFE7
  pub count : n ≡ 2

plain_numbers : Numbers 0x30018 0x1F1E1D1C1B1A1918 plain_turn.code plain_turn.made plain_turn.helper
unfolding read own
plain_numbers = record {
  allowed = record { above = omega arith; fits = omega arith; aligned = refl };
  address = refl;
  x0 = refl;
  pad = refl;
  pad_end = refl;
}

plain_instructions : (a : State) → length (instrs 0x2222 0x1111 (walked (m2 a).pc 64 plain_turn.made)) ≡ 32
unfolding translations immediates words leaves
plain_instructions a = refl

plain_undivided : (a : State) → Undivided (m2 a).pc plain_turn.code plain_turn.made
unfolding reads_a_turn undivided unless_dividing
plain_undivided a = refl

pub plain_says : {e : Event} (a : State) (w : WentPlainly (m2 a) plain_turn e) → PlainSays w.was.pc w.was.b.count w.was.v
unfolding reads_a_turn
plain_says a w =
    let k = w.says in
    let s = after_three a in
    record {
      entry = entry_says 0x30018 0x1F1E1D1C1B1A1918 32 _ _ _ (m2 a) _ w.was plain_numbers (plain_instructions a) (plain_undivided a);
      entry_pc = w.was.returns.entry_pc;
      entry_x1 = w.was.returns.entry_slots 1 (omega arith) ∙ x1_is a;
      rax = k.rax ∙ s.pc;
      rdx = k.rdx;
      x2 = k.slots 2 (omega arith) ∙ s.x2;
      x0_byte = k.rest 0x10000 plain_numbers.x0;
      pad = k.rest 0x2FFE0 plain_numbers.pad;
      pad_end = k.rest 0x2FFE7 plain_numbers.pad_end;
      count = k.count;
    }

-- 4. A halfword's helper, the stack at the end of memory, entered at 0x80000024

pub record HalfwordSays (n : ℕ) (v : Visit) (c : Call) : Type 0 where
  pub entry : EntrySays 0xFFFFFFFFFFFFFFF8 0xFFFEFDFCFBFAF9F8 28 v
  pub stack : v.exit.regs RSP ≡ 0
  pub r8 : c.before.regs R8 ≡ 0x80000024
  pub rcx : c.before.regs RCX ≡ 0x4108
  pub rsp : c.before.regs RSP ≡ 0xFFFFFFFFFFFFFFC0
  pub aligned : c.before.regs RSP % 16 ≡ 0
  pub target : c.inside.rip ≡ 0x2222
  pub rdx' : v.exit.regs RDX ≡ 1
  pub count : n ≡ 1

halfword_numbers : Numbers 0xFFFFFFFFFFFFFFF8 0xFFFEFDFCFBFAF9F8 halfword_turn.code halfword_turn.made halfword_turn.helper
unfolding read own
halfword_numbers = record {
  allowed = record { above = omega arith; fits = omega arith; aligned = refl };
  address = refl;
  x0 = refl;
  pad = refl;
  pad_end = refl;
}

halfword_instructions : (m : GuestState) → length (instrs 0x2222 0x1111 (walked m.pc 64 halfword_turn.made)) ≡ 28
unfolding translations immediates words
halfword_instructions m = refl

halfword_undivided : (m : GuestState) → m.pc ≡ 0x80000024 → Undivided m.pc halfword_turn.code halfword_turn.made
unfolding reads_a_turn undivided
halfword_undivided m e = rw e

pub halfword_says : {e : Event} (m : GuestState) (w : WentHelped m halfword_turn e) → m.pc ≡ 0x80000024
    → HalfwordSays w.was.b.count w.was.v w.call
unfolding leaves
halfword_says m w e =
    let k : Helped halfword_turn w.was.b.count w.was.v w.call (help m.registers 0x80000024 for_halfword 0x4108) =
    rw (fourth_reads m e) at w.says in
    let j = instruction_is k.h for_halfword k.i 0x4108 (sym k.stop) in
    let s = entry_says 0xFFFFFFFFFFFFFFF8 0xFFFEFDFCFBFAF9F8 28 _ _ _ m _ w.was halfword_numbers (halfword_instructions m)
    (halfword_undivided m e) in
    record {
      entry = s;
      stack = s.rsp;
      r8 = k.r8;
      rcx = k.rcx ∙ j.1;
      rsp = k.rsp;
      aligned = k.aligned;
      target = k.target ∙ rw j.0;
      rdx' = k.rdx' ∙ rw w.back;
      count = k.count;
    }
