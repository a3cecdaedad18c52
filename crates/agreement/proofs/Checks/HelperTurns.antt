-- Two turns with the helpers of Checks/BoldHelpers, at the last two bytes of the address space: what each comes to. Both helpers go astray
-- unless they are entered at their own address; the first also unless slot x1 is what the block's code has just computed.
use Rattle.std.proofs.Common.{Bool, false, true, ◌&&◌, List, [], ◌∷◌, ◌≡◌, ◌∙◌, ap, refl, sym, ℕ, ◌+◌, ◌-◌, ◌*◌, ◌%◌, ◌^◌, ◌<◌}
use Rattle.std.proofs.Common.{arith, eqb, length}
use Rattle.std.specs.Prelude.{Option, None, Some}
use Rattle.agreement.specs.Common.{Helper, Helper.for_access, Helper.for_halfword}
use Rattle.agreement.specs.Riscv.Code.{Code, run_at}
use Rattle.agreement.specs.Riscv.Immediates as Manual
use Rattle.agreement.specs.Riscv.Instruction.{value_op_imm}
use Rattle.agreement.specs.Riscv.Run.{GuestState, Read, Stop.called, help, write_x}
use Rattle.agreement.specs.Statement.Agreement.{Entered, helper_of, is_refused, start}
use Rattle.agreement.specs.Statement.Machine.{Call, RegisterBytes, Turn, reply}
use Rattle.agreement.specs.Translation.Replies.{Block, Reply.block, walked}
use Rattle.agreement.specs.Translation.Walk.{instrs}
use Rattle.agreement.specs.X86.Encode.{bytes}
use Rattle.agreement.specs.X86.Memory.{read}
use Rattle.agreement.specs.X86.State.{State}
use Rattle.agreement.proofs.Checks.BoldHelpers.{bold_keeps, overrun, wild, wild_is}
use Rattle.agreement.specs.Cases.{words}
use Rattle.agreement.proofs.Checks.CasesHold.{immediates, translations}
use Rattle.agreement.proofs.Checks.Example.{range}
use Rattle.agreement.proofs.Checks.ExampleStates.{reads_a_turn}
use Rattle.agreement.proofs.Checks.Jumping.{jump_pc}
use Rattle.agreement.proofs.Checks.OneCall.{Called, CalledAs, called_as, tidy}
use Rattle.agreement.proofs.Checks.Sites.{Fits, Site, fits, fits_lem, laid_out, turn_at, fetched}
use Rattle.agreement.proofs.Laws.Runs.{held}
use Rattle.agreement.proofs.Theorem.AlongTheRun.{MeetsAt}
use Rattle.agreement.proofs.Theorem.Consequences.{read_as}
use Rattle.agreement.proofs.Theorem.RefusedAlike.{is_walk, made_halfwords}

-- 1. ADDI x1, x0, 5; LD x1, 0(x1): registers at 0x10000, block at 0x20001, stack pointer 0x30008

abbrev pub mem_run : List ℕ
mem_run = words (0x00500093 ∷ 0x0000B083 ∷ [])

abbrev pub mem_code : Code
mem_code = held jump_pc mem_run

abbrev pub mem_site : Site
mem_site = record { limit = 64; size = 116; room = 4099; block = 0x20001; base = 0x10000; sp = 0x30008 }

-- entered at the helper's address, with 5 in slot x1
abbrev pub mem_good : State → Bool
mem_good u = eqb u.rip (2 ^ 64 - 1) && eqb (read 8 u.mem 0x10008) 5

abbrev pub mem_turn : Turn
mem_turn = turn_at mem_site mem_code mem_run (wild mem_good mem_site jump_pc)

-- 2. A compressed load. Block, stack and registers touch each other, up to 2^64. The helper leaves the last address

abbrev pub half_run : List ℕ
half_run = 0x4108 ∷ []

abbrev pub half_code : Code
half_code = held jump_pc half_run

abbrev pub half_site : Site
half_site = record { limit = 1; size = 88; room = 4099; block = 2 ^ 64 - 416; base = 2 ^ 64 - 256; sp = 2 ^ 64 - 264 }

abbrev pub half_good : State → Bool
half_good u = eqb u.rip (2 ^ 64 - 1)

abbrev pub half_turn : Turn
half_turn = turn_at half_site half_code half_run (wild half_good half_site (2 ^ 64 - 1))

-- 3. How long their blocks are

mem_size : length (bytes (instrs (2 ^ 64 - 1) (2 ^ 64 - 1) (walked jump_pc 64 mem_run))) ≡ 116
unfolding immediates translations words
mem_size = refl

half_size : length (bytes (instrs (2 ^ 64 - 1) (2 ^ 64 - 1) (walked jump_pc 1 half_run))) ≡ 88
unfolding immediates translations words
half_size = refl

mem_unchanged : mem_run ≡ run_at mem_code jump_pc (fetched mem_run)
unfolding words run_at
mem_unchanged = refl

half_unchanged : half_run ≡ run_at half_code jump_pc (fetched half_run)
unfolding run_at
half_unchanged = refl

mem_long : (b : Block) → reply mem_turn jump_pc ≡ block b → length b.code ≡ 116
mem_long b e =
    let w = is_walk jump_pc 64 mem_run (2 ^ 64 - 1) (2 ^ 64 - 1) 4099 b (made_halfwords mem_turn jump_pc mem_unchanged) e in
    ap (λ (x : Block). length x.code) w.is ∙ mem_size

half_long : (b : Block) → reply half_turn jump_pc ≡ block b → length b.code ≡ 88
half_long b e =
    let w = is_walk jump_pc 1 half_run (2 ^ 64 - 1) (2 ^ 64 - 1) 4099 b (made_halfwords half_turn jump_pc half_unchanged) e in
    ap (λ (x : Block). length x.code) w.is ∙ half_size

-- 4. How the manual's run reads them

pub mem_taken : (m : GuestState) → m.pc ≡ jump_pc → is_refused mem_turn m ≡ false
unfolding reads_a_turn
mem_taken m e = rw e refl

-- the load stands at address 2
abbrev pub mem_read : GuestState → Read
mem_read m = record {
  registers = write_x m.registers 1 ((m.registers 0 + 5) % 2 ^ 64);
  pc = 2;
  added = 1;
  stop = called for_access 0x0000B083;
}

pub mem_reads : (h : State → State) (m : GuestState) → m.pc ≡ jump_pc → read_as (turn_at mem_site mem_code mem_run h) m ≡ mem_read m
unfolding reads_a_turn value_op_imm Manual.sign_extend
mem_reads h m e = rw e refl

pub mem_x1 : (m : GuestState) → m.registers 0 ≡ 0 → (mem_read m).registers 1 ≡ 5
unfolding write_x
mem_x1 m z = rw z refl

pub half_taken : (m : GuestState) → m.pc ≡ jump_pc → is_refused half_turn m ≡ false
unfolding reads_a_turn
half_taken m e = rw e refl

pub half_reads : (h : State → State) (m : GuestState) → m.pc ≡ jump_pc
    → read_as (turn_at half_site half_code half_run h) m ≡ help m.registers jump_pc for_halfword 0x4108
unfolding reads_a_turn
half_reads h m e = rw e refl

-- 5. They meet the premises: the states that their blocks' CALLs enter are those in which the helpers keep what is asked

target_is : (s : Site) (g : Code) (hs : List ℕ) (f : State → State) (h : Helper) → helper_of (turn_at s g hs f) h ≡ 2 ^ 64 - 1
target_is s g hs f for_halfword = refl
target_is s g hs f for_access = refl

-- entered at the helper's address, with the registers that the run has read
pub record Inside (s : Site) (q : Read) (a : State) : Type 0 where
  pub rip : a.rip ≡ 2 ^ 64 - 1
  pub slots : (r : ℕ) → r < 32 → read 8 a.mem (s.base + 8 * r) ≡ q.registers r

inside : (s : Site) (g : Code) (hs : List ℕ) (rb : RegisterBytes) (b : Block) (u a : State) → CalledAs s g hs jump_pc rb b u a
    → Inside s (read_as (turn_at s g hs (tidy s)) (start jump_pc rb)) a
unfolding Entered Called
inside s g hs rb b u a w = go w.v.call w.says w.called
  where
    go : (o : Option Call) → Entered (turn_at s g hs (tidy s)) b.count w.v (read_as (turn_at s g hs (tidy s)) (start jump_pc rb)) o
        → Called o u a → Inside s (read_as (turn_at s g hs (tidy s)) (start jump_pc rb)) a
    go None y k = absurd k
    go (Some d) y k = record {
      rip = ap (λ (x : State). x.rip) (sym k.1) ∙ y.target ∙ target_is s g hs (tidy s) y.h;
      slots = λ r l. ap (λ (x : State). read 8 x.mem (s.base + 8 * r)) (sym k.1) ∙ y.slots_inside r (omega (arith, l));
    }

turn_meets : (s : Site) (g : Code) (hs : List ℕ) (good : State → Bool) (rax : ℕ) → Fits s → rax < 2 ^ 64
    → hs ≡ run_at g jump_pc (fetched hs)
    → ((b : Block) → reply (turn_at s g hs (wild good s rax)) jump_pc ≡ block b → length b.code ≡ s.size)
    → ((a : State) → read 8 (overrun s a.mem) s.base ≡ 0)
    → ((rb : RegisterBytes) (a : State) → read 8 rb 0 ≡ 0 → Inside s (read_as (turn_at s g hs (tidy s)) (start jump_pc rb)) a
    → good a ≡ true)
    → MeetsAt (turn_at s g hs (wild good s rax)) jump_pc
turn_meets s g hs good rax f l un long x0 ok = record {
  typed = record { helper16 = omega arith; helper_mem = omega arith; others = λ k h. omega (arith, h) };
  unchanged = λ r. un;
  enterable = λ b rb z e. record {
    layout = laid_out s g hs (wild good s rax) (length b.code) f (long b e);
    helper = λ u a k ws xs p c.
        let w = called_as s g hs (wild good s rax) jump_pc rb b u a k ws xs f (omega arith) z un long e p c in
        let y = ok rb a z (inside s g hs rb b u a w) in
        rw (wild_is good s rax a y) (bold_keeps s g hs (wild good s rax) rax (length b.code) a l (long b e) (x0 a));
  };
}

-- the first helper's test
pub mem_known : (a : State) → a.rip ≡ 2 ^ 64 - 1 → read 8 a.mem 0x10008 ≡ 5 → mem_good a ≡ true
mem_known a e k = rw (e, k) refl

pub mem_meets : MeetsAt mem_turn jump_pc
unfolding fits overrun range read
mem_meets =
    turn_meets mem_site mem_code mem_run mem_good jump_pc (fits_lem mem_site refl) (omega arith) mem_unchanged mem_long (λ a. refl) known
  where
    known : (rb : RegisterBytes) (a : State) → read 8 rb 0 ≡ 0
        → Inside mem_site (read_as (turn_at mem_site mem_code mem_run (tidy mem_site)) (start jump_pc rb)) a → mem_good a ≡ true
    known rb a z i =
        let q = mem_reads (tidy mem_site) (start jump_pc rb) refl in
        mem_known a i.rip (i.slots 1 (omega arith) ∙ ap (λ (q : Read). q.registers 1) q ∙ mem_x1 (start jump_pc rb) z)

pub half_meets : MeetsAt half_turn jump_pc
unfolding fits overrun range read
half_meets =
    turn_meets half_site half_code half_run half_good (2 ^ 64 - 1) (fits_lem half_site refl) (omega arith) half_unchanged half_long
    (λ a. refl) (λ rb a z i. rw i.rip refl)
