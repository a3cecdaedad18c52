-- The theorem applied to a block of the greatest length, 4,099 bytes, that ends at 2^64: sixty-four DIVW of a run of sixty-five, at the
-- greatest limit. Below it stand the registers, and below them the stack.
use Rattle.std.proofs.Common.{false, List, [], ◌∷◌, ◌≡◌, ◌∙◌, ap, refl, ℕ, ◌+◌, ◌-◌, ◌*◌, ◌^◌, arith, length}
use Rattle.agreement.specs.Cases.{copies, words}
use Rattle.agreement.specs.Riscv.Code.{Code, run_at}
use Rattle.agreement.specs.Riscv.Run.{GuestState, Stop.plain, write_x}
use Rattle.agreement.specs.Statement.Agreement.{Agrees, after, is_refused, start}
use Rattle.agreement.specs.Statement.Machine.{By, Event, RegisterBytes, Steps, Turn, enter, reply, since}
use Rattle.agreement.specs.Translation.Replies.{Block, Reply.block, walked}
use Rattle.agreement.specs.Translation.Walk.{instrs}
use Rattle.agreement.specs.X86.Encode.{bytes}
use Rattle.agreement.specs.X86.Form.{Instr.call_rax, RAX, RDX, RSP}
use Rattle.agreement.specs.X86.Memory.{read}
use Rattle.agreement.specs.X86.State.{State}
use Rattle.agreement.proofs.Checks.CasesHold.{immediates, translations}
use Rattle.agreement.proofs.Checks.ExampleStates.{reads_a_turn}
use Rattle.agreement.proofs.Checks.Jumping.{jump_pc, not_called}
use Rattle.agreement.proofs.Checks.JumpList.{applied_to, ones, ones_x0}
use Rattle.agreement.proofs.Checks.OneCall.{CalledAs, called_as, tidy}
use Rattle.agreement.proofs.Checks.Sites.{Fits, Site, fits, fits_lem, laid_out, turn_at, fetched}
use Rattle.agreement.proofs.Laws.Runs.{held}
use Rattle.agreement.proofs.Theorem.AlongTheRun.{Ends, MeetsAt, Met, ends_here, ends_plain, met_plain}
use Rattle.agreement.proofs.Theorem.Consequences.{WentPlainly, after_plain, read_as}
use Rattle.agreement.proofs.Theorem.RefusedAlike.{is_walk, made_halfwords}

-- 1. The turn: DIVW x3, x1, x2

abbrev run : List ℕ
run = copies 65 (words (0x0220C1BB ∷ []))

abbrev code : Code
code = held jump_pc run

abbrev site : Site
site = record { limit = 2 ^ 64 - 1; size = 4099; room = 4099; block = 2 ^ 64 - 4099; base = 2 ^ 64 - 4360; sp = 2 ^ 64 - 4376 }

abbrev great_turn : Turn
great_turn = turn_at site code run (λ u. u)

fit : Fits site
unfolding fits
fit = fits_lem site refl

long : length (bytes (instrs (2 ^ 64 - 1) (2 ^ 64 - 1) (walked jump_pc (2 ^ 64 - 1) run))) ≡ 4099
unfolding immediates translations words copies
long = refl

unchanged : run ≡ run_at code jump_pc (fetched run)
unfolding words copies run_at
unchanged = refl

-- from any register bytes
taken : (rb : RegisterBytes) → is_refused great_turn (start jump_pc rb) ≡ false
unfolding reads_a_turn copies
taken rb = refl

stops : (h : State → State) (rb : RegisterBytes) → (read_as (turn_at site code run h) (start jump_pc rb)).stop ≡ plain
unfolding reads_a_turn copies
stops h rb = refl

-- 2. The premises are met, and the theorem is applied

size : (b : Block) → reply great_turn jump_pc ≡ block b → length b.code ≡ 4099
size b e =
    let w = is_walk jump_pc (2 ^ 64 - 1) run (2 ^ 64 - 1) (2 ^ 64 - 1) 4099 b (made_halfwords great_turn jump_pc unchanged) e in
    ap (λ (x : Block). length x.code) w.is ∙ long

meets : MeetsAt great_turn jump_pc
meets = record {
  typed = record { helper16 = omega arith; helper_mem = omega arith; others = λ k h. omega (arith, h) };
  unchanged = λ r. unchanged;
  enterable = λ b rb z e. record {
    layout = laid_out site code run (λ u. u) (length b.code) fit (size b e);
    helper = λ u a k ws xs g c. absurd (no_call rb z b e u a k ws xs g c);
  };
}
  where
    no_call : (rb : RegisterBytes) → read 8 rb 0 ≡ 0 → (b : Block) → reply great_turn jump_pc ≡ block b
        → (u a : State) (k : ℕ) (ws xs : List ℕ) → Steps great_turn (enter great_turn b.code rb) k ws u → By great_turn call_rax u a xs → ⊥
    no_call rb z b e u a k ws xs g c =
        let w : CalledAs site code run jump_pc rb b u a =
        called_as site code run (λ u. u) jump_pc rb b u a k ws xs fit (omega arith) z unchanged size e g c in
        not_called _ _ _ _ u a w.v.call (stops (tidy site) rb) w.says w.called

abbrev g0 : GuestState
g0 = start jump_pc ones

great : Agrees jump_pc ones (great_turn ∷ [])
great =
    applied_to jump_pc ones (great_turn ∷ []) (omega arith) ones_x0
    (met_plain g0 great_turn [] meets (taken ones) (stops (λ u. u) ones) (unfold Met in tt))

-- 3. What it says: 64 instructions are counted, the run goes on behind them, and x31 is as it was

great_x31 : (read_as great_turn g0).registers 31 ≡ 2 ^ 64 - 1
unfolding reads_a_turn copies write_x read
great_x31 = refl

great_pc : (read_as great_turn g0).pc ≡ 254
unfolding reads_a_turn copies
great_pc = refl

great_added : (read_as great_turn g0).added ≡ 64
unfolding reads_a_turn copies
great_added = refl

great_count : (after_plain great_turn g0).count ≡ 64
unfolding reads_a_turn copies
great_count = refl

record Great (es : List Event) (m : GuestState) : Type 0 where
  e : Event
  is : es ≡ e ∷ []
  went : WentPlainly g0 great_turn e
  rax : went.was.v.exit.regs RAX ≡ 254
  rdx : went.was.v.exit.regs RDX ≡ 64
  rsp : went.was.v.exit.regs RSP ≡ 2 ^ 64 - 4368
  x31 : read 8 went.was.v.exit.mem (2 ^ 64 - 4360 + 248) ≡ 2 ^ 64 - 1
  count : went.was.b.count ≡ 64
  after_x31 : m.registers 31 ≡ 2 ^ 64 - 1
  after_count : m.count ≡ 64

great_ends : Ends g0 (great_turn ∷ []) Great
great_ends = ends_plain g0 great_turn [] Great (taken ones) (stops (λ u. u) ones) (λ e w.
    ends_here (after_plain great_turn g0) (λ es. Great (e ∷ es)) (says e w))
  where
    says : (e : Event) → WentPlainly g0 great_turn e → Great (e ∷ []) (after_plain great_turn g0)
    says e w = record {
      e = e;
      is = refl;
      went = w;
      rax = w.says.rax ∙ great_pc;
      rdx = w.says.rdx ∙ great_added;
      rsp = w.was.returns.rsp;
      x31 = w.says.slots 31 (omega arith) ∙ great_x31;
      count = w.says.count ∙ great_added;
      after_x31 = great_x31;
      after_count = great_count;
    }

great_says : Great great.events (after jump_pc ones (great_turn ∷ []) great.events)
great_says = great_ends _ _ great.events _ _ great.history great.along

great_end : (read 8 great.rb' (8 * 31) ≡ 2 ^ 64 - 1) × (since 0 great.events ≡ 64)
great_end = (great.at_slots 31 (omega arith) ∙ great_says.after_x31, great.at_count ∙ great_says.after_count)
