-- The theorem applied to sixteen turns: one at each site, then the two whose helpers keep no more than is asked, and last one that is
-- refused at the last address. What it says of these three, and of every history of the list.
use Rattle.std.proofs.Common.{false, true, List, [], ◌∷◌, ◌++◌, ◌≡◌, ◌∙◌, ap, refl, sym, ℕ, ◌+◌, ◌-◌, ◌*◌, ◌^◌, ◌<◌}
use Rattle.std.proofs.Common.{arith}
use Rattle.std.specs.Prelude.{None}
use Rattle.agreement.specs.Common.{Helper, Helper.for_access, Helper.for_halfword}
use Rattle.agreement.specs.Riscv.Code.{run_at}
use Rattle.agreement.specs.Riscv.Run.{GuestState, Read, Registers, Stop.called, help, write_x}
use Rattle.agreement.specs.Statement.Agreement.{Agrees, At, Helped, after, helper_of, is_refused, own, start}
use Rattle.agreement.specs.Statement.Machine.{Call, Event, History, History.end, RegisterBytes, Turn, Visit, since}
use Rattle.agreement.specs.Statement.Machine.Event.{rejected, visited}
use Rattle.agreement.specs.Translation.Replies.{Refusal, translate}
use Rattle.agreement.specs.X86.Form.{R8, RAX, RCX, RDX, RSP}
use Rattle.agreement.specs.X86.Memory.{read}
use Rattle.agreement.specs.X86.State.{State}
use Rattle.agreement.proofs.Checks.Alone.{Alone, addresses, alone, none}
use Rattle.agreement.proofs.Checks.BoldHelpers.{bold, overrun, wild, wild_is}
use Rattle.agreement.proofs.Checks.Example.{range, refused_turn}
use Rattle.agreement.proofs.Checks.ExampleStates.{reads_a_turn}
use Rattle.agreement.proofs.Checks.HelperTurns.{half_good, half_meets, half_reads, half_site, half_taken, half_turn}
use Rattle.agreement.proofs.Checks.HelperTurns.{mem_good, mem_known, mem_meets, mem_read, mem_reads, mem_site, mem_taken, mem_turn, mem_x1}
use Rattle.agreement.proofs.Checks.Jumping.{jump_pc, lone_site, sites, sites_jump}
use Rattle.agreement.proofs.Checks.JumpList.{EachSays, after_jumps, after_sites, applied_to, jump_turns, jumps_end, jumps_met, ones, ones_x0}
use Rattle.agreement.proofs.Checks.PremisesMet.{refused_meets}
use Rattle.agreement.proofs.Checks.Sites.{turn_at}
use Rattle.agreement.proofs.Theorem.AlongTheRun.{Ends, MeetsAt, Met, ends_helped, ends_here, ends_refused, met_entered, met_refused}
use Rattle.agreement.proofs.Theorem.Consequences.{WentHelped, after_helper, read_as, refused_x0}

-- 1. The turns

-- refused, at the last address
abbrev pub last_turn : Turn
last_turn = turn_at lone_site (λ x. None) [] (λ u. u)

abbrev pub three : List Turn
three = mem_turn ∷ half_turn ∷ last_turn ∷ []

abbrev pub sixteen : List Turn
sixteen = jump_turns sites three

-- the manual's state when these three begin
abbrev pub n0 : GuestState
n0 = record { registers = (start jump_pc ones).registers; pc = jump_pc; count = 13 }

-- 2. Where the helpers are entered

target_is : (h : Helper) (t : Turn) → t.helper16 ≡ 2 ^ 64 - 1 → t.helper_mem ≡ 2 ^ 64 - 1 → helper_of t h ≡ 2 ^ 64 - 1
target_is for_halfword t a b = a
target_is for_access t a b = b

n0_x0 : n0.registers 0 ≡ 0
unfolding read
n0_x0 = refl

pub mem_called : (read_as mem_turn n0).stop ≡ called for_access 0x0000B083
mem_called = ap (λ (q : Read). q.stop) (mem_reads (wild mem_good mem_site jump_pc) n0 refl)

mem_entered : (e : Event) (w : WentHelped n0 mem_turn e) → mem_good w.call.inside ≡ true
mem_entered e w =
    mem_known w.call.inside (w.says.target ∙ target_is w.says.h mem_turn refl refl)
    (w.says.slots_inside 1 (omega arith) ∙ ap (λ (q : Read). q.registers 1) (mem_reads (wild mem_good mem_site jump_pc) n0 refl)
    ∙ mem_x1 n0 n0_x0)

-- the manual's state after it
abbrev pub n1 : State → GuestState
n1 a = record { registers = λ r. read 8 (overrun mem_site a.mem) (0x10000 + 8 * r); pc = jump_pc; count = 0 }

pub after_mem : (e : Event) (w : WentHelped n0 mem_turn e) → after_helper mem_turn w.call.inside ≡ n1 w.call.inside
unfolding bold
after_mem e w = rw (wild_is mem_good mem_site jump_pc w.call.inside (mem_entered e w)) refl

pub half_called : (a : State) → (read_as half_turn (n1 a)).stop ≡ called for_halfword 0x4108
half_called a = ap (λ (q : Read). q.stop) (half_reads (wild half_good half_site (2 ^ 64 - 1)) (n1 a) refl)

half_entered : (a : State) (e : Event) (w : WentHelped (n1 a) half_turn e) → half_good w.call.inside ≡ true
half_entered a e w = let z : w.call.inside.rip ≡ 2 ^ 64 - 1 = w.says.target ∙ target_is w.says.h half_turn refl refl in rw z refl

abbrev pub n2 : State → GuestState
n2 a = record { registers = λ r. read 8 (overrun half_site a.mem) (2 ^ 64 - 256 + 8 * r); pc = 2 ^ 64 - 1; count = 0 }

pub after_half : (a : State) (e : Event) (w : WentHelped (n1 a) half_turn e) → after_helper half_turn w.call.inside ≡ n2 w.call.inside
unfolding bold
after_half a e w = rw (wild_is half_good half_site (2 ^ 64 - 1) w.call.inside (half_entered a e w)) refl

-- 3. The premises are met, and the theorem is applied

pub last_meets : MeetsAt last_turn (2 ^ 64 - 1)
unfolding translate run_at
last_meets = record {
  typed = record { helper16 = omega arith; helper_mem = omega arith; others = λ k h. omega (arith, h) };
  unchanged = λ r. refl;
  enterable = λ b rb z e. absurd (let o : ◌≡◌ {A = ℕ} 0 1 = cc in omega arith);
}

pub last_refused : (m : GuestState) → m.pc ≡ 2 ^ 64 - 1 → is_refused last_turn m ≡ true
unfolding reads_a_turn
last_refused m e = rw e refl

last_met : (a : State) → Met (n2 a) (last_turn ∷ [])
last_met a = met_refused (n2 a) last_turn [] last_meets (last_refused (n2 a) refl) (unfold Met in tt)

half_met : (a : State) → Met (n1 a) (half_turn ∷ last_turn ∷ [])
half_met a =
    met_entered (n1 a) half_turn (last_turn ∷ []) for_halfword 0x4108 half_meets (half_taken (n1 a) refl) (half_called a)
    (λ e w. rw (after_half a e w) (last_met w.call.inside))

three_met : Met n0 three
three_met =
    met_entered n0 mem_turn (half_turn ∷ last_turn ∷ []) for_access 0x0000B083 mem_meets (mem_taken n0 refl) mem_called
    (λ e w. rw (after_mem e w) (half_met w.call.inside))

pub to_n0 : after_jumps (start jump_pc ones) sites ≡ n0
to_n0 = after_sites (start jump_pc ones) refl

pub sixteen_agrees : Agrees jump_pc ones sixteen
sixteen_agrees =
    applied_to jump_pc ones sixteen (omega arith) ones_x0
    (jumps_met sites three (start jump_pc ones) sites_jump refl (λ n e. rw (e ∙ to_n0) three_met))

-- 4. What it says of the turn with the load

pub record MemSays (n : ℕ) (v : Visit) (c : Call) : Type 0 where
  pub entry_x30 : read 8 v.entry.mem 0x100F0 ≡ 2 ^ 64 - 1
  pub entry_x31 : read 8 v.entry.mem 0x100F8 ≡ 2 ^ 64 - 1
  pub x30 : read 8 c.before.mem 0x100F0 ≡ 2 ^ 64 - 1
  pub x31 : read 8 c.before.mem 0x100F8 ≡ 2 ^ 64 - 1
  pub x30_inside : read 8 c.inside.mem 0x100F0 ≡ 2 ^ 64 - 1
  pub x31_inside : read 8 c.inside.mem 0x100F8 ≡ 2 ^ 64 - 1
  pub r8 : c.before.regs R8 ≡ 2
  pub target : c.inside.rip ≡ 2 ^ 64 - 1
  pub rax' : v.exit.regs RAX ≡ 2 ^ 64 - 2
  -- the helper left 2^64 - 1, and one instruction is added
  pub rdx' : v.exit.regs RDX ≡ 0
  pub count : n ≡ 2
  pub unwritten : Alone addresses v.entry.mem c.inside.mem v.log
  -- what the helper changed beside the block, below the frame and above it stays changed
  pub before_block : v.exit.mem 0x20000 ≡ 255
  pub behind_block : v.exit.mem 0x20075 ≡ 255
  pub below_frame : v.exit.mem 0x2FFD7 ≡ 255
  pub above_frame : v.exit.mem 0x30010 ≡ 255

mem_alone : none (own mem_turn) addresses ≡ true
unfolding none own addresses
mem_alone = refl

-- the last two registers, at entry and as the load finds them
pub record High (x : Registers) : Type 0 where
  pub x30 : x 30 ≡ 2 ^ 64 - 1
  pub x31 : x 31 ≡ 2 ^ 64 - 1

n0_high : High n0.registers
unfolding read
n0_high = record { x30 = refl; x31 = refl }

read_high : High (mem_read n0).registers
unfolding write_x read
read_high = record { x30 = refl; x31 = refl }

mem_says : {e : Event} (w : WentHelped n0 mem_turn e) → MemSays w.was.b.count w.was.v w.call
unfolding bold overrun range
mem_says {e = e} w =
    let k : Helped mem_turn w.was.b.count w.was.v w.call (mem_read n0) =
    rw (mem_reads (wild mem_good mem_site jump_pc) n0 refl) at w.says in
    let b : w.call.back ≡ bold mem_site jump_pc w.call.inside =
    w.back ∙ wild_is mem_good mem_site jump_pc w.call.inside (mem_entered e w) in
    record {
      entry_x30 = w.was.returns.entry_slots 30 (omega arith) ∙ n0_high.x30;
      entry_x31 = w.was.returns.entry_slots 31 (omega arith) ∙ n0_high.x31;
      x30 = k.slots 30 (omega arith) ∙ read_high.x30;
      x31 = k.slots 31 (omega arith) ∙ read_high.x31;
      x30_inside = k.slots_inside 30 (omega arith) ∙ read_high.x30;
      x31_inside = k.slots_inside 31 (omega arith) ∙ read_high.x31;
      r8 = k.r8;
      target = k.target ∙ target_is k.h mem_turn refl refl;
      rax' = k.rax' ∙ rw b refl;
      rdx' = k.rdx' ∙ rw b refl;
      count = k.count;
      unwritten = alone (own mem_turn) addresses w.was.v.entry.mem w.call.inside.mem w.was.v.log mem_alone k.rest w.was.returns.log;
      before_block = k.rest' 0x20000 ∙ rw b refl;
      behind_block = k.rest' 0x20075 ∙ rw b refl;
      below_frame = k.rest' 0x2FFD7 ∙ rw b refl;
      above_frame = k.rest' 0x30010 ∙ rw b refl;
    }

-- 5. Of the turn with the halfword, entered with what the first helper left, and of the last turn

pub record HalfSays (n : ℕ) (v : Visit) (c : Call) : Type 0 where
  pub entry_x31 : read 8 v.entry.mem (2 ^ 64 - 8) ≡ 2 ^ 64 - 1
  pub x31 : read 8 c.before.mem (2 ^ 64 - 8) ≡ 2 ^ 64 - 1
  pub x31_inside : read 8 c.inside.mem (2 ^ 64 - 8) ≡ 2 ^ 64 - 1
  pub r8 : c.before.regs R8 ≡ 2 ^ 64 - 2
  pub rcx : c.before.regs RCX ≡ 0x4108
  pub target : c.inside.rip ≡ 2 ^ 64 - 1
  pub rsp : v.exit.regs RSP ≡ 2 ^ 64 - 256
  pub rax' : v.exit.regs RAX ≡ 2 ^ 64 - 1
  pub rdx' : v.exit.regs RDX ≡ 2 ^ 64 - 1
  pub in_front : v.exit.mem (2 ^ 64 - 417) ≡ 255
  pub count : n ≡ 1

n1_high : (a : State) → High (n1 a).registers
unfolding overrun range read
n1_high a = record { x30 = refl; x31 = refl }

half_says : {e : Event} (a : State) (w : WentHelped (n1 a) half_turn e) → HalfSays w.was.b.count w.was.v w.call
unfolding bold
half_says {e = e} a w =
    let k : Helped half_turn w.was.b.count w.was.v w.call (help (n1 a).registers jump_pc for_halfword 0x4108) =
    rw (half_reads (wild half_good half_site (2 ^ 64 - 1)) (n1 a) refl) at w.says in
    let b : w.call.back ≡ bold half_site (2 ^ 64 - 1) w.call.inside =
    w.back ∙ wild_is half_good half_site (2 ^ 64 - 1) w.call.inside (half_entered a e w) in
    let i : k.i ≡ 0x4108 = (let z : ◌≡◌ (called for_halfword 0x4108) (called k.h k.i) = k.stop in cc) in
    record {
      entry_x31 = w.was.returns.entry_slots 31 (omega arith) ∙ (n1_high a).x31;
      x31 = k.slots 31 (omega arith) ∙ (n1_high a).x31;
      x31_inside = k.slots_inside 31 (omega arith) ∙ (n1_high a).x31;
      r8 = k.r8;
      rcx = k.rcx ∙ i;
      target = k.target ∙ target_is k.h half_turn refl refl;
      in_front = k.rest' (2 ^ 64 - 417) ∙ rw b (unfold overrun range in refl);
      rsp = w.was.returns.rsp;
      rax' = k.rax' ∙ rw b refl;
      rdx' = k.rdx' ∙ rw b refl;
      count = k.count;
    }

-- a refused turn is an event of its own, which has the manual's pc
pub record RefusedAt (pc : ℕ) (e : Event) : Type 0 where
  pub found : ℕ
  pub why : Refusal
  pub is : e ≡ rejected found why
  pub at : found ≡ pc

refused_at : (m : GuestState) (t : Turn) (e : Event) → is_refused t m ≡ true → At m t e → RefusedAt m.pc e
unfolding At
refused_at m t (rejected pc r) f a = record { found = pc; why = r; is = refl; at = a.at_pc }
refused_at m t (visited pc n v) f a = absurd (let z : true ≡ false = sym f ∙ a.0.accepted in let o : ◌≡◌ {A = ℕ} 0 1 = cc in omega arith)

-- 6. Every history of the list

pub record Sixteen (es : List Event) (m : GuestState) : Type 0 where
  pub front : List Event
  pub e1 : Event
  pub e2 : Event
  pub e3 : Event
  pub is : es ≡ front ++ (e1 ∷ e2 ∷ e3 ∷ [])
  pub each : EachSays (start jump_pc ones).registers sites front
  pub first : WentHelped n0 mem_turn e1
  pub first_says : MemSays first.was.b.count first.was.v first.call
  pub second : WentHelped (n1 first.call.inside) half_turn e2
  pub second_says : HalfSays second.was.b.count second.was.v second.call
  pub third : RefusedAt (2 ^ 64 - 1) e3
  pub x0 : (n2 second.call.inside).registers 0 ≡ 0
  pub after : m ≡ n2 second.call.inside

pub sixteen_ends : Ends (start jump_pc ones) sixteen Sixteen
sixteen_ends =
    jumps_end sites three (start jump_pc ones) Sixteen sites_jump refl (λ fs y. rw to_n0
    (ends_helped n0 mem_turn (half_turn ∷ last_turn ∷ []) (λ es. Sixteen (fs ++ es)) for_access 0x0000B083
    (mem_taken n0 refl) mem_called (λ e1 w1.
    rw (after_mem e1 w1) (ends_helped (n1 w1.call.inside) half_turn (last_turn ∷ []) (λ es. Sixteen (fs ++ (e1 ∷ es))) for_halfword 0x4108
    (half_taken (n1 w1.call.inside) refl) (half_called w1.call.inside) (λ e2 w2.
    rw (after_half w1.call.inside e2 w2) (ends_refused (n2 w2.call.inside) last_turn [] (λ es. Sixteen (fs ++ (e1 ∷ e2 ∷ es)))
    (last_refused (n2 w2.call.inside) refl) (λ e3 a3.
    ends_here (n2 w2.call.inside) (λ es. Sixteen (fs ++ (e1 ∷ e2 ∷ e3 ∷ es))) (says fs e1 e2 e3 y w1 w2 a3))))))))
  where
    says : (fs : List Event) (e1 e2 e3 : Event) → EachSays (start jump_pc ones).registers sites fs → (w1 : WentHelped n0 mem_turn e1)
        → (w2 : WentHelped (n1 w1.call.inside) half_turn e2) → At (n2 w2.call.inside) last_turn e3
        → Sixteen (fs ++ (e1 ∷ e2 ∷ e3 ∷ [])) (n2 w2.call.inside)
    says fs e1 e2 e3 y w1 w2 a3 = record {
      front = fs;
      e1 = e1;
      e2 = e2;
      e3 = e3;
      is = refl;
      each = y;
      first = w1;
      first_says = mem_says w1;
      second = w2;
      second_says = half_says w1.call.inside w2;
      third = refused_at (n2 w2.call.inside) last_turn e3 (last_refused (n2 w2.call.inside) refl) a3;
      x0 = refused_x0 (n2 w2.call.inside) last_turn e3 (last_refused (n2 w2.call.inside) refl) a3;
      after = refl;
    }

-- what a list of sixteen turns comes to
pub record SixteenEnd (es : List Event) (pc' : ℕ) (rb' : RegisterBytes) : Type 0 where
  pub pc : pc' ≡ 0xFFFFFFFFFFFFFFFF
  pub x0 : read 8 rb' 0 ≡ 0
  pub x30 : read 8 rb' (8 * 30) ≡ 0xFFFFFFFFFFFFFFFF
  pub x31 : read 8 rb' (8 * 31) ≡ 0xFFFFFFFFFFFFFFFF
  pub count : since 0 es ≡ 0

pub n2_high : (a : State) → High (n2 a).registers
unfolding overrun range read
n2_high a = record { x30 = refl; x31 = refl }

pub sixteen_end : (es : List Event) (pc' : ℕ) (rb' : RegisterBytes) → History jump_pc ones sixteen es pc' rb' → SixteenEnd es pc' rb'
sixteen_end es pc' rb' h = record {
  pc = sym q.1 ∙ a.at_pc ∙ ap (λ (m : GuestState). m.pc) k.after;
  x0 = ap (λ (b : RegisterBytes). read 8 b (8 * 0)) (sym q.2) ∙ a.at_slots 0 (omega arith) ∙ a.at_x0;
  x30 = slot 30 (omega arith) ∙ u.x30;
  x31 = slot 31 (omega arith) ∙ u.x31;
  count = ap (since 0) (sym q.0) ∙ a.at_count ∙ ap (λ (m : GuestState). m.count) k.after;
}
  where
    a : Agrees jump_pc ones sixteen
    a = sixteen_agrees

    q : (a.events ≡ es) × (a.pc' ≡ pc') × (a.rb' ≡ rb')
    q = a.only es pc' rb' h

    k : Sixteen a.events (after jump_pc ones sixteen a.events)
    k = sixteen_ends _ _ a.events _ _ a.history a.along

    u : High (n2 k.second.call.inside).registers
    u = n2_high k.second.call.inside

    slot : (r : ℕ) → r < 32 → read 8 rb' (8 * r) ≡ (n2 k.second.call.inside).registers r
    slot r l =
        ap (λ (b : RegisterBytes). read 8 b (8 * r)) (sym q.2) ∙ a.at_slots r (omega (arith, l))
        ∙ ap (λ (m : GuestState). m.registers r) k.after

-- 7. A list that begins at the last address: two turns, both refused

abbrev refused_twice : List Turn
refused_twice = last_turn ∷ last_turn ∷ []

abbrev r0 : GuestState
r0 = start (2 ^ 64 - 1) ones

r0_refused : is_refused last_turn r0 ≡ true
r0_refused = last_refused r0 refl

twice_agrees : Agrees (2 ^ 64 - 1) ones refused_twice
twice_agrees =
    applied_to (2 ^ 64 - 1) ones refused_twice (omega arith) ones_x0
    (met_refused r0 last_turn (last_turn ∷ []) last_meets r0_refused (met_refused r0 last_turn [] last_meets r0_refused (unfold Met in tt)))

-- both events have that pc, and nothing changes
record Twice (es : List Event) (m : GuestState) : Type 0 where
  e1 : Event
  e2 : Event
  is : es ≡ e1 ∷ e2 ∷ []
  first : RefusedAt 0xFFFFFFFFFFFFFFFF e1
  second : RefusedAt 0xFFFFFFFFFFFFFFFF e2
  pc : m.pc ≡ 0xFFFFFFFFFFFFFFFF
  x31 : m.registers 31 ≡ 2 ^ 64 - 1
  count : m.count ≡ 0

twice_ends : Ends r0 refused_twice Twice
twice_ends =
    ends_refused r0 last_turn (last_turn ∷ []) Twice r0_refused (λ e1 a1.
    ends_refused r0 last_turn [] (λ es. Twice (e1 ∷ es)) r0_refused (λ e2 a2. ends_here r0 (λ es. Twice (e1 ∷ e2 ∷ es)) (record {
      e1 = e1;
      e2 = e2;
      is = refl;
      first = refused_at r0 last_turn e1 r0_refused a1;
      second = refused_at r0 last_turn e2 r0_refused a2;
      pc = refl;
      x31 = n0_high.x31;
      count = refl;
    })))

twice_end : (es : List Event) (pc' : ℕ) (rb' : RegisterBytes) → History (2 ^ 64 - 1) ones refused_twice es pc' rb'
    → (pc' ≡ 0xFFFFFFFFFFFFFFFF) × (read 8 rb' (8 * 31) ≡ 2 ^ 64 - 1) × (since 0 es ≡ 0)
twice_end es pc' rb' h = (
  sym q.1 ∙ a.at_pc ∙ k.pc,
  ap (λ (b : RegisterBytes). read 8 b (8 * 31)) (sym q.2) ∙ a.at_slots 31 (omega arith) ∙ k.x31,
  ap (since 0) (sym q.0) ∙ a.at_count ∙ k.count,
)
  where
    a : Agrees (2 ^ 64 - 1) ones refused_twice
    a = twice_agrees

    q : (a.events ≡ es) × (a.pc' ≡ pc') × (a.rb' ≡ rb')
    q = a.only es pc' rb' h

    k : Twice a.events (after (2 ^ 64 - 1) ones refused_twice a.events)
    k = twice_ends _ _ a.events _ _ a.history a.along

-- 8. Lists that begin at address 0: none at all, and one turn with a limit of 0

none_agrees : Agrees 0 ones []
none_agrees = applied_to 0 ones [] (omega arith) ones_x0 (unfold Met in tt)

refused_agrees : Agrees 0 ones (refused_turn ∷ [])
refused_agrees =
    applied_to 0 ones (refused_turn ∷ []) (omega arith) ones_x0
    (met_refused (start 0 ones) refused_turn [] (refused_meets 0) (unfold reads_a_turn in refl) (unfold Met in tt))

-- the first ends as it begins
none_end : (es : List Event) (pc' : ℕ) (rb' : RegisterBytes) → History 0 ones [] es pc' rb' → (es ≡ []) × (pc' ≡ 0) × (rb' ≡ ones)
none_end es pc' rb' end = (refl, refl, refl)

none_history : (none_agrees.events ≡ []) × (none_agrees.pc' ≡ 0) × (none_agrees.rb' ≡ ones)
none_history = none_end _ _ _ none_agrees.history
