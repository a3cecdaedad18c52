-- The theorem applied to a turn at each of thirteen sites, from any register bytes whose slot x0 is zero: what it says of every turn, and
-- of every history of the list.
use Rattle.std.proofs.Common.{false, true, List, [], ◌∷◌, ◌++◌, ◌≡◌, ◌∙◌, ap, refl, sym, subst, ℕ, ◌+◌, ◌-◌, ◌*◌, ◌^◌, ◌<◌}
use Rattle.std.proofs.Common.{arith, cond, ltb}
use Rattle.agreement.specs.Riscv.Run.{GuestState, Registers, Stop.plain, Read}
use Rattle.agreement.specs.Statement.Agreement.{Agreement, Agrees, after, own, start}
use Rattle.agreement.specs.Statement.Machine.{Event, History, RegisterBytes, Turn, Visit, since}
use Rattle.agreement.specs.X86.Form.{RAX, RDX, RSP}
use Rattle.agreement.specs.X86.Memory.{at, read}
use Rattle.agreement.specs.X86.Step.{all}
use Rattle.agreement.proofs.Checks.Alone.{Alone, addresses, alone, none}
use Rattle.agreement.proofs.Checks.Jumping.{Jumps, all_jump, jump_meets, jump_pc, jump_reads, jump_taken, jump_turn, jumps_at, lone_site, jumps_lem, sites, sites_jump}
use Rattle.agreement.proofs.Checks.Sites.{Site, both}
use Rattle.agreement.proofs.Theorem.Agreement.{agreement, x0_at_start}
use Rattle.agreement.proofs.Theorem.AlongTheRun.{Ends, Met, ends_here, ends_plain, met, met_plain}
use Rattle.agreement.proofs.Theorem.Consequences.{WentPlainly, after_plain, read_as}

-- 1. The premises

-- the theorem, whatever the register bytes
pub applied_to : (pc : ℕ) (rb : RegisterBytes) (ts : List Turn) → pc < 2 ^ 64 → read 8 rb 0 ≡ 0 → Met (start pc rb) ts → Agrees pc rb ts
applied_to pc rb ts low z h = by agreement
  where
    by : Agreement → Agrees pc rb ts
    by a = unfold Agreement in
        a pc rb ts (omega (arith, low)) z (met ts (start pc rb) rb low (λ r k. refl) (x0_at_start pc rb z) h)

unfoldable pub jump_turns : List Site → List Turn → List Turn
jump_turns [] ts = ts
jump_turns (s ∷ ss) ts = jump_turn s ∷ jump_turns ss ts

-- the manual's state after one of these turns, and after all
abbrev pub further : GuestState → GuestState
further m = record { registers = m.registers; pc = jump_pc; count = m.count + 1 }

unfoldable pub after_jumps : GuestState → List Site → GuestState
after_jumps m [] = m
after_jumps m (s ∷ ss) = after_jumps (further m) ss

pub after_one : (s : Site) (m : GuestState) → Jumps s → m.pc ≡ jump_pc → after_plain (jump_turn s) m ≡ further m
after_one s m j e = rw (jump_reads s m j e)

pub jump_stops : (s : Site) (m : GuestState) → Jumps s → m.pc ≡ jump_pc → (read_as (jump_turn s) m).stop ≡ plain
jump_stops s m j e = ap (λ (q : Read). q.stop) (jump_reads s m j e)

pub jumps_met : (ss : List Site) (ts : List Turn) (m : GuestState) → all_jump ss ≡ true → m.pc ≡ jump_pc
    → ((n : GuestState) → n ≡ after_jumps m ss → Met n ts) → Met m (jump_turns ss ts)
unfolding all_jump jump_turns after_jumps
jumps_met [] ts m a e k = k m refl
jumps_met (s ∷ ss) ts m a e k =
    let p = both (jumps_at s) (all_jump ss) a in
    let j = jumps_lem s p.0 in
    met_plain m (jump_turn s) (jump_turns ss ts) (rw e (jump_meets s j)) (jump_taken s m j e) (jump_stops s m j e)
    (rw (after_one s m j e) (jumps_met ss ts (further m) p.1 refl k))

-- 2. What it says of each turn, all 32 registers read

pub record JumpSays (s : Site) (x : Registers) (pc n : ℕ) (v : Visit) : Type 0 where
  pub entry_pc : pc ≡ 2 ^ 64 - 2
  pub entry_slots : (r : ℕ) → r < 32 → read 8 v.entry.mem (s.base + 8 * r) ≡ x r
  pub slots : (r : ℕ) → r < 32 → read 8 v.exit.mem (s.base + 8 * r) ≡ x r
  pub entry_x0 : read 8 v.entry.mem s.base ≡ 0
  pub exit_x0 : read 8 v.exit.mem s.base ≡ 0
  pub rax : v.exit.regs RAX ≡ 2 ^ 64 - 2
  pub rdx : v.exit.regs RDX ≡ 1
  pub rsp : v.exit.regs RSP ≡ at s.sp 8
  pub rip : v.exit.rip ≡ read 8 v.entry.mem s.sp
  pub count : n ≡ 1
  pub rest : (x : ℕ) → own (jump_turn s) x ≡ false → v.exit.mem x ≡ v.entry.mem x
  pub log : all (own (jump_turn s)) v.log ≡ true

unfoldable pub EachSays : Registers → List Site → List Event → Type 0
EachSays x [] es = Unit
EachSays x (s ∷ ss) [] = ⊥
EachSays x (s ∷ ss) (e ∷ es) =
    ((m : GuestState) × (w : WentPlainly m (jump_turn s) e) × JumpSays s x w.was.pc w.was.b.count w.was.v) × EachSays x ss es

longer : (x : Registers) (ss : List Site) (es fs : List Event) → EachSays x ss es → EachSays x ss (es ++ fs)
unfolding EachSays
longer x [] es fs h = tt
longer x (s ∷ ss) [] fs h = absurd h
longer x (s ∷ ss) (e ∷ es) fs h = (h.0, longer x ss es fs h.1)

jump_says : (s : Site) (m : GuestState) (e : Event) → Jumps s → m.pc ≡ jump_pc → (w : WentPlainly m (jump_turn s) e)
    → JumpSays s m.registers w.was.pc w.was.b.count w.was.v
jump_says s m e j p w =
    let q = jump_reads s m j p in
    record {
      entry_pc = w.was.returns.entry_pc ∙ p;
      entry_slots = λ r l. w.was.returns.entry_slots r (omega (arith, l));
      slots = λ r l. w.says.slots r (omega (arith, l)) ∙ rw q;
      entry_x0 = w.was.returns.entry_x0;
      exit_x0 = w.was.returns.exit_x0;
      rax = w.says.rax ∙ rw q;
      rdx = w.says.rdx ∙ rw q;
      rsp = w.was.returns.rsp;
      rip = w.was.returns.rip;
      count = w.says.count ∙ rw q;
      rest = w.says.rest;
      log = w.was.returns.log;
    }

pub jumps_end : (ss : List Site) (ts : List Turn) (m : GuestState) (P : List Event → GuestState → Type 0)
    → all_jump ss ≡ true → m.pc ≡ jump_pc
    → ((es : List Event) → EachSays m.registers ss es → Ends (after_jumps m ss) ts (λ fs. P (es ++ fs))) → Ends m (jump_turns ss ts) P
unfolding all_jump jump_turns after_jumps EachSays
jumps_end [] ts m P a e k = k [] tt
jumps_end (s ∷ ss) ts m P a e k =
    let p = both (jumps_at s) (all_jump ss) a in
    let j = jumps_lem s p.0 in
    ends_plain m (jump_turn s) (jump_turns ss ts) P (jump_taken s m j e) (jump_stops s m j e) (λ f w.
    rw (after_one s m j e) (jumps_end ss ts (further m) (λ es. P (f ∷ es)) p.1 refl (λ es y.
    k (f ∷ es) ((m, w, jump_says s m f j e w), y))))

-- 3. The list, from any register bytes with x0 zero

abbrev pub jumping : List Turn
jumping = jump_turns sites []

pub jumping_agrees : (rb : RegisterBytes) → read 8 rb 0 ≡ 0 → Agrees jump_pc rb jumping
jumping_agrees rb z =
    applied_to jump_pc rb jumping (omega arith) z (jumps_met sites [] (start jump_pc rb) sites_jump refl (λ n e. unfold Met in tt))

abbrev AfterJumps : GuestState → List Event → GuestState → Type 0
AfterJumps m es n = EachSays m.registers sites es × (n ≡ after_jumps m sites)

jumping_ends : (m : GuestState) → m.pc ≡ jump_pc → Ends m jumping (AfterJumps m)
jumping_ends m e = jumps_end sites [] m (AfterJumps m) sites_jump e (λ es y.
    ends_here (after_jumps m sites) (λ fs. AfterJumps m (es ++ fs)) (longer _ sites es [] y, refl))

-- every history of the list: each turn as above, the registers as they were, 13 instructions
pub record Jumped (rb : RegisterBytes) (es : List Event) (pc' : ℕ) (rb' : RegisterBytes) : Type 0 where
  pub each : EachSays (start jump_pc rb).registers sites es
  pub pc : pc' ≡ 2 ^ 64 - 2
  pub slots : (r : ℕ) → r < 32 → read 8 rb' (8 * r) ≡ read 8 rb (8 * r)
  pub count : since 0 es ≡ 13

pub after_sites : (m : GuestState) → m.count ≡ 0 → after_jumps m sites ≡ record { registers = m.registers; pc = jump_pc; count = 13 }
unfolding sites after_jumps
after_sites m e = rw e refl

pub jumped : (rb : RegisterBytes) → read 8 rb 0 ≡ 0 → (es : List Event) (pc' : ℕ) (rb' : RegisterBytes)
    → History jump_pc rb jumping es pc' rb' → Jumped rb es pc' rb'
jumped rb z es pc' rb' h = by
  where
    a : Agrees jump_pc rb jumping
    a = jumping_agrees rb z

    q : (a.events ≡ es) × (a.pc' ≡ pc') × (a.rb' ≡ rb')
    q = a.only es pc' rb' h

    ends : AfterJumps (start jump_pc rb) a.events (after jump_pc rb jumping a.events)
    ends = jumping_ends (start jump_pc rb) refl _ _ a.events _ _ a.history a.along

    is : after jump_pc rb jumping a.events ≡ record { registers = (start jump_pc rb).registers; pc = jump_pc; count = 13 }
    is = ends.1 ∙ after_sites (start jump_pc rb) refl

    by : Jumped rb es pc' rb'
    by = record {
      each = subst (λ (x : List Event). EachSays (start jump_pc rb).registers sites x) q.0 ends.0;
      pc = sym q.1 ∙ a.at_pc ∙ ap (λ (m : GuestState). m.pc) is;
      slots = λ r l.
          ap (λ (b : RegisterBytes). read 8 b (8 * r)) (sym q.2) ∙ a.at_slots r (omega (arith, l))
          ∙ ap (λ (m : GuestState). m.registers r) is;
      count = ap (since 0) (sym q.0) ∙ a.at_count ∙ ap (λ (m : GuestState). m.count) is;
    }

-- from registers that are all 2^64 - 1 but for x0, in bytes that are not below 256: a second history of the list ends with these numbers
abbrev pub ones : RegisterBytes
ones i = cond (ltb i 8) 256 511

pub ones_x0 : read 8 ones 0 ≡ 0
unfolding read
ones_x0 = refl

ones_jumped : (es : List Event) (pc' : ℕ) (rb' : RegisterBytes) → History jump_pc ones jumping es pc' rb'
    → (pc' ≡ 0xFFFFFFFFFFFFFFFE) × (read 8 rb' (8 * 31) ≡ 0xFFFFFFFFFFFFFFFF) × (read 8 rb' (8 * 30) ≡ 0xFFFFFFFFFFFFFFFF)
    × (read 8 rb' 0 ≡ 0) × (since 0 es ≡ 13)
unfolding read
ones_jumped es pc' rb' h =
    let j = jumped ones ones_x0 es pc' rb' h in
    (j.pc, j.slots 31 (omega arith), j.slots 30 (omega arith), j.slots 0 (omega arith), j.count)

-- 4. What the first of them leaves alone, nothing standing near what it may write

record LoneSays (es : List Event) : Type 0 where
  v : Visit
  left : Alone addresses v.entry.mem v.exit.mem v.log

lone_none : none (own (jump_turn lone_site)) addresses ≡ true
unfolding none own addresses
lone_none = refl

lone_says : (x : Registers) (es : List Event) → EachSays x sites es → LoneSays es
unfolding EachSays sites
lone_says x [] h = absurd h
lone_says x (e ∷ es) h =
    let v : Visit = h.0.1.was.v in
    let j : JumpSays lone_site x h.0.1.was.pc h.0.1.was.b.count v = h.0.2 in
    record { v = v; left = alone (own (jump_turn lone_site)) addresses v.entry.mem v.exit.mem v.log lone_none j.rest j.log }

lone : LoneSays (jumping_agrees ones ones_x0).events
lone = lone_says _ _ (jumped ones ones_x0 _ _ _ (jumping_agrees ones ones_x0).history).each
