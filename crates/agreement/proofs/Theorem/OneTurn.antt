-- One turn that is not refused: its block is entered and returns, and the manual's run goes the same way.
use Rattle.std.proofs.Common.{Bool, ◌&&◌, ◌||◌, cond, false, true, List, [], ◌++◌, ◌∷◌, ◌∙◌, ◌≡◌, ap, refl, subst, sym, ◌*◌, ◌+◌, ◌-◌, ◌<◌}
use Rattle.std.specs.Prelude.{Option, None, Some}
use Rattle.std.proofs.Common.{◌^◌, ◌≤◌, min, suc, ℕ, arith, eqb, leb, ltb, length}
use Rattle.agreement.specs.Riscv.Code.{run_at}
use Rattle.agreement.specs.Common.{Helper, Helper.for_access, Helper.for_halfword, most_steps}
use Rattle.agreement.specs.Riscv.Run.{Feed, GuestState, Left, Read, Registers, Stop.called, Stop.plain, read_turn, reading, turn}
use Rattle.agreement.specs.Translation.Emit.{add_count, closing, opening, passes}
use Rattle.agreement.specs.Translation.Replies.{Block, Reply.block, block_of, walked}
use Rattle.agreement.specs.Translation.Walk.{End, Walked, counted, ending, helper_at, instrs}
use Rattle.agreement.specs.Translation.Walk.End.{calls, goes_on, jumped}
use Rattle.agreement.specs.Laws.{Halfwords}
use Rattle.agreement.specs.Statement.Agreement.{At, Entered, Returns, feed, feed_of, helper_of, in_return, in_saved, in_slots, is_refused}
use Rattle.agreement.specs.Statement.Agreement.{left_by, own}
use Rattle.agreement.specs.Statement.Machine.{By, Call, RegisterBytes, Steps, Turn, Visit, Went, bytes_after, enter, plus_rdx, reply}
use Rattle.agreement.specs.Statement.Machine.Event.{visited}
use Rattle.agreement.specs.Statement.Machine.Went.{helped, plainly}
use Rattle.agreement.specs.Statement.Premises.{Enterable, Keeps, Layout, Typed}
use Rattle.agreement.specs.X86.Decode.{Bytes}
use Rattle.agreement.specs.X86.Encode.{bytes, encode}
use Rattle.agreement.specs.X86.Form.{Alu.add, Instr, Instr.alu_imm32, Instr.call_rax, Instr.ret, Ok, RAX, RDI, RDX, RSP}
use Rattle.agreement.specs.X86.Memory.{Memory, at, nth, overlay, read}
use Rattle.agreement.specs.X86.State.{State}
use Rattle.agreement.specs.X86.Step.{all, next, step}
use Rattle.agreement.proofs.Block.Stages.{Entry, Exit, Place, Returned, way_out}
use Rattle.agreement.proofs.Block.EntryToReturn.{Back, Calling, Leaving, calls_leaves, goes_on_leaves, jumped_leaves}
use Rattle.agreement.proofs.Host.Fetching.{fetch, one}
use Rattle.agreement.proofs.Host.Jumpless.{StepsThrough}
use Rattle.agreement.proofs.Host.Straight.{AllOk, all_append, ok-append, step_unlogged}
use Rattle.agreement.proofs.Laws.Tests.{leb_yes}
use Rattle.agreement.proofs.Theorem.MemoryAtEntry.{laid, overlay_in, overlay_out, slot_shift, small_bytes}
use Rattle.agreement.proofs.Theorem.ManualRun.{Stays, stays, turn_called, turn_plain}
use Rattle.agreement.proofs.Theorem.RefusedAlike.{Bounds, EndOk, made_halfwords, walk_ok}
use Rattle.agreement.proofs.Words.Simulation.{Agree, agree}
use Rattle.agreement.proofs.Words.Slots.{Slots}
use Rattle.agreement.proofs.Words.Undivided.{undivided_jumpless}

-- 1. The addresses that a block may write

pub or_left : (a b : Bool) → a ≡ true → a || b ≡ true
or_left true b e = refl
or_left false b e = absurd (let z : ◌≡◌ {A = ℕ} 0 1 = cc in omega arith)

pub or_right : (a b : Bool) → b ≡ true → a || b ≡ true
or_right true b e = refl
or_right false b e = e

pub between : (lo hi x : ℕ) → lo ≤ x → x < hi → leb lo x && ltb x hi ≡ true
between lo hi x h k = rw (leb_yes lo x h) (leb_yes (suc x) hi k)

own_slot : (t : Turn) (i : ℕ) → 8 ≤ i → i < 256 → own t (t.base + i) ≡ true
unfolding own
own_slot t i h k =
    let x : ℕ = t.base + i in
    or_left (in_slots t x) (in_saved t x || in_return t x) (between _ _ x (omega arith) (omega arith))

own_saved : (t : Turn) (i : ℕ) → 64 ≤ t.sp → 16 ≤ i → i < 64 → own t (t.sp - 64 + i) ≡ true
unfolding own
own_saved t i l h k =
    let x : ℕ = t.sp - 64 + i in
    or_right (in_slots t x) (in_saved t x || in_return t x)
    (or_left (in_saved t x) (in_return t x) (between _ _ x (omega arith) (omega arith)))

own_return : (t : Turn) (i : ℕ) → 64 ≤ t.sp → i < 8 → own t (t.sp - 64 + i) ≡ true
unfolding own
own_return t i l k =
    let x : ℕ = t.sp - 64 + i in
    or_right (in_slots t x) (in_saved t x || in_return t x)
    (or_right (in_saved t x) (in_return t x) (between _ _ x (omega arith) (omega arith)))

place : (t : Turn) (code : List ℕ) → Layout t (length code) → 1 ≤ length code → Place t.ok (own t) t.base t.block (t.sp - 64) code
place t code l n = record {
  b_fits = omega (arith, l.base_fits);
  p_fits = omega (arith, l.stack_low, l.stack_fits);
  c_fits = omega (arith, l.block_fits);
  c_low = omega (arith, l.block_fits);
  c_b = λ i j a b. l.block_base_apart i j (omega (arith, a)) (omega (arith, b));
  c_p = λ i j a b. l.block_stack_apart i j (omega (arith, a)) (omega (arith, b));
  b_p = λ i j a b. l.base_stack_apart i j (omega (arith, a)) (omega (arith, b));
  b_read = λ i h. l.base_read i (omega (arith, h));
  b_write = λ i h. l.base_write i (omega (arith, h));
  p_read = λ i h. l.stack_read i (omega (arith, h));
  p_write = λ i h. l.stack_write i (omega (arith, h));
  own_b = own_slot t;
  own_p = λ i h k. own_saved t i (omega (arith, l.stack_low)) h k;
  own_r = λ i k. own_return t i (omega (arith, l.stack_low)) k;
}

-- 2. The state at entry

-- memory with the register bytes laid in, the block not yet
abbrev with_bytes : Turn → RegisterBytes → Memory
with_bytes t rb = overlay t.rest t.base 256 rb

entry_words : (t : Turn) (code : List ℕ) (rb : RegisterBytes) → Typed t → t.base < 2 ^ 64 → t.sp < 2 ^ 64
    → (k : ℕ) → k < 16 → (enter t code rb).regs k < 2 ^ 64
unfolding enter
entry_words t code rb g b s k l = go (eqb k RSP) (eqb k RDI)
  where
    go : (x y : Bool) → cond x t.sp (cond y t.base (t.others k)) < 2 ^ 64
    go true y = s
    go false true = b
    go false false = omega (arith, g.others k (omega (arith, l)))

entry_mem : (t : Turn) (code : List ℕ) (rb : RegisterBytes)
    → (enter t code rb).mem ≡ overlay (with_bytes t rb) t.block (length code) (nth code)
unfolding enter
entry_mem t code rb = refl

entry_slot : (t : Turn) (code : List ℕ) (rb : RegisterBytes) → Layout t (length code) → (r : ℕ) → r < 32
    → read 8 (enter t code rb).mem (t.base + 8 * r) ≡ read 8 rb (8 * r)
entry_slot t code rb l r k = rw (entry_mem t code rb) (slot_shift _ rb t.base r (omega (arith, l.base_fits)) k (λ i h.
    overlay_out (with_bytes t rb) t.block (length code) (nth code) (t.base + i)
    (λ j n e. l.block_base_apart j i (omega (arith, n)) (omega (arith, h)) (sym e))
    ∙ overlay_in t.rest t.base 256 rb i h))

entry : (t : Turn) (code : List ℕ) (rb : RegisterBytes) (x : Registers) → Typed t → Layout t (length code) → Bytes code
    → ((r : ℕ) → r < 32 → read 8 rb (8 * r) ≡ x r) → Entry t.ok t.base t.block (t.sp - 64) x code (enter t code rb)
entry t code rb x ty l s h = record {
  at_code = unfold enter in refl;
  rdi = unfold enter in refl;
  rsp = sp;
  held =
      rw (entry_mem t code rb)
      (laid t.ok.fetch (with_bytes t rb) t.block code (omega (arith, l.block_fits)) s (λ i h. l.block_fetch i (omega (arith, h))));
  slots = λ r k. entry_slot t code rb l r k ∙ h r k;
  words = entry_words t code rb ty (omega (arith, l.base_fits)) (omega (arith, l.stack_fits));
}
  where
    sp : (enter t code rb).regs RSP ≡ t.sp - 64 + 64
    sp = unfold enter in omega (arith, l.stack_low)

-- a slot among the bytes that a memory has at the registers' address
slot_after : (t : Turn) (m : Memory) (r : ℕ) → t.base + 256 ≤ 2 ^ 64 → r < 32
    → read 8 (λ i. m (t.base + i)) (8 * r) ≡ read 8 m (t.base + 8 * r)
slot_after t m r f k = sym (slot_shift m (λ i. m (t.base + i)) t.base r f k (λ i h. refl))

-- 3. The block's bytes

end_allok : (h1 h2 : ℕ) (e : End) (n : ℕ) → h1 < 2 ^ 64 → h2 < 2 ^ 64 → n ≤ 64 → EndOk e → AllOk (ending h1 h2 e n)
unfolding ending EndOk AllOk Ok
end_allok h1 h2 (goes_on pc) n a b k o = omega arith
end_allok h1 h2 jumped n a b k o = omega arith
end_allok h1 h2 (calls h i pc) n a b k o =
    ok-append (passes i pc (helper_at h h1 h2)) (call_rax ∷ (add_count n ++ (closing ++ ret ∷ []))) (lows h)
    (tt, ok-append (add_count n) (closing ++ ret ∷ []) (adds (eqb n 0)) (omega arith))
  where
    lows : (h : Helper) → AllOk (passes i pc (helper_at h h1 h2))
    lows for_halfword = unfold AllOk Ok in omega arith
    lows for_access = unfold AllOk Ok in omega arith

    adds : (z : Bool) → AllOk (cond z [] (alu_imm32 add RDX n ∷ []))
    adds true = unfold AllOk Ok in tt
    adds false = unfold AllOk Ok in omega arith

opening_allok : AllOk opening
unfolding AllOk Ok
opening_allok = omega arith

block_bytes : (h1 h2 : ℕ) (p : Walked) → h1 < 2 ^ 64 → h2 < 2 ^ 64 → p.added ≤ 64
    → EndOk p.end → AllOk p.code → Bytes (bytes (instrs h1 h2 p))
unfolding instrs
block_bytes h1 h2 p a b k o c =
    small_bytes _ (ok-append opening (p.code ++ ending h1 h2 p.end p.added) opening_allok
    (ok-append p.code (ending h1 h2 p.end p.added) c (end_allok h1 h2 p.end p.added a b k o)))

block_long : (h1 h2 : ℕ) (p : Walked) → 1 ≤ length (bytes (instrs h1 h2 p))
unfolding instrs
block_long h1 h2 p = omega arith

-- one step by this instruction
by_step : (t : Turn) (i : Instr) {u v : State} {ws : List ℕ}
    → next t.ok u ≡ Some (fetch i) → step t.undefined t.ok u ≡ Some (v, ws) → By t i u v ws
by_step t i f d = record { size = length (encode i); fetch = f; does = d }

-- a helper's promise, as the stages use it
returned : (t : Turn) (code : List ℕ) (u v : State) → Layout t (length code)
    → Keeps t (length code) u v → Returned t.block (t.sp - 64) code u v
returned t code u v l k = record {
  rip = k.rip;
  rsp = k.rsp;
  rbx = k.rbx;
  r12 = k.r12;
  r13 = k.r13;
  r14 = k.r14;
  frame = λ j h. let z : t.sp - 64 + (16 + j) ≡ t.sp - 48 + j = omega (arith, l.stack_low) in rw z (k.frame j (omega (arith, h)));
  block = λ i h. let z : at t.block i ≡ t.block + i = omega (arith, l.block_fits) in rw z (k.block i (omega (arith, h)));
}

-- 4. What one turn comes to: the visit, what holds of it, and the manual's next state

pub record Done (t : Turn) (m : GuestState) (rb : RegisterBytes) : Type 0 where
  pub b : Block
  pub v : Visit
  pub reply_is : reply t m.pc ≡ block b
  pub went : Went t (enter t b.code rb) v
  pub at : At m t (visited m.pc b.count v)
  pub m2 : GuestState
  pub turned : turn (feed t (visited m.pc b.count v)) m ≡ m2
  pub pcs : v.exit.regs RAX ≡ m2.pc
  pub counts : plus_rdx m.count (v.exit.regs RDX) v.call ≡ m2.count
  pub slots : (r : ℕ) → r < 32 → read 8 (bytes_after t v) (8 * r) ≡ m2.registers r
  pub x0 : m2.registers 0 ≡ 0
  pub low : m2.pc < 2 ^ 64

module _ (t : Turn) (m : GuestState) (rb : RegisterBytes) (ty : Typed t) (un : t.made ≡ run_at t.code m.pc t.reach) (low : m.pc < 2 ^ 64)
    (sl : (r : ℕ) → r < 32 → read 8 rb (8 * r) ≡ m.registers r) (zero0 : m.registers 0 ≡ 0) where
  abbrev p : Walked
  p = walked m.pc t.limit t.made

  abbrev b : Block
  b = block_of t.helper16 t.helper_mem p

  abbrev code : List ℕ
  code = bytes (instrs t.helper16 t.helper_mem p)

  abbrev limit : ℕ
  limit = min t.limit most_steps

  abbrev q : Read
  q = read_turn (feed_of t None) m

  -- the manual's run reads the code; the block was made from the same run
  q_is : read_turn (feed_of t None) m ≡ reading limit m.pc t.made m.registers
  unfolding feed_of
  q_is = ap (λ (hs : List ℕ). reading limit m.pc hs m.registers) (sym un)

  halfwords : Halfwords t.made
  halfwords = made_halfwords t m.pc un

  bounds : Bounds limit p
  bounds = walk_ok limit m.pc t.made low halfwords

  module _ (re : reply t m.pc ≡ block b) (rf : is_refused t m ≡ false) (en : Enterable t b rb) where
    ly : Layout t (length code)
    ly = en.layout

    pl : Place t.ok (own t) t.base t.block (t.sp - 64) code
    pl = place t code ly (block_long t.helper16 t.helper_mem p)

    agrees : (s : State) → Slots t.base m.registers s → Agree t.undefined t.base pl.b_fits p q s
    agrees s h =
        rw q_is (agree t.undefined t.base pl.b_fits limit m.pc t.made m.registers s halfwords h)

    -- a state with these slots, to read off what does not depend on the state
    abbrev some_state : State
    some_state = record { regs = λ k. t.base; flags = t.flags; rip = 0; mem = (enter t code rb).mem }

    agreed : Agree t.undefined t.base pl.b_fits p q some_state
    agreed = agrees _ (record { base = refl; slots = λ r k. entry_slot t code rb ly r k ∙ sl r k })

    code_bytes : Bytes code
    code_bytes =
        block_bytes t.helper16 t.helper_mem p (omega (arith, ty.helper16)) (omega (arith, ty.helper_mem)) (omega (arith, bounds.few))
        bounds.end_ok agreed.leads.sound.allowed

    s0 : State
    s0 = enter t code rb

    entered_at : Entry t.ok t.base t.block (t.sp - 64) m.registers code s0
    entered_at = unfold s0 in entry t code rb m.registers ty ly code_bytes sl

    entry_slots : (r : ℕ) → r < 32 → read 8 s0.mem (t.base + 8 * r) ≡ m.registers r
    entry_slots r k = entered_at.slots r k

    sp_is : t.sp - 64 + 64 ≡ t.sp
    sp_is = omega (arith, ly.stack_low)

    kept : Stays m.registers q
    kept = rw q_is (stays limit m.pc t.made m.registers low)

    no_log : all (own t) [] ≡ true
    no_log = unfold all in refl

    -- slot x0 is x0
    slot_zero : (s : State) (x : ℕ) → read 8 s.mem (t.base + 8 * 0) ≡ x → x ≡ 0 → read 8 s.mem t.base ≡ 0
    slot_zero s x h e = let z : t.base + 8 * 0 ≡ t.base = omega arith in rw z at (h ∙ e)

    returns_by : (w u : State) (n : ℕ) (ws : List ℕ) (c : Option Call) → read 8 u.mem t.base ≡ 0
        → Exit (t.sp - 64) s0 w u → StepsThrough (instrs t.helper16 t.helper_mem p) n
        → all (own t) ws ≡ true → Returns t m m.pc (record { entry = s0; call = c; exit = u; steps = n; log = ws })
    returns_by w u n ws c x0 e k l = record {
      accepted = rf;
      entry_pc = refl;
      entry_slots = λ r h. entry_slots r (omega (arith, h));
      entry_x0 = slot_zero s0 (m.registers 0) (entry_slots 0 (omega arith)) zero0;
      exit_x0 = x0;
      rip = rw sp_is at e.rip;
      rsp = rw sp_is at e.rsp;
      rbx = e.rbx;
      rbp = e.rbp;
      r12 = e.r12;
      r13 = e.r13;
      r14 = e.r14;
      r15 = e.r15;
      steps = record {
        most = omega (arith, k.most);
        exact = λ d.
            omega (arith, k.exact (undivided_jumpless limit m.pc t.made t.helper16 t.helper_mem halfwords (rw un d)));
      };
      log = l;
    }

    -- how the block that was entered in s0 leaves, calls its helper, and comes back from it after n steps
    abbrev Leaves : Type 0
    Leaves = Leaving t.undefined t.ok (own t) t.base t.block (t.sp - 64) t.helper16 t.helper_mem p pl q s0

    abbrev CallsHelper : Helper → ℕ → Type 0
    CallsHelper k i = Calling t.undefined t.ok (own t) t.base t.block (t.sp - 64) t.helper16 t.helper_mem p pl q k i s0

    abbrev ComesBack : ℕ → State → Type 0
    ComesBack n v = Back t.undefined t.ok (own t) t.base t.block (t.sp - 64) t.helper16 t.helper_mem p pl q n s0 v

    -- without a helper
    plain_done : Leaves
        → q.stop ≡ plain → b.count ≡ q.added → Done t m rb
    plain_done l st ct = record {
      b = b;
      v = record { entry = s0; call = None; exit = l.t; steps = suc l.n; log = l.way.ws ++ [] };
      reply_is = re;
      went = unfold s0 in plainly l.way.goes (by_step t ret l.fetch l.does);
      at = unfold At Entered in (
        returns_by l.w l.t (suc l.n) (l.way.ws ++ []) None
            (slot_zero l.t (q.registers 0) (rw l.exit.same (l.slots 0 (omega arith))) (kept.x0 ∙ zero0)) l.exit l.steps
            (all_append (own t) l.way.ws [] l.way.own no_log),
        record {
          stop = st;
          rax = l.exit.rax ∙ l.rax;
          rdx = l.exit.rdx ∙ l.rdx;
          slots = λ r k. rw l.exit.same (l.slots r (omega (arith, k)));
          rest = λ x e. step_unlogged t.undefined t.ok (own t) l.u l.t [] x l.does no_log e
              ∙ way_out t.undefined t.ok (own t) s0 l.u l.n l.way x e;
          count = ct;
        },
      );
      m2 = record { registers = q.registers; pc = q.pc; count = m.count + q.added };
      turned = unfold feed feed_of in turn_plain (feed_of t None) m (unfold feed_of in rf) st;
      pcs = l.exit.rax ∙ l.rax;
      counts = unfold plus_rdx in rw (l.exit.rdx ∙ l.rdx);
      slots = λ r k. slot_after t l.t.mem r (omega (arith, ly.base_fits)) k ∙ rw l.exit.same (l.slots r k);
      x0 = kept.x0 ∙ zero0;
      low = kept.low;
    }

    -- with a helper
    abbrev inside : (k : Helper) (i : ℕ) → CallsHelper k i → State
    inside k i c = one t.undefined call_rax c.u

    -- what the turn feeds to the manual's run, what the helper left among it
    abbrev fed : Left → Feed
    fed l = record { limit = t.limit; code = t.code; reach = t.reach; room = length t.output; left = Some l }

    target_is : (k : Helper) → helper_at k t.helper16 t.helper_mem ≡ helper_of t k
    target_is for_halfword = refl
    target_is for_access = refl

    helped_by : (k : Helper) (i : ℕ) (c : CallsHelper k i)
        → q.stop ≡ called k i → b.count ≡ suc q.added → Keeps t (length code) (inside k i c) (t.helper (inside k i c))
        → ComesBack c.n (t.helper (inside k i c)) → Done t m rb
    helped_by k i c st ct kp r =
        let a : State = inside k i c in
        let h : State = t.helper a in
        let left : Left = record { slots = λ r. read 8 h.mem (t.base + 8 * r); rax = h.regs RAX } in
        let z : t.base + 8 * 0 ≡ t.base = omega arith in
        record {
          b = b;
          v = record {
            entry = s0;
            call = Some (record { before = c.u; inside = a; back = h });
            exit = r.t;
            steps = suc c.n + suc r.m;
            log = (c.way.ws ++ c.call.ws) ++ (r.way.ws ++ []);
          };
          reply_is = re;
          went = unfold s0 in helped c.way.goes (by_step t call_rax c.call.fetch c.call.does)
              r.way.goes (by_step t ret r.fetch r.does);
          at = unfold At Entered in (
            returns_by r.w r.t (suc c.n + suc r.m) ((c.way.ws ++ c.call.ws) ++ (r.way.ws ++ [])) _
                (rw (r.exit.same ∙ r.same) kp.x0) r.exit r.steps
                (all_append (own t) (c.way.ws ++ c.call.ws) (r.way.ws ++ [])
                (all_append (own t) c.way.ws c.call.ws c.way.own c.call.own)
                (all_append (own t) r.way.ws [] r.way.own no_log)),
            record {
              h = k;
              i = i;
              stop = st;
              slots = λ r l. c.slots r (omega (arith, l));
              r8 = c.r8;
              rcx = c.rcx;
              rdi = c.rdi;
              rsi = c.rsi;
              rdx = c.rdx;
              rsp = rw c.rsp (omega (arith, ly.stack_low));
              aligned = rw c.rsp (omega (arith, ly.aligned, ly.stack_low));
              target = c.target ∙ target_is k;
              slots_inside = λ r l. c.slots_inside r (omega (arith, l));
              rest = λ y e. step_unlogged t.undefined t.ok (own t) c.u a c.call.ws y c.call.does c.call.own e
                  ∙ way_out t.undefined t.ok (own t) s0 c.u c.n c.way y e;
              rax' = r.exit.rax ∙ r.rax;
              rdx' = r.exit.rdx ∙ r.rdx;
              rest' = λ y. ap (λ (m : Memory). m y) (r.exit.same ∙ r.same);
              count = ct;
            },
          );
          m2 = record { registers = left.slots; pc = left.rax; count = 0 };
          turned = unfold feed feed_of left_by in turn_called (fed left) m k i left rf (unfold feed_of in st) refl;
          pcs = r.exit.rax ∙ r.rax;
          counts = unfold plus_rdx in refl;
          slots = λ j l. slot_after t r.t.mem j (omega (arith, ly.base_fits)) l
              ∙ ap (λ (m : Memory). read 8 m (t.base + 8 * j)) (r.exit.same ∙ r.same);
          x0 = rw z kp.x0;
          low = omega (arith, kp.rax);
        }

    helped_done : (k : Helper) (i : ℕ) → CallsHelper k i
        → q.stop ≡ called k i → b.count ≡ suc q.added → Done t m rb
    helped_done k i c st ct =
        let a : State = inside k i c in
        let kp : Keeps t (length code) a (t.helper a) = en.helper c.u a c.n c.way.ws c.call.ws
        (from_s0 c.u c.n c.way.ws c.way.goes) (by_step t call_rax c.call.fetch c.call.does) in
        helped_by k i c st ct kp (c.back (t.helper a) (returned t code a (t.helper a) ly kp) (omega (arith, kp.rdx)))
      where
        from_s0 : (u : State) (n : ℕ) (ws : List ℕ) → Steps t s0 n ws u → Steps t (enter t code rb) n ws u
        from_s0 u n ws g = unfold s0 in g

    pub entered_done : Done t m rb
    entered_done = go p.end refl bounds.end_ok
      where
        low_added : p.added ≤ 64
        low_added = omega (arith, bounds.few)

        ct : (e : End) → p.end ≡ e → counted p.end p.added ≡ counted e p.added
        ct e z = ap (λ (y : End). counted y p.added) z

        go : (e : End) → p.end ≡ e → EndOk p.end → Done t m rb
        go (goes_on pc) e o =
            let l = goes_on_leaves t.undefined t.ok (own t) t.base t.block (t.sp - 64) t.helper16 t.helper_mem p pl
            pc m.registers q s0 e (unfold EndOk in subst EndOk e o) (omega (arith, low_added)) entered_at agrees in
            plain_done l.0 l.1 (ct (goes_on pc) e ∙ (unfold counted in agreed.same))
        go jumped e o =
            let l = jumped_leaves t.undefined t.ok (own t) t.base t.block (t.sp - 64) t.helper16 t.helper_mem p pl
            m.registers q s0 e (omega (arith, low_added)) entered_at agrees in
            plain_done l.0 l.1 (ct jumped e ∙ (unfold counted in agreed.same))
        go (calls k i pc) e o =
            let w : (i < 2 ^ 32) × (pc < 2 ^ 64) = unfold EndOk in subst EndOk e o in
            let l = calls_leaves t.undefined t.ok (own t) t.base t.block (t.sp - 64) t.helper16 t.helper_mem p pl
            k i pc m.registers q s0 e
            (omega (arith, w.0)) w.1 (omega (arith, ty.helper16)) (omega (arith, ty.helper_mem)) (omega (arith, low_added))
            entered_at agrees in
            helped_done k i l.0 l.1 (ct (calls k i pc) e ∙ (unfold counted in ap suc agreed.same))
