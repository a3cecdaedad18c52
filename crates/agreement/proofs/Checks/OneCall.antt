-- Which call a block comes to does not depend on what its helper does: with a helper in its place that keeps all that is asked, wherever it
-- is entered, the theorem says how the block goes. So a helper need keep what is asked only where the block's own CALL enters it.
use Rattle.std.proofs.Common.{List, ◌≡◌, ◌∙◌, ap, refl, subst, sym, ℕ, ◌+◌, ◌-◌, ◌%◌, ◌^◌, ◌<◌, arith, length}
use Rattle.std.specs.Prelude.{Option, None, Some}
use Rattle.agreement.specs.Riscv.Code.{Code, run_at}
use Rattle.agreement.specs.Riscv.Run.{GuestState, read_turn}
use Rattle.agreement.specs.Translation.Replies.{Block, Refusal, Reply.block, Reply.refusal}
use Rattle.agreement.specs.Statement.Agreement.{At, Entered, feed_of, start}
use Rattle.agreement.specs.Statement.Machine.{By, Call, Event, RegisterBytes, Steps, Turn, Turned, Visit, Went, enter, reply}
use Rattle.agreement.specs.Statement.Machine.Event.{visited}
use Rattle.agreement.specs.Statement.Machine.Turned.{skip, visit}
use Rattle.agreement.specs.Statement.Machine.Went.{helped, plainly}
use Rattle.agreement.specs.Statement.Premises.{Enterable, Keeps}
use Rattle.agreement.specs.X86.Form.{Instr.call_rax, Instr.ret, RAX, RDX, RSP}
use Rattle.agreement.specs.X86.Memory.{at, read, write}
use Rattle.agreement.specs.X86.State.{State, set}
use Rattle.agreement.proofs.Checks.Example.{clear}
use Rattle.agreement.proofs.Checks.Sites.{Fits, Site, laid_out, turn_at, fetched}
use Rattle.agreement.proofs.Host.Memory.{read-write, write_out}
use Rattle.agreement.proofs.Theorem.Agreement.{x0_at_start}
use Rattle.agreement.proofs.Theorem.Determined.{Turns.by_call, Turns.by_ret, by_from, goes_once, halts, instr_once, not_call, once}
use Rattle.agreement.proofs.Theorem.TurnByTurn.{Led, led}

-- 1. A helper that keeps all that is asked: it sets slot x0 to 0 and returns with RAX and RDX 0

abbrev pub tidy : Site → State → State
tidy s u = record {
  regs = set (set (set u.regs RSP (at (u.regs RSP) 8)) RAX 0) RDX 0;
  flags = clear;
  rip = read 8 u.mem (u.regs RSP);
  mem = write 8 u.mem s.base 0;
}

tidy_keeps : (s : Site) (g : Code) (hs : List ℕ) (k : ℕ) (u : State) → Fits s → k ≡ s.size
    → Keeps (turn_at s g hs (tidy s)) k u (tidy s u)
tidy_keeps s g hs k u f e = record {
  rip = refl;
  rsp = refl;
  rbx = refl;
  rbp = refl;
  r12 = refl;
  r13 = refl;
  r14 = refl;
  r15 = refl;
  x0 = read-write 8 u.mem s.base 0 (omega (arith, f.base_fits)) (omega arith);
  frame = λ j a. ap (◌% 256) (write_out 8 u.mem s.base 0 (s.sp - 48 + j) (omega (arith, f.base_fits)) (λ i b c. stack j i a b c));
  block = λ i a. ap (◌% 256) (write_out 8 u.mem s.base 0 (s.block + i) (omega (arith, f.base_fits)) (λ j b c. code i j a b c));
  rax = omega arith;
  rdx = omega arith;
}
  where
    stack : (j i : ℕ) → j < 56 → i < 8 → s.sp - 48 + j ≡ at s.base i → ⊥
    stack j i a b c = f.base_stack i (16 + j) (omega arith) (omega arith) (omega (arith, c, f.base_fits, f.stack_low))

    code : (i j : ℕ) → i < k → j < 8 → s.block + i ≡ at s.base j → ⊥
    code i j a b c = f.block_base i j (omega (arith, a, e)) (omega arith) (omega (arith, c, f.base_fits))

-- 2. The block's one call

unfoldable pub Called : Option Call → State → State → Type 0
Called None u a = ⊥
Called (Some c) u a = (c.before ≡ u) × (c.inside ≡ a)

-- a step does not depend on the turn's helper
by_in : (s : Site) (g : Code) (hs : List ℕ) (h : State → State) {u a : State} {xs : List ℕ}
    → By (turn_at s g hs h) call_rax u a xs → By (turn_at s g hs (tidy s)) call_rax u a xs
by_in s g hs h b = record { size = b.size; fetch = b.fetch; does = b.does }

one_call : (s : Site) (g : Code) (hs : List ℕ) (h : State → State) {s0 u a : State} {v : Visit} {k : ℕ} {ws xs : List ℕ}
    → Went (turn_at s g hs (tidy s)) s0 v → Steps (turn_at s g hs h) s0 k ws u → By (turn_at s g hs h) call_rax u a xs → Called v.call u a
unfolding Called
one_call s g hs h (plainly {u = u} w b) p c =
    let t : Turn = turn_at s g hs (tidy s) in
    let c' = by_in s g hs h c in
    let z = goes_once t.undefined t.ok w (halts t ret by_ret b) p (halts t call_rax by_call c') in
    not_call (instr_once t ret call_rax b (by_from t call_rax z.state c'))
one_call s g hs h (helped {u = u} w b q d) p c =
    let t : Turn = turn_at s g hs (tidy s) in
    let c' = by_in s g hs h c in
    let z = goes_once t.undefined t.ok w (halts t call_rax by_call b) p (halts t call_rax by_call c') in
    let c'' = by_from t call_rax z.state c' in
    let o = once t.undefined t.ok u b.does c''.does in
    (z.state, o.state)

entered_of : (m : GuestState) (t : Turn) (pc n : ℕ) (v : Visit) → At m t (visited pc n v)
    → Entered t n v (read_turn (feed_of t None) m) v.call
unfolding At
entered_of m t pc n v a = a.1

-- nor does the entry
enters : (s : Site) (g : Code) (hs : List ℕ) (h : State → State) (code : List ℕ) (rb : RegisterBytes)
    → enter (turn_at s g hs h) code rb ≡ enter (turn_at s g hs (tidy s)) code rb
unfolding enter
enters s g hs h code rb = refl

clash : (b : Block) (r : Refusal) → block b ≡ refusal r → ⊥
clash b r e = let z : ◌≡◌ {A = ℕ} 0 1 = cc in omega arith

same : (b d : Block) → block b ≡ block d → d ≡ b
same b d e = cc

-- 3. So what the theorem says of the turn with the tidy helper it says of the states that the block's CALL leads from and to

pub record CalledAs (s : Site) (g : Code) (hs : List ℕ) (pc : ℕ) (rb : RegisterBytes) (b : Block) (u a : State) : Type 0 where
  pub v : Visit
  pub says : Entered (turn_at s g hs (tidy s)) b.count v (read_turn (feed_of (turn_at s g hs (tidy s)) None) (start pc rb)) v.call
  pub called : Called v.call u a

pub called_as : (s : Site) (g : Code) (hs : List ℕ) (h : State → State) (pc : ℕ) (rb : RegisterBytes) (b : Block) (u a : State)
    (k : ℕ) (ws xs : List ℕ) → Fits s → pc < 2 ^ 64 → read 8 rb 0 ≡ 0 → hs ≡ run_at g pc (fetched hs)
    → ((c : Block) → reply (turn_at s g hs h) pc ≡ block c → length c.code ≡ s.size) → reply (turn_at s g hs h) pc ≡ block b
    → Steps (turn_at s g hs h) (enter (turn_at s g hs h) b.code rb) k ws u → By (turn_at s g hs h) call_rax u a xs
    → CalledAs s g hs pc rb b u a
called_as s g hs h pc rb b u a k ws xs f low z un long e g' c = go l.turned l.at
  where
    t : Turn
    t = turn_at s g hs (tidy s)

    en : (c : Block) → reply t pc ≡ block c → Enterable t c rb
    en c q = record {
      layout = laid_out s g hs (tidy s) (length c.code) f (long c q);
      helper = λ u a k ws xs p d. tidy_keeps s g hs (length c.code) a f (long c q);
    }

    l : Led t (start pc rb) rb
    l = led t (start pc rb) rb (record { helper16 = omega arith; helper_mem = omega arith; others = λ k h. omega arith }) (λ r. un) en low
        (λ r h. refl) (x0_at_start pc rb z)

    go : {x : Event} {pc' : ℕ} {rb' : RegisterBytes} → Turned pc rb t x pc' rb' → At (start pc rb) t x → CalledAs s g hs pc rb b u a
    go (skip {r = r} q) m = absurd (clash b r (sym e ∙ q))
    go (visit {b = d} {v = v} q w) m =
        let z : d ≡ b = same b d (sym e ∙ q) in
        let w' : Went t (enter t b.code rb) v = subst (λ (x : Block). Went t (enter t x.code rb) v) z w in
        let m' : At (start pc rb) t (visited pc b.count v) = subst (λ (x : Block). At (start pc rb) t (visited pc x.count v)) z m in
        record {
          v = v;
          says = entered_of _ t pc b.count v m';
          called = one_call s g hs h w' (rw (enters s g hs h b.code rb) at g') c;
        }
