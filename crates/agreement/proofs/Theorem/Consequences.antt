-- What the theorem says of one turn of a known kind: how the manual's state goes on, how the block was entered, and all that holds of it.
use Rattle.std.proofs.Common.{false, true, ◌∙◌, ◌≡◌, refl, sym, ◌*◌, ◌+◌, ℕ, arith, length}
use Rattle.std.specs.Prelude.{Option, None, Some}
use Rattle.agreement.specs.Common.{Helper}
use Rattle.agreement.specs.Riscv.Run.{Feed, GuestState, Left, Read, Stop.called, Stop.plain, read_turn, turn}
use Rattle.agreement.specs.Translation.Replies.{Block, Reply.block}
use Rattle.agreement.specs.Statement.Agreement.{At, Entered, Helped, Plain, Returns, feed, feed_of, is_refused, left_by}
use Rattle.agreement.specs.Statement.Machine.{Call, Event, RegisterBytes, Turn, Turned, Visit, Went, enter, reply}
use Rattle.agreement.specs.Statement.Machine.Event.{rejected, visited}
use Rattle.agreement.specs.Statement.Machine.Turned.{skip, visit}
use Rattle.agreement.specs.Statement.Machine.Went.{helped, plainly}
use Rattle.agreement.specs.X86.Form.{RAX}
use Rattle.agreement.specs.X86.Memory.{read}
use Rattle.agreement.specs.X86.State.{State}
use Rattle.agreement.proofs.Theorem.ManualRun.{turn_called, turn_plain, turn_refused}

true_not_false : true ≡ false → ⊥
true_not_false e = let z : ◌≡◌ {A = ℕ} 0 1 = cc in omega arith

plain_not_called : {h : Helper} {i : ℕ} → plain ≡ called h i → ⊥
plain_not_called e = let z : ◌≡◌ {A = ℕ} 0 1 = cc in omega arith

-- the turn as the manual's run reads it
abbrev pub read_as : Turn → GuestState → Read
read_as t m = read_turn (feed_of t None) m

plain_of : (t : Turn) (n : ℕ) (v : Visit) (q : Read) → Entered t n v q None → Plain t n v q
unfolding Entered
plain_of t n v q h = h

helped_of : (t : Turn) (n : ℕ) (v : Visit) (q : Read) (c : Call) → Entered t n v q (Some c) → Helped t n v c q
unfolding Entered
helped_of t n v q c h = h

-- a refused turn changes nothing
pub after_refused : (m : GuestState) (t : Turn) (e : Event) → is_refused t m ≡ true → At m t e → turn (feed t e) m ≡ m
unfolding At feed
after_refused m t (rejected pc r) f a = turn_refused (feed_of t None) m (unfold feed_of in f)
after_refused m t (visited pc n v) f a = absurd (true_not_false (sym f ∙ a.0.accepted))

pub refused_x0 : (m : GuestState) (t : Turn) (e : Event) → is_refused t m ≡ true → At m t e → m.registers 0 ≡ 0
unfolding At
refused_x0 m t (rejected pc r) f a = a.x0
refused_x0 m t (visited pc n v) f a = absurd (true_not_false (sym f ∙ a.0.accepted))

-- a block that was entered: how, and what holds of every entry
pub record WasEntered (m : GuestState) (t : Turn) (e : Event) : Type 0 where
  pub pc : ℕ
  pub rb : RegisterBytes
  pub b : Block
  pub v : Visit
  pub reply_is : reply t pc ≡ block b
  pub event : e ≡ visited pc b.count v
  pub entry : v.entry ≡ enter t b.code rb
  pub returns : Returns t m pc v

went_entry : (t : Turn) {s : State} {v : Visit} → Went t s v → v.entry ≡ s
went_entry t (plainly g b) = refl
went_entry t (helped g b h d) = refl

-- a turn without a helper: the manual's next state, the entry, and what holds of it
abbrev pub after_plain : Turn → GuestState → GuestState
after_plain t m = record { registers = (read_as t m).registers; pc = (read_as t m).pc; count = m.count + (read_as t m).added }

pub record WentPlainly (m : GuestState) (t : Turn) (e : Event) : Type 0 where
  pub turned : turn (feed t e) m ≡ after_plain t m
  pub was : WasEntered m t e
  pub says : Plain t was.b.count was.v (read_as t m)

pub after_plain_lem : {pc pc' : ℕ} {rb : RegisterBytes} {t : Turn} {rb' : RegisterBytes} {e : Event} (m : GuestState)
    → is_refused t m ≡ false → (read_as t m).stop ≡ plain → Turned pc rb t e pc' rb' → At m t e → WentPlainly m t e
unfolding At feed
after_plain_lem m f st (skip e) a = absurd (true_not_false (sym a.refuses ∙ f))
after_plain_lem {pc = pc} {rb = rb} {t = t} m f st (visit {b = b} {v = v} e w) a = go v.call refl a.1
  where
    go : (c : Option Call) → v.call ≡ c → Entered t b.count v (read_as t m) c → WentPlainly m t (visited pc b.count v)
    go None q k = record {
      turned = rw q (turn_plain (feed_of t None) m (unfold feed_of in f) st);
      was = record { pc = pc; rb = rb; b = b; v = v; reply_is = e; event = refl; entry = went_entry t w; returns = a.0 };
      says = plain_of t b.count v (read_as t m) k;
    }
    go (Some c) q k = absurd (plain_not_called (sym st ∙ (helped_of t b.count v (read_as t m) c k).stop))

-- a helper's return is what the helper makes of its entry
went_back : (t : Turn) {s : State} {v : Visit} (c : Call) → Went t s v → v.call ≡ Some c → c.back ≡ t.helper c.inside
went_back t c (plainly g b) e = absurd (let z : ◌≡◌ {A = ℕ} 0 1 = cc in omega arith)
went_back t c (helped {u = u} {a = a} g b h d) e =
    let q : ◌≡◌ {A = Call} (record { before = u; inside = a; back = t.helper a }) c = cc in
    rw (← q) refl

-- a turn with a helper, entered in the state a that the block's call makes
abbrev pub after_helper : Turn → State → GuestState
after_helper t a = record { registers = λ r. read 8 (t.helper a).mem (t.base + 8 * r); pc = (t.helper a).regs RAX; count = 0 }

after_call : (t : Turn) (m : GuestState) (c : Call) (h : Helper) (i : ℕ) → is_refused t m ≡ false → (read_as t m).stop ≡ called h i
    → c.back ≡ t.helper c.inside → turn (feed_of t (Some c)) m ≡ after_helper t c.inside
unfolding feed_of left_by
after_call t m c h i f st z =
    let l : Left = record { slots = λ r. read 8 c.back.mem (t.base + 8 * r); rax = c.back.regs RAX } in
    let g : Feed = record { limit = t.limit; code = t.code; reach = t.reach; room = length t.output; left = Some l } in
    turn_called g m h i l f st refl ∙ rw z

pub record WentHelped (m : GuestState) (t : Turn) (e : Event) : Type 0 where
  pub call : Call
  pub back : call.back ≡ t.helper call.inside
  pub turned : turn (feed t e) m ≡ after_helper t call.inside
  pub was : WasEntered m t e
  pub says : Helped t was.b.count was.v call (read_as t m)

pub after_helper_lem : {pc pc' : ℕ} {rb : RegisterBytes} {t : Turn} {rb' : RegisterBytes} {e : Event} (m : GuestState) (h : Helper) (i : ℕ)
    → is_refused t m ≡ false → (read_as t m).stop ≡ called h i → Turned pc rb t e pc' rb' → At m t e → WentHelped m t e
unfolding At feed
after_helper_lem m h i f st (skip e) a = absurd (true_not_false (sym a.refuses ∙ f))
after_helper_lem {pc = pc} {rb = rb} {t = t} m h i f st (visit {b = b} {v = v} e w) a = go v.call refl a.1
  where
    go : (c : Option Call) → v.call ≡ c → Entered t b.count v (read_as t m) c → WentHelped m t (visited pc b.count v)
    go None q k = absurd (plain_not_called (sym (plain_of t b.count v (read_as t m) k).stop ∙ st))
    go (Some c) q k =
        let z : c.back ≡ t.helper c.inside = went_back t c w q in
        record {
          call = c;
          back = z;
          turned = rw q (after_call t m c h i f st z);
          was = record { pc = pc; rb = rb; b = b; v = v; reply_is = e; event = refl; entry = went_entry t w; returns = a.0 };
          says = helped_of t b.count v (read_as t m) c k;
        }
