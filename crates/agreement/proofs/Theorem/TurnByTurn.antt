-- One turn, refused or entered, leads where the manual's run goes.
use Rattle.std.proofs.Common.{true, ap, List, ◌∷◌, ◌≡◌, refl, ◌*◌, ◌<◌, ◌^◌, ℕ, length}
use Rattle.std.specs.Prelude.{None}
use Rattle.agreement.specs.Riscv.Run.{GuestState, turn}
use Rattle.agreement.specs.Translation.Replies.{Block, Refusal, Reply.block, Reply.refusal}
use Rattle.agreement.specs.Statement.Agreement.{At, feed, feed_of, is_refused, left_by}
use Rattle.agreement.specs.Statement.Machine.{Event, RegisterBytes, Turn, Turned, bytes_after, reply, since}
use Rattle.agreement.specs.Statement.Machine.Event.{rejected, visited}
use Rattle.agreement.specs.Statement.Machine.Turned.{skip, visit}
use Rattle.agreement.specs.Statement.Premises.{Enterable, Typed, Unchanged, rests_on_code}
use Rattle.agreement.specs.X86.Memory.{read}
use Rattle.agreement.proofs.Theorem.ManualRun.{turn_refused}
use Rattle.agreement.proofs.Theorem.RefusedAlike.{Replied, Replied.came, Replied.out, replied}
use Rattle.agreement.proofs.Laws.Runs.{run_halfwords}
use Rattle.agreement.specs.Riscv.Code.{run_at}
use Rattle.agreement.proofs.Theorem.OneTurn.{Done, entered_done}

-- the slots of the register bytes are the registers of the manual's state
abbrev pub SlotsAre : RegisterBytes → GuestState → Type 0
SlotsAre rb m = (r : ℕ) → r < 32 → read 8 rb (8 * r) ≡ m.registers r

-- what one turn comes to, and the manual's state m2 after it
pub record Led (t : Turn) (m : GuestState) (rb : RegisterBytes) : Type 0 where
  pub e : Event
  pub pc' : ℕ
  pub rb' : RegisterBytes
  pub turned : Turned m.pc rb t e pc' rb'
  pub at : At m t e
  pub m2 : GuestState
  pub is : turn (feed t e) m ≡ m2
  pub pcs : pc' ≡ m2.pc
  pub counts : (es : List Event) → since m.count (e ∷ es) ≡ since m2.count es
  pub slots : SlotsAre rb' m2
  pub x0 : m2.registers 0 ≡ 0
  pub low : m2.pc < 2 ^ 64

skipped : (t : Turn) (m : GuestState) (rb : RegisterBytes) (r : Refusal) → reply t m.pc ≡ refusal r → is_refused t m ≡ true
    → m.pc < 2 ^ 64 → SlotsAre rb m → m.registers 0 ≡ 0 → Led t m rb
skipped t m rb r e f low sl z = record {
  e = rejected m.pc r;
  pc' = m.pc;
  rb' = rb;
  turned = skip e;
  at = unfold At in record { refuses = f; at_pc = refl; x0 = z };
  m2 = m;
  is = unfold feed feed_of left_by in turn_refused (feed_of t None) m (unfold feed_of in f);
  pcs = refl;
  counts = λ es. unfold since in refl;
  slots = sl;
  x0 = z;
  low = low;
}

entered : (t : Turn) (m : GuestState) (rb : RegisterBytes) (d : Done t m rb) → Led t m rb
entered t m rb d = record {
  e = visited m.pc d.b.count d.v;
  pc' = _;
  rb' = bytes_after t d.v;
  turned = visit d.reply_is d.went;
  at = d.at;
  m2 = d.m2;
  is = d.turned;
  pcs = d.pcs;
  counts = λ es. unfold since in rw d.counts;
  slots = d.slots;
  x0 = d.x0;
  low = d.low;
}

pub led : (t : Turn) (m : GuestState) (rb : RegisterBytes) → Typed t → Unchanged t m.pc
    → ((b : Block) → reply t m.pc ≡ block b → Enterable t b rb)
    → m.pc < 2 ^ 64 → SlotsAre rb m → m.registers 0 ≡ 0 → Led t m rb
led t m rb ty un en low sl z =
    go (replied m.pc t.limit t.made t.helper16 t.helper_mem (length t.output) (run_at t.code m.pc t.reach) un
    (run_halfwords t.code m.pc t.reach))
  where
    go : Replied m.pc t.limit t.made t.helper16 t.helper_mem (length t.output) (run_at t.code m.pc t.reach) → Led t m rb
    go (out r e f) = skipped t m rb r e f low sl z
    go (came e f) = entered t m rb (entered_done t m rb ty (un (ap rests_on_code e)) low sl z e f (en _ e))
