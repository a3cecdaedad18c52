-- The agreement theorem, by induction on the list of turns.
use Rattle.std.proofs.Common.{List, [], ◌∷◌, ◌∙◌, ◌≡◌, ap, refl, subst, ◌*◌, ◌<◌, ◌^◌, ℕ, arith}
use Rattle.agreement.specs.Riscv.Run.{GuestState, manual, turn}
use Rattle.agreement.specs.Translation.Replies.{Block, Reply.block}
use Rattle.agreement.specs.Statement.Agreement.{Agreement, Along, At, feed, feeds, start}
use Rattle.agreement.specs.Statement.Agreement as Statement
use Rattle.agreement.specs.X86.Memory.{read}
use Rattle.agreement.specs.Statement.Machine.{Event, History, RegisterBytes, Turn, Turned, reply, since}
use Rattle.agreement.specs.Statement.Machine.History.{end, then}
use Rattle.agreement.specs.Statement.Premises.{Enterable, Premises, Typed, Unchanged}
use Rattle.agreement.proofs.Theorem.Determined.{Same, history_once}
use Rattle.agreement.proofs.Theorem.TurnByTurn.{Led, SlotsAre, led}

-- the statement from any state m of the manual's run that the register bytes rb agree with
pub record Result (m : GuestState) (rb : RegisterBytes) (ts : List Turn) : Type 0 where
  pub events : List Event
  pub pc' : ℕ
  pub rb' : RegisterBytes
  pub history : History m.pc rb ts events pc' rb'
  pub at_pc : pc' ≡ (manual (feeds ts events) m).pc
  pub at_slots : SlotsAre rb' (manual (feeds ts events) m)
  pub at_x0 : (manual (feeds ts events) m).registers 0 ≡ 0
  pub at_count : since m.count events ≡ (manual (feeds ts events) m).count
  pub along : Along m ts events

unfoldable pub nothing : (m : GuestState) (rb : RegisterBytes)
    → SlotsAre rb m → m.registers 0 ≡ 0 → Result m rb []
unfolding manual feeds since Along
nothing m rb sl z = record {
  events = [];
  pc' = m.pc;
  rb' = rb;
  history = end;
  at_pc = refl;
  at_slots = sl;
  at_x0 = z;
  at_count = refl;
  along = tt;
}

pub manual-cons : (t : Turn) (ts : List Turn) (e : Event) (es : List Event) (m : GuestState)
    → manual (feeds (t ∷ ts) (e ∷ es)) m ≡ manual (feeds ts es) (turn (feed t e) m)
unfolding manual feeds
manual-cons t ts e es m = refl

pub along_cons : (t : Turn) (ts : List Turn) (e : Event) (es : List Event) (m : GuestState)
    → At m t e → Along (turn (feed t e) m) ts es → Along m (t ∷ ts) (e ∷ es)
unfolding Along
along_cons t ts e es m a r = (a, r)

-- one more turn in front
unfoldable pub one_more : (t : Turn) (ts : List Turn) (m : GuestState) (rb : RegisterBytes) (l : Led t m rb)
    → Result l.m2 l.rb' ts → Result m rb (t ∷ ts)
one_more t ts m rb l r =
    let e : Event = l.e in
    let es : List Event = r.events in
    let q : manual (feeds (t ∷ ts) (e ∷ es)) m ≡ manual (feeds ts es) l.m2 =
    manual-cons t ts e es m ∙ ap (manual (feeds ts es)) l.is in
    let h : Turned m.pc rb t e l.m2.pc l.rb' = subst (λ (x : ℕ). Turned m.pc rb t e x l.rb') l.pcs l.turned in
    record {
      events = e ∷ es;
      pc' = r.pc';
      rb' = r.rb';
      history = then h r.history;
      at_pc = rw q r.at_pc;
      at_slots = λ i k. rw q (r.at_slots i k);
      at_x0 = rw q r.at_x0;
      at_count = l.counts es ∙ rw q r.at_count;
      along = along_cons t ts e es m l.at (rw l.is r.along);
    }

-- what is asked of the first turn, and of the others after it
abbrev pub Asked : ℕ → RegisterBytes → Turn → List Turn → Type 0
Asked pc rb t ts =
    Typed t × Unchanged t pc × ((b : Block) → reply t pc ≡ block b → Enterable t b rb)
    × ((e : Event) (pc' : ℕ) (rb' : RegisterBytes) → Turned pc rb t e pc' rb' → Premises pc' rb' ts)

pub split : (pc : ℕ) (rb : RegisterBytes) (t : Turn) (ts : List Turn) → Premises pc rb (t ∷ ts) → Asked pc rb t ts
unfolding Premises
split pc rb t ts h = h

-- the turns ts agree from every start
abbrev Agrees : List Turn → Type 0
Agrees ts = (m : GuestState) (rb : RegisterBytes) → Premises m.pc rb ts → m.pc < 2 ^ 64
    → SlotsAre rb m → m.registers 0 ≡ 0 → Result m rb ts

turns : (ts : List Turn) → Agrees ts
turns [] m rb g low sl z = nothing m rb sl z
turns (t ∷ ts) m rb g low sl z = go (turns ts)
  where
    asked : Asked m.pc rb t ts
    asked = split m.pc rb t ts g

    l : Led t m rb
    l = led t m rb asked.0 asked.1 asked.2 low sl z

    later : Premises l.m2.pc l.rb' ts
    later = subst (λ (x : ℕ). Premises x l.rb' ts) l.pcs (asked.3 l.e l.pc' l.rb' l.turned)

    go : Agrees ts → Result m rb (t ∷ ts)
    go k = one_more t ts m rb l (k l.m2 l.rb' later l.low l.slots l.x0)

-- from the start of a list
unfoldable pub from_start : (pc : ℕ) (rb : RegisterBytes) (ts : List Turn) → Result (start pc rb) rb ts → Statement.Agrees pc rb ts
from_start pc rb ts r = record {
  events = r.events;
  pc' = r.pc';
  rb' = r.rb';
  history = r.history;
  only = λ es p b h. let q : Same r.events es r.pc' p r.rb' b = history_once r.history h in (cc, cc, cc);
  at_pc = cc;
  at_slots = λ i k. r.at_slots i (omega (arith, k));
  at_x0 = cc;
  at_count = cc;
  along = r.along;
}

-- what is asked of the start is met by the manual's
pub x0_at_start : (pc : ℕ) (rb : RegisterBytes) → read 8 rb 0 ≡ 0 → (start pc rb).registers 0 ≡ 0
x0_at_start pc rb z = let e : 8 * 0 ≡ 0 = omega arith in rw e z

pub agreement : Agreement
unfolding Agreement
agreement pc rb ts low z g = from_start pc rb ts (turns ts (start pc rb) rb g (omega (arith, low)) (λ i l. refl) (x0_at_start pc rb z))
