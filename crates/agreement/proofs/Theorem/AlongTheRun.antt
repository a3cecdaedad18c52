-- A list of turns taken along the manual's run, turn by turn: what is asked of it, and where it ends.
use Rattle.std.proofs.Common.{false, true, List, [], ◌∷◌, ◌∙◌, ◌≡◌, subst, sym, ◌*◌, ◌<◌, ◌^◌, ℕ, arith}
use Rattle.agreement.specs.Common.{Helper}
use Rattle.agreement.specs.Riscv.Run.{GuestState, Stop.called, Stop.plain, manual, turn}
use Rattle.agreement.specs.Translation.Replies.{Block, Reply.block}
use Rattle.agreement.specs.Statement.Agreement.{Along, At, feed, feeds, is_refused}
use Rattle.agreement.specs.Statement.Machine.{Event, History, RegisterBytes, Turn, Turned, reply}
use Rattle.agreement.specs.Statement.Machine.History.{end, then}
use Rattle.agreement.specs.Statement.Premises.{Enterable, Premises, Typed, Unchanged}
use Rattle.agreement.specs.X86.Memory.{read}
use Rattle.agreement.specs.X86.State.{State}
use Rattle.agreement.proofs.Theorem.Determined.{turned_once}
use Rattle.agreement.proofs.Theorem.Consequences.{WentHelped, WentPlainly, after_helper_lem, after_plain_lem, after_refused}
use Rattle.agreement.proofs.Theorem.Consequences.{after_helper, after_plain, read_as}
use Rattle.agreement.proofs.Theorem.TurnByTurn.{Led, SlotsAre, led}

-- 1. Premises

-- what is asked of one turn at pc, with any register bytes whose slot x0 is zero
pub record MeetsAt (t : Turn) (pc : ℕ) : Type 0 where
  pub typed : Typed t
  pub unchanged : Unchanged t pc
  pub enterable : (b : Block) (rb : RegisterBytes) → read 8 rb 0 ≡ 0 → reply t pc ≡ block b → Enterable t b rb

-- of each turn, at the manual's pc
unfoldable pub Met : GuestState → List Turn → Type 0
Met m [] = Unit
Met m (t ∷ ts) =
    MeetsAt t m.pc
    × ((e : Event) (pc' : ℕ) (rb rb' : RegisterBytes) → Turned m.pc rb t e pc' rb' → At m t e → Met (turn (feed t e) m) ts)

-- slot x0 of register bytes that are the registers of a state
pub x0_of : (rb : RegisterBytes) (m : GuestState) → SlotsAre rb m → m.registers 0 ≡ 0 → read 8 rb 0 ≡ 0
x0_of rb m sl z = let e : 8 * 0 ≡ 0 = omega arith in rw e at (sl 0 (omega arith)) ∙ z

pub met : (ts : List Turn) (m : GuestState) (rb : RegisterBytes)
    → m.pc < 2 ^ 64 → SlotsAre rb m → m.registers 0 ≡ 0 → Met m ts → Premises m.pc rb ts
unfolding Met Premises
met [] m rb low sl z h = tt
met (t ∷ ts) m rb low sl z h = (a.typed, a.unchanged, enter, λ e pc' rb' k. on e pc' rb' k (met ts))
  where
    a : MeetsAt t m.pc
    a = h.0

    enter : (b : Block) → reply t m.pc ≡ block b → Enterable t b rb
    enter b = a.enterable b rb (x0_of rb m sl z)

    l : Led t m rb
    l = led t m rb a.typed a.unchanged enter low sl z

    on : (e : Event) (pc' : ℕ) (rb' : RegisterBytes) → Turned m.pc rb t e pc' rb'
        → ((n : GuestState) (rb : RegisterBytes) → n.pc < 2 ^ 64 → SlotsAre rb n → n.registers 0 ≡ 0 → Met n ts → Premises n.pc rb ts)
        → Premises pc' rb' ts
    on e pc' rb' k f =
        let q = turned_once l.turned k in
        let n : Met l.m2 ts = rw l.is at (h.1 l.e l.pc' rb l.rb' l.turned l.at) in
        let p : Premises l.m2.pc l.rb' ts = f l.m2 l.rb' l.low l.slots l.x0 n in
        let p' : Premises l.pc' l.rb' ts = subst (λ (x : ℕ). Premises x l.rb' ts) (sym l.pcs) p in
        subst (λ (x : RegisterBytes). Premises pc' x ts) q.bytes (subst (λ (x : ℕ). Premises x l.rb' ts) q.pcs p')

-- turn by turn: a refused one, one without a helper, one with a helper, whatever state that is entered in
pub met_refused : (m : GuestState) (t : Turn) (ts : List Turn) → MeetsAt t m.pc → is_refused t m ≡ true → Met m ts → Met m (t ∷ ts)
unfolding Met
met_refused m t ts a f k = (a, λ e pc' rb rb' h w. rw (after_refused m t e f w) k)

pub met_plain : (m : GuestState) (t : Turn) (ts : List Turn) → MeetsAt t m.pc → is_refused t m ≡ false → (read_as t m).stop ≡ plain
    → Met (after_plain t m) ts → Met m (t ∷ ts)
unfolding Met
met_plain m t ts a f st k = (a, λ e pc' rb rb' h w. rw (after_plain_lem m f st h w).turned k)

-- with what the theorem says of the call
pub met_entered : (m : GuestState) (t : Turn) (ts : List Turn) (h : Helper) (i : ℕ) → MeetsAt t m.pc → is_refused t m ≡ false
    → (read_as t m).stop ≡ called h i → ((e : Event) (w : WentHelped m t e) → Met (after_helper t w.call.inside) ts) → Met m (t ∷ ts)
unfolding Met
met_entered m t ts h i a f st k =
    (a, λ e pc' rb rb' g w. let q = after_helper_lem m h i f st g w in rw q.turned (k e q))

pub met_helped : (m : GuestState) (t : Turn) (ts : List Turn) (h : Helper) (i : ℕ) → MeetsAt t m.pc → is_refused t m ≡ false
    → (read_as t m).stop ≡ called h i → ((u : State) → Met (after_helper t u) ts) → Met m (t ∷ ts)
met_helped m t ts h i a f st k = met_entered m t ts h i a f st (λ e w. k w.call.inside)

-- 2. Where a list that agrees ends: P holds of its events and of the manual's state after it

abbrev pub Ends : GuestState → List Turn → (List Event → GuestState → Type 0) → Type 0
Ends m ts P = (pc : ℕ) (rb : RegisterBytes) (es : List Event) (pc' : ℕ) (rb' : RegisterBytes) → History pc rb ts es pc' rb' → Along m ts es
    → P es (manual (feeds ts es) m)

pub ends_here : (m : GuestState) (P : List Event → GuestState → Type 0) → P [] m → Ends m [] P
unfolding feeds manual
ends_here m P p pc rb [] pc' rb' end a = p
ends_here m P p pc rb (_ ∷ _) pc' rb' h a = elim h [ ]

ends_after : (m n : GuestState) (t : Turn) (ts : List Turn) (P : List Event → GuestState → Type 0) (e : Event)
    → turn (feed t e) m ≡ n → Ends n ts (λ es. P (e ∷ es))
    → (pc : ℕ) (rb : RegisterBytes) (es : List Event) (pc' : ℕ) (rb' : RegisterBytes)
    → History pc rb ts es pc' rb' → Along (turn (feed t e) m) ts es → P (e ∷ es) (manual (feeds (t ∷ ts) (e ∷ es)) m)
unfolding feeds manual
ends_after m n t ts P e z k pc rb es pc' rb' h a =
    subst (λ (x : GuestState). P (e ∷ es) (manual (feeds ts es) x)) (sym z) (k pc rb es pc' rb' h (rw z at a))

pub ends_refused : (m : GuestState) (t : Turn) (ts : List Turn) (P : List Event → GuestState → Type 0) → is_refused t m ≡ true
    → ((e : Event) → At m t e → Ends m ts (λ es. P (e ∷ es))) → Ends m (t ∷ ts) P
unfolding Along
ends_refused m t ts P f k pc rb [] pc' rb' h a = elim h [ ]
ends_refused m t ts P f k pc rb (e ∷ es) pc' rb' (then h hs) a =
    ends_after m m t ts P e (after_refused m t e f a.0) (k e a.0) _ _ es _ _ hs a.1

pub ends_plain : (m : GuestState) (t : Turn) (ts : List Turn) (P : List Event → GuestState → Type 0)
    → is_refused t m ≡ false → (read_as t m).stop ≡ plain
    → ((e : Event) → WentPlainly m t e → Ends (after_plain t m) ts (λ es. P (e ∷ es))) → Ends m (t ∷ ts) P
unfolding Along
ends_plain m t ts P f st k pc rb [] pc' rb' h a = elim h [ ]
ends_plain m t ts P f st k pc rb (e ∷ es) pc' rb' (then h hs) a =
    let w = after_plain_lem m f st h a.0 in
    ends_after m (after_plain t m) t ts P e w.turned (k e w) _ _ es _ _ hs a.1

pub ends_helped : (m : GuestState) (t : Turn) (ts : List Turn) (P : List Event → GuestState → Type 0) (h : Helper) (i : ℕ)
    → is_refused t m ≡ false → (read_as t m).stop ≡ called h i
    → ((e : Event) (w : WentHelped m t e) → Ends (after_helper t w.call.inside) ts (λ es. P (e ∷ es))) → Ends m (t ∷ ts) P
unfolding Along
ends_helped m t ts P h i f st k pc rb [] pc' rb' g a = elim g [ ]
ends_helped m t ts P h i f st k pc rb (e ∷ es) pc' rb' (then g hs) a =
    let w = after_helper_lem m h i f st g a.0 in
    ends_after m (after_helper t w.call.inside) t ts P e w.turned (k e w) _ _ es _ _ hs a.1
