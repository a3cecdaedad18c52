-- A list of turns has no second history.
use Rattle.std.proofs.Common.{List, ◌≢◌, ◌∙◌, ◌≡◌, ap, refl, subst, sym, suc, ℕ, arith}
use Rattle.std.specs.Prelude.{Some}
use Rattle.agreement.specs.Translation.Replies.{Block, Refusal, Reply.block, Reply.refusal}
use Rattle.agreement.specs.Statement.Machine.{By, Event, History, RegisterBytes, Turn, Turned, Visit, Went, enter}
use Rattle.agreement.specs.Statement.Machine.History.{end, then}
use Rattle.agreement.specs.Statement.Machine.Turned.{skip, visit}
use Rattle.agreement.specs.Statement.Machine.Went.{helped, plainly}
use Rattle.agreement.specs.X86.Form.{Instr, Instr.call_rax, Instr.ret}
use Rattle.agreement.specs.X86.State.{Flags, Permissions, State}
use Rattle.agreement.specs.X86.Step.{Fetch, Goes, Goes.done, Goes.more, next, step}

pub record Alike (n m : ℕ) (ws vs : List ℕ) (s t : State) : Type 0 where
  pub steps : n ≡ m
  pub log : ws ≡ vs
  pub state : s ≡ t

pub record Once (s t : State) (ws vs : List ℕ) : Type 0 where
  pub state : s ≡ t
  pub log : ws ≡ vs

pub once : (undefined : State → Flags) (ok : Permissions) (s : State) {t u : State} {ws vs : List ℕ}
    → step undefined ok s ≡ Some (t, ws) → step undefined ok s ≡ Some (u, vs) → Once t u ws vs
once undefined ok s {t = t} {u = u} {ws = ws} {vs = vs} p q =
    let r : ◌≡◌ {A = State × List ℕ} (t, ws) (u, vs) = cc in
    record { state = ap (λ (z : State × List ℕ). z.0) r; log = ap (λ (z : State × List ℕ). z.1) r }

-- a CALL or RET is next
pub data Turns : Instr → Type 0 where
  by_call : Turns call_rax
  by_ret : Turns ret

pub record Halts (ok : Permissions) (s : State) : Type 0 where
  pub f : Fetch
  pub fetch : next ok s ≡ Some f
  pub turns : Turns f.instr

turns_clash : {i : Instr} → Turns i → i ≢ call_rax → i ≢ ret → ⊥
turns_clash by_call c r = c refl
turns_clash by_ret c r = r refl

clash : (ok : Permissions) (s : State) (f : Fetch) → next ok s ≡ Some f → f.instr ≢ call_rax → f.instr ≢ ret → Halts ok s → ⊥
clash ok s f e c r h = let q : h.f ≡ f = cc in turns_clash (rw q at h.turns) c r

pub goes_once : (undefined : State → Flags) (ok : Permissions) {s t u : State} {n m : ℕ} {ws vs : List ℕ}
    → Goes undefined ok s n ws t → Halts ok t → Goes undefined ok s m vs u → Halts ok u → Alike n m ws vs t u
goes_once undefined ok done h done k = record { steps = refl; log = refl; state = refl }
goes_once undefined ok done h (more {s = s} {f = f} e c z g r) k = absurd (clash ok s f e c z h)
goes_once undefined ok (more {s = s} {f = f} e c z g r) h done k = absurd (clash ok s f e c z k)
goes_once undefined ok {u = u} (more {s = s} e c z g r) h (more {n = n} {vs = vs} e' c' z' g' r') k =
    let o = once undefined ok s g g' in
    let a = goes_once undefined ok r h (subst (λ (z : State). Goes undefined ok z n vs u) (sym o.state) r') k in
    record { steps = ap suc a.steps; log = rw (o.log, a.log); state = a.state }

pub halts : (t : Turn) (i : Instr) {u v : State} {ws : List ℕ} → Turns i → By t i u v ws → Halts t.ok u
halts t i e b = record { f = record { instr = i; size = b.size }; fetch = b.fetch; turns = e }

-- from an equal state
pub by_from : (t : Turn) (i : Instr) {u u' v : State} {ws : List ℕ} → u ≡ u' → By t i u' v ws → By t i u v ws
by_from t i {v = v} {ws = ws} e b = subst (λ (z : State). By t i z v ws) (sym e) b

goes_from : (t : Turn) {u u' v : State} {n : ℕ} {ws : List ℕ} → u ≡ u'
    → Goes t.undefined t.ok (t.helper u') n ws v → Goes t.undefined t.ok (t.helper u) n ws v
goes_from t {v = v} {n = n} {ws = ws} e g = subst (λ (z : State). Goes t.undefined t.ok (t.helper z) n ws v) (sym e) g

pub instr_once : (t : Turn) (i j : Instr) {u v w : State} {ws vs : List ℕ} → By t i u v ws → By t j u w vs → i ≡ j
instr_once t i j b d =
    let f : Fetch = record { instr = i; size = b.size } in
    let g : Fetch = record { instr = j; size = d.size } in
    let q : f ≡ g = some_eq (sym b.fetch ∙ d.fetch) in
    ap (λ (f : Fetch). f.instr) q
  where
    some_eq : {x y : Fetch} → Some x ≡ Some y → x ≡ y
    some_eq e = cc

pub not_call : ret ≡ call_rax → ⊥
not_call e = let z : ◌≡◌ {A = ℕ} 0 1 = cc in omega arith

went_once : (t : Turn) {s : State} {v w : Visit} → Went t s v → Went t s w → v ≡ w
went_once t (plainly {u = u} g b) (plainly g' b') =
    let a = goes_once t.undefined t.ok g (halts t ret by_ret b) g' (halts t ret by_ret b') in
    let b'' = by_from t ret a.state b' in
    let o = once t.undefined t.ok u b.does b''.does in
    rw (a.steps, a.log, o.state, o.log)
went_once t (plainly g b) (helped g' b' h' d') =
    let a = goes_once t.undefined t.ok g (halts t ret by_ret b) g' (halts t call_rax by_call b') in
    absurd (not_call (instr_once t ret call_rax b (by_from t call_rax a.state b')))
went_once t (helped g b h d) (plainly g' b') =
    let a = goes_once t.undefined t.ok g (halts t call_rax by_call b) g' (halts t ret by_ret b') in
    absurd (not_call (sym (instr_once t call_rax ret b (by_from t ret a.state b'))))
went_once t (helped {u = u} {w = w} g b h d) (helped g' b' h' d') =
    let a = goes_once t.undefined t.ok g (halts t call_rax by_call b) g' (halts t call_rax by_call b') in
    let b'' = by_from t call_rax a.state b' in
    let o = once t.undefined t.ok u b.does b''.does in
    let h'' = goes_from t o.state h' in
    let e = goes_once t.undefined t.ok h (halts t ret by_ret d) h'' (halts t ret by_ret d') in
    let d'' = by_from t ret e.state d' in
    let k = once t.undefined t.ok w d.does d''.does in
    rw (a.steps, a.log, a.state, o.state, o.log, e.steps, e.log, k.state, k.log)

-- replies
refusal_once : (r s : Refusal) → refusal r ≡ refusal s → r ≡ s
refusal_once r s e = cc

block_once : (a b : Block) → block a ≡ block b → a ≡ b
block_once a b e = cc

not_block : (a : Block) (r : Refusal) → block a ≡ refusal r → ⊥
not_block a r e = let z : ◌≡◌ {A = ℕ} 0 1 = cc in omega arith

pub record SameTurn (e f : Event) (pc pc' : ℕ) (rb rb' : RegisterBytes) : Type 0 where
  pub events : e ≡ f
  pub pcs : pc ≡ pc'
  pub bytes : rb ≡ rb'

pub turned_once : {pc pc' pc'' : ℕ} {rb : RegisterBytes} {t : Turn} {rb' rb'' : RegisterBytes} {e f : Event}
    → Turned pc rb t e pc' rb' → Turned pc rb t f pc'' rb'' → SameTurn e f pc' pc'' rb' rb''
turned_once (skip {r = r} e) (skip {r = s} f) = let q = refusal_once r s (sym e ∙ f) in record { events = rw q; pcs = refl; bytes = refl }
turned_once (skip {r = r} e) (visit {b = b} f w) = absurd (not_block b r (sym f ∙ e))
turned_once (visit {b = b} e w) (skip {r = r} f) = absurd (not_block b r (sym e ∙ f))
turned_once {rb = rb} {t = t} (visit {b = a} {v = v} e w) (visit {b = b} {v = v'} f w') =
    let q : a ≡ b = block_once a b (sym e ∙ f) in
    let w'' : Went t (enter t a.code rb) v' = subst (λ (z : Block). Went t (enter t z.code rb) v') (sym q) w' in
    let z : v ≡ v' = went_once t w w'' in
    record { events = rw (q, z); pcs = rw z; bytes = rw z }

pub record Same (es fs : List Event) (pc pc' : ℕ) (rb rb' : RegisterBytes) : Type 0 where
  pub events : es ≡ fs
  pub pcs : pc ≡ pc'
  pub bytes : rb ≡ rb'

pub history_once : {pc pc' pc'' : ℕ} {rb rb' rb'' : RegisterBytes} {ts : List Turn} {es fs : List Event}
    → History pc rb ts es pc' rb' → History pc rb ts fs pc'' rb'' → Same es fs pc' pc'' rb' rb''
history_once end end = record { events = refl; pcs = refl; bytes = refl }
history_once {pc'' = p''} {rb'' = b''} (then {pc' = p} {rb' = b} {ts = ts} a h) (then {pc' = p'} {rb' = b'} {es = fs} a' h') =
    let q = turned_once a a' in
    let h1 : History p b' ts fs p'' b'' = subst (λ (z : ℕ). History z b' ts fs p'' b'') (sym q.pcs) h' in
    let h2 : History p b ts fs p'' b'' = subst (λ (z : RegisterBytes). History p z ts fs p'' b'') (sym q.bytes) h1 in
    let r = history_once h h2 in
    record { events = rw (q.events, r.events); pcs = r.pcs; bytes = r.bytes }
