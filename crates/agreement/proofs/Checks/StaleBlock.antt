-- A block made from older code, where new code stands: the premise on code is not met, and without it the theorem would be false.
use Rattle.std.proofs.Common.{List, [], ◌∷◌, ◌∙◌, ◌≡◌, ap, refl, sym, ◌*◌, ℕ, arith}
use Rattle.agreement.specs.Riscv.Code.{Code, run_at}
use Rattle.agreement.specs.Riscv.Instruction.{value_op_imm}
use Rattle.agreement.specs.Riscv.Immediates as Manual
use Rattle.agreement.specs.Riscv.Run.{GuestState, write_x}
use Rattle.agreement.specs.Statement.Agreement.{Agrees}
use Rattle.agreement.specs.Statement.Machine.{By, Event, History, RegisterBytes, Turn, Turned, Visit, Went, enter}
use Rattle.agreement.specs.Statement.Machine.History.{end, then}
use Rattle.agreement.specs.Statement.Machine.Turned.{skip, visit}
use Rattle.agreement.specs.Statement.Machine.Went.{helped, plainly}
use Rattle.agreement.specs.Statement.Premises.{Unchanged}
use Rattle.agreement.specs.X86.Form.{Instr}
use Rattle.agreement.specs.X86.Memory.{read}
use Rattle.agreement.specs.X86.State.{State}
use Rattle.agreement.specs.Cases.{words}
use Rattle.agreement.proofs.Checks.CasesHold.{translations}
use Rattle.agreement.proofs.Checks.Example.{zeros}
use Rattle.agreement.proofs.Checks.ExampleStates.{reads_a_turn}
use Rattle.agreement.proofs.Checks.PremisesMet.{applied}
use Rattle.agreement.proofs.Theorem.Consequences.{after_plain}
use Rattle.agreement.proofs.Theorem.AlongTheRun.{Ends, Met, ends_here, ends_plain, met_plain}
use Rattle.agreement.proofs.Checks.CodeChanges.{n0, new_code, old_meets, old_plain, old_x1, old_turn}

-- the same turn, the code being another
abbrev pub recoded : Turn → Code → ℕ → Turn
recoded t c n = record {
  limit = t.limit;
  made = t.made;
  code = c;
  reach = n;
  helper16 = t.helper16;
  helper_mem = t.helper_mem;
  output = t.output;
  block = t.block;
  base = t.base;
  sp = t.sp;
  others = t.others;
  flags = t.flags;
  rest = t.rest;
  ok = t.ok;
  undefined = t.undefined;
  helper = t.helper;
}

-- the first turn of CodeChanges, its block made from the old code, entered where the new code stands
abbrev stale_turn : Turn
stale_turn = recoded old_turn new_code 4

pub stale_changed : Unchanged stale_turn 0x80000008 → ⊥
unfolding words run_at translations
stale_changed u = let e = u refl in let z : ◌≡◌ {A = ℕ} 0x0050 0x0070 = cc in omega arith

-- what the machine does, does not depend on the code
by_recoded : (t : Turn) (c : Code) (n : ℕ) {i : Instr} {u v : State} {ws : List ℕ} → By t i u v ws → By (recoded t c n) i u v ws
by_recoded t c n b = record { size = b.size; fetch = b.fetch; does = b.does }

went_recoded : (t : Turn) (c : Code) (n : ℕ) {s : State} {v : Visit} → Went t s v → Went (recoded t c n) s v
went_recoded t c n (plainly g b) = plainly g (by_recoded t c n b)
went_recoded t c n (helped g b h d) = helped g (by_recoded t c n b) h (by_recoded t c n d)

turned_recoded : (t : Turn) (c : Code) (n : ℕ) {pc pc' : ℕ} {rb rb' : RegisterBytes} {e : Event}
    → Turned pc rb t e pc' rb' → Turned pc rb (recoded t c n) e pc' rb'
unfolding enter
turned_recoded t c n (skip e) = skip e
turned_recoded t c n (visit e w) = visit e (went_recoded t c n w)

once_recoded : (t : Turn) (c : Code) (n : ℕ) {pc pc' : ℕ} {rb rb' : RegisterBytes} {es : List Event}
    → History pc rb (t ∷ []) es pc' rb' → History pc rb (recoded t c n ∷ []) es pc' rb'
once_recoded t c n (then h end) = then (turned_recoded t c n h) end

-- the machine gives x1 = 5, which is right of the old code; the manual's run of the new code gives 7
abbrev X1Is : ℕ → List Event → GuestState → Type 0
X1Is v es m = m.registers 1 ≡ v

old_ends : Ends n0 (old_turn ∷ []) (X1Is 5)
old_ends =
    ends_plain n0 old_turn [] (X1Is 5) old_plain.taken old_plain.stops (λ e w. ends_here (after_plain old_turn n0) (X1Is 5) old_x1)

stale_ends : Ends n0 (stale_turn ∷ []) (X1Is 7)
unfolding reads_a_turn value_op_imm Manual.sign_extend write_x read
stale_ends = ends_plain n0 stale_turn [] (X1Is 7) refl refl (λ e w. ends_here (after_plain stale_turn n0) (X1Is 7) refl)

old_agrees : Agrees 0x80000008 zeros (old_turn ∷ [])
old_agrees =
    applied 0x80000008 (old_turn ∷ []) (omega arith)
    (met_plain n0 old_turn [] old_meets old_plain.taken old_plain.stops (unfold Met in tt))

pub stale_disagrees : Agrees 0x80000008 zeros (stale_turn ∷ []) → ⊥
stale_disagrees a =
    let o = old_agrees in
    let q = a.only o.events o.pc' o.rb' (once_recoded old_turn new_code 4 o.history) in
    let five : read 8 o.rb' (8 * 1) ≡ 5 = o.at_slots 1 (omega arith) ∙ old_ends _ _ o.events _ _ o.history o.along in
    let seven : read 8 a.rb' (8 * 1) ≡ 7 = a.at_slots 1 (omega arith) ∙ stale_ends _ _ a.events _ _ a.history a.along in
    let same : read 8 a.rb' (8 * 1) ≡ read 8 o.rb' (8 * 1) = ap (λ (b : RegisterBytes). read 8 b (8 * 1)) q.2 in
    omega (arith, sym five ∙ sym same ∙ seven)
