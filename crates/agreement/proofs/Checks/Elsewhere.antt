-- What is asked of a helper is asked only where the block's own CALL enters it: of the turns at the thirteen sites, whose blocks call none,
-- it would be false in a state that no step of theirs leads to, but from which a CALL of theirs could be executed.
use Rattle.std.proofs.Common.{[], ◌∷◌, ◌≡◌, refl, cond, eqb, arith}
use Rattle.agreement.specs.Statement.Machine.{By}
use Rattle.agreement.specs.Statement.Premises.{Keeps}
use Rattle.agreement.specs.X86.Execute.{exec}
use Rattle.agreement.specs.X86.Form.{Instr.call_rax}
use Rattle.agreement.specs.X86.State.{State}
use Rattle.agreement.specs.X86.Step.{past}
use Rattle.agreement.proofs.Checks.Example.{clear, range}
use Rattle.agreement.proofs.Checks.ExampleRuns.{the_model}
use Rattle.agreement.proofs.Checks.Jumping.{jump_turn, lone_site}
use Rattle.agreement.proofs.Checks.Sites.{usable}

-- CALL RAX where the block stands
abbrev before : State
before = record {
  regs = λ k. 0x30008;
  flags = clear;
  rip = 0x20001;
  mem = λ x. cond (eqb x 0x20001) 0xFF (cond (eqb x 0x20002) 0xD0 0);
}

abbrev inside : State
inside = exec (jump_turn lone_site).undefined call_rax (past 2 before)

calls : By (jump_turn lone_site) call_rax before inside (0x30000 ∷ 0x30001 ∷ 0x30002 ∷ 0x30003 ∷ 0x30004 ∷ 0x30005 ∷ 0x30006 ∷ 0x30007 ∷ [])
unfolding the_model range usable
calls = record { size = 2; fetch = refl; does = refl }

astray : Keeps (jump_turn lone_site) 67 inside ((jump_turn lone_site).helper inside) → ⊥
unfolding the_model
astray k = let e : 0x30000 ≡ 0x30008 = k.rsp in omega arith
