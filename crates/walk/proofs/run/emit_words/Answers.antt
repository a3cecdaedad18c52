-- What WalkLoop has for what stands at the place, and for how its instruction went.
use Rattle.std.proofs.Common.{◌≡◌, ap, refl, arith, ℕ}
use Rattle.agreement.specs.Translation.Decode32.{wrapping_add}
use Rattle.agreement.specs.Translation.Walk.End.{goes_on}
use Rattle.walk.proofs.WalkLoop.{used_up, lacking, halved, going_on, ended, stopped_behind, turned_down}
use Rattle.walk.proofs.WalkWritten.{left_of}
use Rattle.walk.proofs.run.emit_words.Goals as goal

pub returns-in_default-clause-walks : goal.returns-in_default-clause-walks
returns-in_default-clause-walks c =
    lacking c.loop-emitted.invariant c.loop-emitted-test.true (rw c.in_default.is at c.fetch.ensures) (left_of _ _ _ c.new.ensures refl)

pub returns-in-Err-clause-walks : goal.returns-in-Err-clause-walks
returns-in-Err-clause-walks c =
    halved c.loop-emitted.invariant c.loop-emitted-test.true (rw c.in-Ok.is at c.fetch.ensures) (rw c.in-Err.is at c.to_translate.ensures)
    (left_of _ _ _ c.new-in-Err.ensures refl)

pub loop-emitted-preserved : goal.loop-emitted-preserved
loop-emitted-preserved c =
    rw c.size-size.ensures
    (going_on _ _ c.loop-emitted.invariant c.loop-emitted-test.true (rw c.size-size.ensures at c.emit_native_instr_x64.ensures)
    (rw c.in-Ok.is at c.fetch.ensures) (rw c.in-Ok-to_translate.is at c.to_translate.ensures) (cc))

pub returns-in-Some-Terminate-clause-walks : goal.returns-in-Some-Terminate-clause-walks
returns-in-Some-Terminate-clause-walks c =
    ended _ _ c.loop-emitted.invariant c.loop-emitted-test.true (rw c.size-size.ensures at c.emit_native_instr_x64.ensures)
    (rw c.in-Ok.is at c.fetch.ensures) (rw c.in-Ok-to_translate.is at c.to_translate.ensures) (cc)
    (left_of _ _ _ c.new-in-Some-Terminate.ensures refl)

pub returns-in-Some-StopBehind-clause-walks : goal.returns-in-Some-StopBehind-clause-walks
returns-in-Some-StopBehind-clause-walks c =
    stopped_behind _ _ c.loop-emitted.invariant c.loop-emitted-test.true (rw c.size-size.ensures at c.emit_native_instr_x64.ensures)
    (rw c.in-Ok.is at c.fetch.ensures) (rw c.in-Ok-to_translate.is at c.to_translate.ensures) (cc)
    (left_of _ _ _ c.new-in-Some-StopBehind.ensures (ap (λ (z : ℕ). goes_on (wrapping_add c.loop-emitted.pc z)) c.size-size.ensures))

pub returns-in-None-clause-walks : goal.returns-in-None-clause-walks
returns-in-None-clause-walks c =
    turned_down _ _ c.loop-emitted.invariant c.loop-emitted-test.true (rw c.size-size.ensures at c.emit_native_instr_x64.ensures)
    (rw c.in-Ok.is at c.fetch.ensures) (rw c.in-Ok-to_translate.is at c.to_translate.ensures) (cc)
    (left_of _ _ _ c.new-in-None.ensures (rw c.word_kind.ensures at c.end_by_kind-end.ensures))

pub returns-clause-walks : goal.returns-clause-walks
returns-clause-walks c =
    let e : c.args.steps ≡ c.loop-emitted.emitted = omega (arith, c.loop-emitted.invariant.taken, c.loop-emitted-test.false) in
    used_up c.loop-emitted.invariant c.loop-emitted-test.false (left_of _ _ _ (rw e at c.new-2.ensures) refl)
