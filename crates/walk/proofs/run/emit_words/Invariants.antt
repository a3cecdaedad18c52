-- Between two instructions `Walking` holds.
use Rattle.walk.proofs.WalkLoop.{Walking}
use Rattle.walk.proofs.run.emit_words.Given as goal

abbrev pub invariant-loop-emitted : goal.invariant-loop-emitted
invariant-loop-emitted l = Walking l.fn.steps l.fn.start l.fn.halfwords l.initial.em l.em l.pc l.emitted l.k
