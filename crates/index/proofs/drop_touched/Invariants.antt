use Rattle.index.proofs.Clearing.{Dropped}
use Rattle.index.proofs.drop_touched.Given as goal

abbrev pub invariant-loop-entry : goal.invariant-loop-entry
invariant-loop-entry l = Dropped l.address l.n l.fn.entries l.entries l.entry-index l.dropped
