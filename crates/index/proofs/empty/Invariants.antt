use Rattle.entry.specs.Index.{freed}
use Rattle.index.proofs.Clearing.{Cleared}
use Rattle.index.proofs.empty.Given as goal

abbrev pub invariant-loop-e : goal.invariant-loop-e
invariant-loop-e l = Cleared freed l.fn.entries l.entries l.e-index
