use Rattle.std.proofs.Common.{refl}
use Rattle.entry.specs.Index.{freed}
use Rattle.index.proofs.Clearing.{one_cleared}
use Rattle.index.proofs.empty.Goals as goal

pub loop-e-preserved : goal.loop-e-preserved
loop-e-preserved c =
    one_cleared c.args.entries.now c.loop-e.entries _ c.loop-e.e-index _ c.loop-e-test.true c.loop-e.auto.entries freed
    c.loop-e.invariant refl
