use Rattle.std.proofs.Common.{sym, ◌∙◌, true, false, arith}
use Rattle.index.proofs.Clearing.{few_dropped, one_dropped}
use Rattle.index.proofs.drop_touched.Goals as goal
use Rattle.index.proofs.drop_touched.Goals.{then-is_dropped, else-is_dropped}

pub overflow_add-dropped : goal.overflow_add-dropped
overflow_add-dropped c = omega (arith, few_dropped _ _ _ _ _ _ c.loop-entry.invariant)

pub loop-entry-preserved : goal.loop-entry-preserved
loop-entry-preserved c =
    let at_entry =
    one_dropped c.args.entries.now c.loop-entry.entries c.if-is_dropped.entries c.loop-entry.entry-index _ c.loop-entry-test.true in
    let next =
    at_entry c.loop-entry.auto.entries c.args.address c.args.n c.loop-entry.dropped c.if-is_dropped.dropped c.loop-entry.invariant in
    elim c.if-is_dropped.branch [
      | then-is_dropped w ↦ next true (sym w.if-is_dropped.true ∙ c.is_dropped.ensures) w.entries-is w.dropped-is
      | else-is_dropped w ↦ next false (sym w.if-is_dropped.false ∙ c.is_dropped.ensures) w.entries-is w.dropped-is
    ]
