use Rattle.std.proofs.Common.{arith}
use Rattle.entry.proofs.Touching.{by_tests, test_passes, test_fails}
use Rattle.entry.proofs.Entry.is_touched.Goals as goal
use Rattle.entry.proofs.Entry.is_touched.Goals.{then-up-span, else-up-span, then-down-n, else-down-n}

pub returns : goal.returns
returns c =
    let pc = c.args.self.now.pc in
    let span = c.args.self.now.block.span in
    by_tests pc span c.args.address c.args.n (omega arith) (omega arith) (omega arith) (omega arith) _ _
    (elim c.if-up-span.branch [
      | then-up-span w ↦ test_passes pc span c.args.address c.args.n _ (omega arith) w.begins_in_block-is
      | else-up-span w ↦ test_fails pc span c.args.address c.args.n _ (omega arith) w.begins_in_block-is
    ])
    (elim c.if-down-n.branch [
      | then-down-n w ↦ test_passes c.args.address c.args.n pc span _ (omega arith) w.begins_in_write-is
      | else-down-n w ↦ test_fails c.args.address c.args.n pc span _ (omega arith) w.begins_in_write-is
    ])
