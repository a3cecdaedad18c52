use Rattle.std.proofs.Common.{refl, arith}
use Rattle.translate.proofs.Halfwords.{one_more, all_read}
use Rattle.translate.proofs.read_halfwords.Goals as goal

pub loop-i-preserved : goal.loop-i-preserved
loop-i-preserved c = one_more _ _ _ _ (omega arith) (omega arith) c.low_and_high.ensures c.loop-i.invariant

pub returns-clause-halfwords_after : goal.returns-clause-halfwords_after
returns-clause-halfwords_after c = all_read _ _ _ _ (omega arith) (omega arith) refl c.loop-i.invariant
