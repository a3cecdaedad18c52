use Rattle.std.proofs.Common.{rules}
use Rattle.words.proofs.Joined.{at_other}
use Rattle.words.proofs.jump.jalr_link.Goals as goal

pub returns-then-not-is_x0-clause-written : goal.returns-then-not-is_x0-clause-written
returns-then-not-is_x0-clause-written c = at_other c.args.rd _ c.if-not-is_x0.ensures (search rules)
