use Rattle.std.proofs.Common.{rules}
use Rattle.words.proofs.Joined.{at_other}
use Rattle.words.proofs.slots.x64_emit_const.Goals as goal

pub returns-then-not-is_x0 : goal.returns-then-not-is_x0
returns-then-not-is_x0 c = at_other c.args.rd _ c.if-not-is_x0.ensures (search rules)
