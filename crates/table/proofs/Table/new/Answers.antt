-- An array of equal entries whose first n are the index.
use Rattle.std.proofs.Common.{ap, replicate, ◌∙◌}
use Rattle.std.proofs.lemmas.List.{take-replicate}
use Rattle.table.proofs.Table.new.Goals as goal

pub returns : goal.returns
returns c = take-replicate c.args.n 64 c.default.result c.requires ∙ ap (replicate c.args.n) c.default.ensures
