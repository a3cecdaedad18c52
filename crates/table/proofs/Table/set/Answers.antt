-- One of the first n entries is set.
use Rattle.std.proofs.Common.{refl}
use Rattle.std.proofs.lemmas.List.{drop-set-lt}
use Rattle.std.proofs.Math.Seq.{take-set-lt}
use Rattle.table.proofs.Table.set.Goals as goal

pub returns-then-slot-self : goal.returns-then-slot-self
returns-then-slot-self c = record {
  size = refl;
  front = take-set-lt c.args.self.now.n c.args.self.now.entries c.args.slot c.args.entry c.if-slot-self.true;
  rest = drop-set-lt c.args.self.now.n c.args.self.now.entries c.args.slot c.args.entry c.if-slot-self.true;
}
