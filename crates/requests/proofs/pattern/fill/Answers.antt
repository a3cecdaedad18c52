use Rattle.std.proofs.Common.{arith}
use Rattle.std.proofs.lemmas.List.FromFn.{fill_by_all}
use Rattle.requests.specs.Pattern.{pattern_byte}
use Rattle.requests.proofs.pattern.fill.Goals as goal

pub returns : goal.returns
returns c = fill_by_all pattern_byte c.loop-i.bytes _ 0 c.loop-i.auto.bytes (λ k p. c.loop-i.invariant k (omega arith))
