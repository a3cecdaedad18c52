use Rattle.std.proofs.Common.{arith}
use Rattle.walk.proofs.RunFront.{half_there, word_there}
use Rattle.walk.proofs.fetch.fetch.Goals as goal

pub returns-then-lower-ne3 : goal.returns-then-lower-ne3
returns-then-lower-ne3 c = half_there _ _ c.if-k-halfwords.false c.if-lower-ne3.true

-- the lower halfword fits its type
pub returns : goal.returns
returns c = word_there _ _ c.if-k-halfwords-2.false c.if-lower-ne3.false (omega (arith, c.type_inv.halfwords c.args.k))
