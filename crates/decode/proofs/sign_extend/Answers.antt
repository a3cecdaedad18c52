-- What stands in SignExtendSum, at the width and the value given.
use Rattle.decode.proofs.SignExtendSum.{ones, extends}
use Rattle.decode.proofs.sign_extend.Goals as goal

pub returns : goal.returns
returns c = rw (ones c.args.bits c.requires.1) (extends c.args.bits c.args.val c.requires.0)
