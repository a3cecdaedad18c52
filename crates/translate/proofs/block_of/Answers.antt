-- The block is the translation's of the halfwords that were read.
use Rattle.translate.proofs.Front.{written_is}
use Rattle.translate.proofs.block_of.Goals as goal

pub returns-clause-out_after : goal.returns-clause-out_after
returns-clause-out_after c =
    written_is c.translate-answer.result _ c.block_length.ensures
    (rw c.read_halfwords-n.ensures.halfwords_after at c.translate-answer.ensures.translates)
