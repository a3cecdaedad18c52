-- Each arm of the match is what `word_by` has for its opcode, at the immediate, link and target that were worked out.
use Rattle.std.proofs.Common.{rules}
use Rattle.words.proofs.emit_by_opcode.Goals as goal

pub returns-in-103 : goal.returns-in-103
returns-in-103 c = rw (c.in-103.is, ← c.imm32.ensures) (search rules)

pub returns-in-99 : goal.returns-in-99
returns-in-99 c = rw (c.in-99.is, ← c.imm_b.ensures) (search rules)

pub returns-in-51 : goal.returns-in-51
returns-in-51 c = rw c.in-51.is (search rules)

pub returns-in-59 : goal.returns-in-59
returns-in-59 c = rw c.in-59.is (search rules)
