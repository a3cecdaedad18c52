-- The word's bit, and whether its funct3 ends the block, are what the family's entry is made of.
use Rattle.std.proofs.Common.{ne_eqb, eq-eqb}
use Rattle.kind.proofs.Families.{entry_is}
use Rattle.kind.proofs.word_kind.Goals as goal

pub returns-then-family-place-ne1 : goal.returns-then-family-place-ne1
returns-then-family-place-ne1 c =
    rw (ne_eqb _ 1 c.if-family-place-ne1.true) at (entry_is c.args.instr c.decode32-d.ensures c.of-family.ensures.family c.class.ensures.0)

pub returns-then-family-d-eq1 : goal.returns-then-family-d-eq1
returns-then-family-d-eq1 c =
    rw (eq-eqb _ 1 c.if-family-place-ne1.false, eq-eqb _ 1 c.if-family-d-eq1.true)
    at (entry_is c.args.instr c.decode32-d.ensures c.of-family.ensures.family c.class.ensures.0)

pub returns : goal.returns
returns c =
    rw (eq-eqb _ 1 c.if-family-place-ne1.false, ne_eqb _ 1 c.if-family-d-eq1.false)
    at (entry_is c.args.instr c.decode32-d.ensures c.of-family.ensures.family c.class.ensures.0)
