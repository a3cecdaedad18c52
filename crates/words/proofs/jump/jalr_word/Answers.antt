-- A reserved funct3 writes nothing; with funct3 0 the bytes are those of `jalr`.
use Rattle.std.proofs.Common.{rules, refl, ne_eqb, eq-eqb}
use Rattle.emitter.proofs.WriteLaws.{none}
use Rattle.words.proofs.jump.jalr_word.Goals as goal

pub returns-then-d-ne-F3_JALR : goal.returns-then-d-ne-F3_JALR
returns-then-d-ne-F3_JALR c =
    rw (ne_eqb _ 0 c.if-d-ne-F3_JALR.true) (record { flows = refl; writes = record { wrote = none; same_output = refl } })

pub returns : goal.returns
returns c = rw (eq-eqb _ 0 c.if-d-ne-F3_JALR.false) (search rules)
