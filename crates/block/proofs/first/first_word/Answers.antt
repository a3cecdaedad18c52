-- What stands at the front of the run, then the word's kind.
use Rattle.std.proofs.Common.{sym, ◌∙◌, ap}
use Rattle.std.proofs.lemmas.Result.{err_from_is_err_and}
use Rattle.kind.specs.declared.WordKind.TheVariants.{NotTaken}
use Rattle.block.specs.First.{refused}
use Rattle.block.proofs.FirstWord.{first_is, word_first, begun}
use Rattle.block.proofs.first.first_word.Goals as goal

pub returns-in_err-fetch : goal.returns-in_err-fetch
returns-in_err-fetch c =
    let p = err_from_is_err_and c.from_residual.result c.from_residual.ensures.1 in
    rw (p.1, p.2) (ap refused (first_is c.args.halfwords.now c.in_err-fetch.ensures))

pub returns-in-Half : goal.returns-in-Half
returns-in-Half c = ap refused (first_is c.args.halfwords.now (rw c.in-Half.is at c.in_ok-fetch.ensures))

pub returns-in-NotTaken : goal.returns-in-NotTaken
returns-in-NotTaken c =
    ap refused (
    word_first NotTaken c.in-Word.instr (rw c.in-NotTaken.is at c.word_kind.ensures)
    ∙ first_is c.args.halfwords.now (rw c.in-Word.is at c.in_ok-fetch.ensures)
    )

pub returns-in-Straight : goal.returns-in-Straight
returns-in-Straight c =
    let k = c.word_kind.result in
    let w = c.in-Word.instr in
    ap refused (
    sym (begun k w c.in-Straight.is)
    ∙ word_first k w c.word_kind.ensures
    ∙ first_is c.args.halfwords.now (rw c.in-Word.is at c.in_ok-fetch.ensures)
    )
