-- Each way through the tests is one of ReplyLaws.
use Rattle.std.proofs.Common.{refl}
use Rattle.std.proofs.lemmas.Result.{err_from_is_err_and}
use Rattle.block.proofs.ReplyLaws.{if_limit_zero, if_odd_start, if_first, limit_zero_lem, odd_start_lem, first_refused, begun}
use Rattle.block.proofs.ReplyLaws.{output_short_lem, made}
use Rattle.block.proofs.translate.Goals as goal

pub returns-then-limit-eq0-clause-translates : goal.returns-then-limit-eq0-clause-translates
returns-then-limit-eq0-clause-translates c = limit_zero_lem (if_limit_zero _ _ _ _ _ _ c.if-limit-eq0.true)

pub returns-then-start-eq1-clause-translates : goal.returns-then-start-eq1-clause-translates
returns-then-start-eq1-clause-translates c = odd_start_lem (if_odd_start _ _ _ _ _ _ c.if-limit-eq0.false c.if-start-eq1.true)

pub returns-in_err-first_word-clause-translates : goal.returns-in_err-first_word-clause-translates
returns-in_err-first_word-clause-translates c =
    let p = err_from_is_err_and c.from_residual.result c.from_residual.ensures.1 in
    rw (p.1, p.2) (first_refused _ _ c.in_err-first_word.ensures (if_first _ _ _ _ _ _ c.if-limit-eq0.false c.if-start-eq1.false refl))

pub returns-then-out-lt-GREATEST-clause-translates : goal.returns-then-out-lt-GREATEST-clause-translates
returns-then-out-lt-GREATEST-clause-translates c =
    output_short_lem _ c.if-out-lt-GREATEST.true
    (if_first _ _ _ _ _ _ c.if-limit-eq0.false c.if-start-eq1.false (begun _ c.in_ok-first_word.ensures))

-- a block at the front of the output, whose length counts bytes that stand there
pub returns : goal.returns
returns c =
    let block = made c.args.start c.args.limit _ _ _ _ c.if-out-lt-GREATEST.false
    (if_first _ _ _ _ _ _ c.if-limit-eq0.false c.if-start-eq1.false (begun _ c.in_ok-first_word.ensures))
    c.min-steps.ensures c.compile_native_block.ensures in
    record { translates = block.0; fits = block.1 }
