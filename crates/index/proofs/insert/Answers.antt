use Rattle.std.specs.Prelude.{Some, None}
use Rattle.std.proofs.Common.{◌≡◌, arith}
use Rattle.std.proofs.lemmas.Result.{err_from_is_err_and}
use Rattle.index.proofs.Slots.{put_in, put_off}
use Rattle.index.proofs.insert.Goals as goal

pub returns-in_err-index : goal.returns-in_err-index
returns-in_err-index c =
    let n : c.slot_for.result ≡ None = grind (arith, c.ok_or.ensures.value, c.in_err-index.was) in
    rw (err_from_is_err_and c.from_residual.result c.from_residual.ensures.1).1
    (put_off c.args.entries.now c.args.key c.args.block _ _ n c.slot_for.ensures)

pub returns : goal.returns
returns c =
    let n : c.slot_for.result ≡ Some c.in_ok-index.index = grind (arith, c.ok_or.ensures.value, c.in_ok-index.was) in
    put_in c.args.entries.now c.args.key c.args.block _ _ _ _ n c.slot_for.ensures c.renew.ensures
