use Rattle.std.proofs.lemmas.Result.{err_from_is_err_and}
use Rattle.store.proofs.PlacingLaws.{moves, keeps}
use Rattle.store.proofs.NativeCodeCache.alloc.Goals as goal

pub returns-in_err-placed : goal.returns-in_err-placed
returns-in_err-placed c =
    let p = err_from_is_err_and c.from_residual.result c.from_residual.ensures.1 in
    rw (p.1, p.2) (keeps c.in_err-placed.ensures)

pub returns : goal.returns
returns c = moves c.in_ok-placed.ensures
