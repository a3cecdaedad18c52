-- Each way out is a case of the definition.
use Rattle.std.proofs.Common.{arith, rules}
use Rattle.std.proofs.lemmas.Slice.{overwrites}
use Rattle.store.proofs.PlacingLaws.{is_beyond, is_full, is_placed}
use Rattle.store.proofs.place.Goals as goal
use Rattle.store.proofs.place.Goals.{then-free-pad-via-then-free-pad, then-free-pad-via-else-free-pad+then-free-pad-2}

pub returns-then-store-used : goal.returns-then-store-used
returns-then-store-used c = is_beyond _ _ _ c.if-store-used.true

-- no room for the padding, or none for the code behind it
pub returns-then-free-pad : goal.returns-then-free-pad
returns-then-free-pad c = is_full _ _ _ (omega arith) (elim c.then-free-pad.branch [
  | then-free-pad-via-then-free-pad w ↦ omega arith
  | then-free-pad-via-else-free-pad+then-free-pad-2 w ↦ omega arith
])

pub returns : goal.returns
returns c =
    is_placed _ _ _ _ _ _ (omega arith) (omega arith) (omega arith) (omega arith)
    (rw c.copy_from_slice.ensures.after (search (rules, overwrites)))
