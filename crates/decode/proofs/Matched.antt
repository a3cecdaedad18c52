-- The arm of the definition's match that the code's number finds gives the halfword what the manual gives it.
use Rattle.std.proofs.Common.{◌≡◌, ℕ, ◌+◌, ◌*◌, ◌/◌, ◌%◌, ◌^◌, ◌<◌, arith}
use Rattle.agreement.specs.Riscv.Run.{in_line}
use Rattle.agreement.specs.Translation.Decode16.{part, expand, expand_by}
use Rattle.agreement.proofs.Laws.Expanding.{expand_is}

pub matched : (h n : ℕ) → h < 2 ^ 16 → h / 2 ^ 13 * 4 + h % 4 ≡ n → expand_by n h ≡ in_line h
unfolding expand
matched h n small e =
    let f : part h 13 3 * 4 + part h 0 2 ≡ n = omega arith in
    rw f at (expand_is h)
