-- The loop has filled the bytes up to its index.
use Rattle.std.proofs.Common.{◌≡◌, ◌<◌, ℕ, get_or}
use Rattle.requests.specs.Pattern.{pattern_byte}
use Rattle.requests.proofs.pattern.fill.Given as goal

abbrev pub invariant-loop-i : goal.invariant-loop-i
invariant-loop-i l = (k : ℕ) → k < l.i → get_or l.bytes k 0 ≡ pattern_byte k
