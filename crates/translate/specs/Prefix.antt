-- How many bytes at the front of a buffer are meant.
use Rattle.std.specs.Prelude.{◌≡◌, ◌≤◌, List, ℕ, length, take}

-- the first n are there to be lent. The second part follows from the first, and spares a caller that lends them a proof
abbrev pub IsPrefixLen : ℕ → List ℕ → Type 0
IsPrefixLen n xs = (n ≤ length xs) × (n ≡ length (take n xs))
