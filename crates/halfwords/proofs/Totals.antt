-- What the counts say of each sort, and of all together: a statement that counts fewer halfwords, or leaves a sort open, does not serve
-- here.
use Rattle.std.proofs.Common.{◌≡◌, ap, ◌+◌, ◌*◌, ◌^◌, ℕ, arith}
use Rattle.halfwords.specs.Sorts.{AllCounted, Counts, count}
use Rattle.halfwords.proofs.Counting.{all_counted}

record Each (c : Counts) : Type 0 where
  reserved : c.reserved ≡ 2409
  breakpoints : c.breakpoints ≡ 1
  accesses : c.accesses ≡ 24448
  ending : c.ending ≡ 6206
  straight : c.straight ≡ 16088

each : Each (count 16 0)
unfolding AllCounted
each = record {
  reserved = ap (λ (c : Counts). c.reserved) all_counted;
  breakpoints = ap (λ (c : Counts). c.breakpoints) all_counted;
  accesses = ap (λ (c : Counts). c.accesses) all_counted;
  ending = ap (λ (c : Counts). c.ending) all_counted;
  straight = ap (λ (c : Counts). c.straight) all_counted;
}

-- three in four of all halfwords are compressed, and each of them is of one sort
abbrev of_some_sort : Counts → ℕ
of_some_sort c = c.reserved + c.breakpoints + c.accesses + c.ending + c.straight

all_of_some_sort : of_some_sort (count 16 0) ≡ 3 * 2 ^ 14
all_of_some_sort = omega (arith, each.reserved, each.breakpoints, each.accesses, each.ending, each.straight)
