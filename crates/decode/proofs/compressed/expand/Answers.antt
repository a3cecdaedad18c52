use Rattle.std.proofs.Common.{refl, rules, ne_eqb, ℕ, ◌+◌, ◌*◌, ◌/◌, ◌%◌, ◌^◌}
use Rattle.agreement.specs.Translation.Decode16.{match, expand_by}
use Rattle.decode.proofs.Matched.{matched}
use Rattle.decode.proofs.compressed.expand.Goals as goal

pub returns-in-0 : goal.returns-in-0
unfolding match expand_by
returns-in-0 c = rw (← (matched _ 0 (search rules) c.in-0.is)) (search rules)

pub returns-in-1 : goal.returns-in-1
unfolding match expand_by
returns-in-1 c = rw (← (matched _ 1 (search rules) c.in-1.is)) (search rules)

pub returns-in-2 : goal.returns-in-2
unfolding match expand_by
returns-in-2 c = rw (← (matched _ 2 (search rules) c.in-2.is)) (search rules)

pub returns-in-5 : goal.returns-in-5
unfolding match expand_by
returns-in-5 c = rw (← (matched _ 5 (search rules) c.in-5.is)) (search rules)

pub returns-in-9 : goal.returns-in-9
unfolding match expand_by
returns-in-9 c = rw (← (matched _ 9 (search rules) c.in-9.is)) (search rules)

pub returns-in-13 : goal.returns-in-13
unfolding match expand_by
returns-in-13 c = rw (← (matched _ 13 (search rules) c.in-13.is)) (search rules)

pub returns-in-17 : goal.returns-in-17
unfolding match expand_by
returns-in-17 c = rw (← (matched _ 17 (search rules) c.in-17.is)) (search rules)

pub returns-in-18 : goal.returns-in-18
unfolding match expand_by
returns-in-18 c = rw (← (matched _ 18 (search rules) c.in-18.is)) (search rules)

pub returns-in-21 : goal.returns-in-21
unfolding match expand_by
returns-in-21 c = rw (← (matched _ 21 (search rules) c.in-21.is)) (search rules)

pub returns-in-25 : goal.returns-in-25
unfolding match expand_by
returns-in-25 c = rw (← (matched _ 25 (search rules) c.in-25.is)) (search rules)

pub returns-in-29 : goal.returns-in-29
unfolding match expand_by
returns-in-29 c = rw (← (matched _ 29 (search rules) c.in-29.is)) (search rules)

pub returns-in_default : goal.returns-in_default
unfolding match expand_by
returns-in_default c =
    let h = c.args.halfword in
    let n : ℕ = h / 2 ^ 13 * 4 + h % 4 in
    rw (← (matched h n (search rules) refl)) (simp (
      ne_eqb n 0 (search rules),
      ne_eqb n 1 (search rules),
      ne_eqb n 2 (search rules),
      ne_eqb n 5 (search rules),
      ne_eqb n 9 (search rules),
      ne_eqb n 13 (search rules),
      ne_eqb n 17 (search rules),
      ne_eqb n 18 (search rules),
      ne_eqb n 21 (search rules),
      ne_eqb n 25 (search rules),
      ne_eqb n 29 (search rules),
    ) refl)
