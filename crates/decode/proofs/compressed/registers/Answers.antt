use Rattle.std.proofs.Common.{refl, rules, ne_eqb, ℕ, ◌+◌, ◌*◌}
use Rattle.agreement.specs.Translation.Decode16.{part, match}
use Rattle.decode.proofs.compressed.registers.Goals.{in-0, in-1, in-2, in-3, in-4, in-5}
use Rattle.decode.proofs.compressed.registers.Goals as goal

pub returns : goal.returns
unfolding match
returns c =
    elim c.match-h.branch [
      | in-0 w ↦ rw (w.in-0.is, c.pair.ensures, w.base-is) refl
      | in-1 w ↦ rw (w.in-1.is, c.pair.ensures, w.base-is) refl
      | in-2 w ↦ rw (w.in-2.is, c.pair.ensures, w.base-is) refl
      | in-3 w ↦ rw (w.in-3.is, c.pair.ensures, w.base-is) refl
      | in-4 w ↦ rw (w.in-4.is, c.pair.ensures, w.base-is) refl
      | in-5 w ↦ rw (w.in-5.is, c.pair.ensures, w.base-is) refl
    ]

pub returns-in_default : goal.returns-in_default
unfolding match
returns-in_default c =
    let n : ℕ = part c.args.h 12 1 * 4 + part c.args.h 5 2 in
    simp (
      ne_eqb n 0 (search rules),
      ne_eqb n 1 (search rules),
      ne_eqb n 2 (search rules),
      ne_eqb n 3 (search rules),
      ne_eqb n 4 (search rules),
      ne_eqb n 5 (search rules),
    ) refl
