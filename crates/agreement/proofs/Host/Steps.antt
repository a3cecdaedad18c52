-- The relation of the statement is the function that runs the model.
use Rattle.std.proofs.Common.{List, ◌≡◌, refl, ℕ}
use Rattle.std.specs.Prelude.{Some}
use Rattle.agreement.specs.Laws.{StepsAlike}
use Rattle.agreement.specs.X86.State.{Flags, Permissions, State}
use Rattle.agreement.specs.X86.Step.{Goes, Goes.done, Goes.more, steps}

goes_steps : (undefined : State → Flags) (ok : Permissions) {s t : State} {n : ℕ} {ws : List ℕ}
    → Goes undefined ok s n ws t → steps undefined ok n s ≡ Some (t, ws)
unfolding steps
goes_steps undefined ok done = refl
goes_steps undefined ok (more e c r g p) = rw (g, goes_steps undefined ok p)

pub steps_alike : StepsAlike
unfolding StepsAlike
steps_alike undefined ok s t n ws g = goes_steps undefined ok g
