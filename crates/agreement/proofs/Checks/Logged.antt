-- The log of an entry holds every address that the block's own steps write: what it does not hold is as before, up to the helper and
-- behind it.
use Rattle.std.proofs.Common.{Bool, false, true, ◌++◌, ◌≡◌, ◌∙◌, ℕ}
use Rattle.std.specs.Prelude.{Option, None, Some}
use Rattle.agreement.specs.Statement.Machine.{Call, Turn, Visit, Went}
use Rattle.agreement.specs.Statement.Machine.Went.{helped, plainly}
use Rattle.agreement.specs.X86.State.{State}
use Rattle.agreement.specs.X86.Step.{all}
use Rattle.agreement.proofs.Host.Straight.{all_left, all_right, step_unlogged, unlogged}

-- P: a test that the log passes; x: an address that does not
unfoldable pub AsBefore : Turn → State → Visit → ℕ → Option Call → Type 0
AsBefore t s v x None = v.exit.mem x ≡ s.mem x
AsBefore t s v x (Some c) = (c.inside.mem x ≡ s.mem x) × (v.exit.mem x ≡ c.back.mem x)

pub unlogged_kept : (t : Turn) {s : State} {v : Visit} (P : ℕ → Bool) (x : ℕ) → Went t s v → all P v.log ≡ true → P x ≡ false
    → AsBefore t s v x v.call
unfolding AsBefore
unlogged_kept t P x (plainly {ws = ws} {xs = xs} g b) h e =
    step_unlogged t.undefined t.ok P _ _ xs x b.does (all_right P ws xs h) e ∙ unlogged t.undefined t.ok P x g (all_left P ws xs h) e
unlogged_kept t P x (helped {ws = ws} {xs = xs} {ys = ys} {zs = zs} g b k d) h e =
    let l = all_left P (ws ++ xs) (ys ++ zs) h in
    let r = all_right P (ws ++ xs) (ys ++ zs) h in (
      step_unlogged t.undefined t.ok P _ _ xs x b.does (all_right P ws xs l) e ∙ unlogged t.undefined t.ok P x g (all_left P ws xs l) e,
      step_unlogged t.undefined t.ok P _ _ zs x d.does (all_right P ys zs r) e ∙ unlogged t.undefined t.ok P x k (all_left P ys zs r) e,
    )
