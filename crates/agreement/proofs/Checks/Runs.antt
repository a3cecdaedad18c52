-- Runs of a code, by computing: around the end of the address space, up to what was fetched, up to what is missing.
use Rattle.std.proofs.Common.{cond, [], ◌∷◌, ◌≡◌, refl, eqb}
use Rattle.std.specs.Prelude.{None, Some}
use Rattle.agreement.specs.Riscv.Code.{Code, run_at}

-- halfwords at 2^64 - 4, 2^64 - 2, 0, 2, 3 and 6, where the number has more than 16 bits, and none elsewhere
abbrev around : Code
around x =
    cond (eqb x 0xFFFFFFFFFFFFFFFC) (Some 0x100F) (cond (eqb x 0xFFFFFFFFFFFFFFFE) (Some 0x0000)
    (cond (eqb x 0) (Some 0x0093) (cond (eqb x 2) (Some 0x0050) (cond (eqb x 3) (Some 0x0001) (cond (eqb x 6) (Some 0x50002) None)))))

-- on from 2^64 - 1 to 0; no further than was fetched; up to the first halfword that is missing; at an odd address; the low 16 bits; nowhere
runs_wrap : run_at around 0xFFFFFFFFFFFFFFFC 4 ≡ 0x100F ∷ 0x0000 ∷ 0x0093 ∷ 0x0050 ∷ []
unfolding run_at
runs_wrap = refl

runs_reach : run_at around 0xFFFFFFFFFFFFFFFC 3 ≡ 0x100F ∷ 0x0000 ∷ 0x0093 ∷ []
unfolding run_at
runs_reach = refl

runs_end : run_at around 0xFFFFFFFFFFFFFFFE 64 ≡ 0x0000 ∷ 0x0093 ∷ 0x0050 ∷ []
unfolding run_at
runs_end = refl

runs_odd : run_at around 3 64 ≡ 0x0001 ∷ []
unfolding run_at
runs_odd = refl

runs_halfwords : run_at around 6 64 ≡ 0x0002 ∷ []
unfolding run_at
runs_halfwords = refl

runs_nowhere : run_at around 4 64 ≡ []
unfolding run_at
runs_nowhere = refl
