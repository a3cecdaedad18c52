-- What a translation needs, worked out by hand from the fetches of the Rust's loop. That it needs no more is a theorem (Laws/Needed); of
-- the whole run that would hold too.
use Rattle.std.proofs.Common.{◌≡◌, refl, Bool, true, ◌&&◌, List, [], ◌∷◌, ℕ, take}
use Rattle.agreement.specs.Translation.Needed.{needed}
use Rattle.agreement.specs.Cases.{equal}
use Rattle.agreement.proofs.Checks.CasesHold.{translations, tests}

-- of at most `limit` instructions the first `number` halfwords are needed
pub record Run : Type 0 where
  pub limit : ℕ
  pub number : ℕ
  pub halfwords : List ℕ

abbrev run : ℕ → ℕ → List ℕ → Run
run n k hs = record { limit = n; number = k; halfwords = hs }

unfoldable every : List Run → Bool
every [] = true
every (r ∷ rs) = equal (needed r.limit r.halfwords) (take r.number r.halfwords) && every rs

-- behind ADDI stand JAL, BNE, LD, SD, OP with funct7 0x20 and funct3 4, MULH with JAL, C.LW, C.NOP with JAL, C.J, FENCE with JAL, and
-- FENCE.I; C.EBREAK first; FENCE.I first; then the limit; then runs that end
unfoldable runs : List Run
runs =
    run 64 4 (0x0093 ∷ 0x0050 ∷ 0x006F ∷ 0x0000 ∷ 0x0093 ∷ 0x0050 ∷ [])
    ∷ run 64 4 (0x0093 ∷ 0x0050 ∷ 0x9CE3 ∷ 0xFE20 ∷ 0x0093 ∷ 0x0050 ∷ [])
    ∷ run 64 4 (0x0093 ∷ 0x0050 ∷ 0xB083 ∷ 0x0000 ∷ 0x0093 ∷ 0x0050 ∷ [])
    ∷ run 64 4 (0x0093 ∷ 0x0050 ∷ 0x3023 ∷ 0x0000 ∷ 0x0093 ∷ 0x0050 ∷ [])
    ∷ run 64 4 (0x0093 ∷ 0x0050 ∷ 0xC1B3 ∷ 0x4020 ∷ 0x0093 ∷ 0x0050 ∷ [])
    ∷ run 64 6 (0x0093 ∷ 0x0050 ∷ 0x91B3 ∷ 0x0220 ∷ 0x006F ∷ 0x0000 ∷ 0x0093 ∷ [])
    ∷ run 64 3 (0x0093 ∷ 0x0050 ∷ 0x4108 ∷ 0x0093 ∷ 0x0050 ∷ [])
    ∷ run 64 5 (0x0093 ∷ 0x0050 ∷ 0x0001 ∷ 0x006F ∷ 0x0000 ∷ 0x0093 ∷ [])
    ∷ run 64 3 (0x0093 ∷ 0x0050 ∷ 0xA001 ∷ 0x0093 ∷ 0x0050 ∷ [])
    ∷ run 64 1 (0x9002 ∷ 0x0093 ∷ 0x0050 ∷ [])
    ∷ run 64 6 (0x0093 ∷ 0x0050 ∷ 0x000F ∷ 0x0000 ∷ 0x006F ∷ 0x0000 ∷ 0x0093 ∷ [])
    ∷ run 64 4 (0x0093 ∷ 0x0050 ∷ 0x100F ∷ 0x0000 ∷ 0x0093 ∷ 0x0050 ∷ [])
    ∷ run 64 2 (0x108F ∷ 0x0000 ∷ 0x0093 ∷ 0x0050 ∷ [])
    ∷ run 0 0 (0x0093 ∷ 0x0050 ∷ [])
    ∷ run 1 2 (0x0093 ∷ 0x0050 ∷ 0x0093 ∷ 0x0050 ∷ [])
    ∷ run 2 4 (0x0093 ∷ 0x0050 ∷ 0x0093 ∷ 0x0050 ∷ 0x0093 ∷ [])
    ∷ run 2 3 (0x0001 ∷ 0x0093 ∷ 0x0050 ∷ 0x0001 ∷ [])
    ∷ run 64 3 (0x0093 ∷ 0x0050 ∷ 0x0093 ∷ [])
    ∷ run 64 2 (0x0001 ∷ 0x0093 ∷ [])
    ∷ run 64 0 [] ∷ []

runs_hold : every runs ≡ true
unfolding needed translations tests every runs
runs_hold = refl
