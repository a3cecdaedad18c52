-- The matches of Translation/Kind: what holds of every arm holds of the match; where no arm fits; the match on the manual's fields.
use Rattle.std.proofs.Common.{◌≡◌, refl, ◌≢◌, Bool, true, false, cond, List, [], ◌∷◌, ℕ, eqb}
use native.Mathlib.Decide.{ℕ_discrete}
use Rattle.agreement.specs.Riscv.Instruction.{Instruction, Instruction.other}
use Rattle.agreement.specs.Riscv.Fields.{opcode, funct3, funct7, funct6}
use Rattle.agreement.specs.Translation.Kind.{Arm, match, kind, kind_of}
use Rattle.agreement.proofs.Laws.Fields.{opcode_is, funct3_is, funct7_is, funct6_is}
use Rattle.agreement.proofs.Laws.Tests.{eqb_no}

-- of each value, and of `other` where no arm fits
unfoldable pub Each : (Instruction → Type 0) → List Arm → Type 0
Each P [] = P other
Each P (a ∷ arms) = P a.value × Each P arms

pub each : (P : Instruction → Type 0) (n : ℕ) (arms : List Arm) → Each P arms → P (match n arms)
unfolding Each match
each P n [] h = h
each P n (a ∷ arms) h = go (eqb n a.pattern) (each P n arms h.1)
  where
    go : (t : Bool) → P (match n arms) → P (cond t a.value (match n arms))
    go true r = h.0
    go false r = r

-- the number is no arm's pattern, as the last arm of a match in the code knows it
abbrev pub Missed : Type 0 → ℕ → List Arm → Type 0
Missed T n [] = T
Missed T n (a ∷ arms) = Missed (T × (n ≢ a.pattern)) n arms

pub missed : (n : ℕ) (arms : List Arm) → Missed Unit n arms → match n arms ≡ other
unfolding match
missed n arms h = (go Unit arms h).1
  where
    go : (T : Type 0) (arms : List Arm) → Missed T n arms → T × (match n arms ≡ other)
    go T [] h = (h, refl)
    go T (a ∷ arms) h =
        let r = go (T × (n ≢ a.pattern)) arms h in
        (r.0.0, rw (eqb_no n a.pattern r.0.1) r.1)

-- a number is another, or not
pub decide : {A : Type 0} (o k : ℕ) → (o ≡ k → A) → (o ≢ k → A) → A
decide {A = A} o k y n = go (ℕ_discrete o k)
  where
    go : Dec (o ≡ k) → A
    go (yes e) = y e
    go (no e) = n e

-- the kind by the manual's fields
pub kind_is : (w : ℕ) → kind w ≡ kind_of (opcode w) (funct3 w) (funct7 w) (funct6 w)
unfolding kind
kind_is w = rw (opcode_is w, funct3_is w, funct7_is w, funct6_is w) refl
