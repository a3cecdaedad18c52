-- What a block may not write it leaves alone: of a site that nothing touches, the bytes of slot x0, those in front of the registers and
-- behind them, those around the stack that it uses, and those in it that it does not use.
use Rattle.std.proofs.Common.{Bool, false, true, ◌&&◌, not, List, [], ◌∷◌, ◌≡◌, refl, sym, ℕ, eqb}
use Rattle.agreement.specs.X86.Memory.{Memory}
use Rattle.agreement.specs.X86.Step.{all}
use Rattle.agreement.proofs.Checks.Sites.{both}
use Rattle.agreement.proofs.Checks.WitnessEntries.{not_written}

-- registers at 0x10000, the stack pointer at 0x30008: 1 below the registers, slot x0, behind slot x31; 65 below the stack pointer, the 8
-- bytes between the saved registers and the call's return address; the return address of the block itself
unfoldable pub addresses : List ℕ
addresses =
    0xFFFF ∷ 0x10000 ∷ 0x10001 ∷ 0x10002 ∷ 0x10003 ∷ 0x10004 ∷ 0x10005 ∷ 0x10006 ∷ 0x10007 ∷ 0x10100 ∷ 0x10107
    ∷ 0x2FFC7 ∷ 0x2FFD0 ∷ 0x2FFD1 ∷ 0x2FFD2 ∷ 0x2FFD3 ∷ 0x2FFD4 ∷ 0x2FFD5 ∷ 0x2FFD6 ∷ 0x2FFD7 ∷ 0x30008 ∷ 0x3000F ∷ []

unfoldable pub none : (ℕ → Bool) → List ℕ → Bool
none P [] = true
none P (x ∷ xs) = not (P x) && none P xs

-- each of these bytes as before, and none of them among those that were written
unfoldable pub Alone : List ℕ → Memory → Memory → List ℕ → Type 0
Alone [] m m' log = Unit
Alone (x ∷ xs) m m' log = (m' x ≡ m x) × (all (λ y. not (eqb y x)) log ≡ true) × Alone xs m m' log

not_true : (b : Bool) → not b ≡ true → b ≡ false
not_true false e = refl
not_true true e = sym e

pub alone : (P : ℕ → Bool) (xs : List ℕ) (m m' : Memory) (log : List ℕ) → none P xs ≡ true
    → ((x : ℕ) → P x ≡ false → m' x ≡ m x) → all P log ≡ true → Alone xs m m' log
unfolding none Alone
alone P [] m m' log n k l = tt
alone P (x ∷ xs) m m' log n k l =
    let p = both (not (P x)) (none P xs) n in
    let f : P x ≡ false = not_true (P x) p.0 in
    (k x f, not_written P x log f l, alone P xs m m' log p.1 k l)
