-- What holds of each kind of leftover holds of what a word that is not taken leaves.
use Rattle.std.proofs.Common.{Bool, cond, false, true, List, [], ◌∷◌, ℕ, eqb}
use Rattle.agreement.specs.Translation.Emit.{compare, leftover, load_reg}
use Rattle.agreement.specs.X86.Form.{Instr, R10, R11}

either : (P : List Instr → Type 0) (c : Bool) (is js : List Instr) → P is → P js → P (cond c is js)
either P true is js p q = p
either P false is js p q = q

pub leftover_by : (P : List Instr → Type 0) (o r q : ℕ)
    → P (compare r q) → P (load_reg R10 r ∷ load_reg R11 q ∷ []) → P (load_reg R10 r ∷ []) → P [] → P (leftover o r q)
unfolding leftover
leftover_by P o r q three two one none =
    either P (eqb o 0x63) _ _ three (either P (eqb o 0x33) _ _ two (either P (eqb o 0x3B) _ _ two
    (either P (eqb o 0x13) _ _ one (either P (eqb o 0x1B) _ _ one none))))
