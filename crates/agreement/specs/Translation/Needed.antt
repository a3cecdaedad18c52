-- The halfwords that a translation looks at, for a caller that fetches them one by one: the next one only where the last calls for it.
use Rattle.std.specs.Prelude.{cond, List, [], ◌∷◌, ℕ, zero, suc, eqb, Option, None, Some}
use Rattle.std.specs.Int.Bits.{bit_and}
use Rattle.agreement.specs.Riscv.Instruction.{Instruction}
use Rattle.agreement.specs.Riscv.Instruction.Instruction.{other}
use Rattle.agreement.specs.Translation.Decode16.{expand}
use Rattle.agreement.specs.Translation.Decode32.{word_of}
use Rattle.agreement.specs.Translation.Kind.{kind, kind_number}

-- what a halfword is translated as; `other`: a helper executes it
abbrev pub halfword_kind : Option ℕ → Instruction
halfword_kind None = other
halfword_kind (Some w) = kind w

-- behind an instruction that is not straight none is needed
abbrev pub behind : Instruction → List ℕ → List ℕ
behind k hs = cond (eqb (kind_number k) 1) hs []

-- of at most n instructions
unfoldable pub needed : ℕ → List ℕ → List ℕ
needed zero hs = []
needed (suc n) [] = []
needed (suc n) (h ∷ []) = h ∷ []
needed (suc n) (h ∷ u ∷ hs) =
    cond (eqb (bit_and h 0x3) 0x3)
    (h ∷ u ∷ behind (kind (word_of h u)) (needed n hs))
    (h ∷ behind (halfword_kind (expand h)) (needed n (u ∷ hs)))
