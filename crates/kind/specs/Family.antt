-- The words of one opcode, and what a family says of them.
use Rattle.std.specs.Prelude.{◌≡◌, ◌≢◌, cond, ℕ, ◌+◌, ◌*◌, ◌/◌, ◌%◌, ◌^◌, ◌<◌, eqb}
use Rattle.agreement.specs.Translation.Kind.{kind_of, kind_number}
use Rattle.kind.specs.declared.WordKind.{WordKind}
use Rattle.kind.specs.declared.WordKind.TheVariants.{NotTaken, Ending}
use Rattle.kind.specs.declared.family.Family.{Family}
use Rattle.kind.specs.Numbered.{number_of}

-- the classes of funct7, as document 02 has them at Q-9
abbrev pub class_of : ℕ → ℕ
class_of s = cond (eqb s 0x00) 0 (cond (eqb s 0x01) 1 (cond (eqb s 0x20) 2 (cond (eqb s 0x21) 3 4)))

-- the kind of the family's words with funct3 f: where bit f of `ending` is set they end the block
abbrev pub kind_at : Family → ℕ → WordKind
kind_at n f = cond (eqb (n.ending / 2 ^ f % 2) 1) Ending n.kind

-- bit 8 c + f of `taken` says whether a word of class c and funct3 f is taken
abbrev pub entry : Family → ℕ → ℕ → WordKind
entry n c f = cond (eqb (n.taken / 2 ^ (8 * c + f) % 2) 1) (kind_at n f) NotTaken

-- the family says of every word of the opcode what `kind` does, imm_hi being all of funct7 but its lowest bit
pub record FamilyOf (o : ℕ) (n : Family) : Type 0 where
  pub says : (f s : ℕ) → f < 8 → number_of (entry n (class_of s) f) ≡ kind_number (kind_of o f s (s / 2))

-- the same, and a family that takes words has a kind for them
pub record FamilyWithKind (o : ℕ) (n : Family) : Type 0 where
  pub family : FamilyOf o n
  pub some : n.taken ≢ 0 → 0 < number_of n.kind
