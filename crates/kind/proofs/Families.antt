-- The family of an opcode, tested at each class and funct3.
use Rattle.std.proofs.Common.{◌≡◌, refl, sym, ap, ◌∙◌, Bool, ℕ, ◌+◌, ◌*◌, ◌/◌, ◌^◌, ◌<◌, arith, T, eqb, eqb→eq}
use native.Mathlib.Nat.{zero-div}
use Rattle.agreement.specs.Riscv.Instruction.Instruction.{other}
use Rattle.agreement.specs.Riscv.Fields.{funct3, funct7}
use Rattle.agreement.specs.Translation.Kind.{kind, kind_of, kind_number}
use Rattle.agreement.proofs.Laws.Fields.{funct6_in_funct7}
use Rattle.agreement.proofs.Laws.Matches.{kind_is}
use Rattle.decode.specs.Decoded.{decoded}
use Rattle.decode.specs.declared.Decoded32.{Decoded32}
use Rattle.kind.specs.Numbered.{number_of}
use Rattle.kind.specs.Family.{FamilyOf, FamilyWithKind, class_of, entry}
use Rattle.kind.specs.declared.family.Family.{Family}
use Rattle.kind.proofs.Classes.{sample, by_class, class_small}
use Rattle.kind.proofs.Tested.{below, at}

abbrev right : ℕ → Family → ℕ → ℕ → Bool
right o n c f = eqb (number_of (entry n c f)) (kind_number (kind_of o f (sample c) (sample c / 2)))

-- 40 words of the opcode, one of each class and funct3
abbrev pub tested : ℕ → Family → Bool
tested o n = below 5 (λ (c : ℕ). below 8 (right o n c))

pub by_test : (o : ℕ) (n : Family) → T (tested o n) → FamilyOf o n
by_test o n t = record {
  says = λ f s h.
      let c : ℕ = class_of s in
      let tests : T (below 8 (right o n c)) = at 5 (λ (k : ℕ). below 8 (right o n k)) t c (class_small s) in
      eqb→eq (number_of (entry n c f)) (kind_number (kind_of o f (sample c) (sample c / 2))) (at 8 (right o n c) tests f h)
      ∙ ap kind_number (sym (by_class o f s));
}

pub with_kind_by_test : (o : ℕ) (n : Family) → 0 < number_of n.kind → T (tested o n) → FamilyWithKind o n
with_kind_by_test o n some t = record { family = by_test o n t; some = λ e. some }

-- an opcode that `kind_of` has no arm for, and a family that takes nothing
pub none : (o : ℕ) (n : Family) → n.taken ≡ 0 → ((f s : ℕ) → kind_of o f s (s / 2) ≡ other) → FamilyOf o n
none o n z h = record {
  says = λ f s small. rw (h f s, z, zero-div (2 ^ (8 * class_of s + f))) refl;
}

pub with_kind_none : (o : ℕ) (n : Family) → n.taken ≡ 0 → ((f s : ℕ) → kind_of o f s (s / 2) ≡ other) → FamilyWithKind o n
with_kind_none o n z h = record { family = none o n z h; some = λ e. absurd (e z) }

-- a word's kind is its family's at its place, c being the class of its funct7
pub entry_is : {d : Decoded32} {n : Family} {c : ℕ} (w : ℕ) → d ≡ decoded w → FamilyOf d.opcode n → c ≡ class_of d.funct7
    → number_of (entry n c d.funct3) ≡ kind_number (kind w)
entry_is w e family class =
    let small : funct3 w < 8 = omega arith in
    rw (kind_is w, ← (funct6_in_funct7 w), class, e) ((rw e at family).says (funct3 w) (funct7 w) small)
