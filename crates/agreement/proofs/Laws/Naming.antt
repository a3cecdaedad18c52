-- The translator's tests name a word as the manual's listing does where document 01 chooses that name, and else not at all.
use Rattle.std.proofs.Common.{Bool, cond, false, true, List, [], ◌∷◌, ◌∙◌, ◌≡◌, ap, refl, subst, sym, ◌<◌, suc, zero, ℕ, arith, eqb, eqb→eq}
use native.Mathlib.Decide.{ℕ_discrete}
use Rattle.agreement.specs.Laws.{TakenAlike}
use Rattle.agreement.specs.Riscv.Fields.{funct3, funct6, funct7, opcode}
use Rattle.agreement.specs.Riscv.Instruction.{Instruction, Row, find, find_in, listing, named, row, three_is, top_is}
use Rattle.agreement.specs.Riscv.Instruction.Instruction.{other}
use Rattle.agreement.specs.Riscv.Run.{chosen, taken}
use Rattle.agreement.specs.Translation.Kind.{Arm, kind, kind_branch, kind_fence, kind_load, kind_of, kind_op, kind_op32, kind_op_imm}
use Rattle.agreement.specs.Translation.Kind.{kind_op_imm32, kind_store, match}
use Rattle.agreement.proofs.Laws.Fields.{funct3_is, funct6_is, funct7_is, opcode_is}
use Rattle.agreement.proofs.Laws.Tests.{cond_same, eqb_no, of_true}

-- SYSTEM, of which no word is taken, and the opcodes in the order of the translator's match
abbrev opcodes : List ℕ
opcodes = 0x73 ∷ 0x37 ∷ 0x17 ∷ 0x6F ∷ 0x67 ∷ 0x63 ∷ 0x13 ∷ 0x1B ∷ 0x33 ∷ 0x3B ∷ 0x0F ∷ 0x03 ∷ 0x23 ∷ []

-- a name where it is chosen, and else none: `taken` is this of what the listing names
abbrev pub if_chosen : Instruction → Instruction
if_chosen i = cond (chosen i) i other

-- the listing, its rows renamed so
abbrev pub renamed : List Row → List Row
renamed [] = []
renamed (r ∷ rs) = row (if_chosen r.name) r.code r.three r.top ∷ renamed rs

abbrev pub rows : List Row
rows = renamed listing

-- 1. By opcode: a property that holds of each in a list, and where none of them is met, holds of all

unfoldable All : (ℕ → Type 0) → List ℕ → Type 0
All P [] = Unit
All P (x ∷ xs) = P x × All P xs

unfoldable Misses : ℕ → List ℕ → Type 0
Misses o [] = Unit
Misses o (x ∷ xs) = (eqb o x ≡ false) × Misses o xs

by_opcode : (P : ℕ → Type 0) (o : ℕ) (os : List ℕ) → All P os → (Misses o os → P o) → P o
unfolding All Misses
by_opcode P o [] h f = f tt
by_opcode P o (x ∷ xs) h f = go (ℕ_discrete o x) (by_opcode P o xs h.1)
  where
    go : Dec (o ≡ x) → ((Misses o xs → P o) → P o) → P o
    go (yes e) k = subst P (sym e) h.0
    go (no n) k = k (λ m. f (eqb_no o x n, m))

-- the eight values of funct3
pub eight : (P : ℕ → Type 0) → P 0 → P 1 → P 2 → P 3 → P 4 → P 5 → P 6 → P 7 → (f : ℕ) → f < 8 → P f
eight P a b c d e g h i zero l = a
eight P a b c d e g h i (suc zero) l = b
eight P a b c d e g h i (suc (suc zero)) l = c
eight P a b c d e g h i (suc (suc (suc zero))) l = d
eight P a b c d e g h i (suc (suc (suc (suc zero)))) l = e
eight P a b c d e g h i (suc (suc (suc (suc (suc zero))))) l = g
eight P a b c d e g h i (suc (suc (suc (suc (suc (suc zero)))))) l = h
eight P a b c d e g h i (suc (suc (suc (suc (suc (suc (suc zero))))))) l = i
eight P a b c d e g h i (suc (suc (suc (suc (suc (suc (suc (suc f)))))))) l = absurd (omega arith)

-- 2. An opcode that no row has

unfoldable member : ℕ → List ℕ → Bool
member x [] = false
member x (y ∷ ys) = elim (eqb x y) [ true ↦ true | false ↦ member x ys ]

unfoldable covered : List Row → Bool
covered [] = true
covered (r ∷ rs) = elim (member r.code opcodes) [ true ↦ covered rs | false ↦ false ]

false_true : false ≡ true → ⊥
false_true e = let z : ◌≡◌ {A = ℕ} 0 1 = cc in omega arith

misses_member : (o x : ℕ) (ys : List ℕ) → Misses o ys → member x ys ≡ true → eqb o x ≡ false
unfolding Misses member
misses_member o x [] m e = absurd (false_true e)
misses_member o x (y ∷ ys) m e = go (eqb x y) refl (misses_member o x ys m.1) e
  where
    go : (t : Bool) → eqb x y ≡ t → (member x ys ≡ true → eqb o x ≡ false) → elim t [ true ↦ true | false ↦ member x ys ] ≡ true
        → eqb o x ≡ false
    go true q k e = let z : x ≡ y = eqb→eq x y (of_true (eqb x y) q) in rw z m.0
    go false q k e = k e

missed : (o f s t w : ℕ) (rs : List Row) → covered rs ≡ true → Misses o opcodes → find o f s t w rs ≡ other
unfolding find covered
missed o f s t w [] c m = refl
missed o f s t w (r ∷ rs) c m = go (member r.code opcodes) refl c (λ c. missed o f s t w rs c m)
  where
    go : (b : Bool) → member r.code opcodes ≡ b → elim b [ true ↦ covered rs | false ↦ false ] ≡ true
        → (covered rs ≡ true → find o f s t w rs ≡ other) → find o f s t w (r ∷ rs) ≡ other
    go true e c k = rw (misses_member o r.code opcodes m e) (k c)
    go false e c k = absurd (false_true c)

rows_covered : covered rows ≡ true
unfolding covered member
rows_covered = refl

abbrev patterns : List Arm → List ℕ
patterns [] = []
patterns (a ∷ arms) = a.pattern ∷ patterns arms

match_missed : (o : ℕ) (arms : List Arm) → Misses o (patterns arms) → match o arms ≡ other
unfolding Misses match
match_missed o [] m = refl
match_missed o (a ∷ arms) m = rw m.0 (match_missed o arms m.1)

kind_missed : (o f s t : ℕ) → Misses o opcodes → kind_of o f s t ≡ other
unfolding kind_of Misses
kind_missed o f s t m = match_missed o _ m.1

-- 3. The tests are the renamed listing

abbrev Same : ℕ → ℕ → ℕ → ℕ → ℕ → Type 0
Same o s t w f = kind_of o f s t ≡ find o f s t w rows

-- ECALL and EBREAK, which are told by the whole word
unchosen : (a b : Bool) → other ≡ cond a other (cond b other other)
unchosen a b = sym (ap (cond a other) (cond_same b other) ∙ cond_same a other)

unfoldable Alike : ℕ → Type 0
Alike o = (s t w f : ℕ) → f < 8 → Same o s t w f

alikes : All Alike opcodes
unfolding
    All Alike kind_of match kind_op kind_op32 kind_op_imm kind_op_imm32 kind_branch kind_load kind_store kind_fence find three_is top_is
alikes = (
  (λ s t w. eight (Same 0x73 s t w) (unchosen (eqb w 0x00000073) (eqb w 0x00100073)) refl refl refl refl refl refl refl),
  (
    (λ s t w. eight (Same 0x37 s t w) refl refl refl refl refl refl refl refl),
    (
      (λ s t w. eight (Same 0x17 s t w) refl refl refl refl refl refl refl refl),
      (
        (λ s t w. eight (Same 0x6F s t w) refl refl refl refl refl refl refl refl),
        (
          (λ s t w. eight (Same 0x67 s t w) refl refl refl refl refl refl refl refl),
          (
            (λ s t w. eight (Same 0x63 s t w) refl refl refl refl refl refl refl refl),
            (
              (λ s t w. eight (Same 0x13 s t w) refl refl refl refl refl refl refl refl),
              (
                (λ s t w. eight (Same 0x1B s t w) refl refl refl refl refl refl refl refl),
                (
                  (λ s t w. eight (Same 0x33 s t w) refl refl refl refl refl refl refl refl),
                  (
                    (λ s t w. eight (Same 0x3B s t w) refl refl refl refl refl refl refl refl),
                    (
                      (λ s t w. eight (Same 0x0F s t w) refl refl refl refl refl refl refl refl),
                      (
                        (λ s t w. eight (Same 0x03 s t w) refl refl refl refl refl refl refl refl),
                        (
                          (λ s t w. eight (Same 0x23 s t w) refl refl refl refl refl refl refl refl),
                          tt,
                        ),
                      ),
                    ),
                  ),
                ),
              ),
            ),
          ),
        ),
      ),
    ),
  ),
)

alike_all : (o : ℕ) → Alike o
alike_all o = by_opcode Alike o opcodes alikes (λ m. none m)
  where
    none : Misses o opcodes → Alike o
    none m = unfold Alike in λ s t w f l. kind_missed o f s t m ∙ sym (missed o f s t w rows rows_covered m)

-- 4. Renaming the rows renames what is found

if_chosen_cond : (c : Bool) (x y : Instruction) → if_chosen (cond c x y) ≡ cond c (if_chosen x) (if_chosen y)
if_chosen_cond true x y = refl
if_chosen_cond false x y = refl

pub find_renamed : (o f s t w : ℕ) (rs : List Row) → if_chosen (find o f s t w rs) ≡ find o f s t w (renamed rs)
unfolding find
find_renamed o f s t w [] = refl
find_renamed o f s t w (r ∷ rs) =
    if_chosen_cond _ r.name (find o f s t w rs) ∙ ap (cond _ (if_chosen r.name)) (find_renamed o f s t w rs)

pub kind_is : (w : ℕ) → kind w ≡ taken w
unfolding kind taken named find_in
kind_is w =
    rw (opcode_is w, funct3_is w, funct7_is w, funct6_is w)
    (at (alike_all (opcode w)) ∙ sym (find_renamed (opcode w) (funct3 w) (funct7 w) (funct6 w) w listing))
  where
    at : Alike (opcode w) → Same (opcode w) (funct7 w) (funct6 w) w (funct3 w)
    at h = unfold Alike in h (funct7 w) (funct6 w) w (funct3 w) (omega arith)

pub taken_alike : TakenAlike
unfolding TakenAlike
taken_alike = kind_is
