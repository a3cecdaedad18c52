-- The test of the first word (crate agreement, Translation/Replies) by what stands at the front of the run, and by the word's kind.
use Rattle.std.proofs.Common.{◌≡◌, refl, ap, ◌∙◌, Bool, true, false, cond, List, [], ◌∷◌, ℕ, bit_and, eqb, Result, Ok, Err, ◌⊎◌, inl, inr}
use Rattle.agreement.specs.Translation.Decode32.{word_of}
use Rattle.agreement.specs.Translation.Kind.{kind, kind_number}
use Rattle.agreement.specs.Translation.Replies.{First, First.begins, First.lacks, First.untaken, first, first_word}
use Rattle.kind.specs.Numbered.{number_of}
use Rattle.kind.specs.declared.WordKind.{WordKind}
use Rattle.kind.specs.declared.WordKind.TheVariants.{NotTaken, Straight, Ending, MemoryHelper}
use Rattle.walk.specs.Fetch.{missing, fetched}
use Rattle.walk.specs.declared.fetch.Fetched.{Fetched}
use Rattle.walk.specs.declared.fetch.Fetched.TheVariants.{Half, Word}
use Rattle.walk.specs.declared.fetch.Missing.{Missing}

abbrev pub by_fetched : Result Fetched Missing → First
by_fetched (Err m) = lacks m.index
by_fetched (Ok (Half h)) = begins
by_fetched (Ok (Word w)) = first_word (kind w) w

pub first_is : (hs : List ℕ) {f : Result Fetched Missing} → f ≡ fetched hs → by_fetched f ≡ first hs
unfolding first
first_is [] e = ap by_fetched e
first_is (h ∷ []) e = ap by_fetched e ∙ go (eqb (bit_and h 0x3) 0x3)
  where
    go : (t : Bool) → by_fetched (cond t (missing 1) (Ok (Half h))) ≡ elim t [ true ↦ lacks 1 | false ↦ begins ]
    go true = refl
    go false = refl
first_is (h ∷ u ∷ hs) e = ap by_fetched e ∙ go (eqb (bit_and h 0x3) 0x3)
  where
    w : ℕ
    w = word_of h u

    go : (t : Bool) → by_fetched (cond t (Ok (Word w)) (Ok (Half h))) ≡ elim t [ true ↦ first_word (kind w) w | false ↦ begins ]
    go true = refl
    go false = refl

abbrev pub by_kind : WordKind → ℕ → First
by_kind NotTaken w = untaken w
by_kind Straight w = begins
by_kind Ending w = begins
by_kind MemoryHelper w = begins

pub word_first : (k : WordKind) (w : ℕ) → number_of k ≡ kind_number (kind w) → by_kind k w ≡ first_word (kind w) w
unfolding first_word
word_first NotTaken w e = ap (λ (n : ℕ). cond (eqb n 0) (untaken w) begins) e
word_first Straight w e = ap (λ (n : ℕ). cond (eqb n 0) (untaken w) begins) e
word_first Ending w e = ap (λ (n : ℕ). cond (eqb n 0) (untaken w) begins) e
word_first MemoryHelper w e = ap (λ (n : ℕ). cond (eqb n 0) (untaken w) begins) e

pub begun : (k : WordKind) (w : ℕ) → (k ≡ Straight) ⊎ ((k ≡ Ending) ⊎ (k ≡ MemoryHelper)) → by_kind k w ≡ begins
begun k w (inl e) = rw e refl
begun k w (inr (inl e)) = rw e refl
begun k w (inr (inr e)) = rw e refl
