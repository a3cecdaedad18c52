-- The answers of `translate`: document 01, "Replies". Each case has its number and values, as `numbered` of crate agreement
-- (Translation/Replies) gives them to the definition's replies.
use Rattle.std.specs.Prelude.{◌≡◌, List, [], ◌∷◌, ℕ, ◌≤◌, length, take, Result, Ok, Err}
use Rattle.agreement.specs.Translation.Replies.{numbered, output_after}
use Rattle.agreement.specs.Translation.Replies as Replies
use Rattle.emitter.specs.Written.{Wrote}
use Rattle.block.specs.declared.Block.{Block}
use Rattle.block.specs.declared.Refusal.{Refusal}
use Rattle.block.specs.declared.Refusal.TheVariants.{LimitZero, OddStart, Missing, NotTaken, OutputShort}

-- a block, or why there is none
abbrev pub Answer : Type 0
Answer = Result Block Refusal

abbrev pub answered : Answer → ℕ × List ℕ
answered (Ok b) = (0, b.length ∷ b.count ∷ b.span ∷ [])
answered (Err LimitZero) = (1, [])
answered (Err (OddStart start)) = (2, start ∷ [])
answered (Err (Missing index)) = (3, index ∷ [])
answered (Err (NotTaken word)) = (4, word ∷ [])
answered (Err OutputShort) = (5, [])

-- the answer, and every byte of the output afterwards, are the definition's
pub record Answers (reply : Replies.Reply) (before after : List ℕ) (r : Answer) : Type 0 where
  pub answers : answered r ≡ numbered reply
  pub leaves : after ≡ output_after reply before

abbrev pub Translates : ℕ → ℕ → List ℕ → ℕ → ℕ → List ℕ → List ℕ → Answer → Type 0
Translates start limit halfwords helper16 helper_mem before after r =
    Answers (Replies.translate start limit halfwords helper16 helper_mem (length before)) before after r

-- the length of a block counts bytes at the front of the output, so that a caller can lend them on. It follows from `Translates`.
abbrev pub Fits : Answer → List ℕ → Type 0
Fits (Ok b) after = (b.length ≤ length after) × (b.length ≡ length (take b.length after))
Fits (Err r) after = Unit

-- the block b was written at the front of the output
pub record Compiles (b : Replies.Block) (before after : List ℕ) (r : Block) : Type 0 where
  pub counts : r.count ≡ b.count
  pub spans : r.span ≡ b.span
  pub wrote : Wrote before 0 b.code after r.length
