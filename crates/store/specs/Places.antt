-- What placing answers and leaves, by the definitions of crate agreement (Translation/Place).
use Rattle.std.specs.Prelude.{◌≡◌, List, [], ◌∷◌, ℕ, length, Result, Ok, Err}
use Rattle.agreement.specs.Translation.Place.{place, placing_numbered, store_after, mark_after}
use Rattle.store.specs.declared.Placed.{Placed}
use Rattle.store.specs.declared.Refusal.{Refusal}
use Rattle.store.specs.declared.Refusal.TheVariants.{Beyond, Full}

-- the number of each refusal: document 01, "Replies"
abbrev pub number_of : Refusal → ℕ
number_of Beyond = 6
number_of Full = 7

-- the number and values of an answer, 0 where the code was placed
abbrev pub answered : Result Placed Refusal → ℕ × List ℕ
answered (Ok p) = (0, p.offset ∷ p.mark ∷ [])
answered (Err e) = (number_of e, [])

-- the answer, and every byte of the store afterwards, are the definition's
pub record Places (code : List ℕ) (used : ℕ) (before after : List ℕ) (r : Result Placed Refusal) : Type 0 where
  pub answers : answered r ≡ placing_numbered (place (length code) (length before) used)
  pub leaves : after ≡ store_after (place (length code) (length before) used) code before

-- and so is the mark afterwards
pub record Allocates (code : List ℕ) (used used' : ℕ) (before after : List ℕ) (r : Result Placed Refusal) : Type 0 where
  pub places : Places code used before after r
  pub moves : used' ≡ mark_after (place (length code) (length before) used) used
