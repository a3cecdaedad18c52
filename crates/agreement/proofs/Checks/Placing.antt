-- Placing, and what a refusal leaves: further vectors of the definitions.
use Rattle.std.proofs.Common.{◌&&◌, true, List, [], ◌∷◌, ◌≡◌, refl, ℕ, eqb}
use Rattle.agreement.specs.Cases.{Case, Case.placing, equal, every, holds}
use Rattle.agreement.specs.Translation.Place.{Placing.beyond, Placing.full, mark_after, place, placing_numbered, store_after}
use Rattle.agreement.specs.Translation.Replies.{Refusal, Reply.refusal, output_after}

-- up to a multiple of 4 and no further; nothing to place; used 5, store 5, empty code: 8 is past 5; used beyond the store
placings : List Case
placings =
    placing 0 0 0 0 (0 ∷ 0 ∷ [])
    ∷ placing 4 1 5 0 (4 ∷ 5 ∷ [])
    ∷ placing 9 67 79 0 (12 ∷ 79 ∷ [])
    ∷ placing 9 67 78 7 []
    ∷ placing 5 0 5 7 []
    ∷ placing 5 0 4 6 [] ∷ []

placings_hold : every placings ≡ true
unfolding placings every holds equal placing_numbered place
placings_hold = refl

-- used 1, two bytes of code, a store of eight: the bytes at 4, the mark 6
store : List ℕ
store = 10 ∷ 11 ∷ 12 ∷ 13 ∷ 14 ∷ 15 ∷ 16 ∷ 17 ∷ []

stored : equal (store_after (place 2 8 1) (0xAA ∷ 0xBB ∷ []) store) (10 ∷ 11 ∷ 12 ∷ 13 ∷ 0xAA ∷ 0xBB ∷ 16 ∷ 17 ∷ [])
    && eqb (mark_after (place 2 8 1) 1) 6 ≡ true
unfolding store equal store_after mark_after place
stored = refl

-- a number: store and mark, or the output, as before
store_kept : (code store : List ℕ) → (store_after beyond code store ≡ store) × (store_after full code store ≡ store)
unfolding store_after
store_kept code store = (refl, refl)

mark_kept : (old : ℕ) → (mark_after beyond old ≡ old) × (mark_after full old ≡ old)
unfolding mark_after
mark_kept old = (refl, refl)

output_kept : (r : Refusal) (out : List ℕ) → output_after (refusal r) out ≡ out
unfolding output_after
output_kept r out = refl
