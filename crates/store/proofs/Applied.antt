-- What the contracts say of ten bytes behind a mark of 5: where they fit exactly, where one is too many, and where the mark is beyond the
-- store.
use Rattle.std.specs.Prelude.{Result}
use Rattle.std.proofs.Common.{◌≡◌, refl, ap, ◌∙◌, List, [], ◌∷◌, ◌++◌, ℕ, length, take, drop}
use Rattle.agreement.specs.Translation.Place as Definition
use Rattle.agreement.specs.Translation.Place.{place, placing_numbered, store_after, mark_after}
use Rattle.agreement.specs.Translation.Place.Placing.{placed, beyond, full}
use Rattle.store.specs.Places.{Allocates, answered}
use Rattle.store.specs.declared.Placed.{Placed}
use Rattle.store.specs.declared.Refusal.{Refusal}

module _ (code before after : List ℕ) (used' : ℕ) (r : Result Placed Refusal) (c : length code ≡ 10)
    (h : Allocates code 5 used' before after r) where
  fits : length before ≡ 18
      → (answered r ≡ (0, 8 ∷ 18 ∷ [])) × (used' ≡ 18) × (after ≡ take 8 before ++ (code ++ drop 18 before))
  unfolding place placing_numbered store_after mark_after
  fits b =
      let p : place (length code) (length before) 5 ≡ placed 8 18 = rw (c, b) refl in (
        h.places.answers ∙ ap placing_numbered p,
        h.moves ∙ ap (λ (q : Definition.Placing). mark_after q 5) p,
        h.places.leaves ∙ ap (λ (q : Definition.Placing). store_after q code before) p,
      )

  too_many : length before ≡ 17 → (answered r ≡ (7, [])) × (used' ≡ 5) × (after ≡ before)
  unfolding place placing_numbered store_after mark_after
  too_many b =
      let p : place (length code) (length before) 5 ≡ full = rw (c, b) refl in (
        h.places.answers ∙ ap placing_numbered p,
        h.moves ∙ ap (λ (q : Definition.Placing). mark_after q 5) p,
        h.places.leaves ∙ ap (λ (q : Definition.Placing). store_after q code before) p,
      )

  mark_beyond : length before ≡ 4 → (answered r ≡ (6, [])) × (used' ≡ 5) × (after ≡ before)
  unfolding place placing_numbered store_after mark_after
  mark_beyond b =
      let p : place (length code) (length before) 5 ≡ beyond = rw (c, b) refl in (
        h.places.answers ∙ ap placing_numbered p,
        h.moves ∙ ap (λ (q : Definition.Placing). mark_after q 5) p,
        h.places.leaves ∙ ap (λ (q : Definition.Placing). store_after q code before) p,
      )
