-- What a block's reply leaves in the output.
use Rattle.std.proofs.Common.{List, [], ◌++◌, ◌∷◌, ◌∙◌, ◌≡◌, ap, refl, ℕ, arith, drop, length, length-append, length-drop, take}
use Rattle.agreement.specs.Laws.{OutputsBlock}
use Rattle.agreement.specs.Translation.Replies.{output_after}

take-front : (xs ys : List ℕ) → take (length xs) (xs ++ ys) ≡ xs
take-front [] ys = refl
take-front (x ∷ xs) ys = ap (λ (l : List ℕ). x ∷ l) (take-front xs ys)

drop-front : (xs ys : List ℕ) → drop (length xs) (xs ++ ys) ≡ ys
drop-front [] ys = refl
drop-front (x ∷ xs) ys = drop-front xs ys

pub outputs_block : OutputsBlock
unfolding OutputsBlock output_after
outputs_block b output h = record {
  front = take-front b.code (drop (length b.code) output);
  rest = drop-front b.code (drop (length b.code) output);
  long = length-append b.code (drop (length b.code) output) ∙ rw (length-drop (length b.code) output) (omega arith);
}
