-- What the exported functions reply: document 01's number and values as a record of four numbers.
use Rattle.std.specs.Prelude.{◌≡◌, List, [], ◌∷◌, ℕ, zero, suc, length, Option, None, Some}
use Rattle.agreement.specs.Translation.Replies.{translate, numbered, output_after}
use Rattle.agreement.specs.Translation.Place.{place, placing_numbered, store_after}
use Rattle.capi.specs.declared.Reply.{Reply}

-- the word, 0 where there is none
abbrev pub or_0 : Option ℕ → ℕ
or_0 None = 0
or_0 (Some w) = w

-- the value of that index, 0 where there are fewer
abbrev pub value : ℕ → List ℕ → ℕ
value n [] = 0
value zero (v ∷ vs) = v
value (suc n) (v ∷ vs) = value n vs

abbrev pub padded : ℕ × List ℕ → Reply
padded p = record { number = p.0; first = value 0 p.1; second = value 1 p.1; third = value 2 p.1 }

-- the reply, and every byte of the output afterwards, are the definition's
pub record Replies (start limit : ℕ) (halfwords : List ℕ) (helper16 helper_mem : ℕ) (before after : List ℕ) (r : Reply) : Type 0 where
  pub replies : r ≡ padded (numbered (translate start limit halfwords helper16 helper_mem (length before)))
  pub leaves : after ≡ output_after (translate start limit halfwords helper16 helper_mem (length before)) before

-- and of the store
pub record RepliesToPlacing (code : List ℕ) (used : ℕ) (before after : List ℕ) (r : Reply) : Type 0 where
  pub replies : r ≡ padded (placing_numbered (place (length code) (length before) used))
  pub leaves : after ≡ store_after (place (length code) (length before) used) code before
