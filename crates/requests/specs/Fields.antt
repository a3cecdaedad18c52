-- The numbers of a request line: digits up to a space or the line's end, of 64 bits at most.
use Rattle.std.specs.Prelude.{◌≡◌, cond, ◌&&◌, List, [], ◌∷◌, ℕ, ◌+◌, ◌*◌, ◌-◌, ◌^◌, ltb, leb, eqb, length, drop, Option, Some, None}
use Rattle.std.specs.Prelude.{option_and_then, option_map}
use Rattle.std.specs.List.{starts_with}
use Rattle.requests.specs.declared.fields.Fields.{Fields}

-- ASCII: 0 to 9, A to F, a to f; 16 for any other byte
unfoldable pub digit_of : ℕ → ℕ
digit_of b =
    cond (ltb b 48) 16
    (cond (ltb b 58) (b - 48)
    (cond (ltb b 65) 16
    (cond (ltb b 71) (b - 55)
    (cond (ltb b 97) 16
    (cond (ltb b 103) (b - 87) 16)))))

-- what stands at a place of the line, and the place behind it
pub record Field (A : Type 0) : Type 0 where
  pub value : A
  pub next : ℕ

-- the code reads what a definition gives at its place, and is then behind it
pub record Passes {A : Type 0} (definition : List ℕ → ℕ → Option (Field A)) (before after : Fields) (r : Option A) : Type 0 where
  pub field : option_map (λ v. record { value = v; next = after.at }) r ≡ definition before.line.now before.at
  pub line : after.line ≡ before.line

infixl 10 ◌>>=◌
abbrev pub ◌>>=◌ : {A B : Type 0} → Option A → (A → Option B) → Option B
o >>= f = option_and_then f o

-- a number ends before the place `at`; there is none where it starts there
abbrev pub ends : (from value at : ℕ) → Option (Field ℕ)
ends from value at = cond (ltb from at) (Some (record { value = value; next = at })) None

-- the rest of the line from the place `at` on, behind digits from `from` on whose value is `value`; where a digit is one too many
-- there is no number
unfoldable pub digits : (base from value at : ℕ) → List ℕ → Option (Field ℕ)
digits base from value at [] = ends from value at
digits base from value at (b ∷ rest) =
    cond (ltb (digit_of b) base)
    (cond (ltb (value * base + digit_of b) (2 ^ 64)) (digits base from (value * base + digit_of b) (at + 1) rest) None)
    (ends from value at)

unfoldable pub number_at : (base : ℕ) → List ℕ → (from : ℕ) → Option (Field ℕ)
number_at base line from = digits base from 0 from (drop from line)

-- the word, where it stands at the place `at` of the line
unfoldable pub word_at : (word line : List ℕ) → (at : ℕ) → Option (Field (Unit {0}))
word_at word line at =
    cond (leb at (length line) && starts_with eqb (drop at line) word) (Some (record { value = tt; next = at + length word })) None

-- a space and a number
unfoldable pub next_number : (base : ℕ) → List ℕ → (at : ℕ) → Option (Field ℕ)
next_number base line at = do
  space ← word_at (32 ∷ []) line at
  number_at base line space.next

-- the same in decimal; one above `greatest` is no number
unfoldable pub next_at_most : (greatest : ℕ) → List ℕ → (at : ℕ) → Option (Field ℕ)
next_at_most greatest line at = do
  number ← next_number 10 line at
  cond (leb number.value greatest) (Some number) None

-- the line's end
unfoldable pub end_at : List ℕ → (at : ℕ) → Option (Unit {0})
end_at line at = cond (eqb at (length line)) (Some tt) None
