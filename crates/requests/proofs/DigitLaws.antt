-- Laws of digits, for the loop that reads a number.
use Rattle.std.proofs.Common.{◌≡◌, refl, List, ◌∷◌, [], ℕ, zero, suc, ◌+◌, ◌*◌, ◌^◌, ◌<◌, ◌≤◌, add-one, arith, cond}
use Rattle.std.proofs.Common.{lt-ltb, le-ltb, ltb, drop, get_or, None}
use Rattle.requests.specs.Fields.{digit_of, digits, ends, number_at}

-- the digits from `from` on up to `at` are read, and their value is `value`
pub record Read (base : ℕ) (line : List ℕ) (from value at : ℕ) : Type 0 where
  pub number : number_at base line from ≡ digits base from value at (drop at line)

pub none_read : (base : ℕ) (line : List ℕ) (from : ℕ) → Read base line from 0 from
unfolding number_at
none_read base line from = record { number = refl }

-- what the definition makes of the byte at a place: behind the line's end none is a digit
abbrev Step : (base from value at : ℕ) (rest line : List ℕ) (k : ℕ) → Type 0
Step base from value at rest line k =
    let d = digit_of (get_or line k 0) in
    digits base from value at rest
    ≡ cond (ltb d base) (cond (ltb (value * base + d) (2 ^ 64)) (digits base from (value * base + d) (at + 1) (drop (suc k) line)) None)
    (ends from value at)

step : (base from value at : ℕ) → base ≤ 16 → (k : ℕ) (line : List ℕ) → Step base from value at (drop k line) line k
unfolding digits digit_of
step base from value at p zero [] = rw (le-ltb 16 base p)
step base from value at p (suc k) [] = rw (le-ltb 16 base p)
step base from value at p zero (b ∷ line) = refl
step base from value at p (suc k) (b ∷ line) = step base from value at p k line

module _ {base : ℕ} {line : List ℕ} {from value at : ℕ} (few : base ≤ 16) (read : Read base line from value at) where
  pub at_no_digit : (digit_of (get_or line at 0) < base → ⊥) → ends from value at ≡ number_at base line from
  at_no_digit p = rw (read.number, step base from value at few at line, le-ltb (digit_of (get_or line at 0)) base (omega arith))

  module _ {d : ℕ} (digit : (digit_of (get_or line at 0) < base) × (d ≡ digit_of (get_or line at 0))) where
    pub at_one_too_many : (value * base + d < 2 ^ 64 → ⊥) → None ≡ number_at base line from
    at_one_too_many p =
        rw (
          read.number,
          step base from value at few at line,
          ← digit.1,
          lt-ltb d base (omega (arith, digit)),
          le-ltb (value * base + d) (2 ^ 64) (omega arith),
        )

    pub at_a_digit : value * base + d < 2 ^ 64 → Read base line from (value * base + d) (at + 1)
    at_a_digit p = record {
      number =
          rw (
            read.number,
            step base from value at few at line,
            ← digit.1,
            lt-ltb d base (omega (arith, digit)),
            lt-ltb (value * base + d) (2 ^ 64) p,
            add-one,
          );
    }

pub ruleset number_steps = (none_read, at_no_digit, at_one_too_many, at_a_digit)
