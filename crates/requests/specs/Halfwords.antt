-- The list of halfwords with which a translation's line ends.
use Rattle.std.specs.Prelude.{◌≡◌, Bool, cond, ◌&&◌, List, [], ◌∷◌, ◌++◌, ℕ, zero, suc, ◌+◌, ◌%◌, ◌≤◌, leb, eqb, length, take, get_or}
use Rattle.std.specs.Prelude.{Option, Some, None, option_map, IfSome}
use Rattle.requests.specs.Fields.{Field, ◌>>=◌, number_at, word_at}

-- the halfword at a place: a number of four digits
unfoldable pub halfword_at : List ℕ → ℕ → Option (Field ℕ)
halfword_at line at = do
  number ← number_at 16 line at
  cond (eqb number.next (at + 4)) (Some (record { value = number.value % 65536; next = number.next })) None

-- from a place on a halfword and the line's end, or a comma and a list; `seen` are the halfwords before it, `room` is how many
-- more may come
unfoldable pub list_at : (room : ℕ) (line : List ℕ) (at : ℕ) (seen : List ℕ) → Option (List ℕ)
list_at zero line at seen = None
list_at (suc room) line at seen = do
  halfword ← halfword_at line at
  cond (leb (length line) halfword.next) (Some (seen ++ (halfword.value ∷ []))) (do
    comma ← word_at (44 ∷ []) line halfword.next
    list_at room line comma.next (seen ++ (halfword.value ∷ [])))

-- a dash with the line's end behind it
unfoldable pub is_dash : List ℕ → ℕ → Bool
is_dash line at = eqb (get_or line at 0) 45 && eqb (at + 1) (length line)

-- no halfwords are a dash
unfoldable pub run_at : (room : ℕ) (line : List ℕ) (at : ℕ) → Option (List ℕ)
run_at room line at = cond (is_dash line at) (Some []) (list_at room line at [])

-- how many halfwords there are, and the lent halfwords hold them at their front
pub record Reads (list : Option (List ℕ)) (lent : List ℕ) (r : Option ℕ) : Type 0 where
  pub halfwords : option_map (λ n. take n lent) r ≡ list
  pub fits : IfSome r (λ n. n ≤ length lent)
