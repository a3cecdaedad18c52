-- Laws of a list of halfwords, for the loop that reads one.
use Rattle.std.proofs.Common.{◌≡◌, ◌∙◌, List, [], ◌∷◌, ◌++◌, ℕ, suc, ◌+◌, ◌-◌, ◌<◌, ◌≤◌, add-one, arith}
use Rattle.std.proofs.Common.{le-leb, length, take, set, length-set, take-suc-set, Option, None, Some}
use borrow.Author.Tests.{lt-leb}
use Rattle.requests.specs.declared.fields.Fields.{Fields}
use Rattle.requests.specs.Fields.{Passes, word_at}
use Rattle.requests.specs.Halfwords.{halfword_at, list_at, Reads}

pub reads_none : {list : Option (List ℕ)} {lent : List ℕ} {r : Option ℕ} → None ≡ list → r ≡ None → Reads list lent r
reads_none e p = record { halfwords = rw p e; fits = rw p tt }

-- the halfwords of the list at `start` that stand before `here` are read: they are the first `n` of the lent ones
pub record Read (room : ℕ) (start : Fields) (lent : List ℕ) (n : ℕ) (here : Fields) : Type 0 where
  pub size : length lent ≡ room
  pub line : here.line ≡ start.line
  pub list : list_at room start.line.now start.at [] ≡ list_at (room - n) here.line.now here.at (take n lent)

module _ {room : ℕ} {start : Fields} {lent : List ℕ} {n : ℕ} {here : Fields} (read : Read room start lent n here) where
  pub no_room : room ≤ n → None ≡ list_at room start.line.now start.at []
  unfolding list_at
  no_room p = let e : room - n ≡ 0 = omega arith in rw (read.list, e)

  module _ (more : n < room) where
    one_more : room - n ≡ suc (room - (n + 1))
    one_more = omega arith

    pub no_halfword : None ≡ halfword_at here.line.now here.at → None ≡ list_at room start.line.now start.at []
    unfolding list_at
    no_halfword p = rw (read.list, one_more, ← p)

    module _ {value : ℕ} {behind : Fields} (halfword : Passes halfword_at here behind (Some value)) where
      with_it : take (n + 1) (set lent n value) ≡ take n lent ++ (value ∷ [])
      with_it = rw add-one (take-suc-set lent n value (omega (arith, read.size)))

      pub at_the_end : length behind.line.now ≤ behind.at
          → Reads (list_at room start.line.now start.at []) (set lent n value) (Some (n + 1))
      unfolding list_at
      at_the_end p =
          let end : length here.line.now ≤ behind.at = rw (← halfword.line) p in
          record {
            halfwords = rw (read.list, one_more, ← halfword.field, le-leb (length here.line.now) behind.at end, with_it);
            fits = rw length-set (omega (arith, read.size));
          }

      module _ (on : behind.at < length behind.line.now) where
        go_on : behind.at < length here.line.now
        go_on = rw (← halfword.line) on

        pub no_comma : None ≡ word_at (44 ∷ []) behind.line.now behind.at → None ≡ list_at room start.line.now start.at []
        unfolding list_at
        no_comma p =
            let none : None ≡ word_at (44 ∷ []) here.line.now behind.at = rw (← halfword.line) p in
            rw (read.list, one_more, ← halfword.field, lt-leb (length here.line.now) behind.at go_on, ← none)

        pub at_a_comma : {next : Fields} → Passes (word_at (44 ∷ [])) behind next (Some tt)
            → Read room start (set lent n value) (n + 1) next
        unfolding list_at
        at_a_comma {next} comma =
            let line : next.line ≡ here.line = comma.line ∙ halfword.line in
            let there : Some (record { value = tt; next = next.at }) ≡ word_at (44 ∷ []) here.line.now behind.at =
            rw (← halfword.line) comma.field in
            record {
              size = length-set lent n value ∙ read.size;
              line = line ∙ read.line;
              list = rw (read.list, one_more, ← halfword.field, lt-leb (length here.line.now) behind.at go_on, ← there, with_it, line);
            }

pub ruleset list_steps = (reads_none, no_room, no_halfword, no_comma)
