-- A block that is found may be entered (document 02, Q-5): what the theorem on kept blocks (crate agreement, Statement/Kept) asks of the
-- code, at the turn that enters it, holds, since every entry in use has its span unchanged.
use Rattle.std.specs.Prelude.{◌≡◌, false, List, ℕ, ◌*◌, ◌≤◌, length, Some}
use Rattle.std.specs.List.{list_any}
use Rattle.agreement.specs.Statement.Premises.{Unchanged}
use Rattle.agreement.specs.Statement.Kept.{Kept, Current}
use Rattle.entry.specs.Index.{is_in_use, find}
use Rattle.entry.specs.declared.Key.{Key}
use Rattle.entry.specs.declared.Entry.{Entry}
use Rattle.coherence.specs.Keeping.{Codes, Request, run_for, Operation, codes_after, OnlyWrites, after, IsCurrent}

-- the turn enters the block that the request got when the codes were those, and the codes are these now
pub record Enters (q : Request) (those these : Codes) (k : Kept) : Type 0 where
  pub limit : k.turn.limit ≡ q.limit
  pub made : k.turn.made ≡ run_for q those
  pub code : k.turn.code ≡ those q.satp
  pub reach : k.turn.reach ≡ q.reach
  pub helper16 : k.turn.helper16 ≡ q.helper16
  pub helper_mem : k.turn.helper_mem ≡ q.helper_mem
  pub room : length k.turn.output ≡ q.room
  pub now : k.now ≡ these q.satp

-- what is asked of the code at a turn, when the block was made (`Premises`) and as it is now (`CurrentAlong`)
pub record AskedOfCode (k : Kept) (pc : ℕ) : Type 0 where
  pub made : Unchanged k.turn pc
  pub now : Current k pc

pub record MayBeEntered (cs : Codes) (operations : List Operation) (j : Key) (e : Entry) : Type 0 where
  pub current : IsCurrent cs operations e
  pub under : current.request.satp ≡ j.satp
  pub at : current.request.pc ≡ j.pc
  pub enters : (k : Kept) → Enters current.request (codes_after cs current.earlier) (codes_after cs operations) k
      → e.block.span ≤ 2 * k.reach → AskedOfCode k j.pc

unfoldable pub FoundMayBeEntered : Type 0
FoundMayBeEntered = (es : List Entry) (cs : Codes) (operations : List Operation) → list_any is_in_use es ≡ false → OnlyWrites cs operations
    → (j : Key) (e : Entry) → find (after es cs operations) j ≡ Some e → MayBeEntered cs operations j e
