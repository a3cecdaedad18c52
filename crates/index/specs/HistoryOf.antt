-- The history of functions that keep an index, whoever's they are: of a call no more is known than what it may tell its caller and leave.
-- `History` (crate entry) takes both from the definitions. The code's functions are one instance (HistoryInCode), the exported ones, which
-- C calls, another (crate capi, HistoryInC).
use Rattle.std.specs.Prelude.{◌≡◌, false, List, [], ◌∷◌, Option}
use Rattle.std.specs.List.{list_any}
use Rattle.entry.specs.Index.{is_in_use}
use Rattle.entry.specs.History.{Event, Operation, after, events, last, showing, Distinct}
use Rattle.entry.specs.declared.Key.{Key}
use Rattle.entry.specs.declared.Entry.{Entry}

-- of functions that insert, empty and drop: on these entries a call for the operation may tell that the event happened, and leave those
-- entries
abbrev pub Calls : Type 1
Calls = Operation → List Entry → Event → List Entry → Type 0

-- of a function that finds: on these entries a call for the key may answer this
abbrev pub Finding : Type 0 → Type 1
Finding Answer = List Entry → Key → Answer → Type 0

-- calls that led from the entries es to others, and what happened, the latest first
pub data Leads (May : Calls) (es : List Entry) : List Event → List Entry → Type 0 where
  begin : Leads May es [] es
  then : {o : Operation} {event : Event} {happened : List Event} {xs ys : List Entry}
      → Leads May es happened xs → May o xs event ys → Leads May es (event ∷ happened) ys

-- whatever a call of find then answers is what was last inserted, or none, in the function's words
pub record ShowsLastOf {Answer : Type 0} (Finds : Finding Answer) (told : Option Entry → Answer) (xs : List Entry) (happened : List Event)
    : Type 0 where
  pub shows : (k : Key) (r : Answer) → Finds xs k r → r ≡ told (showing k (last happened k))
  pub distinct : Distinct xs

abbrev pub HistoryOf : {Answer : Type 0} → Finding Answer → (Option Entry → Answer) → Calls → Type 0
HistoryOf Finds told May = (es xs : List Entry) (happened : List Event) → list_any is_in_use es ≡ false → Leads May es happened xs
    → ShowsLastOf Finds told xs happened

-- such calls can be made: for any list of operations, on any entries, there are calls that tell and leave what the definitions say, and
-- find answers for any key
pub record CanBeMade {Answer : Type 0} (Finds : Finding Answer) (May : Calls) : Type 0 where
  pub operations : (es : List Entry) (operations : List Operation) → Leads May es (events es operations) (after es operations)
  pub find : (xs : List Entry) (k : Key) → (r : Answer) × Finds xs k r
