-- The same of functions that translate, insert, drop and empty, whoever's they are: of a call no more is known than what it may answer and
-- leave. `Keeping` takes both from the definitions. The code's functions are one instance (KeepingInCode), the exported ones, which C
-- calls, another (crate capi, KeepingInC).
use Rattle.std.specs.Prelude.{◌≡◌, false, List, [], ◌∷◌}
use Rattle.std.specs.List.{list_any}
use Rattle.entry.specs.Index.{is_in_use}
use Rattle.entry.specs.declared.Entry.{Entry}
use Rattle.entry.specs.declared.Key.{Key}
use Rattle.coherence.specs.Keeping.{Codes, Operation, codes_after, OnlyWrites, after, AllCurrent}
use Rattle.coherence.specs.Entering.{MayBeEntered}

-- of a caller that does one operation where the codes are these: from these entries its calls may lead to those
abbrev pub Calls : Type 1
Calls = Codes → Operation → List Entry → List Entry → Type 0

-- of a function that finds: on these entries a call for the key may answer that this entry has it
abbrev pub Finding : Type 1
Finding = List Entry → Key → Entry → Type 0

-- calls that led from the entries es to others
pub data Leads (May : Calls) (es : List Entry) (cs : Codes) : List Operation → List Entry → Type 0 where
  begin : Leads May es cs [] es
  then : {o : Operation} {operations : List Operation} {xs ys : List Entry}
      → Leads May es cs operations xs → May (codes_after cs operations) o xs ys → Leads May es cs (o ∷ operations) ys

abbrev pub KeepsSpansOf : Calls → Type 0
KeepsSpansOf May = (es xs : List Entry) (cs : Codes) (operations : List Operation) → list_any is_in_use es ≡ false
    → OnlyWrites cs operations → Leads May es cs operations xs → AllCurrent cs operations xs

-- and what a call of find answers may be entered
abbrev pub FoundMayBeEnteredOf : Finding → Calls → Type 0
FoundMayBeEnteredOf Finds May = (es xs : List Entry) (cs : Codes) (operations : List Operation) → list_any is_in_use es ≡ false
    → OnlyWrites cs operations → Leads May es cs operations xs
    → (j : Key) (e : Entry) → Finds xs j e → MayBeEntered cs operations j e

-- such calls can be made: for any list of operations, on any entries and with any codes, some calls leave the definition's entries
abbrev pub CanBeMade : Calls → Type 0
CanBeMade May = (es : List Entry) (cs : Codes) (operations : List Operation) → Leads May es cs operations (after es cs operations)
