-- Blocks that are kept while the guest's code changes (document 02, Q-5). Where the code is what it was in the bytes that a block spans,
-- entering it gives the manual's run of the code as it is now, read for no more instructions than the block counts. What stands behind
-- its span may have changed, and with it the word at which its translation stopped.
use Rattle.std.specs.Prelude.{◌≡◌, Bool, true, List, [], ◌∷◌, ℕ, ◌*◌, ◌^◌, ◌≤◌, ◌<◌, length, None}
use Rattle.agreement.specs.X86.Memory.{read}
use Rattle.agreement.specs.Riscv.Code.{Code, run_at, SameIn}
use Rattle.agreement.specs.Riscv.Run.{Feed, GuestState, refused, run_of, read_turn, turn, manual}
use Rattle.agreement.specs.Translation.Replies.{Block, Refusal, Reply.block, Reply.refusal}
use Rattle.agreement.specs.Statement.Machine.{RegisterBytes, Turn, Event, Event.rejected, Event.visited, reply, Turned}
use Rattle.agreement.specs.Statement.Premises.{Premises, rests_on_code}
use Rattle.agreement.specs.Statement.Agreement.{left_by, feed, start, is_refused, after, Agrees}

-- a turn, its `code` being the guest's code when its block was translated; the code as it is when the block is entered, and how many
-- halfwords of that can be fetched
pub record Kept : Type 0 where
  pub turn : Turn
  pub now : Code
  pub reach : ℕ

unfoldable pub turns : List Kept → List Turn
turns [] = []
turns (k ∷ ks) = k.turn ∷ turns ks

-- 1. What is asked of the code as it is now: of a block's turn, that it is what it was in the bytes that the block spans, and can be
-- fetched there; of a turn that is refused for what its code has, that it is refused for this code
pub record Current (k : Kept) (pc : ℕ) : Type 0 where
  pub spanned : (b : Block) → reply k.turn pc ≡ block b → SameIn pc b.span k.turn.code k.now
  pub fetched : (b : Block) → reply k.turn pc ≡ block b → b.span ≤ 2 * k.reach
  pub refused : (r : Refusal) → reply k.turn pc ≡ refusal r → rests_on_code (refusal r) ≡ true → k.turn.made ≡ run_at k.now pc k.reach

-- along the history from pc and rb
unfoldable pub CurrentAlong : ℕ → RegisterBytes → List Kept → Type 0
CurrentAlong pc rb [] = Unit
CurrentAlong pc rb (k ∷ ks) =
    Current k pc × ((e : Event) (pc' : ℕ) (rb' : RegisterBytes) → Turned pc rb k.turn e pc' rb' → CurrentAlong pc' rb' ks)

-- 2. What such a turn feeds to the manual's run: the code as it is now and, where a block was entered, its count as the limit

unfoldable pub feed_now : Kept → Event → Feed
feed_now k (rejected pc r) =
    record { limit = k.turn.limit; code = k.now; reach = k.reach; room = length k.turn.output; left = None }
feed_now k (visited pc count v) =
    record { limit = count; code = k.now; reach = k.reach; room = length k.turn.output; left = left_by k.turn v.call }

unfoldable pub feeds_now : List Kept → List Event → List Feed
feeds_now [] es = []
feeds_now (k ∷ ks) [] = []
feeds_now (k ∷ ks) (e ∷ es) = feed_now k e ∷ feeds_now ks es

-- 3. What holds: the turns agree with the manual's run of the code of which their blocks were made, and the run of the code as it is now
-- reads the same and goes the same way. (Of a turn that is refused whatever its code is nothing is read)

unfoldable pub refuses_now : Kept → Event → GuestState → Bool
refuses_now k e m = refused (feed_now k e).limit m.pc (run_of (feed_now k e) m) (feed_now k e).room

pub record ReadsAlike (k : Kept) (e : Event) (m : GuestState) : Type 0 where
  pub refuses : refuses_now k e m ≡ is_refused k.turn m
  pub reads : rests_on_code (reply k.turn m.pc) ≡ true → read_turn (feed_now k e) m ≡ read_turn (feed k.turn e) m
  pub goes : turn (feed_now k e) m ≡ turn (feed k.turn e) m

unfoldable pub AlongNow : GuestState → List Kept → List Event → Type 0
AlongNow m [] [] = Unit
AlongNow m [] (e ∷ es) = ⊥
AlongNow m (k ∷ ks) [] = ⊥
AlongNow m (k ∷ ks) (e ∷ es) = ReadsAlike k e m × AlongNow (turn (feed_now k e) m) ks es

pub record AgreesNow (pc : ℕ) (rb : RegisterBytes) (ks : List Kept) : Type 0 where
  pub agrees : Agrees pc rb (turns ks)
  pub along : AlongNow (start pc rb) ks agrees.events
  pub at_end : manual (feeds_now ks agrees.events) (start pc rb) ≡ after pc rb (turns ks) agrees.events

-- The theorem. Of the code when a block was translated `Premises` asks what it is, the code of which it was made; of the code as it is
-- now `CurrentAlong` asks the rest
unfoldable pub AgreementOfKept : Type 0
AgreementOfKept =
    (pc : ℕ) (rb : RegisterBytes) (ks : List Kept)
    → pc < 2 ^ 64 → read 8 rb 0 ≡ 0 → Premises pc rb (turns ks) → CurrentAlong pc rb ks → AgreesNow pc rb ks
