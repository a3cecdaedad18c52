-- The agreement of the code: lists of turns in which each reply is what a caller learned of a call, then or earlier, and each entry one
-- of what that call left. `Turned` and `History` of crate agreement (Statement/Machine) take a turn's reply from the definition; here
-- nothing is known of it but what the called function's contract allows. Stated once, for every way to learn replies; of the library
-- below, of C in crate capi.
use Rattle.std.specs.Prelude.{◌≡◌, List, [], ◌∷◌, ℕ, ◌^◌, ◌<◌}
use Rattle.agreement.specs.X86.Memory as Memory
use Rattle.agreement.specs.X86.Form.{RAX}
use Rattle.agreement.specs.Translation.Replies.{Block, Refusal, Reply, Reply.block, Reply.refusal}
use Rattle.agreement.specs.Statement.Machine.{RegisterBytes, Turn, Visit, Went, enter, Event, Event.rejected, Event.visited, bytes_after}
use Rattle.agreement.specs.Statement.Premises.{Premises}
use Rattle.agreement.specs.Statement.Agreement.{Agrees}
use Rattle.agreement.specs.Statement.Kept.{Kept, turns, CurrentAlong, AgreesNow}
use Rattle.block.specs.Answers.{Answer, Translates}
use Rattle.block.specs.CallerReads.{read}

-- 1. Runs of the code, for a relation `learns`: at this pc a caller may learn this reply to this turn's request

abbrev pub Learning : Type 1
Learning = ℕ → Turn → Reply → Type 0

-- one turn: a refused one leaves pc and register bytes; after a block the pc is RAX, the bytes are those at its return
pub data Ran (learns : Learning) (pc : ℕ) (rb : RegisterBytes) (t : Turn) : Event → ℕ → RegisterBytes → Type 0 where
  skip : {q : Refusal} → learns pc t (refusal q) → Ran learns pc rb t (rejected pc q) pc rb
  visit : {b : Block} {v : Visit} → learns pc t (block b) → Went t (enter t b.code rb) v
      → Ran learns pc rb t (visited pc b.count v) (v.exit.regs RAX) (bytes_after t v)

-- each turn begins with the pc and the register bytes that the last one left
pub data Run (learns : Learning) : ℕ → RegisterBytes → List Turn → List Event → ℕ → RegisterBytes → Type 0 where
  end : {pc : ℕ} {rb : RegisterBytes} → Run learns pc rb [] [] pc rb
  then : {pc pc' pc'' : ℕ} {rb rb' rb'' : RegisterBytes} {t : Turn} {ts : List Turn} {e : Event} {es : List Event}
      → Ran learns pc rb t e pc' rb' → Run learns pc' rb' ts es pc'' rb'' → Run learns pc rb (t ∷ ts) (e ∷ es) pc'' rb''

-- there is a run, with these events and this end, and no other
pub record OneRun (learns : Learning) (pc : ℕ) (rb : RegisterBytes) (ts : List Turn) (events : List Event) (pc' : ℕ) (rb' : RegisterBytes)
    : Type 0 where
  pub run : Run learns pc rb ts events pc' rb'
  pub only : (es : List Event) (p : ℕ) (b : RegisterBytes) → Run learns pc rb ts es p b → (events ≡ es) × (pc' ≡ p) × (rb' ≡ b)

-- 2. The theorem: all that crate agreement states of the list (Statement/Agreement) holds of the code's run

pub record AgreesBy (learns : Learning) (pc : ℕ) (rb : RegisterBytes) (ts : List Turn) : Type 0 where
  pub agrees : Agrees pc rb ts
  pub runs : OneRun learns pc rb ts agrees.events agrees.pc' agrees.rb'

abbrev pub AgreementBy : Learning → Type 0
AgreementBy learns =
    (pc : ℕ) (rb : RegisterBytes) (ts : List Turn)
    → pc < 2 ^ 64 → Memory.read 8 rb 0 ≡ 0 → Premises pc rb ts → AgreesBy learns pc rb ts

-- and of blocks that are kept what it states of these (Statement/Kept)
pub record AgreesNowBy (learns : Learning) (pc : ℕ) (rb : RegisterBytes) (ks : List Kept) : Type 0 where
  pub now : AgreesNow pc rb ks
  pub runs : OneRun learns pc rb (turns ks) now.agrees.events now.agrees.pc' now.agrees.rb'

abbrev pub AgreementOfKeptBy : Learning → Type 0
AgreementOfKeptBy learns =
    (pc : ℕ) (rb : RegisterBytes) (ks : List Kept)
    → pc < 2 ^ 64 → Memory.read 8 rb 0 ≡ 0 → Premises pc rb (turns ks) → CurrentAlong pc rb ks → AgreesNowBy learns pc rb ks

-- 3. Of the library: the turn's call at pc, which meets the contract of `translate`, answered and left an output off which a caller reads p

pub record Translated (pc : ℕ) (t : Turn) (p : Reply) : Type 0 where
  pub answer : Answer
  pub after : List ℕ
  pub translates : Translates pc t.limit t.made t.helper16 t.helper_mem t.output after answer
  pub reads : read answer after ≡ p

abbrev pub AgreementInCode : Type 0
AgreementInCode = AgreementBy Translated

abbrev pub AgreementOfKeptInCode : Type 0
AgreementOfKeptInCode = AgreementOfKeptBy Translated
