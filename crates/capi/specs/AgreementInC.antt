-- The agreement of what C and Rust link: of calls of `emuko_translate`, whose reply a caller reads off four numbers and the output.
use Rattle.std.specs.Prelude.{◌≡◌, List, ℕ, cond, eqb, take}
use Rattle.agreement.specs.Translation.Replies as Definition
use Rattle.agreement.specs.Translation.Replies.Reply.{block, refusal}
use Rattle.agreement.specs.Translation.Replies.Refusal.{limit_zero, odd_start, missing, not_taken, output_short}
use Rattle.agreement.specs.Statement.Machine.{Turn}
use Rattle.block.specs.AgreementInCode.{AgreementBy, AgreementOfKeptBy}
use Rattle.capi.specs.Replies.{Replies}
use Rattle.capi.specs.declared.Reply.{Reply}

-- by the number: the first bytes of the output as a block, or why there is none
abbrev pub read : Reply → List ℕ → Definition.Reply
read r after =
    cond (eqb r.number 0) (block (record { code = take r.first after; count = r.second; span = r.third }))
    (cond (eqb r.number 1) (refusal limit_zero)
    (cond (eqb r.number 2) (refusal (odd_start r.first))
    (cond (eqb r.number 3) (refusal (missing r.first))
    (cond (eqb r.number 4) (refusal (not_taken r.first))
    (refusal output_short)))))

-- the turn's call at pc, which meets the contract of `emuko_translate`, replied and left an output off which a caller reads p
pub record Replied (pc : ℕ) (t : Turn) (p : Definition.Reply) : Type 0 where
  pub reply : Reply
  pub after : List ℕ
  pub replies : Replies pc t.limit t.made t.helper16 t.helper_mem t.output after reply
  pub reads : read reply after ≡ p

abbrev pub AgreementInC : Type 0
AgreementInC = AgreementBy Replied

abbrev pub AgreementOfKeptInC : Type 0
AgreementOfKeptInC = AgreementOfKeptBy Replied
