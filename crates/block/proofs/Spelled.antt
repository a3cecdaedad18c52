-- The code's statements spelled out once more, of any arguments: whoever lets one ask more, or say less, has to write it here too.
use Rattle.std.proofs.Common.{◌≡◌, List, ℕ, ◌^◌, ◌<◌}
use Rattle.agreement.specs.X86.Memory.{read}
use Rattle.agreement.specs.Statement.Agreement.{Agrees}
use Rattle.agreement.specs.Statement.Kept.{AgreesNow, CurrentAlong, Kept, turns}
use Rattle.agreement.specs.Statement.Machine.{Event, RegisterBytes, Turn}
use Rattle.agreement.specs.Statement.Premises.{Premises}
use Rattle.block.specs.AgreementInCode.{AgreesBy, AgreesNowBy, OneRun, Run, Translated}
use Rattle.block.proofs.CodeAgrees.{agreement_in_code, agreement_of_kept_in_code}

of_any : (pc : ℕ) (rb : RegisterBytes) (ts : List Turn) → pc < 2 ^ 64 → read 8 rb 0 ≡ 0 → Premises pc rb ts → AgreesBy Translated pc rb ts
of_any = agreement_in_code

of_any_kept : (pc : ℕ) (rb : RegisterBytes) (ks : List Kept) → pc < 2 ^ 64 → read 8 rb 0 ≡ 0 → Premises pc rb (turns ks)
    → CurrentAlong pc rb ks
    → AgreesNowBy Translated pc rb ks
of_any_kept = agreement_of_kept_in_code

one_run_says : (pc : ℕ) (rb : RegisterBytes) (ts : List Turn) (es : List Event) (pc' : ℕ) (rb' : RegisterBytes)
    → OneRun Translated pc rb ts es pc' rb'
    → Run Translated pc rb ts es pc' rb'
    × ((fs : List Event) (p : ℕ) (b : RegisterBytes) → Run Translated pc rb ts fs p b → (es ≡ fs) × (pc' ≡ p) × (rb' ≡ b))
one_run_says pc rb ts es pc' rb' o = (o.run, o.only)

says : (pc : ℕ) (rb : RegisterBytes) (ts : List Turn) (a : AgreesBy Translated pc rb ts)
    → Agrees pc rb ts × OneRun Translated pc rb ts a.agrees.events a.agrees.pc' a.agrees.rb'
says pc rb ts a = (a.agrees, a.runs)

says_now : (pc : ℕ) (rb : RegisterBytes) (ks : List Kept) (a : AgreesNowBy Translated pc rb ks)
    → AgreesNow pc rb ks × OneRun Translated pc rb (turns ks) a.now.agrees.events a.now.agrees.pc' a.now.agrees.rb'
says_now pc rb ks a = (a.now, a.runs)
