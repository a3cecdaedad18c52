-- The bytes at the front of the output, as many as an answer says, are the reply's.
use Rattle.std.proofs.Common.{◌≡◌, refl, ap, ◌∙◌, List, ℕ, take, Ok, Err}
use Rattle.agreement.specs.Translation.Replies.{Reply}
use Rattle.block.specs.Answers.{Answer, Answers}
use Rattle.block.specs.CallerReads.{read}
use Rattle.block.specs.declared.Refusal.TheVariants.{LimitZero, OddStart, Missing, NotTaken, OutputShort}
use Rattle.block.proofs.CallerReadsReply.{reads}
use Rattle.translate.specs.Program.{bytes_of, length_of}

front : (r : Answer) (after : List ℕ) → take (length_of r) after ≡ bytes_of (read r after)
front (Ok b) after = refl
front (Err LimitZero) after = refl
front (Err (OddStart s)) after = refl
front (Err (Missing i)) after = refl
front (Err (NotTaken w)) after = refl
front (Err OutputShort) after = refl

pub written_is : {p : Reply} {l after : List ℕ} (r : Answer) (n : ℕ) → n ≡ length_of r → Answers p l after r → take n after ≡ bytes_of p
written_is {p} {after = after} r n e h =
    ap (λ (k : ℕ). take k after) e ∙ front r after ∙ ap bytes_of (reads p r h)
