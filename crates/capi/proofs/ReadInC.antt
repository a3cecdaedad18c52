-- What a caller in C reads off the four numbers and the output is the definition's reply, and each reply can be read so.
use Rattle.std.proofs.Common.{◌≡◌, refl, ap, sym, ◌∙◌, List, ℕ}
use lib.Seq.{take-append_seam}
use Rattle.agreement.specs.Translation.Replies as Definition
use Rattle.agreement.specs.Translation.Replies.{numbered, output_after}
use Rattle.agreement.specs.Translation.Replies.Reply.{block, refusal}
use Rattle.agreement.specs.Translation.Replies.Refusal.{limit_zero, odd_start, missing, not_taken, output_short}
use Rattle.agreement.specs.Statement.Machine.{reply}
use Rattle.block.proofs.CodeAgrees.{Faithful, agreement_by, agreement_of_kept_by}
use Rattle.capi.specs.AgreementInC.{AgreementInC, AgreementOfKeptInC, Replied, read}
use Rattle.capi.specs.Replies.{padded}
use Rattle.capi.specs.declared.Reply.{Reply}

reads : (p : Definition.Reply) (l : List ℕ) → read (padded (numbered p)) (output_after p l) ≡ p
unfolding numbered output_after
reads (block b) l = ap (λ (c : List ℕ). block (record { code = c; count = b.count; span = b.span })) (take-append_seam b.code _)
reads (refusal limit_zero) l = refl
reads (refusal (odd_start start)) l = refl
reads (refusal (missing index)) l = refl
reads (refusal (not_taken word)) l = refl
reads (refusal output_short) l = refl

reads_right : (p : Definition.Reply) (l : List ℕ) {l' : List ℕ} {r : Reply}
    → r ≡ padded (numbered p) → l' ≡ output_after p l → read r l' ≡ p
reads_right p l e f = rw (e, f) (reads p l)

replied : Faithful Replied
replied = record {
  right = λ pc t p l. sym (reads_right (reply t pc) t.output l.replies.replies l.replies.leaves) ∙ l.reads;
  can = λ pc t. record {
    reply = padded (numbered (reply t pc));
    after = output_after (reply t pc) t.output;
    replies = record { replies = refl; leaves = refl };
    reads = reads (reply t pc) t.output;
  };
}

pub agreement_in_c : AgreementInC
agreement_in_c = agreement_by replied

pub agreement_of_kept_in_c : AgreementOfKeptInC
agreement_of_kept_in_c = agreement_of_kept_by replied
