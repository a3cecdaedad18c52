-- What a caller of `translate` reads off its answer and the output is the definition's reply.
use Rattle.std.proofs.Common.{◌≡◌, refl, ap, ◌∙◌, List, ℕ, arith, length, take, Ok, Err}
use lib.Seq.{take-append_seam}
use Rattle.agreement.specs.Translation.Replies.{Reply, numbered, output_after}
use Rattle.agreement.specs.Translation.Replies.Reply.{block, refusal}
use Rattle.agreement.specs.Translation.Replies.Refusal.{limit_zero, odd_start, missing, not_taken, output_short}
use Rattle.agreement.specs.Translation.Replies as Replies
use Rattle.agreement.proofs.Laws.Values.{first-value, second_value, third_value, differ}
use Rattle.block.specs.Answers.{Answer, Answers}
use Rattle.block.specs.CallerReads.{read}
use Rattle.block.specs.declared.Refusal.TheVariants.{LimitZero, OddStart, Missing, NotTaken, OutputShort}

same_block : {b : Replies.Block} {code : List ℕ} {count span : ℕ} → code ≡ b.code → count ≡ b.count → span ≡ b.span
    → block (record { code = code; count = count; span = span }) ≡ block b
same_block {b = b} {count = count} {span = span} e f g =
    ap (λ (c : List ℕ). block (record { code = c; count = count; span = span })) e
    ∙ ap (λ (n : ℕ). block (record { code = b.code; count = n; span = span })) f
    ∙ ap (λ (n : ℕ). block (record { code = b.code; count = b.count; span = n })) g

pub reads : (p : Reply) (r : Answer) {l l' : List ℕ} → Answers p l l' r → read r l' ≡ p
unfolding numbered output_after
reads (block b) (Ok a) {l} {l'} h =
    let e : a.length ≡ length b.code = first-value h.answers in
    let c : take a.length l' ≡ b.code = rw (e, h.leaves) (take-append_seam b.code _) in
    same_block c (second_value h.answers) (third_value h.answers)
reads (refusal limit_zero) (Err LimitZero) h = refl
reads (refusal (odd_start s)) (Err (OddStart t)) h = ap (λ (x : ℕ). refusal (odd_start x)) (first-value h.answers)
reads (refusal (missing s)) (Err (Missing t)) h = ap (λ (x : ℕ). refusal (missing x)) (first-value h.answers)
reads (refusal (not_taken s)) (Err (NotTaken t)) h = ap (λ (x : ℕ). refusal (not_taken x)) (first-value h.answers)
reads (refusal output_short) (Err OutputShort) h = refl
reads (block b) (Err LimitZero) h = differ h.answers (λ e. omega arith)
reads (block b) (Err (OddStart t)) h = differ h.answers (λ e. omega arith)
reads (block b) (Err (Missing t)) h = differ h.answers (λ e. omega arith)
reads (block b) (Err (NotTaken t)) h = differ h.answers (λ e. omega arith)
reads (block b) (Err OutputShort) h = differ h.answers (λ e. omega arith)
reads (refusal limit_zero) (Ok a) h = differ h.answers (λ e. omega arith)
reads (refusal limit_zero) (Err (OddStart t)) h = differ h.answers (λ e. omega arith)
reads (refusal limit_zero) (Err (Missing t)) h = differ h.answers (λ e. omega arith)
reads (refusal limit_zero) (Err (NotTaken t)) h = differ h.answers (λ e. omega arith)
reads (refusal limit_zero) (Err OutputShort) h = differ h.answers (λ e. omega arith)
reads (refusal (odd_start s)) (Ok a) h = differ h.answers (λ e. omega arith)
reads (refusal (odd_start s)) (Err LimitZero) h = differ h.answers (λ e. omega arith)
reads (refusal (odd_start s)) (Err (Missing t)) h = differ h.answers (λ e. omega arith)
reads (refusal (odd_start s)) (Err (NotTaken t)) h = differ h.answers (λ e. omega arith)
reads (refusal (odd_start s)) (Err OutputShort) h = differ h.answers (λ e. omega arith)
reads (refusal (missing s)) (Ok a) h = differ h.answers (λ e. omega arith)
reads (refusal (missing s)) (Err LimitZero) h = differ h.answers (λ e. omega arith)
reads (refusal (missing s)) (Err (OddStart t)) h = differ h.answers (λ e. omega arith)
reads (refusal (missing s)) (Err (NotTaken t)) h = differ h.answers (λ e. omega arith)
reads (refusal (missing s)) (Err OutputShort) h = differ h.answers (λ e. omega arith)
reads (refusal (not_taken s)) (Ok a) h = differ h.answers (λ e. omega arith)
reads (refusal (not_taken s)) (Err LimitZero) h = differ h.answers (λ e. omega arith)
reads (refusal (not_taken s)) (Err (OddStart t)) h = differ h.answers (λ e. omega arith)
reads (refusal (not_taken s)) (Err (Missing t)) h = differ h.answers (λ e. omega arith)
reads (refusal (not_taken s)) (Err OutputShort) h = differ h.answers (λ e. omega arith)
reads (refusal output_short) (Ok a) h = differ h.answers (λ e. omega arith)
reads (refusal output_short) (Err LimitZero) h = differ h.answers (λ e. omega arith)
reads (refusal output_short) (Err (OddStart t)) h = differ h.answers (λ e. omega arith)
reads (refusal output_short) (Err (Missing t)) h = differ h.answers (λ e. omega arith)
reads (refusal output_short) (Err (NotTaken t)) h = differ h.answers (λ e. omega arith)
