-- The same of the code: each call's contract gives what the definition leaves.
use Rattle.std.proofs.Common.{◌≡◌, sym, ap, ◌∙◌, List, ℕ, length, take, Ok, Err}
use Rattle.agreement.specs.Translation.Replies.{Block, numbered, translate}
use Rattle.agreement.proofs.Laws.Values.{first-value}
use Rattle.block.specs.Answers.{Answer}
use Rattle.block.specs.CallerReads.{read}
use Rattle.block.specs.declared.Block as Rust
use Rattle.block.specs.declared.Refusal.{Refusal}
use Rattle.block.specs.declared.Refusal.TheVariants.{LimitZero, OddStart, Missing, NotTaken, OutputShort}
use Rattle.block.proofs.CallerReadsReply.{reads}
use Rattle.entry.specs.Index.{insert}
use Rattle.entry.specs.declared.Entry.{Entry}
use Rattle.coherence.specs.Keeping.{Codes, Request, reply_to, run_for, key, Operation, inserted}
use Rattle.coherence.specs.KeepingInCode.{Calls, native_of, Does, KeepsSpansInCode, FoundMayBeEnteredInCode}
use Rattle.coherence.proofs.Along.{left_by, keeps_spans_of, found_may_be_entered_of}

module _ (q : Request) (cs : Codes) where
  -- what is read off the answer is the definition's reply
  replied : (r : Answer) (c : Calls q cs r) → reply_to q cs ≡ read r c.1
  replied r c = ap (translate q.pc q.limit (run_for q cs) q.helper16 q.helper_mem) (sym c.2) ∙ sym (reads _ r c.3)

  -- and an inserted block is the definition's
  same_block : (b : Rust.Block) (c : Calls q cs (Ok b)) (es : List Entry)
      → inserted es q (reply_to q cs) ≡ insert es (key q) (native_of q b)
  unfolding numbered
  same_block b c es =
      let m : Block = record { code = take b.length c.1; count = b.count; span = b.span } in
      let long : b.length ≡ length m.code = first-value (c.3.answers ∙ ap numbered (sym (reads _ (Ok b) c.3))) in
      ap (inserted es q) (replied (Ok b) c)
      ∙ ap (λ (n : ℕ). insert es (key q) (record { offset = q.offset; count = b.count; length = n; span = b.span })) (sym long)

  none_inserted : (r : Refusal) (c : Calls q cs (Err r)) (es : List Entry) → inserted es q (reply_to q cs) ≡ es
  none_inserted LimitZero c es = ap (inserted es q) (replied _ c)
  none_inserted (OddStart s) c es = ap (inserted es q) (replied _ c)
  none_inserted (Missing i) c es = ap (inserted es q) (replied _ c)
  none_inserted (NotTaken w) c es = ap (inserted es q) (replied _ c)
  none_inserted OutputShort c es = ap (inserted es q) (replied _ c)

leaves : (cs : Codes) (o : Operation) (xs ys : List Entry) → Does cs o xs ys → ys ≡ left_by cs o xs
leaves cs o xs ys (Does.insert {q = q} {b = b} c i) = i.leaves ∙ sym (same_block q cs b c xs)
leaves cs o xs ys (Does.refused {q = q} {r = r} c) = sym (none_inserted q cs r c xs)
leaves cs o xs ys (Does.drop d) = d.leaves
leaves cs o xs ys (Does.empty d) = d.leaves

pub keeps_spans_in_code : KeepsSpansInCode
unfolding KeepsSpansInCode
keeps_spans_in_code = keeps_spans_of Does leaves

pub found_may_be_entered_in_code : FoundMayBeEnteredInCode
unfolding FoundMayBeEnteredInCode
found_may_be_entered_in_code = found_may_be_entered_of Does leaves _ (λ xs j e f. sym f)
