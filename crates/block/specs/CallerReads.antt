-- What a caller reads off an answer and the output: the reply, as crate agreement (Translation/Replies) has it.
use Rattle.std.specs.Prelude.{List, ℕ, take, Ok, Err}
use Rattle.agreement.specs.Translation.Replies.{Reply}
use Rattle.agreement.specs.Translation.Replies.Reply.{block, refusal}
use Rattle.agreement.specs.Translation.Replies.Refusal.{limit_zero, odd_start, missing, not_taken, output_short}
use Rattle.block.specs.Answers.{Answer}
use Rattle.block.specs.declared.Refusal.TheVariants.{LimitZero, OddStart, Missing, NotTaken, OutputShort}

-- a block is the bytes at the front of the output, as many as the answer says
abbrev pub read : Answer → List ℕ → Reply
read (Ok b) after = block (record { code = take b.length after; count = b.count; span = b.span })
read (Err LimitZero) after = refusal limit_zero
read (Err (OddStart start)) after = refusal (odd_start start)
read (Err (Missing index)) after = refusal (missing index)
read (Err (NotTaken word)) after = refusal (not_taken word)
read (Err OutputShort) after = refusal output_short
