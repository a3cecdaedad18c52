-- Opening, walk and end are the block.
use Rattle.std.proofs.Common.{◌≡◌, ℕ, List, ◌++◌, ◌∙◌, zero-add}
use Rattle.agreement.specs.X86.Encode.{bytes}
use Rattle.agreement.specs.Translation.Emit.{opening}
use Rattle.agreement.specs.Translation.Walk.{ending, instrs}
use Rattle.agreement.specs.Translation.Walk as Translation
use Rattle.agreement.specs.Translation.Replies.{block_of}
use Rattle.emitter.specs.Written.{Emitter, Writes}
use Rattle.words.proofs.Joined.{joined}
use Rattle.walk.specs.Walks.{Walks, Closes, end_as}
use Rattle.walk.specs.declared.run.Walked.{Walked}
use Rattle.block.specs.Answers.{Compiles}

pub compiled : {e f g h : Emitter} {w : Walked} {count : ℕ} {before : List ℕ} (helper16 helper_mem : ℕ) (p : Translation.Walked)
    → e.out.now ≡ before → e.at ≡ 0
    → Writes e (bytes opening) f → Walks f 0 0 p g w → Closes g helper16 helper_mem (end_as w.end) w.emitted h count
    → Compiles (block_of helper16 helper_mem p) before h.out.now (record { length = h.at; count = count; span = w.span })
unfolding instrs
compiled {e = e} {g = g} {h = h} {w = w} {count = count} {before = before} helper16 helper_mem p output place o walks closes = record {
  counts = c.counts;
  spans = walks.spans ∙ zero-add p.span;
  wrote = rw (← output, ← place) whole.wrote;
}
  where
    c : Closes g helper16 helper_mem p.end p.added h count
    c = rw (walks.ends, walks.counts ∙ zero-add p.added) at closes

    whole : Writes e (bytes (opening ++ (p.code ++ ending helper16 helper_mem p.end p.added))) h
    whole =
        joined opening (p.code ++ ending helper16 helper_mem p.end p.added) o
        (joined p.code (ending helper16 helper_mem p.end p.added) walks.writes c.writes)
