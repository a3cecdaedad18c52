use Rattle.std.proofs.Common.{rules}
use Rattle.walk.proofs.WalkWritten.{room_to_close}
use Rattle.block.proofs.Compiled.{compiled}
use Rattle.block.proofs.compile_native_block.Goals as goal

pub close-count-requires : goal.close-count-requires
close-count-requires c =
    let w = c.emit_words-walked.ensures in (
      w.emitted_le_most_steps,
      room_to_close c.args.steps c.args.start c.args.halfwords.now c.requires.0
          (rw (c.new-em.ensures.output, c.new-em.ensures.place) c.requires.1)
          c.new-em.ensures.place c.x64_emit_prologue.ensures w.walks,
    )

pub returns : goal.returns
returns c =
    let m = c.new-em.ensures in
    let k = compiled c.args.helpers.helper16 c.args.helpers.helper_mem _ m.output m.place
    c.x64_emit_prologue.ensures c.emit_words-walked.ensures.walks
    c.close-count.ensures in
    search rules
