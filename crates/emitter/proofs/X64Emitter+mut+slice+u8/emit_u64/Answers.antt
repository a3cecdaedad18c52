-- A byte more, and a division more: the loop's laws stand in QuotientLaws.
use Rattle.std.proofs.Common.{refl, ◌∙◌, arith}
use Rattle.emitter.proofs.QuotientLaws.{room_left, one_more}
use Rattle.emitter.proofs.X64Emitter+mut+slice+u8.emit_u64.Goals as goal

pub emit_u8-requires : goal.emit_u8-requires
emit_u8-requires c = room_left c.loop-k.invariant.running c.requires (omega arith)

pub loop-k-preserved : goal.loop-k-preserved
loop-k-preserved c = record {
  running = one_more c.loop-k.invariant.running c.emit_u8.ensures.wrote (omega arith) refl refl refl;
  same_output = c.emit_u8.ensures.same_output ∙ c.loop-k.invariant.same_output;
}
