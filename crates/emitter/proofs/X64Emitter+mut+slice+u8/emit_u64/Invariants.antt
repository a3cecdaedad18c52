-- Between two bytes `RunningQuotient` holds: after k bytes the quotient is v / 256 ^ k. The output is still the one that was lent.
use Rattle.std.proofs.Common.{◌≡◌}
use Rattle.emitter.specs.Quotient.{RunningQuotient}
use Rattle.emitter.proofs.X64Emitter+mut+slice+u8.emit_u64.Given as goal

abbrev pub invariant-loop-k : goal.invariant-loop-k
invariant-loop-k l = record {
  running : RunningQuotient l.v l._k l.quotient l.initial.self.out.now l.initial.self.at l.self.out.now l.self.at;
  same_output : l.self.out.ghost_name ≡ l.initial.self.out.ghost_name;
}
