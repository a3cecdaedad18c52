-- The loop has read the digits up to its place.
use Rattle.std.proofs.Common.{◌≡◌, length, ◌-◌}
use Rattle.requests.proofs.DigitLaws.{Read}
use Rattle.requests.proofs.fields.Fields.number.Given as goal

abbrev pub invariant-loop-d : goal.invariant-loop-d
invariant-loop-d l = record {
  line : l.self.line ≡ l.fn.self.line;
  read : Read l.base l.self.line.now l.from l.value l.self.at;
}

abbrev pub decreases-loop-d : goal.decreases-loop-d
decreases-loop-d l = length l.self.line.now - l.self.at
