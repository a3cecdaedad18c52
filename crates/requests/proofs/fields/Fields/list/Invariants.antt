-- The loop has read the halfwords before its index.
use Rattle.std.proofs.Common.{length}
use Rattle.requests.proofs.HalfwordLaws.{Read}
use Rattle.requests.proofs.fields.Fields.list.Given as goal

abbrev pub invariant-loop-i : goal.invariant-loop-i
invariant-loop-i l = Read (length l.fn.lent) l.fn.self l.lent l.i l.self
