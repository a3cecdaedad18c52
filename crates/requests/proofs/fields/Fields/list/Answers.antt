-- The last halfword is found with those before it; behind a comma there is one more.
use Rattle.requests.proofs.HalfwordLaws.{at_the_end, at_a_comma}
use Rattle.requests.proofs.fields.Fields.list.Goals as goal

pub returns-then-self : goal.returns-then-self
returns-then-self c = at_the_end c.loop-i.invariant c.loop-i-test.true c.in_ok-halfword.ensures c.if-self.true

pub loop-i-preserved : goal.loop-i-preserved
loop-i-preserved c =
    at_a_comma c.loop-i.invariant c.loop-i-test.true c.in_ok-halfword.ensures c.if-self.false c.in_ok-pass.ensures
