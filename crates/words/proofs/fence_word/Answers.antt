use Rattle.std.proofs.Common.{rules, ne_eqb}
use Rattle.agreement.specs.Translation.Kind.{kind_fence, match}
use Rattle.words.proofs.fence_word.Goals as goal

pub returns-in-0 : goal.returns-in-0
unfolding kind_fence match
returns-in-0 c = rw c.in-0.is (search rules)

pub returns-in-1 : goal.returns-in-1
unfolding kind_fence match
returns-in-1 c = rw c.in-1.is (search rules)

pub returns-in_default : goal.returns-in_default
unfolding kind_fence match
returns-in_default c = simp (ne_eqb c.args.funct3 0 (search rules), ne_eqb c.args.funct3 1 (search rules)) (search rules)
