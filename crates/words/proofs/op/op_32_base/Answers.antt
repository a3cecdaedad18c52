use Rattle.std.proofs.Common.{rules, ne_eqb}
use Rattle.agreement.specs.Translation.Kind.{kind_op32, match}
use Rattle.agreement.proofs.Laws.Tests.{cond_same}
use Rattle.words.proofs.op.op_32_base.Goals as goal

pub returns-in-0 : goal.returns-in-0
unfolding kind_op32 match
returns-in-0 c = rw c.in-0.is (search rules)

pub returns-in-1 : goal.returns-in-1
unfolding kind_op32 match
returns-in-1 c = rw c.in-1.is (search rules)

pub returns-in-5 : goal.returns-in-5
unfolding kind_op32 match
returns-in-5 c = rw c.in-5.is (search rules)

pub returns-in_default : goal.returns-in_default
unfolding kind_op32 match
returns-in_default c =
    simp (
      ne_eqb c.args.funct3 0 (search rules),
      ne_eqb c.args.funct3 1 (search rules),
      ne_eqb c.args.funct3 5 (search rules),
      cond_same,
    ) (search rules)
