use Rattle.std.proofs.Common.{rules, ne_eqb}
use Rattle.agreement.specs.Translation.Kind.{kind_op32, match}
use Rattle.agreement.proofs.Laws.Tests.{cond_same}
use Rattle.words.proofs.op.op_32_muldiv.Goals as goal

pub returns-in-0 : goal.returns-in-0
unfolding kind_op32 match
returns-in-0 c = rw c.in-0.is (search rules)

pub returns-in-4 : goal.returns-in-4
unfolding kind_op32 match
returns-in-4 c = rw c.in-4.is (search rules)

pub returns-in-5 : goal.returns-in-5
unfolding kind_op32 match
returns-in-5 c = rw c.in-5.is (search rules)

pub returns-in-6 : goal.returns-in-6
unfolding kind_op32 match
returns-in-6 c = rw c.in-6.is (search rules)

pub returns-in-7 : goal.returns-in-7
unfolding kind_op32 match
returns-in-7 c = rw c.in-7.is (search rules)

pub returns-in_default : goal.returns-in_default
unfolding kind_op32 match
returns-in_default c =
    simp (
      ne_eqb c.args.funct3 0 (search rules),
      ne_eqb c.args.funct3 4 (search rules),
      ne_eqb c.args.funct3 5 (search rules),
      ne_eqb c.args.funct3 6 (search rules),
      ne_eqb c.args.funct3 7 (search rules),
      cond_same,
    ) (search rules)
