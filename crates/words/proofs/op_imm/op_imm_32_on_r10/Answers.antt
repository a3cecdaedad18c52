use Rattle.std.proofs.Common.{rules, ne_eqb}
use Rattle.agreement.specs.Translation.Kind.{kind_op_imm32, match}
use Rattle.words.proofs.op_imm.op_imm_32_on_r10.Goals as goal

pub returns-in-0 : goal.returns-in-0
unfolding kind_op_imm32 match
returns-in-0 c = rw c.in-0.is (search rules)

pub returns-in-0-funct7 : goal.returns-in-0-funct7
unfolding kind_op_imm32 match
returns-in-0-funct7 c = rw (c.in-1.is, c.in-0-funct7.is) (search rules)

pub returns-in_default-funct7 : goal.returns-in_default-funct7
unfolding kind_op_imm32 match
returns-in_default-funct7 c = rw (c.in-1.is, ne_eqb c.args.d.now.funct7 0 (search rules)) (search rules)

pub returns-in-0-funct7-2 : goal.returns-in-0-funct7-2
unfolding kind_op_imm32 match
returns-in-0-funct7-2 c = rw (c.in-5.is, c.in-0-funct7-2.is) (search rules)

pub returns-in-32 : goal.returns-in-32
unfolding kind_op_imm32 match
returns-in-32 c = rw (c.in-5.is, c.in-32.is) (search rules)

pub returns-in_default-funct7-2 : goal.returns-in_default-funct7-2
unfolding kind_op_imm32 match
returns-in_default-funct7-2 c =
    rw (c.in-5.is, ne_eqb c.args.d.now.funct7 0 (search rules), ne_eqb c.args.d.now.funct7 32 (search rules)) (search rules)

pub returns-in_default : goal.returns-in_default
unfolding kind_op_imm32 match
returns-in_default c =
    simp (
      ne_eqb c.args.d.now.funct3 0 (search rules),
      ne_eqb c.args.d.now.funct3 1 (search rules),
      ne_eqb c.args.d.now.funct3 5 (search rules),
    ) (search rules)
