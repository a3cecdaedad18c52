use Rattle.std.proofs.Common.{◌/◌, rules, ne_eqb}
use Rattle.agreement.specs.Translation.Kind.{kind_op_imm, match}
use Rattle.words.proofs.op_imm.op_imm_on_r10.Goals as goal

pub returns-in-0 : goal.returns-in-0
unfolding kind_op_imm match
returns-in-0 c = rw c.in-0.is (search rules)

pub returns-in-2 : goal.returns-in-2
unfolding kind_op_imm match
returns-in-2 c = rw c.in-2.is (search rules)

pub returns-in-3 : goal.returns-in-3
unfolding kind_op_imm match
returns-in-3 c = rw c.in-3.is (search rules)

pub returns-in-4 : goal.returns-in-4
unfolding kind_op_imm match
returns-in-4 c = rw c.in-4.is (search rules)

pub returns-in-6 : goal.returns-in-6
unfolding kind_op_imm match
returns-in-6 c = rw c.in-6.is (search rules)

pub returns-in-7 : goal.returns-in-7
unfolding kind_op_imm match
returns-in-7 c = rw c.in-7.is (search rules)

pub returns-in-0-imm_hi : goal.returns-in-0-imm_hi
unfolding kind_op_imm match
returns-in-0-imm_hi c = rw (c.in-1.is, c.in-0-imm_hi.is) (search rules)

pub returns-in-0-imm_hi-2 : goal.returns-in-0-imm_hi-2
unfolding kind_op_imm match
returns-in-0-imm_hi-2 c = rw (c.in-5.is, c.in-0-imm_hi-2.is) (search rules)

pub returns-in-16 : goal.returns-in-16
unfolding kind_op_imm match
returns-in-16 c = rw (c.in-5.is, c.in-16.is) (search rules)

pub returns-in_default-imm_hi : goal.returns-in_default-imm_hi
unfolding kind_op_imm match
returns-in_default-imm_hi c = rw (c.in-1.is, ne_eqb (c.args.d.now.imm12 / 64) 0 (search rules)) (search rules)

pub returns-in_default-imm_hi-2 : goal.returns-in_default-imm_hi-2
unfolding kind_op_imm match
returns-in_default-imm_hi-2 c =
    rw (c.in-5.is, ne_eqb (c.args.d.now.imm12 / 64) 0 (search rules), ne_eqb (c.args.d.now.imm12 / 64) 16 (search rules)) (search rules)

pub returns-in_default : goal.returns-in_default
unfolding kind_op_imm match
returns-in_default c =
    simp (
      ne_eqb c.args.d.now.funct3 0 (search rules),
      ne_eqb c.args.d.now.funct3 2 (search rules),
      ne_eqb c.args.d.now.funct3 3 (search rules),
      ne_eqb c.args.d.now.funct3 4 (search rules),
      ne_eqb c.args.d.now.funct3 6 (search rules),
      ne_eqb c.args.d.now.funct3 7 (search rules),
      ne_eqb c.args.d.now.funct3 1 (search rules),
      ne_eqb c.args.d.now.funct3 5 (search rules),
    ) (search rules)
