-- One test for each opcode: 40 words of it, one of each class and funct3.
use Rattle.std.proofs.Common.{refl, rules, arith}
use Rattle.agreement.specs.Translation.Kind.{match, kind_of, kind_op, kind_op32, kind_op_imm, kind_op_imm32, kind_branch, kind_load, kind_store}
use Rattle.agreement.specs.Translation.Kind.{kind_fence}
use Rattle.agreement.proofs.Laws.Matches.{missed}
use Rattle.kind.proofs.Families.{with_kind_by_test, with_kind_none}
use Rattle.kind.proofs.family.Family.of.Goals as goal

pub returns-in-55 : goal.returns-in-55
unfolding kind_of kind_op kind_op32 kind_op_imm kind_op_imm32 kind_branch kind_load kind_store kind_fence match
returns-in-55 c = rw c.in-55.is (with_kind_by_test _ _ (omega arith) tt)

pub returns-in-23 : goal.returns-in-23
unfolding kind_of kind_op kind_op32 kind_op_imm kind_op_imm32 kind_branch kind_load kind_store kind_fence match
returns-in-23 c = rw c.in-23.is (with_kind_by_test _ _ (omega arith) tt)

pub returns-in-111 : goal.returns-in-111
unfolding kind_of kind_op kind_op32 kind_op_imm kind_op_imm32 kind_branch kind_load kind_store kind_fence match
returns-in-111 c = rw c.in-111.is (with_kind_by_test _ _ (omega arith) tt)

pub returns-in-103 : goal.returns-in-103
unfolding kind_of kind_op kind_op32 kind_op_imm kind_op_imm32 kind_branch kind_load kind_store kind_fence match
returns-in-103 c = rw c.in-103.is (with_kind_by_test _ _ (omega arith) tt)

pub returns-in-99 : goal.returns-in-99
unfolding kind_of kind_op kind_op32 kind_op_imm kind_op_imm32 kind_branch kind_load kind_store kind_fence match
returns-in-99 c = rw c.in-99.is (with_kind_by_test _ _ (omega arith) tt)

pub returns-in-19 : goal.returns-in-19
unfolding kind_of kind_op kind_op32 kind_op_imm kind_op_imm32 kind_branch kind_load kind_store kind_fence match
returns-in-19 c = rw c.in-19.is (with_kind_by_test _ _ (omega arith) tt)

pub returns-in-27 : goal.returns-in-27
unfolding kind_of kind_op kind_op32 kind_op_imm kind_op_imm32 kind_branch kind_load kind_store kind_fence match
returns-in-27 c = rw c.in-27.is (with_kind_by_test _ _ (omega arith) tt)

pub returns-in-51 : goal.returns-in-51
unfolding kind_of kind_op kind_op32 kind_op_imm kind_op_imm32 kind_branch kind_load kind_store kind_fence match
returns-in-51 c = rw c.in-51.is (with_kind_by_test _ _ (omega arith) tt)

pub returns-in-59 : goal.returns-in-59
unfolding kind_of kind_op kind_op32 kind_op_imm kind_op_imm32 kind_branch kind_load kind_store kind_fence match
returns-in-59 c = rw c.in-59.is (with_kind_by_test _ _ (omega arith) tt)

pub returns-in-15 : goal.returns-in-15
unfolding kind_of kind_op kind_op32 kind_op_imm kind_op_imm32 kind_branch kind_load kind_store kind_fence match
returns-in-15 c = rw c.in-15.is (with_kind_by_test _ _ (omega arith) tt)

pub returns-in-3 : goal.returns-in-3
unfolding kind_of kind_op kind_op32 kind_op_imm kind_op_imm32 kind_branch kind_load kind_store kind_fence match
returns-in-3 c = rw c.in-3.is (with_kind_by_test _ _ (omega arith) tt)

pub returns-in-35 : goal.returns-in-35
unfolding kind_of kind_op kind_op32 kind_op_imm kind_op_imm32 kind_branch kind_load kind_store kind_fence match
returns-in-35 c = rw c.in-35.is (with_kind_by_test _ _ (omega arith) tt)

-- the last arm: the opcode is no arm's pattern
pub returns-in_default : goal.returns-in_default
unfolding kind_of
returns-in_default c = with_kind_none _ _ refl (λ f s. missed _ _ (search rules))
