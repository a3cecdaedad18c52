-- The manual's state along the example, turn by turn, by computing.
use Rattle.std.proofs.Common.{cond, false, not, true, ◌∙◌, ◌≡◌, ap, refl, ◌%◌, ◌+◌, ◌^◌, arith, eqb}
use Rattle.agreement.specs.Common.{Helper.for_access, Helper.for_halfword}
use Rattle.agreement.specs.Riscv.Compressed.{expansion, expansion_by}
use Rattle.agreement.specs.Riscv.Compressed as Compressed
use Rattle.agreement.specs.Riscv.Immediates.{sign_extend}
use Rattle.agreement.specs.Riscv.Instruction.{branches, find, find_in, named, three_is, top_is, value_op_imm}
use Rattle.agreement.specs.Riscv.Code.{run_at}
use Rattle.agreement.specs.Riscv.Run.{GuestState, Registers, does, first_refused, help, is_long, is_not_taken, reading, refused, taken, in_line}
use Rattle.agreement.specs.Riscv.Run.{write_x, if_in_line}
use Rattle.agreement.specs.Riscv.Run.Stop.{called, plain}
use Rattle.agreement.specs.Riscv.Immediates as Manual
use Rattle.agreement.specs.Statement.Agreement.{feed_of, is_refused, start}
use Rattle.agreement.specs.X86.Memory.{read, write}
use Rattle.agreement.specs.X86.State.{State}
use Rattle.agreement.specs.Cases.{words}
use Rattle.agreement.proofs.Checks.Example.{first_pc, halfword_turn, helper_turn, leaves, odd_turn, plain_turn, refused_turn, zeros}
use Rattle.agreement.proofs.Host.Memory.{read_other, read-write}
use Rattle.agreement.proofs.Theorem.Consequences.{after_helper, after_plain, read_as}

abbrev pub m0 : GuestState
m0 = start first_pc zeros

-- which kind of turn each is, by computing
unfoldable pub reads_a_turn : Unit {0}
unfolding
    run_at refused first_refused is_not_taken is_long taken named find_in find three_is top_is sign_extend
    Compressed.find expansion_by expansion if_in_line in_line reading does words feed_of leaves
reads_a_turn = tt

pub first_refused_lem : is_refused refused_turn m0 ≡ true
unfolding reads_a_turn
first_refused_lem = refl

pub second_taken : is_refused helper_turn m0 ≡ false
unfolding reads_a_turn
second_taken = refl

pub second_calls : (read_as helper_turn m0).stop ≡ called for_access 0x0000B083
unfolding reads_a_turn
second_calls = refl

pub second_x1 : (read_as helper_turn m0).registers 1 ≡ 5
unfolding reads_a_turn value_op_imm Manual.sign_extend write_x read
second_x1 = refl

pub third_taken : (a : State) → is_refused plain_turn (after_helper helper_turn a) ≡ false
unfolding reads_a_turn
third_taken a = refl

pub third_plain : (a : State) → (read_as plain_turn (after_helper helper_turn a)).stop ≡ plain
unfolding reads_a_turn
third_plain a = refl

-- the states after the second and the third turn, the helper having been entered in a
abbrev pub m2 : State → GuestState
m2 a = after_helper helper_turn a

abbrev pub m3 : State → GuestState
m3 a = after_plain plain_turn (m2 a)

pub x1_is : (a : State) → (m2 a).registers 1 ≡ 7
unfolding leaves
x1_is a =
    read_other 8 8 (write 8 a.mem 0x10008 7) 0x10000 0 0x10008 (omega arith) (omega arith) (λ i j k l. omega arith)
    ∙ read-write 8 a.mem 0x10008 7 (omega arith) (omega arith)

-- ADDI x2, x1, 1 and BNE x1, x2, 16 from registers x
third_registers : (a : State) → (m3 a).registers ≡ write_x (m2 a).registers 2 (((m2 a).registers 1 + 1) % 2 ^ 64)
unfolding reads_a_turn value_op_imm Manual.sign_extend
third_registers a = refl

third_pc : (a : State) → (m3 a).pc ≡ cond (not (eqb ((m2 a).registers 1) (((m2 a).registers 1 + 1) % 2 ^ 64))) 0x80000024 0x80000018
unfolding reads_a_turn value_op_imm Manual.sign_extend branches write_x
third_pc a = refl

pub record AfterThree (m : GuestState) : Type 0 where
  pub pc : m.pc ≡ 0x80000024
  pub x1 : m.registers 1 ≡ 7
  pub x2 : m.registers 2 ≡ 8
  pub count : m.count ≡ 2

pub after_three : (a : State) → AfterThree (m3 a)
unfolding write_x
after_three a = record {
  pc = third_pc a ∙ rw (x1_is a);
  x1 = ap (λ (x : Registers). x 1) (third_registers a) ∙ x1_is a;
  x2 = ap (λ (x : Registers). x 2) (third_registers a) ∙ rw (x1_is a);
  count = two a;
}
  where
    two : (a : State) → (m3 a).count ≡ 2
    two a = unfold reads_a_turn in refl

-- the fourth turn, from any state at that pc, and the fifth
pub fourth_taken : (m : GuestState) → m.pc ≡ 0x80000024 → is_refused halfword_turn m ≡ false
unfolding reads_a_turn
fourth_taken m e = rw e

pub fourth_reads : (m : GuestState) → m.pc ≡ 0x80000024 → read_as halfword_turn m ≡ help m.registers 0x80000024 for_halfword 0x4108
unfolding reads_a_turn
fourth_reads m e = rw e

pub fourth_calls : (m : GuestState) → m.pc ≡ 0x80000024 → (read_as halfword_turn m).stop ≡ called for_halfword 0x4108
fourth_calls m e = rw (fourth_reads m e)

pub fifth_refused : (a : State) → is_refused odd_turn (after_helper halfword_turn a) ≡ true
unfolding reads_a_turn
fifth_refused a = refl

x10_is : (a : State) → (after_helper halfword_turn a).registers 10 ≡ 9
unfolding leaves
x10_is a =
    read_other 8 8 (write 8 a.mem 0x10050 9) 0x10000 0 0x10050 (omega arith) (omega arith) (λ i j k l. omega arith)
    ∙ read-write 8 a.mem 0x10050 9 (omega arith) (omega arith)

-- and after five: the halfword's helper leaves an odd pc, at which the last turn is refused
pub record Five (m : GuestState) : Type 0 where
  pub pc : m.pc ≡ 0x80000031
  pub x10 : m.registers 10 ≡ 9
  pub count : m.count ≡ 0

pub after_five : (a : State) → Five (after_helper halfword_turn a)
after_five a = record { pc = odd a; x10 = x10_is a; count = refl }
  where
    odd : (a : State) → (after_helper halfword_turn a).pc ≡ 0x80000031
    odd a = unfold leaves in refl
