-- Words with a register and an immediate: R10 gets the manual's value.
-- i is the immediate's 32 bits in the host instruction, I the manual's 64 bits, of which i is the low half.
use Rattle.std.proofs.Common.{[], ◌∷◌, ◌≡◌, refl, ◌%◌, ◌+◌, ◌<◌, ◌^◌, ◌≤◌, ℕ, mod-eq_of_lt, arith, ltb}
use lib.Bits.{and_lt, or_lt, xor_lt}
use lib.Pow.{shr_le}
use Rattle.agreement.specs.Riscv.Instruction.{OpImm, less, value_op_imm}
use Rattle.agreement.specs.Riscv.Instruction.OpImm.{ADDI, ADDIW, ANDI, ORI, SLLI, SLLIW, SLTI, SLTIU, SRAI, SRAIW, SRLI, SRLIW, XORI}
use Rattle.agreement.specs.Riscv.Run.{Registers, write_x}
use Rattle.agreement.specs.Translation.Emit.{body_op_imm, code_op_imm, load_reg}
use Rattle.agreement.specs.X86.Execute.{exec}
use Rattle.agreement.specs.X86.Flags.{alu_flags, alu_value, sext, shifted}
use Rattle.agreement.specs.X86.Form.{R10, RAX}
use Rattle.agreement.specs.X86.State.{Flags, State}
use Rattle.agreement.specs.X86.Step.{past}
use Rattle.agreement.proofs.Host.Fetching.{one}
use Rattle.agreement.proofs.Host.Straight.{run, run-append}
use Rattle.agreement.proofs.Laws.Compare.{cmp-B, cmp-L}
use Rattle.agreement.proofs.Words.Op.{al_is, one_if-lt, sra_is, sra_lt, sraw_is}
use Rattle.agreement.proofs.Words.Slots.{InR10, Slots, finish, left_left, load_one, slot_lt}
use Rattle.agreement.proofs.Laws.Width.{word_is, word_lt, word_mod}

body_imm : (undefined : State → Flags) (o : OpImm) (s : State) (a i I c d : ℕ) → a < 2 ^ 64 → I < 2 ^ 64 → c < 64 → d < 32
    → sext 32 64 i ≡ I → s.regs R10 ≡ a → InR10 s (run undefined (body_op_imm o i c d) s) (value_op_imm o a I c d)
unfolding run one past exec alu_value alu_flags value_op_imm shifted
body_imm undefined ADDI s a i I c d h k m n q e = record { rbx = refl; ten = rw (e, q) (rw (mod-eq_of_lt h)); same = refl }
body_imm undefined SLTI s a i I c d h k m n q e = record {
  rbx = refl;
  ten = rw (e, q) (rw (mod-eq_of_lt h) (rw (cmp-L 63 a I h k) (al_is (s.regs RAX) (less a I))));
  same = refl;
}
body_imm undefined SLTIU s a i I c d h k m n q e = record {
  rbx = refl;
  ten = rw (e, q) (rw (mod-eq_of_lt h) (rw (cmp-B 64 a I) (al_is (s.regs RAX) (ltb a I))));
  same = refl;
}
body_imm undefined XORI s a i I c d h k m n q e = record { rbx = refl; ten = rw (e, q) (rw (mod-eq_of_lt h)); same = refl }
body_imm undefined ORI s a i I c d h k m n q e = record { rbx = refl; ten = rw (e, q) (rw (mod-eq_of_lt h)); same = refl }
body_imm undefined ANDI s a i I c d h k m n q e = record { rbx = refl; ten = rw (e, q) (rw (mod-eq_of_lt h)); same = refl }
body_imm undefined SLLI s a i I c d h k m n q e = record { rbx = refl; ten = rw e (rw (mod-eq_of_lt h, mod-eq_of_lt m)); same = refl }
body_imm undefined SRLI s a i I c d h k m n q e = record { rbx = refl; ten = rw e (rw (mod-eq_of_lt h, mod-eq_of_lt m)); same = refl }
body_imm undefined SRAI s a i I c d h k m n q e = record {
  rbx = refl;
  ten = rw e (rw (mod-eq_of_lt h, mod-eq_of_lt m) (sra_is a c h m));
  same = refl;
}
body_imm undefined ADDIW s a i I c d h k m n q e = record {
  rbx = refl;
  ten = rw (e, q) (rw (mod-eq_of_lt h) (word_is ((a + I) % 2 ^ 64) (a + I) (omega arith)));
  same = refl;
}
body_imm undefined SLLIW s a i I c d h k m n q e = record { rbx = refl; ten = rw e (rw (mod-eq_of_lt n) (word_mod _)); same = refl }
body_imm undefined SRLIW s a i I c d h k m n q e = record { rbx = refl; ten = rw e (rw (mod-eq_of_lt n) (word_is _ _ refl)); same = refl }
body_imm undefined SRAIW s a i I c d h k m n q e = record { rbx = refl; ten = rw e (rw (mod-eq_of_lt n) (sraw_is a d n)); same = refl }

value_op_imm-lt : (o : OpImm) (a I c d : ℕ) → a < 2 ^ 64 → I < 2 ^ 64 → c < 64 → d < 32 → value_op_imm o a I c d < 2 ^ 64
unfolding value_op_imm
value_op_imm-lt ADDI a I c d h k m n = omega arith
value_op_imm-lt SLTI a I c d h k m n = one_if-lt (less a I)
value_op_imm-lt SLTIU a I c d h k m n = one_if-lt (ltb a I)
value_op_imm-lt XORI a I c d h k m n = xor_lt 64 a I h k
value_op_imm-lt ORI a I c d h k m n = or_lt 64 a I h k
value_op_imm-lt ANDI a I c d h k m n = and_lt 64 a I h k
value_op_imm-lt SLLI a I c d h k m n = omega arith
value_op_imm-lt SRLI a I c d h k m n = omega (arith, shr_le a c)
value_op_imm-lt SRAI a I c d h k m n = sra_lt a c h m
value_op_imm-lt ADDIW a I c d h k m n = word_lt _
value_op_imm-lt SLLIW a I c d h k m n = word_lt _
value_op_imm-lt SRLIW a I c d h k m n = word_lt _
value_op_imm-lt SRAIW a I c d h k m n = word_lt _

module _ (undefined : State → Flags) (b : ℕ) (fits : b + 256 ≤ 2 ^ 64) where
  pub op_imm_slots : (o : OpImm) (x : Registers) (s : State) (r p i I c d : ℕ) → Slots b x s → r < 32 → p < 32
      → I < 2 ^ 64 → c < 64 → d < 32 → sext 32 64 i ≡ I
      → Slots b (write_x x r (value_op_imm o (x p) I c d)) (run undefined (code_op_imm o r p i c d) s)
  op_imm_slots o x s r p i I c d h l k m n w e =
      let t : State = run undefined (load_reg R10 p ∷ []) s in
      let v : ℕ = value_op_imm o (x p) I c d in
      let g : InR10 s t (x p) = load_one undefined b fits x s p h k in
      let lp : x p < 2 ^ 64 = slot_lt undefined b fits x s p h k in
      let q : InR10 t (run undefined (body_op_imm o i c d) t) v = body_imm undefined o t (x p) i I c d lp m n w e g.ten in
      finish undefined b fits x s (load_reg R10 p ∷ body_op_imm o i c d) r v h l (value_op_imm-lt o (x p) I c d lp m n w)
      (rw (run-append undefined (load_reg R10 p ∷ []) (body_op_imm o i c d) s) (left_left s t _ (x p) v g q))
