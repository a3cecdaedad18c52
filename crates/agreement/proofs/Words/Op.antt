-- Words with two source registers: R10 gets the manual's value.
use Rattle.std.proofs.Common.{Bool, false, not, true, List, [], ◌++◌, ◌∷◌, ◌∙◌, ◌≡◌, ap, refl, sym, ◌%◌, ◌*◌, ◌+◌, ◌/◌, ◌<◌, ◌^◌, ◌≤◌, ℕ}
use Rattle.std.proofs.Common.{mod-eq_of_lt, arith, bit_and, T, ltb, length}
use native.Mathlib.Nat.{add-mod, mod-mod}
use lib.Bits.{and_lt, and_mask, or_lt, xor_lt}
use lib.Pow.{shr_le}
use Rattle.agreement.specs.Riscv.Instruction.{Op, less, one_if, shift_right_arithmetic, value_op, word}
use Rattle.agreement.specs.Riscv.Instruction.Op.{ADD, ADDW, AND, MUL, MULW, OR, SLL, SLLW, SLT, SLTU, SRA, SRAW, SRL, SRLW, SUB, SUBW}
use Rattle.agreement.specs.Riscv.Instruction.Op.{XOR, DIV, DIVU, DIVUW, DIVW, MULH, MULHSU, MULHU, REM, REMU, REMUW, REMW}
use Rattle.agreement.specs.Riscv.Run.{Registers, write_x}
use Rattle.agreement.specs.Translation.Emit.{body_op, code_op, load_reg, store_reg}
use Rattle.agreement.specs.X86.Execute.{exec}
use Rattle.agreement.specs.X86.Flags.{alu_flags, alu_value, bit_of, sext, shifted}
use Rattle.agreement.specs.X86.Form.{Instr, R10, R11, RAX, Shift.sar}
use Rattle.agreement.specs.X86.State.{Flags, State}
use Rattle.agreement.specs.X86.Step.{past}
use Rattle.agreement.proofs.Host.Fetching.{one}
use Rattle.agreement.proofs.Host.Straight.{run}
use Rattle.agreement.proofs.Laws.Compare.{cmp-B, cmp-L}
use Rattle.agreement.proofs.Laws.Width.{sar_lt, shift_right_is, word_is, word_lt, word_mod}
use Rattle.agreement.proofs.Words.Slots.{InR10, Loaded, Slots, left_left, load_two, slot_lt, slots_left, stored}
use Rattle.agreement.proofs.Words.Fit.{Leads, fit_body_op, fit_loads, fit_store, leads_append, leads_straight}
use Rattle.agreement.proofs.Laws.Signed.{mulh_is, mulhsu_is, mulhu_is, quotient-lt, quotient_u-lt, remainder-lt, remainder_u-lt, upper_lt}
use Rattle.agreement.proofs.Words.Division.{Computed, div, divu, divuw, divw, rem, remu, remuw, remw}
use Rattle.agreement.specs.Statement.Steps.{divides}

-- SETcc and MOVZX
pub al_is : (a : ℕ) (t : Bool) → (a / 256 * 256 + bit_of t) % 256 ≡ one_if t
unfolding one_if
al_is a true = omega arith
al_is a false = omega arith

pub one_if-lt : (t : Bool) → one_if t < 2 ^ 64
unfolding one_if
one_if-lt true = omega arith
one_if-lt false = omega arith

-- the arithmetic shifts, cited at 64 and 32 bits
pub sra_is : (a c : ℕ) → a < 2 ^ 64 → c < 64 → shifted 64 sar a c ≡ shift_right_arithmetic 64 a c
sra_is a c h l = sym (shift_right_is 63 a c h (omega arith))

pub sraw_is : (a c : ℕ) → c < 32
    → sext 32 64 (shifted 32 sar (a % 2 ^ 32) c % 2 ^ 32) ≡ word (shift_right_arithmetic 32 (a % 2 ^ 32) c)
sraw_is a c l = word_is _ _ (ap (◌% 2 ^ 32) (sym (shift_right_is 31 (a % 2 ^ 32) c (omega arith) (omega arith))))

pub sra_lt : (a c : ℕ) → a < 2 ^ 64 → c < 64 → shift_right_arithmetic 64 a c < 2 ^ 64
sra_lt a c h l = rw (shift_right_is 63 a c h (omega arith)) (sar_lt 64 a c h)

-- AND RCX, 1F and then the count's own mask
mask5 : (y : ℕ) → bit_and y (sext 8 64 31) % 32 ≡ y % 32
unfolding sext
mask5 y = rw (and_mask y 5) (mod-mod y 32)

straightly : (undefined : State → Flags) (o : Op) → T (not (divides o)) → (s : State) (v : ℕ)
    → InR10 s (run undefined (body_op o) s) v → Computed undefined (body_op o) s v
straightly undefined o g s v p = record {
  n = length (body_op o);
  t = run undefined (body_op o) s;
  leads = leads_straight undefined (body_op o) s (fit_body_op o g);
  left = p;
}

body_op_lem : (undefined : State → Flags) (o : Op) (s : State) (a b : ℕ) → a < 2 ^ 64 → b < 2 ^ 64
    → s.regs R10 ≡ a → s.regs R11 ≡ b → Computed undefined (body_op o) s (value_op o a b)
unfolding run one past exec alu_value alu_flags value_op shifted divides
body_op_lem undefined ADD s a b h k e f = straightly undefined ADD tt s _
    (record { rbx = refl; ten = rw (e, f) (rw (mod-eq_of_lt h, mod-eq_of_lt k)); same = refl })
body_op_lem undefined SUB s a b h k e f = straightly undefined SUB tt s _
    (record { rbx = refl; ten = rw (e, f) (rw (mod-eq_of_lt h, mod-eq_of_lt k)); same = refl })
body_op_lem undefined SLL s a b h k e f = straightly undefined SLL tt s _
    (record { rbx = refl; ten = rw (e, f) (rw (mod-eq_of_lt h)); same = refl })
body_op_lem undefined SLT s a b h k e f = straightly undefined SLT tt s _ (record {
  rbx = refl;
  ten = rw (e, f) (rw (mod-eq_of_lt h, mod-eq_of_lt k) (rw (cmp-L 63 a b h k) (al_is (s.regs RAX) (less a b))));
  same = refl;
})
body_op_lem undefined SLTU s a b h k e f = straightly undefined SLTU tt s _ (record {
  rbx = refl;
  ten = rw (e, f) (rw (mod-eq_of_lt h, mod-eq_of_lt k) (rw (cmp-B 64 a b) (al_is (s.regs RAX) (ltb a b))));
  same = refl;
})
body_op_lem undefined XOR s a b h k e f = straightly undefined XOR tt s _
    (record { rbx = refl; ten = rw (e, f) (rw (mod-eq_of_lt h, mod-eq_of_lt k)); same = refl })
body_op_lem undefined SRL s a b h k e f = straightly undefined SRL tt s _
    (record { rbx = refl; ten = rw (e, f) (rw (mod-eq_of_lt h)); same = refl })
body_op_lem undefined SRA s a b h k e f = straightly undefined SRA tt s _ (record {
  rbx = refl;
  ten = rw (e, f) (rw (mod-eq_of_lt h) (sra_is a (b % 64) h (omega arith)));
  same = refl;
})
body_op_lem undefined OR s a b h k e f = straightly undefined OR tt s _
    (record { rbx = refl; ten = rw (e, f) (rw (mod-eq_of_lt h, mod-eq_of_lt k)); same = refl })
body_op_lem undefined AND s a b h k e f = straightly undefined AND tt s _
    (record { rbx = refl; ten = rw (e, f) (rw (mod-eq_of_lt h, mod-eq_of_lt k)); same = refl })
body_op_lem undefined ADDW s a b h k e f = straightly undefined ADDW tt s _ (record {
  rbx = refl;
  ten = rw (e, f) (word_is _ (a + b) (mod-mod _ (2 ^ 32) ∙ sym (add-mod a b (2 ^ 32))));
  same = refl;
})
body_op_lem undefined SUBW s a b h k e f = straightly undefined SUBW tt s _
    (record { rbx = refl; ten = rw (e, f) (word_mod _); same = refl })
body_op_lem undefined SLLW s a b h k e f = straightly undefined SLLW tt s _ (record {
  rbx = refl;
  ten = rw (e, f) (rw (mod-eq_of_lt k) (rw (mask5 b) (word_mod _)));
  same = refl;
})
body_op_lem undefined SRLW s a b h k e f = straightly undefined SRLW tt s _ (record {
  rbx = refl;
  ten = rw (e, f) (rw (mod-eq_of_lt k) (rw (mask5 b) (word_is _ _ refl)));
  same = refl;
})
body_op_lem undefined SRAW s a b h k e f = straightly undefined SRAW tt s _ (record {
  rbx = refl;
  ten = rw (e, f) (rw (mod-eq_of_lt k) (rw (mask5 b) (sraw_is a (b % 32) (omega arith))));
  same = refl;
})
body_op_lem undefined MUL s a b h k e f = straightly undefined MUL tt s _
    (record { rbx = refl; ten = rw (e, f); same = refl })
body_op_lem undefined MULW s a b h k e f = straightly undefined MULW tt s _
    (record { rbx = refl; ten = rw (e, f) (word_mod _); same = refl })
body_op_lem undefined MULH s a b h k e f = straightly undefined MULH tt s _ (record {
  rbx = refl;
  ten = rw (e, f) (rw (mod-eq_of_lt h, mod-eq_of_lt k) (mulh_is a b));
  same = refl;
})
body_op_lem undefined MULHSU s a b h k e f = straightly undefined MULHSU tt s _ (record {
  rbx = refl;
  ten = rw (e, f) (rw (mod-eq_of_lt h, mod-eq_of_lt k) (mulhsu_is a b h k));
  same = refl;
})
body_op_lem undefined MULHU s a b h k e f = straightly undefined MULHU tt s _ (record {
  rbx = refl;
  ten = rw (e, f) (rw (mod-eq_of_lt h, mod-eq_of_lt k) (mulhu_is a b h k));
  same = refl;
})
body_op_lem undefined DIV s a b h k e f = div undefined s a b h k e f
body_op_lem undefined DIVU s a b h k e f = divu undefined s a b h k e f
body_op_lem undefined REM s a b h k e f = rem undefined s a b h k e f
body_op_lem undefined REMU s a b h k e f = remu undefined s a b h k e f
body_op_lem undefined DIVW s a b h k e f = divw undefined s a b h k e f
body_op_lem undefined DIVUW s a b h k e f = divuw undefined s a b h k e f
body_op_lem undefined REMW s a b h k e f = remw undefined s a b h k e f
body_op_lem undefined REMUW s a b h k e f = remuw undefined s a b h k e f

value_op-lt : (o : Op) (a b : ℕ) → a < 2 ^ 64 → b < 2 ^ 64 → value_op o a b < 2 ^ 64
unfolding value_op
value_op-lt ADD a b h k = omega arith
value_op-lt SUB a b h k = omega arith
value_op-lt SLL a b h k = omega arith
value_op-lt SLT a b h k = one_if-lt (less a b)
value_op-lt SLTU a b h k = one_if-lt (ltb a b)
value_op-lt XOR a b h k = xor_lt 64 a b h k
value_op-lt SRL a b h k = omega (arith, shr_le a (b % 64))
value_op-lt SRA a b h k = sra_lt a (b % 64) h (omega arith)
value_op-lt OR a b h k = or_lt 64 a b h k
value_op-lt AND a b h k = and_lt 64 a b h k
value_op-lt ADDW a b h k = word_lt _
value_op-lt SUBW a b h k = word_lt _
value_op-lt SLLW a b h k = word_lt _
value_op-lt SRLW a b h k = word_lt _
value_op-lt SRAW a b h k = word_lt _
value_op-lt MUL a b h k = omega arith
value_op-lt MULW a b h k = word_lt _
value_op-lt MULH a b h k = upper_lt _
value_op-lt MULHSU a b h k = upper_lt _
value_op-lt MULHU a b h k = upper_lt _
value_op-lt DIV a b h k = quotient-lt 63 a b
value_op-lt DIVU a b h k = quotient_u-lt 64 a b h
value_op-lt REM a b h k = remainder-lt 64 a b h
value_op-lt REMU a b h k = remainder_u-lt 64 a b h
value_op-lt DIVW a b h k = word_lt _
value_op-lt DIVUW a b h k = word_lt _
value_op-lt REMW a b h k = word_lt _
value_op-lt REMUW a b h k = word_lt _

module _ (undefined : State → Flags) (b : ℕ) (fits : b + 256 ≤ 2 ^ 64) where
  -- the code of a word leads to a state whose slots are x
  pub record Done (is : List Instr) (s : State) (x : Registers) : Type 0 where
    pub n : ℕ
    pub t : State
    pub leads : Leads undefined is s n t
    pub slots : Slots b x t

  pub op_done : (o : Op) (x : Registers) (s : State) (d p q : ℕ) → Slots b x s → d < 32 → p < 32 → q < 32
      → Done (code_op o d p q) s (write_x x d (value_op o (x p) (x q)))
  op_done o x s d p q h l k m =
      let loads : List Instr = load_reg R10 p ∷ load_reg R11 q ∷ [] in
      let t : State = run undefined loads s in
      let v : ℕ = value_op o (x p) (x q) in
      let g : Loaded undefined b fits x s t p q = load_two undefined b fits x s p q h k m in
      let lp : x p < 2 ^ 64 = slot_lt undefined b fits x s p h k in
      let lq : x q < 2 ^ 64 = slot_lt undefined b fits x s q h m in
      let w : Computed undefined (body_op o) t v = body_op_lem undefined o t (x p) (x q) lp lq g.left.ten g.eleven in
      let u : State = w.t in
      let r : State = run undefined (store_reg d R10) u in
      let k1 : ℕ = length (store_reg d R10) in
      record {
        n = 2 + (w.n + k1);
        t = r;
        leads = leads_append undefined loads (body_op o ++ store_reg d R10) s t r 2 (w.n + k1)
            (leads_straight undefined loads s (fit_loads p q k m))
            (leads_append undefined (body_op o) (store_reg d R10) t u r w.n k1 w.leads
            (leads_straight undefined (store_reg d R10) u (fit_store d l)));
        slots = stored undefined b fits x u d v
            (slots_left undefined b fits x s u v h (left_left s t u (x p) v g.left w.left)) l
            (value_op-lt o (x p) (x q) lp lq) w.left.ten;
      }
