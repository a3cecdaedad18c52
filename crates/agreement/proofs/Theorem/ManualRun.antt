-- The manual's run by itself: it keeps x0 and a 64-bit pc, and how a turn changes its state.
use Rattle.std.proofs.Common.{Bool, cond, false, true, List, [], ◌∷◌, ◌∙◌, ◌≡◌, refl, sym, ◌+◌, ◌<◌, ◌^◌, suc, zero, ℕ, arith, eqb, drop}
use Rattle.std.specs.Prelude.{Option, None, Some}
use native.Mathlib.Decide.{ℕ_discrete}
use Rattle.agreement.specs.Common.{Helper}
use Rattle.agreement.specs.Riscv.Fields.{plus, rd, rs1, rs2}
use Rattle.agreement.specs.Riscv.Instruction.{Instruction, branches}
use Rattle.agreement.specs.Riscv.Instruction.Instruction.{AUIPC, FENCE, FENCE_I, JAL, JALR, LUI, access, branch, op, op_imm, other, unmodelled}
use Rattle.agreement.specs.Riscv.Run.{Feed, GuestState, Left, Read, Registers, does, is_long, one_more, read_turn, reading, in_line, does_halfword}
use Rattle.agreement.specs.Riscv.Run.{refused, resume, run_of, settle, taken, turn, word_of, write_x, does_word}
use Rattle.agreement.specs.Riscv.Run.Stop.{called, plain}
use Rattle.agreement.proofs.Laws.Tests.{eqb_no, eqb_yes}
use Rattle.agreement.specs.Riscv.Immediates as Manual

pub record Stays (x : Registers) (q : Read) : Type 0 where
  pub x0 : q.registers 0 ≡ x 0
  pub low : q.pc < 2 ^ 64

write_x0 : (x : Registers) (d v : ℕ) → write_x x d v 0 ≡ x 0
unfolding write_x
write_x0 x d v = go (ℕ_discrete d 0)
  where
    go : Dec (d ≡ 0) → cond (eqb d 0) (x 0) (cond (eqb 0 d) v (x 0)) ≡ x 0
    go (yes p) = rw (eqb_yes d 0 p)
    go (no n) = rw (eqb_no d 0 n) (rw (eqb_no 0 d (λ e. n (sym e))))

-- a straight word that writes v to rd
stays_on : (x : Registers) (d v : ℕ) (k : Registers → Read) → ((x : Registers) → Stays x (k x)) → Stays x (one_more (k (write_x x d v)))
stays_on x d v k f = let r = f (write_x x d v) in record { x0 = r.x0 ∙ write_x0 x d v; low = r.low }

stays_does : (i : Instruction) (z pc w : ℕ) (x : Registers) (k : Registers → Read)
    → pc < 2 ^ 64 → ((x : Registers) → Stays x (k x)) → Stays x (does i z pc w x k)
unfolding does
stays_does (op o) z pc w x k h f = stays_on x (rd w) _ k f
stays_does (op_imm o) z pc w x k h f = stays_on x (rd w) _ k f
stays_does LUI z pc w x k h f = stays_on x (rd w) _ k f
stays_does AUIPC z pc w x k h f = stays_on x (rd w) _ k f
stays_does FENCE z pc w x k h f = let r = f x in record { x0 = r.x0; low = r.low }
stays_does FENCE_I z pc w x k h f = record { x0 = refl; low = omega arith }
stays_does (branch c) z pc w x k h f = record { x0 = refl; low = go (branches c (x (rs1 w)) (x (rs2 w))) }
  where
    go : (t : Bool) → cond t (plus pc (Manual.imm_b w)) (plus pc z) < 2 ^ 64
    go true = omega arith
    go false = omega arith
stays_does JAL z pc w x k h f = record { x0 = write_x0 x (rd w) _; low = omega arith }
stays_does JALR z pc w x k h f = record { x0 = write_x0 x (rd w) _; low = omega arith }
stays_does (access a) z pc w x k h f = record { x0 = refl; low = h }
stays_does (unmodelled o) z pc w x k h f = record { x0 = refl; low = h }
stays_does other z pc w x k h f = record { x0 = refl; low = h }

stays_long : (pc g : ℕ) (hs : List ℕ) (x : Registers) (k : Registers → Read)
    → pc < 2 ^ 64 → ((x : Registers) → Stays x (k x)) → Stays x (does_word pc g hs x k)
stays_long pc g [] x k h f = record { x0 = refl; low = h }
stays_long pc g (u ∷ hs) x k h f = stays_does (taken (word_of g u)) 4 pc (word_of g u) x k h f

stays_short : (o : Option ℕ) (pc g : ℕ) (x : Registers) (k : Registers → Read)
    → pc < 2 ^ 64 → ((x : Registers) → Stays x (k x)) → Stays x (does_halfword o pc g x k)
stays_short None pc g x k h f = record { x0 = refl; low = h }
stays_short (Some w) pc g x k h f = stays_does (taken w) 2 pc w x k h f

pub stays : (n pc : ℕ) (hs : List ℕ) (x : Registers) → pc < 2 ^ 64 → Stays x (reading n pc hs x)
unfolding reading
stays zero pc hs x h = record { x0 = refl; low = h }
stays (suc n) pc [] x h = record { x0 = refl; low = h }
stays (suc n) pc (g ∷ hs) x h =
    go (is_long g) (λ x. stays n (plus pc 4) (drop 1 hs) x (omega arith)) (λ x. stays n (plus pc 2) hs x (omega arith))
  where
    Follows : ℕ → List ℕ → Type 0
    Follows z hs = (x : Registers) → Stays x (reading n (plus pc z) hs x)

    go : (t : Bool) → Follows 4 (drop 1 hs) → Follows 2 hs → Stays x (elim t [
      | true ↦ does_word pc g hs x (reading n (plus pc 4) (drop 1 hs))
      | false ↦ does_halfword (in_line g) pc g x (reading n (plus pc 2) hs)
    ])
    go true f k = stays_long pc g hs x _ h f
    go false f k = stays_short (in_line g) pc g x _ h k

-- the state after a turn
pub turn_plain : (f : Feed) (m : GuestState) → refused f.limit m.pc (run_of f m) f.room ≡ false → (read_turn f m).stop ≡ plain
    → turn f m ≡ record { registers = (read_turn f m).registers; pc = (read_turn f m).pc; count = m.count + (read_turn f m).added }
unfolding turn settle
turn_plain f m e p = rw (e, turn) (rw p)

pub turn_called : (f : Feed) (m : GuestState) (h : Helper) (i : ℕ) (l : Left) → refused f.limit m.pc (run_of f m) f.room ≡ false
    → (read_turn f m).stop ≡ called h i → f.left ≡ Some l → turn f m ≡ record { registers = l.slots; pc = l.rax; count = 0 }
unfolding turn settle resume
turn_called f m h i l e p q = rw (e, turn) (rw p (rw q))

pub turn_refused : (f : Feed) (m : GuestState) → refused f.limit m.pc (run_of f m) f.room ≡ true → turn f m ≡ m
unfolding turn
turn_refused f m e = rw (e, turn)
