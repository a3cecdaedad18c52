-- The simulation relation between words: RBX holds the registers' address, and each slot is its guest register.
use Rattle.std.proofs.Common.{Bool, cond, false, true, List, [], ◌++◌, ◌∷◌, ◌∙◌, ◌≡◌, refl, ◌*◌, ◌+◌, ◌/◌, ◌<◌, ◌^◌, ◌≤◌, ℕ, arith, eqb}
use Rattle.std.proofs.Common.{leb}
use native.Mathlib.Decide.{ℕ_discrete}
use Rattle.agreement.specs.Riscv.Run.{Registers, write_x}
use Rattle.agreement.specs.Translation.Emit.{load_reg, store_reg}
use Rattle.agreement.specs.X86.Execute.{exec}
use Rattle.agreement.specs.X86.Flags.{sext}
use Rattle.agreement.specs.X86.Form.{Instr, Instr.store, R10, R11, RBX}
use Rattle.agreement.specs.X86.Memory.{Memory, at, read, write}
use Rattle.agreement.specs.X86.State.{Flags, State}
use Rattle.agreement.specs.X86.Step.{past}
use Rattle.agreement.proofs.Host.Fetching.{one}
use Rattle.agreement.proofs.Host.Memory.{read64_lt, slot_other, slot_same}
use Rattle.agreement.proofs.Host.Straight.{run, run-append}
use Rattle.agreement.proofs.Laws.Tests.{eqb_no, eqb_yes, leb_no}

pub record Slots (b : ℕ) (x : Registers) (s : State) : Type 0 where
  pub base : s.regs RBX ≡ b
  pub slots : (r : ℕ) → r < 32 → read 8 s.mem (b + 8 * r) ≡ x r

-- a run of instructions left v in R10, RBX and memory as they were
pub record InR10 (s t : State) (v : ℕ) : Type 0 where
  pub rbx : t.regs RBX ≡ s.regs RBX
  pub ten : t.regs R10 ≡ v
  pub same : t.mem ≡ s.mem

pub left_left : (s t u : State) (v w : ℕ) → InR10 s t v → InR10 t u w → InR10 s u w
left_left s t u v w p q = record { rbx = q.rbx ∙ p.rbx; ten = q.ten; same = q.same ∙ p.same }

-- a displacement of a slot
pub disp_is : (b r : ℕ) → b + 256 ≤ 2 ^ 64 → r < 32 → at b (sext 32 64 (8 * r)) ≡ b + 8 * r
unfolding sext
disp_is b r h l =
    let e : leb (2 ^ 32 / 2) (8 * r) ≡ false = leb_no (2 ^ 32 / 2) (8 * r) (omega arith) in
    rw e (omega arith)

module _ (undefined : State → Flags) (b : ℕ) (fits : b + 256 ≤ 2 ^ 64) where
  pub slot_read : (x : Registers) (s : State) (r : ℕ) → Slots b x s → r < 32
      → read 8 s.mem (at (s.regs RBX) (sext 32 64 (8 * r))) ≡ x r
  slot_read x s r h l = rw h.base (rw (disp_is b r fits l) (h.slots r l))

  pub slot_lt : (x : Registers) (s : State) (r : ℕ) → Slots b x s → r < 32 → x r < 2 ^ 64
  slot_lt x s r h l = rw (h.slots r l) at (read64_lt s.mem (b + 8 * r))

  -- memory unchanged, the slots are too
  pub slots_left : (x : Registers) (s t : State) (v : ℕ) → Slots b x s → InR10 s t v → Slots b x t
  slots_left x s t v h p = record { base = p.rbx ∙ h.base; slots = λ r l. rw p.same (h.slots r l) }

  -- one load into R10; two loads into R10 and R11
  pub load_one : (x : Registers) (s : State) (r : ℕ) → Slots b x s → r < 32
      → InR10 s (run undefined (load_reg R10 r ∷ []) s) (x r)
  unfolding run one past exec
  load_one x s r h k = record { rbx = refl; ten = slot_read x s r h k; same = refl }

  pub record Loaded (x : Registers) (s t : State) (r q : ℕ) : Type 0 where
    pub left : InR10 s t (x r)
    pub eleven : t.regs R11 ≡ x q

  pub load_two : (x : Registers) (s : State) (r q : ℕ) → Slots b x s → r < 32 → q < 32
      → Loaded x s (run undefined (load_reg R10 r ∷ load_reg R11 q ∷ []) s) r q
  unfolding run one past exec
  load_two x s r q h k l = record {
    left = record { rbx = refl; ten = slot_read x s r h k; same = refl };
    eleven = slot_read x s q h l;
  }

  -- the slot of a register that is not x0 is written from the host register q
  pub put_slot : (q : ℕ) (x : Registers) (s : State) (d v : ℕ) → Slots b x s → d < 32 → v < 2 ^ 64 → s.regs q ≡ v
      → eqb d 0 ≡ false → Slots b (write_x x d v) (one undefined (store RBX (8 * d) q) s)
  unfolding one past exec write_x
  put_slot q x s d v h l k e z =
      let m : Memory = write 8 s.mem (b + 8 * d) v in
      let w : write 8 s.mem (at (s.regs RBX) (sext 32 64 (8 * d))) (s.regs q) ≡ m = rw h.base (rw (disp_is b d fits l) (rw e)) in
      record { base = h.base; slots = λ r f. rw w (rw z (by r f (ℕ_discrete r d))) }
    where
      by : (r : ℕ) → r < 32 → Dec (r ≡ d) → read 8 (write 8 s.mem (b + 8 * d) v) (b + 8 * r) ≡ cond (eqb r d) v (x r)
      by r f (yes p) = rw (eqb_yes r d p) (rw p (slot_same b d v s.mem fits l k))
      by r f (no n) = rw (eqb_no r d n) (slot_other b d r v s.mem fits l f n ∙ h.slots r f)

  -- x0 is not written
  pub slots_zero : (x : Registers) (s : State) (d v : ℕ) → Slots b x s → eqb d 0 ≡ true → Slots b (write_x x d v) s
  unfolding write_x
  slots_zero x s d v h z = record { base = h.base; slots = λ r f. rw z (h.slots r f) }

  -- R10 into rd's slot, unless rd is x0
  pub stored : (x : Registers) (s : State) (d v : ℕ) → Slots b x s → d < 32 → v < 2 ^ 64 → s.regs R10 ≡ v
      → Slots b (write_x x d v) (run undefined (store_reg d R10) s)
  unfolding run
  stored x s d v h l k e = go (eqb d 0) refl
    where
      go : (z : Bool) → eqb d 0 ≡ z → Slots b (write_x x d v) (run undefined (cond z [] (store RBX (8 * d) R10 ∷ [])) s)
      go true z = slots_zero x s d v h z
      go false z = put_slot R10 x s d v h l k e z

  -- compute, then store
  pub finish : (x : Registers) (s : State) (is : List Instr) (d v : ℕ) → Slots b x s → d < 32 → v < 2 ^ 64
      → InR10 s (run undefined is s) v → Slots b (write_x x d v) (run undefined (is ++ store_reg d R10) s)
  finish x s is d v h l k p =
      let t : State = run undefined is s in
      rw (run-append undefined is (store_reg d R10) s) (stored x t d v (slots_left x s t v h p) l k p.ten)
