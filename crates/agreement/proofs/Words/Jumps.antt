-- Constants into a register, branches, JAL and JALR: the slots, and RAX at the next pc.
use Rattle.std.proofs.Common.{Bool, cond, false, not, true, List, [], ◌++◌, ◌∷◌, ◌∙◌, ◌≡◌, ap, refl, ◌%◌, ◌*◌, ◌+◌, ◌-◌, ◌/◌, ◌<◌, ◌^◌, ◌≤◌}
use Rattle.std.proofs.Common.{ℕ, mod-eq_of_lt, arith, bit_and, eqb}
use native.Mathlib.Nat.{mod-mod}
use lib.Bits.{and_high}
use Rattle.agreement.specs.Riscv.Instruction.{Branch, branches}
use Rattle.agreement.specs.Riscv.Instruction.Branch.{BEQ, BGE, BGEU, BLT, BLTU, BNE}
use Rattle.agreement.specs.Riscv.Run.{Registers, write_x}
use Rattle.agreement.specs.Translation.Emit.{cc_for, code_branch, code_const, code_jal, code_jalr, load_reg}
use Rattle.agreement.specs.X86.Execute.{exec}
use Rattle.agreement.specs.X86.Flags.{alu_flags, alu_value, holds, sext, sub_flags}
use Rattle.agreement.specs.X86.Form.{Instr, R10, R11, RAX, RBX}
use Rattle.agreement.specs.X86.Form.Alu.{add, and}
use Rattle.agreement.specs.X86.Form.Instr.{alu_imm32, mov, mov_imm64, store}
use Rattle.agreement.specs.X86.State.{Flags, State}
use Rattle.agreement.specs.X86.Step.{next, past}
use Rattle.agreement.proofs.Host.Fetching.{one}
use Rattle.agreement.proofs.Host.Straight.{run, run-append}
use Rattle.agreement.proofs.Laws.Compare.{cmp-B, cmp-E, cmp-L}
use Rattle.agreement.proofs.Words.Slots.{InR10, Slots, put_slot, slot_lt, slot_read, slots_left, slots_zero}

-- the condition of each branch after CMP
condition_is : (c : Branch) (a d : ℕ) → a < 2 ^ 64 → d < 2 ^ 64 → holds (cc_for c) (sub_flags 64 a d) ≡ branches c a d
unfolding branches holds sub_flags
condition_is BEQ a d h k = cmp-E 64 a d h k
condition_is BNE a d h k = ap not (cmp-E 64 a d h k)
condition_is BLT a d h k = cmp-L 63 a d h k
condition_is BGE a d h k = ap not (cmp-L 63 a d h k)
condition_is BLTU a d h k = cmp-B 64 a d
condition_is BGEU a d h k = ap not (cmp-B 64 a d)

-- AND with -2: the least significant bit is cleared
clears_bit : (a : ℕ) → a < 2 ^ 64 → bit_and a (sext 32 64 (2 ^ 32 - 2)) ≡ a / 2 * 2
unfolding sext
clears_bit a h = and_high a 63 1 ∙ omega arith

-- where a jump left the next pc and the slots
pub record Jumped (b : ℕ) (x : Registers) (pc : ℕ) (t : State) : Type 0 where
  pub rax : t.regs RAX ≡ pc
  pub slots : Slots b x t

module _ (undefined : State → Flags) (b : ℕ) (fits : b + 256 ≤ 2 ^ 64) where
  pub branch_jumps : (c : Branch) (x : Registers) (s : State) (p q next target : ℕ) → Slots b x s → p < 32 → q < 32
      → Jumped b x (cond (branches c (x p) (x q)) target next) (run undefined (code_branch c p q next target) s)
  unfolding run one past exec alu_flags alu_value
  branch_jumps c x s p q next target h k l =
      let lp : x p < 2 ^ 64 = slot_lt undefined b fits x s p h k in
      let lq : x q < 2 ^ 64 = slot_lt undefined b fits x s q h l in
      record {
        rax = rw (slot_read undefined b fits x s p h k, slot_read undefined b fits x s q h l)
            (rw (mod-eq_of_lt lp, mod-eq_of_lt lq) (rw (condition_is c (x p) (x q) lp lq)));
        slots = record { base = h.base; slots = h.slots };
      }

  -- LUI, AUIPC, the link of JAL
  pub const_slots : (x : Registers) (s : State) (d v : ℕ) → Slots b x s → d < 32 → v < 2 ^ 64
      → Slots b (write_x x d v) (run undefined (code_const d v) s)
  const_slots x s d v h l k = go (eqb d 0) refl
    where
      q : InR10 s (run undefined (mov_imm64 R10 v ∷ []) s) v
      q = unfold run one past exec in record { rbx = refl; ten = refl; same = refl }

      go : (z : Bool) → eqb d 0 ≡ z
          → Slots b (write_x x d v) (run undefined (cond z [] (mov_imm64 R10 v ∷ store RBX (8 * d) R10 ∷ [])) s)
      go true z = unfold run in slots_zero undefined b fits x s d v h z
      go false z =
          let t : State = run undefined (mov_imm64 R10 v ∷ []) s in
          unfold run in put_slot undefined b fits R10 x t d v (slots_left undefined b fits x s t v h q) l k q.ten z

  rax_const : (x : Registers) (s : State) (v : ℕ) → Slots b x s → Jumped b x v (run undefined (mov_imm64 RAX v ∷ []) s)
  unfolding run one past exec
  rax_const x s v h = record { rax = refl; slots = record { base = h.base; slots = h.slots } }

  pub jal_jumps : (x : Registers) (s : State) (d link target : ℕ) → Slots b x s → d < 32 → link < 2 ^ 64
      → Jumped b (write_x x d link) target (run undefined (code_jal d link target) s)
  jal_jumps x s d link target h l k =
      rw (run-append undefined (code_const d link) (mov_imm64 RAX target ∷ []) s)
      (rax_const (write_x x d link) (run undefined (code_const d link) s) target (const_slots x s d link h l k))

  -- JALR: the target into R10
  jalr_target_lem : (x : Registers) (s : State) (p i I : ℕ) → Slots b x s → p < 32 → sext 32 64 i ≡ I
      → InR10 s (run undefined (load_reg R10 p ∷ alu_imm32 add R10 i ∷ alu_imm32 and R10 (2 ^ 32 - 2) ∷ []) s) ((x p + I) % 2 ^ 64 / 2 * 2)
  unfolding run one past exec alu_value
  jalr_target_lem x s p i I h k e = record {
    rbx = refl;
    ten = rw (slot_read undefined b fits x s p h k, e)
        (rw (mod-eq_of_lt (slot_lt undefined b fits x s p h k)) (rw (mod-mod (x p + I) (2 ^ 64)) (clears_bit _ (omega arith))));
    same = refl;
  }

  -- the link through R11, and R10 to RAX
  link_in : (s : State) (v : ℕ) → InR10 s (one undefined (mov_imm64 R11 v) s) (s.regs R10)
  unfolding one past exec
  link_in s v = record { rbx = refl; ten = refl; same = refl }

  link_is : (s : State) (v : ℕ) → (one undefined (mov_imm64 R11 v) s).regs R11 ≡ v
  unfolding one past exec
  link_is s v = refl

  ten_kept : (s : State) (d : ℕ) → (one undefined (store RBX (8 * d) R11) s).regs R10 ≡ s.regs R10
  unfolding one past exec
  ten_kept s d = refl

  rax_ten : (x : Registers) (s : State) (v : ℕ) → s.regs R10 ≡ v → Slots b x s → Jumped b x v (one undefined (mov RAX R10) s)
  unfolding one past exec
  rax_ten x s v e h = record { rax = e; slots = record { base = h.base; slots = h.slots } }

  pub jalr_jumps : (x : Registers) (s : State) (d p i I link : ℕ) → Slots b x s → d < 32 → p < 32 → sext 32 64 i ≡ I → link < 2 ^ 64
      → Jumped b (write_x x d link) ((x p + I) % 2 ^ 64 / 2 * 2) (run undefined (code_jalr d p i link) s)
  jalr_jumps x s d p i I link h l k e v = go (eqb d 0) refl
    where
      is : List Instr
      is = load_reg R10 p ∷ alu_imm32 add R10 i ∷ alu_imm32 and R10 (2 ^ 32 - 2) ∷ []

      target : ℕ
      target = (x p + I) % 2 ^ 64 / 2 * 2

      t : State
      t = run undefined is s

      q : InR10 s t target
      q = jalr_target_lem x s p i I h k e

      ht : Slots b x t
      ht = slots_left undefined b fits x s t target h q

      go : (z : Bool) → eqb d 0 ≡ z
          → Jumped b (write_x x d link) target
          (run undefined (is ++ (cond z [] (mov_imm64 R11 link ∷ store RBX (8 * d) R11 ∷ []) ++ mov RAX R10 ∷ [])) s)
      go true z = unfold run in rax_ten (write_x x d link) t target q.ten (slots_zero undefined b fits x t d link ht z)
      go false z =
          let u : State = one undefined (mov_imm64 R11 link) t in
          let w : State = one undefined (store RBX (8 * d) R11) u in
          let hu : Slots b x u = slots_left undefined b fits x t u (t.regs R10) ht (link_in t link) in
          let hw : Slots b (write_x x d link) w = put_slot undefined b fits R11 x u d link hu l v (link_is t link) z in
          unfold run in rax_ten (write_x x d link) w target (ten_kept u d ∙ (link_in t link).ten ∙ q.ten) hw
