-- Instructions without a jump among them, and how many steps a way through instructions takes.
use Rattle.std.proofs.Common.{Bool, false, true, List, [], ◌∷◌, ◌≡◌, ◌≤◌, ℕ, length}
use Rattle.agreement.specs.X86.Form.{Instr}
use Rattle.agreement.specs.X86.Form.Instr.{alu, alu_imm32, alu_imm8, call_rax, cmov, cqo, imul, jcc, load, mov, mov_imm64, movsxd, movzx}
use Rattle.agreement.specs.X86.Form.Instr.{mul_div, pop, push, ret, setcc_al, shift_cl, shift_imm8, store}

-- is an instruction a jump
unfoldable pub is_jump : Instr → Bool
is_jump (push r) = false
is_jump (pop r) = false
is_jump (mov d s) = false
is_jump (mov_imm64 d v) = false
is_jump (load d b o) = false
is_jump (store b o s) = false
is_jump (alu w op d s) = false
is_jump (alu_imm32 op d v) = false
is_jump (alu_imm8 op d v) = false
is_jump (shift_cl w op d) = false
is_jump (shift_imm8 w op d v) = false
is_jump (imul w d s) = false
is_jump (movsxd d s) = false
is_jump (setcc_al c) = false
is_jump (movzx d s) = false
is_jump (cmov c d s) = false
is_jump (mul_div w op r) = false
is_jump (cqo w) = false
is_jump (jcc c d) = true
is_jump call_rax = false
is_jump ret = false

-- is none of them
unfoldable pub jumpless : List Instr → Bool
jumpless [] = true
jumpless (i ∷ is) = elim (is_jump i) [ true ↦ false | false ↦ jumpless is ]

-- n steps through instructions: one for each at the most, and exactly that where none of them is a jump
pub record StepsThrough (is : List Instr) (n : ℕ) : Type 0 where
  pub most : n ≤ length is
  pub exact : jumpless is ≡ true → n ≡ length is
