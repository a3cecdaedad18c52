-- What an instruction does: the "Operation" section of its page in the Intel SDM volume 2. RIP is already past it.
use Rattle.std.specs.Prelude.{Bool, false, cond, ◌||◌, List, [], ℕ, ◌+◌, ◌-◌, ◌*◌, ◌/◌, ◌%◌, ◌^◌, leb, eqb, ◌*ℤ◌}
use Rattle.std.specs.Int.Signed.{mag, quot_z, rem_z}
use Rattle.agreement.specs.X86.Memory.{at, read, write, span}
use Rattle.agreement.specs.X86.Form.{RAX, RCX, RDX, RSP, Width, Alu, Shift, MulDiv, Instr}
use Rattle.agreement.specs.X86.Form.Width.{r32, r64}
use Rattle.agreement.specs.X86.Form.Alu.{add, or, and, sub, xor, cmp}
use Rattle.agreement.specs.X86.Form.MulDiv.{umul, smul, udiv, sdiv}
use Rattle.agreement.specs.X86.Form.Instr.{push, pop, mov, mov_imm64, load, store, alu, alu_imm32, alu_imm8, shift_cl, shift_imm8, imul}
use Rattle.agreement.specs.X86.Form.Instr.{movsxd, setcc_al, movzx, cmov, mul_div, cqo, jcc, call_rax, ret}
use Rattle.agreement.specs.X86.State.{Flags, State, set}
use Rattle.agreement.specs.X86.Flags.{negative, sext, as_signed, as_bits, alu_value, alu_flags, holds, shifted, shift_flags, imul_flags}
use Rattle.agreement.specs.X86.Flags.{umul_flags, smul_flags, bit_of}

abbrev pub width_bits : Width → ℕ
width_bits r64 = 64
width_bits r32 = 32

-- the eight bytes that a push writes; the eight bytes of a memory operand, whose displacement is sign-extended
abbrev pub below : State → ℕ
below s = at (s.regs RSP) (2 ^ 64 - 8)

abbrev pub operand : ℕ → ℕ → State → ℕ
operand b o s = at (s.regs b) (sext 32 64 o)

-- the addresses that an instruction reads, and those that it writes
pub record Accesses : Type 0 where
  pub read : List ℕ
  pub written : List ℕ

abbrev pub no_access : Accesses
no_access = record { read = []; written = [] }

unfoldable pub accesses : Instr → State → Accesses
accesses (push r) s = record { read = []; written = span 8 (below s) }
accesses (pop r) s = record { read = span 8 (s.regs RSP); written = [] }
accesses (mov d r) s = no_access
accesses (mov_imm64 d v) s = no_access
accesses (load d b o) s = record { read = span 8 (operand b o s); written = [] }
accesses (store b o r) s = record { read = []; written = span 8 (operand b o s) }
accesses (alu w op d r) s = no_access
accesses (alu_imm32 op d v) s = no_access
accesses (alu_imm8 op d v) s = no_access
accesses (shift_cl w op d) s = no_access
accesses (shift_imm8 w op d v) s = no_access
accesses (imul w d r) s = no_access
accesses (movsxd d r) s = no_access
accesses (setcc_al c) s = no_access
accesses (movzx d r) s = no_access
accesses (cmov c d r) s = no_access
accesses (mul_div w op r) s = no_access
accesses (cqo w) s = no_access
accesses (jcc c d) s = no_access
accesses call_rax s = record { read = []; written = span 8 (below s) }
accesses ret s = record { read = span 8 (s.regs RSP); written = [] }

-- the dividend of w-bit division, of 2w bits: RDX above RAX
abbrev pub dividend : ℕ → State → ℕ
dividend w s = s.regs RDX % 2 ^ w * 2 ^ w + s.regs RAX % 2 ^ w

-- #DE, of n divided by d: "If the source operand (divisor) is 0" and "If the quotient is too large for the designated register". Signed
-- numbers of w bits are the integers z with mag z < 2^w / 2: the kit's `mag` is m both for m and for -(m + 1)
unfoldable pub division_faults : MulDiv → ℕ → ℕ → ℕ → Bool
division_faults umul w n d = false
division_faults smul w n d = false
division_faults udiv w n d = eqb d 0 || leb (2 ^ w) (n / d)
division_faults sdiv w n d = eqb d 0 || leb (2 ^ w / 2) (mag (quot_z (as_signed (2 * w) n) (as_signed w d)))

-- does an instruction fault (#DE), whatever memory it may access
unfoldable pub faults : Instr → State → Bool
faults (push r) s = false
faults (pop r) s = false
faults (mov d r) s = false
faults (mov_imm64 d v) s = false
faults (load d b o) s = false
faults (store b o r) s = false
faults (alu w op d r) s = false
faults (alu_imm32 op d v) s = false
faults (alu_imm8 op d v) s = false
faults (shift_cl w op d) s = false
faults (shift_imm8 w op d v) s = false
faults (imul w d r) s = false
faults (movsxd d r) s = false
faults (setcc_al c) s = false
faults (movzx d r) s = false
faults (cmov c d r) s = false
faults (mul_div w op r) s = division_faults op (width_bits w) (dividend (width_bits w) s) (s.regs r % 2 ^ width_bits w)
faults (cqo w) s = false
faults (jcc c d) s = false
faults call_rax s = false
faults ret s = false

abbrev pub with_regs : (ℕ → ℕ) → State → State
with_regs f s = record { regs = f; flags = s.flags; rip = s.rip; mem = s.mem }

abbrev pub with_reg : ℕ → ℕ → State → State
with_reg d v s = with_regs (set s.regs d v) s

-- registers and flags after an arithmetic instruction
abbrev pub with_both : (ℕ → ℕ) → Flags → State → State
with_both f g s = record { regs = f; flags = g; rip = s.rip; mem = s.mem }

-- the halves of a product, or a quotient and a remainder, in RAX and RDX; the upper halves of 32-bit results are cleared
abbrev pub pair_to : ℕ → ℕ → Flags → State → State
pair_to low high g s = with_both (set (set s.regs RAX low) RDX high) g s

-- eight bytes stored; a jump to the address a
abbrev pub storing : ℕ → ℕ → State → State
storing a v s = record { regs = s.regs; flags = s.flags; rip = s.rip; mem = write 8 s.mem a v }

abbrev pub going_to : ℕ → State → State
going_to a s = record { regs = s.regs; flags = s.flags; rip = a; mem = s.mem }

-- where the result of an ALU operation goes; CMP discards it
abbrev pub result : Alu → (ℕ → ℕ) → ℕ → ℕ → ℕ → ℕ
result add f d v = set f d v
result or f d v = set f d v
result and f d v = set f d v
result sub f d v = set f d v
result xor f d v = set f d v
result cmp f d v = f

-- `undefined` says what becomes of flags that the SDM leaves undefined. It is a function of the state after the fetch, and that is
-- choice enough: a block has no loop. What the decoder takes for a jump goes forward, and a block does not pass the end of the address
-- space, so that RIP grows from step to step, none of its states occurs twice in one entry, and each choice is a free one.
module _ (undefined : State → Flags) where
  -- b: the second operand. A result of 32 bits is below 2^32: the upper half of the register is cleared.
  abbrev pub alu_to : ℕ → Alu → ℕ → ℕ → State → State
  alu_to w op d b s =
      let a : ℕ = s.regs d % 2 ^ w in with_both (result op s.regs d (alu_value w op a b)) (alu_flags w op a b (undefined s)) s

  -- c: the count, already masked
  abbrev pub shift_to : ℕ → Shift → ℕ → ℕ → State → State
  shift_to w op d c s =
      let a : ℕ = s.regs d % 2 ^ w in
      with_both (set s.regs d (shifted w op a c)) (shift_flags w op a c s.flags (undefined s)) s

  abbrev pub imul_to : ℕ → ℕ → ℕ → State → State
  imul_to w d r s =
      let a : ℕ = s.regs d % 2 ^ w in
      let b : ℕ = s.regs r % 2 ^ w in
      with_both (set s.regs d (s.regs d * s.regs r % 2 ^ w)) (imul_flags w a b (undefined s)) s

  -- b: the operand. "Non-integral results are truncated (chopped) towards 0", and the remainder is what is then left of the
  -- dividend, so that it has the dividend's sign; all six flags are undefined behind DIV and IDIV.
  abbrev pub mul_div_to : MulDiv → ℕ → ℕ → State → State
  mul_div_to umul w b s =
      let p : ℕ = s.regs RAX % 2 ^ w * b in pair_to (p % 2 ^ w) (p / 2 ^ w) (umul_flags w p (undefined s)) s
  mul_div_to smul w b s =
      let p : ℕ = as_bits (2 * w) (as_signed w (s.regs RAX % 2 ^ w) *ℤ as_signed w b) in
      pair_to (p % 2 ^ w) (p / 2 ^ w) (smul_flags w p (undefined s)) s
  mul_div_to udiv w b s = pair_to (dividend w s / b) (dividend w s % b) (undefined s) s
  mul_div_to sdiv w b s =
      pair_to (as_bits w (quot_z (as_signed (2 * w) (dividend w s)) (as_signed w b)))
      (as_bits w (rem_z (as_signed (2 * w) (dividend w s)) (as_signed w b))) (undefined s) s

  -- "IF OperandSize = 64 THEN countMASK := 3FH; ELSE countMASK := 1FH; FI": a count is taken modulo the operand size.
  -- SETcc writes AL, the low byte of RAX, alone. CMOVcc with a false condition leaves a 64-bit destination as it is.
  -- CQO (CDQ) fills RDX (EDX) with the sign of RAX (EAX). A jump is relative to the instruction behind it.
  unfoldable pub exec : Instr → State → State
  exec (push r) s = with_reg RSP (below s) (storing (below s) (s.regs r) s)
  exec (pop r) s = with_regs (set (set s.regs RSP (at (s.regs RSP) 8)) r (read 8 s.mem (s.regs RSP))) s
  exec (mov d r) s = with_reg d (s.regs r) s
  exec (mov_imm64 d v) s = with_reg d v s
  exec (load d b o) s = with_reg d (read 8 s.mem (operand b o s)) s
  exec (store b o r) s = storing (operand b o s) (s.regs r) s
  exec (alu w op d r) s = alu_to (width_bits w) op d (s.regs r % 2 ^ width_bits w) s
  exec (alu_imm32 op d v) s = alu_to 64 op d (sext 32 64 v) s
  exec (alu_imm8 op d v) s = alu_to 64 op d (sext 8 64 v) s
  exec (shift_cl w op d) s = shift_to (width_bits w) op d (s.regs RCX % width_bits w) s
  exec (shift_imm8 w op d v) s = shift_to (width_bits w) op d (v % width_bits w) s
  exec (imul w d r) s = imul_to (width_bits w) d r s
  exec (movsxd d r) s = with_reg d (sext 32 64 (s.regs r % 2 ^ 32)) s
  exec (setcc_al c) s = with_reg RAX (s.regs RAX / 256 * 256 + bit_of (holds c s.flags)) s
  exec (movzx d r) s = with_reg d (s.regs r % 256) s
  exec (cmov c d r) s = with_reg d (cond (holds c s.flags) (s.regs r) (s.regs d)) s
  exec (mul_div w op r) s = mul_div_to op (width_bits w) (s.regs r % 2 ^ width_bits w) s
  exec (cqo w) s = with_reg RDX (cond (negative (width_bits w) (s.regs RAX % 2 ^ width_bits w)) (2 ^ width_bits w - 1) 0) s
  exec (jcc c d) s = going_to (cond (holds c s.flags) (at s.rip d) s.rip) s
  exec call_rax s = going_to (s.regs RAX) (with_reg RSP (below s) (storing (below s) s.rip s))
  exec ret s = going_to (read 8 s.mem (s.regs RSP)) (with_reg RSP (at (s.regs RSP) 8) s)
