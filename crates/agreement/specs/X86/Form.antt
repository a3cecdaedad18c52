-- The host's instruction forms (Intel SDM volume 2), in families that contain what the Rust's 42 encoders write, and
-- what request Q-2 adds: multiplication and division of one operand, the dividend's sign, and conditional jumps forward.
use Rattle.std.specs.Prelude.{ℕ, ◌^◌, ◌<◌}

-- registers by number ("REX Prefixes" extend them to 8 to 15)
abbrev pub RAX : ℕ
RAX = 0

abbrev pub RCX : ℕ
RCX = 1

abbrev pub RDX : ℕ
RDX = 2

abbrev pub RBX : ℕ
RBX = 3

abbrev pub RSP : ℕ
RSP = 4

abbrev pub RBP : ℕ
RBP = 5

abbrev pub RSI : ℕ
RSI = 6

abbrev pub RDI : ℕ
RDI = 7

abbrev pub R8 : ℕ
R8 = 8

abbrev pub R9 : ℕ
R9 = 9

abbrev pub R10 : ℕ
R10 = 10

abbrev pub R11 : ℕ
R11 = 11

abbrev pub R12 : ℕ
R12 = 12

abbrev pub R13 : ℕ
R13 = 13

abbrev pub R14 : ℕ
R14 = 14

abbrev pub R15 : ℕ
R15 = 15

-- operand size, by REX.W
pub data Width : Type 0 where
  r32 r64 : Width

pub data Alu : Type 0 where
  add or and sub xor cmp : Alu

pub data Shift : Type 0 where
  shl shr sar : Shift

-- MUL, IMUL, DIV and IDIV of one operand, the other being RAX or RDX:RAX
pub data MulDiv : Type 0 where
  umul smul udiv sdiv : MulDiv

-- condition codes: below, above or equal, equal, not equal, less, greater or equal
pub data Cc : Type 0 where
  B AE E NE L GE : Cc

-- destination first, as the SDM writes operands; a memory operand is a base register and a 32-bit displacement; a jump's
-- operand is how many bytes behind it are skipped
pub data Instr : Type 0 where
  push pop : ℕ → Instr
  mov : ℕ → ℕ → Instr
  mov_imm64 : ℕ → ℕ → Instr
  load : ℕ → ℕ → ℕ → Instr
  store : ℕ → ℕ → ℕ → Instr
  alu : Width → Alu → ℕ → ℕ → Instr
  alu_imm32 : Alu → ℕ → ℕ → Instr
  alu_imm8 : Alu → ℕ → ℕ → Instr
  shift_cl : Width → Shift → ℕ → Instr
  shift_imm8 : Width → Shift → ℕ → ℕ → Instr
  imul : Width → ℕ → ℕ → Instr
  movsxd : ℕ → ℕ → Instr
  setcc_al : Cc → Instr
  movzx : ℕ → ℕ → Instr
  cmov : Cc → ℕ → ℕ → Instr
  mul_div : Width → MulDiv → ℕ → Instr
  cqo : Width → Instr
  jcc : Cc → ℕ → Instr
  call_rax : Instr
  ret : Instr

-- the operands that an instruction may have: register numbers below 16, immediates of their bytes
unfoldable pub Ok : Instr → Type 0
Ok (push r) = r < 16
Ok (pop r) = r < 16
Ok (mov d s) = (d < 16) × (s < 16)
Ok (mov_imm64 d v) = (d < 16) × (v < 2 ^ 64)
Ok (load d b o) = (d < 16) × (b < 16) × (o < 2 ^ 32)
Ok (store b o s) = (b < 16) × (o < 2 ^ 32) × (s < 16)
Ok (alu w op d s) = (d < 16) × (s < 16)
Ok (alu_imm32 op d v) = (d < 16) × (v < 2 ^ 32)
Ok (alu_imm8 op d v) = (d < 16) × (v < 256)
Ok (shift_cl w op d) = d < 16
Ok (shift_imm8 w op d v) = (d < 16) × (v < 256)
Ok (imul w d s) = (d < 16) × (s < 16)
Ok (movsxd d s) = (d < 16) × (s < 16)
Ok (setcc_al c) = Unit
Ok (movzx d s) = (d < 16) × (s < 16)
Ok (cmov c d s) = (d < 16) × (s < 16)
Ok (mul_div w op r) = r < 16
Ok (cqo w) = Unit
Ok (jcc c d) = d < 128
Ok call_rax = Unit
Ok ret = Unit
