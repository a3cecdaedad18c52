-- What an instruction is and what it computes: encoding and meaning of a family stand together.
-- RISC-V Unprivileged manual (20191213): chapters RV32I, RV64I, Zifencei and M; rows from "RV32/64G Instruction Set Listings".
use Rattle.std.specs.Prelude.{Bool, true, false, not, cond, ◌&&◌, List, [], ◌∷◌, ◌++◌, ℕ, zero, suc, ◌+◌, ◌-◌, ◌*◌, ◌/◌, ◌%◌, ◌^◌, leb, ltb, eqb, ℤ, ◌*ℤ◌}
use Rattle.std.specs.Int.Bits.{bit_and, bit_or, bit_xor}
use Rattle.std.specs.Int.Signed.{lt_z, quot_z, rem_z}
use Rattle.std.proofs.Math.IntN.{ℤ.pos, ℤ.negsuc}
use Rattle.agreement.specs.Riscv.Fields.{opcode, funct3, funct7, funct6}
use Rattle.agreement.specs.Riscv.Immediates.{sign_extend}

-- 1. Names

-- two source registers: OP and OP-32
pub data Op : Type 0 where
  ADD SUB SLL SLT SLTU XOR SRL SRA OR AND ADDW SUBW SLLW SRLW SRAW MUL MULW : Op
  MULH MULHSU MULHU DIV DIVU REM REMU DIVW DIVUW REMW REMUW : Op

-- named by its row, without a meaning, since no run executes it: the environment calls
pub data Unmodelled : Type 0 where
  ECALL EBREAK : Unmodelled

-- a register and an immediate: OP-IMM and OP-IMM-32
pub data OpImm : Type 0 where
  ADDI SLTI SLTIU XORI ORI ANDI SLLI SRLI SRAI ADDIW SLLIW SRLIW SRAIW : OpImm

pub data Branch : Type 0 where
  BEQ BNE BLT BGE BLTU BGEU : Branch

pub data Access : Type 0 where
  LB LH LW LD LBU LHU LWU SB SH SW SD : Access

-- `other`: no instruction of these chapters
pub data Instruction : Type 0 where
  op : Op → Instruction
  op_imm : OpImm → Instruction
  branch : Branch → Instruction
  access : Access → Instruction
  unmodelled : Unmodelled → Instruction
  LUI AUIPC JAL JALR FENCE FENCE_I other : Instruction

-- 2. Rows of the listing: what each asks of funct3, and of the bits above

pub data Three : Type 0 where
  any_three : Three
  funct3_is : ℕ → Three

-- nothing, funct7, bits 31 to 26, the whole word
pub data Top : Type 0 where
  any_top : Top
  funct7_is : ℕ → Top
  funct6_is : ℕ → Top
  word_is : ℕ → Top

pub record Row : Type 0 where
  pub name : Instruction
  pub code : ℕ
  pub three : Three
  pub top : Top

abbrev pub row : Instruction → ℕ → Three → Top → Row
row n o f t = record { name = n; code = o; three = f; top = t }

unfoldable pub three_is : Three → ℕ → Bool
three_is any_three f = true
three_is (funct3_is n) f = eqb f n

-- s: funct7, t: bits 31 to 26, w: the word
unfoldable pub top_is : Top → ℕ → ℕ → ℕ → Bool
top_is any_top s t w = true
top_is (funct7_is n) s t w = eqb s n
top_is (funct6_is n) s t w = eqb t n
top_is (word_is n) s t w = eqb w n

-- the first row that a word with these fields fits
unfoldable pub find : ℕ → ℕ → ℕ → ℕ → ℕ → List Row → Instruction
find o f s t w [] = other
find o f s t w (r ∷ rs) =
    cond (eqb o r.code && (three_is r.three f && top_is r.top s t w)) r.name (find o f s t w rs)

unfoldable pub find_in : List Row → ℕ → Instruction
find_in rs w = find (opcode w) (funct3 w) (funct7 w) (funct6 w) w rs

-- 3. Words on 64-bit values

-- the integer that a number of n bits stands for in two's complement
unfoldable pub signed : ℕ → ℕ → ℤ
signed n a = cond (leb (2 ^ n / 2) a) (negsuc (2 ^ n - 1 - a)) (pos a)

-- "SLT and SLTU perform signed and unsigned compares respectively, writing 1 to rd if rs1 < rs2, 0 otherwise"
abbrev pub less : ℕ → ℕ → Bool
less a b = lt_z (signed 64 a) (signed 64 b)

unfoldable pub one_if : Bool → ℕ
one_if true = 1
one_if false = 0

-- a 32-bit result, as the W forms of RV64I give: the low 32 bits, sign-extended
abbrev pub word : ℕ → ℕ
word a = sign_extend 32 (a % 2 ^ 32)

-- arithmetic right shift of a number of n bits by c: the sign bit is copied into the c vacated upper bits
unfoldable pub shift_right_arithmetic : ℕ → ℕ → ℕ → ℕ
shift_right_arithmetic zero a c = 0
shift_right_arithmetic (suc k) a c = a / 2 ^ c + a / 2 ^ k * (2 ^ suc k - 2 ^ (suc k - c))

-- the n bits of an integer in two's complement
unfoldable pub bits_of : ℕ → ℤ → ℕ
bits_of n (pos a) = a % 2 ^ n
bits_of n (negsuc a) = 2 ^ n - 1 - a % 2 ^ n

-- M, "Multiplication Operations": "the upper XLEN bits of the full 2 × XLEN-bit product", n being XLEN
abbrev pub upper_half : ℕ → ℤ → ℕ
upper_half n z = bits_of (2 * n) z / 2 ^ n

-- M, "Division Operations", of numbers of n bits: "rounding towards zero"; of a remainder "the sign of the result equals
-- the sign of the dividend"; and the table "Semantics for division by zero and division overflow", its columns DIVU, REMU,
-- DIV and REM. An overflow is the least integer divided by -1.
unfoldable pub quotient_u : ℕ → ℕ → ℕ → ℕ
quotient_u n a b = cond (eqb b 0) (2 ^ n - 1) (a / b)

unfoldable pub remainder_u : ℕ → ℕ → ℕ → ℕ
remainder_u n a b = cond (eqb b 0) a (a % b)

unfoldable pub overflows : ℕ → ℕ → ℕ → Bool
overflows n a b = eqb a (2 ^ n / 2) && eqb b (2 ^ n - 1)

unfoldable pub quotient : ℕ → ℕ → ℕ → ℕ
quotient n a b =
    cond (eqb b 0) (2 ^ n - 1) (cond (overflows n a b) (2 ^ n / 2) (bits_of n (quot_z (signed n a) (signed n b))))

unfoldable pub remainder : ℕ → ℕ → ℕ → ℕ
remainder n a b = cond (eqb b 0) a (cond (overflows n a b) 0 (bits_of n (rem_z (signed n a) (signed n b))))

-- 4. Two source registers ("Integer Register-Register Operations", RV32I and RV64I; M)

abbrev pub op_rows : List Row
op_rows =
    row (op ADD) 0x33 (funct3_is 0) (funct7_is 0x00) ∷ row (op SUB) 0x33 (funct3_is 0) (funct7_is 0x20)
    ∷ row (op SLL) 0x33 (funct3_is 1) (funct7_is 0x00) ∷ row (op SLT) 0x33 (funct3_is 2) (funct7_is 0x00)
    ∷ row (op SLTU) 0x33 (funct3_is 3) (funct7_is 0x00) ∷ row (op XOR) 0x33 (funct3_is 4) (funct7_is 0x00)
    ∷ row (op SRL) 0x33 (funct3_is 5) (funct7_is 0x00) ∷ row (op SRA) 0x33 (funct3_is 5) (funct7_is 0x20)
    ∷ row (op OR) 0x33 (funct3_is 6) (funct7_is 0x00) ∷ row (op AND) 0x33 (funct3_is 7) (funct7_is 0x00)
    ∷ row (op ADDW) 0x3B (funct3_is 0) (funct7_is 0x00) ∷ row (op SUBW) 0x3B (funct3_is 0) (funct7_is 0x20)
    ∷ row (op SLLW) 0x3B (funct3_is 1) (funct7_is 0x00) ∷ row (op SRLW) 0x3B (funct3_is 5) (funct7_is 0x00)
    ∷ row (op SRAW) 0x3B (funct3_is 5) (funct7_is 0x20) ∷ row (op MUL) 0x33 (funct3_is 0) (funct7_is 0x01)
    ∷ row (op MULW) 0x3B (funct3_is 0) (funct7_is 0x01) ∷ []

-- a: the value of rs1; b: the value of rs2. Shifts go by the low 6 bits of rs2, those of 32-bit words by the low 5;
-- the 32-bit words of M take the low 32 bits of both, and every 32-bit result is sign-extended.
unfoldable pub value_op : Op → ℕ → ℕ → ℕ
value_op ADD a b = (a + b) % 2 ^ 64
value_op SUB a b = (a + (2 ^ 64 - b)) % 2 ^ 64
value_op SLL a b = a * 2 ^ (b % 64) % 2 ^ 64
value_op SLT a b = one_if (less a b)
value_op SLTU a b = one_if (ltb a b)
value_op XOR a b = bit_xor a b
value_op SRL a b = a / 2 ^ (b % 64)
value_op SRA a b = shift_right_arithmetic 64 a (b % 64)
value_op OR a b = bit_or a b
value_op AND a b = bit_and a b
value_op ADDW a b = word (a + b)
value_op SUBW a b = word (a % 2 ^ 32 + (2 ^ 32 - b % 2 ^ 32))
value_op SLLW a b = word (a % 2 ^ 32 * 2 ^ (b % 32))
value_op SRLW a b = word (a % 2 ^ 32 / 2 ^ (b % 32))
value_op SRAW a b = word (shift_right_arithmetic 32 (a % 2 ^ 32) (b % 32))
value_op MUL a b = a * b % 2 ^ 64
value_op MULW a b = word (a * b)
value_op MULH a b = upper_half 64 (signed 64 a *ℤ signed 64 b)
value_op MULHSU a b = upper_half 64 (signed 64 a *ℤ pos b)
value_op MULHU a b = upper_half 64 (pos a *ℤ pos b)
value_op DIV a b = quotient 64 a b
value_op DIVU a b = quotient_u 64 a b
value_op REM a b = remainder 64 a b
value_op REMU a b = remainder_u 64 a b
value_op DIVW a b = word (quotient 32 (a % 2 ^ 32) (b % 2 ^ 32))
value_op DIVUW a b = word (quotient_u 32 (a % 2 ^ 32) (b % 2 ^ 32))
value_op REMW a b = word (remainder 32 (a % 2 ^ 32) (b % 2 ^ 32))
value_op REMUW a b = word (remainder_u 32 (a % 2 ^ 32) (b % 2 ^ 32))

abbrev pub op_m_rows : List Row
op_m_rows =
    row (op MULH) 0x33 (funct3_is 1) (funct7_is 0x01) ∷ row (op MULHSU) 0x33 (funct3_is 2) (funct7_is 0x01)
    ∷ row (op MULHU) 0x33 (funct3_is 3) (funct7_is 0x01) ∷ row (op DIV) 0x33 (funct3_is 4) (funct7_is 0x01)
    ∷ row (op DIVU) 0x33 (funct3_is 5) (funct7_is 0x01) ∷ row (op REM) 0x33 (funct3_is 6) (funct7_is 0x01)
    ∷ row (op REMU) 0x33 (funct3_is 7) (funct7_is 0x01) ∷ row (op DIVW) 0x3B (funct3_is 4) (funct7_is 0x01)
    ∷ row (op DIVUW) 0x3B (funct3_is 5) (funct7_is 0x01) ∷ row (op REMW) 0x3B (funct3_is 6) (funct7_is 0x01)
    ∷ row (op REMUW) 0x3B (funct3_is 7) (funct7_is 0x01) ∷ []

-- 5. A register and an immediate ("Integer Register-Immediate Instructions", RV32I and RV64I)

abbrev pub op_imm_rows : List Row
op_imm_rows =
    row (op_imm ADDI) 0x13 (funct3_is 0) any_top ∷ row (op_imm SLTI) 0x13 (funct3_is 2) any_top
    ∷ row (op_imm SLTIU) 0x13 (funct3_is 3) any_top ∷ row (op_imm XORI) 0x13 (funct3_is 4) any_top
    ∷ row (op_imm ORI) 0x13 (funct3_is 6) any_top ∷ row (op_imm ANDI) 0x13 (funct3_is 7) any_top
    ∷ row (op_imm SLLI) 0x13 (funct3_is 1) (funct6_is 0x00) ∷ row (op_imm SRLI) 0x13 (funct3_is 5) (funct6_is 0x00)
    ∷ row (op_imm SRAI) 0x13 (funct3_is 5) (funct6_is 0x10) ∷ row (op_imm ADDIW) 0x1B (funct3_is 0) any_top
    ∷ row (op_imm SLLIW) 0x1B (funct3_is 1) (funct7_is 0x00) ∷ row (op_imm SRLIW) 0x1B (funct3_is 5) (funct7_is 0x00)
    ∷ row (op_imm SRAIW) 0x1B (funct3_is 5) (funct7_is 0x20) ∷ []

-- a: the value of rs1; i: the I immediate; c: the shift amount of six bits, d: of five
unfoldable pub value_op_imm : OpImm → ℕ → ℕ → ℕ → ℕ → ℕ
value_op_imm ADDI a i c d = (a + i) % 2 ^ 64
value_op_imm SLTI a i c d = one_if (less a i)
value_op_imm SLTIU a i c d = one_if (ltb a i)
value_op_imm XORI a i c d = bit_xor a i
value_op_imm ORI a i c d = bit_or a i
value_op_imm ANDI a i c d = bit_and a i
value_op_imm SLLI a i c d = a * 2 ^ c % 2 ^ 64
value_op_imm SRLI a i c d = a / 2 ^ c
value_op_imm SRAI a i c d = shift_right_arithmetic 64 a c
value_op_imm ADDIW a i c d = word (a + i)
value_op_imm SLLIW a i c d = word (a % 2 ^ 32 * 2 ^ d)
value_op_imm SRLIW a i c d = word (a % 2 ^ 32 / 2 ^ d)
value_op_imm SRAIW a i c d = word (shift_right_arithmetic 32 (a % 2 ^ 32) d)

-- 6. Branches ("Conditional Branches")

abbrev pub branch_rows : List Row
branch_rows =
    row (branch BEQ) 0x63 (funct3_is 0) any_top ∷ row (branch BNE) 0x63 (funct3_is 1) any_top
    ∷ row (branch BLT) 0x63 (funct3_is 4) any_top ∷ row (branch BGE) 0x63 (funct3_is 5) any_top
    ∷ row (branch BLTU) 0x63 (funct3_is 6) any_top ∷ row (branch BGEU) 0x63 (funct3_is 7) any_top ∷ []

unfoldable pub branches : Branch → ℕ → ℕ → Bool
branches BEQ a b = eqb a b
branches BNE a b = not (eqb a b)
branches BLT a b = less a b
branches BGE a b = not (less a b)
branches BLTU a b = ltb a b
branches BGEU a b = not (ltb a b)

-- 7. Loads and stores; upper immediates, jumps, fences; environment calls

abbrev pub access_rows : List Row
access_rows =
    row (access LB) 0x03 (funct3_is 0) any_top ∷ row (access LH) 0x03 (funct3_is 1) any_top ∷ row (access LW) 0x03 (funct3_is 2) any_top
    ∷ row (access LD) 0x03 (funct3_is 3) any_top ∷ row (access LBU) 0x03 (funct3_is 4) any_top
    ∷ row (access LHU) 0x03 (funct3_is 5) any_top ∷ row (access LWU) 0x03 (funct3_is 6) any_top
    ∷ row (access SB) 0x23 (funct3_is 0) any_top ∷ row (access SH) 0x23 (funct3_is 1) any_top ∷ row (access SW) 0x23 (funct3_is 2) any_top
    ∷ row (access SD) 0x23 (funct3_is 3) any_top ∷ []

-- FENCE.TSO and, later, PAUSE are words of FENCE's row. The fences' other fields are free: rs1 and rd, and the immediate of
-- FENCE.I, "base implementations shall ignore"; reserved settings of fm, pred and succ are "normal fences"
abbrev pub single_rows : List Row
single_rows =
    row LUI 0x37 any_three any_top ∷ row AUIPC 0x17 any_three any_top ∷ row JAL 0x6F any_three any_top
    ∷ row JALR 0x67 (funct3_is 0) any_top ∷ row FENCE 0x0F (funct3_is 0) any_top ∷ row FENCE_I 0x0F (funct3_is 1) any_top ∷ []

abbrev pub environment_rows : List Row
environment_rows =
    row (unmodelled ECALL) 0x73 (funct3_is 0) (word_is 0x00000073) ∷ row (unmodelled EBREAK) 0x73 (funct3_is 0) (word_is 0x00100073) ∷ []

-- 8. The listing: RV32I, RV64I, Zifencei and M

abbrev pub listing : List Row
listing =
    single_rows ++ (branch_rows ++ (access_rows ++ (op_imm_rows ++ (op_rows ++ (op_m_rows ++ environment_rows)))))

-- which instruction the manual says a word is
unfoldable pub named : ℕ → Instruction
named w = find_in listing w
