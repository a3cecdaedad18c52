-- The compressed instructions of RV64C and the words that they expand to, encoding and meaning of a row together: a word by the fields of
-- its format. The comment behind a row has the manual's names of halfword and word.
-- RISC-V Unprivileged manual (20191213): chapter "C", and "RVC Instruction Set Listings" for what is reserved and what is a hint.
-- Rows for RV32 or RV128 alone (C.JAL, C.LQ, C.FLW and the like) are not of RV64. A hint is what its row expands to.
use Rattle.std.specs.Prelude.{Bool, true, not, cond, ◌&&◌, List, [], ◌∷◌, ℕ, suc, ◌+◌, ◌-◌, ◌*◌, ◌^◌, eqb, Option, None, Some}
use Rattle.agreement.specs.Riscv.Fields.{bits}
use Rattle.agreement.specs.Riscv.Immediates.{sign_extend}

-- 1. A word of its fields, drawn from bit 31 down: "Base Instruction Formats" and "Immediate Encoding Variants"

-- funct7 | rs2 | rs1 | funct3 | rd | opcode
abbrev pub type_r : ℕ → ℕ → ℕ → ℕ → ℕ → ℕ → ℕ
type_r f7 rs2 rs1 f3 rd o = f7 * 2 ^ 25 + rs2 * 2 ^ 20 + rs1 * 2 ^ 15 + f3 * 2 ^ 12 + rd * 2 ^ 7 + o

-- imm[11:0] | rs1 | funct3 | rd | opcode
abbrev pub type_i : ℕ → ℕ → ℕ → ℕ → ℕ → ℕ
type_i i rs1 f3 rd o = bits 11 0 i * 2 ^ 20 + rs1 * 2 ^ 15 + f3 * 2 ^ 12 + rd * 2 ^ 7 + o

-- imm[11:5] | rs2 | rs1 | funct3 | imm[4:0] | opcode
abbrev pub type_s : ℕ → ℕ → ℕ → ℕ → ℕ → ℕ
type_s i rs2 rs1 f3 o = bits 11 5 i * 2 ^ 25 + rs2 * 2 ^ 20 + rs1 * 2 ^ 15 + f3 * 2 ^ 12 + bits 4 0 i * 2 ^ 7 + o

-- imm[12|10:5] | rs2 | rs1 | funct3 | imm[4:1|11] | opcode
abbrev pub type_b : ℕ → ℕ → ℕ → ℕ → ℕ → ℕ
type_b i rs2 rs1 f3 o =
    bits 12 12 i * 2 ^ 31 + bits 10 5 i * 2 ^ 25 + rs2 * 2 ^ 20 + rs1 * 2 ^ 15 + f3 * 2 ^ 12 + bits 4 1 i * 2 ^ 8
    + bits 11 11 i * 2 ^ 7 + o

-- imm[31:12] | rd | opcode
abbrev pub type_u : ℕ → ℕ → ℕ → ℕ
type_u i rd o = bits 31 12 i * 2 ^ 12 + rd * 2 ^ 7 + o

-- imm[20|10:1|11|19:12] | rd | opcode
abbrev pub type_j : ℕ → ℕ → ℕ → ℕ
type_j i rd o =
    bits 20 20 i * 2 ^ 31 + bits 10 1 i * 2 ^ 21 + bits 11 11 i * 2 ^ 20 + bits 19 12 i * 2 ^ 12 + rd * 2 ^ 7 + o

-- 2. A halfword's immediate. The listing draws one as imm[5:4|9:6|2|3]: which of its bits stand there, from left to right.

-- imm[high:low], and imm[n]
pub record Stretch : Type 0 where
  pub high : ℕ
  pub low : ℕ

infix 90 ◌∶◌
abbrev pub ◌∶◌ : ℕ → ℕ → Stretch
◌∶◌ a b = record { high = a; low = b }

abbrev pub bit : ℕ → Stretch
bit n = n ∶ n

-- the immediate's bits of such a drawing whose leftmost bit is bit `top` of the halfword
abbrev pub drawn : ℕ → List Stretch → ℕ → ℕ
drawn top [] h = 0
drawn top (s ∷ ss) h =
    bits top (top - (s.high - s.low)) h * 2 ^ s.low + drawn (top - suc (s.high - s.low)) ss h

-- 3. The listing. A row: funct3, what else it asks of the halfword, and the word that it expands to. What fits no row is reserved.

pub record Row : Type 0 where
  pub three : ℕ
  pub asks : Bool
  pub word : ℕ

abbrev pub row : ℕ → Bool → ℕ → Row
row f a w = record { three = f; asks = a; word = w }

-- the row that fits; no two fit one halfword
unfoldable pub find : ℕ → List Row → Option ℕ
find f [] = None
find f (r ∷ rs) = cond (eqb f r.three && r.asks) (Some r.word) (find f rs)

abbrev pub sp : ℕ
sp = 2

abbrev pub not_0 : ℕ → Bool
not_0 n = not (eqb n 0)

-- the halfword h
module _ (h : ℕ) where
  -- "Compressed Instruction Formats": rd, which is rs1 too, and rs2 of CR, CI and CSS
  abbrev pub rd : ℕ
  rd = bits 11 7 h

  abbrev pub rs2 : ℕ
  rs2 = bits 6 2 h

  -- the registers of three bits, x8 to x15: rs1′, which is rd′ too, of CL, CS, CA and CB; rs2′ of CS and CA, which is rd′ of CIW and CL
  abbrev pub rs1′ : ℕ
  rs1′ = 8 + bits 9 7 h

  abbrev pub rs2′ : ℕ
  rs2′ = 8 + bits 4 2 h

  abbrev pub uimm_addi4spn : ℕ
  uimm_addi4spn = drawn 12 (5 ∶ 4 ∷ 9 ∶ 6 ∷ bit 2 ∷ bit 3 ∷ []) h

  abbrev pub uimm_w : ℕ
  uimm_w = drawn 12 (5 ∶ 3 ∷ []) h + drawn 6 (bit 2 ∷ bit 6 ∷ []) h  -- C.LW, C.SW

  abbrev pub uimm_d : ℕ
  uimm_d = drawn 12 (5 ∶ 3 ∷ []) h + drawn 6 (7 ∶ 6 ∷ []) h  -- C.LD, C.SD, C.FLD, C.FSD

  abbrev pub uimm_6 : ℕ
  uimm_6 = drawn 12 (bit 5 ∷ []) h + drawn 6 (4 ∶ 0 ∷ []) h  -- the shifts

  abbrev pub imm_6 : ℕ
  imm_6 = sign_extend 6 uimm_6  -- C.ADDI, C.ADDIW, C.LI, C.ANDI

  abbrev pub imm_addi16sp : ℕ
  imm_addi16sp = sign_extend 10 (drawn 12 (bit 9 ∷ []) h + drawn 6 (bit 4 ∷ bit 6 ∷ 8 ∶ 7 ∷ bit 5 ∷ []) h)

  abbrev pub imm_lui : ℕ
  imm_lui = sign_extend 18 (drawn 12 (bit 17 ∷ []) h + drawn 6 (16 ∶ 12 ∷ []) h)

  abbrev pub imm_j : ℕ
  imm_j = sign_extend 12 (drawn 12 (bit 11 ∷ bit 4 ∷ 9 ∶ 8 ∷ bit 10 ∷ bit 6 ∷ bit 7 ∷ 3 ∶ 1 ∷ bit 5 ∷ []) h)

  abbrev pub imm_b : ℕ
  imm_b = sign_extend 9 (drawn 12 (bit 8 ∷ 4 ∶ 3 ∷ []) h + drawn 6 (7 ∶ 6 ∷ 2 ∶ 1 ∷ bit 5 ∷ []) h)

  abbrev pub uimm_lwsp : ℕ
  uimm_lwsp = drawn 12 (bit 5 ∷ []) h + drawn 6 (4 ∶ 2 ∷ 7 ∶ 6 ∷ []) h

  abbrev pub uimm_ldsp : ℕ
  uimm_ldsp = drawn 12 (bit 5 ∷ []) h + drawn 6 (4 ∶ 3 ∷ 8 ∶ 6 ∷ []) h  -- C.LDSP, C.FLDSP

  abbrev pub uimm_swsp : ℕ
  uimm_swsp = drawn 12 (5 ∶ 2 ∷ 7 ∶ 6 ∷ []) h

  abbrev pub uimm_sdsp : ℕ
  uimm_sdsp = drawn 12 (5 ∶ 3 ∷ 8 ∶ 6 ∷ []) h  -- C.SDSP, C.FSDSP

  -- op 0. Reserved: 000 with nzuimm 0, the illegal 0x0000 among them, and 100
  abbrev pub quadrant_0 : List Row
  quadrant_0 =
      row 0 (not_0 uimm_addi4spn) (type_i uimm_addi4spn sp 0 rs2′ 0x13)  -- C.ADDI4SPN: addi rd′, x2, nzuimm
      ∷ row 1 true (type_i uimm_d rs1′ 3 rs2′ 0x07)  -- C.FLD: fld rd′, uimm(rs1′)
      ∷ row 2 true (type_i uimm_w rs1′ 2 rs2′ 0x03)  -- C.LW: lw rd′, uimm(rs1′)
      ∷ row 3 true (type_i uimm_d rs1′ 3 rs2′ 0x03)  -- C.LD: ld rd′, uimm(rs1′)
      ∷ row 5 true (type_s uimm_d rs2′ rs1′ 3 0x27)  -- C.FSD: fsd rs2′, uimm(rs1′)
      ∷ row 6 true (type_s uimm_w rs2′ rs1′ 2 0x23)  -- C.SW: sw rs2′, uimm(rs1′)
      ∷ row 7 true (type_s uimm_d rs2′ rs1′ 3 0x23) ∷ []  -- C.SD: sd rs2′, uimm(rs1′)

  -- CB's rows by bits 11 to 10; CA's, which have 11 there, by bits 12 and 6 to 5
  abbrev pub is_cb : ℕ → Bool
  is_cb n = eqb (bits 11 10 h) n

  abbrev pub is_ca : ℕ → ℕ → Bool
  is_ca b12 b6 = is_cb 3 && (eqb (bits 12 12 h) b12 && eqb (bits 6 5 h) b6)

  -- op 1. Reserved: C.ADDIW to x0; C.ADDI16SP and C.LUI with nzimm 0; 100 with 1, 11 and 1x. Hints: C.NOP with nzimm not 0, C.ADDI with
  -- nzimm 0, C.LI and C.LUI to x0, shifts by 0
  abbrev pub quadrant_1 : List Row
  quadrant_1 =
      row 0 true (type_i imm_6 rd 0 rd 0x13)  -- C.NOP, where rd is x0, and C.ADDI: addi rd, rd, imm
      ∷ row 1 (not_0 rd) (type_i imm_6 rd 0 rd 0x1B)  -- C.ADDIW: addiw rd, rd, imm
      ∷ row 2 true (type_i imm_6 0 0 rd 0x13)  -- C.LI: addi rd, x0, imm
      ∷ row 3 (eqb rd sp && not_0 imm_addi16sp) (type_i imm_addi16sp sp 0 sp 0x13)  -- C.ADDI16SP: addi x2, x2, nzimm
      ∷ row 3 (not (eqb rd sp) && not_0 imm_lui) (type_u imm_lui rd 0x37)  -- C.LUI: lui rd, nzimm
      ∷ row 4 (is_cb 0) (type_i uimm_6 rs1′ 5 rs1′ 0x13)  -- C.SRLI: srli rd′, rd′, shamt
      ∷ row 4 (is_cb 1) (type_i (0x10 * 2 ^ 6 + uimm_6) rs1′ 5 rs1′ 0x13)  -- C.SRAI: srai rd′, rd′, shamt
      ∷ row 4 (is_cb 2) (type_i imm_6 rs1′ 7 rs1′ 0x13)  -- C.ANDI: andi rd′, rd′, imm
      ∷ row 4 (is_ca 0 0) (type_r 0x20 rs2′ rs1′ 0 rs1′ 0x33)  -- C.SUB: sub rd′, rd′, rs2′
      ∷ row 4 (is_ca 0 1) (type_r 0x00 rs2′ rs1′ 4 rs1′ 0x33)  -- C.XOR: xor rd′, rd′, rs2′
      ∷ row 4 (is_ca 0 2) (type_r 0x00 rs2′ rs1′ 6 rs1′ 0x33)  -- C.OR: or rd′, rd′, rs2′
      ∷ row 4 (is_ca 0 3) (type_r 0x00 rs2′ rs1′ 7 rs1′ 0x33)  -- C.AND: and rd′, rd′, rs2′
      ∷ row 4 (is_ca 1 0) (type_r 0x20 rs2′ rs1′ 0 rs1′ 0x3B)  -- C.SUBW: subw rd′, rd′, rs2′
      ∷ row 4 (is_ca 1 1) (type_r 0x00 rs2′ rs1′ 0 rs1′ 0x3B)  -- C.ADDW: addw rd′, rd′, rs2′
      ∷ row 5 true (type_j imm_j 0 0x6F)  -- C.J: jal x0, offset
      ∷ row 6 true (type_b imm_b 0 rs1′ 0 0x63)  -- C.BEQZ: beq rs1′, x0, offset
      ∷ row 7 true (type_b imm_b 0 rs1′ 1 0x63) ∷ []  -- C.BNEZ: bne rs1′, x0, offset

  -- bit 12 of CR's rows, and what they ask of rd and of rs2
  abbrev pub is_cr : ℕ → Bool → Bool → Bool
  is_cr b12 d s = eqb (bits 12 12 h) b12 && (d && s)

  -- op 2. Reserved: C.LWSP and C.LDSP to x0, and C.JR of x0. Hints: C.SLLI of x0 or by 0, C.MV and C.ADD to x0
  abbrev pub quadrant_2 : List Row
  quadrant_2 =
      row 0 true (type_i uimm_6 rd 1 rd 0x13)  -- C.SLLI: slli rd, rd, shamt
      ∷ row 1 true (type_i uimm_ldsp sp 3 rd 0x07)  -- C.FLDSP: fld rd, uimm(x2)
      ∷ row 2 (not_0 rd) (type_i uimm_lwsp sp 2 rd 0x03)  -- C.LWSP: lw rd, uimm(x2)
      ∷ row 3 (not_0 rd) (type_i uimm_ldsp sp 3 rd 0x03)  -- C.LDSP: ld rd, uimm(x2)
      ∷ row 4 (is_cr 0 (not_0 rd) (eqb rs2 0)) (type_i 0 rd 0 0 0x67)  -- C.JR: jalr x0, 0(rs1)
      ∷ row 4 (is_cr 0 true (not_0 rs2)) (type_r 0x00 rs2 0 0 rd 0x33)  -- C.MV: add rd, x0, rs2
      ∷ row 4 (is_cr 1 (eqb rd 0) (eqb rs2 0)) 0x00100073  -- C.EBREAK: ebreak
      ∷ row 4 (is_cr 1 (not_0 rd) (eqb rs2 0)) (type_i 0 rd 0 1 0x67)  -- C.JALR: jalr x1, 0(rs1)
      ∷ row 4 (is_cr 1 true (not_0 rs2)) (type_r 0x00 rs2 rd 0 rd 0x33)  -- C.ADD: add rd, rd, rs2
      ∷ row 5 true (type_s uimm_sdsp rs2 sp 3 0x27)  -- C.FSDSP: fsd rs2, uimm(x2)
      ∷ row 6 true (type_s uimm_swsp rs2 sp 2 0x23)  -- C.SWSP: sw rs2, uimm(x2)
      ∷ row 7 true (type_s uimm_sdsp rs2 sp 3 0x23) ∷ []  -- C.SDSP: sd rs2, uimm(x2)

-- by op, which is 3 in a word of 32 bits, and funct3
unfoldable pub expansion_by : ℕ → ℕ → ℕ → Option ℕ
expansion_by o f h =
    cond (eqb o 0) (find f (quadrant_0 h)) (cond (eqb o 1) (find f (quadrant_1 h)) (cond (eqb o 2) (find f (quadrant_2 h)) None))

-- the word that a halfword expands to; `none`: it is reserved, or not compressed
unfoldable pub expansion : ℕ → Option ℕ
expansion h = expansion_by (bits 1 0 h) (bits 15 13 h) h
