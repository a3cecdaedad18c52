-- Compressed halfwords as the translator expands them: by shifts and remainders, each field moved to its place in the word at once.
-- The Rust has no such step. A sign bit is multiplied by the ones that it stands for; 0x8080 puts a register at rd and at rs1.
use Rattle.std.specs.Prelude.{Bool, cond, List, [], ◌∷◌, ℕ, ◌+◌, ◌*◌, ◌/◌, ◌%◌, ◌^◌, eqb, Option, None, Some}

-- (h >> k) % 2^n
abbrev pub part : ℕ → ℕ → ℕ → ℕ
part h k n = h / 2 ^ k % 2 ^ n

-- a match on a number, its arms `pattern => value` in order; where none fits there is no word, and the halfword goes to the helper
unfoldable pub match : ℕ → List (ℕ × Option ℕ) → Option ℕ
match n [] = None
match n (a ∷ arms) = cond (eqb n a.0) a.1 (match n arms)

abbrev pub unless : Bool → ℕ → Option ℕ
unless t w = cond t None (Some w)

-- the registers: rd, and rs1 where it is rd; rs2; the same of three bits
abbrev pub rd : ℕ → ℕ
rd h = part h 7 5

abbrev pub rs2 : ℕ → ℕ
rs2 h = part h 2 5

abbrev pub rd3 : ℕ → ℕ
rd3 h = 8 + part h 7 3

abbrev pub rs3 : ℕ → ℕ
rs3 h = 8 + part h 2 3

-- six bits at bit 20 of the word: with sign, and as a shift amount
abbrev pub imm6 : ℕ → ℕ
imm6 h = part h 12 1 * 0xFE000000 + part h 2 5 * 2 ^ 20

abbrev pub shamt : ℕ → ℕ
shamt h = part h 12 1 * 2 ^ 25 + part h 2 5 * 2 ^ 20

abbrev pub addi4spn : ℕ → ℕ
addi4spn h =
    part h 11 2 * 2 ^ 24 + part h 7 4 * 2 ^ 26 + part h 6 1 * 2 ^ 22 + part h 5 1 * 2 ^ 23 + rs3 h * 2 ^ 7 + 0x10013

abbrev pub addi16sp : ℕ → ℕ
addi16sp h =
    part h 12 1 * 0xE0000000 + part h 6 1 * 2 ^ 24 + part h 5 1 * 2 ^ 26 + part h 3 2 * 2 ^ 27 + part h 2 1 * 2 ^ 25 + 0x10113

abbrev pub lui : ℕ → ℕ
lui h = part h 12 1 * 0xFFFE0000 + part h 2 5 * 2 ^ 12 + rd h * 2 ^ 7 + 0x37

abbrev pub jal : ℕ → ℕ
jal h =
    part h 12 1 * 0x801FF000 + part h 11 1 * 2 ^ 24 + part h 9 2 * 2 ^ 28 + part h 8 1 * 2 ^ 30 + part h 7 1 * 2 ^ 26
    + part h 6 1 * 2 ^ 27 + part h 3 3 * 2 ^ 21 + part h 2 1 * 2 ^ 25 + 0x6F

-- BEQ; BNE is 2^12 more
abbrev pub beq : ℕ → ℕ
beq h =
    part h 12 1 * 0xF0000080 + part h 10 2 * 2 ^ 10 + part h 5 2 * 2 ^ 26 + part h 3 2 * 2 ^ 8 + part h 2 1 * 2 ^ 25
    + rd3 h * 2 ^ 15 + 0x63

-- two registers of three bits, and the rest of the word; bit 12 of the halfword above bits 6 and 5
abbrev pub pair : ℕ → ℕ → ℕ
pair h base = rs3 h * 2 ^ 20 + rd3 h * 0x8080 + base

abbrev pub registers : ℕ → Option ℕ
registers h =
    match (part h 12 1 * 4 + part h 5 2) (
    (0, Some (pair h 0x40000033)) ∷ (1, Some (pair h 0x4033)) ∷ (2, Some (pair h 0x6033)) ∷ (3, Some (pair h 0x7033))
    ∷ (4, Some (pair h 0x4000003B)) ∷ (5, Some (pair h 0x3B)) ∷ [])

abbrev pub arithmetic : ℕ → Option ℕ
arithmetic h =
    match (part h 10 2) (
    (0, Some (shamt h + rd3 h * 0x8080 + 0x5013)) ∷ (1, Some (shamt h + rd3 h * 0x8080 + 0x40005013))
    ∷ (2, Some (imm6 h + rd3 h * 0x8080 + 0x7013)) ∷ (3, registers h) ∷ [])

-- C.ADDI16SP where rd is x2, else C.LUI; none with immediate 0
abbrev pub upper : ℕ → Option ℕ
upper h = unless (eqb (part h 12 1 * 32 + part h 2 5) 0) (cond (eqb (rd h) 2) (addi16sp h) (lui h))

-- JALR to x0 or x1 where rs2 is 0, none for x0; else ADD to rd of x0 or rd, by bit 12 both
abbrev pub moves : ℕ → Option ℕ
moves h =
    cond (eqb (rs2 h) 0) (unless (eqb (rd h) 0) (rd h * 2 ^ 15 + part h 12 1 * 2 ^ 7 + 0x67))
    (Some (cond (eqb (part h 12 1) 0) (rs2 h * 2 ^ 20 + rd h * 2 ^ 7 + 0x33) (rs2 h * 2 ^ 20 + rd h * 0x8080 + 0x33)))

-- by funct3 above the low two bits, which say the quadrant
unfoldable pub expand_by : ℕ → ℕ → Option ℕ
expand_by n h = match n (
    (0b000_00, unless (eqb (part h 5 8) 0) (addi4spn h))
    ∷ (0b000_01, Some (imm6 h + rd h * 0x8080 + 0x13))
    ∷ (0b000_10, Some (shamt h + rd h * 0x8080 + 0x1013))
    ∷ (0b001_01, unless (eqb (rd h) 0) (imm6 h + rd h * 0x8080 + 0x1B))
    ∷ (0b010_01, Some (imm6 h + rd h * 2 ^ 7 + 0x13))
    ∷ (0b011_01, upper h)
    ∷ (0b100_01, arithmetic h)
    ∷ (0b100_10, moves h)
    ∷ (0b101_01, Some (jal h))
    ∷ (0b110_01, Some (beq h))
    ∷ (0b111_01, Some (beq h + 0x1000))
    ∷ [])

-- the word that a halfword is translated as; `none`: it goes to the helper
unfoldable pub expand : ℕ → Option ℕ
expand h = expand_by (part h 13 3 * 4 + part h 0 2) h
