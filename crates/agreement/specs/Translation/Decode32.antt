-- The word, its fields and immediates as the translator takes them: src/hart/decode.rs and jit_amd64.rs of the Rust.
-- `x >> n` is x / 2^n, `x << n` is x * 2^n, `&` is bit_and and `|` is bit_or.
use Rattle.std.specs.Prelude.{cond, ℕ, ◌+◌, ◌-◌, ◌*◌, ◌/◌, ◌%◌, ◌^◌, leb}
use Rattle.std.specs.Int.Bits.{bit_and, bit_or}

-- (upper << 16) | instr16
unfoldable pub word_of : ℕ → ℕ → ℕ
word_of lower upper = bit_or (upper * 2 ^ 16) lower

-- (w >> k) & m
abbrev pub mask : ℕ → ℕ → ℕ → ℕ
mask w k m = bit_and (w / 2 ^ k) m

unfoldable pub opcode : ℕ → ℕ
opcode w = bit_and w 0x7F

unfoldable pub rd : ℕ → ℕ
rd w = mask w 7 0x1F

unfoldable pub funct3 : ℕ → ℕ
funct3 w = mask w 12 0x7

unfoldable pub rs1 : ℕ → ℕ
rs1 w = mask w 15 0x1F

unfoldable pub rs2 : ℕ → ℕ
rs2 w = mask w 20 0x1F

unfoldable pub funct7 : ℕ → ℕ
funct7 w = mask w 25 0x7F

unfoldable pub imm12 : ℕ → ℕ
imm12 w = mask w 20 0xFFF

-- (imm12 >> 6) & 0x3f
unfoldable pub imm_hi : ℕ → ℕ
imm_hi w = mask (imm12 w) 6 0x3F

-- (imm12 & 0x3f) and (imm12 & 0x1f)
unfoldable pub shamt : ℕ → ℕ
shamt w = bit_and (imm12 w) 0x3F

unfoldable pub shamt_w : ℕ → ℕ
shamt_w w = bit_and (imm12 w) 0x1F

-- ((val << shift) as i64) >> shift, with shift = 64 - n
unfoldable pub sign_extend : ℕ → ℕ → ℕ
sign_extend n val =
    let up : ℕ = val * 2 ^ (64 - n) % 2 ^ 64 in
    cond (leb (2 ^ 63) up) (2 ^ 64 - 1 - (2 ^ 64 - 1 - up) / 2 ^ (64 - n)) (up / 2 ^ (64 - n))

unfoldable pub imm_i : ℕ → ℕ
imm_i w = sign_extend 12 (w / 2 ^ 20)

unfoldable pub imm_s : ℕ → ℕ
imm_s w = sign_extend 12 (bit_or (w / 2 ^ 25 * 2 ^ 5) (mask w 7 0x1F))

unfoldable pub imm_b : ℕ → ℕ
imm_b w = sign_extend 13 (bit_or (bit_or (bit_or
    (mask w 31 0x1 * 2 ^ 12) (mask w 7 0x1 * 2 ^ 11)) (mask w 25 0x3F * 2 ^ 5)) (mask w 8 0xF * 2 ^ 1))

unfoldable pub imm_u : ℕ → ℕ
imm_u w = sign_extend 32 (bit_and w 0xFFFFF000)

unfoldable pub imm_j : ℕ → ℕ
imm_j w = sign_extend 21 (bit_or (bit_or (bit_or
    (mask w 31 0x1 * 2 ^ 20) (mask w 12 0xFF * 2 ^ 12)) (mask w 20 0x1 * 2 ^ 11)) (mask w 21 0x3FF * 2 ^ 1))

-- an immediate as the imm32 of a host form: `imm as i32 as u32`
unfoldable pub imm32 : ℕ → ℕ
imm32 w = imm_i w % 2 ^ 32

-- `wrapping_add`
abbrev pub wrapping_add : ℕ → ℕ → ℕ
wrapping_add a b = (a + b) % 2 ^ 64
