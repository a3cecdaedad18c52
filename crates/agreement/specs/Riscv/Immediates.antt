-- The immediates of a word, in two's complement. RISC-V Unprivileged manual (20191213), "Immediate Encoding Variants".
use Rattle.std.specs.Prelude.{ℕ, zero, suc, ◌+◌, ◌-◌, ◌*◌, ◌/◌, ◌^◌}
use Rattle.agreement.specs.Riscv.Fields.{bits}

-- sign extension: a number of n bits, its top bit copied into every bit above, up to bit 63
unfoldable pub sign_extend : ℕ → ℕ → ℕ
sign_extend zero a = 0
sign_extend (suc k) a = a + a / 2 ^ k * (2 ^ 64 - 2 ^ suc k)

abbrev pub imm_i : ℕ → ℕ
imm_i w = sign_extend 12 (bits 31 20 w)

abbrev pub imm_s : ℕ → ℕ
imm_s w = sign_extend 12 (bits 31 25 w * 2 ^ 5 + bits 11 7 w)

abbrev pub imm_b : ℕ → ℕ
imm_b w = sign_extend 13 (bits 31 31 w * 2 ^ 12 + bits 7 7 w * 2 ^ 11 + bits 30 25 w * 2 ^ 5 + bits 11 8 w * 2)

abbrev pub imm_u : ℕ → ℕ
imm_u w = sign_extend 32 (bits 31 12 w * 2 ^ 12)

abbrev pub imm_j : ℕ → ℕ
imm_j w = sign_extend 21 (bits 31 31 w * 2 ^ 20 + bits 19 12 w * 2 ^ 12 + bits 20 20 w * 2 ^ 11 + bits 30 21 w * 2)
