-- The fields of a 32-bit word. RISC-V Unprivileged manual (20191213), "Base Instruction Formats".
use Rattle.std.specs.Prelude.{ℕ, suc, ◌+◌, ◌-◌, ◌/◌, ◌%◌, ◌^◌}

-- inst[high:low], as the manual writes a run of bits
abbrev pub bits : ℕ → ℕ → ℕ → ℕ
bits high low w = w / 2 ^ low % 2 ^ (suc high - low)

abbrev pub opcode : ℕ → ℕ
opcode w = bits 6 0 w

abbrev pub rd : ℕ → ℕ
rd w = bits 11 7 w

abbrev pub funct3 : ℕ → ℕ
funct3 w = bits 14 12 w

abbrev pub rs1 : ℕ → ℕ
rs1 w = bits 19 15 w

abbrev pub rs2 : ℕ → ℕ
rs2 w = bits 24 20 w

abbrev pub funct7 : ℕ → ℕ
funct7 w = bits 31 25 w

-- bits 31 to 26, which tell the shifts of RV64I apart, their amount having six bits
abbrev pub funct6 : ℕ → ℕ
funct6 w = bits 31 26 w

-- the six and the five bits of a shift amount, "RV64I, Integer Computational Instructions"
abbrev pub shamt6 : ℕ → ℕ
shamt6 w = bits 25 20 w

abbrev pub shamt5 : ℕ → ℕ
shamt5 w = bits 24 20 w

-- addresses and sums of XLEN = 64 bits: overflow is ignored
abbrev pub plus : ℕ → ℕ → ℕ
plus a b = (a + b) % 2 ^ 64
