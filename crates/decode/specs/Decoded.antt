-- What decode32 returns: every field of a word, each by the manual's definition (crate agreement, Riscv/Fields).
use Rattle.std.specs.Prelude.{ℕ}
use Rattle.agreement.specs.Riscv.Fields.{bits, opcode, rd, funct3, rs1, rs2, funct7}
use Rattle.decode.specs.declared.Decoded32.{Decoded32}

-- funct5 is the field of the atomics, csr_addr that of the CSR instructions; both share bits with funct7 and imm12
abbrev pub decoded : ℕ → Decoded32
decoded w = record {
  opcode = opcode w;
  rd = rd w;
  funct3 = funct3 w;
  rs1 = rs1 w;
  rs2 = rs2 w;
  funct7 = funct7 w;
  funct5 = bits 31 27 w;
  imm12 = bits 31 20 w;
  csr_addr = bits 31 20 w;
}
