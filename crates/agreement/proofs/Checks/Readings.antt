-- The manual's run over halfwords and words, worked out by hand from the manual's chapters RV32I and "C": values, links, next pcs.
use Rattle.std.proofs.Common.{◌≡◌, refl, Bool, true, false, ◌&&◌, List, [], ◌∷◌, ℕ, ◌*◌, eqb}
use Rattle.agreement.specs.Common.{Helper.for_access, Helper.for_halfword}
use Rattle.agreement.specs.Riscv.Instruction.{value_op, value_op_imm, branches}
use Rattle.agreement.specs.Riscv.Run.{Read, Registers, reading, write_x, Stop}
use Rattle.agreement.specs.Riscv.Run.Stop.{called, plain}
use Rattle.agreement.proofs.Checks.ExampleStates.{reads_a_turn}

-- register r has 16 r at the beginning, so that x1 has 16, x10 160 and x11 176
abbrev start : Registers
start r = 16 * r

abbrev read : ℕ → ℕ → List ℕ → Read
read limit pc hs = reading limit pc hs start

-- the registers x1 and x10, the pc and what was counted
unfoldable has : Read → ℕ → ℕ → ℕ → ℕ → Bool
has r x1 x10 pc added = eqb (r.registers 1) x1 && (eqb (r.registers 10) x10 && (eqb r.pc pc && eqb r.added added))

abbrev helped : Read → Bool
helped r = go r.stop
  where
    go : Stop → Bool
    go plain = false
    go (called for_halfword h) = true
    go (called for_access w) = false

readings : Bool
readings =
    -- C.LI x10, 5; ADDI x10, x10, 1; C.ADD x10, x11; C.JALR x11, its link 2 behind it
    has (read 64 0x80000002 (0x4515 ∷ 0x0513 ∷ 0x0015 ∷ 0x952E ∷ 0x9582 ∷ [])) 0x8000000C 182 176 4
    -- C.BEQZ x10, 4: x10 is not 0; behind C.LI x10, 0 it is
    && (has (read 64 0x80000000 (0xC111 ∷ 0x4505 ∷ [])) 16 160 0x80000002 1
    && (has (read 64 0x80000000 (0x4501 ∷ 0xC111 ∷ 0x4505 ∷ [])) 16 0 0x80000006 2
    -- C.J -2 at 0, to the last halfword of the address space; JAL x1, 4 behind C.NOP
    && (has (read 64 0 (0xBFFD ∷ [])) 16 160 0xFFFFFFFFFFFFFFFE 1
    && (has (read 64 0x80000000 (0x0001 ∷ 0x00EF ∷ 0x0040 ∷ [])) 0x80000006 160 0x80000006 2
    -- the limit; the upper half of a word is missing; C.LW behind C.NOP goes to the helper
    && (has (read 2 0x80000000 (0x0505 ∷ 0x0505 ∷ 0x0505 ∷ [])) 16 162 0x80000004 2
    && (has (read 64 0x80000000 (0x0505 ∷ 0x0513 ∷ [])) 16 161 0x80000002 1
    && (has (read 64 0x80000000 (0x0001 ∷ 0x4108 ∷ [])) 16 160 0x80000002 1
    && helped (read 64 0x80000000 (0x0001 ∷ 0x4108 ∷ [])))))))))

readings_hold : readings ≡ true
unfolding reads_a_turn value_op value_op_imm branches write_x has readings
readings_hold = refl
