-- The model computes: the example's plain block, one of compressed halfwords, one that jumps over its division and one that divides,
-- fetched, decoded and executed step by step from entry to return.
use Rattle.std.proofs.Common.{false, true, List, [], ◌∷◌, ◌≡◌, refl, ◌-◌, ◌^◌, ℕ, length}
use Rattle.std.specs.Prelude.{Option, None, Some}
use Rattle.agreement.specs.Translation.Replies.{walked}
use Rattle.agreement.specs.Translation.Walk.{instrs}
use Rattle.agreement.specs.Statement.Machine.{enter}
use Rattle.agreement.specs.X86.Decode.{alu_of, cc_of, decode, imm, loaded, memory, modrm, moved, on_reg, only, opcode_0f, opcode1, pick}
use Rattle.agreement.specs.X86.Decode.{shift_of, sib, width_of, mul_div_of}
use Rattle.agreement.specs.X86.Encode.{bytes}
use Rattle.agreement.specs.X86.Execute.{accesses, division_faults, exec, faults}
use Rattle.agreement.specs.X86.Flags.{add_flags, alu_flags, alu_value, even_ones, holds, logic_flags, ones, sext, sub_flags}
use Rattle.agreement.specs.X86.Form.{RAX, RDX, RSP}
use Rattle.agreement.specs.X86.Memory.{nth, overlay, put, read, span, write}
use Rattle.agreement.specs.X86.State.{Permissions, State}
use Rattle.agreement.specs.X86.Step.{all, cut, did, fetched, next, past, step, steps}
use Rattle.agreement.specs.Cases.{words}
use Rattle.agreement.proofs.Checks.CasesHold.{immediates, translations}
use Rattle.agreement.proofs.Checks.Example.{leaves, plain_turn, range, zeros}

abbrev code_of_run : List ℕ → List ℕ
code_of_run hs = bytes (instrs 0x2222 0x1111 (walked 0x80000010 64 hs))

abbrev code_of : List ℕ → List ℕ
code_of ws = code_of_run (words ws)

abbrev code : List ℕ
code = code_of (0x00108113 ∷ 0x00209863 ∷ [])

-- RAX, RDX, RSP, slot x2 and how many bytes were written; all 0 where there was no next state
abbrev summary : Option (State × List ℕ) → ℕ × ℕ × ℕ × ℕ × ℕ
summary None = (0, 0, 0, 0, 0)
summary (Some a) = (a.0.regs RAX, a.0.regs RDX, a.0.regs RSP, read 8 a.0.mem 0x10010, length a.1)

unfoldable pub the_model : Unit {0}
unfolding
    steps step next cut did fetched all past accesses exec alu_value alu_flags add_flags sub_flags logic_flags even_ones ones sext holds
    enter overlay nth put read write span decode opcode1 opcode_0f pick only imm modrm memory sib
    alu_of shift_of cc_of mul_div_of on_reg moved loaded width_of faults division_faults
the_model = tt

-- 32 steps: x1 is 0, so x2 becomes 1 and the branch is taken; 48 bytes of stack and the 8 of slot x2 are written
executed : summary (steps plain_turn.undefined plain_turn.ok 32 (enter plain_turn code zeros))
    ≡ (0x80000024, 2, 0x30020, 1, 56)
unfolding the_model translations immediates words range leaves
executed = refl

-- C.LI x2, 5; C.ADDI x2, 3; C.BEQZ x8, 16, which stands at 0x80000014 and is taken: 35 steps, and x2 becomes 8
compressed : summary (steps plain_turn.undefined plain_turn.ok 35 (enter plain_turn (code_of_run (0x4115 ∷ 0x010D ∷ 0xC801 ∷ [])) zeros))
    ≡ (0x80000024, 3, 0x30020, 8, 64)
unfolding the_model translations immediates words range leaves
compressed = refl

-- DIV x2, x1, x0 jumps over its division: 34 steps through 37 instructions, and x2 becomes -1
by_zero : summary (steps plain_turn.undefined plain_turn.ok 34 (enter plain_turn (code_of (0x0200C133 ∷ [])) zeros))
    ≡ (0x80000014, 1, 0x30020, 2 ^ 64 - 1, 56)
unfolding the_model translations immediates words range leaves
by_zero = refl

-- ADDI x1, x0, 7 and DIVU x2, x1, x1 divides: 36 steps through 36 instructions
by_itself : summary (steps plain_turn.undefined plain_turn.ok 36 (enter plain_turn (code_of (0x00700093 ∷ 0x0210D133 ∷ [])) zeros))
    ≡ (0x80000018, 2, 0x30020, 1, 64)
unfolding the_model translations immediates words range leaves
by_itself = refl

-- a step that may not write where it would has none: the first push, when only reading is permitted
abbrev read_only : Permissions
read_only = record { fetch = λ x. true; read = λ x. true; write = λ x. false }

write-faults : step plain_turn.undefined read_only (enter plain_turn code zeros) ≡ None
unfolding the_model translations immediates words
write-faults = refl
