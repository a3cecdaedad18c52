-- The words that the contracts name are those of the walk (crate agreement, Translation/Walk and Replies): `emit` goes on, ends or
-- stops as the word's flow says, with the word's instructions; so does the test of the first word.
use Rattle.std.proofs.Common.{◌≡◌, ℕ, List, Option, Some, None, refl}
use Rattle.agreement.specs.Riscv.Instruction.{Instruction}
use Rattle.agreement.specs.Riscv.Instruction.Instruction.{op, op_imm, branch, access, unmodelled, LUI, AUIPC, JAL, JALR, FENCE, FENCE_I, other}
use Rattle.agreement.specs.X86.Form.{Instr}
use Rattle.agreement.specs.Translation.Decode32.{wrapping_add}
use Rattle.agreement.specs.Translation.Walk.{Walked, End, emit, before, jumps, stops_behind}
use Rattle.words.specs.Word.{word_as, end_at, end_size}
use Rattle.words.specs.declared.X64EmitFlow.TheVariants.{Continue, Terminate, StopBehind}
use Rattle.words.specs.declared.X64EmitFlow.{X64EmitFlow}

-- the walk from a word of z bytes on: its flow and instructions, the pc behind it, the end if it is not emitted, the walk over what follows
abbrev pub by_flow : Option X64EmitFlow → ℕ → List Instr → ℕ → End → Walked → Walked
by_flow (Some Continue) z is next e p = before z is p
by_flow (Some Terminate) z is next e p = jumps z is
by_flow (Some StopBehind) z is next e p = stops_behind z is next
by_flow None z is next e p = record { code = is; added = 0; span = end_size e; end = e }

pub walks_on : (k : Instruction) (z pc w : ℕ) (p : Walked)
    → emit k z pc w p ≡ by_flow (word_as k z pc w).flow z (word_as k z pc w).code (wrapping_add pc z) (end_at k pc w) p
unfolding emit
walks_on (op o) z pc w p = refl
walks_on (op_imm o) z pc w p = refl
walks_on (branch c) z pc w p = refl
walks_on (access a) z pc w p = refl
walks_on (unmodelled u) z pc w p = refl
walks_on LUI z pc w p = refl
walks_on AUIPC z pc w p = refl
walks_on JAL z pc w p = refl
walks_on JALR z pc w p = refl
walks_on FENCE z pc w p = refl
walks_on FENCE_I z pc w p = refl
walks_on other z pc w p = refl
