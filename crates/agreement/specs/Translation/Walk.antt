-- The walk over a run of halfwords, and the block: the Rust's `compile_native_block`.
use Rattle.std.specs.Prelude.{true, false, List, [], ◌∷◌, ◌++◌, ℕ, zero, suc, ◌+◌, drop, eqb, Option, None, Some}
use Rattle.std.specs.Int.Bits.{bit_and}
use Rattle.agreement.specs.Common.{Length.long, Length.short, size, Helper, Helper.for_halfword, Helper.for_access}
use Rattle.agreement.specs.Riscv.Instruction.{Instruction}
use Rattle.agreement.specs.Riscv.Instruction.Instruction.{op, op_imm, branch, access, unmodelled, LUI, AUIPC, JAL, JALR, FENCE, FENCE_I, other}
use Rattle.agreement.specs.X86.Form.{RAX, RDX, Instr, Instr.mov_imm64, Instr.call_rax, Instr.ret}
use Rattle.agreement.specs.Translation.Decode32.{word_of, opcode, rd, rs1, rs2, imm32, shamt, shamt_w, imm_b, imm_u, imm_j, wrapping_add}
use Rattle.agreement.specs.Translation.Decode16.{expand}
use Rattle.agreement.specs.Translation.Kind.{kind}
use Rattle.agreement.specs.Translation.Emit.{code_op, code_op_imm, code_const, code_jal, code_jalr, code_branch, leftover, opening, closing}
use Rattle.agreement.specs.Translation.Emit.{passes, add_count}

-- how a block ends: it goes on at a pc, an ending word has set RAX, or a helper is called with an instruction and its pc
pub data End : Type 0 where
  goes_on : ℕ → End
  jumped : End
  calls : Helper → ℕ → ℕ → End

-- how many bytes the instruction has that a helper executes
abbrev pub size_of : Helper → ℕ
size_of for_halfword = size short
size_of for_access = size long

-- the host instructions; how many guest instructions stand before the end; how many bytes of the guest's code the walk spans (document 02,
-- Q-5), those of these instructions and of the one that a helper executes; and the end. A word that is not taken and a missing halfword are
-- not spanned
pub record Walked : Type 0 where
  pub code : List Instr
  pub added : ℕ
  pub span : ℕ
  pub end : End

abbrev pub stops_at : ℕ → Walked
stops_at pc = record { code = []; added = 0; span = 0; end = goes_on pc }

abbrev pub helps : Helper → ℕ → ℕ → Walked
helps h i pc = record { code = []; added = 0; span = size_of h; end = calls h i pc }

-- an ending word of z bytes
abbrev pub jumps : ℕ → List Instr → Walked
jumps z is = record { code = is; added = 1; span = z; end = jumped }

-- a straight word of z bytes
abbrev pub before : ℕ → List Instr → Walked → Walked
before z is p = record { code = is ++ p.code; added = suc p.added; span = z + p.span; end = p.end }

-- a word of z bytes behind which the block ends at pc: RAX is left to the end, as where the limit is reached
abbrev pub stops_behind : ℕ → List Instr → ℕ → Walked
stops_behind z is pc = record { code = is; added = 1; span = z; end = goes_on pc }

-- a word that is not taken leaves its loads, counts nothing, and ends the block; RAX gets its pc
abbrev pub not_taken_at : ℕ → ℕ → Walked
not_taken_at pc w = record { code = leftover (opcode w) (rs1 w) (rs2 w); added = 0; span = 0; end = goes_on pc }

-- the word w at pc, which has z bytes there; p: the walk over what follows
unfoldable pub emit : Instruction → ℕ → ℕ → ℕ → Walked → Walked
emit (op o) z pc w p = before z (code_op o (rd w) (rs1 w) (rs2 w)) p
emit (op_imm o) z pc w p = before z (code_op_imm o (rd w) (rs1 w) (imm32 w) (shamt w) (shamt_w w)) p
emit LUI z pc w p = before z (code_const (rd w) (imm_u w)) p
emit AUIPC z pc w p = before z (code_const (rd w) (wrapping_add pc (imm_u w))) p
emit FENCE z pc w p = before z [] p
-- document 02, Q-1; in the Rust the block goes on
emit FENCE_I z pc w p = stops_behind z [] (wrapping_add pc z)
emit (branch c) z pc w p = jumps z (code_branch c (rs1 w) (rs2 w) (wrapping_add pc z) (wrapping_add pc (imm_b w)))
emit JAL z pc w p = jumps z (code_jal (rd w) (wrapping_add pc z) (wrapping_add pc (imm_j w)))
emit JALR z pc w p = jumps z (code_jalr (rd w) (rs1 w) (imm32 w) (wrapping_add pc z))
emit (access a) z pc w p = helps for_access w pc
emit (unmodelled u) z pc w p = not_taken_at pc w
emit other z pc w p = not_taken_at pc w

-- the word at pc whose lower halfword is h; hs: the halfwords behind that one
abbrev pub emit_word : ℕ → ℕ → List ℕ → Walked → Walked
emit_word pc h [] p = stops_at pc
emit_word pc h (u ∷ hs) p = emit (kind (word_of h u)) (size long) pc (word_of h u) p

-- the halfword h at pc: the word that it is translated as, or a helper end
abbrev pub emit_halfword : Option ℕ → ℕ → ℕ → Walked → Walked
emit_halfword None pc h p = helps for_halfword h pc
emit_halfword (Some w) pc h p = emit (kind w) (size short) pc w p

-- at most n instructions of the halfwords that stand at pc; a compressed one needs no second halfword
unfoldable pub walk : ℕ → ℕ → List ℕ → Walked
walk zero pc hs = stops_at pc
walk (suc n) pc [] = stops_at pc
walk (suc n) pc (h ∷ hs) = elim (eqb (bit_and h 0x3) 0x3) [
  | true ↦ emit_word pc h hs (walk n (wrapping_add pc (size long)) (drop 1 hs))
  | false ↦ emit_halfword (expand h) pc h (walk n (wrapping_add pc (size short)) hs)
]

-- the pair's first address for a halfword, its second for a load or store
abbrev pub helper_at : Helper → ℕ → ℕ → ℕ
helper_at for_halfword helper16 helper_mem = helper16
helper_at for_access helper16 helper_mem = helper_mem

-- the end's instructions; n: the count so far
unfoldable pub ending : ℕ → ℕ → End → ℕ → List Instr
ending helper16 helper_mem (goes_on pc) n = mov_imm64 RAX pc ∷ mov_imm64 RDX n ∷ (closing ++ ret ∷ [])
ending helper16 helper_mem jumped n = mov_imm64 RDX n ∷ (closing ++ ret ∷ [])
ending helper16 helper_mem (calls h i pc) n =
    passes i pc (helper_at h helper16 helper_mem) ++ call_rax ∷ (add_count n ++ (closing ++ ret ∷ []))

unfoldable pub instrs : ℕ → ℕ → Walked → List Instr
instrs helper16 helper_mem p = opening ++ (p.code ++ ending helper16 helper_mem p.end p.added)

-- the block's count: a helper end is an instruction of its own
unfoldable pub counted : End → ℕ → ℕ
counted (goes_on pc) n = n
counted jumped n = n
counted (calls h i pc) n = suc n
