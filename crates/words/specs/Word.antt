-- What the emitter makes of a word, by the definitions of crate agreement (Translation/Kind, Emit and Walk): host instructions, and
-- how the block goes on behind them.
use Rattle.std.specs.Prelude.{◌≡◌, Bool, true, false, ℕ, ◌-◌, ◌*◌, ◌/◌, ◌%◌, ◌^◌, cond, List, [], ◌∷◌, ◌++◌, ◌==◌, Option, Some, None}
use Rattle.agreement.specs.Common.{Helper.for_halfword, Helper.for_access}
use Rattle.agreement.specs.Riscv.Instruction.{Op, OpImm, Branch, Instruction}
use Rattle.agreement.specs.Riscv.Instruction.Instruction.{op, op_imm, branch, access, unmodelled, LUI, AUIPC, JAL, JALR, FENCE, FENCE_I, other}
use Rattle.agreement.specs.X86.Form.{RAX, RCX, RDX, RBX, RBP, RSI, RDI, R8, R9, R10, R11, R12, R13, R14, R15, Cc, Instr}
use Rattle.agreement.specs.X86.Form.Alu.{add, and}
use Rattle.agreement.specs.X86.Form.Instr.{push, pop, mov, mov_imm64, store, alu_imm32, cmov}
use Rattle.agreement.specs.X86.Encode.{bytes}
use Rattle.agreement.specs.Translation.Decode32.{opcode, rd, rs1, rs2, imm32, shamt, shamt_w, imm_u, imm_b, imm_j, wrapping_add}
use Rattle.agreement.specs.Translation.Emit.{body_op, body_op_imm, code_op, code_op_imm, code_const, code_jal, code_jalr, code_branch, cc_for, compare}
use Rattle.agreement.specs.Translation.Emit.{load_reg, store_reg, leftover}
use Rattle.agreement.specs.Translation.Walk.{End, End.calls, ending, size_of}
use Rattle.agreement.specs.Translation.Kind.{kind_number, kind_op, kind_op32, kind_op_imm, kind_op_imm32, kind_branch, kind_fence}
use Rattle.agreement.specs.Riscv.Immediates as Manual
use Rattle.decode.specs.declared.Decoded32.{Decoded32}
use Rattle.emitter.specs.declared.args.X64Cc.{X64Cc}
use Rattle.emitter.specs.Args.{cc_of}
use Rattle.emitter.specs.Written.{Emitter, Writes}
use Rattle.words.specs.declared.X64EmitFlow.{X64EmitFlow}
use Rattle.words.specs.declared.X64EmitFlow.TheVariants.{Continue, Terminate, StopBehind}

-- 1. A word: how the block goes on behind it, none where the word is not emitted, and its host instructions

pub record Word : Type 0 where
  pub flow : Option X64EmitFlow
  pub code : List Instr

abbrev pub goes_on : List Instr → Word
goes_on is = record { flow = Some Continue; code = is }

abbrev pub ends : List Instr → Word
ends is = record { flow = Some Terminate; code = is }

abbrev pub stops_behind : List Instr → Word
stops_behind is = record { flow = Some StopBehind; code = is }

abbrev pub not_emitted : List Instr → Word
not_emitted is = record { flow = None; code = is }

-- the emitter wrote the word, and answers how the block goes on
pub record Emits (old : Emitter) (w : Word) (new : Emitter) (r : Option X64EmitFlow) : Type 0 where
  pub flows : r ≡ w.flow
  pub writes : Writes old (bytes w.code) new

-- 2. By the instruction that `kind` names

-- the word w at pc, z: its size in bytes
abbrev pub word_as : Instruction → ℕ → ℕ → ℕ → Word
word_as (op o) z pc w = goes_on (code_op o (rd w) (rs1 w) (rs2 w))
word_as (op_imm o) z pc w = goes_on (code_op_imm o (rd w) (rs1 w) (imm32 w) (shamt w) (shamt_w w))
word_as LUI z pc w = goes_on (code_const (rd w) (imm_u w))
word_as AUIPC z pc w = goes_on (code_const (rd w) (wrapping_add pc (imm_u w)))
word_as FENCE z pc w = goes_on []
word_as FENCE_I z pc w = stops_behind []
word_as (branch c) z pc w = ends (code_branch c (rs1 w) (rs2 w) (wrapping_add pc z) (wrapping_add pc (imm_b w)))
word_as JAL z pc w = ends (code_jal (rd w) (wrapping_add pc z) (wrapping_add pc (imm_j w)))
word_as JALR z pc w = ends (code_jalr (rd w) (rs1 w) (imm32 w) (wrapping_add pc z))
word_as (access a) z pc w = not_emitted []
word_as (unmodelled u) z pc w = not_emitted (leftover (opcode w) (rs1 w) (rs2 w))
word_as other z pc w = not_emitted (leftover (opcode w) (rs1 w) (rs2 w))

-- how a block ends at a word that is not emitted, by the number of its kind: the Rust tries `emit_native_term_mem_helper_x64`
abbrev pub end_by : ℕ → ℕ → ℕ → End
end_by n pc w = cond (n == 3) (calls for_access w pc) (End.goes_on pc)

abbrev pub end_at : Instruction → ℕ → ℕ → End
end_at k pc w = end_by (kind_number k) pc w

-- how many bytes the instruction has that the end's helper executes
abbrev pub end_size : End → ℕ
end_size (End.goes_on pc) = 0
end_size End.jumped = 0
end_size (calls h i pc) = size_of h

-- 3. Parts of a word's code

-- both source registers: what `code_op` and `compare` begin with
abbrev pub load_pair : ℕ → ℕ → List Instr
load_pair r s = load_reg R10 r ∷ load_reg R11 s ∷ []

-- the store of the result, where the word goes on
abbrev pub store_if : ℕ → Option X64EmitFlow → List Instr
store_if r (Some Continue) = store_reg r R10
store_if r (Some Terminate) = []
store_if r (Some StopBehind) = []
store_if r None = []

-- loads, a body, and the store behind it
abbrev pub finished : List Instr → Word → ℕ → Word
finished loads w r = record { flow = w.flow; code = loads ++ (w.code ++ store_if r w.flow) }

-- instructions before a word
abbrev pub behind : List Instr → Word → Word
behind is w = record { flow = w.flow; code = is ++ w.code }

-- the part of `code_branch` behind `compare`: the target into RAX where the condition holds, else the next pc
abbrev pub select : Cc → ℕ → ℕ → List Instr
select c next target = mov_imm64 R11 next ∷ mov_imm64 RAX target ∷ cmov c R11 RAX ∷ mov RAX R11 ∷ []

-- a branch with that condition; one without is not emitted
abbrev pub select_if : Option X64Cc → ℕ → ℕ → Word
select_if (Some cc) next target = ends (select (cc_of cc) next target)
select_if None next target = not_emitted []

-- the first part of `code_jalr`: the target in R10
abbrev pub jalr_target : ℕ → ℕ → List Instr
jalr_target r i = load_reg R10 r ∷ alu_imm32 add R10 i ∷ alu_imm32 and R10 (2 ^ 32 - 2) ∷ []

-- the second part of `code_jalr`: the link through R11, nothing for x0. RAX gets the target behind it
abbrev pub jalr_link : ℕ → ℕ → List Instr
jalr_link r link = cond (r == 0) [] (mov_imm64 R11 link ∷ store RBX (8 * r) R11 ∷ [])

-- 4. By the word's fields d, and the instruction k that the match of its family gives

-- what a family of words has, by the instruction that its match gives: OP, OP-IMM, BRANCH; FENCE and FENCE.I, the two of MISC-MEM; all
-- else is not emitted
abbrev pub by_family : (Op → Word) → (OpImm → Word) → (Branch → Word) → Word → Word → Instruction → Word
by_family f g h a b (op o) = f o
by_family f g h a b (op_imm o) = g o
by_family f g h a b (branch c) = h c
by_family f g h a b FENCE = a
by_family f g h a b FENCE_I = b
by_family f g h a b (access _) = not_emitted []
by_family f g h a b (unmodelled u) = not_emitted []
by_family f g h a b LUI = not_emitted []
by_family f g h a b AUIPC = not_emitted []
by_family f g h a b JAL = not_emitted []
by_family f g h a b JALR = not_emitted []
by_family f g h a b other = not_emitted []

-- the part of OP and OP-32 that works on R10 and R11
abbrev pub op_body : Instruction → Word
op_body k = by_family (λ o. goes_on (body_op o)) (λ _. not_emitted []) (λ _. not_emitted []) (not_emitted []) (not_emitted []) k

-- the part of OP-IMM and OP-IMM-32 that works on R10; i: the immediate's 32 bits
abbrev pub op_imm_body : Instruction → Decoded32 → ℕ → Word
op_imm_body k d i =
    by_family (λ _. not_emitted []) (λ o. goes_on (body_op_imm o i (d.imm12 % 64) (d.imm12 % 32))) (λ _. not_emitted [])
    (not_emitted []) (not_emitted []) k

-- the part of BRANCH behind the comparison
abbrev pub branch_body : Instruction → ℕ → ℕ → Word
branch_body k next target =
    by_family (λ _. not_emitted []) (λ _. not_emitted []) (λ c. ends (select (cc_for c) next target)) (not_emitted []) (not_emitted []) k

-- the instruction of a word of 64 bits and of one of 32, by the match of its family
abbrev pub kind_op_of : Bool → ℕ → ℕ → Instruction
kind_op_of true f s = kind_op f s
kind_op_of false f s = kind_op32 f s

abbrev pub kind_op_imm_of : Bool → Decoded32 → Instruction
kind_op_imm_of true d = kind_op_imm d.funct3 (d.imm12 / 64)
kind_op_imm_of false d = kind_op_imm32 d.funct3 d.funct7

abbrev pub op_word : Instruction → Decoded32 → Word
op_word k d = finished (load_pair d.rs1 d.rs2) (op_body k) d.rd

abbrev pub op_imm_word : Instruction → Decoded32 → ℕ → Word
op_imm_word k d i = finished (load_reg R10 d.rs1 ∷ []) (op_imm_body k d i) d.rd

abbrev pub branch_word : Instruction → Decoded32 → ℕ → ℕ → Word
branch_word k d next target = behind (compare d.rs1 d.rs2) (branch_body k next target)

-- JALR; its other funct3 are reserved
abbrev pub jalr_word : Decoded32 → ℕ → ℕ → Word
jalr_word d i link = cond (d.funct3 == 0) (ends (code_jalr d.rd d.rs1 i link)) (not_emitted [])

-- MISC-MEM
abbrev pub fence_word : Instruction → Word
fence_word k = by_family (λ _. not_emitted []) (λ _. not_emitted []) (λ _. not_emitted []) (goes_on []) (stops_behind []) k

-- the word w at pc, z: its size in bytes: the match on the opcode, in the order of the code
abbrev pub word_by : ℕ → ℕ → ℕ → Decoded32 → Word
word_by z pc w d =
    cond (d.opcode == 0x37) (goes_on (code_const d.rd (Manual.imm_u w))) (
    cond (d.opcode == 0x17) (goes_on (code_const d.rd (wrapping_add pc (Manual.imm_u w)))) (
    cond (d.opcode == 0x6F) (ends (code_jal d.rd (wrapping_add pc z) (wrapping_add pc (Manual.imm_j w)))) (
    cond (d.opcode == 0x67) (jalr_word d (Manual.imm_i w % 2 ^ 32) (wrapping_add pc z)) (
    cond (d.opcode == 0x63) (branch_word (kind_branch d.funct3) d (wrapping_add pc z) (wrapping_add pc (Manual.imm_b w))) (
    cond (d.opcode == 0x13) (op_imm_word (kind_op_imm d.funct3 (d.imm12 / 64)) d (Manual.imm_i w % 2 ^ 32)) (
    cond (d.opcode == 0x1B) (op_imm_word (kind_op_imm32 d.funct3 d.funct7) d (Manual.imm_i w % 2 ^ 32)) (
    cond (d.opcode == 0x33) (op_word (kind_op d.funct3 d.funct7) d) (
    cond (d.opcode == 0x3B) (op_word (kind_op32 d.funct3 d.funct7) d) (
    cond (d.opcode == 0x0F) (fence_word (kind_fence d.funct3))
    (not_emitted []))))))))))

-- 5. What stands around the words: parts of the opening, the closing and the helper ends

-- the first part of `opening`, up to the stack pointer's 8 bytes
abbrev pub pushes : List Instr
pushes = push RBX ∷ push RBP ∷ push R12 ∷ push R13 ∷ push R14 ∷ push R15 ∷ []

-- the last part of `opening`, behind the stack pointer's 8 bytes
abbrev pub keeps : List Instr
keeps = mov RBX RDI ∷ mov R12 RSI ∷ mov R13 RDX ∷ mov R14 RCX ∷ mov R15 R8 ∷ mov RBP R9 ∷ []

-- `closing` behind the stack pointer's 8 bytes
abbrev pub pops : List Instr
pops = pop R15 ∷ pop R14 ∷ pop R13 ∷ pop R12 ∷ pop RBP ∷ pop RBX ∷ []

-- the first part of `passes`: what the block was entered with
abbrev pub host_arguments : List Instr
host_arguments = mov RDI R12 ∷ mov RSI R13 ∷ mov RDX R14 ∷ []

-- a helper end that calls the address a, behind n instructions
abbrev pub helper_end : ℕ → ℕ → ℕ → ℕ → List Instr
helper_end i pc a n = ending a a (calls for_halfword i pc) n
