-- The manual's run. Document 01, "The manual's run in demand 3", "Words taken" and "Replies"; meanings from the manual.
-- It uses no definition of the translator or the host: it is fed a turn's code, how far that was fetched, the limit and the output's
-- length, and what a helper left.
use Rattle.std.specs.Prelude.{Bool, true, false, cond, ◌||◌, List, [], ◌∷◌, ℕ, zero, suc, ◌+◌, ◌*◌, ◌/◌, ◌%◌, min, drop, ltb, eqb, Option, None, Some}
use Rattle.agreement.specs.Common.{greatest, most_steps, Length.long, Length.short, size, Helper, Helper.for_halfword, Helper.for_access}
use Rattle.agreement.specs.Riscv.Code.{Code, run_at}
use Rattle.agreement.specs.Riscv.Fields.{rd, rs1, rs2, shamt6, shamt5, plus}
use Rattle.agreement.specs.Riscv.Immediates.{imm_i, imm_b, imm_j, imm_u}
use Rattle.agreement.specs.Riscv.Compressed.{expansion}
use Rattle.agreement.specs.Riscv.Instruction.{Instruction, named, value_op, value_op_imm, branches}
use Rattle.agreement.specs.Riscv.Instruction.Instruction.{op, op_imm, branch, access, unmodelled, LUI, AUIPC, JAL, JALR, FENCE, FENCE_I, other}

-- x0 to x31 by number
abbrev pub Registers : Type 0
Registers = ℕ → ℕ

-- 1. The words that a turn takes: the manual's listing, where document 01 chooses it ("Words taken")

-- not chosen: the environment calls
abbrev pub chosen : Instruction → Bool
chosen (op o) = true
chosen (op_imm o) = true
chosen (branch c) = true
chosen (access a) = true
chosen LUI = true
chosen AUIPC = true
chosen JAL = true
chosen JALR = true
chosen FENCE = true
chosen FENCE_I = true
chosen (unmodelled u) = false
chosen other = false

-- which instruction a turn takes a word for; `other`: it is not taken
unfoldable pub taken : ℕ → Instruction
taken w = cond (chosen (named w)) (named w) other

-- document 02, Q-7: a halfword is read in line where its expansion is taken as a straight or ending word
abbrev pub is_in_line : Instruction → Bool
is_in_line (op o) = true
is_in_line (op_imm o) = true
is_in_line (branch c) = true
is_in_line LUI = true
is_in_line AUIPC = true
is_in_line JAL = true
is_in_line JALR = true
is_in_line FENCE = true
is_in_line FENCE_I = true
is_in_line (access a) = false
is_in_line (unmodelled u) = false
is_in_line other = false

unfoldable pub if_in_line : Option ℕ → Option ℕ
if_in_line None = None
if_in_line (Some w) = cond (is_in_line (taken w)) (Some w) None

-- the word that a halfword is read as; `none`: it is a helper ending
unfoldable pub in_line : ℕ → Option ℕ
in_line h = if_in_line (expansion h)

-- an instruction of 16 bits has low two bits that are not 3 ("Base Instruction-Length Encoding"); all others are read as
-- words of 32 bits
unfoldable pub is_long : ℕ → Bool
is_long h = eqb (h % 4) 3

-- the word of two halfwords, the lower one first
abbrev pub word_of : ℕ → ℕ → ℕ
word_of low high = 65536 * high + low

-- 2. One turn's reading

-- how a turn's reading ends: by itself, or at a helper ending, with the instruction
pub data Stop : Type 0 where
  plain : Stop
  called : Helper → ℕ → Stop

-- registers and pc at the end of the reading, what it added to the count, how it stopped
pub record Read : Type 0 where
  pub registers : Registers
  pub pc : ℕ
  pub added : ℕ
  pub stop : Stop

abbrev pub one_more : Read → Read
one_more r = record { registers = r.registers; pc = r.pc; added = suc r.added; stop = r.stop }

abbrev pub halt : Registers → ℕ → Read
halt x pc = record { registers = x; pc = pc; added = 0; stop = plain }

abbrev pub help : Registers → ℕ → Helper → ℕ → Read
help x pc h i = record { registers = x; pc = pc; added = 0; stop = called h i }

abbrev pub jump : Registers → ℕ → Read
jump x pc = record { registers = x; pc = pc; added = 1; stop = plain }

-- rd becomes v; x0 stays what it is
unfoldable pub write_x : Registers → ℕ → ℕ → Registers
write_x x d v r = cond (eqb d 0) (x r) (cond (eqb r d) v (x r))

-- the word w at pc, its instruction known, which has z bytes there; `rest` reads on at pc + z
unfoldable pub does : Instruction → ℕ → ℕ → ℕ → Registers → (Registers → Read) → Read
does (op o) z pc w x rest = one_more (rest (write_x x (rd w) (value_op o (x (rs1 w)) (x (rs2 w)))))
does (op_imm o) z pc w x rest =
    one_more (rest (write_x x (rd w) (value_op_imm o (x (rs1 w)) (imm_i w) (shamt6 w) (shamt5 w))))
does LUI z pc w x rest = one_more (rest (write_x x (rd w) (imm_u w)))
does AUIPC z pc w x rest = one_more (rest (write_x x (rd w) (plus pc (imm_u w))))
-- document 01: a fence counts and does nothing
does FENCE z pc w x rest = one_more (rest x)
-- "a subsequent instruction fetch on a RISC-V hart will see any previous data stores already visible to the same RISC-V hart" (Zifencei).
-- So the turn ends here (document 02, Q-1): the words behind it are the next turn's, read from the code as it is then
does FENCE_I z pc w x rest = jump x (plus pc z)
does (branch c) z pc w x rest = jump x (cond (branches c (x (rs1 w)) (x (rs2 w))) (plus pc (imm_b w)) (plus pc z))
does JAL z pc w x rest = jump (write_x x (rd w) (plus pc z)) (plus pc (imm_j w))
-- "then setting the least-significant bit of the result to zero"
does JALR z pc w x rest = jump (write_x x (rd w) (plus pc z)) (plus (x (rs1 w)) (imm_i w) / 2 * 2)
does (access a) z pc w x rest = help x pc for_access w
does (unmodelled u) z pc w x rest = halt x pc
does other z pc w x rest = halt x pc

-- the word at pc whose lower halfword is h; hs: the halfwords behind that one
abbrev pub does_word : ℕ → ℕ → List ℕ → Registers → (Registers → Read) → Read
does_word pc h [] x rest = halt x pc
does_word pc h (u ∷ hs) x rest = does (taken (word_of h u)) (size long) pc (word_of h u) x rest

-- the halfword h at pc: what the word does that it is read as, or a helper ending
abbrev pub does_halfword : Option ℕ → ℕ → ℕ → Registers → (Registers → Read) → Read
does_halfword None pc h x rest = help x pc for_halfword h
does_halfword (Some w) pc h x rest = does (taken w) (size short) pc w x rest

-- at most n instructions, read from the run of halfwords that stands at pc
unfoldable pub reading : ℕ → ℕ → List ℕ → Registers → Read
reading zero pc hs x = halt x pc
reading (suc n) pc [] x = halt x pc
reading (suc n) pc (h ∷ hs) x = elim (is_long h) [
  | true ↦ does_word pc h hs x (reading n (plus pc (size long)) (drop 1 hs))
  | false ↦ does_halfword (in_line h) pc h x (reading n (plus pc (size short)) hs)
]

-- 3. Turns refused by the table of replies: 1 limit 0, 2 odd pc, 3 and 4 the first word, 5 the output's length

unfoldable pub is_not_taken : Instruction → Bool
is_not_taken i = cond (chosen i) false true

unfoldable pub first_refused : List ℕ → Bool
first_refused [] = true
first_refused (h ∷ []) = is_long h
first_refused (h ∷ u ∷ hs) = elim (is_long h) [ true ↦ is_not_taken (taken (word_of h u)) | false ↦ false ]

unfoldable pub refused : ℕ → ℕ → List ℕ → ℕ → Bool
refused limit pc hs room = eqb limit 0 || (eqb (pc % 2) 1 || (first_refused hs || ltb room greatest))

-- 4. The run over a list of turns

-- what a helper left: the slots x0 to x31 and RAX
pub record Left : Type 0 where
  pub slots : Registers
  pub rax : ℕ

-- what a turn feeds: the code as it is at that turn, how many halfwords of it were fetched, the output's length and, after a helper,
-- what that left
pub record Feed : Type 0 where
  pub limit : ℕ
  pub code : Code
  pub reach : ℕ
  pub room : ℕ
  pub left : Option Left

pub record GuestState : Type 0 where
  pub registers : Registers
  pub pc : ℕ
  pub count : ℕ

-- the halfwords that a turn reads
abbrev pub run_of : Feed → GuestState → List ℕ
run_of f s = run_at f.code s.pc f.reach

abbrev pub read_turn : Feed → GuestState → Read
read_turn f s = reading (min f.limit most_steps) s.pc (run_of f s) s.registers

-- after a helper ending the run goes on from what the helper left (the agreement shows that it is then fed)
unfoldable pub resume : Option Left → GuestState → GuestState
resume None s = s
resume (Some l) s = record { registers = l.slots; pc = l.rax; count = 0 }

unfoldable pub settle : Feed → GuestState → Read → Stop → GuestState
settle f s r plain = record { registers = r.registers; pc = r.pc; count = s.count + r.added }
settle f s r (called h i) = resume f.left s

unfoldable pub turn : Feed → GuestState → GuestState
turn f s = elim (refused f.limit s.pc (run_of f s) f.room) [
  | true ↦ s
  | false ↦ settle f s (read_turn f s) (read_turn f s).stop
]

unfoldable pub manual : List Feed → GuestState → GuestState
manual [] s = s
manual (f ∷ fs) s = manual fs (turn f s)
