-- What is asked of a list of turns. Document 01, "Memory and helpers in demand 3".
-- Layout and helper are asked for along the history only: where a block is entered, at the pc and with the register
-- bytes that the history has there, and of the helper in the state in which the block's own CALL enters it.
-- The call of a helper meets no fault: CALL fails in this model on its push alone, and the helper is a function. That the
-- return address is canonical, as a RET asks on the processor, is not modelled.
use Rattle.std.specs.Prelude.{◌≡◌, Bool, false, true, List, [], ◌∷◌, ◌≢◌, ℕ, ◌+◌, ◌-◌, ◌%◌, ◌^◌, ◌≤◌, ◌<◌, length}
use Rattle.agreement.specs.Riscv.Code.{run_at}
use Rattle.agreement.specs.X86.Memory.{at, read}
use Rattle.agreement.specs.X86.Form.{RAX, RDX, RBX, RSP, RBP, R12, R13, R14, R15, Instr.call_rax}
use Rattle.agreement.specs.X86.State.{State}
use Rattle.agreement.specs.Translation.Replies.{Block, Refusal.limit_zero, Refusal.odd_start, Refusal.missing, Refusal.not_taken, Refusal.output_short}
use Rattle.agreement.specs.Translation.Replies.{Reply, Reply.block, Reply.refusal}
use Rattle.agreement.specs.Statement.Machine.{RegisterBytes, Turn, enter, Steps, By, Event, reply, Turned}

-- n bytes from a and m bytes from c have none in common
abbrev pub Apart : ℕ → ℕ → ℕ → ℕ → Type 0
Apart a n c m = (i j : ℕ) → i < n → j < m → a + i ≢ c + j

-- the 256 register bytes, the block of n bytes and the stack from 64 below the entry stack pointer to 8 above it neither
-- overlap nor wrap; the block may be fetched from, the registers and the stack read and written
pub record Layout (t : Turn) (n : ℕ) : Type 0 where
  pub base_fits : t.base + 256 ≤ 2 ^ 64
  pub stack_low : 64 ≤ t.sp
  pub stack_fits : t.sp + 8 ≤ 2 ^ 64
  pub block_fits : t.block + n ≤ 2 ^ 64
  pub block_base_apart : Apart t.block n t.base 256
  pub block_stack_apart : Apart t.block n (t.sp - 64) 72
  pub base_stack_apart : Apart t.base 256 (t.sp - 64) 72
  pub block_fetch : (i : ℕ) → i < n → t.ok.fetch (t.block + i) ≡ true
  pub base_read : (i : ℕ) → i < 256 → t.ok.read (t.base + i) ≡ true
  pub base_write : (i : ℕ) → i < 256 → t.ok.write (t.base + i) ≡ true
  pub stack_read : (i : ℕ) → i < 72 → t.ok.read (t.sp - 64 + i) ≡ true
  pub stack_write : (i : ℕ) → i < 72 → t.ok.write (t.sp - 64 + i) ≡ true
  pub aligned : t.sp % 16 ≡ 8

-- a helper entered in u and returned in v, beside a block of n bytes: back to the instruction after its call, the stack
-- pointer as before it, the psABI's saved registers as they were, slot x0 zero, the frame (from 48 below the entry stack
-- pointer to 8 above it) and the block unchanged, byte by byte
pub record Keeps (t : Turn) (n : ℕ) (u v : State) : Type 0 where
  pub rip : v.rip ≡ read 8 u.mem (u.regs RSP)
  pub rsp : v.regs RSP ≡ at (u.regs RSP) 8
  pub rbx : v.regs RBX ≡ u.regs RBX
  pub rbp : v.regs RBP ≡ u.regs RBP
  pub r12 : v.regs R12 ≡ u.regs R12
  pub r13 : v.regs R13 ≡ u.regs R13
  pub r14 : v.regs R14 ≡ u.regs R14
  pub r15 : v.regs R15 ≡ u.regs R15
  pub x0 : read 8 v.mem t.base ≡ 0
  pub frame : (j : ℕ) → j < 56 → v.mem (t.sp - 48 + j) % 256 ≡ u.mem (t.sp - 48 + j) % 256
  pub block : (i : ℕ) → i < n → v.mem (t.block + i) % 256 ≡ u.mem (t.block + i) % 256
  -- RAX and RDX hold 64-bit numbers
  pub rax : v.regs RAX < 2 ^ 64
  pub rdx : v.regs RDX < 2 ^ 64

-- the numbers of a turn are of their types
pub record Typed (t : Turn) : Type 0 where
  pub helper16 : t.helper16 < 2 ^ 64
  pub helper_mem : t.helper_mem < 2 ^ 64
  pub others : (k : ℕ) → k < 16 → t.others k < 2 ^ 64

-- whether a reply rests on the halfwords: a block does, and a refusal because the first word is not there or not taken. For a limit of 0,
-- an odd start and an output that is too short a turn is refused whatever the code is
abbrev pub rests_on_code : Reply → Bool
rests_on_code (block b) = true
rests_on_code (refusal limit_zero) = false
rests_on_code (refusal (odd_start start)) = false
rests_on_code (refusal (missing index)) = true
rests_on_code (refusal (not_taken word)) = true
rests_on_code (refusal output_short) = false

-- demand 3's "code unchanged since translation", of a reply that rests on it: the run that it was made from, whenever that was, is the
-- run that the code has now. This is all that is asked of the code: it may change from turn to turn, and in each turn everywhere but in
-- this run
abbrev pub Unchanged : Turn → ℕ → Type 0
Unchanged t pc = rests_on_code (reply t pc) ≡ true → t.made ≡ run_at t.code pc t.reach

-- the block b is entered with the register bytes rb; its CALL, if it comes to one, enters the helper in a
pub record Enterable (t : Turn) (b : Block) (rb : RegisterBytes) : Type 0 where
  pub layout : Layout t (length b.code)
  pub helper : (u a : State) (k : ℕ) (ws xs : List ℕ)
      → Steps t (enter t b.code rb) k ws u → By t call_rax u a xs → Keeps t (length b.code) a (t.helper a)

-- along the history from pc and rb
unfoldable pub Premises : ℕ → RegisterBytes → List Turn → Type 0
Premises pc rb [] = Unit
Premises pc rb (t ∷ ts) =
    Typed t
    × Unchanged t pc
    × ((b : Block) → reply t pc ≡ block b → Enterable t b rb)
    × ((e : Event) (pc' : ℕ) (rb' : RegisterBytes) → Turned pc rb t e pc' rb' → Premises pc' rb' ts)
