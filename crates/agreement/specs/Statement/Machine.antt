-- What the machine does over a list of turns: a translation at the pc, then one entry of its block on the x86 model.
-- No register number of the guest and no meaning of an instruction stand here. Document 01, demand 3 and "Memory and helpers in demand 3".
use Rattle.std.specs.Prelude.{◌≡◌, List, [], ◌∷◌, ◌++◌, ℕ, suc, ◌+◌, length, Option, None, Some}
use Rattle.agreement.specs.Riscv.Code.{Code}
use Rattle.agreement.specs.X86.Memory.{Memory, overlay, nth}
use Rattle.agreement.specs.X86.Form.{RAX, RDX, RSP, RDI, Instr, Instr.call_rax, Instr.ret}
use Rattle.agreement.specs.X86.State.{Flags, State, Permissions, set}
use Rattle.agreement.specs.X86.Step.{next, step, Goes}
use Rattle.agreement.specs.Translation.Replies.{Block, Refusal, Reply, Reply.block, Reply.refusal, translate}

-- 1. What is given

-- the 256 bytes at the registers' address, by offset
abbrev pub RegisterBytes : Type 0
RegisterBytes = ℕ → ℕ

-- a turn: what is translated, and how its block is entered if there is one
pub record Turn : Type 0 where
  pub limit : ℕ
  -- the run of halfwords that is translated, at this turn or at any earlier time: the reply is a function of it, of the pc and of the
  -- limit, helpers and output's length here
  pub made : List ℕ
  -- the guest's code as it is at this turn, and how many halfwords of it were fetched. Nothing in this file reads these two
  pub code : Code
  pub reach : ℕ
  -- the pair of helpers, and the lent output
  pub helper16 : ℕ
  pub helper_mem : ℕ
  pub output : List ℕ
  -- where the block and the register bytes stand, and the stack pointer at entry
  pub block : ℕ
  pub base : ℕ
  pub sp : ℕ
  -- all other registers, flags and memory at entry
  pub others : ℕ → ℕ
  pub flags : Flags
  pub rest : Memory
  -- the addresses that may be used, and what becomes of flags that the SDM leaves undefined
  pub ok : Permissions
  pub undefined : State → Flags
  -- from the state at the helper's first instruction to the state at its return
  pub helper : State → State

-- 2. One entry of a block

-- the state at entry: the block and the register bytes in memory, the registers' address in RDI
unfoldable pub enter : Turn → List ℕ → RegisterBytes → State
enter t code rb = record {
  regs = set (set t.others RDI t.base) RSP t.sp;
  flags = t.flags;
  rip = t.block;
  mem = overlay (overlay t.rest t.base 256 rb) t.block (length code) (nth code);
}

-- the call of a helper: just before the CALL, at the helper's first instruction, at its return
pub record Call : Type 0 where
  pub before : State
  pub inside : State
  pub back : State

-- an entry up to its return; steps and the log of written addresses leave out what the helper itself does
pub record Visit : Type 0 where
  pub entry : State
  pub call : Option Call
  pub exit : State
  pub steps : ℕ
  pub log : List ℕ

-- n steps without CALL or RET
abbrev pub Steps : Turn → State → ℕ → List ℕ → State → Type 0
Steps t s n ws u = Goes t.undefined t.ok s n ws u

-- one step, by the instruction i
pub record By (t : Turn) (i : Instr) (u v : State) (ws : List ℕ) : Type 0 where
  pub size : ℕ
  pub fetch : next t.ok u ≡ Some (record { instr = i; size = size })
  pub does : step t.undefined t.ok u ≡ Some (v, ws)

-- from entry to the block's RET; or to a CALL, through the helper, and on to the RET
pub data Went (t : Turn) : State → Visit → Type 0 where
  plainly : {s u v : State} {n : ℕ} {ws xs : List ℕ}
      → Steps t s n ws u → By t ret u v xs
      → Went t s (record { entry = s; call = None; exit = v; steps = suc n; log = ws ++ xs })
  helped : {s u a w v : State} {n m : ℕ} {ws xs ys zs : List ℕ}
      → Steps t s n ws u → By t call_rax u a xs → Steps t (t.helper a) m ys w → By t ret w v zs
      → Went t s (record {
        entry = s;
        call = Some (record { before = u; inside = a; back = t.helper a });
        exit = v;
        steps = suc n + suc m;
        log = (ws ++ xs) ++ (ys ++ zs);
      })

-- 3. The history over a list

-- what a turn came to, with the pc that it found: a refusal, or a block of that count and its visit
pub data Event : Type 0 where
  rejected : ℕ → Refusal → Event
  visited : ℕ → ℕ → Visit → Event

abbrev pub reply : Turn → ℕ → Reply
reply t pc = translate pc t.limit t.made t.helper16 t.helper_mem (length t.output)

-- the register bytes that a visit leaves
abbrev pub bytes_after : Turn → Visit → RegisterBytes
bytes_after t v i = v.exit.mem (t.base + i)

-- one turn: a refused one leaves pc and register bytes; after a block the pc is RAX, the bytes are those at its return
pub data Turned (pc : ℕ) (rb : RegisterBytes) (t : Turn) : Event → ℕ → RegisterBytes → Type 0 where
  skip : {r : Refusal} → reply t pc ≡ refusal r → Turned pc rb t (rejected pc r) pc rb
  visit : {b : Block} {v : Visit} → reply t pc ≡ block b → Went t (enter t b.code rb) v
      → Turned pc rb t (visited pc b.count v) (v.exit.regs RAX) (bytes_after t v)

-- each turn begins with the pc and the register bytes that the last one left
pub data History : ℕ → RegisterBytes → List Turn → List Event → ℕ → RegisterBytes → Type 0 where
  end : {pc : ℕ} {rb : RegisterBytes} → History pc rb [] [] pc rb
  then : {pc pc' pc'' : ℕ} {rb rb' rb'' : RegisterBytes} {t : Turn} {ts : List Turn} {e : Event} {es : List Event}
      → Turned pc rb t e pc' rb' → History pc' rb' ts es pc'' rb'' → History pc rb (t ∷ ts) (e ∷ es) pc'' rb''

-- the sum of RDX at return over the blocks entered since the last helper block
unfoldable pub plus_rdx : ℕ → ℕ → Option Call → ℕ
plus_rdx n rdx None = n + rdx
plus_rdx n rdx (Some c) = 0

unfoldable pub since : ℕ → List Event → ℕ
since n [] = n
since n (rejected pc r ∷ es) = since n es
since n (visited pc k v ∷ es) = since (plus_rdx n (v.exit.regs RDX) v.call) es
