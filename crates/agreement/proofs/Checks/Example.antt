-- A list of turns that meets every premise: the theorem is applied to it, so that its premises are seen to be met.
-- Registers at 0x10000, block at 0x20000; three entry stack pointers, two of which differ modulo 32, and one as high as can
-- be. All memory may be fetched from and read, and written but at address 0. (Checks/Sites has the other extreme: nothing else may be
-- touched.)
use Rattle.std.proofs.Common.{Bool, false, true, not, eqb, ◌&&◌, List, [], ◌∷◌, ℕ, ◌+◌, ◌*◌, ◌%◌, length, replicate, leb, ltb}
use Rattle.std.specs.Prelude.{None}
use Rattle.agreement.specs.Riscv.Code.{Code}
use Rattle.agreement.specs.X86.Memory.{at, read, write}
use Rattle.agreement.specs.X86.Form.{RAX, RDX, RSP}
use Rattle.agreement.specs.X86.State.{Flags, State, Permissions, set}
use Rattle.agreement.specs.Statement.Machine.{RegisterBytes, Turn}
use Rattle.agreement.specs.Cases.{words}
use Rattle.agreement.proofs.Laws.Runs.{held}

-- the n addresses from a
unfoldable pub range : ℕ → ℕ → ℕ → Bool
range a n x = leb a x && ltb x (a + n)

abbrev pub permissions : Permissions
permissions = record { fetch = λ x. true; read = λ x. true; write = λ x. not (eqb x 0) }

-- a helper that sets slot r to v and slot x0 to 0, and returns with RAX and RDX as given
unfoldable pub leaves : ℕ → ℕ → ℕ → ℕ → State → State
leaves r v rax rdx u = record {
  regs = set (set (set u.regs RSP (at (u.regs RSP) 8)) RAX rax) RDX rdx;
  flags = u.flags;
  rip = read 8 u.mem (u.regs RSP);
  mem = write 8 (write 8 u.mem (0x10000 + 8 * r) v) 0x10000 0;
}

abbrev pub clear : Flags
clear = record { cf = false; pf = false; af = false; zf = false; sf = false; of = false }

-- no two registers and no two neighbouring bytes of memory hold the same
abbrev pub turn_of : ℕ → Code → List ℕ → (State → State) → Turn
turn_of sp code hs helper = record {
  limit = 64;
  made = hs;
  code = code;
  reach = length hs;
  helper16 = 0x2222;
  helper_mem = 0x1111;
  output = replicate 4099 0;
  block = 0x20000;
  base = 0x10000;
  sp = sp;
  others = λ k. 100 + k;
  flags = clear;
  rest = λ a. a % 256;
  ok = permissions;
  undefined = λ s. clear;
  helper = helper;
}

-- limit 0: refused. Everything stands at address 0, and nothing may be touched: no premise is asked of it.
abbrev pub refused_turn : Turn
refused_turn = record {
  limit = 0;
  made = [];
  code = λ x. None;
  reach = 0;
  helper16 = 0;
  helper_mem = 0;
  output = [];
  block = 0;
  base = 0;
  sp = 0;
  others = λ k. 0;
  flags = clear;
  rest = λ a. 0;
  ok = record { fetch = λ x. false; read = λ x. false; write = λ x. false };
  undefined = λ s. clear;
  helper = λ s. s;
}

-- the first pc, and register bytes that are all zero
abbrev pub first_pc : ℕ
first_pc = 0xFFFFFFFFFFFFFFF8

abbrev pub zeros : RegisterBytes
zeros i = 0

-- ADDI x1, x0, 5; LD x1, 0(x1), at the first pc: the helper leaves x1 = 7, the pc 0x80000010 and RDX 3
abbrev pub helper_run : List ℕ
helper_run = words (0x00500093 ∷ 0x0000B083 ∷ [])

abbrev pub helper_turn : Turn
helper_turn = turn_of 0x30008 (held first_pc helper_run) helper_run (leaves 1 7 0x80000010 3)

-- ADDI x2, x1, 1; BNE x1, x2, 16, at the pc given: no helper is called
abbrev pub plain_run : List ℕ
plain_run = words (0x00108113 ∷ 0x00209863 ∷ [])

abbrev pub plain_at : ℕ → Turn
plain_at pc = turn_of 0x30018 (held pc plain_run) plain_run (leaves 1 0 0 0)

abbrev pub plain_turn : Turn
plain_turn = plain_at 0x80000010

-- a compressed halfword, the return address in the last eight bytes of memory: the helper leaves x10 = 9 and an odd pc
abbrev pub halfword_turn : Turn
halfword_turn = turn_of 0xFFFFFFFFFFFFFFF8 (held 0x80000024 (0x4108 ∷ [])) (0x4108 ∷ []) (leaves 10 9 0x80000031 1)

-- there the code is plain_turn's once more, and the turn is refused
abbrev pub odd_turn : Turn
odd_turn = plain_at 0x80000031

abbrev pub three_turns : List Turn
three_turns = refused_turn ∷ helper_turn ∷ plain_turn ∷ []

abbrev pub five_turns : List Turn
five_turns = refused_turn ∷ helper_turn ∷ plain_turn ∷ halfword_turn ∷ odd_turn ∷ []
