-- Each word's code fits into a block: its operands are in range, it goes straight on, and it is tame.
use Rattle.std.proofs.Common.{cond, not, List, [], ◌++◌, ◌∷◌, ◌≢◌, ◌≡◌, refl, ◌*◌, ◌+◌, ◌-◌, ◌<◌, ◌^◌, ℕ, arith, T, eqb, length}
use native.Mathlib.Decide.{ℕ_discrete}
use Rattle.agreement.specs.Riscv.Instruction.{Branch, Op, OpImm}
use Rattle.agreement.specs.Riscv.Instruction.Op.{ADD, ADDW, AND, MUL, MULW, OR, SLL, SLLW, SLT, SLTU, SRA, SRAW, SRL, SRLW, SUB, SUBW}
use Rattle.agreement.specs.Riscv.Instruction.Op.{XOR, DIV, DIVU, DIVUW, DIVW, MULH, MULHSU, MULHU, REM, REMU, REMUW, REMW}
use Rattle.agreement.specs.Riscv.Instruction.OpImm.{ADDI, ADDIW, ANDI, ORI, SLLI, SLLIW, SLTI, SLTIU, SRAI, SRAIW, SRLI, SRLIW, XORI}
use Rattle.agreement.specs.Translation.Emit.{body_op, body_op_imm, code_branch, code_const, code_jal, code_jalr, code_op_imm, compare, load_reg}
use Rattle.agreement.specs.Translation.Emit.{store_reg}
use Rattle.agreement.specs.X86.Form.{Instr, Ok, R10, R11, RAX, RBX}
use Rattle.agreement.specs.X86.Form.Alu.{add, and}
use Rattle.agreement.specs.X86.Form.Instr.{alu_imm32, mov, mov_imm64, store}
use Rattle.agreement.proofs.Host.Straight.{Fine, fine_append, AllOk, fine_ok, ok-append, run}
use Rattle.agreement.proofs.Laws.Tests.{eqb_no, eqb_yes}
use Rattle.agreement.proofs.Words.Tame.{AllTame, Tame, free}
use Rattle.agreement.proofs.Host.Paths.{Path, path_append, path_straight}
use Rattle.agreement.specs.X86.State.{Flags, State}
use Rattle.agreement.specs.Statement.Steps.{divides}

pub record Fit (is : List Instr) : Type 0 where
  pub fine : Fine is
  pub tame : AllTame is

tame_append : (xs ys : List Instr) → AllTame xs → AllTame ys → AllTame (xs ++ ys)
unfolding AllTame
tame_append [] ys p q = q
tame_append (x ∷ xs) ys p q = (p.0, tame_append xs ys p.1 q)

pub fit_append : (xs ys : List Instr) → Fit xs → Fit ys → Fit (xs ++ ys)
fit_append xs ys p q = record { fine = fine_append xs ys p.fine q.fine; tame = tame_append xs ys p.tame q.tame }

pub fit_nil : Fit []
unfolding Fine AllTame
fit_nil = record { fine = tt; tame = tt }

-- the same of code that is not all straight
pub record Sound (is : List Instr) : Type 0 where
  pub allowed : AllOk is
  pub tame : AllTame is

-- n steps lead from s through the code to t
pub record Leads (undefined : State → Flags) (is : List Instr) (s : State) (n : ℕ) (t : State) : Type 0 where
  pub sound : Sound is
  pub path : Path undefined is s n t

pub leads_straight : (undefined : State → Flags) (is : List Instr) (s : State) → Fit is
    → Leads undefined is s (length is) (run undefined is s)
leads_straight undefined is s f = record {
  sound = record { allowed = fine_ok is f.fine; tame = f.tame };
  path = path_straight undefined is s f.fine;
}

pub leads_append : (undefined : State → Flags) (xs ys : List Instr) (s t u : State) (n m : ℕ)
    → Leads undefined xs s n t → Leads undefined ys t m u → Leads undefined (xs ++ ys) s (n + m) u
leads_append undefined xs ys s t u n m p q = record {
  sound = record {
    allowed = ok-append xs ys p.sound.allowed q.sound.allowed;
    tame = tame_append xs ys p.sound.tame q.sound.tame;
  };
  path = path_append undefined p.path q.path;
}

-- what is left out for x0
fit_if : (d : ℕ) (is : List Instr) → (d ≢ 0 → Fit is) → Fit (cond (eqb d 0) [] is)
fit_if d is p = go (ℕ_discrete d 0)
  where
    go : Dec (d ≡ 0) → Fit (cond (eqb d 0) [] is)
    go (yes e) = rw (eqb_yes d 0 e) fit_nil
    go (no n) = rw (eqb_no d 0 n) (p n)

fit_put : (d q : ℕ) → d < 32 → q < 16 → d ≢ 0 → Fit (store RBX (8 * d) q ∷ [])
unfolding Fine Ok AllTame Tame
fit_put d q l k n = record { fine = omega arith; tame = ((refl, omega arith, omega arith), tt) }

pub fit_store : (d : ℕ) → d < 32 → Fit (store_reg d R10)
fit_store d l = fit_if d (store RBX (8 * d) R10 ∷ []) (fit_put d R10 l (omega arith))

pub fit_load : (r : ℕ) → r < 32 → Fit (load_reg R10 r ∷ [])
unfolding Fine Ok AllTame Tame
fit_load r l = omega arith

pub fit_loads : (r q : ℕ) → r < 32 → q < 32 → Fit (load_reg R10 r ∷ load_reg R11 q ∷ [])
unfolding Fine Ok AllTame Tame
fit_loads r q l k = omega arith

pub fit_compare : (r q : ℕ) → r < 32 → q < 32 → Fit (compare r q)
unfolding Fine Ok AllTame Tame
fit_compare r q l k = omega arith

pub fit_mov64 : (d v : ℕ) → T (free d) → d < 16 → v < 2 ^ 64 → Fit (mov_imm64 d v ∷ [])
unfolding Fine Ok AllTame Tame
fit_mov64 d v t k l = record { fine = ((k, l), tt, tt); tame = (t, tt) }

-- the words that do not divide
pub fit_body_op : (o : Op) → T (not (divides o)) → Fit (body_op o)
unfolding Fine Ok AllTame Tame divides
fit_body_op ADD t = omega arith
fit_body_op SUB t = omega arith
fit_body_op SLL t = omega arith
fit_body_op SLT t = omega arith
fit_body_op SLTU t = omega arith
fit_body_op XOR t = omega arith
fit_body_op SRL t = omega arith
fit_body_op SRA t = omega arith
fit_body_op OR t = omega arith
fit_body_op AND t = omega arith
fit_body_op ADDW t = omega arith
fit_body_op SUBW t = omega arith
fit_body_op SLLW t = omega arith
fit_body_op SRLW t = omega arith
fit_body_op SRAW t = omega arith
fit_body_op MUL t = omega arith
fit_body_op MULW t = omega arith
fit_body_op MULH t = omega arith
fit_body_op MULHSU t = omega arith
fit_body_op MULHU t = omega arith
fit_body_op DIV t = absurd t
fit_body_op DIVU t = absurd t
fit_body_op REM t = absurd t
fit_body_op REMU t = absurd t
fit_body_op DIVW t = absurd t
fit_body_op DIVUW t = absurd t
fit_body_op REMW t = absurd t
fit_body_op REMUW t = absurd t

fit_body_imm : (o : OpImm) (i c d : ℕ) → i < 2 ^ 32 → c < 64 → d < 32 → Fit (body_op_imm o i c d)
unfolding Fine Ok AllTame Tame
fit_body_imm ADDI i c d h k l = omega arith
fit_body_imm SLTI i c d h k l = omega arith
fit_body_imm SLTIU i c d h k l = omega arith
fit_body_imm XORI i c d h k l = omega arith
fit_body_imm ORI i c d h k l = omega arith
fit_body_imm ANDI i c d h k l = omega arith
fit_body_imm SLLI i c d h k l = omega arith
fit_body_imm SRLI i c d h k l = omega arith
fit_body_imm SRAI i c d h k l = omega arith
fit_body_imm ADDIW i c d h k l = omega arith
fit_body_imm SLLIW i c d h k l = omega arith
fit_body_imm SRLIW i c d h k l = omega arith
fit_body_imm SRAIW i c d h k l = omega arith

pub fit_imm : (o : OpImm) (r p i c d : ℕ) → r < 32 → p < 32 → i < 2 ^ 32 → c < 64 → d < 32 → Fit (code_op_imm o r p i c d)
fit_imm o r p i c d h k l m n =
    fit_append (load_reg R10 p ∷ []) (body_op_imm o i c d ++ store_reg r R10) (fit_load p k)
    (fit_append (body_op_imm o i c d) (store_reg r R10) (fit_body_imm o i c d l m n) (fit_store r h))

pub fit_branch : (c : Branch) (p q n t : ℕ) → p < 32 → q < 32 → n < 2 ^ 64 → t < 2 ^ 64 → Fit (code_branch c p q n t)
unfolding Fine Ok AllTame Tame
fit_branch c p q n t h k l m = omega arith

-- a constant v put into the slot of d by way of a free register q, nothing where d is 0
fit_keep : (d q v : ℕ) → T (free q) → q < 16 → d < 32 → v < 2 ^ 64
    → Fit (cond (eqb d 0) [] (mov_imm64 q v ∷ store RBX (8 * d) q ∷ []))
fit_keep d q v t k h l =
    fit_if d (mov_imm64 q v ∷ store RBX (8 * d) q ∷ []) (λ n.
    fit_append (mov_imm64 q v ∷ []) (store RBX (8 * d) q ∷ []) (fit_mov64 q v t k l) (fit_put d q h k n))

pub fit_const : (d v : ℕ) → d < 32 → v < 2 ^ 64 → Fit (code_const d v)
fit_const d v h l = fit_keep d R10 v tt (omega arith) h l

pub fit_jal : (d link target : ℕ) → d < 32 → link < 2 ^ 64 → target < 2 ^ 64 → Fit (code_jal d link target)
fit_jal d link target h l k =
    fit_append (code_const d link) (mov_imm64 RAX target ∷ []) (fit_const d link h l) (fit_mov64 RAX target tt (omega arith) k)

pub fit_jalr : (d p i link : ℕ) → d < 32 → p < 32 → i < 2 ^ 32 → link < 2 ^ 64 → Fit (code_jalr d p i link)
fit_jalr d p i link h k m l =
    fit_append (load_reg R10 p ∷ alu_imm32 add R10 i ∷ alu_imm32 and R10 (2 ^ 32 - 2) ∷ [])
    (cond (eqb d 0) [] (mov_imm64 R11 link ∷ store RBX (8 * d) R11 ∷ []) ++ mov RAX R10 ∷ [])
    (unfold Fine Ok AllTame Tame in omega arith)
    (fit_append (cond (eqb d 0) [] (mov_imm64 R11 link ∷ store RBX (8 * d) R11 ∷ [])) (mov RAX R10 ∷ [])
    (fit_keep d R11 link tt (omega arith) h l)
    (unfold Fine Ok AllTame Tame in omega arith))
