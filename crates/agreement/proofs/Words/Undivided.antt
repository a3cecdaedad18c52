-- Only words that divide have jumps: where a turn meets none of them, its block has no jump.
use Rattle.std.proofs.Common.{Bool, cond, false, true, List, [], ◌++◌, ◌∷◌, ◌≡◌, refl, subst, sym, ◌*◌, suc, zero, ℕ, arith, eqb, drop}
use Rattle.std.specs.Prelude.{Option, None, Some}
use Rattle.agreement.specs.Laws.{Halfwords}
use Rattle.agreement.specs.Riscv.Run.{is_long, taken, word_of, in_line}
use Rattle.agreement.specs.Statement.Steps.{divides, undivided, unless_dividing, undivided_halfword, undivided_word}
use Rattle.agreement.proofs.Host.Jumpless.{is_jump, jumpless}
use Rattle.agreement.proofs.Laws.Fields.{long_is, word_of_is}
use Rattle.agreement.proofs.Laws.Naming.{kind_is}
use Rattle.agreement.specs.Riscv.Fields.{plus}
use Rattle.agreement.specs.Riscv.Instruction.{Instruction, Op, OpImm}
use Rattle.agreement.specs.Riscv.Instruction.Instruction.{AUIPC, FENCE, FENCE_I, JAL, JALR, LUI, access, branch, op, op_imm, other, unmodelled}
use Rattle.agreement.specs.Riscv.Instruction.Op.{ADD, SUB, SLL, SLT, SLTU, XOR, SRL, SRA, OR, AND, ADDW, SUBW, SLLW, SRLW, SRAW, MUL}
use Rattle.agreement.specs.Riscv.Instruction.Op.{MULW, MULH, MULHSU, MULHU, DIV, DIVU, REM, REMU, DIVW, DIVUW, REMW, REMUW}
use Rattle.agreement.specs.Riscv.Instruction.OpImm.{ADDI, ADDIW, ANDI, ORI, SLLI, SLLIW, SLTI, SLTIU, SRAI, SRAIW, SRLI, SRLIW, XORI}
use Rattle.agreement.specs.Translation.Emit.{add_count, body_op, body_op_imm, closing, code_const, code_op, code_op_imm, leftover, store_reg}
use Rattle.agreement.specs.Translation.Walk.{End, Walked, emit, ending, instrs, walk, emit_word, emit_halfword}
use Rattle.agreement.specs.Translation.Walk.End.{calls, goes_on, jumped}
use Rattle.agreement.specs.X86.Form.Alu.{add}
use Rattle.agreement.specs.X86.Form.{Instr, R10, R11, RAX, RBX, RDX}
use Rattle.agreement.specs.X86.Form.Instr.{alu_imm32, mov, mov_imm64, ret, store}
use Rattle.agreement.proofs.Laws.Leftover.{leftover_by}
use Rattle.agreement.specs.Translation.Decode32 as Decode32
use Rattle.agreement.specs.Translation.Decode16.{expand}
use Rattle.agreement.proofs.Laws.Expanding.{expand_is}
use Rattle.agreement.proofs.Laws.Runs.{halfwords_drop, halfwords_tail}

append : (xs ys : List Instr) → jumpless xs ≡ true → jumpless ys ≡ true → jumpless (xs ++ ys) ≡ true
unfolding jumpless
append [] ys h k = k
append (x ∷ xs) ys h k = go (is_jump x) h (append xs ys)
  where
    go : (b : Bool) → elim b [ true ↦ false | false ↦ jumpless xs ] ≡ true
        → (jumpless xs ≡ true → jumpless ys ≡ true → jumpless (xs ++ ys) ≡ true)
        → elim b [ true ↦ false | false ↦ jumpless (xs ++ ys) ] ≡ true
    go true h f = h
    go false h f = f h k

-- what is left out for x0
optional : (t : Bool) (is : List Instr) → jumpless is ≡ true → jumpless (cond t [] is) ≡ true
unfolding jumpless
optional true is h = refl
optional false is h = h

body : (o : Op) → divides o ≡ false → jumpless (body_op o) ≡ true
unfolding jumpless is_jump divides
body ADD h = refl
body SUB h = refl
body SLL h = refl
body SLT h = refl
body SLTU h = refl
body XOR h = refl
body SRL h = refl
body SRA h = refl
body OR h = refl
body AND h = refl
body ADDW h = refl
body SUBW h = refl
body SLLW h = refl
body SRLW h = refl
body SRAW h = refl
body MUL h = refl
body MULW h = refl
body MULH h = refl
body MULHSU h = refl
body MULHU h = refl
body DIV h = absurd (let z : ◌≡◌ {A = ℕ} 0 1 = cc in omega arith)
body DIVU h = absurd (let z : ◌≡◌ {A = ℕ} 0 1 = cc in omega arith)
body REM h = absurd (let z : ◌≡◌ {A = ℕ} 0 1 = cc in omega arith)
body REMU h = absurd (let z : ◌≡◌ {A = ℕ} 0 1 = cc in omega arith)
body DIVW h = absurd (let z : ◌≡◌ {A = ℕ} 0 1 = cc in omega arith)
body DIVUW h = absurd (let z : ◌≡◌ {A = ℕ} 0 1 = cc in omega arith)
body REMW h = absurd (let z : ◌≡◌ {A = ℕ} 0 1 = cc in omega arith)
body REMUW h = absurd (let z : ◌≡◌ {A = ℕ} 0 1 = cc in omega arith)

body_imm : (o : OpImm) (i c d : ℕ) → jumpless (body_op_imm o i c d) ≡ true
unfolding jumpless is_jump
body_imm ADDI i c d = refl
body_imm SLTI i c d = refl
body_imm SLTIU i c d = refl
body_imm XORI i c d = refl
body_imm ORI i c d = refl
body_imm ANDI i c d = refl
body_imm SLLI i c d = refl
body_imm SRLI i c d = refl
body_imm SRAI i c d = refl
body_imm ADDIW i c d = refl
body_imm SLLIW i c d = refl
body_imm SRLIW i c d = refl
body_imm SRAIW i c d = refl

stores : (d q : ℕ) → jumpless (store_reg d q) ≡ true
unfolding jumpless is_jump
stores d q = optional (eqb d 0) (store RBX (8 * d) q ∷ []) refl

const : (d v : ℕ) → jumpless (code_const d v) ≡ true
unfolding jumpless is_jump
const d v = optional (eqb d 0) (mov_imm64 R10 v ∷ store RBX (8 * d) R10 ∷ []) refl

left : (o r q : ℕ) → jumpless (leftover o r q) ≡ true
unfolding jumpless is_jump
left o r q = leftover_by (λ is. jumpless is ≡ true) o r q refl refl refl refl

both : (t r : Bool) → cond t false r ≡ true → (t ≡ false) × (r ≡ true)
both true r h = absurd (let z : ◌≡◌ {A = ℕ} 0 1 = cc in omega arith)
both false r h = (refl, h)

word : (i : Instruction) (z pc w : ℕ) (p : Walked) (rest : Bool) → (rest ≡ true → jumpless p.code ≡ true)
    → unless_dividing i rest ≡ true → jumpless (emit i z pc w p).code ≡ true
unfolding emit unless_dividing jumpless is_jump
word (op o) z pc w p rest f h =
    append (code_op o (Decode32.rd w) (Decode32.rs1 w) (Decode32.rs2 w)) p.code
    (append (body_op o) (store_reg (Decode32.rd w) R10) (body o (both (divides o) rest h).0) (stores (Decode32.rd w) R10))
    (f (both (divides o) rest h).1)
word (op_imm o) z pc w p rest f h =
    append (code_op_imm o (Decode32.rd w) (Decode32.rs1 w) (Decode32.imm32 w) (Decode32.shamt w) (Decode32.shamt_w w)) p.code
    (append (body_op_imm o (Decode32.imm32 w) (Decode32.shamt w) (Decode32.shamt_w w)) (store_reg (Decode32.rd w) R10)
    (body_imm o (Decode32.imm32 w) (Decode32.shamt w) (Decode32.shamt_w w)) (stores (Decode32.rd w) R10)) (f h)
word LUI z pc w p rest f h = append (code_const (Decode32.rd w) (Decode32.imm_u w)) p.code (const (Decode32.rd w) (Decode32.imm_u w)) (f h)
word AUIPC z pc w p rest f h =
    append (code_const (Decode32.rd w) (plus pc (Decode32.imm_u w))) p.code (const (Decode32.rd w) (plus pc (Decode32.imm_u w))) (f h)
word FENCE z pc w p rest f h = f h
word FENCE_I z pc w p rest f h = refl
word (branch c) z pc w p rest f h = refl
word JAL z pc w p rest f h = append (code_const (Decode32.rd w) (plus pc z)) _ (const (Decode32.rd w) (plus pc z)) refl
word JALR z pc w p rest f h =
    append (cond (eqb (Decode32.rd w) 0) [] (mov_imm64 R11 (plus pc z) ∷ store RBX (8 * Decode32.rd w) R11 ∷ [])) (mov RAX R10 ∷ [])
    (optional (eqb (Decode32.rd w) 0) (mov_imm64 R11 (plus pc z) ∷ store RBX (8 * Decode32.rd w) R11 ∷ []) refl) refl
word (access a) z pc w p rest f h = refl
word (unmodelled u) z pc w p rest f h = left (Decode32.opcode w) (Decode32.rs1 w) (Decode32.rs2 w)
word other z pc w p rest f h = left (Decode32.opcode w) (Decode32.rs1 w) (Decode32.rs2 w)

long : (pc x : ℕ) (hs : List ℕ) (p : Walked) (rest : Bool) → Halfwords (x ∷ hs) → (rest ≡ true → jumpless p.code ≡ true)
    → undivided_word x hs rest ≡ true → jumpless (emit_word pc x hs p).code ≡ true
unfolding jumpless Halfwords
long pc x [] p rest l f h = refl
long pc x (y ∷ hs) p rest l f h =
    rw (word_of_is x y l.0, kind_is (word_of x y)) (word (taken (word_of x y)) 4 pc (word_of x y) p rest f h)

short : (o : Option ℕ) (pc x : ℕ) (p : Walked) (rest : Bool) → (rest ≡ true → jumpless p.code ≡ true)
    → undivided_halfword o rest ≡ true → jumpless (emit_halfword o pc x p).code ≡ true
unfolding jumpless
short None pc x p rest f h = refl
short (Some w) pc x p rest f h = rw (kind_is w) (word (taken w) 2 pc w p rest f h)

words : (n pc : ℕ) (hs : List ℕ) → Halfwords hs → undivided n hs ≡ true → jumpless (walk n pc hs).code ≡ true
unfolding undivided walk jumpless
words zero pc hs l h = refl
words (suc n) pc [] l h = refl
words (suc n) pc (x ∷ hs) l h =
    subst J (sym (long_is x)) (go (is_long x) h (words n (plus pc 4) (drop 1 hs) (halfwords_drop x hs l))
    (words n (plus pc 2) hs (halfwords_tail x hs l)))
  where
    p : Bool → Walked
    p t = elim t [
      | true ↦ emit_word pc x hs (walk n (plus pc 4) (drop 1 hs))
      | false ↦ emit_halfword (expand x) pc x (walk n (plus pc 2) hs)
    ]

    J : Bool → Type 0
    J t = jumpless (p t).code ≡ true

    none_divides : Bool → Bool
    none_divides t = elim t [
      | true ↦ undivided_word x hs (undivided n (drop 1 hs))
      | false ↦ undivided_halfword (in_line x) (undivided n hs)
    ]

    Follows : ℕ → List ℕ → Type 0
    Follows z hs = undivided n hs ≡ true → jumpless (walk n (plus pc z) hs).code ≡ true

    go : (t : Bool) → none_divides t ≡ true → Follows 4 (drop 1 hs) → Follows 2 hs → J t
    go true h f k = long pc x hs _ (undivided n (drop 1 hs)) l f h
    go false h f k = rw (expand_is x) (short (in_line x) pc x _ (undivided n hs) k h)

end : (h1 h2 : ℕ) (e : End) (n : ℕ) → jumpless (ending h1 h2 e n) ≡ true
unfolding ending jumpless is_jump
end h1 h2 (goes_on pc) n = refl
end h1 h2 jumped n = refl
end h1 h2 (calls h i pc) n =
    append (add_count n) (closing ++ ret ∷ []) (optional (eqb n 0) (alu_imm32 add RDX n ∷ []) refl) refl

pub undivided_jumpless : (n pc : ℕ) (hs : List ℕ) (h1 h2 : ℕ) → Halfwords hs
    → undivided n hs ≡ true → jumpless (instrs h1 h2 (walk n pc hs)) ≡ true
unfolding instrs jumpless is_jump
undivided_jumpless n pc hs h1 h2 l h =
    let p : Walked = walk n pc hs in
    append p.code (ending h1 h2 p.end p.added) (words n pc hs l h) (end h1 h2 p.end p.added)
