-- No block is shorter than 67 or longer than 4,099 bytes.
use Rattle.std.proofs.Common.{Bool, cond, false, true, List, [], ◌++◌, ◌∷◌, ◌≡◌, refl, ◌%◌, ◌*◌, ◌+◌, ◌-◌, ◌^◌, ◌≤◌, min, suc, zero, ℕ, drop}
use Rattle.std.specs.Prelude.{Option, None, Some}
use Rattle.std.proofs.Common.{arith, bit_and, eqb, ltb, length, length-append}
use Rattle.agreement.specs.Common.{Helper, Helper.for_access, Helper.for_halfword, greatest, most_steps}
use Rattle.agreement.specs.Laws.{Lengths}
use Rattle.agreement.specs.Riscv.Fields.{plus}
use Rattle.agreement.specs.Riscv.Instruction.{Branch, Instruction, Op, OpImm}
use Rattle.agreement.specs.Riscv.Instruction.Instruction.{AUIPC, FENCE, FENCE_I, JAL, JALR, LUI, access, branch, op, op_imm, other, unmodelled}
use Rattle.agreement.specs.Riscv.Instruction.Op.{ADD, ADDW, AND, MUL, MULW, OR, SLL, SLLW, SLT, SLTU, SRA, SRAW, SRL, SRLW, SUB, SUBW}
use Rattle.agreement.specs.Riscv.Instruction.Op.{XOR, DIV, DIVU, DIVUW, DIVW, MULH, MULHSU, MULHU, REM, REMU, REMUW, REMW}
use Rattle.agreement.specs.Riscv.Instruction.OpImm.{ADDI, ADDIW, ANDI, ORI, SLLI, SLLIW, SLTI, SLTIU, SRAI, SRAIW, SRLI, SRLIW, XORI}
use Rattle.agreement.specs.Translation.Emit.{body_op, body_op_imm, closing, code_branch, code_const, code_jal, code_jalr, code_op, code_op_imm}
use Rattle.agreement.specs.Translation.Emit.{compare, leftover, load_reg, opening, passes, store_reg}
use Rattle.agreement.specs.Translation.Kind.{kind}
use Rattle.agreement.specs.Translation.Replies.{Block, First, Refusal, Reply, block_of, by_first, first, translate, walked}
use Rattle.agreement.specs.Translation.Replies.First.{begins, lacks, untaken}
use Rattle.agreement.specs.Translation.Replies.Refusal.{limit_zero, odd_start, output_short}
use Rattle.agreement.specs.Translation.Replies.Reply.{block, refusal}
use Rattle.agreement.specs.Translation.Walk.{End, Walked, before, emit, ending, helper_at, helps, instrs, jumps, not_taken_at, stops_at, emit_word}
use Rattle.agreement.specs.Translation.Walk.{stops_behind, walk, emit_halfword}
use Rattle.agreement.specs.Translation.Walk.End.{calls, goes_on, jumped}
use Rattle.agreement.specs.Statement.Agreement.{start}
use Rattle.agreement.specs.X86.Encode.{bytes}
use Rattle.agreement.specs.X86.Form.{Instr, R10, R11, RAX, RBX, RDX}
use Rattle.agreement.specs.X86.Form.Alu.{add, and}
use Rattle.agreement.specs.X86.Form.Instr.{alu_imm32, call_rax, mov, mov_imm64, ret, store}
use Rattle.agreement.proofs.Codec.Joined.{bytes-append}
use Rattle.agreement.proofs.Laws.Leftover.{leftover_by}
use Rattle.agreement.specs.Translation.Decode32 as Decode32
use Rattle.agreement.specs.Translation.Decode16.{expand}

abbrev len : List Instr → ℕ
len is = length (bytes is)

pub len-append : (xs ys : List Instr) → len (xs ++ ys) ≡ len xs + len ys
len-append xs ys = rw (bytes-append xs ys) (length-append (bytes xs) (bytes ys))

-- 1. Each word's code

pub len_store : (d : ℕ) → len (store_reg d R10) ≤ 7
len_store d = go (eqb d 0)
  where
    go : (t : Bool) → len (cond t [] (store RBX (8 * d) R10 ∷ [])) ≤ 7
    go true = omega arith
    go false = omega arith

len_load : (r : ℕ) → len (load_reg R10 r ∷ []) ≡ 7
len_load r = refl

len_loads : (r q : ℕ) → len (load_reg R10 r ∷ load_reg R11 q ∷ []) ≡ 14
len_loads r q = refl

pub len_compare : (r q : ℕ) → len (compare r q) ≡ 17
len_compare r q = refl

pub len_body_op : (o : Op) → len (body_op o) ≤ 42
len_body_op ADD = omega arith
len_body_op SUB = omega arith
len_body_op SLL = omega arith
len_body_op SLT = omega arith
len_body_op SLTU = omega arith
len_body_op XOR = omega arith
len_body_op SRL = omega arith
len_body_op SRA = omega arith
len_body_op OR = omega arith
len_body_op AND = omega arith
len_body_op ADDW = omega arith
len_body_op SUBW = omega arith
len_body_op SLLW = omega arith
len_body_op SRLW = omega arith
len_body_op SRAW = omega arith
len_body_op MUL = omega arith
len_body_op MULW = omega arith
len_body_op MULH = omega arith
len_body_op MULHSU = omega arith
len_body_op MULHU = omega arith
len_body_op DIV = omega arith
len_body_op DIVU = omega arith
len_body_op REM = omega arith
len_body_op REMU = omega arith
len_body_op DIVW = omega arith
len_body_op DIVUW = omega arith
len_body_op REMW = omega arith
len_body_op REMUW = omega arith

pub len_op : (o : Op) (d p q : ℕ) → len (code_op o d p q) ≤ 63
len_op o d p q =
    rw (len-append (load_reg R10 p ∷ load_reg R11 q ∷ []) (body_op o ++ store_reg d R10)) (rw (len-append (body_op o) (store_reg d R10))
    (omega (arith, len_loads p q, len_body_op o, len_store d)))

pub len_body_imm : (o : OpImm) (i c d : ℕ) → len (body_op_imm o i c d) ≤ 20
len_body_imm ADDI i c d = omega arith
len_body_imm SLTI i c d = omega arith
len_body_imm SLTIU i c d = omega arith
len_body_imm XORI i c d = omega arith
len_body_imm ORI i c d = omega arith
len_body_imm ANDI i c d = omega arith
len_body_imm SLLI i c d = omega arith
len_body_imm SRLI i c d = omega arith
len_body_imm SRAI i c d = omega arith
len_body_imm ADDIW i c d = omega arith
len_body_imm SLLIW i c d = omega arith
len_body_imm SRLIW i c d = omega arith
len_body_imm SRAIW i c d = omega arith

pub len_imm : (o : OpImm) (r p i c d : ℕ) → len (code_op_imm o r p i c d) ≤ 34
len_imm o r p i c d =
    rw (len-append (load_reg R10 p ∷ []) (body_op_imm o i c d ++ store_reg r R10)) (rw (len-append (body_op_imm o i c d) (store_reg r R10))
    (omega (arith, len_load p, len_body_imm o i c d, len_store r)))

pub len_const : (d v : ℕ) → len (code_const d v) ≤ 17
len_const d v = go (eqb d 0)
  where
    go : (t : Bool) → len (cond t [] (mov_imm64 R10 v ∷ store RBX (8 * d) R10 ∷ [])) ≤ 17
    go true = omega arith
    go false = omega arith

pub len_branch : (c : Branch) (p q n t : ℕ) → len (code_branch c p q n t) ≡ 44
len_branch c p q n t = refl

pub len_jal : (d v t : ℕ) → (10 ≤ len (code_jal d v t)) × (len (code_jal d v t) ≤ 27)
len_jal d v t = rw (len-append (code_const d v) (mov_imm64 RAX t ∷ [])) (omega (arith, len_const d v, ten))
  where
    ten : len (mov_imm64 RAX t ∷ []) ≡ 10
    ten = refl

pub len_jalr : (d p i l : ℕ) → (10 ≤ len (code_jalr d p i l)) × (len (code_jalr d p i l) ≤ 41)
len_jalr d p i l = go (eqb d 0)
  where
    code : Bool → List Instr
    code t =
        load_reg R10 p ∷ alu_imm32 add R10 i ∷ alu_imm32 and R10 (2 ^ 32 - 2)
        ∷ (cond t [] (mov_imm64 R11 l ∷ store RBX (8 * d) R11 ∷ []) ++ mov RAX R10 ∷ [])

    go : (t : Bool) → (10 ≤ len (code t)) × (len (code t) ≤ 41)
    go true = omega arith
    go false = omega arith

pub len_leftover : (o r q : ℕ) → len (leftover o r q) ≤ 17
len_leftover o r q = leftover_by (λ is. len is ≤ 17) o r q
    (omega (arith, len_compare r q)) (omega (arith, len_loads r q)) (omega (arith, len_load r)) (omega arith)

-- 2. A walk: what its words and its end have together

-- the least and the greatest length of an end
unfoldable pub least : End → ℕ
least (goes_on pc) = 35
least jumped = 25
least (calls h i pc) = 56

unfoldable pub most : End → ℕ
most (goes_on pc) = 35
most jumped = 25
most (calls h i pc) = 63

pub record Sized (n : ℕ) (p : Walked) : Type 0 where
  pub low : 35 ≤ len p.code + least p.end
  pub high : len p.code + most p.end ≤ 63 * n + 35

sized_before : (n z : ℕ) (is : List Instr) (p : Walked) → len is ≤ 63 → Sized n p → Sized (suc n) (before z is p)
sized_before n z is p l s = record {
  low = rw (len-append is p.code) (omega (arith, s.low));
  high = rw (len-append is p.code) (omega (arith, s.high));
}

sized_jumps : (n z : ℕ) (is : List Instr) → 10 ≤ len is → len is ≤ 44 → Sized (suc n) (jumps z is)
unfolding least most
sized_jumps n z is l k = record { low = omega arith; high = omega arith }

sized_not_taken : (n pc w : ℕ) → Sized (suc n) (not_taken_at pc w)
unfolding least most
sized_not_taken n pc w =
    let l = len_leftover (Decode32.opcode w) (Decode32.rs1 w) (Decode32.rs2 w) in
    record { low = omega arith; high = omega arith }

sized_stops : (n pc : ℕ) → Sized n (stops_at pc)
unfolding least most
sized_stops n pc = record { low = omega arith; high = omega arith }

sized_stops_behind : (n z : ℕ) (is : List Instr) (pc : ℕ) → len is ≤ 34 → Sized (suc n) (stops_behind z is pc)
unfolding least most
sized_stops_behind n z is pc l = record { low = omega arith; high = omega (arith, l) }

sized_helps : (n : ℕ) (h : Helper) (i pc : ℕ) → Sized (suc n) (helps h i pc)
unfolding least most
sized_helps n h i pc = record { low = omega arith; high = omega arith }

sized_emit : (i : Instruction) (n z pc w : ℕ) (p : Walked) → Sized n p → Sized (suc n) (emit i z pc w p)
unfolding emit
sized_emit (op o) n z pc w p s =
    sized_before n z (code_op o (Decode32.rd w) (Decode32.rs1 w) (Decode32.rs2 w)) p
    (len_op o (Decode32.rd w) (Decode32.rs1 w) (Decode32.rs2 w)) s
sized_emit (op_imm o) n z pc w p s =
    sized_before n z (code_op_imm o (Decode32.rd w) (Decode32.rs1 w) (Decode32.imm32 w) (Decode32.shamt w) (Decode32.shamt_w w)) p
    (omega (arith, len_imm o (Decode32.rd w) (Decode32.rs1 w) (Decode32.imm32 w) (Decode32.shamt w) (Decode32.shamt_w w))) s
sized_emit LUI n z pc w p s =
    sized_before n z (code_const (Decode32.rd w) (Decode32.imm_u w)) p (omega (arith, len_const (Decode32.rd w) (Decode32.imm_u w))) s
sized_emit AUIPC n z pc w p s =
    sized_before n z (code_const (Decode32.rd w) (plus pc (Decode32.imm_u w))) p
    (omega (arith, len_const (Decode32.rd w) (plus pc (Decode32.imm_u w)))) s
sized_emit FENCE n z pc w p s = sized_before n z [] p (omega arith) s
sized_emit FENCE_I n z pc w p s = sized_stops_behind n z [] _ (omega arith)
sized_emit (branch c) n z pc w p s =
    let l = len_branch c (Decode32.rs1 w) (Decode32.rs2 w) (plus pc z) (plus pc (Decode32.imm_b w)) in
    sized_jumps n z (code_branch c (Decode32.rs1 w) (Decode32.rs2 w) (plus pc z) (plus pc (Decode32.imm_b w))) (omega arith) (omega arith)
sized_emit JAL n z pc w p s =
    let l = len_jal (Decode32.rd w) (plus pc z) (plus pc (Decode32.imm_j w)) in
    sized_jumps n z (code_jal (Decode32.rd w) (plus pc z) (plus pc (Decode32.imm_j w))) l.0 (omega (arith, l.1))
sized_emit JALR n z pc w p s =
    let l = len_jalr (Decode32.rd w) (Decode32.rs1 w) (Decode32.imm32 w) (plus pc z) in
    sized_jumps n z (code_jalr (Decode32.rd w) (Decode32.rs1 w) (Decode32.imm32 w) (plus pc z)) l.0 (omega (arith, l.1))
sized_emit (access a) n z pc w p s = sized_helps n for_access w pc
sized_emit (unmodelled o) n z pc w p s = sized_not_taken n pc w
sized_emit other n z pc w p s = sized_not_taken n pc w

sized_long : (n pc x : ℕ) (hs : List ℕ) (p : Walked) → Sized n p → Sized (suc n) (emit_word pc x hs p)
sized_long n pc x [] p s = sized_stops (suc n) pc
sized_long n pc x (y ∷ hs) p s = sized_emit (kind (Decode32.word_of x y)) n 4 pc (Decode32.word_of x y) p s

sized_short : (o : Option ℕ) (n pc x : ℕ) (p : Walked) → Sized n p → Sized (suc n) (emit_halfword o pc x p)
sized_short None n pc x p s = sized_helps n for_halfword x pc
sized_short (Some w) n pc x p s = sized_emit (kind w) n 2 pc w p s

pub sized : (n pc : ℕ) (hs : List ℕ) → Sized n (walk n pc hs)
unfolding walk
sized zero pc hs = sized_stops zero pc
sized (suc n) pc [] = sized_stops (suc n) pc
sized (suc n) pc (x ∷ hs) = go (eqb (bit_and x 0x3) 0x3) (sized n (plus pc 4) (drop 1 hs)) (sized n (plus pc 2) hs)
  where
    go : (t : Bool) → Sized n (walk n (plus pc 4) (drop 1 hs)) → Sized n (walk n (plus pc 2) hs)
        → Sized (suc n) (elim t [
          | true ↦ emit_word pc x hs (walk n (plus pc 4) (drop 1 hs))
          | false ↦ emit_halfword (expand x) pc x (walk n (plus pc 2) hs)
        ])
    go true l s = sized_long n pc x hs _ l
    go false l s = sized_short (expand x) n pc x _ s

-- 3. The block

len_ending : (h1 h2 : ℕ) (e : End) (n : ℕ) → (least e ≤ len (ending h1 h2 e n)) × (len (ending h1 h2 e n) ≤ most e)
unfolding ending least most
len_ending h1 h2 (goes_on pc) n = omega arith
len_ending h1 h2 jumped n = omega arith
len_ending h1 h2 (calls h i pc) n = go (eqb n 0)
  where
    code : Bool → List Instr
    code t = passes i pc (helper_at h h1 h2) ++ call_rax ∷ (cond t [] (alu_imm32 add RDX n ∷ []) ++ (closing ++ ret ∷ []))

    go : (t : Bool) → (56 ≤ len (code t)) × (len (code t) ≤ 63)
    go true = omega arith
    go false = omega arith

len_opening : len opening ≡ 32
len_opening = refl

pub block_length : (h1 h2 n pc : ℕ) (hs : List ℕ)
    → (67 ≤ len (instrs h1 h2 (walk n pc hs))) × (len (instrs h1 h2 (walk n pc hs)) ≤ 63 * n + 67)
unfolding instrs
block_length h1 h2 n pc hs =
    let p : Walked = walk n pc hs in
    let e : List Instr = ending h1 h2 p.end p.added in
    let s : Sized n p = sized n pc hs in
    rw (len-append opening (p.code ++ e))
    (rw (len-append p.code e) (omega (arith, len_opening, s.low, s.high, len_ending h1 h2 p.end p.added)))

-- a block that was replied is the walk's
the_block : (start limit : ℕ) (hs : List ℕ) (h1 h2 room : ℕ) (b : Block)
    → translate start limit hs h1 h2 room ≡ block b → b ≡ block_of h1 h2 (walked start limit hs)
unfolding translate by_first
the_block start limit hs h1 h2 room b e = go (eqb limit 0) (eqb (start % 2) 1) (first hs) e
  where
    W : Block
    W = block_of h1 h2 (walked start limit hs)

    no : {r : Refusal} → refusal r ≡ block b → b ≡ W
    no e = absurd (let z : ◌≡◌ {A = ℕ} 0 1 = cc in omega arith)

    last : (c : Bool) → ◌≡◌ {A = Reply} (elim c [ true ↦ refusal output_short | false ↦ block W ]) (block b) → b ≡ W
    last true e = no e
    last false e = cc

    answer : Bool → Bool → First → Reply
    answer x y f = elim x [ true ↦ refusal limit_zero | false ↦ elim y [ true ↦ refusal (odd_start start) | false ↦ by_first f room W ] ]

    go : (x y : Bool) (f : First) → answer x y f ≡ block b → b ≡ W
    go true y f e = no e
    go false true f e = no e
    go false false (lacks i) e = no e
    go false false (untaken w) e = no e
    go false false begins e = last (ltb room greatest) e

pub lengths : Lengths
unfolding Lengths
lengths start limit hs h1 h2 room b e =
    rw (the_block start limit hs h1 h2 room b e) (omega (arith, block_length h1 h2 (min limit most_steps) start hs))
