-- What holds of every instruction of a family, and of `other`, holds of what the family's match gives (crate agreement,
-- Translation/Kind). The matches are gone through here once, for every property.
use Rattle.std.proofs.Common.{ℕ, [], ◌∷◌}
use Rattle.agreement.specs.Riscv.Instruction.{Op, OpImm, Branch, Access, Instruction}
use Rattle.agreement.specs.Riscv.Instruction.Op.{ADD, SUB, MUL, SLL, SLT, SLTU, XOR, SRL, SRA, OR, AND, ADDW, SUBW, MULW, SLLW, SRLW, SRAW}
use Rattle.agreement.specs.Riscv.Instruction.Op.{MULH, MULHSU, MULHU, DIV, DIVU, REM, REMU, DIVW, DIVUW, REMW, REMUW}
use Rattle.agreement.specs.Riscv.Instruction.OpImm.{ADDI, SLTI, SLTIU, XORI, ORI, ANDI, SLLI, SRLI, SRAI, ADDIW, SLLIW, SRLIW, SRAIW}
use Rattle.agreement.specs.Riscv.Instruction.Branch.{BEQ, BNE, BLT, BGE, BLTU, BGEU}
use Rattle.agreement.specs.Riscv.Instruction.Access.{LB, LH, LW, LD, LBU, LHU, LWU, SB, SH, SW, SD}
use Rattle.agreement.specs.Riscv.Instruction.Instruction.{op, op_imm, branch, access, FENCE, FENCE_I, other}
use Rattle.agreement.specs.Translation.Kind.{◌⇒◌, match, kind_op, kind_op32, kind_op_imm, kind_op_imm32, kind_branch, kind_fence, kind_load}
use Rattle.agreement.specs.Translation.Kind.{kind_store}
use Rattle.agreement.proofs.Laws.Matches.{Each, each}

pub each_op : (P : Instruction → Type 0) → ((o : Op) → P (op o)) → P other → (f s : ℕ) → P (kind_op f s)
unfolding kind_op Each
each_op P t n f s =
    let two : (o m : Op) → P (match s (0x00 ⇒ op o ∷ 0x01 ⇒ op m ∷ [])) = λ o m. each P s _ (t o, (t m, n)) in
    let three : (o p m : Op) → P (match s (0x00 ⇒ op o ∷ 0x20 ⇒ op p ∷ 0x01 ⇒ op m ∷ [])) = λ o p m. each P s _ (t o, (t p, (t m, n))) in
    each P f _ (
      three ADD SUB MUL,
      (
        two SLL MULH,
        (
          two SLT MULHSU,
          (
            two SLTU MULHU,
            (two XOR DIV, (three SRL SRA DIVU, (two OR REM, (two AND REMU, n)))),
          ),
        ),
      ),
    )

pub each_op_32 : (P : Instruction → Type 0) → ((o : Op) → P (op o)) → P other → (f s : ℕ) → P (kind_op32 f s)
unfolding kind_op32 Each
each_op_32 P t n f s =
    let one : (m : Op) → P (match s (0x01 ⇒ op m ∷ [])) = λ m. each P s _ (t m, n) in
    each P f _ (
      each P s _ (t ADDW, (t SUBW, (t MULW, n))),
      (
        each P s _ (t SLLW, n),
        (one DIVW, (each P s _ (t SRLW, (t SRAW, (t DIVUW, n))), (one REMW, (one REMUW, n)))),
      ),
    )

pub each_op_imm : (P : Instruction → Type 0) → ((o : OpImm) → P (op_imm o)) → P other → (f s : ℕ) → P (kind_op_imm f s)
unfolding kind_op_imm Each
each_op_imm P t n f s =
    let left : P (match s (0x00 ⇒ op_imm SLLI ∷ [])) = each P s _ (t SLLI, n) in
    let right : P (match s (0x00 ⇒ op_imm SRLI ∷ 0x10 ⇒ op_imm SRAI ∷ [])) = each P s _ (t SRLI, (t SRAI, n)) in
    each P f _ (t ADDI, (t SLTI, (t SLTIU, (t XORI, (t ORI, (t ANDI, (left, (right, n))))))))

pub each_op_imm_32 : (P : Instruction → Type 0) → ((o : OpImm) → P (op_imm o)) → P other → (f s : ℕ) → P (kind_op_imm32 f s)
unfolding kind_op_imm32 Each
each_op_imm_32 P t n f s = each P f _
    (t ADDIW, (each P s _ (t SLLIW, n), (each P s _ (t SRLIW, (t SRAIW, n)), n)))

pub each_branch : (P : Instruction → Type 0) → ((c : Branch) → P (branch c)) → P other → (f : ℕ) → P (kind_branch f)
unfolding kind_branch Each
each_branch P t n f = each P f _ (t BEQ, (t BNE, (t BLT, (t BGE, (t BLTU, (t BGEU, n))))))

pub each_fence : (P : Instruction → Type 0) → P FENCE → P FENCE_I → P other → (f : ℕ) → P (kind_fence f)
unfolding kind_fence Each
each_fence P a b n f = each P f _ (a, (b, n))

pub each_load : (P : Instruction → Type 0) → ((a : Access) → P (access a)) → P other → (f : ℕ) → P (kind_load f)
unfolding kind_load Each
each_load P t n f = each P f _ (t LB, (t LH, (t LW, (t LD, (t LBU, (t LHU, (t LWU, n)))))))

pub each_store : (P : Instruction → Type 0) → ((a : Access) → P (access a)) → P other → (f : ℕ) → P (kind_store f)
unfolding kind_store Each
each_store P t n f = each P f _ (t SB, (t SH, (t SW, (t SD, n))))
