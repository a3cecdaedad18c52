-- The match on the opcode gives every word what the definitions of crate agreement give it.
use Rattle.std.proofs.Common.{◌≡◌, ℕ, ◌/◌, ◌%◌, ◌^◌, ◌<◌, ◌≢◌, [], refl, ne_eqb}
use lib.Pow.{mod-mod-pow}
use Rattle.decode.specs.Decoded.{decoded}
use Rattle.agreement.specs.Riscv.Fields.{opcode, funct3, rs1, rs2, funct7, funct6, bits, shamt5, shamt6}
use Rattle.agreement.specs.Riscv.Immediates as Manual
use Rattle.agreement.specs.Riscv.Instruction.{Op, OpImm, Branch, Instruction}
use Rattle.agreement.specs.Riscv.Instruction.Instruction.{op, op_imm, branch, other}
use Rattle.agreement.specs.Translation.Emit.{leftover}
use Rattle.agreement.specs.Translation.Kind.{match, kind, kind_of}
use Rattle.agreement.specs.Translation.Decode32.{wrapping_add}
use Rattle.agreement.specs.Translation.Decode32 as Decode32
use Rattle.agreement.proofs.Laws.Fields.{opcode_is, funct6_of, rd_is, rs1_is, rs2_is, shamt5_is, shamt6_is}
use Rattle.agreement.proofs.Laws.Immediates.{imm_i_is, imm_b_is, imm_u_is, imm_j_is}
use Rattle.agreement.proofs.Laws.Matches.{decide, kind_is}
use Rattle.words.proofs.FamilyMatches.{each_op, each_op_32, each_op_imm, each_op_imm_32, each_branch, each_fence, each_load, each_store}
use Rattle.words.specs.Word.{word_as, word_by, not_emitted, op_word, op_imm_word, branch_word, fence_word}

-- OP and OP-32
abbrev OpIs : ℕ → ℕ → ℕ → Instruction → Type 0
OpIs z pc w k = op_word k (decoded w) ≡ word_as k z pc w

op_taken : (z pc w : ℕ) (o : Op) → OpIs z pc w (op o)
op_taken z pc w o = rw (rd_is w, rs1_is w, rs2_is w) refl

-- OP-IMM and OP-IMM-32
abbrev ImmIs : ℕ → ℕ → ℕ → Instruction → Type 0
ImmIs z pc w k = op_imm_word k (decoded w) (Manual.imm_i w % 2 ^ 32) ≡ word_as k z pc w

imm_taken : (z pc w : ℕ) → w < 2 ^ 32 → (o : OpImm) → ImmIs z pc w (op_imm o)
unfolding Decode32.imm32
imm_taken z pc w h o =
    let c : bits 31 20 w % 64 ≡ shamt6 w = mod-mod-pow (w / 2 ^ 20) 6 6 in
    let d : bits 31 20 w % 32 ≡ shamt5 w = mod-mod-pow (w / 2 ^ 20) 7 5 in
    rw (rd_is w, rs1_is w, imm_i_is w h, shamt6_is w, shamt5_is w, c, d) refl

-- BRANCH
abbrev BranchIs : ℕ → ℕ → ℕ → Instruction → Type 0
BranchIs z pc w k = branch_word k (decoded w) (wrapping_add pc z) (wrapping_add pc (Manual.imm_b w)) ≡ word_as k z pc w

branch_taken : (z pc w : ℕ) (c : Branch) → BranchIs z pc w (branch c)
branch_taken z pc w c = rw (rs1_is w, rs2_is w, imm_b_is w) refl

-- LOAD and STORE
abbrev AccessIs : ℕ → ℕ → ℕ → Instruction → Type 0
AccessIs z pc w k = not_emitted [] ≡ word_as k z pc w

-- what a word that is not taken leaves, by its opcode
left : (z pc w o : ℕ) → opcode w ≡ o → not_emitted (leftover o (rs1 w) (rs2 w)) ≡ word_as other z pc w
left z pc w o e = rw (opcode_is w, e, rs1_is w, rs2_is w) refl

-- the theorem, opcode by opcode
abbrev WordIs : ℕ → ℕ → ℕ → Type 0
WordIs z pc w = word_by z pc w (decoded w) ≡ word_as (kind w) z pc w

at_lui : (z pc w : ℕ) → opcode w ≡ 0x37 → WordIs z pc w
unfolding kind_of match
at_lui z pc w e = rw (kind_is w, e) (rw (rd_is w, imm_u_is w) refl)

at_auipc : (z pc w : ℕ) → opcode w ≡ 0x17 → WordIs z pc w
unfolding kind_of match
at_auipc z pc w e = rw (kind_is w, e) (rw (rd_is w, imm_u_is w) refl)

at_jal : (z pc w : ℕ) → opcode w ≡ 0x6F → WordIs z pc w
unfolding kind_of match
at_jal z pc w e = rw (kind_is w, e) (rw (rd_is w, imm_j_is w) refl)

at_jalr : (z pc w : ℕ) → w < 2 ^ 32 → opcode w ≡ 0x67 → WordIs z pc w
unfolding kind_of match leftover Decode32.imm32
at_jalr z pc w h e =
    rw (kind_is w, e)
    (decide (funct3 w) 0
    (λ i. rw (i, rd_is w, rs1_is w, imm_i_is w h) refl)
    (λ n. rw (ne_eqb (funct3 w) 0 n) (left z pc w 0x67 e)))

at_branch : (z pc w : ℕ) → opcode w ≡ 0x63 → WordIs z pc w
unfolding kind_of match leftover
at_branch z pc w e = rw (kind_is w, e) (each_branch (BranchIs z pc w) (branch_taken z pc w) (left z pc w 0x63 e) (funct3 w))

at_op_imm : (z pc w : ℕ) → w < 2 ^ 32 → opcode w ≡ 0x13 → WordIs z pc w
unfolding kind_of match leftover
at_op_imm z pc w h e =
    rw (kind_is w, e, funct6_of w) (each_op_imm (ImmIs z pc w) (imm_taken z pc w h) (left z pc w 0x13 e) (funct3 w) (funct6 w))

at_op_imm_32 : (z pc w : ℕ) → w < 2 ^ 32 → opcode w ≡ 0x1B → WordIs z pc w
unfolding kind_of match leftover
at_op_imm_32 z pc w h e = rw (kind_is w, e) (each_op_imm_32 (ImmIs z pc w) (imm_taken z pc w h) (left z pc w 0x1B e) (funct3 w) (funct7 w))

at_op : (z pc w : ℕ) → opcode w ≡ 0x33 → WordIs z pc w
unfolding kind_of match leftover
at_op z pc w e = rw (kind_is w, e) (each_op (OpIs z pc w) (op_taken z pc w) (left z pc w 0x33 e) (funct3 w) (funct7 w))

at_op_32 : (z pc w : ℕ) → opcode w ≡ 0x3B → WordIs z pc w
unfolding kind_of match leftover
at_op_32 z pc w e = rw (kind_is w, e) (each_op_32 (OpIs z pc w) (op_taken z pc w) (left z pc w 0x3B e) (funct3 w) (funct7 w))

at_fence : (z pc w : ℕ) → opcode w ≡ 0x0F → WordIs z pc w
unfolding kind_of match leftover
at_fence z pc w e = rw (kind_is w, e)
    (each_fence (λ (k : Instruction). fence_word k ≡ word_as k z pc w) refl refl (left z pc w 0x0F e) (funct3 w))

at_load : (z pc w : ℕ) → opcode w ≡ 0x03 → WordIs z pc w
unfolding kind_of match leftover
at_load z pc w e = rw (kind_is w, e) (each_load (AccessIs z pc w) (λ a. refl) (left z pc w 0x03 e) (funct3 w))

at_store : (z pc w : ℕ) → opcode w ≡ 0x23 → WordIs z pc w
unfolding kind_of match leftover
at_store z pc w e = rw (kind_is w, e) (each_store (AccessIs z pc w) (λ a. refl) (left z pc w 0x23 e) (funct3 w))

-- an opcode with no loads leaves nothing
none_other : (z pc w : ℕ) → opcode w ≢ 0x63 → opcode w ≢ 0x33 → opcode w ≢ 0x3B → opcode w ≢ 0x13 → opcode w ≢ 0x1B
    → AccessIs z pc w other
unfolding leftover
none_other z pc w a b c d e =
    rw (
      opcode_is w,
      ne_eqb (opcode w) 0x63 a,
      ne_eqb (opcode w) 0x33 b,
      ne_eqb (opcode w) 0x3B c,
      ne_eqb (opcode w) 0x13 d,
      ne_eqb (opcode w) 0x1B e,
    )
    refl

pub word_is : (z pc w : ℕ) → w < 2 ^ 32 → WordIs z pc w
unfolding kind_of match
word_is z pc w h =
    decide (opcode w) 0x37 (at_lui z pc w) (λ a.
    decide (opcode w) 0x17 (at_auipc z pc w) (λ b.
    decide (opcode w) 0x6F (at_jal z pc w) (λ c.
    decide (opcode w) 0x67 (at_jalr z pc w h) (λ d.
    decide (opcode w) 0x63 (at_branch z pc w) (λ e.
    decide (opcode w) 0x13 (at_op_imm z pc w h) (λ f.
    decide (opcode w) 0x1B (at_op_imm_32 z pc w h) (λ g.
    decide (opcode w) 0x33 (at_op z pc w) (λ i.
    decide (opcode w) 0x3B (at_op_32 z pc w) (λ j.
    decide (opcode w) 0x0F (at_fence z pc w) (λ k.
    decide (opcode w) 0x03 (at_load z pc w) (λ l.
    decide (opcode w) 0x23 (at_store z pc w) (λ m.
    rw (
      kind_is w,
      ne_eqb (opcode w) 0x37 a,
      ne_eqb (opcode w) 0x17 b,
      ne_eqb (opcode w) 0x6F c,
      ne_eqb (opcode w) 0x67 d,
      ne_eqb (opcode w) 0x63 e,
      ne_eqb (opcode w) 0x13 f,
      ne_eqb (opcode w) 0x1B g,
      ne_eqb (opcode w) 0x33 i,
      ne_eqb (opcode w) 0x3B j,
      ne_eqb (opcode w) 0x0F k,
      ne_eqb (opcode w) 0x03 l,
      ne_eqb (opcode w) 0x23 m,
    )
    (none_other z pc w e i j f g)))))))))))))
