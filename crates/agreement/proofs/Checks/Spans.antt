-- Spans of blocks, worked out by hand from document 02, Q-5, and its readings: the counted instructions' bytes.
use Rattle.std.proofs.Common.{◌≡◌, refl, Bool, true, false, ◌&&◌, List, [], ◌∷◌, ◌++◌, ℕ, eqb}
use Rattle.agreement.specs.Translation.Replies.{Reply, Reply.block, Reply.refusal}
use Rattle.agreement.specs.Cases.{copies, reply, words}
use Rattle.agreement.proofs.Checks.CasesHold.{translations, tests}

-- the span of a block made from so many instructions at most; a refusal has none
pub record Span : Type 0 where
  pub limit : ℕ
  pub halfwords : List ℕ
  pub span : ℕ

abbrev spans : ℕ → List ℕ → ℕ → Span
spans limit hs span = record { limit = limit; halfwords = hs; span = span }

unfoldable has : Reply → ℕ → Bool
has (block b) n = eqb b.span n
has (refusal r) n = false

unfoldable every : List Span → Bool
every [] = true
every (s ∷ ss) = has (reply 0x80000000 s.limit s.halfwords) s.span && every ss

unfoldable cases : List Span
cases =
    -- ADDI, then C.NOP, C.LW, C.BEQZ, LD, BRANCH with funct3 2, JALR's opcode with funct3 1, half a word, nothing
    spans 64 (words (0x00500093 ∷ []) ++ 0x0001 ∷ []) 6
    ∷ spans 64 (words (0x00500093 ∷ []) ++ 0x4108 ∷ []) 6
    ∷ spans 64 (words (0x00500093 ∷ []) ++ 0xC111 ∷ []) 6
    ∷ spans 64 (words (0x00500093 ∷ 0x0000B083 ∷ [])) 8
    ∷ spans 64 (words (0x00500093 ∷ 0x00002063 ∷ [])) 4
    ∷ spans 64 (words (0x00500093 ∷ 0x00009067 ∷ [])) 4
    ∷ spans 64 (words (0x00500093 ∷ []) ++ 0x0093 ∷ []) 4
    ∷ spans 64 (words (0x00500093 ∷ [])) 4
    -- first C.LW, C.J or C.NOP, with ADDI behind it; SD; FENCE.I; JAL behind ADDI; C.LW behind C.NOP
    ∷ spans 64 (0x4108 ∷ words (0x00500093 ∷ [])) 2
    ∷ spans 64 (0xA001 ∷ words (0x00500093 ∷ [])) 2
    ∷ spans 64 (0x0001 ∷ words (0x00500093 ∷ [])) 6
    ∷ spans 64 (words (0x0000B023 ∷ 0x00500093 ∷ [])) 4
    ∷ spans 64 (words (0x0000100F ∷ 0x00500093 ∷ [])) 4
    ∷ spans 64 (words (0x00500093 ∷ 0x0000006F ∷ 0x00500093 ∷ [])) 8
    ∷ spans 64 (0x0001 ∷ 0x4108 ∷ 0x0001 ∷ []) 4
    -- sixty-four times ADDI, and so for any limit; 63 times and a halfword; sixty-four times C.NOP; a limit of 1 and of 2
    ∷ spans 64 (copies 65 (words (0x00500093 ∷ []))) 256
    ∷ spans 65 (copies 65 (words (0x00500093 ∷ []))) 256
    ∷ spans 64 (copies 63 (words (0x00500093 ∷ [])) ++ 0x0001 ∷ []) 254
    ∷ spans 64 (copies 65 (0x0001 ∷ [])) 128
    ∷ spans 1 (words (0x00500093 ∷ 0x00500093 ∷ [])) 4
    ∷ spans 2 (words (0x00500093 ∷ []) ++ 0x0001 ∷ 0x0001 ∷ []) 6 ∷ []

spans_hold : every cases ≡ true
unfolding translations tests has every cases
spans_hold = refl
