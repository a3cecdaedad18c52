-- Calls of `translate`, one of each number: whatever answer and output its contract allows, a caller reads this off them, and the output
-- is as it was but for the block at its front.
use Rattle.std.proofs.Common.{[], ◌∷◌, ◌∙◌, ◌≡◌, ap, drop, length, refl, replicate, List, ℕ}
use Rattle.agreement.specs.Cases.{words}
use Rattle.agreement.specs.Translation.Replies.{Reply, output_after, translate}
use Rattle.agreement.specs.Translation.Replies.Reply.{refusal}
use Rattle.agreement.specs.Translation.Replies.Refusal.{limit_zero, odd_start, missing, not_taken, output_short}
use Rattle.agreement.proofs.Checks.CasesHold.{translations}
use Rattle.block.specs.Answers.{Answer, Translates}
use Rattle.block.specs.CallerReads.{read}
use Rattle.block.proofs.CallerReadsReply.{reads}

-- every answer and output of that call
record Is (start limit : ℕ) (halfwords before : List ℕ) (p : Reply) (left : List ℕ) : Type 0 where
  is : (r : Answer) (after : List ℕ) → Translates start limit halfwords 0x1111 0x2222 before after r → (read r after ≡ p) × (after ≡ left)

called : (start limit : ℕ) (halfwords before : List ℕ) (p : Reply) → translate start limit halfwords 0x1111 0x2222 (length before) ≡ p
    → Is start limit halfwords before p (output_after p before)
called start limit halfwords before p e = record {
  is = λ r after h. (reads _ r h ∙ e, h.leaves ∙ ap (λ (q : Reply). output_after q before) e);
}

-- 1, though the start is odd, nothing stands there and the output is short
limit_zero_call : Is 0x80000001 0 [] (7 ∷ 8 ∷ []) (refusal limit_zero) (7 ∷ 8 ∷ [])
unfolding translations output_after
limit_zero_call = called 0x80000001 0 [] (7 ∷ 8 ∷ []) (refusal limit_zero) refl

odd_start_call : Is 0x80000001 1 [] (7 ∷ 8 ∷ []) (refusal (odd_start 0x80000001)) (7 ∷ 8 ∷ [])
unfolding translations output_after
odd_start_call = called 0x80000001 1 [] (7 ∷ 8 ∷ []) (refusal (odd_start 0x80000001)) refl

missing_call : Is 0x80000000 1 (0x0093 ∷ []) (7 ∷ 8 ∷ []) (refusal (missing 1)) (7 ∷ 8 ∷ [])
unfolding translations output_after
missing_call = called 0x80000000 1 (0x0093 ∷ []) (7 ∷ 8 ∷ []) (refusal (missing 1)) refl

not_taken_call : Is 0x80000000 1 (words (0x4020C1B3 ∷ [])) (7 ∷ 8 ∷ []) (refusal (not_taken 0x4020C1B3)) (7 ∷ 8 ∷ [])
unfolding translations output_after words
not_taken_call = called 0x80000000 1 (words (0x4020C1B3 ∷ [])) (7 ∷ 8 ∷ []) (refusal (not_taken 0x4020C1B3)) refl

-- ADDI x1, x0, 5
output_short_call : Is 0x80000000 1 (words (0x00500093 ∷ [])) (replicate 4098 7) (refusal output_short) (replicate 4098 7)
unfolding translations output_after words
output_short_call = called 0x80000000 1 (words (0x00500093 ∷ [])) (replicate 4098 7) (refusal output_short) refl

-- its block is no longer than 200 bytes, and nothing behind it is written
block_call : (r : Answer) (after : List ℕ) → Translates 0x80000000 1 (words (0x00500093 ∷ [])) 0x1111 0x2222 (replicate 4100 7) after r
    → drop 200 after ≡ replicate 3900 7
unfolding translations output_after words
block_call r after h = rw h.leaves refl
