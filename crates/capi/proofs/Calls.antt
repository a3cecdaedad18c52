-- Calls of `emuko_translate` and `emuko_place`, one of each number: whatever their contracts allow, these four numbers are replied, and
-- output and store are as they were but for what was written.
use Rattle.std.proofs.Common.{[], ◌∷◌, ◌≡◌, ap, drop, replicate, List, ℕ}
use Rattle.agreement.specs.Cases.{words}
use Rattle.agreement.specs.Translation.Place.{place, placing_numbered, store_after}
use Rattle.agreement.specs.Translation.Replies.{output_after}
use Rattle.agreement.proofs.Checks.CasesHold.{translations}
use Rattle.capi.specs.Replies.{Replies, RepliesToPlacing}
use Rattle.capi.specs.declared.Reply.{Reply}

abbrev four : ℕ → ℕ → ℕ → ℕ → Reply
four number first second third = record { number = number; first = first; second = second; third = third }

-- every reply and output of that call
abbrev Is : ℕ → ℕ → List ℕ → List ℕ → Reply → List ℕ → Type 0
Is start limit halfwords before reply left =
    (r : Reply) (after : List ℕ) → Replies start limit halfwords 0x1111 0x2222 before after r → (r ≡ reply) × (after ≡ left)

limit_zero_call : Is 0x80000001 0 [] (7 ∷ 8 ∷ []) (four 1 0 0 0) (7 ∷ 8 ∷ [])
unfolding translations output_after
limit_zero_call r after h = (h.replies, h.leaves)

odd_start_call : Is 0x80000001 1 [] (7 ∷ 8 ∷ []) (four 2 0x80000001 0 0) (7 ∷ 8 ∷ [])
unfolding translations output_after
odd_start_call r after h = (h.replies, h.leaves)

missing_call : Is 0x80000000 1 (0x0093 ∷ []) (7 ∷ 8 ∷ []) (four 3 1 0 0) (7 ∷ 8 ∷ [])
unfolding translations output_after
missing_call r after h = (h.replies, h.leaves)

not_taken_call : Is 0x80000000 1 (words (0x4020C1B3 ∷ [])) (7 ∷ 8 ∷ []) (four 4 0x4020C1B3 0 0) (7 ∷ 8 ∷ [])
unfolding translations output_after words
not_taken_call r after h = (h.replies, h.leaves)

-- ADDI x1, x0, 5
output_short_call : Is 0x80000000 1 (words (0x00500093 ∷ [])) (replicate 4098 7) (four 5 0 0 0) (replicate 4098 7)
unfolding translations output_after words
output_short_call r after h = (h.replies, h.leaves)

-- ADDI x1, x0, 5 and what stands behind it, of which the block has one; nothing behind the block is written
block_call : (r : Reply) (after : List ℕ)
    → Replies 0x80000000 1 (words (0x00500093 ∷ 0x00500093 ∷ [])) 0x1111 0x2222 (replicate 4100 7) after r
    → (r ≡ four 0 88 1 4) × (drop 88 after ≡ replicate 4012 7)
unfolding translations output_after words
block_call r after h = (h.replies, ap (drop 88) h.leaves)

-- placing three bytes: behind a mark of 5 they stand at 8; a store of 8 bytes is full with a mark of 6, and has none of 9
abbrev Places : ℕ → List ℕ → Reply → List ℕ → Type 0
Places used before reply left =
    (r : Reply) (after : List ℕ) → RepliesToPlacing (1 ∷ 2 ∷ 3 ∷ []) used before after r → (r ≡ reply) × (after ≡ left)

placed_call : Places 5 (replicate 12 7) (four 0 8 11 0) (7 ∷ 7 ∷ 7 ∷ 7 ∷ 7 ∷ 7 ∷ 7 ∷ 7 ∷ 1 ∷ 2 ∷ 3 ∷ 7 ∷ [])
unfolding place placing_numbered store_after
placed_call r after h = (h.replies, h.leaves)

beyond_call : Places 9 (replicate 8 7) (four 6 0 0 0) (replicate 8 7)
unfolding place placing_numbered store_after
beyond_call r after h = (h.replies, h.leaves)

full_call : Places 6 (replicate 8 7) (four 7 0 0 0) (replicate 8 7)
unfolding place placing_numbered store_after
full_call r after h = (h.replies, h.leaves)
