-- The reply to a translation and the output's bytes afterwards. Document 01, "Replies", numbers 1 to 5 in that order.
use Rattle.std.specs.Prelude.{true, false, cond, List, [], ◌∷◌, ◌++◌, ℕ, ◌%◌, min, length, drop, ltb, eqb}
use Rattle.std.specs.Int.Bits.{bit_and}
use Rattle.agreement.specs.Common.{greatest, most_steps}
use Rattle.agreement.specs.Riscv.Instruction.{Instruction}
use Rattle.agreement.specs.X86.Encode.{bytes}
use Rattle.agreement.specs.Translation.Decode32.{word_of}
use Rattle.agreement.specs.Translation.Kind.{kind, kind_number}
use Rattle.agreement.specs.Translation.Walk.{Walked, walk, instrs, counted}

-- document 02, Q-7: which rules these are, by the number of its request that last changed what a run is translated to
abbrev pub rules : ℕ
rules = 7

pub record Block : Type 0 where
  pub code : List ℕ
  pub count : ℕ
  pub span : ℕ

-- limit 0; odd start; the first word lacks the halfword of that index; the first word is not taken; output too short
pub data Refusal : Type 0 where
  limit_zero : Refusal
  odd_start : ℕ → Refusal
  missing : ℕ → Refusal
  not_taken : ℕ → Refusal
  output_short : Refusal

pub data Reply : Type 0 where
  block : Block → Reply
  refusal : Refusal → Reply

-- the number of each reply, 0 for a block, and its values
unfoldable pub numbered : Reply → ℕ × List ℕ
numbered (block b) = (0, length b.code ∷ b.count ∷ b.span ∷ [])
numbered (refusal limit_zero) = (1, [])
numbered (refusal (odd_start start)) = (2, start ∷ [])
numbered (refusal (missing index)) = (3, index ∷ [])
numbered (refusal (not_taken word)) = (4, word ∷ [])
numbered (refusal output_short) = (5, [])

-- the output afterwards: the block at its front and the rest as before, or all as before
unfoldable pub output_after : Reply → List ℕ → List ℕ
output_after (block b) out = b.code ++ drop (length b.code) out
output_after (refusal r) out = out

-- the first instruction: it is there and taken, or why not. The Rust finds this out on the way, `check_align` and the two
-- fetches returning their trap and a block of count 0 being dropped; the order of the tests is the same.
pub data First : Type 0 where
  begins : First
  lacks : ℕ → First
  untaken : ℕ → First

-- a word is taken unless the number of its kind is 0
unfoldable pub first_word : Instruction → ℕ → First
first_word k w = cond (eqb (kind_number k) 0) (untaken w) begins

unfoldable pub first : List ℕ → First
first [] = lacks 0
first (h ∷ []) = elim (eqb (bit_and h 0x3) 0x3) [ true ↦ lacks 1 | false ↦ begins ]
first (h ∷ u ∷ hs) = elim (eqb (bit_and h 0x3) 0x3) [ true ↦ first_word (kind (word_of h u)) (word_of h u) | false ↦ begins ]

abbrev pub walked : ℕ → ℕ → List ℕ → Walked
walked start limit hs = walk (min limit most_steps) start hs

abbrev pub block_of : ℕ → ℕ → Walked → Block
block_of helper16 helper_mem p = record {
  code = bytes (instrs helper16 helper_mem p);
  count = counted p.end p.added;
  span = p.span;
}

unfoldable pub by_first : First → ℕ → Block → Reply
by_first (lacks i) room b = refusal (missing i)
by_first (untaken w) room b = refusal (not_taken w)
by_first begins room b = elim (ltb room greatest) [ true ↦ refusal output_short | false ↦ block b ]

-- start, limit, halfwords, the pair of helpers, the output's length
unfoldable pub translate : ℕ → ℕ → List ℕ → ℕ → ℕ → ℕ → Reply
translate start limit hs helper16 helper_mem room =
    elim (eqb limit 0) [
      | true ↦ refusal limit_zero
      | false ↦ elim (eqb (start % 2) 1) [
        | true ↦ refusal (odd_start start)
        | false ↦ by_first (first hs) room (block_of helper16 helper_mem (walked start limit hs))
      ]
    ]
