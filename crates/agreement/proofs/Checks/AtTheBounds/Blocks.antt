-- The laws of blocks, each taken at its bounds: an output that is as long as the block, long runs, any start, limit, helpers and room, and
-- each bound as it is stated.
use Rattle.std.proofs.Common.{List, [], ◌∷◌, ◌≡◌, drop, length, replicate, take, suc, zero, ◌+◌, ◌*◌, ◌%◌, ◌^◌, ◌≤◌, ℕ, arith}
use Rattle.agreement.specs.Cases.{copies}
use Rattle.agreement.specs.Laws.{BothReached, Halfwords, LeftInOutput, Lengths, OutputsBlock, Reaches, ReachesSpan, Spans, SpansOf, SpansReached}
use Rattle.agreement.specs.Translation.Replies.{Block, Reply.block, output_after, translate}
use Rattle.agreement.proofs.Checks.Reached.{both_reached, spans_reached}
use Rattle.agreement.proofs.Block.Length.{lengths}
use Rattle.agreement.proofs.Laws.Output.{outputs_block}
use Rattle.agreement.proofs.Theorem.Kept.{spans}

-- 1. Outputs: just long enough and longer; a block of no byte; numbers that are no bytes; any count and span

abbrev block_with : List ℕ → Block
block_with code = record { code = code; count = 2 ^ 70; span = 2 ^ 70 + 1 }

record Left (code out : List ℕ) : Type 0 where
  front : take (length code) (output_after (block (block_with code)) out) ≡ code
  rest : drop (length code) (output_after (block (block_with code)) out) ≡ drop (length code) out
  long : length (output_after (block (block_with code)) out) ≡ length out

left : (code out : List ℕ) → LeftInOutput (block_with code) out → Left code out
left code out h = record { front = h.front; rest = h.rest; long = h.long }

no_byte_left : Left [] (7 ∷ [])
unfolding OutputsBlock
no_byte_left = left [] (7 ∷ []) (outputs_block (block_with []) (7 ∷ []) (omega arith))

numbers_left : Left (300 ∷ 2 ^ 70 ∷ []) (1 ∷ 2 ∷ [])
unfolding OutputsBlock
numbers_left =
    left (300 ∷ 2 ^ 70 ∷ []) (1 ∷ 2 ∷ []) (outputs_block (block_with (300 ∷ 2 ^ 70 ∷ [])) (1 ∷ 2 ∷ []) (omega arith))

long_left : Left (replicate 5000 300) (replicate 6000 7)
unfolding OutputsBlock
long_left =
    left (replicate 5000 300) (replicate 6000 7)
    (outputs_block (block_with (replicate 5000 300)) (replicate 6000 7) (omega arith))

-- 2. Lengths and spans: of seventy times JAL, in halfwords of which one is the greatest; whatever start, limit, helpers and room are

jumps : List ℕ
jumps = copies 70 (0xFFEF ∷ 0xFFFF ∷ [])

copies_halfwords : (n : ℕ) → Halfwords (copies n (0xFFEF ∷ 0xFFFF ∷ []))
unfolding Halfwords copies
copies_halfwords zero = tt
copies_halfwords (suc n) = (omega arith, (omega arith, copies_halfwords n))

jumps_halfwords : Halfwords jumps
unfolding jumps
jumps_halfwords = copies_halfwords 70

lengths_hold : (b : Block) → translate (2 ^ 70) (2 ^ 64) jumps (2 ^ 64) (2 ^ 65) 5000 ≡ block b
    → (67 ≤ length b.code) × (length b.code ≤ 4099)
unfolding Lengths
lengths_hold b e = lengths (2 ^ 70) (2 ^ 64) jumps (2 ^ 64) (2 ^ 65) 5000 b e

lengths_of_one : (b : Block) → translate 0 1 (0x0001 ∷ []) 0 0 4099 ≡ block b → (67 ≤ length b.code) × (length b.code ≤ 4099)
unfolding Lengths
lengths_of_one b e = lengths 0 1 (0x0001 ∷ []) 0 0 4099 b e

record Spanned (count span halfwords : ℕ) : Type 0 where
  low : 2 ≤ span
  high : span ≤ 256
  even : span % 2 ≡ 0
  least : 2 * count ≤ span
  most : span ≤ 4 * count
  there : span ≤ 2 * halfwords

spanned : (hs : List ℕ) (b : Block) → SpansOf hs b → Spanned b.count b.span (length hs)
spanned hs b h = record { low = h.low; high = h.high; even = h.even; least = h.least; most = h.most; there = h.there }

spans_hold : (b : Block) → translate (2 ^ 70) (2 ^ 64) jumps (2 ^ 64) (2 ^ 65) 5000 ≡ block b → Spanned b.count b.span (length jumps)
unfolding Spans
spans_hold b e = spanned jumps b (spans (2 ^ 70) (2 ^ 64) jumps (2 ^ 64) (2 ^ 65) 5000 b jumps_halfwords e)

-- a span that is given by the bounds alone: C.NOP counts 1 and has one halfword
spans_of_one : (b : Block) → translate 0 1 (0x0001 ∷ []) 0 0 4099 ≡ block b → b.span ≡ 2
unfolding Spans
spans_of_one b e =
    let h : SpansOf (0x0001 ∷ []) b = spans 0 1 (0x0001 ∷ []) 0 0 4099 b (unfold Halfwords in (omega arith, tt)) e in
    omega (arith, h.low, h.there)

-- 3. What is reached

least_length : (r : Reaches 67) → (translate r.start r.limit r.halfwords 0 0 4099 ≡ block r.result) × (length r.result.code ≡ 67)
least_length r = (r.reply, r.long)

greatest_length : (r : Reaches 4099) → (translate r.start r.limit r.halfwords 0 0 4099 ≡ block r.result) × (length r.result.code ≡ 4099)
greatest_length r = (r.reply, r.long)

lengths_reached : Reaches 67 × Reaches 4099
unfolding BothReached
lengths_reached = both_reached

record End (n each : ℕ) : Type 0 where
  start : ℕ
  limit : ℕ
  halfwords : List ℕ
  b : Block
  reply : translate start limit halfwords 0 0 4099 ≡ block b
  spans : b.span ≡ n
  for_each : b.span ≡ each * b.count
  whole : b.span ≡ 2 * length halfwords

end_of : (n each : ℕ) → ReachesSpan n each → End n each
end_of n each r = record {
  start = r.start;
  limit = r.limit;
  halfwords = r.halfwords;
  b = r.result;
  reply = r.reply;
  spans = r.spans;
  for_each = r.for_each;
  whole = r.whole;
}

least_span : End 2 2
unfolding SpansReached
least_span = end_of 2 2 spans_reached.0

greatest_span : End 256 4
unfolding SpansReached
greatest_span = end_of 256 4 spans_reached.1
