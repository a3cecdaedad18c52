-- Blocks of 67 and of 4,099 bytes: a fence, and sixty-four times DIVW, which has 63 bytes (67 + 64 * 63). Blocks that span 2 and 256 bytes:
-- C.NOP, and sixty-four times ADDI.
use Rattle.std.proofs.Common.{[], ◌∷◌, refl}
use Rattle.agreement.specs.Cases.{copies, words}
use Rattle.agreement.specs.Laws.{BothReached, Reaches, ReachesSpan, SpansReached}
use Rattle.agreement.specs.Translation.Replies.{block_of, walked}
use Rattle.agreement.proofs.Checks.CasesHold.{translations}

the_least : Reaches 67
unfolding translations words
the_least = record {
  start = 0x80000000;
  limit = 64;
  halfwords = words (0x0000000F ∷ []);
  result = block_of 0 0 (walked 0x80000000 64 (words (0x0000000F ∷ [])));
  reply = refl;
  long = refl;
}

the_greatest : Reaches 4099
unfolding translations words copies
the_greatest = record {
  start = 0x80000000;
  limit = 64;
  halfwords = copies 64 (words (0x0220C1BB ∷ []));
  result = block_of 0 0 (walked 0x80000000 64 (copies 64 (words (0x0220C1BB ∷ []))));
  reply = refl;
  long = refl;
}

pub both_reached : BothReached
unfolding BothReached
both_reached = (the_least, the_greatest)

least_span : ReachesSpan 2 2
unfolding translations words
least_span = record {
  start = 0x80000000;
  limit = 64;
  halfwords = 0x0001 ∷ [];
  result = block_of 0 0 (walked 0x80000000 64 (0x0001 ∷ []));
  reply = refl;
  spans = refl;
  for_each = refl;
  whole = refl;
}

greatest_span : ReachesSpan 256 4
unfolding translations words copies
greatest_span = record {
  start = 0x80000000;
  limit = 64;
  halfwords = copies 64 (words (0x00500093 ∷ []));
  result = block_of 0 0 (walked 0x80000000 64 (copies 64 (words (0x00500093 ∷ []))));
  reply = refl;
  spans = refl;
  for_each = refl;
  whole = refl;
}

pub spans_reached : SpansReached
unfolding SpansReached
spans_reached = (least_span, greatest_span)
