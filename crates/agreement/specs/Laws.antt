-- Statements that are proved beside the agreement, a theorem of the same name in small letters for each.
use Rattle.std.specs.Prelude.{◌≡◌, false, true, List, [], ◌∷◌, ◌++◌, ◌≢◌, ℕ, zero, suc, min, ◌+◌, ◌*◌, ◌%◌, ◌^◌, ◌≤◌, ◌<◌, length, take, drop, ltb, eqb, ℤ, nat_abs, ◌+ℤ◌, ◌*ℤ◌, Some}
use Rattle.std.proofs.Math.IntN.{ℤ.pos}
use Rattle.std.specs.Int.Signed.{lt_z, non_neg}
use Rattle.agreement.specs.Common.{greatest, most_steps, Helper.for_access}
use Rattle.agreement.specs.Riscv.Code.{Code, run_at}
use Rattle.agreement.specs.Riscv.Immediates as Manual
use Rattle.agreement.specs.Riscv.Instruction.{Instruction, signed, shift_right_arithmetic}
use Rattle.agreement.specs.Riscv.Instruction.{bits_of, upper_half, quotient_u, remainder_u, overflows, quotient, remainder}
use Rattle.agreement.specs.Riscv.Run.{in_line, is_in_line, taken}
use Rattle.agreement.specs.X86.Form.{Instr, Ok, Shift.sar, Cc.B, Cc.E, Cc.L}
use Rattle.agreement.specs.X86.Encode.{encode}
use Rattle.agreement.specs.X86.Decode.{decode, Bytes}
use Rattle.agreement.specs.X86.State.{Flags, State, Permissions}
use Rattle.agreement.specs.X86.Step.{steps, Goes}
use Rattle.agreement.specs.X86.Flags.{sext, sub_flags, holds, shifted}
use Rattle.agreement.specs.Translation.Decode16.{expand}
use Rattle.agreement.specs.Translation.Decode32 as Decode32
use Rattle.agreement.specs.Translation.Kind.{kind, kind_number}
use Rattle.agreement.specs.Translation.Needed.{needed}
use Rattle.agreement.specs.Translation.Walk.{Walked, emit, before, jumps, helps, stops_behind, not_taken_at}
use Rattle.agreement.specs.Translation.Replies.{Block, Reply.block, output_after, translate}

-- What the encoder writes decodes to that instruction, whatever follows; what decodes is byte for byte so written.

unfoldable pub Decodes : Type 0
Decodes = (i : Instr) (rest : List ℕ) → Ok i → decode (encode i ++ rest) ≡ Some (i, rest)

unfoldable pub Encodes : Type 0
Encodes = (bs : List ℕ) (i : Instr) (rest : List ℕ)
    → Bytes bs → decode bs ≡ Some (i, rest) → (bs ≡ encode i ++ rest) × Ok i

-- Which instruction a word is: the tests name what the manual's listing names, where document 01 chooses it, and else none.

unfoldable pub TakenAlike : Type 0
TakenAlike = (w : ℕ) → kind w ≡ taken w

-- What the number of a word's kind says: how the walk goes on from the word, which has z bytes.

pub record GoesOn (k : Instruction) (z pc w : ℕ) : Type 0 where
  pub code : List Instr
  pub on : (p : Walked) → emit k z pc w p ≡ before z code p

-- an ending word has set RAX, or leaves it to the end of the block, which goes on at the word behind
pub data Ends (k : Instruction) (z pc w : ℕ) : Type 0 where
  sets : (code : List Instr) → ((p : Walked) → emit k z pc w p ≡ jumps z code) → Ends k z pc w
  leaves : (code : List Instr) → ((p : Walked) → emit k z pc w p ≡ stops_behind z code (Decode32.wrapping_add pc z)) → Ends k z pc w

unfoldable pub WalksBy : ℕ → Instruction → ℕ → ℕ → ℕ → Type 0
WalksBy zero k z pc w = (p : Walked) → emit k z pc w p ≡ not_taken_at pc w
WalksBy (suc zero) k z pc w = GoesOn k z pc w
WalksBy (suc (suc zero)) k z pc w = Ends k z pc w
WalksBy (suc (suc (suc n))) k z pc w = (p : Walked) → emit k z pc w p ≡ helps for_access w pc

unfoldable pub KindsWalk : Type 0
KindsWalk = (k : Instruction) (z pc w : ℕ) → WalksBy (kind_number k) k z pc w

-- Compressed halfwords: the translator expands each of those that a turn reads in line as the manual does, and no other. What is read in
-- line is a word of 32 bits that document 01's list names.

unfoldable pub ExpandsAlike : Type 0
ExpandsAlike = (h : ℕ) → expand h ≡ in_line h

pub record Listed (w : ℕ) : Type 0 where
  pub below : w < 2 ^ 32
  pub low : w % 4 ≡ 3
  pub is_straight_or_ends : is_in_line (taken w) ≡ true

unfoldable pub ExpandsToListed : Type 0
ExpandsToListed = (h w : ℕ) → in_line h ≡ Some w → Listed w

-- A run that was fetched no further than `needed` is translated as the whole run is.

unfoldable pub NeedsNoMore : Type 0
NeedsNoMore = (start limit : ℕ) (hs : List ℕ) (helper16 helper_mem room : ℕ)
    → translate start limit (needed (min limit most_steps) hs) helper16 helper_mem room
    ≡ translate start limit hs helper16 helper_mem room

-- A run is what stands at its own addresses: code that has changed elsewhere has the same run.

unfoldable pub RunsAlike : Type 0
RunsAlike = (c d : Code) (pc n : ℕ) → pc < 2 ^ 64
    → ((k : ℕ) → k < n → c ((pc + 2 * k) % 2 ^ 64) ≡ d ((pc + 2 * k) % 2 ^ 64))
    → run_at c pc n ≡ run_at d pc n

-- Every run of halfwords that fits into the address space is the run of some code: the premise on code leaves no run out.

unfoldable pub Halfwords : List ℕ → Type 0
Halfwords [] = Unit
Halfwords (h ∷ hs) = (h < 2 ^ 16) × Halfwords hs

pub record Held (pc : ℕ) (hs : List ℕ) : Type 0 where
  pub code : Code
  pub run : run_at code pc (length hs) ≡ hs

unfoldable pub RunsHeld : Type 0
RunsHeld = (pc : ℕ) (hs : List ℕ) → pc < 2 ^ 64 → length hs ≤ 2 ^ 63 → Halfwords hs → Held pc hs

-- The immediates: decode.rs and the manual give one number for every 32-bit word.

pub record ImmediatesAlike : Type 0 where
  pub i_alike : (w : ℕ) → w < 2 ^ 32 → Decode32.imm_i w ≡ Manual.imm_i w
  pub s_alike : (w : ℕ) → w < 2 ^ 32 → Decode32.imm_s w ≡ Manual.imm_s w
  pub b_alike : (w : ℕ) → Decode32.imm_b w ≡ Manual.imm_b w
  pub u_alike : (w : ℕ) → Decode32.imm_u w ≡ Manual.imm_u w
  pub j_alike : (w : ℕ) → Decode32.imm_j w ≡ Manual.imm_j w

-- -4096 to 4094 and -1048576 to 1048574, both even: with the least subtracted, modulo 2^64, at most the span
pub record Ranges : Type 0 where
  pub b_range : (w : ℕ) → (Manual.imm_b w + 4096) % 2 ^ 64 ≤ 4096 + 4094
  pub b_even : (w : ℕ) → Manual.imm_b w % 2 ≡ 0
  pub j_range : (w : ℕ) → (Manual.imm_j w + 1048576) % 2 ^ 64 ≤ 1048576 + 1048574
  pub j_even : (w : ℕ) → Manual.imm_j w % 2 ≡ 0

-- Over the width: the three sign extensions, the two arithmetic shifts, flags after CMP against the orders and equality.

unfoldable pub SignExtends : Type 0
SignExtends = (k a : ℕ) → a < 2 ^ suc k → Manual.sign_extend (suc k) a ≡ sext (suc k) 64 a

unfoldable pub SignExtendsByShifts : Type 0
SignExtendsByShifts = (k a : ℕ) → suc k ≤ 64 → a < 2 ^ suc k → Decode32.sign_extend (suc k) a ≡ Manual.sign_extend (suc k) a

unfoldable pub ShiftsArithmetic : Type 0
ShiftsArithmetic =
    (k a c : ℕ) → a < 2 ^ suc k → c ≤ suc k → shift_right_arithmetic (suc k) a c ≡ shifted (suc k) sar a c

unfoldable pub ComparesByFlags : Type 0
ComparesByFlags = (k a b : ℕ) → a < 2 ^ suc k → b < 2 ^ suc k
    → (holds L (sub_flags (suc k) a b) ≡ lt_z (signed (suc k) a) (signed (suc k) b))
    × (holds B (sub_flags (suc k) a b) ≡ ltb a b)
    × (holds E (sub_flags (suc k) a b) ≡ eqb a b)

-- Two's complement, product and division against the integers. Manual and host, each in its own file, have one formula for a number's
-- integer and for an integer's bits, and the kit's division of integers: what is shown here of the manual's holds of both.

-- a number of suc k bits is the integer itself or, where its top bit is set, 2^(suc k) more than it
pub record StandsFor (k a : ℕ) : Type 0 where
  pub low : a < 2 ^ k → signed (suc k) a ≡ pos a
  pub high : 2 ^ k ≤ a → signed (suc k) a +ℤ pos (2 ^ suc k) ≡ pos a

unfoldable pub StandForIntegers : Type 0
StandForIntegers = (k a : ℕ) → a < 2 ^ suc k → StandsFor k a

-- an integer's n bits differ from it by a multiple of 2^n
pub record BitsOf (n : ℕ) (z : ℤ) : Type 0 where
  pub below : bits_of n z < 2 ^ n
  pub times : ℤ
  pub apart : z ≡ pos (bits_of n z) +ℤ times *ℤ pos (2 ^ n)

unfoldable pub IntegersHaveBits : Type 0
IntegersHaveBits = (n : ℕ) (z : ℤ) → BitsOf n z

-- the upper half of an integer's 2n bits stands above its n bits
unfoldable pub UpperHalves : Type 0
UpperHalves = (n : ℕ) (z : ℤ) → bits_of (2 * n) z ≡ upper_half n z * 2 ^ n + bits_of n z

-- "dividend = divisor × quotient + remainder" (M, "Division Operations"). The remainder is less than the divisor in magnitude and does not
-- have the other sign than the dividend: this is 'rounded towards zero', and leaves one quotient and one remainder
pub record Divides (n a b : ℕ) : Type 0 where
  pub whole : signed n a ≡ signed n b *ℤ signed n (quotient n a b) +ℤ signed n (remainder n a b)
  pub less : nat_abs (signed n (remainder n a b)) < nat_abs (signed n b)
  pub sign : signed n (remainder n a b) ≢ pos 0 → non_neg (signed n (remainder n a b)) ≡ non_neg (signed n a)

pub record DividesU (n a b : ℕ) : Type 0 where
  pub whole : a ≡ b * quotient_u n a b + remainder_u n a b
  pub less : remainder_u n a b < b

-- but for the manual's two exceptions, division by zero and the signed overflow
unfoldable pub DivideTowardZero : Type 0
DivideTowardZero = (k a b : ℕ) → a < 2 ^ suc k → b < 2 ^ suc k → b ≢ 0 → overflows (suc k) a b ≡ false → Divides (suc k) a b

unfoldable pub DivideUnsigned : Type 0
DivideUnsigned = (n a b : ℕ) → b ≢ 0 → DividesU n a b

-- Stretches without CALL and RET, a relation in the statement, are runs of the function `steps`.

unfoldable pub StepsAlike : Type 0
StepsAlike = (undefined : State → Flags) (ok : Permissions) (s t : State) (n : ℕ) (ws : List ℕ)
    → Goes undefined ok s n ws t → steps undefined ok n s ≡ Some (t, ws)

-- What a block's reply leaves in the output: the block at its front, the rest as before, the length as before.

pub record LeftInOutput (b : Block) (out : List ℕ) : Type 0 where
  pub front : take (length b.code) (output_after (block b) out) ≡ b.code
  pub rest : drop (length b.code) (output_after (block b) out) ≡ drop (length b.code) out
  pub long : length (output_after (block b) out) ≡ length out

unfoldable pub OutputsBlock : Type 0
OutputsBlock = (b : Block) (out : List ℕ) → length b.code ≤ length out → LeftInOutput b out

-- No block is shorter than 67 or longer than 4,099 bytes, and both are reached.

unfoldable pub Lengths : Type 0
Lengths = (start limit : ℕ) (hs : List ℕ) (helper16 helper_mem room : ℕ) (b : Block)
    → translate start limit hs helper16 helper_mem room ≡ block b → (67 ≤ length b.code) × (length b.code ≤ greatest)

pub record Reaches (n : ℕ) : Type 0 where
  pub start : ℕ
  pub limit : ℕ
  pub halfwords : List ℕ
  pub result : Block
  pub reply : translate start limit halfwords 0 0 4099 ≡ block result
  pub long : length result.code ≡ n

unfoldable pub BothReached : Type 0
BothReached = Reaches 67 × Reaches 4099

-- A block spans from 2 to 256 bytes of the guest's code, an even number of them, 2 to 4 for each instruction that it counts, and none that
-- its run did not have.

pub record SpansOf (hs : List ℕ) (b : Block) : Type 0 where
  pub low : 2 ≤ b.span
  pub high : b.span ≤ 256
  pub even : b.span % 2 ≡ 0
  pub least : 2 * b.count ≤ b.span
  pub most : b.span ≤ 4 * b.count
  pub there : b.span ≤ 2 * length hs

unfoldable pub Spans : Type 0
Spans = (start limit : ℕ) (hs : List ℕ) (helper16 helper_mem room : ℕ) (b : Block) → Halfwords hs
    → translate start limit hs helper16 helper_mem room ≡ block b → SpansOf hs b

-- both ends are reached, by a run of which nothing is left over: one halfword, and 64 words. So are the 2 and the 4 bytes for an
-- instruction

pub record ReachesSpan (n each : ℕ) : Type 0 where
  pub start : ℕ
  pub limit : ℕ
  pub halfwords : List ℕ
  pub result : Block
  pub reply : translate start limit halfwords 0 0 4099 ≡ block result
  pub spans : result.span ≡ n
  pub for_each : result.span ≡ each * result.count
  pub whole : result.span ≡ 2 * length halfwords

unfoldable pub SpansReached : Type 0
SpansReached = ReachesSpan 2 2 × ReachesSpan 256 4
