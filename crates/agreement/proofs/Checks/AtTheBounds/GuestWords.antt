-- The laws of guest words, each taken at its bounds: words and halfwords that are none, having more bits; each number of a kind, at a size
-- that no word has; a word whose top bit is set; the immediates that reach furthest.
use Rattle.std.proofs.Common.{true, List, [], ◌⊎◌, inl, inr, ◌≡◌, refl, ◌+◌, ◌-◌, ◌%◌, ◌^◌, ◌<◌, ◌≤◌, ℕ, arith}
use Rattle.std.specs.Prelude.{Some}
use Rattle.agreement.specs.Common.{Helper.for_access}
use Rattle.agreement.specs.Laws.{Ends, Ends.leaves, Ends.sets, ExpandsAlike, ExpandsToListed, GoesOn, ImmediatesAlike, KindsWalk, Listed, Ranges, TakenAlike, WalksBy}
use Rattle.agreement.specs.Riscv.Compressed.{expansion, expansion_by}
use Rattle.agreement.specs.Riscv.Compressed as Compressed
use Rattle.agreement.specs.Riscv.Immediates as Manual
use Rattle.agreement.specs.Riscv.Instruction.{Instruction, Access.LB, Access.SD, Branch.BGEU, Op.DIVW, OpImm.SRAIW, Unmodelled.ECALL}
use Rattle.agreement.specs.Riscv.Instruction.Instruction.{AUIPC, FENCE, FENCE_I, JAL, JALR, LUI, access, branch, op, op_imm, other, unmodelled}
use Rattle.agreement.specs.Riscv.Run.{in_line, is_in_line, taken}
use Rattle.agreement.specs.Translation.Decode16.{expand}
use Rattle.agreement.specs.Translation.Decode32 as Decode32
use Rattle.agreement.specs.Translation.Kind.{kind}
use Rattle.agreement.specs.X86.Form.{Instr}
use Rattle.agreement.specs.Translation.Walk.{Walked, End.jumped, before, emit, helps, jumps, not_taken_at, stops_behind}
use Rattle.agreement.proofs.Checks.CasesHold.{immediates}
use Rattle.agreement.proofs.Checks.ExampleStates.{reads_a_turn}
use Rattle.agreement.proofs.Laws.Expanding.{expands_alike, expands_to_listed}
use Rattle.agreement.proofs.Laws.Immediates.{immediates_alike, ranges}
use Rattle.agreement.proofs.Laws.Naming.{taken_alike}
use Rattle.agreement.proofs.Laws.Needed.{kinds_walk}

-- 1. The name of a word: of numbers that have 32 bits, and more

record Named (w : ℕ) : Type 0 where
  name : kind w ≡ taken w

named : (w : ℕ) → Named w
unfolding TakenAlike
named w = record { name = taken_alike w }

words_named : Named 0 × Named (2 ^ 32 - 1) × Named (2 ^ 32 + 0x00500093) × Named (2 ^ 100 + 0x0200C133)
words_named = (named 0, named (2 ^ 32 - 1), named (2 ^ 32 + 0x00500093), named (2 ^ 100 + 0x0200C133))

-- 2. What the number of a kind says, of each family: of a word of 6 bytes and more than 32 bits at an odd pc beyond 2^64

abbrev behind : Walked
behind = record { code = []; added = 70; span = 300; end = jumped }

abbrev far : ℕ
far = 2 ^ 64 + 1

abbrev wide : ℕ
wide = 2 ^ 40 + 0x00500093

record Walks : Type 0 where
  not_taken : emit other 6 far wide behind ≡ not_taken_at far wide
  not_modelled : emit (unmodelled ECALL) 6 far wide behind ≡ not_taken_at far wide
  code : List Instr
  goes_on : emit FENCE 6 far wide behind ≡ before 6 code behind
  goes_on_alike : emit FENCE 6 far wide (not_taken_at 0 0) ≡ before 6 code (not_taken_at 0 0)
  op_goes_on : GoesOn (op DIVW) 6 far wide
  op_imm_goes_on : GoesOn (op_imm SRAIW) 6 far wide
  lui_goes_on : GoesOn LUI 6 far wide
  auipc_goes_on : GoesOn AUIPC 6 far wide
  ends : Ends JAL 6 far wide
  jalr_ends : Ends JALR 6 far wide
  branch_ends : Ends (branch BGEU) 6 far wide
  leaves : Ends FENCE_I 6 far wide
  helped : emit (access LB) 6 far wide behind ≡ helps for_access wide far
  store_helped : emit (access SD) 6 far wide behind ≡ helps for_access wide far

walks : Walks
unfolding KindsWalk WalksBy
walks =
    let on : GoesOn FENCE 6 far wide = kinds_walk FENCE 6 far wide in
    record {
      not_taken = kinds_walk other 6 far wide behind;
      not_modelled = kinds_walk (unmodelled ECALL) 6 far wide behind;
      code = on.code;
      goes_on = on.on behind;
      goes_on_alike = on.on (not_taken_at 0 0);
      op_goes_on = kinds_walk (op DIVW) 6 far wide;
      op_imm_goes_on = kinds_walk (op_imm SRAIW) 6 far wide;
      lui_goes_on = kinds_walk LUI 6 far wide;
      auipc_goes_on = kinds_walk AUIPC 6 far wide;
      ends = kinds_walk JAL 6 far wide;
      jalr_ends = kinds_walk JALR 6 far wide;
      branch_ends = kinds_walk (branch BGEU) 6 far wide;
      leaves = kinds_walk FENCE_I 6 far wide;
      helped = kinds_walk (access LB) 6 far wide behind;
      store_helped = kinds_walk (access SD) 6 far wide behind;
    }

-- what an ending word does is one of two things, whatever stands behind it
record OneOf (k : Instruction) (code : List Instr) : Type 0 where
  one : (emit k 6 far wide behind ≡ jumps 6 code) ⊎ (emit k 6 far wide behind ≡ stops_behind 6 code (Decode32.wrapping_add far 6))

ends_so : (k : Instruction) → Ends k 6 far wide → (code : List Instr) × OneOf k code
ends_so k (sets code h) = (code, record { one = inl (h behind) })
ends_so k (leaves code h) = (code, record { one = inr (h behind) })

-- 3. Halfwords: of 16 bits and more; C.LI x1, -1, whose word has every bit of its immediate set

record Expanded (h : ℕ) : Type 0 where
  word : expand h ≡ in_line h

expanded : (h : ℕ) → Expanded h
unfolding ExpandsAlike
expanded h = record { word = expands_alike h }

halfwords_expanded : Expanded 0 × Expanded (2 ^ 16 - 1) × Expanded (2 ^ 16 + 0x4085) × Expanded (2 ^ 100 + 0x4085)
halfwords_expanded = (expanded 0, expanded (2 ^ 16 - 1), expanded (2 ^ 16 + 0x4085), expanded (2 ^ 100 + 0x4085))

record IsListed (w : ℕ) : Type 0 where
  below : w < 2 ^ 32
  low : w % 4 ≡ 3
  is_straight_or_ends : is_in_line (taken w) ≡ true

is_listed : (h w : ℕ) → in_line h ≡ Some w → IsListed w
unfolding ExpandsToListed
is_listed h w e =
    let l : Listed w = expands_to_listed h w e in record { below = l.below; low = l.low; is_straight_or_ends = l.is_straight_or_ends }

li_listed : IsListed 0xFFF00093
unfolding in_line Compressed.find expansion_by expansion immediates reads_a_turn
li_listed = is_listed 0x50FD 0xFFF00093 refl

-- 4. Immediates: of words with all bits set; where any number will do, of one that has more

record Immediates : Type 0 where
  i : Decode32.imm_i (2 ^ 32 - 1) ≡ Manual.imm_i (2 ^ 32 - 1)
  s : Decode32.imm_s (2 ^ 32 - 1) ≡ Manual.imm_s (2 ^ 32 - 1)
  b : Decode32.imm_b (2 ^ 40 - 1) ≡ Manual.imm_b (2 ^ 40 - 1)
  u : Decode32.imm_u (2 ^ 40 - 1) ≡ Manual.imm_u (2 ^ 40 - 1)
  j : Decode32.imm_j (2 ^ 40 - 1) ≡ Manual.imm_j (2 ^ 40 - 1)

immediates_taken : Immediates
immediates_taken =
    let h : ImmediatesAlike = immediates_alike in
    record {
      i = h.i_alike (2 ^ 32 - 1) (omega arith);
      s = h.s_alike (2 ^ 32 - 1) (omega arith);
      b = h.b_alike (2 ^ 40 - 1);
      u = h.u_alike (2 ^ 40 - 1);
      j = h.j_alike (2 ^ 40 - 1);
    }

-- of the immediate of a word, whichever it is; and the words that reach furthest reach just so far
record Ranged (b j : ℕ) : Type 0 where
  b_range : (b + 4096) % 2 ^ 64 ≤ 8190
  b_even : b % 2 ≡ 0
  j_range : (j + 1048576) % 2 ^ 64 ≤ 2097150
  j_even : j % 2 ≡ 0

ranged : (w : ℕ) → Ranged (Manual.imm_b w) (Manual.imm_j w)
ranged w = let h : Ranges = ranges in record { b_range = h.b_range w; b_even = h.b_even w; j_range = h.j_range w; j_even = h.j_even w }

furthest_ranged : Ranged (Manual.imm_b (2 ^ 40 - 1)) (Manual.imm_j (2 ^ 40 - 1))
    × Ranged (Manual.imm_b 0x7FFFFF80) (Manual.imm_j 0x7FFFFF80)
furthest_ranged = (ranged (2 ^ 40 - 1), ranged 0x7FFFFF80)

record Furthest : Type 0 where
  b_least : Manual.imm_b 0x80000000 ≡ 2 ^ 64 - 4096
  b_greatest : Manual.imm_b 0x7E000F80 ≡ 4094
  j_least : Manual.imm_j 0x80000000 ≡ 2 ^ 64 - 1048576
  j_greatest : Manual.imm_j 0x7FFFF000 ≡ 1048574

furthest : Furthest
unfolding immediates
furthest = record { b_least = refl; b_greatest = refl; j_least = refl; j_greatest = refl }
