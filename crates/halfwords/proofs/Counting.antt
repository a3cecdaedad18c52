-- The counts, computed over all halfwords as one number, five digits for each: a record would be computed once for each of its fields.
use Rattle.std.proofs.Common.{Bool, cond, false, true, ◌∙◌, ◌≡◌, ap, refl, sym, ◌*◌, ◌+◌, ◌^◌, ◌≤◌, suc, zero, ℕ, arith, eqb}
use Rattle.std.specs.Prelude.{Option, None, Some}
use Rattle.agreement.specs.Riscv.Immediates.{sign_extend}
use Rattle.agreement.specs.Riscv.Fields.{funct3, funct6, funct7, opcode}
use Rattle.agreement.specs.Riscv.Compressed as C
use Rattle.agreement.specs.Riscv.Instruction.{Instruction}
use Rattle.agreement.specs.Riscv.Run.{if_in_line, in_line, is_in_line, is_long, taken}
use Rattle.agreement.proofs.Laws.Width.{twice}
use Rattle.agreement.specs.Translation.Kind.{kind, kind_branch, kind_load, kind_of, kind_op, kind_op32, kind_op_imm, kind_op_imm32, kind_store, match}
use Rattle.agreement.proofs.Laws.Fields.{funct3_is, funct6_is, funct7_is, opcode_is}
use Rattle.agreement.proofs.Laws.Naming.{kind_is}
use Rattle.halfwords.specs.Sorts.{Counts, AllCounted, count, counted, counts, ebreak, ends, is_access, together}

abbrev packed : Counts → ℕ
packed c = c.reserved * 10 ^ 20 + c.breakpoints * 10 ^ 15 + c.accesses * 10 ^ 10 + c.ending * 10 ^ 5 + c.straight

unfoldable digit : Instruction → ℕ → ℕ
digit i w =
    cond (is_in_line i) (cond (ends i) (10 ^ 5) 1) (cond (eqb w ebreak) (10 ^ 15) (cond (is_access w) (10 ^ 10) 0))

-- the translator's tests name a word in fewer steps than the manual's listing does
unfoldable sorted : Option ℕ → ℕ
sorted None = 10 ^ 20
sorted (Some w) = digit (kind_of (opcode w) (funct3 w) (funct7 w) (funct6 w)) w

taken_is : (w : ℕ) → taken w ≡ kind_of (opcode w) (funct3 w) (funct7 w) (funct6 w)
unfolding kind
taken_is w = sym (kind_is w) ∙ rw (opcode_is w, funct3_is w, funct7_is w, funct6_is w) refl

packed_cond : (t : Bool) (c d : Counts) → packed (cond t c d) ≡ cond t (packed c) (packed d)
packed_cond true c d = refl
packed_cond false c d = refl

digit_is : (t : Bool) (w : ℕ) → packed (counted (cond t (Some w) None) (Some w))
    ≡ cond t (cond (ends (taken w)) (10 ^ 5) 1) (cond (eqb w ebreak) (10 ^ 15) (cond (is_access w) (10 ^ 10) 0))
unfolding counted
digit_is true w = packed_cond (ends (taken w)) _ _
digit_is false w = packed_cond (eqb w ebreak) _ _ ∙ ap (cond (eqb w ebreak) (10 ^ 15)) (packed_cond (is_access w) _ _)

sorted_is : (e : Option ℕ) → packed (counted (if_in_line e) e) ≡ sorted e
unfolding if_in_line sorted digit counted
sorted_is None = refl
sorted_is (Some w) = digit_is (is_in_line (taken w)) w ∙ ap (λ (i : Instruction). digit i w) (taken_is w)

unfoldable sum : ℕ → ℕ → ℕ
sum zero a = elim (is_long a) [ true ↦ 0 | false ↦ sorted (C.expansion a) ]
sum (suc k) a = sum k a + sum k (a + 2 ^ k)

sum_is : (k a : ℕ) → packed (count k a) ≡ sum k a
unfolding count sum in_line
sum_is zero a = go (is_long a)
  where
    go : (t : Bool) → packed (cond t (counts 0 0 0 0 0) (counted (in_line a) (C.expansion a)))
        ≡ elim t [ true ↦ 0 | false ↦ sorted (C.expansion a) ]
    go true = refl
    go false = sorted_is (C.expansion a)
sum_is (suc k) a = added (count k a) (count k (a + 2 ^ k)) _ _ (sum_is k a) (sum_is k (a + 2 ^ k))
  where
    added : (c d : Counts) (m n : ℕ) → packed c ≡ m → packed d ≡ n → packed (together c d) ≡ m + n
    added c d m n p q = omega arith

-- what is open where a sum is computed: the names of words, and the rest
unfoldable naming : Unit {0}
unfolding kind_of match kind_op kind_op32 kind_op_imm kind_op_imm32 kind_branch kind_load kind_store
naming = tt

unfoldable computes : Unit {0}
unfolding naming sum sorted digit is_long sign_extend C.expansion C.expansion_by C.find
computes = tt

-- by funct3
by_0 : sum 13 0 ≡ 8_00000_00000_00000_06136
unfolding computes
by_0 = refl

by_1 : sum 13 8192 ≡ 64_00000_04096_00000_01984
unfolding computes
by_1 = refl

by_2 : sum 13 16384 ≡ 64_00000_04032_00000_02048
unfolding computes
by_2 = refl

by_3 : sum 13 24576 ≡ 96_00000_04032_00000_02016
unfolding computes
by_3 = refl

by_4 : sum 13 32768 ≡ 2177_00001_00000_00062_03904
unfolding computes
by_4 = refl

by_5 : sum 13 40960 ≡ 4096_02048_00000
unfolding computes
by_5 = refl

by_6 : sum 13 49152 ≡ 4096_02048_00000
unfolding computes
by_6 = refl

by_7 : sum 13 57344 ≡ 4096_02048_00000
unfolding computes
by_7 = refl

halves : (k a : ℕ) → sum (suc k) a ≡ sum k a + sum k (a + 2 ^ k)
unfolding sum
halves k a = refl

all_packed : packed (count 16 0) ≡ 2409_00001_24448_06206_16088
all_packed =
    sum_is 16 0
    ∙ rw (halves 15 0, halves 14 0, halves 14 32768, halves 13 0, halves 13 16384, halves 13 32768, halves 13 49152)
    (rw (by_0, by_1, by_2, by_3, by_4, by_5, by_6, by_7) refl)

-- The five counts out of it: none is greater than the number of halfwords

abbrev size : Counts → ℕ
size c = c.reserved + c.breakpoints + c.accesses + c.ending + c.straight

size_cond : (t : Bool) (c d : Counts) → size c ≤ 1 → size d ≤ 1 → size (cond t c d) ≤ 1
size_cond true c d l k = l
size_cond false c d l k = k

size_counted : (i e : Option ℕ) → size (counted i e) ≤ 1
unfolding counted
size_counted None None = omega arith
size_counted None (Some w) = size_cond (eqb w ebreak) _ _ (omega arith) (size_cond (is_access w) _ _ (omega arith) (omega arith))
size_counted (Some w) e = size_cond (ends (taken w)) _ _ (omega arith) (omega arith)

size_le : (k a : ℕ) → size (count k a) ≤ 2 ^ k
unfolding count
size_le zero a = size_cond (is_long a) _ _ (omega arith) (size_counted (in_line a) (C.expansion a))
size_le (suc k) a = added (count k a) (count k (a + 2 ^ k)) (size_le k a) (size_le k (a + 2 ^ k))
  where
    added : (c d : Counts) → size c ≤ 2 ^ k → size d ≤ 2 ^ k → size (together c d) ≤ 2 ^ suc k
    added c d p q = omega (arith, twice k)

unpacked : (c : Counts) → size c ≤ 2 ^ 16 → packed c ≡ 2409_00001_24448_06206_16088 → c ≡ counts 2409 1 24448 6206 16088
unpacked c l e =
    let r : c.reserved ≡ 2409 = omega arith in
    let b : c.breakpoints ≡ 1 = omega arith in
    let a : c.accesses ≡ 24448 = omega arith in
    let n : c.ending ≡ 6206 = omega arith in
    let s : c.straight ≡ 16088 = omega arith in
    same c r b a n s
  where
    same : (c : Counts) → c.reserved ≡ 2409 → c.breakpoints ≡ 1 → c.accesses ≡ 24448 → c.ending ≡ 6206 → c.straight ≡ 16088
        → c ≡ counts 2409 1 24448 6206 16088
    same c r b a n s = rw (← r, ← b, ← a, ← n, ← s) refl

pub all_counted : AllCounted
unfolding AllCounted
all_counted = unpacked (count 16 0) (size_le 16 0) all_packed
