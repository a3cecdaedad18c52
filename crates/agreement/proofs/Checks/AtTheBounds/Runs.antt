-- The laws of runs, each taken at its bounds: the last address, a run longer than a turn reads, the longest run that any code has, codes
-- that differ just before and just behind the run and between its halfwords.
use Rattle.std.proofs.Common.{cond, List, [], ◌∷◌, ◌≡◌, ap, refl, eqb, length, suc, zero, ◌+◌, ◌-◌, ◌*◌, ◌%◌, ◌^◌, ◌<◌, ℕ, arith}
use Rattle.std.specs.Prelude.{Some}
use Rattle.agreement.specs.Riscv.Code.{Code, run_at}
use Rattle.agreement.specs.Cases.{copies, words}
use Rattle.agreement.specs.Laws.{Halfwords, Held, NeedsNoMore, RunsAlike, RunsHeld}
use Rattle.agreement.specs.Translation.Needed.{needed}
use Rattle.agreement.specs.Translation.Replies.{translate}
use Rattle.agreement.proofs.Laws.Needed.{needs_no_more}
use Rattle.agreement.proofs.Laws.Runs.{runs_alike, runs_held}
use Rattle.agreement.proofs.Laws.Tests.{eqb_no}

-- 1. What is needed: of no halfword, of more than 64 words, of numbers that are no halfwords; for a limit of 0, of 1 and of more than 64;
-- at any start; for any helpers; with any room

abbrev many : List ℕ
many = copies 70 (words (0x00500093 ∷ []))

needed_of_none : translate 0x80000000 64 (needed 64 []) 0 0 4099 ≡ translate 0x80000000 64 [] 0 0 4099
unfolding NeedsNoMore
needed_of_none = needs_no_more 0x80000000 64 [] 0 0 4099

needed_of_many : translate (2 ^ 70) (2 ^ 64) (needed 64 many) (2 ^ 64) (2 ^ 65) 5000
    ≡ translate (2 ^ 70) (2 ^ 64) many (2 ^ 64) (2 ^ 65) 5000
unfolding NeedsNoMore
needed_of_many = needs_no_more (2 ^ 70) (2 ^ 64) many (2 ^ 64) (2 ^ 65) 5000

needed_at_once : translate 2 1 (needed 1 many) (2 ^ 64 - 1) (2 ^ 64 - 1) 0 ≡ translate 2 1 many (2 ^ 64 - 1) (2 ^ 64 - 1) 0
unfolding NeedsNoMore
needed_at_once = needs_no_more 2 1 many (2 ^ 64 - 1) (2 ^ 64 - 1) 0

needed_for_none : translate 1 0 (needed 0 many) 1 2 3 ≡ translate 1 0 many 1 2 3
unfolding NeedsNoMore
needed_for_none = needs_no_more 1 0 many 1 2 3

needed_of_numbers : translate 0 65 (needed 64 (2 ^ 20 ∷ 2 ^ 20 ∷ 0x4108 ∷ [])) 0 0 4098
    ≡ translate 0 65 (2 ^ 20 ∷ 2 ^ 20 ∷ 0x4108 ∷ []) 0 0 4098
unfolding NeedsNoMore
needed_of_numbers = needs_no_more 0 65 (2 ^ 20 ∷ 2 ^ 20 ∷ 0x4108 ∷ []) 0 0 4098

-- 2. Codes that have the same run of 70 halfwords from 2^64 - 4 on, and differ at 2^64 - 6, at 136 and at every odd address

abbrev one : Code
one x = Some 0x4108

abbrev other : Code
other x = cond (eqb x (2 ^ 64 - 6)) (Some 0x1111) (cond (eqb x 136) (Some 0x2222) (cond (eqb (x % 2) 1) (Some 0x3333) (Some 0x4108)))

same_there : (k : ℕ) → k < 70 → one ((2 ^ 64 - 4 + 2 * k) % 2 ^ 64) ≡ other ((2 ^ 64 - 4 + 2 * k) % 2 ^ 64)
same_there k l =
    let x : ℕ = (2 ^ 64 - 4 + 2 * k) % 2 ^ 64 in
    rw (eqb_no x (2 ^ 64 - 6) (λ e. omega (arith, l, e)), eqb_no x 136 (λ e. omega (arith, l, e)))
    (rw (eqb_no (x % 2) 1 (λ e. omega (arith, l, e))) refl)

alike_70 : run_at one (2 ^ 64 - 4) 70 ≡ run_at other (2 ^ 64 - 4) 70
unfolding RunsAlike
alike_70 = runs_alike one other (2 ^ 64 - 4) 70 (omega arith) same_there

-- at the last address, where a halfword wraps; and a run of none of codes that have nothing in common
alike_last : run_at one (2 ^ 64 - 1) 2 ≡ run_at (λ x. Some 0x4108) (2 ^ 64 - 1) 2
unfolding RunsAlike
alike_last = runs_alike one (λ x. Some 0x4108) (2 ^ 64 - 1) 2 (omega arith) (λ k l. refl)

alike_none : run_at one 0 0 ≡ run_at (λ x. Some x) 0 0
unfolding RunsAlike
alike_none = runs_alike one (λ x. Some x) 0 0 (omega arith) (λ k l. absurd (omega (arith, l)))

-- 3. The run of 2^63 times the greatest halfword is the run of some code at the last address, and so is the empty one

filled : ℕ → ℕ → List ℕ
filled zero h = []
filled (suc n) h = h ∷ filled n h

filled_long : (n h : ℕ) → length (filled n h) ≡ n
unfolding filled
filled_long zero h = refl
filled_long (suc n) h = ap suc (filled_long n h)

filled_halfwords : (n h : ℕ) → h < 2 ^ 16 → Halfwords (filled n h)
unfolding filled Halfwords
filled_halfwords zero h l = tt
filled_halfwords (suc n) h l = (l, filled_halfwords n h l)

record HeldAt (pc : ℕ) (hs : List ℕ) (n : ℕ) : Type 0 where
  code : Code
  run : run_at code pc n ≡ hs

held_at : (pc : ℕ) (hs : List ℕ) (n : ℕ) → length hs ≡ n → Held pc hs → HeldAt pc hs n
held_at pc hs n e h = record { code = h.code; run = rw (← e) h.run }

longest_held : HeldAt (2 ^ 64 - 1) (filled (2 ^ 63) 0xFFFF) (2 ^ 63)
unfolding RunsHeld
longest_held =
    held_at (2 ^ 64 - 1) (filled (2 ^ 63) 0xFFFF) (2 ^ 63) (filled_long (2 ^ 63) 0xFFFF)
    (runs_held (2 ^ 64 - 1) (filled (2 ^ 63) 0xFFFF) (omega arith) (omega (arith, filled_long (2 ^ 63) 0xFFFF))
    (filled_halfwords (2 ^ 63) 0xFFFF (omega arith)))

none_held : HeldAt 0 [] 0
unfolding RunsHeld
none_held = held_at 0 [] 0 refl (runs_held 0 [] (omega arith) (omega arith) (unfold Halfwords in tt))

alike_twice_round : run_at one (2 ^ 64 - 1) (2 ^ 64 + 1) ≡ run_at (λ x. Some 0x4108) (2 ^ 64 - 1) (2 ^ 64 + 1)
unfolding RunsAlike
alike_twice_round = runs_alike one (λ x. Some 0x4108) (2 ^ 64 - 1) (2 ^ 64 + 1) (omega arith) (λ k l. refl)
