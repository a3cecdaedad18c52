-- The values of M at their corners (divisors 0, the signed overflow, signs, 32-bit words, upper halves): by the manual's side, and by the
-- host instructions of each word, which the model fetches, decodes and executes.
use Rattle.std.proofs.Common.{Bool, ◌&&◌, cond, false, true, List, [], ◌∷◌, ◌≡◌, refl, ◌+◌, ◌-◌, ◌^◌, suc, zero, ℕ, eqb, ltb, length}
use Rattle.std.specs.Prelude.{Option, None, Some}
use Rattle.agreement.specs.Riscv.Immediates.{sign_extend}
use Rattle.agreement.specs.Riscv.Instruction.{Op, bits_of, overflows, quotient, quotient_u, remainder, remainder_u, signed, value_op}
use Rattle.agreement.specs.Riscv.Instruction.Op.{DIV, DIVU, DIVUW, DIVW, MULH, MULHSU, MULHU, REM, REMU, REMUW, REMW}
use Rattle.agreement.specs.Translation.Emit.{body_op}
use Rattle.agreement.specs.X86.Encode.{bytes}
use Rattle.agreement.specs.X86.Flags.{as_bits, as_signed, imul_flags, shift_flags, shift_overflow, shifted, shifted_out, smul_flags}
use Rattle.agreement.specs.X86.Flags.{umul_flags}
use Rattle.agreement.specs.X86.Form.{R10, R11}
use Rattle.agreement.specs.X86.Memory.{nth}
use Rattle.agreement.specs.X86.State.{State}
use Rattle.agreement.specs.X86.Step.{step}
use Rattle.agreement.proofs.Checks.ExampleRuns.{the_model}
use Rattle.agreement.proofs.Checks.Flags.{off}

-- the value of a word with a in rs1 and b in rs2
record Value : Type 0 where
  o : Op
  a : ℕ
  b : ℕ
  v : ℕ

abbrev gives : Op → ℕ → ℕ → ℕ → Value
gives o a b v = record { o = o; a = a; b = b; v = v }

-- first a corner of each rule (request Q-2); then quotients and remainders of all signs, and what is near the corners
values : List Value
values =
    gives DIV 7 0 (2 ^ 64 - 1)
    ∷ gives DIVU 7 0 (2 ^ 64 - 1)
    ∷ gives REM 7 0 7
    ∷ gives REMU 7 0 7
    ∷ gives DIV (2 ^ 63) (2 ^ 64 - 1) (2 ^ 63)
    ∷ gives REM (2 ^ 63) (2 ^ 64 - 1) 0
    ∷ gives DIV (2 ^ 64 - 7) 2 (2 ^ 64 - 3)
    ∷ gives REM (2 ^ 64 - 7) 2 (2 ^ 64 - 1)
    ∷ gives DIVUW 0x80000000 1 0xFFFFFFFF80000000
    ∷ gives DIVUW 0x80000000 0 (2 ^ 64 - 1)
    ∷ gives REMUW 0x80000000 0 0xFFFFFFFF80000000
    ∷ gives DIVW 0x123480000000 0x5555FFFFFFFF 0xFFFFFFFF80000000
    ∷ gives REMW 0x123480000000 0x5555FFFFFFFF 0
    ∷ gives REMW 0x80000000 0 0xFFFFFFFF80000000
    ∷ gives MULH (2 ^ 63) (2 ^ 63) (2 ^ 62)
    ∷ gives MULHU (2 ^ 64 - 1) (2 ^ 64 - 1) (2 ^ 64 - 2)
    ∷ gives MULHSU (2 ^ 64 - 1) (2 ^ 64 - 1) (2 ^ 64 - 1)
    ∷ gives MULHSU (2 ^ 63) (2 ^ 64 - 1) (2 ^ 63)
    ∷ gives DIV 7 (2 ^ 64 - 2) (2 ^ 64 - 3)
    ∷ gives REM 7 (2 ^ 64 - 2) 1
    ∷ gives DIV (2 ^ 64 - 7) (2 ^ 64 - 2) 3
    ∷ gives REM (2 ^ 64 - 7) (2 ^ 64 - 2) (2 ^ 64 - 1)
    ∷ gives DIV (2 ^ 63 + 1) (2 ^ 64 - 1) (2 ^ 63 - 1)
    ∷ gives REM (2 ^ 64 - 7) 0 (2 ^ 64 - 7)
    ∷ gives DIVU (2 ^ 63) (2 ^ 64 - 1) 0
    ∷ gives REMU (2 ^ 63) (2 ^ 64 - 1) (2 ^ 63)
    ∷ gives DIVW 0x1234FFFFFFF9 0x555500000002 (2 ^ 64 - 3)
    ∷ gives REMW 0x1234FFFFFFF9 0x555500000002 (2 ^ 64 - 1)
    ∷ gives DIVW 0x80000000 0x555500000000 (2 ^ 64 - 1)
    ∷ gives DIVUW 0x1234FFFFFFF9 0x555500000002 0x7FFFFFFC
    ∷ gives REMUW 0x1234FFFFFFF9 0x5555FFFFFFFE 0xFFFFFFFFFFFFFFF9
    ∷ gives REMUW 0x123400000007 0x555500000005 2
    ∷ gives MULH (2 ^ 64 - 7) 3 (2 ^ 64 - 1)
    ∷ gives MULH (2 ^ 64 - 7) (2 ^ 64 - 3) 0
    ∷ gives MULHSU (2 ^ 63 - 1) (2 ^ 64 - 1) (2 ^ 63 - 2)
    ∷ gives MULHSU (2 ^ 64 - 1) 0 0
    ∷ gives MULHU (2 ^ 63) 2 1 ∷ []

-- 1. By the manual

abbrev pass : List Value → Bool
pass [] = true
pass (x ∷ xs) = eqb (value_op x.o x.a x.b) x.v && pass xs

values_pass : pass values ≡ true
unfolding values value_op signed bits_of overflows quotient quotient_u remainder remainder_u sign_extend
values_pass = refl

-- 2. By the host instructions, which stand at address 0: a in R10, b in R11, no two other registers alike. They go on to their end, and
-- R10 has the value then

abbrev code : Op → List ℕ
code o = bytes (body_op o)

abbrev before : Value → State
before x = record {
  regs = λ k. cond (eqb k R10) x.a (cond (eqb k R11) x.b (100 + k));
  flags = off;
  rip = 0;
  mem = nth (code x.o);
}

-- as far as there is a next state, at most k steps, only the code's n bytes being there to fetch
abbrev or_stay : State → Option (State × List ℕ) → State
or_stay s None = s
or_stay s (Some t) = t.0

abbrev runs : ℕ → ℕ → State → State
runs n zero s = s
runs n (suc k) s =
    runs n k (or_stay s (step (λ u. off) (record { fetch = λ a. ltb a n; read = λ a. false; write = λ a. false }) s))

abbrev coded : Value → Bool
coded x =
    let n : ℕ = length (code x.o) in
    let t : State = runs n 16 (before x) in
    eqb t.rip n && eqb (t.regs R10) x.v

abbrev codes_pass : List Value → Bool
codes_pass [] = true
codes_pass (x ∷ xs) = coded x && codes_pass xs

codes_pass_lem : codes_pass values ≡ true
unfolding the_model values nth shifted shift_flags shift_overflow shifted_out imul_flags umul_flags smul_flags as_signed as_bits
codes_pass_lem = refl
