-- Words that divide: what R10 holds behind them.
use Rattle.std.proofs.Common.{Bool, cond, false, true, List, [], ◌++◌, ◌∷◌, ◌≢◌, ◌∙◌, ◌≡◌, refl, sym, ◌%◌, ◌*◌, ◌+◌, ◌-◌, ◌/◌, ◌<◌, ◌^◌}
use Rattle.std.proofs.Common.{◌≤◌, suc, ℕ, mod-eq_of_lt, mod-lt, mul_comm, mul-one, mul-zero, arith, bit_and, bit_or, eqb, leb, ltb, ℤ}
use Rattle.std.proofs.Common.{length, pow_pos}
use native.Mathlib.Decide.{ℕ_discrete}
use native.Mathlib.Nat.{add-mod_right, mod-mod, zero-mod}
use lib.Bits.{and_mask, or_add_and}
use Rattle.agreement.specs.Riscv.Instruction.{bits_of, word}
use Rattle.agreement.specs.Translation.Emit.{first_quotient, first_remainder, quotient_s, quotient_u, remainder_s, remainder_u, sign_extend_pair}
use Rattle.agreement.specs.X86.Execute.{exec, width_bits}
use Rattle.agreement.specs.X86.Flags.{alu_value, sext}
use Rattle.agreement.specs.X86.Form.Alu.{or}
use Rattle.agreement.specs.X86.Form.{Instr, Ok, R10, R11, RAX, RBX, RDX, Width}
use Rattle.agreement.specs.X86.Form.Instr.{alu_imm8, mov, movsxd}
use Rattle.agreement.specs.X86.Form.Width.{r32, r64}
use Rattle.agreement.specs.X86.State.{Flags, State}
use Rattle.agreement.specs.X86.Step.{past}
use Rattle.agreement.proofs.Host.Fetching.{one}
use Rattle.agreement.proofs.Host.Straight.{Fine, run}
use Rattle.agreement.proofs.Laws.Signed.{bits-lt, opposite, quotient-lt, quotient-minus, quotient_usual, remainder-lt, remainder-minus}
use Rattle.agreement.proofs.Laws.Signed.{remainder_usual}
use Rattle.agreement.proofs.Laws.Tests.{leb-false, leb_no, leb-true, leb_yes}
use Rattle.agreement.proofs.Laws.Width.{word_is}
use Rattle.agreement.proofs.Words.Fit.{Fit, Leads, fit_append, leads_append, leads_straight}
use Rattle.agreement.proofs.Words.Guards.{Keeping, guard_s, guard_u, guarded_s, guarded_u, quot_bits, rem_bits}
use Rattle.agreement.proofs.Words.Slots.{InR10}
use Rattle.agreement.proofs.Words.Tame.{AllTame, Tame}
use Rattle.agreement.specs.Riscv.Instruction as Manual

-- 1. The parts: a value for what the host would not divide, the guarded division, and R10

-- code that leaves v in R10, RBX and memory as they were
pub record Computed (undefined : State → Flags) (is : List Instr) (s : State) (v : ℕ) : Type 0 where
  pub n : ℕ
  pub t : State
  pub leads : Leads undefined is s n t
  pub left : InR10 s t v

module _ (undefined : State → Flags) where
  around : (front is back : List Instr) (s : State) (v : ℕ) → Fit front → Fit back
      → (run undefined front s).regs RBX ≡ s.regs RBX → (run undefined front s).mem ≡ s.mem
      → (p : Keeping undefined is (run undefined front s)) → InR10 p.t (run undefined back p.t) v
      → Computed undefined (front ++ (is ++ back)) s v
  around front is back s v f g h k p q =
      let u : State = run undefined front s in
      let r : State = run undefined back p.t in
      record {
        n = length front + (p.n + length back);
        t = r;
        leads = leads_append undefined front (is ++ back) s u r (length front) (p.n + length back) (leads_straight undefined front s f)
            (leads_append undefined is back u p.t r p.n (length back) p.leads (leads_straight undefined back p.t g));
        left = record { rbx = q.rbx ∙ p.rbx ∙ h; ten = q.ten; same = q.same ∙ p.same ∙ k };
      }

  -- R10 from q, and sign-extended
  whole : (q : ℕ) (t : State) (v : ℕ) → t.regs q ≡ v → InR10 t (run undefined (mov R10 q ∷ []) t) v
  unfolding run one past exec
  whole q t v e = record { rbx = refl; ten = e; same = refl }

  lower : (q : ℕ) (t : State) (v : ℕ) → t.regs q % 2 ^ 32 ≡ v % 2 ^ 32
      → InR10 t (run undefined (mov R10 q ∷ movsxd R10 R10 ∷ []) t) (word v)
  unfolding run one past exec
  lower q t v e = record { rbx = refl; ten = word_is (t.regs q) v e; same = refl }

fit_whole : (q : ℕ) → q < 16 → Fit (mov R10 q ∷ [])
unfolding Fine Ok AllTame Tame
fit_whole q h = omega arith

fit_lower : (q : ℕ) → q < 16 → Fit (mov R10 q ∷ movsxd R10 R10 ∷ [])
unfolding Fine Ok AllTame Tame
fit_lower q h = omega arith

-- OR with -1
or_ones : (x : ℕ) → x < 2 ^ 64 → bit_or x (sext 8 64 255) ≡ 2 ^ 64 - 1
unfolding sext
or_ones x h =
    let e : bit_and x (2 ^ 64 - 1) ≡ x = and_mask x 64 ∙ mod-eq_of_lt h in
    omega (arith, e, or_add_and x (2 ^ 64 - 1))

abbrev ones : List Instr
ones = alu_imm8 or RAX 0xFF ∷ []

abbrev copied : List Instr
copied = mov RDX R10 ∷ []

fit_ones : Fit ones
unfolding Fine Ok AllTame Tame
fit_ones = omega arith

fit_copied : Fit copied
unfolding Fine Ok AllTame Tame
fit_copied = omega arith

-- 2. The numbers

-- the first choice, modulo m
either : (t : Bool) (x y z m : ℕ) → x % m ≡ y % m → cond t x z % m ≡ cond t y z % m
either true x y z m e = e
either false x y z m e = refl

-- the divisor's number of 64 bits y, its w bits being b: which of 0 and -1 it is, or neither
record Divisor (w y b : ℕ) : Type 0 where
  zero : b ≡ 0 → y ≡ 0
  minus : b ≡ 2 ^ w - 1 → y ≡ 2 ^ 64 - 1
  other : b ≢ 0 → b ≢ 2 ^ w - 1 → 2 ≤ (y + 1) % 2 ^ 64

-- and where 1 more than y is not below 2, it is neither
neither : (w y b : ℕ) → Divisor w y b → 2 ≤ (y + 1) % 2 ^ 64 → (b ≢ 0) × (b ≢ 2 ^ w - 1)
neither w y b d l = (
  (λ e. let z : y ≡ 0 = d.zero e in omega arith),
  (λ e. let z : y ≡ 2 ^ 64 - 1 = d.minus e in omega arith),
)

-- D where 1 more than y is 0 or 1, else Q
choose : (w y b c D Q R N : ℕ) → Divisor w y b → c ≡ (y + 1) % 2 ^ 64
    → (b ≡ 0 → y ≡ 0 → c ≡ 1 → D % N ≡ R) → (b ≡ 2 ^ w - 1 → y ≡ 2 ^ 64 - 1 → c ≡ 0 → D % N ≡ R)
    → (b ≢ 0 → b ≢ 2 ^ w - 1 → Q % N ≡ R) → cond (ltb c 2) D Q % N ≡ R
choose w y b c D Q R N d q f g h = go (ℕ_discrete b 0) (ℕ_discrete b (2 ^ w - 1))
  where
    go : Dec (b ≡ 0) → Dec (b ≡ 2 ^ w - 1) → cond (ltb c 2) D Q % N ≡ R
    go (yes e) n =
        let y0 : y ≡ 0 = d.zero e in
        let c1 : c ≡ 1 = q ∙ rw y0 in
        rw (leb_yes (suc c) 2 (omega arith)) (f e y0 c1)
    go (no n) (yes e) =
        let y1 : y ≡ 2 ^ 64 - 1 = d.minus e in
        let c0 : c ≡ 0 = q ∙ rw y1 in
        rw (leb_yes (suc c) 2 (omega arith)) (g e y1 c0)
    go (no n) (no m) =
        let l : 2 ≤ c = rw q (d.other n m) in
        rw (leb_no (suc c) 2 (omega arith)) (h n m)

again : (x N : ℕ) → (x % N % N + N) % N ≡ x % N
again x N = add-mod_right (x % N % N) N ∙ mod-mod (x % N) N ∙ mod-mod x N

-- a * b - (b + 1) and a * (b + 1), or the division's results; x: the dividend's number of 64 bits, c: 1 more than y
quotient_by : (k x y a b c : ℕ) → a < 2 ^ suc k → Divisor (suc k) y b → c ≡ (y + 1) % 2 ^ 64
    → (2 ^ 64 - 1) % 2 ^ suc k ≡ 2 ^ suc k - 1 → (2 ^ 64 - 1) * x % 2 ^ 64 % 2 ^ suc k ≡ (2 ^ suc k - a) % 2 ^ suc k
    → cond (ltb c 2) ((x * y % 2 ^ 64 % 2 ^ 64 + (2 ^ 64 - c % 2 ^ 64)) % 2 ^ 64) (quot_bits (suc k) a b) % 2 ^ suc k
    ≡ Manual.quotient (suc k) a b
unfolding Manual.quotient
quotient_by k x y a b c h d q o m = choose (suc k) y b c _ _ _ (2 ^ suc k) d q
    (λ e y0 c1. rw (c1, y0) (rw (mul-zero x) (o ∙ rw e)))
    (λ e y1 c0. rw (c0, y1) (rw (again (x * (2 ^ 64 - 1)) (2 ^ 64), mul_comm x (2 ^ 64 - 1)) (m ∙ sym (quotient-minus k a h) ∙ rw e)))
    (λ n p. mod-eq_of_lt (bits-lt (suc k) _) ∙ sym (quotient_usual (suc k) a b n p))

remainder_by : (k x y a b c : ℕ) → Divisor (suc k) y b → c ≡ (y + 1) % 2 ^ 64 → x % 2 ^ 64 % 2 ^ suc k ≡ a
    → cond (ltb c 2) (x * c % 2 ^ 64) (rem_bits (suc k) a b) % 2 ^ suc k ≡ Manual.remainder (suc k) a b
unfolding Manual.remainder
remainder_by k x y a b c d q r = choose (suc k) y b c _ _ _ (2 ^ suc k) d q
    (λ e y0 c1. rw c1 (rw (mul-one x) (r ∙ rw e)))
    (λ e y1 c0. rw c0 (rw (mul-zero x) (zero-mod (2 ^ suc k) ∙ sym (remainder-minus k a) ∙ rw e)))
    (λ n p. mod-eq_of_lt (bits-lt (suc k) _) ∙ sym (remainder_usual (suc k) a b n p))

-- at 64 bits, and at 32 of a number that is sign-extended
divisor64 : (b : ℕ) → b < 2 ^ 64 → Divisor 64 b b
divisor64 b h = record { zero = λ e. e; minus = λ e. e; other = λ n m. omega arith }

divisor32 : (b : ℕ) → b < 2 ^ 32 → Divisor 32 (sext 32 64 b) b
unfolding sext
divisor32 b h = go (leb (2 ^ 32 / 2) b) refl
  where
    go : (t : Bool) → leb (2 ^ 32 / 2) b ≡ t → Divisor 32 (cond t (b + (2 ^ 64 - 2 ^ 32)) b) b
    go true z =
        let l = leb-true (2 ^ 32 / 2) b z in
        record { zero = λ e. absurd (omega arith); minus = λ e. omega arith; other = λ n m. omega arith }
    go false z =
        let l = leb-false (2 ^ 32 / 2) b z in
        record { zero = λ e. e; minus = λ e. absurd (omega arith); other = λ n m. omega arith }

-- -x modulo 2^w, and a 32-bit number after its sign extension
minus64 : (x : ℕ) → x < 2 ^ 64 → (2 ^ 64 - 1) * x % 2 ^ 64 ≡ (2 ^ 64 - x) % 2 ^ 64
minus64 x h = go (ℕ_discrete x 0)
  where
    go : Dec (x ≡ 0) → (2 ^ 64 - 1) * x % 2 ^ 64 ≡ (2 ^ 64 - x) % 2 ^ 64
    go (yes e) = rw e
    go (no n) = opposite (2 ^ 64 - 1) x (omega arith) (omega arith) ∙ sym (mod-eq_of_lt (omega arith))

extended_lt : (a : ℕ) → a < 2 ^ 32 → sext 32 64 a < 2 ^ 64
unfolding sext
extended_lt a h = go (leb (2 ^ 32 / 2) a)
  where
    go : (t : Bool) → cond t (a + (2 ^ 64 - 2 ^ 32)) a < 2 ^ 64
    go true = omega arith
    go false = omega arith

extended_mod : (a : ℕ) → a < 2 ^ 32 → sext 32 64 a % 2 ^ 32 ≡ a
unfolding sext
extended_mod a h = go (leb (2 ^ 32 / 2) a)
  where
    go : (t : Bool) → cond t (a + (2 ^ 64 - 2 ^ 32)) a % 2 ^ 32 ≡ a
    go true = omega arith
    go false = omega arith

minus32 : (a : ℕ) → a < 2 ^ 32 → (2 ^ 64 - 1) * sext 32 64 a % 2 ^ 64 % 2 ^ 32 ≡ (2 ^ 32 - a) % 2 ^ 32
minus32 a h = rw (minus64 (sext 32 64 a) (extended_lt a h)) (by (sext 32 64 a) (extended_lt a h) (extended_mod a h))
  where
    by : (x : ℕ) → x < 2 ^ 64 → x % 2 ^ 32 ≡ a → (2 ^ 64 - x) % 2 ^ 64 % 2 ^ 32 ≡ (2 ^ 32 - a) % 2 ^ 32
    by x l e = omega arith

cond-lt : (t : Bool) (x y m : ℕ) → x < m → y < m → cond t x y < m
cond-lt true x y m h k = h
cond-lt false x y m h k = k

-- what RAX, or RDX, holds before the division, RCX being 1 more than R11
fit_q : Fit first_quotient
unfolding Fine Ok AllTame Tame
fit_q = omega arith

fit_r : Fit first_remainder
unfolding Fine Ok AllTame Tame
fit_r = omega arith

fit_signs : Fit sign_extend_pair
unfolding Fine Ok AllTame Tame
fit_signs = omega arith

-- R10 is x and R11 is y, whose w bits are a and b; behind the division q holds v, modulo 2^w
module _ (undefined : State → Flags) (w : Width) (s : State) (x y a b : ℕ)
    (e : s.regs R10 ≡ x) (f : s.regs R11 ≡ y) (h : x < 2 ^ 64) (k : y < 2 ^ 64)
    (ea : x % 2 ^ width_bits w ≡ a) (eb : y % 2 ^ width_bits w ≡ b) (d : Divisor (width_bits w) y b) where
  record Holding (front : List Instr) (q v : ℕ) : Type 0 where
    by : Keeping undefined (guarded_s w) (run undefined front s)
    value : by.t.regs q % 2 ^ width_bits w ≡ v
    fits : by.t.regs q < 2 ^ 64

  a_lt : a < 2 ^ width_bits w
  a_lt = rw (← ea) (mod-lt x (pow_pos (width_bits w)))

  bits64 : (w : Width) (z : ℤ) → bits_of (width_bits w) z < 2 ^ 64
  bits64 r64 z = bits-lt 64 z
  bits64 r32 z = omega (arith, bits-lt 32 z)

  holding_q : (2 ^ 64 - 1) * x % 2 ^ 64 % 2 ^ width_bits w ≡ (2 ^ width_bits w - a) % 2 ^ width_bits w
      → Holding first_quotient RAX (Manual.quotient (width_bits w) a b)
  unfolding run one past exec alu_value sext
  holding_q m =
      let c : ℕ = (y + 1) % 2 ^ 64 in
      let D : ℕ = (x * y % 2 ^ 64 % 2 ^ 64 + (2 ^ 64 - c % 2 ^ 64)) % 2 ^ 64 in
      let p = guard_s undefined w (run undefined first_quotient s) a b c (rw e ea) (rw f eb)
      (rw f (rw (mod-eq_of_lt k))) (omega arith) (neither (width_bits w) y b d) in
      let r : p.by.t.regs RAX ≡ cond (ltb c 2) D (quot_bits (width_bits w) a b) =
      p.rax ∙ rw (e, f) (rw (mod-eq_of_lt k)) in
      record {
        by = p.by;
        value = rw r (number w a_lt d m);
        fits = rw r (cond-lt (ltb c 2) D _ (2 ^ 64) (omega arith) (bits64 w _));
      }
    where
      number : (w : Width) → a < 2 ^ width_bits w → Divisor (width_bits w) y b
          → (2 ^ 64 - 1) * x % 2 ^ 64 % 2 ^ width_bits w ≡ (2 ^ width_bits w - a) % 2 ^ width_bits w
          → cond (ltb ((y + 1) % 2 ^ 64) 2) ((x * y % 2 ^ 64 % 2 ^ 64 + (2 ^ 64 - (y + 1) % 2 ^ 64 % 2 ^ 64)) % 2 ^ 64)
          (quot_bits (width_bits w) a b) % 2 ^ width_bits w
          ≡ Manual.quotient (width_bits w) a b
      number r64 h d m = quotient_by 63 x y a b _ h d refl refl m
      number r32 h d m = quotient_by 31 x y a b _ h d refl refl m

  holding_r : Holding first_remainder RDX (Manual.remainder (width_bits w) a b)
  unfolding run one past exec alu_value sext
  holding_r =
      let c : ℕ = (y + 1) % 2 ^ 64 in
      let p = guard_s undefined w (run undefined first_remainder s) a b c (rw e ea) (rw f eb)
      (rw f (rw (mod-eq_of_lt k))) (omega arith) (neither (width_bits w) y b d) in
      let r : p.by.t.regs RDX ≡ cond (ltb c 2) (x * c % 2 ^ 64) (rem_bits (width_bits w) a b) =
      p.rdx ∙ rw (e, f) (rw (mod-eq_of_lt k)) in
      record {
        by = p.by;
        value = rw r (number w d (rw (mod-eq_of_lt h) ea));
        fits = rw r (cond-lt (ltb c 2) (x * c % 2 ^ 64) _ (2 ^ 64) (omega arith) (bits64 w _));
      }
    where
      number : (w : Width) → Divisor (width_bits w) y b → x % 2 ^ 64 % 2 ^ width_bits w ≡ a
          → cond (ltb ((y + 1) % 2 ^ 64) 2) (x * ((y + 1) % 2 ^ 64) % 2 ^ 64)
          (rem_bits (width_bits w) a b) % 2 ^ width_bits w
          ≡ Manual.remainder (width_bits w) a b
      number r64 d m = remainder_by 63 x y a b _ d refl m
      number r32 d m = remainder_by 31 x y a b _ d refl m

-- 3. The eight words

module _ (undefined : State → Flags) (s : State) (a b : ℕ) (h : a < 2 ^ 64) (k : b < 2 ^ 64)
    (e : s.regs R10 ≡ a) (f : s.regs R11 ≡ b) where
  pub divu : Computed undefined (quotient_u r64) s (Manual.quotient_u 64 a b)
  unfolding run one past exec alu_value Manual.quotient_u
  divu =
      let p = guard_u undefined r64 (run undefined ones s) a b (rw e (mod-eq_of_lt h)) (rw f (mod-eq_of_lt k)) in
      around undefined ones (guarded_u r64) (mov R10 RAX ∷ []) s _ fit_ones (fit_whole RAX (omega arith)) refl refl p.by
      (whole undefined RAX p.by.t _ (p.rax ∙ rw (or_ones (s.regs RAX % 2 ^ 64) (omega arith))))

  pub divuw : Computed undefined (quotient_u r32 ++ movsxd R10 R10 ∷ []) s (word (Manual.quotient_u 32 (a % 2 ^ 32) (b % 2 ^ 32)))
  unfolding run one past exec alu_value Manual.quotient_u
  divuw =
      let p = guard_u undefined r32 (run undefined ones s) (a % 2 ^ 32) (b % 2 ^ 32) (rw e) (rw f) in
      around undefined ones (guarded_u r32) (mov R10 RAX ∷ movsxd R10 R10 ∷ []) s _ fit_ones (fit_lower RAX (omega arith)) refl refl p.by
      (lower undefined RAX p.by.t _ (rw p.rax (either (eqb (b % 2 ^ 32) 0) _ (2 ^ 32 - 1) _ (2 ^ 32)
      (rw (or_ones (s.regs RAX % 2 ^ 64) (omega arith))))))

  pub remu : Computed undefined (remainder_u r64) s (Manual.remainder_u 64 a b)
  unfolding run one past exec alu_value Manual.remainder_u
  remu =
      let p = guard_u undefined r64 (run undefined copied s) a b (rw e (mod-eq_of_lt h)) (rw f (mod-eq_of_lt k)) in
      around undefined copied (guarded_u r64) (mov R10 RDX ∷ []) s _ fit_copied (fit_whole RDX (omega arith)) refl refl p.by
      (whole undefined RDX p.by.t _ (p.rdx ∙ rw e))

  pub remuw : Computed undefined (remainder_u r32 ++ movsxd R10 R10 ∷ []) s (word (Manual.remainder_u 32 (a % 2 ^ 32) (b % 2 ^ 32)))
  unfolding run one past exec alu_value Manual.remainder_u
  remuw =
      let p = guard_u undefined r32 (run undefined copied s) (a % 2 ^ 32) (b % 2 ^ 32) (rw e) (rw f) in
      around undefined copied (guarded_u r32) (mov R10 RDX ∷ movsxd R10 R10 ∷ []) s _
      fit_copied (fit_lower RDX (omega arith)) refl refl p.by
      (lower undefined RDX p.by.t _ (rw p.rdx (either (eqb (b % 2 ^ 32) 0) _ (a % 2 ^ 32) _ (2 ^ 32)
      (rw e (sym (mod-mod a (2 ^ 32)))))))

  pub div : Computed undefined (quotient_s r64) s (Manual.quotient 64 a b)
  unfolding run one past exec
  div =
      let p = holding_q undefined r64 s a b a b e f h k (mod-eq_of_lt h) (mod-eq_of_lt k) (divisor64 b k)
      (mod-mod ((2 ^ 64 - 1) * a) (2 ^ 64) ∙ minus64 a h) in
      around undefined first_quotient (guarded_s r64) (mov R10 RAX ∷ []) s _ fit_q (fit_whole RAX (omega arith)) refl refl p.by
      (whole undefined RAX p.by.t _ (sym (mod-eq_of_lt p.fits) ∙ p.value))

  pub rem : Computed undefined (remainder_s r64) s (Manual.remainder 64 a b)
  unfolding run one past exec
  rem =
      let p = holding_r undefined r64 s a b a b e f h k (mod-eq_of_lt h) (mod-eq_of_lt k) (divisor64 b k) in
      around undefined first_remainder (guarded_s r64) (mov R10 RDX ∷ []) s _ fit_r (fit_whole RDX (omega arith)) refl refl p.by
      (whole undefined RDX p.by.t _ (sym (mod-eq_of_lt p.fits) ∙ p.value))

  -- the low halves, and the state in which they are sign-extended
  abbrev a' : ℕ
  a' = a % 2 ^ 32

  abbrev b' : ℕ
  b' = b % 2 ^ 32

  pub divw : Computed undefined (sign_extend_pair ++ (quotient_s r32 ++ movsxd R10 R10 ∷ [])) s (word (Manual.quotient 32 a' b'))
  unfolding run one past exec
  divw =
      let p = holding_q undefined r32 (run undefined sign_extend_pair s) (sext 32 64 a') (sext 32 64 b') a' b' (rw e) (rw f)
      (extended_lt a' (omega arith)) (extended_lt b' (omega arith)) (extended_mod a' (omega arith)) (extended_mod b' (omega arith))
      (divisor32 b' (omega arith)) (minus32 a' (omega arith)) in
      around undefined (sign_extend_pair ++ first_quotient) (guarded_s r32) (mov R10 RAX ∷ movsxd R10 R10 ∷ []) s _
      (fit_append sign_extend_pair first_quotient fit_signs fit_q) (fit_lower RAX (omega arith)) refl refl p.by
      (lower undefined RAX p.by.t _ (p.value ∙ sym (mod-eq_of_lt (quotient-lt 31 a' b'))))

  pub remw : Computed undefined (sign_extend_pair ++ (remainder_s r32 ++ movsxd R10 R10 ∷ [])) s (word (Manual.remainder 32 a' b'))
  unfolding run one past exec
  remw =
      let p = holding_r undefined r32 (run undefined sign_extend_pair s) (sext 32 64 a') (sext 32 64 b') a' b' (rw e) (rw f)
      (extended_lt a' (omega arith)) (extended_lt b' (omega arith)) (extended_mod a' (omega arith)) (extended_mod b' (omega arith))
      (divisor32 b' (omega arith)) in
      around undefined (sign_extend_pair ++ first_remainder) (guarded_s r32) (mov R10 RDX ∷ movsxd R10 R10 ∷ []) s _
      (fit_append sign_extend_pair first_remainder fit_signs fit_r) (fit_lower RDX (omega arith)) refl refl p.by
      (lower undefined RDX p.by.t _ (p.value ∙ sym (mod-eq_of_lt (remainder-lt 32 a' b' (omega arith)))))
