-- Turns whose block, register bytes and stack stand wherever the premises let them: what a site must fit, by one Boolean test, and that a
-- turn at such a site is laid out. Only the bytes of the three may be touched, and the numbers of a turn are the greatest of their types.
use Rattle.std.proofs.Common.{Bool, false, not, true, ◌&&◌, ◌||◌, List, ◌≡◌, refl, ℕ, ◌+◌, ◌-◌, ◌%◌, ◌^◌, ◌≤◌, ◌<◌, arith}
use Rattle.std.proofs.Common.{eqb, leb, length, replicate}
use Rattle.agreement.specs.Riscv.Code.{Code}
use Rattle.agreement.specs.Statement.Machine.{Turn}
use Rattle.agreement.specs.Statement.Premises.{Apart, Layout}
use Rattle.agreement.specs.X86.State.{Flags, State}
use Rattle.agreement.proofs.Checks.Example.{range}
use Rattle.agreement.proofs.Laws.Tests.{eqb-true, leb-true}
use Rattle.agreement.proofs.Theorem.OneTurn.{between, or_left, or_right}

-- 1. A site, and a turn there

pub record Site : Type 0 where
  pub limit : ℕ
  pub size : ℕ
  pub room : ℕ
  pub block : ℕ
  pub base : ℕ
  pub sp : ℕ

abbrev pub all_but_zf : Flags
all_but_zf = record { cf = true; pf = true; af = true; zf = false; sf = true; of = true }

-- which addresses may be read and written: the register bytes, and the stack from 64 below sp to 8 above it
unfoldable pub usable : ℕ → ℕ → ℕ → Bool
usable base sp x = range base 256 x || range (sp - 64) 72 x

-- nine halfwords more than the run has were asked for, and are not there
abbrev pub fetched : List ℕ → ℕ
fetched hs = length hs + 9

-- the sixteen registers at entry are 2^64 - 1, all flags but ZF are set, a flag that is left undefined becomes what it was not, no byte of
-- memory is
-- in a number below 2^64, and the lent output is not of zeros
abbrev pub turn_at : Site → Code → List ℕ → (State → State) → Turn
turn_at s code hs helper = record {
  limit = s.limit;
  made = hs;
  code = code;
  reach = fetched hs;
  helper16 = 2 ^ 64 - 1;
  helper_mem = 2 ^ 64 - 1;
  output = replicate s.room 1;
  block = s.block;
  base = s.base;
  sp = s.sp;
  others = λ k. 2 ^ 64 - 1;
  flags = all_but_zf;
  rest = λ a. 2 ^ 64 + 1 + a;
  ok = record { fetch = range s.block s.size; read = usable s.base s.sp; write = usable s.base s.sp };
  undefined = λ u. record {
    cf = not u.flags.cf;
    pf = not u.flags.pf;
    af = not u.flags.af;
    zf = not u.flags.zf;
    sf = not u.flags.sf;
    of = not u.flags.of;
  };
  helper = helper;
}

-- 2. What a site must fit, as a test

-- n bytes from a stand below the m bytes from c, or above them
abbrev pub beside : ℕ → ℕ → ℕ → ℕ → Bool
beside a n c m = leb (a + n) c || leb (c + m) a

unfoldable pub fits : Site → Bool
fits s =
    (leb (s.base + 256) (2 ^ 64) && (leb 64 s.sp && (leb (s.sp + 8) (2 ^ 64) && leb (s.block + s.size) (2 ^ 64))))
    && ((beside s.block s.size s.base 256 && (beside s.block s.size (s.sp - 64) 72 && beside s.base 256 (s.sp - 64) 72))
    && eqb (s.sp % 16) 8)

pub both : (a b : Bool) → (a && b) ≡ true → (a ≡ true) × (b ≡ true)
both true b e = (refl, e)
both false b e = absurd (let z : ◌≡◌ {A = ℕ} 0 1 = cc in omega arith)

beside_lem : (a n c m : ℕ) → beside a n c m ≡ true → Apart a n c m
beside_lem a n c m h i j k l e = go (leb (a + n) c) refl h
  where
    go : (b : Bool) → leb (a + n) c ≡ b → (b || leb (c + m) a) ≡ true → ⊥
    go true p q = let z = leb-true (a + n) c p in omega (arith, z, e, k, l)
    go false p q = let z = leb-true (c + m) a q in omega (arith, z, e, k, l)

pub record Fits (s : Site) : Type 0 where
  pub base_fits : s.base + 256 ≤ 2 ^ 64
  pub stack_low : 64 ≤ s.sp
  pub stack_fits : s.sp + 8 ≤ 2 ^ 64
  pub block_fits : s.block + s.size ≤ 2 ^ 64
  pub block_base : Apart s.block s.size s.base 256
  pub block_stack : Apart s.block s.size (s.sp - 64) 72
  pub base_stack : Apart s.base 256 (s.sp - 64) 72
  pub aligned : s.sp % 16 ≡ 8

pub fits_lem : (s : Site) → fits s ≡ true → Fits s
unfolding fits
fits_lem s h =
    let p = both (leb (s.base + 256) (2 ^ 64) && (leb 64 s.sp && (leb (s.sp + 8) (2 ^ 64) && leb (s.block + s.size) (2 ^ 64)))) _ h in
    let p1 = both (leb (s.base + 256) (2 ^ 64)) _ p.0 in
    let p2 = both (leb 64 s.sp) _ p1.1 in
    let p3 = both (leb (s.sp + 8) (2 ^ 64)) _ p2.1 in
    let q = both (beside s.block s.size s.base 256 && (beside s.block s.size (s.sp - 64) 72 && beside s.base 256 (s.sp - 64) 72)) _ p.1 in
    let q1 = both (beside s.block s.size s.base 256) _ q.0 in
    let q2 = both (beside s.block s.size (s.sp - 64) 72) _ q1.1 in
    record {
      base_fits = leb-true _ _ p1.0;
      stack_low = leb-true _ _ p2.0;
      stack_fits = leb-true _ _ p3.0;
      block_fits = leb-true _ _ p3.1;
      block_base = beside_lem _ _ _ _ q1.0;
      block_stack = beside_lem _ _ _ _ q2.0;
      base_stack = beside_lem _ _ _ _ q2.1;
      aligned = eqb-true _ _ q.1;
    }

-- 3. A turn at such a site is laid out, if its block is no longer than the site says

pub range_in : (a n i : ℕ) → i < n → range a n (a + i) ≡ true
unfolding range
range_in a n i l = between a (a + n) (a + i) (omega arith) (omega arith)

base_may : (base sp i : ℕ) → i < 256 → usable base sp (base + i) ≡ true
unfolding usable
base_may base sp i l = or_left (range base 256 (base + i)) (range (sp - 64) 72 (base + i)) (range_in base 256 i l)

stack_may : (base sp i : ℕ) → i < 72 → usable base sp (sp - 64 + i) ≡ true
unfolding usable
stack_may base sp i l = or_right (range base 256 (sp - 64 + i)) (range (sp - 64) 72 (sp - 64 + i)) (range_in (sp - 64) 72 i l)

pub laid_out : (s : Site) (g : Code) (hs : List ℕ) (h : State → State) (k : ℕ) → Fits s → k ≡ s.size → Layout (turn_at s g hs h) k
laid_out s g hs h k f e = record {
  base_fits = omega (arith, f.base_fits);
  stack_low = omega (arith, f.stack_low);
  stack_fits = omega (arith, f.stack_fits);
  block_fits = omega (arith, f.block_fits, e);
  block_base_apart = λ i j a b. f.block_base i j (omega (arith, a, e)) (omega (arith, b));
  block_stack_apart = λ i j a b. f.block_stack i j (omega (arith, a, e)) (omega (arith, b));
  base_stack_apart = λ i j a b. f.base_stack i j (omega (arith, a)) (omega (arith, b));
  block_fetch = λ i a. range_in s.block s.size i (omega (arith, a, e));
  base_read = λ i a. base_may s.base s.sp i (omega (arith, a));
  base_write = λ i a. base_may s.base s.sp i (omega (arith, a));
  stack_read = λ i a. stack_may s.base s.sp i (omega (arith, a));
  stack_write = λ i a. stack_may s.base s.sp i (omega (arith, a));
  aligned = omega (arith, f.aligned);
}
