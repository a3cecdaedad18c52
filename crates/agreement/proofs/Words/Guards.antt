-- A division behind a test of its divisor: the test, a jump over the division or not, and what RAX and RDX hold behind it.
use Rattle.std.proofs.Common.{◌||◌, cond, false, true, List, [], ◌++◌, ◌∷◌, ◌≢◌, ◌∙◌, ◌≡◌, ap, refl, ◌%◌, ◌*◌, ◌+◌, ◌-◌, ◌/◌, ◌<◌, ◌^◌, ◌≤◌}
use Rattle.std.proofs.Common.{suc, ℕ, div-le_self, mod-eq_of_lt, mod-lt, zero-mul, arith, eqb, leb, ltb, length, pow_pos}
use native.Mathlib.Decide.{dec_lt, ℕ_discrete}
use native.Mathlib.Nat.{zero-mod}
use lib.Bits.{and_self, xor_self}
use lib.Signed.{mag, quot_z, rem_z}
use Rattle.agreement.specs.Riscv.Instruction.{bits_of, signed}
use Rattle.agreement.specs.Translation.Emit.{division_s, division_u, skip_if}
use Rattle.agreement.specs.X86.Encode.{bytes, encode}
use Rattle.agreement.specs.X86.Execute.{division_faults, exec, faults, width_bits}
use Rattle.agreement.specs.X86.Flags.{alu_flags, alu_value, as_signed, holds, logic_flags, negative, sext, sub_flags}
use Rattle.agreement.specs.X86.Form.Alu.{and, cmp, xor}
use Rattle.agreement.specs.X86.Form.{Cc, Instr, MulDiv, Ok, R10, R11, RAX, RBX, RCX, RDX, Width}
use Rattle.agreement.specs.X86.Form.Cc.{B, E}
use Rattle.agreement.specs.X86.Form.Instr.{alu, alu_imm8, cqo, jcc, mov, mul_div}
use Rattle.agreement.specs.X86.Form.MulDiv.{sdiv, smul, udiv, umul}
use Rattle.agreement.specs.X86.Form.Width.{r32, r64}
use Rattle.agreement.specs.X86.Memory.{at}
use Rattle.agreement.specs.X86.State.{Flags, State}
use Rattle.agreement.specs.X86.Step.{past}
use Rattle.agreement.proofs.Host.Jumpless.{is_jump}
use Rattle.agreement.proofs.Host.Fetching.{one}
use Rattle.agreement.proofs.Host.Paths.{Passes, path_append, path_straight}
use Rattle.agreement.proofs.Host.Paths.Path.{arrived, onward}
use Rattle.agreement.proofs.Host.Straight.{AllOk, Fine, run}
use Rattle.agreement.proofs.Laws.Signed.{as_bits_lem, as_signed_lem, extended, mag_signed, quot_fits, signed-minus, signed-zero}
use Rattle.agreement.proofs.Laws.Tests.{eqb_no, eqb_yes, leb_no, leb_yes}
use Rattle.agreement.proofs.Laws.Width.{half}
use Rattle.agreement.proofs.Words.Fit.{Leads, Sound}
use Rattle.agreement.proofs.Words.Tame.{AllTame, Tame}

-- 1. One step of a jump or a division

not_jump : (c : Cc) (d : ℕ) → is_jump (jcc c d) ≡ false → ⊥
unfolding is_jump
not_jump c d e = let z : ◌≡◌ {A = ℕ} 0 1 = cc in omega arith

leap : (undefined : State → Flags) (c : Cc) (is : List Instr) (s : State) → holds c s.flags ≡ true
    → Passes undefined (jcc c (length (bytes is))) s is
unfolding one past exec faults
leap undefined c is s h = record {
  no_call = λ e. let z : ◌≡◌ {A = ℕ} 0 1 = cc in omega arith;
  no_ret = λ e. let z : ◌≡◌ {A = ℕ} 0 1 = cc in omega arith;
  sound = refl;
  rip = rw h (omega arith);
  none = λ e. absurd (not_jump c (length (bytes is)) e);
}

stay : (undefined : State → Flags) (c : Cc) (d : ℕ) (s : State) → holds c s.flags ≡ false → Passes undefined (jcc c d) s []
unfolding one past exec faults
stay undefined c d s h = record {
  no_call = λ e. let z : ◌≡◌ {A = ℕ} 0 1 = cc in omega arith;
  no_ret = λ e. let z : ◌≡◌ {A = ℕ} 0 1 = cc in omega arith;
  sound = refl;
  rip = rw h;
  none = λ e. refl;
}

divides : (undefined : State → Flags) (w : Width) (op : MulDiv) (r : ℕ) (s : State) → faults (mul_div w op r) s ≡ false
    → Passes undefined (mul_div w op r) s []
divides undefined w op r s h = record {
  no_call = λ e. let z : ◌≡◌ {A = ℕ} 0 1 = cc in omega arith;
  no_ret = λ e. let z : ◌≡◌ {A = ℕ} 0 1 = cc in omega arith;
  sound = h;
  rip = goes op ∙ ap (at s.rip) (omega arith);
  none = λ e. refl;
}
  where
    goes : (op : MulDiv) → (one undefined (mul_div w op r) s).rip ≡ at s.rip (length (encode (mul_div w op r)))
    goes umul = unfold one past exec in refl
    goes smul = unfold one past exec in refl
    goes udiv = unfold one past exec in refl
    goes sdiv = unfold one past exec in refl

-- 2. A test, and a division that is jumped over where its condition c holds

module _ (undefined : State → Flags) (test : Instr) (c : Cc) (prep : List Instr) (w : Width) (op : MulDiv) where
  abbrev division : List Instr
  division = prep ++ mul_div w op R11 ∷ []

  abbrev guard : Instr
  guard = jcc c (length (bytes division))

  -- behind the jump, and behind the division
  abbrev over : State → State
  over s = one undefined guard (one undefined test s)

  abbrev through : State → State
  through s = one undefined (mul_div w op R11) (run undefined prep (over s))

  jumped : (s : State) → Sound (test ∷ skip_if c division) → Fine (test ∷ []) → division ≡ division ++ []
      → holds c (one undefined test s).flags ≡ true → Leads undefined (test ∷ skip_if c division) s 2 (over s)
  unfolding run
  jumped s sd f z h = record {
    sound = sd;
    path = path_append undefined (path_straight undefined (test ∷ []) s f)
        (onward {xs = division} {ys = []} (leap undefined c division (one undefined test s) h) z arrived);
  }

  divided : (s : State) → Sound (test ∷ skip_if c division) → Fine (test ∷ []) → Fine prep
      → holds c (one undefined test s).flags ≡ false → faults (mul_div w op R11) (run undefined prep (over s)) ≡ false
      → Leads undefined (test ∷ skip_if c division) s (1 + suc (length prep + 1)) (through s)
  unfolding run
  divided s sd f g h k = record {
    sound = sd;
    path = path_append undefined (path_straight undefined (test ∷ []) s f)
        (onward {xs = []} {ys = division} (stay undefined c (length (bytes division)) (one undefined test s) h) refl
        (path_append undefined (path_straight undefined prep (over s) g)
        (onward {xs = []} {ys = []} (divides undefined w op R11 (run undefined prep (over s)) k) refl arrived)));
  }

-- code that leaves RBX and memory as they were; what RAX and RDX hold behind it
pub record Keeping (undefined : State → Flags) (is : List Instr) (s : State) : Type 0 where
  pub n : ℕ
  pub t : State
  pub leads : Leads undefined is s n t
  pub rbx : t.regs RBX ≡ s.regs RBX
  pub same : t.mem ≡ s.mem

pub record InPair (undefined : State → Flags) (is : List Instr) (s : State) (low high : ℕ) : Type 0 where
  pub by : Keeping undefined is s
  pub rax : by.t.regs RAX ≡ low
  pub rdx : by.t.regs RDX ≡ high

-- 3. Unsigned

abbrev test_u : Width → Instr
test_u w = alu w and R11 R11

abbrev prep_u : List Instr
prep_u = mov RAX R10 ∷ alu r32 xor RDX RDX ∷ []

abbrev pub guarded_u : Width → List Instr
guarded_u w = test_u w ∷ skip_if E (division_u w)

sound_u : (w : Width) → Sound (guarded_u w)
unfolding AllOk Ok AllTame Tame
sound_u r64 = omega arith
sound_u r32 = omega arith

fine_u : (w : Width) → Fine (test_u w ∷ [])
unfolding Fine Ok
fine_u w = omega arith

fine_prep_u : Fine prep_u
unfolding Fine Ok
fine_prep_u = omega arith

-- AND of R11 with itself tests it
test_u_lem : (w x : ℕ) (u : Flags) → holds E (alu_flags w and x x u) ≡ eqb x 0
unfolding holds alu_flags logic_flags
test_u_lem w x u = rw (and_self x)

nothing_above : (M a : ℕ) → 0 % M * M + a ≡ a
nothing_above M a = rw (zero-mod M) (rw (zero-mul M) (omega arith))

calm_u : (M a b : ℕ) → a < M → b ≢ 0 → eqb b 0 || leb M (a / b) ≡ false
calm_u M a b h n = rw (eqb_no b 0 n) (leb_no M (a / b) (omega (arith, div-le_self a b)))

module _ (undefined : State → Flags) where
  pub guard_u : (w : Width) (s : State) (a b : ℕ) → s.regs R10 % 2 ^ width_bits w ≡ a → s.regs R11 % 2 ^ width_bits w ≡ b
      → InPair undefined (guarded_u w) s (cond (eqb b 0) (s.regs RAX) (a / b)) (cond (eqb b 0) (s.regs RDX) (a % b))
  unfolding run one past exec alu_value faults division_faults
  guard_u w s a b e f = go (ℕ_discrete b 0)
    where
      M : ℕ
      M = 2 ^ width_bits w

      -- what EDX held
      y : ℕ
      y = s.regs RDX % 2 ^ 32

      a_lt : a < M
      a_lt = rw (← e) (mod-lt (s.regs R10) (pow_pos (width_bits w)))

      b_mod : b % M ≡ b
      b_mod = mod-eq_of_lt (rw (← f) (mod-lt (s.regs R11) (pow_pos (width_bits w))))

      tested : (u : Flags) → holds E (alu_flags (width_bits w) and (s.regs R11 % M) (s.regs R11 % M) u) ≡ eqb b 0
      tested u = test_u_lem (width_bits w) (s.regs R11 % M) u ∙ rw f

      go : Dec (b ≡ 0) → InPair undefined (guarded_u w) s (cond (eqb b 0) (s.regs RAX) (a / b)) (cond (eqb b 0) (s.regs RDX) (a % b))
      go (yes z) = rw (eqb_yes b 0 z) (record {
        by = record {
          n = 2;
          t = over undefined (test_u w) E prep_u w udiv s;
          leads = jumped undefined (test_u w) E prep_u w udiv s (sound_u w) (fine_u w) refl (tested _ ∙ eqb_yes b 0 z);
          rbx = refl;
          same = refl;
        };
        rax = refl;
        rdx = refl;
      })
      go (no z) = rw (eqb_no b 0 z) (record {
        by = record {
          n = 5;
          t = through undefined (test_u w) E prep_u w udiv s;
          leads = divided undefined (test_u w) E prep_u w udiv s (sound_u w) (fine_u w) fine_prep_u (tested _ ∙ eqb_no b 0 z)
              (rw (e, f) (rw (and_self b, xor_self y) (rw (b_mod, nothing_above M a) (calm_u M a b a_lt z))));
          rbx = refl;
          same = refl;
        };
        rax = rw (e, f) (rw (and_self b, xor_self y) (rw (b_mod, nothing_above M a)));
        rdx = rw (e, f) (rw (and_self b, xor_self y) (rw (b_mod, nothing_above M a)));
      })

-- 4. Signed

abbrev prep_s : Width → List Instr
prep_s w = mov RAX R10 ∷ cqo w ∷ []

abbrev test_s : Instr
test_s = alu_imm8 cmp RCX 2

abbrev pub guarded_s : Width → List Instr
guarded_s w = test_s ∷ skip_if B (division_s w)

sound_s : (w : Width) → Sound (guarded_s w)
unfolding AllOk Ok AllTame Tame
sound_s r64 = omega arith
sound_s r32 = omega arith

fine_s : Fine (test_s ∷ [])
unfolding Fine Ok
fine_s = omega arith

fine_prep_s : (w : Width) → Fine (prep_s w)
unfolding Fine Ok
fine_prep_s w = omega arith

-- what the division leaves
abbrev pub quot_bits : ℕ → ℕ → ℕ → ℕ
quot_bits w a b = bits_of w (quot_z (signed w a) (signed w b))

abbrev pub rem_bits : ℕ → ℕ → ℕ → ℕ
rem_bits w a b = bits_of w (rem_z (signed w a) (signed w b))

-- the numbers of w bits, w being 64 or 32: the dividend that CQO completes, and a quotient that fits
completed : (w : Width) (a : ℕ) → a < 2 ^ width_bits w
    → as_signed (2 * width_bits w) (cond (negative (width_bits w) a) (2 ^ width_bits w - 1) 0 % 2 ^ width_bits w * 2 ^ width_bits w + a)
    ≡ signed (width_bits w) a
completed r64 a h = extended 63 a h
completed r32 a h = extended 31 a h

calm_s : (w : Width) (a b : ℕ) → a < 2 ^ width_bits w → b < 2 ^ width_bits w → b ≢ 0 → b ≢ 2 ^ width_bits w - 1
    → eqb b 0 || leb (2 ^ width_bits w / 2) (mag (quot_z (signed (width_bits w) a) (signed (width_bits w) b))) ≡ false
calm_s w a b h l n m = rw (eqb_no b 0 n) (leb_no (2 ^ width_bits w / 2) _ (fits w h l m))
  where
    by : (k : ℕ) → a < 2 ^ suc k → b < 2 ^ suc k → b ≢ 2 ^ suc k - 1 → mag (quot_z (signed (suc k) a) (signed (suc k) b)) < half (suc k)
    by k h l m =
        quot_fits (half (suc k)) (signed (suc k) a) (signed (suc k) b) (mag_signed k a h) (signed-zero k b n) (signed-minus k b l m)

    fits : (w : Width) → a < 2 ^ width_bits w → b < 2 ^ width_bits w → b ≢ 2 ^ width_bits w - 1
        → mag (quot_z (signed (width_bits w) a) (signed (width_bits w) b)) < 2 ^ width_bits w / 2
    fits r64 h l m = by 63 h l m
    fits r32 h l m = by 31 h l m

-- RCX below 2, or not
test_s_lem : (c : ℕ) → c < 2 ^ 64 → (u : Flags) → holds B (alu_flags 64 cmp (c % 2 ^ 64) (sext 8 64 2) u) ≡ ltb c 2
unfolding holds alu_flags sub_flags sext
test_s_lem c h u = rw (mod-eq_of_lt h)

module _ (undefined : State → Flags) where
  pub guard_s : (w : Width) (s : State) (a b c : ℕ) → s.regs R10 % 2 ^ width_bits w ≡ a → s.regs R11 % 2 ^ width_bits w ≡ b
      → s.regs RCX ≡ c → c < 2 ^ 64 → (2 ≤ c → (b ≢ 0) × (b ≢ 2 ^ width_bits w - 1))
      → InPair undefined (guarded_s w) s
      (cond (ltb c 2) (s.regs RAX) (quot_bits (width_bits w) a b))
      (cond (ltb c 2) (s.regs RDX) (rem_bits (width_bits w) a b))
  unfolding run one past exec alu_value faults division_faults
  guard_s w s a b c e f g l n = go (dec_lt c 2)
    where
      v : ℕ
      v = width_bits w

      M : ℕ
      M = 2 ^ v

      a_lt : a < M
      a_lt = rw (← e) (mod-lt (s.regs R10) (pow_pos v))

      b_lt : b < M
      b_lt = rw (← f) (mod-lt (s.regs R11) (pow_pos v))

      tested : (u : Flags) → holds B (alu_flags 64 cmp (s.regs RCX % 2 ^ 64) (sext 8 64 2) u) ≡ ltb c 2
      tested u = rw g (test_s_lem c l u)

      go : Dec (c < 2) → InPair undefined (guarded_s w) s
          (cond (ltb c 2) (s.regs RAX) (quot_bits v a b))
          (cond (ltb c 2) (s.regs RDX) (rem_bits v a b))
      go (yes z) = rw (leb_yes (suc c) 2 z) (record {
        by = record {
          n = 2;
          t = over undefined test_s B (prep_s w) w sdiv s;
          leads = jumped undefined test_s B (prep_s w) w sdiv s (sound_s w) fine_s refl (tested _ ∙ leb_yes (suc c) 2 z);
          rbx = refl;
          same = refl;
        };
        rax = refl;
        rdx = refl;
      })
      go (no z) =
          let m = n (omega arith) in
          rw (leb_no (suc c) 2 (omega arith)) (record {
            by = record {
              n = 5;
              t = through undefined test_s B (prep_s w) w sdiv s;
              leads = divided undefined test_s B (prep_s w) w sdiv s (sound_s w) fine_s (fine_prep_s w)
                  (tested _ ∙ leb_no (suc c) 2 (omega arith))
                  (rw (e, f) (rw (completed w a a_lt, as_signed_lem v b) (calm_s w a b a_lt b_lt m.0 m.1)));
              rbx = refl;
              same = refl;
            };
            rax = rw (e, f) (rw (completed w a a_lt, as_signed_lem v b) (as_bits_lem v _));
            rdx = rw (e, f) (rw (completed w a a_lt, as_signed_lem v b) (as_bits_lem v _));
          })
