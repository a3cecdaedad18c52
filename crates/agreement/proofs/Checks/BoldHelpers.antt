-- Helpers that keep no more than is asked of them: they change every byte of memory but those of slot x0, of the frame and of the block,
-- and every register that a callee need not keep; and in a state in which the block's CALL does not enter them they keep nothing.
use Rattle.std.proofs.Common.{Bool, false, true, ◌||◌, cond, List, ◌≡◌, refl, ℕ, ◌+◌, ◌-◌, ◌%◌, ◌^◌, ◌<◌}
use Rattle.std.proofs.Common.{arith, eqb}
use Rattle.agreement.specs.Riscv.Code.{Code}
use Rattle.agreement.specs.Statement.Premises.{Keeps}
use Rattle.agreement.specs.X86.Form.{R12, R13, R14, R15, RAX, RBP, RBX, RDX, RSP}
use Rattle.agreement.specs.X86.Memory.{Memory, at, read}
use Rattle.agreement.specs.X86.State.{State}
use Rattle.agreement.proofs.Checks.Example.{clear, range}
use Rattle.agreement.proofs.Checks.Sites.{Site, all_but_zf, range_in, turn_at}
use Rattle.agreement.proofs.Theorem.OneTurn.{or_left, or_right}

-- the bytes of the frame and of the block as before, in numbers that are 256 more; slot x0 zero; all others 255
unfoldable pub overrun : Site → Memory → Memory
overrun s m x = cond (range (s.sp - 48) 56 x || range s.block s.size x) (m x + 256) (cond (range s.base 8 x) 256 255)

abbrev is_kept : ℕ → Bool
is_kept k = eqb k RBX || (eqb k RBP || (eqb k R12 || (eqb k R13 || (eqb k R14 || eqb k R15))))

-- back with RAX as given, RDX 2^64 - 1, all registers that need not be kept 2^64
unfoldable pub bold : Site → ℕ → State → State
bold s rax u = record {
  regs = λ k.
      cond (eqb k RSP) (at (u.regs RSP) 8) (cond (eqb k RAX) rax (cond (eqb k RDX) (2 ^ 64 - 1) (cond (is_kept k) (u.regs k) (2 ^ 64))));
  flags = all_but_zf;
  rip = read 8 u.mem (u.regs RSP);
  mem = overrun s u.mem;
}

pub bold_keeps : (s : Site) (g : Code) (hs : List ℕ) (h : State → State) (rax k : ℕ) (u : State)
    → rax < 2 ^ 64 → k ≡ s.size → read 8 (overrun s u.mem) s.base ≡ 0 → Keeps (turn_at s g hs h) k u (bold s rax u)
unfolding bold
bold_keeps s g hs h rax k u l e z = record {
  rip = refl;
  rsp = refl;
  rbx = refl;
  rbp = refl;
  r12 = refl;
  r13 = refl;
  r14 = refl;
  r15 = refl;
  x0 = z;
  frame = λ j a. kept (s.sp - 48 + j) (or_left _ _ (range_in (s.sp - 48) 56 j (omega (arith, a))));
  block = λ i a. kept (s.block + i) (or_right (range (s.sp - 48) 56 (s.block + i)) _ (range_in s.block s.size i (omega (arith, a, e))));
  rax = omega (arith, l);
  rdx = omega arith;
}
  where
    kept : (x : ℕ) → (range (s.sp - 48) 56 x || range s.block s.size x) ≡ true → overrun s u.mem x % 256 ≡ u.mem x % 256
    kept x y = unfold overrun in rw y (omega arith)

-- so is this one in the states that the test finds, and elsewhere it goes astray
abbrev astray : State
astray = record { regs = λ k. 2 ^ 64; flags = clear; rip = 0; mem = λ x. 1 }

unfoldable pub wild : (State → Bool) → Site → ℕ → State → State
wild good s rax u = elim (good u) [ true ↦ bold s rax u | false ↦ astray ]

pub wild_is : (good : State → Bool) (s : Site) (rax : ℕ) (u : State) → good u ≡ true → wild good s rax u ≡ bold s rax u
unfolding wild
wild_is good s rax u e = rw (e, wild) refl
