-- The opening and the closing: what they leave in registers and on the stack, what they write, and that they may.
-- p is 64 below the entry stack pointer: the saved registers stand at p + 56 down to p + 16, the return address at p + 64.
use Rattle.std.proofs.Common.{Bool, true, List, [], ◌++◌, ◌∷◌, ◌≢◌, ◌∙◌, ◌≡◌, refl, ◌%◌, ◌+◌, ◌-◌, ◌<◌, ◌^◌, ◌≤◌, ℕ, mod-eq_of_lt, arith}
use Rattle.std.proofs.Common.{leb}
use Rattle.agreement.specs.Translation.Emit.{closing, opening}
use Rattle.agreement.specs.X86.Execute.{accesses, exec}
use Rattle.agreement.specs.X86.Flags.{alu_value, sext}
use Rattle.agreement.specs.X86.Form.{Instr, R12, R13, R14, R15, R8, R9, RAX, RBP, RBX, RCX, RDI, RDX, RSI, RSP}
use Rattle.agreement.specs.X86.Form.Alu.{sub}
use Rattle.agreement.specs.X86.Form.Instr.{alu_imm8, mov, push}
use Rattle.agreement.specs.X86.Memory.{Memory, at, read, span, write}
use Rattle.agreement.specs.X86.State.{Flags, Permissions, State}
use Rattle.agreement.specs.X86.Step.{all, past}
use Rattle.agreement.proofs.Host.Fetching.{one}
use Rattle.agreement.proofs.Host.Memory.{read_other, read-write, write_out}
use Rattle.agreement.proofs.Host.Straight.{Kept, Safe, all_append, all-span, run, safe_append, trace}
use Rattle.agreement.proofs.Laws.Tests.{leb-true}

-- 1. Eight bytes of the stack

pub above_read : (m : Memory) (a v x : ℕ) → a + 8 ≤ x → x + 8 ≤ 2 ^ 64 → read 8 (write 8 m a v) x ≡ read 8 m x
above_read m a v x h k = read_other 8 8 m a v x (omega arith) (omega arith) (λ i j f g. omega arith)

pub at_read : (m : Memory) (a v : ℕ) → a + 8 ≤ 2 ^ 64 → v < 2 ^ 64 → read 8 (write 8 m a v) a ≡ v
at_read m a v h k = rw (read-write 8 m a v (omega arith) (omega arith)) (mod-eq_of_lt k)

-- side conditions in computed form, so that simp closes them at numerals
frame_other : (m : Memory) (p i j v : ℕ) → p + 72 ≤ 2 ^ 64 → leb (i + 8) j ≡ true → leb j 64 ≡ true
    → read 8 (write 8 m (p + i) v) (p + j) ≡ read 8 m (p + j)
frame_other m p i j v f a c = above_read m (p + i) v (p + j) (omega (arith, leb-true (i + 8) j a)) (omega (arith, leb-true j 64 c))

frame_same : (m : Memory) (p i v : ℕ) → p + 72 ≤ 2 ^ 64 → leb i 64 ≡ true → v < 2 ^ 64 → read 8 (write 8 m (p + i) v) (p + i) ≡ v
frame_same m p i v f a l = at_read m (p + i) v (omega (arith, leb-true i 64 a)) l

pub stack_all : (p : ℕ) → p + 72 ≤ 2 ^ 64 → (P : ℕ → Bool) (lo : ℕ) → ((j : ℕ) → lo ≤ j → j < 72 → P (p + j) ≡ true)
    → (k : ℕ) → lo ≤ k → k + 8 ≤ 72 → all P (span 8 (p + k)) ≡ true
stack_all p fits P lo o k h l = all-span P 8 (p + k) (omega arith) (λ i j.
    let z : at (p + k) i ≡ p + (k + i) = omega arith in rw z (o (k + i) (omega arith) (omega arith)))

-- the stack pointer through six pushes, and through seven pops
record Pushed (p : ℕ) : Type 0 where
  p56 : at (p + 64) (2 ^ 64 - 8) ≡ p + 56
  p48 : at (p + 56) (2 ^ 64 - 8) ≡ p + 48
  p40 : at (p + 48) (2 ^ 64 - 8) ≡ p + 40
  p32 : at (p + 40) (2 ^ 64 - 8) ≡ p + 32
  p24 : at (p + 32) (2 ^ 64 - 8) ≡ p + 24
  p16 : at (p + 24) (2 ^ 64 - 8) ≡ p + 16

pushed : (p : ℕ) → p + 72 ≤ 2 ^ 64 → Pushed p
pushed p f = record { p56 = omega arith; p48 = omega arith; p40 = omega arith; p32 = omega arith; p24 = omega arith; p16 = omega arith }

record Popped (p : ℕ) : Type 0 where
  low : (p + 8) % 2 ^ 64 ≡ p + 8
  p16 : at (p + 8) 8 ≡ p + 16
  p24 : at (p + 16) 8 ≡ p + 24
  p32 : at (p + 24) 8 ≡ p + 32
  p40 : at (p + 32) 8 ≡ p + 40
  p48 : at (p + 40) 8 ≡ p + 48
  p56 : at (p + 48) 8 ≡ p + 56
  p64 : at (p + 56) 8 ≡ p + 64

popped : (p : ℕ) → p + 72 ≤ 2 ^ 64 → Popped p
popped p f = record {
  low = omega arith;
  p16 = omega arith;
  p24 = omega arith;
  p32 = omega arith;
  p40 = omega arith;
  p48 = omega arith;
  p56 = omega arith;
  p64 = omega arith;
}

-- 2. The opening

-- memory after it
unfoldable pub frame : State → ℕ → Memory
frame s p =
    write 8 (write 8 (write 8 (write 8 (write 8 (write 8 s.mem
    (p + 56) (s.regs RBX)) (p + 48) (s.regs RBP)) (p + 40) (s.regs R12))
    (p + 32) (s.regs R13)) (p + 24) (s.regs R14)) (p + 16) (s.regs R15)

-- what the frame holds; the registers at entry are below 2^64
pub record Framed (s : State) (p : ℕ) (m : Memory) : Type 0 where
  pub f64 : read 8 m (p + 64) ≡ read 8 s.mem (p + 64)
  pub f56 : read 8 m (p + 56) ≡ s.regs RBX
  pub f48 : read 8 m (p + 48) ≡ s.regs RBP
  pub f40 : read 8 m (p + 40) ≡ s.regs R12
  pub f32 : read 8 m (p + 32) ≡ s.regs R13
  pub f24 : read 8 m (p + 24) ≡ s.regs R14
  pub f16 : read 8 m (p + 16) ≡ s.regs R15

-- a frame whose eight-byte cells from p + 16 to p + 64 read the same is a frame
pub framed_same : (s : State) (p : ℕ) (m m' : Memory)
    → ((k : ℕ) → 16 ≤ k → k ≤ 64 → read 8 m' (p + k) ≡ read 8 m (p + k)) → Framed s p m → Framed s p m'
framed_same s p m m' e h = record {
  f64 = e 64 (omega arith) (omega arith) ∙ h.f64;
  f56 = e 56 (omega arith) (omega arith) ∙ h.f56;
  f48 = e 48 (omega arith) (omega arith) ∙ h.f48;
  f40 = e 40 (omega arith) (omega arith) ∙ h.f40;
  f32 = e 32 (omega arith) (omega arith) ∙ h.f32;
  f24 = e 24 (omega arith) (omega arith) ∙ h.f24;
  f16 = e 16 (omega arith) (omega arith) ∙ h.f16;
}

pub framed : (s : State) (p : ℕ) → p + 72 ≤ 2 ^ 64 → ((k : ℕ) → k < 16 → s.regs k < 2 ^ 64) → Framed s p (frame s p)
unfolding frame
framed s p fits w =
    let h3 : s.regs RBX < 2 ^ 64 = w RBX (omega arith) in
    let h5 : s.regs RBP < 2 ^ 64 = w RBP (omega arith) in
    let h12 : s.regs R12 < 2 ^ 64 = w R12 (omega arith) in
    let h13 : s.regs R13 < 2 ^ 64 = w R13 (omega arith) in
    let h14 : s.regs R14 < 2 ^ 64 = w R14 (omega arith) in
    let h15 : s.regs R15 < 2 ^ 64 = w R15 (omega arith) in
    record {
      f64 = simp frame_other;
      f56 = simp (frame_other, frame_same);
      f48 = simp (frame_other, frame_same);
      f40 = simp (frame_other, frame_same);
      f32 = simp (frame_other, frame_same);
      f24 = simp (frame_other, frame_same);
      f16 = simp frame_same;
    }

-- a byte outside it
pub frame_out : (s : State) (p : ℕ) → p + 72 ≤ 2 ^ 64 → (x : ℕ) → ((j : ℕ) → j < 64 → x ≢ p + j) → frame s p x ≡ s.mem x
unfolding frame
frame_out s p fits x h =
    out 16 (omega arith) _ _ ∙ out 24 (omega arith) _ _ ∙ out 32 (omega arith) _ _
    ∙ out 40 (omega arith) _ _ ∙ out 48 (omega arith) _ _ ∙ out 56 (omega arith) _ _
  where
    out : (k : ℕ) → k + 8 ≤ 64 → (m : Memory) (v : ℕ) → write 8 m (p + k) v x ≡ m x
    out k l m v = write_out 8 m (p + k) v x (omega arith) (λ i j. omega (arith, h (k + i) (omega arith)))

abbrev pushes : List Instr
pushes = push RBX ∷ push RBP ∷ push R12 ∷ push R13 ∷ push R14 ∷ push R15 ∷ []

abbrev moves : List Instr
moves = alu_imm8 sub RSP 8 ∷ mov RBX RDI ∷ mov R12 RSI ∷ mov R13 RDX ∷ mov R14 RCX ∷ mov R15 R8 ∷ mov RBP R9 ∷ []

module _ (undefined : State → Flags) (s : State) (p : ℕ) (sp : s.regs RSP ≡ p + 64) (fits : p + 72 ≤ 2 ^ 64) where
  pub record Opened (t : State) : Type 0 where
    pub rsp : t.regs RSP ≡ p + 8
    pub rbx : t.regs RBX ≡ s.regs RDI
    pub r12 : t.regs R12 ≡ s.regs RSI
    pub r13 : t.regs R13 ≡ s.regs RDX
    pub r14 : t.regs R14 ≡ s.regs RCX
    pub memory : t.mem ≡ frame s p

  pub opened : Opened (run undefined opening s)
  unfolding run one past exec alu_value sext frame
  opened =
      let d = pushed p fits in
      record {
        rsp = rw (sp, d.p56, d.p48, d.p40, d.p32, d.p24, d.p16) (omega arith);
        rbx = refl;
        r12 = refl;
        r13 = refl;
        r14 = refl;
        memory = rw (sp, d.p56, d.p48, d.p40, d.p32, d.p24, d.p16);
      }

  pushes_safe : (ok : Permissions) → ((j : ℕ) → j < 72 → ok.write (p + j) ≡ true)
      → (c n : ℕ) → c + n ≤ 2 ^ 64 → ((i j : ℕ) → i < n → j < 64 → c + i ≢ p + j) → Safe undefined ok c n pushes s
  unfolding Safe one past exec accesses all
  pushes_safe ok o c n f a =
      let d = pushed p fits in
      let w : (k : ℕ) → k + 8 ≤ 72 → all ok.write (span 8 (p + k)) ≡ true =
      λ k l. stack_all p fits ok.write 0 (λ j h m. o j m) k (omega arith) l in
      let k : (j : ℕ) → j + 8 ≤ 64 → (m : Memory) (v : ℕ) → Kept c n m (write 8 m (p + j) v) =
      λ j l m v i o. write_out 8 m (p + j) v (at c i) (omega arith) (λ u w. omega (arith, a i (j + u) o (omega arith))) in
      rw (sp, d.p56, d.p48, d.p40, d.p32, d.p24, d.p16) (
        refl,
        w 56 (omega arith),
        k 56 (omega arith) _ _,
        (
          refl,
          w 48 (omega arith),
          k 48 (omega arith) _ _,
          (
            refl,
            w 40 (omega arith),
            k 40 (omega arith) _ _,
            (
              refl,
              w 32 (omega arith),
              k 32 (omega arith) _ _,
              (
                refl,
                w 24 (omega arith),
                k 24 (omega arith) _ _,
                (refl, w 16 (omega arith), k 16 (omega arith) _ _, tt),
              ),
            ),
          ),
        ),
      )

  moves_safe : (ok : Permissions) (c n : ℕ) (s : State) → Safe undefined ok c n moves s
  unfolding Safe one past exec accesses all
  moves_safe ok c n s = (
    refl,
    refl,
    (λ i l. refl),
    (
      refl,
      refl,
      (λ i l. refl),
      (
        refl,
        refl,
        (λ i l. refl),
        (
          refl,
          refl,
          (λ i l. refl),
          (
            refl,
            refl,
            (λ i l. refl),
            (
              refl,
              refl,
              (λ i l. refl),
              (refl, refl, (λ i l. refl), tt),
            ),
          ),
        ),
      ),
    ),
  )

  pub opening_safe : (ok : Permissions) → ((j : ℕ) → j < 72 → ok.write (p + j) ≡ true)
      → (c n : ℕ) → c + n ≤ 2 ^ 64 → ((i j : ℕ) → i < n → j < 64 → c + i ≢ p + j) → Safe undefined ok c n opening s
  opening_safe ok o c n f a = safe_append undefined ok c n pushes moves s (pushes_safe ok o c n f a) (moves_safe ok c n _)

  opening_log : trace undefined opening s
      ≡ span 8 (p + 56) ++ (span 8 (p + 48) ++ (span 8 (p + 40) ++ (span 8 (p + 32) ++ (span 8 (p + 24) ++ (span 8 (p + 16) ++ [])))))
  unfolding trace one past exec accesses
  opening_log = let d = pushed p fits in rw (sp, d.p56, d.p48, d.p40, d.p32, d.p24, d.p16)

  pub opening_trace : (P : ℕ → Bool) → ((j : ℕ) → 16 ≤ j → j < 64 → P (p + j) ≡ true) → all P (trace undefined opening s) ≡ true
  opening_trace P o = rw opening_log (add 56 (omega arith) (omega arith) _ (add 48 (omega arith) (omega arith) _
      (add 40 (omega arith) (omega arith) _ (add 32 (omega arith) (omega arith) _ (add 24 (omega arith) (omega arith) _
      (add 16 (omega arith) (omega arith) [] nil))))))
    where
      nil : all P [] ≡ true
      nil = unfold all in refl

      add : (k : ℕ) → 16 ≤ k → k + 8 ≤ 64 → (ws : List ℕ) → all P ws ≡ true → all P (span 8 (p + k) ++ ws) ≡ true
      add k l m ws h = all_append P (span 8 (p + k)) ws (all-span P 8 (p + k) (omega arith) (λ i j.
          let z : at (p + k) i ≡ p + (k + i) = omega arith in rw z (o (k + i) (omega arith) (omega arith)))) h

-- 3. The closing, from a state whose stack pointer is 56 below the entry's

module _ (undefined : State → Flags) (s : State) (p : ℕ) (sp : s.regs RSP ≡ p + 8) (fits : p + 72 ≤ 2 ^ 64) where
  pub record Closed (t : State) : Type 0 where
    pub rsp : t.regs RSP ≡ p + 64
    pub rbx : t.regs RBX ≡ read 8 s.mem (p + 56)
    pub rbp : t.regs RBP ≡ read 8 s.mem (p + 48)
    pub r12 : t.regs R12 ≡ read 8 s.mem (p + 40)
    pub r13 : t.regs R13 ≡ read 8 s.mem (p + 32)
    pub r14 : t.regs R14 ≡ read 8 s.mem (p + 24)
    pub r15 : t.regs R15 ≡ read 8 s.mem (p + 16)
    pub rax : t.regs RAX ≡ s.regs RAX
    pub rdx : t.regs RDX ≡ s.regs RDX
    pub same : t.mem ≡ s.mem

  pub closed : Closed (run undefined closing s)
  unfolding run one past exec alu_value sext
  closed =
      let u = popped p fits in
      record {
        rsp = rw (sp, u.low, u.p16, u.p24, u.p32, u.p40, u.p48, u.p56, u.p64);
        rbx = rw (sp, u.low, u.p16, u.p24, u.p32, u.p40, u.p48, u.p56);
        rbp = rw (sp, u.low, u.p16, u.p24, u.p32, u.p40, u.p48);
        r12 = rw (sp, u.low, u.p16, u.p24, u.p32, u.p40);
        r13 = rw (sp, u.low, u.p16, u.p24, u.p32);
        r14 = rw (sp, u.low, u.p16, u.p24);
        r15 = rw (sp, u.low, u.p16);
        rax = refl;
        rdx = refl;
        same = refl;
      }

  pub closing_safe : (ok : Permissions) → ((j : ℕ) → j < 72 → ok.read (p + j) ≡ true) → (c n : ℕ) → Safe undefined ok c n closing s
  unfolding Safe one past exec accesses all alu_value sext
  closing_safe ok o c n =
      let u = popped p fits in
      let r : (k : ℕ) → k + 8 ≤ 72 → all ok.read (span 8 (p + k)) ≡ true =
      λ k l. stack_all p fits ok.read 0 (λ j h m. o j m) k (omega arith) l in
      rw (sp, u.low, u.p16, u.p24, u.p32, u.p40, u.p48, u.p56) (
        refl,
        refl,
        (λ i l. refl),
        (
          r 16 (omega arith),
          refl,
          (λ i l. refl),
          (
            r 24 (omega arith),
            refl,
            (λ i l. refl),
            (
              r 32 (omega arith),
              refl,
              (λ i l. refl),
              (
                r 40 (omega arith),
                refl,
                (λ i l. refl),
                (
                  r 48 (omega arith),
                  refl,
                  (λ i l. refl),
                  (r 56 (omega arith), refl, (λ i l. refl), tt),
                ),
              ),
            ),
          ),
        ),
      )

  pub closing_trace : trace undefined closing s ≡ []
  unfolding trace one past exec accesses
  closing_trace = refl
