-- One syntactic test on a list of instructions gives its frame: the registers that a block keeps are kept, only slots
-- are read and written, and so the code is not.
use Rattle.std.proofs.Common.{Bool, ◌&&◌, cond, false, not, true, List, [], ◌++◌, ◌∷◌, append_assoc, ◌≢◌, ◌∙◌, ◌≡◌, refl, ◌+◌, ◌/◌, ◌<◌}
use Rattle.std.proofs.Common.{◌^◌, ◌≤◌, ℕ, arith, T, eqb, length, length-append}
use Rattle.agreement.specs.X86.Encode.{bytes, encode}
use Rattle.agreement.specs.X86.Execute.{accesses, exec, result}
use Rattle.agreement.specs.X86.Flags.{sext}
use Rattle.agreement.specs.X86.Form.{Alu, Instr, R12, R13, R14, R15, RBP, RBX, RSP, RAX, RDX}
use Rattle.agreement.specs.X86.Form.Alu.{add, and, cmp, or, sub, xor}
use Rattle.agreement.specs.X86.Form.Instr.{alu, alu_imm32, alu_imm8, call_rax, cmov, imul, load, mov, mov_imm64, movsxd, movzx, pop, push}
use Rattle.agreement.specs.X86.Form.Instr.{ret, setcc_al, shift_cl, shift_imm8, store, cqo, jcc, mul_div}
use Rattle.agreement.specs.X86.Form.MulDiv.{sdiv, smul, udiv, umul}
use Rattle.agreement.specs.X86.Memory.{at, span}
use Rattle.agreement.specs.X86.State.{Flags, Permissions, State, set}
use Rattle.agreement.specs.X86.Step.{Goes, Goes.done, Goes.more, all, past}
use Rattle.agreement.proofs.Host.Fetching.{Holds, one, reads, writes}
use Rattle.agreement.proofs.Host.Memory.{write_out}
use Rattle.agreement.proofs.Codec.Joined.{bytes-append}
use Rattle.agreement.proofs.Host.Straight.{AllOk, all_append, all-span, ok_right, stepped}
use Rattle.agreement.proofs.Host.Paths.{Path, Path.arrived, Path.onward}
use Rattle.agreement.proofs.Laws.Tests.{leb_no}

-- the registers that a block keeps between words
pub record Saved (s t : State) : Type 0 where
  pub rbx : t.regs RBX ≡ s.regs RBX
  pub rsp : t.regs RSP ≡ s.regs RSP
  pub rbp : t.regs RBP ≡ s.regs RBP
  pub r12 : t.regs R12 ≡ s.regs R12
  pub r13 : t.regs R13 ≡ s.regs R13
  pub r14 : t.regs R14 ≡ s.regs R14
  pub r15 : t.regs R15 ≡ s.regs R15

saved_trans : (s t u : State) → Saved s t → Saved t u → Saved s u
saved_trans s t u p q = record { rbx = cc; rsp = cc; rbp = cc; r12 = cc; r13 = cc; r14 = cc; r15 = cc }

-- they were kept, and nothing but the 256 bytes at b was written
pub record Within (b : ℕ) (s t : State) : Type 0 where
  pub saved : Saved s t
  pub outside : (x : ℕ) → ((j : ℕ) → j < 256 → x ≢ b + j) → t.mem x ≡ s.mem x

-- a register that a block need not keep
abbrev pub free : ℕ → Bool
free d = not (eqb 3 d) && (not (eqb 4 d) && (not (eqb 5 d) && (not (eqb 12 d) && (not (eqb 13 d) && (not (eqb 14 d) && not (eqb 15 d))))))

unfoldable pub Tame : Instr → Type 0
Tame (push r) = ⊥
Tame (pop r) = ⊥
Tame (mov d s) = T (free d)
Tame (mov_imm64 d v) = T (free d)
Tame (load d b o) = T (free d) × (b ≡ 3) × (o ≤ 248)
Tame (store b o s) = (b ≡ 3) × (8 ≤ o) × (o ≤ 248)
Tame (alu w op d s) = T (free d)
Tame (alu_imm32 op d v) = T (free d)
Tame (alu_imm8 op d v) = T (free d)
Tame (shift_cl w op d) = T (free d)
Tame (shift_imm8 w op d v) = T (free d)
Tame (imul w d s) = T (free d)
Tame (movsxd d s) = T (free d)
Tame (setcc_al c) = Unit
Tame (movzx d s) = T (free d)
Tame (cmov c d s) = T (free d)
Tame (mul_div w op r) = Unit
Tame (cqo w) = Unit
Tame (jcc c d) = Unit
Tame call_rax = ⊥
Tame ret = ⊥

unfoldable pub AllTame : List Instr → Type 0
AllTame [] = Unit
AllTame (i ∷ is) = Tame i × AllTame is

tame_right : (xs ys : List Instr) → AllTame (xs ++ ys) → AllTame ys
unfolding AllTame
tame_right [] ys t = t
tame_right (x ∷ xs) ys t = tame_right xs ys t.1

and_0 : (a b : Bool) → T (a && b) → T a
and_0 true b t = tt
and_0 false b t = absurd t

and_1 : (a b : Bool) → T (a && b) → T b
and_1 true b t = t
and_1 false b t = absurd t

pick : (b : Bool) (x y : ℕ) → T (not b) → cond b x y ≡ y
pick true x y t = absurd t
pick false x y t = refl

record Seven (f f' : ℕ → ℕ) : Type 0 where
  a3 : f' 3 ≡ f 3
  a4 : f' 4 ≡ f 4
  a5 : f' 5 ≡ f 5
  a12 : f' 12 ≡ f 12
  a13 : f' 13 ≡ f 13
  a14 : f' 14 ≡ f 14
  a15 : f' 15 ≡ f 15

set_free : (f : ℕ → ℕ) (d v : ℕ) → T (free d) → Seven f (set f d v)
set_free f d v t =
    let t1 = and_1 (not (eqb 3 d)) _ t in
    let t2 = and_1 (not (eqb 4 d)) _ t1 in
    let t3 = and_1 (not (eqb 5 d)) _ t2 in
    let t4 = and_1 (not (eqb 12 d)) _ t3 in
    let t5 = and_1 (not (eqb 13 d)) _ t4 in
    let t6 = and_1 (not (eqb 14 d)) _ t5 in
    record {
      a3 = pick (eqb 3 d) v (f 3) (and_0 (not (eqb 3 d)) _ t);
      a4 = pick (eqb 4 d) v (f 4) (and_0 (not (eqb 4 d)) _ t1);
      a5 = pick (eqb 5 d) v (f 5) (and_0 (not (eqb 5 d)) _ t2);
      a12 = pick (eqb 12 d) v (f 12) (and_0 (not (eqb 12 d)) _ t3);
      a13 = pick (eqb 13 d) v (f 13) (and_0 (not (eqb 13 d)) _ t4);
      a14 = pick (eqb 14 d) v (f 14) (and_0 (not (eqb 14 d)) _ t5);
      a15 = pick (eqb 15 d) v (f 15) t6;
    }

same7 : (f : ℕ → ℕ) → Seven f f
same7 f = record { a3 = refl; a4 = refl; a5 = refl; a12 = refl; a13 = refl; a14 = refl; a15 = refl }

-- RAX and RDX
set_pair : (f : ℕ → ℕ) (v w : ℕ) → Seven f (set (set f RAX v) RDX w)
set_pair f v w = record { a3 = refl; a4 = refl; a5 = refl; a12 = refl; a13 = refl; a14 = refl; a15 = refl }

result_free : (op : Alu) (f : ℕ → ℕ) (d v : ℕ) → T (free d) → Seven f (result op f d v)
result_free add f d v t = set_free f d v t
result_free or f d v t = set_free f d v t
result_free and f d v t = set_free f d v t
result_free sub f d v t = set_free f d v t
result_free xor f d v t = set_free f d v t
result_free cmp f d v t = same7 f

module _ (undefined : State → Flags) (b : ℕ) (fits : b + 256 ≤ 2 ^ 64) where
  disp : (o : ℕ) → o ≤ 248 → at b (sext 32 64 o) ≡ b + o
  disp o l = unfold sext in rw (leb_no (2 ^ 32 / 2) o (omega arith)) (omega arith)

  -- eight bytes of the registers
  slot_all : (P : ℕ → Bool) (lo o : ℕ) → ((i : ℕ) → lo ≤ i → i < 256 → P (b + i) ≡ true) → lo ≤ o → o ≤ 248 → all P (span 8 (b + o)) ≡ true
  slot_all P lo o h k l = all-span P 8 (b + o) (omega arith) (λ i j.
      let z : at (b + o) i ≡ b + (o + i) = omega arith in
      rw z (h (o + i) (omega arith) (omega arith)))

  tame_reads : (P : ℕ → Bool) → ((i : ℕ) → i < 256 → P (b + i) ≡ true)
      → (i : Instr) (s : State) → s.regs 3 ≡ b → Tame i → all P (reads i s) ≡ true
  unfolding Tame accesses all
  tame_reads P h (push r) s e t = absurd t
  tame_reads P h (pop r) s e t = absurd t
  tame_reads P h (mov d r) s e t = refl
  tame_reads P h (mov_imm64 d v) s e t = refl
  tame_reads P h (load d r o) s e t = rw t.1 (rw e (rw (disp o t.2) (slot_all P 0 o (λ i j l. h i l) (omega arith) t.2)))
  tame_reads P h (store r o q) s e t = refl
  tame_reads P h (alu w op d r) s e t = refl
  tame_reads P h (alu_imm32 op d v) s e t = refl
  tame_reads P h (alu_imm8 op d v) s e t = refl
  tame_reads P h (shift_cl w op d) s e t = refl
  tame_reads P h (shift_imm8 w op d v) s e t = refl
  tame_reads P h (imul w d r) s e t = refl
  tame_reads P h (movsxd d r) s e t = refl
  tame_reads P h (setcc_al c) s e t = refl
  tame_reads P h (movzx d r) s e t = refl
  tame_reads P h (cmov c d r) s e t = refl
  tame_reads P h (mul_div w op r) s e t = refl
  tame_reads P h (cqo w) s e t = refl
  tame_reads P h (jcc c d) s e t = refl
  tame_reads P h call_rax s e t = absurd t
  tame_reads P h ret s e t = absurd t

  tame_writes : (P : ℕ → Bool) → ((i : ℕ) → 8 ≤ i → i < 256 → P (b + i) ≡ true)
      → (i : Instr) (s : State) → s.regs 3 ≡ b → Tame i → all P (writes i s) ≡ true
  unfolding Tame accesses all
  tame_writes P h (push r) s e t = absurd t
  tame_writes P h (pop r) s e t = absurd t
  tame_writes P h (mov d r) s e t = refl
  tame_writes P h (mov_imm64 d v) s e t = refl
  tame_writes P h (load d r o) s e t = refl
  tame_writes P h (store r o q) s e t = rw t.0 (rw e (rw (disp o t.2) (slot_all P 8 o h t.1 t.2)))
  tame_writes P h (alu w op d r) s e t = refl
  tame_writes P h (alu_imm32 op d v) s e t = refl
  tame_writes P h (alu_imm8 op d v) s e t = refl
  tame_writes P h (shift_cl w op d) s e t = refl
  tame_writes P h (shift_imm8 w op d v) s e t = refl
  tame_writes P h (imul w d r) s e t = refl
  tame_writes P h (movsxd d r) s e t = refl
  tame_writes P h (setcc_al c) s e t = refl
  tame_writes P h (movzx d r) s e t = refl
  tame_writes P h (cmov c d r) s e t = refl
  tame_writes P h (mul_div w op r) s e t = refl
  tame_writes P h (cqo w) s e t = refl
  tame_writes P h (jcc c d) s e t = refl
  tame_writes P h call_rax s e t = absurd t
  tame_writes P h ret s e t = absurd t

  mk : (s t : State) → Seven s.regs t.regs → t.mem ≡ s.mem → Within b s t
  mk s t p q = record {
    saved = record { rbx = p.a3; rsp = p.a4; rbp = p.a5; r12 = p.a12; r13 = p.a13; r14 = p.a14; r15 = p.a15 };
    outside = λ x f. rw q;
  }

  tame_one : (i : Instr) (s : State) → s.regs 3 ≡ b → Tame i → Within b s (one undefined i s)
  unfolding Tame one past exec
  tame_one (push r) s e t = absurd t
  tame_one (pop r) s e t = absurd t
  tame_one (mov d r) s e t = mk s _ (set_free s.regs d _ t) refl
  tame_one (mov_imm64 d v) s e t = mk s _ (set_free s.regs d _ t) refl
  tame_one (load d r o) s e t = mk s _ (set_free s.regs d _ t.0) refl
  tame_one (store r o q) s e t = record {
    saved = record { rbx = refl; rsp = refl; rbp = refl; r12 = refl; r13 = refl; r14 = refl; r15 = refl };
    outside = λ x f. let z : at (s.regs r) (sext 32 64 o) ≡ b + o = rw t.0 (rw e (disp o t.2)) in
        rw z (write_out 8 s.mem (b + o) (s.regs q) x (omega arith) (λ i l. omega (arith, f (o + i) (omega arith))));
  }
  tame_one (alu w op d r) s e t = mk s _ (result_free op s.regs d _ t) refl
  tame_one (alu_imm32 op d v) s e t = mk s _ (result_free op s.regs d _ t) refl
  tame_one (alu_imm8 op d v) s e t = mk s _ (result_free op s.regs d _ t) refl
  tame_one (shift_cl w op d) s e t = mk s _ (set_free s.regs d _ t) refl
  tame_one (shift_imm8 w op d v) s e t = mk s _ (set_free s.regs d _ t) refl
  tame_one (imul w d r) s e t = mk s _ (set_free s.regs d _ t) refl
  tame_one (movsxd d r) s e t = mk s _ (set_free s.regs d _ t) refl
  tame_one (setcc_al c) s e t = mk s _ (set_free s.regs 0 _ tt) refl
  tame_one (movzx d r) s e t = mk s _ (set_free s.regs d _ t) refl
  tame_one (cmov c d r) s e t = mk s _ (set_free s.regs d _ t) refl
  tame_one (mul_div w umul r) s e t = mk s _ (set_pair s.regs _ _) refl
  tame_one (mul_div w smul r) s e t = mk s _ (set_pair s.regs _ _) refl
  tame_one (mul_div w udiv r) s e t = mk s _ (set_pair s.regs _ _) refl
  tame_one (mul_div w sdiv r) s e t = mk s _ (set_pair s.regs _ _) refl
  tame_one (cqo w) s e t = mk s _ (set_free s.regs RDX _ tt) refl
  tame_one (jcc c d) s e t = mk s _ (same7 s.regs) refl
  tame_one call_rax s e t = absurd t
  tame_one ret s e t = absurd t

  through : (s t u : State) → Within b s t → Within b t u → Within b s u
  through s t u p q = record { saved = saved_trans s t u p.saved q.saved; outside = λ x f. q.outside x f ∙ p.outside x f }

  -- along a path: its steps write only in P, and lead behind the instructions
  pub record Trod (ok : Permissions) (P : ℕ → Bool) (c : ℕ) (code : List ℕ) (e n : ℕ) (s t : State) : Type 0 where
    pub ws : List ℕ
    pub goes : Goes undefined ok s n ws t
    pub own : all P ws ≡ true
    pub there : t.rip ≡ at c e
    pub held : Holds ok.fetch t.mem c code
    pub within : Within b s t

  module _ (ok : Permissions) (P : ℕ → Bool) (c : ℕ) (code : List ℕ)
      (r : (i : ℕ) → i < 256 → ok.read (b + i) ≡ true) (w : (i : ℕ) → i < 256 → ok.write (b + i) ≡ true)
      (o : (i : ℕ) → 8 ≤ i → i < 256 → P (b + i) ≡ true) (l : c < 2 ^ 64) (f : c + length code ≤ 2 ^ 64)
      (a : (i j : ℕ) → i < length code → j < 256 → c + i ≢ b + j) where
    pub trod : (is : List Instr) (pre post : List ℕ) (s t : State) (n : ℕ) → code ≡ pre ++ (bytes is ++ post)
        → AllOk is → AllTame is → Path undefined is s n t → s.regs RBX ≡ b
        → Holds ok.fetch s.mem c code → s.rip ≡ at c (length pre)
        → Trod ok P c code (length pre + length (bytes is)) n s t
    unfolding AllOk AllTame
    trod [] pre post s t n q k m arrived e h i =
        let z : length pre ≡ length pre + 0 = omega arith in
        record { ws = []; goes = done; own = unfold all in refl; there = rw (← z) i; held = h; within = mk s s (same7 s.regs) refl }
    trod (x ∷ is) pre post s t n q k m (onward {xs = xs} {ys = ys} {n = j} p y g) e h i =
        let s' : State = one undefined x s in
        let v = tame_one x s e m.0 in
        let st = stepped undefined ok c code x pre (bytes is ++ post) s (rw q (simp append_assoc)) l k.0 p.sound
        (tame_reads ok.read r x s e m.0) (tame_writes ok.write (λ j l k. w j k) x s e m.0)
        (λ k l. v.outside (at c k) (λ j o. omega (arith, a k j l o))) h i in
        let pre' : List ℕ = pre ++ (encode x ++ bytes xs) in
        let y' : bytes is ≡ bytes xs ++ bytes ys = rw y (bytes-append xs ys) in
        let q' : code ≡ pre' ++ (bytes ys ++ post) = rw q (rw y' (simp append_assoc)) in
        let lp : length pre' ≡ length pre + (length (encode x) + length (bytes xs)) = simp length-append in
        let i' : s'.rip ≡ at c (length pre') = p.rip ∙ rw (i, lp) (omega arith) in
        let k' : AllOk ys = ok_right xs ys (rw y at k.1) in
        let m' : AllTame ys = tame_right xs ys (rw y at m.1) in
        let u = trod ys pre' post s' t j q' k' m' g (v.saved.rbx ∙ e) st.held i' in
        let d : length pre' + length (bytes ys) ≡ length pre + length (encode x ++ bytes is) =
        rw (lp, y') (simp length-append (omega arith)) in
        record {
          ws = writes x s ++ u.ws;
          goes = more {ws = writes x s} {vs = u.ws} st.fetched p.no_call p.no_ret st.does u.goes;
          own = all_append P (writes x s) u.ws (tame_writes P o x s e m.0) u.own;
          there = rw (← d) u.there;
          held = u.held;
          within = through s s' t v u.within;
        }
