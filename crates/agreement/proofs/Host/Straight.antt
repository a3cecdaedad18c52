-- Running a list of straight instructions, and what the log of a run says.
use Rattle.std.proofs.Common.{Bool, false, true, List, [], ◌++◌, ◌∷◌, append_assoc, ◌≢◌, ◌∙◌, ◌≡◌, ap, refl, subst, ◌+◌, ◌<◌, ◌^◌, suc}
use Rattle.std.specs.Prelude.{Option, None, Some}
use Rattle.std.proofs.Common.{zero, ℕ, arith, T, length, length-append}
use Rattle.agreement.specs.X86.Encode.{bytes, encode}
use Rattle.agreement.specs.X86.Execute.{accesses, below, exec, operand, division_faults, faults}
use Rattle.agreement.specs.X86.Form.{Instr, Ok, MulDiv}
use Rattle.agreement.specs.X86.Form.Instr.{alu, alu_imm32, alu_imm8, call_rax, cmov, imul, load, mov, mov_imm64, movsxd, movzx, pop, push}
use Rattle.agreement.specs.X86.Form.Instr.{ret, setcc_al, shift_cl, shift_imm8, store, cqo, jcc, mul_div}
use Rattle.agreement.specs.X86.Form.MulDiv.{sdiv, smul, udiv, umul}
use Rattle.agreement.specs.X86.Memory.{Memory, at, span, up, write}
use Rattle.agreement.specs.X86.State.{Flags, Permissions, State}
use Rattle.agreement.specs.X86.Step.{Fetch, Goes, Goes.done, Goes.more, all, did, next, past, step}
use Rattle.agreement.proofs.Host.Fetching.{Holds, fetch, holds_ext, holds_split, next_is, one, reads, step_is, writes}
use Rattle.agreement.proofs.Host.Memory.{up_at, write_out}

-- an instruction that goes on to the one behind it in every state: all but divisions, jumps, CALL and RET
abbrev pub multiplies : MulDiv → Bool
multiplies umul = true
multiplies smul = true
multiplies udiv = false
multiplies sdiv = false

abbrev pub straight : Instr → Bool
straight (push r) = true
straight (pop r) = true
straight (mov d s) = true
straight (mov_imm64 d v) = true
straight (load d b o) = true
straight (store b o s) = true
straight (alu w op d s) = true
straight (alu_imm32 op d v) = true
straight (alu_imm8 op d v) = true
straight (shift_cl w op d) = true
straight (shift_imm8 w op d v) = true
straight (imul w d s) = true
straight (movsxd d s) = true
straight (setcc_al c) = true
straight (movzx d s) = true
straight (cmov c d s) = true
straight (mul_div w op r) = multiplies op
straight (cqo w) = true
straight (jcc c d) = false
straight call_rax = false
straight ret = false

pub not_call : (i : Instr) → T (straight i) → i ≢ call_rax
not_call i t e = subst (λ (x : Instr). T (straight x)) e t

pub not_ret : (i : Instr) → T (straight i) → i ≢ ret
not_ret i t e = subst (λ (x : Instr). T (straight x)) e t

pub exec_rip : (undefined : State → Flags) (i : Instr) (s : State) → T (straight i) → (exec undefined i s).rip ≡ s.rip
unfolding exec
exec_rip undefined (push r) s t = refl
exec_rip undefined (pop r) s t = refl
exec_rip undefined (mov d r) s t = refl
exec_rip undefined (mov_imm64 d v) s t = refl
exec_rip undefined (load d b o) s t = refl
exec_rip undefined (store b o r) s t = refl
exec_rip undefined (alu w op d r) s t = refl
exec_rip undefined (alu_imm32 op d v) s t = refl
exec_rip undefined (alu_imm8 op d v) s t = refl
exec_rip undefined (shift_cl w op d) s t = refl
exec_rip undefined (shift_imm8 w op d v) s t = refl
exec_rip undefined (imul w d r) s t = refl
exec_rip undefined (movsxd d r) s t = refl
exec_rip undefined (setcc_al c) s t = refl
exec_rip undefined (movzx d r) s t = refl
exec_rip undefined (cmov c d r) s t = refl
exec_rip undefined (mul_div w umul r) s t = refl
exec_rip undefined (mul_div w smul r) s t = refl
exec_rip undefined (mul_div w udiv r) s t = absurd t
exec_rip undefined (mul_div w sdiv r) s t = absurd t
exec_rip undefined (cqo w) s t = refl
exec_rip undefined (jcc c d) s t = absurd t
exec_rip undefined call_rax s t = absurd t
exec_rip undefined ret s t = absurd t

-- it does not fault
pub calm : (i : Instr) (s : State) → T (straight i) → faults i s ≡ false
unfolding faults division_faults
calm (push r) s t = refl
calm (pop r) s t = refl
calm (mov d r) s t = refl
calm (mov_imm64 d v) s t = refl
calm (load d b o) s t = refl
calm (store b o r) s t = refl
calm (alu w op d r) s t = refl
calm (alu_imm32 op d v) s t = refl
calm (alu_imm8 op d v) s t = refl
calm (shift_cl w op d) s t = refl
calm (shift_imm8 w op d v) s t = refl
calm (imul w d r) s t = refl
calm (movsxd d r) s t = refl
calm (setcc_al c) s t = refl
calm (movzx d r) s t = refl
calm (cmov c d r) s t = refl
calm (mul_div w umul r) s t = refl
calm (mul_div w smul r) s t = refl
calm (mul_div w udiv r) s t = absurd t
calm (mul_div w sdiv r) s t = absurd t
calm (cqo w) s t = refl
calm (jcc c d) s t = absurd t
calm call_rax s t = absurd t
calm ret s t = absurd t

pub one_rip : (undefined : State → Flags) (i : Instr) (s : State) → T (straight i)
    → (one undefined i s).rip ≡ at s.rip (length (encode i))
unfolding one past
one_rip undefined i s t = exec_rip undefined i (past (length (encode i)) s) t

-- one step, o bytes of the code before it
pub record Stepped (undefined : State → Flags) (ok : Permissions) (c : ℕ) (code : List ℕ) (i : Instr) (s : State) : Type 0 where
  pub fetched : next ok s ≡ Some (fetch i)
  pub does : step undefined ok s ≡ Some (one undefined i s, writes i s)
  pub held : Holds ok.fetch (one undefined i s).mem c code

pub stepped : (undefined : State → Flags) (ok : Permissions) (c : ℕ) (code : List ℕ) (i : Instr) (pre post : List ℕ) (s : State)
    → code ≡ pre ++ (encode i ++ post) → c < 2 ^ 64 → Ok i → faults i s ≡ false
    → all ok.read (reads i s) ≡ true → all ok.write (writes i s) ≡ true
    → ((j : ℕ) → j < length code → (one undefined i s).mem (at c j) ≡ s.mem (at c j))
    → Holds ok.fetch s.mem c code → s.rip ≡ at c (length pre) → Stepped undefined ok c code i s
stepped undefined ok c code i pre post s q l o f a w k h r =
    let h1 = holds_split ok.fetch s.mem c pre (encode i ++ post) l (rw q at h) in
    let low : at c (length pre) < 2 ^ 64 = omega arith in
    let h2 = holds_split ok.fetch s.mem (at c (length pre)) (encode i) post low h1.1 in
    let hi : Holds ok.fetch s.mem s.rip (encode i) = rw r h2.0 in
    record {
      fetched = next_is ok i s o hi;
      does = step_is undefined ok i s o hi f a w;
      held = holds_ext ok.fetch s.mem (one undefined i s).mem c code l k h;
    }

unfoldable pub run : (State → Flags) → List Instr → State → State
run undefined [] s = s
run undefined (i ∷ is) s = run undefined is (one undefined i s)

pub run-append : (undefined : State → Flags) (xs ys : List Instr) (s : State)
    → run undefined (xs ++ ys) s ≡ run undefined ys (run undefined xs s)
unfolding run
run-append undefined [] ys s = refl
run-append undefined (x ∷ xs) ys s = run-append undefined xs ys (one undefined x s)

-- what it writes
unfoldable pub trace : (State → Flags) → List Instr → State → List ℕ
trace undefined [] s = []
trace undefined (i ∷ is) s = writes i s ++ trace undefined is (one undefined i s)

-- every instruction may be encoded and goes on to the next one
unfoldable pub Fine : List Instr → Type 0
Fine [] = Unit
Fine (i ∷ is) = Ok i × T (straight i) × Fine is

-- every instruction may be encoded
unfoldable pub AllOk : List Instr → Type 0
AllOk [] = Unit
AllOk (i ∷ is) = Ok i × AllOk is

pub ok-append : (xs ys : List Instr) → AllOk xs → AllOk ys → AllOk (xs ++ ys)
unfolding AllOk
ok-append [] ys p q = q
ok-append (x ∷ xs) ys p q = (p.0, ok-append xs ys p.1 q)

pub ok_right : (xs ys : List Instr) → AllOk (xs ++ ys) → AllOk ys
unfolding AllOk
ok_right [] ys t = t
ok_right (x ∷ xs) ys t = ok_right xs ys t.1

pub fine_ok : (is : List Instr) → Fine is → AllOk is
unfolding AllOk Fine
fine_ok [] h = tt
fine_ok (i ∷ is) h = (h.0, fine_ok is h.2)

-- n bytes from c are the same
abbrev pub Kept : ℕ → ℕ → Memory → Memory → Type 0
Kept c n m m' = (i : ℕ) → i < n → m' (at c i) ≡ m (at c i)

-- every access is allowed, and none of the n bytes at c is written
unfoldable pub Safe : (State → Flags) → Permissions → ℕ → ℕ → List Instr → State → Type 0
Safe undefined ok c n [] s = Unit
Safe undefined ok c n (i ∷ is) s =
    (all ok.read (reads i s) ≡ true) × (all ok.write (writes i s) ≡ true)
    × Kept c n s.mem (one undefined i s).mem × Safe undefined ok c n is (one undefined i s)

pub record Ran (undefined : State → Flags) (ok : Permissions) (c : ℕ) (code : List ℕ) (is : List Instr) (e : ℕ) (s t : State) : Type 0 where
  pub reached : Goes undefined ok s (length is) (trace undefined is s) t
  pub there : t.rip ≡ at c e
  pub held : Holds ok.fetch t.mem c code

pub ran : (undefined : State → Flags) (ok : Permissions) (c : ℕ) (code : List ℕ) (is : List Instr) (pre post : List ℕ) (s : State)
    → code ≡ pre ++ (bytes is ++ post) → c < 2 ^ 64 → Fine is
    → Safe undefined ok c (length code) is s → Holds ok.fetch s.mem c code → s.rip ≡ at c (length pre)
    → Ran undefined ok c code is (length pre + length (bytes is)) s (run undefined is s)
unfolding Fine Safe run trace
ran undefined ok c code [] pre post s q l f a h r =
    let e : length pre ≡ length pre + 0 = omega arith in
    record { reached = done; there = rw (← e) r; held = h }
ran undefined ok c code (i ∷ is) pre post s q l f a h r =
    let t : State = one undefined i s in
    let p : code ≡ pre ++ (encode i ++ (bytes is ++ post)) = rw q (simp append_assoc) in
    let st = stepped undefined ok c code i pre (bytes is ++ post) s p l f.0 (calm i s f.1) a.0 a.1 a.2 h r in
    let e : t.rip ≡ at c (length (pre ++ encode i)) =
    one_rip undefined i s f.1 ∙ rw r (rw (length-append pre (encode i)) (omega arith)) in
    let next = ran undefined ok c code is (pre ++ encode i) post t (rw append_assoc p) l f.2 a.3 st.held e in
    let d : length (pre ++ encode i) + length (bytes is) ≡ length pre + length (encode i ++ bytes is) = simp length-append (omega arith) in
    record {
      reached = more st.fetched (not_call i f.1) (not_ret i f.1) st.does next.reached;
      there = rw (← d) next.there;
      held = next.held;
    }

pub goes_append : (undefined : State → Flags) (ok : Permissions) {s t u : State} {n m : ℕ} {ws vs : List ℕ}
    → Goes undefined ok s n ws t → Goes undefined ok t m vs u → Goes undefined ok s (n + m) (ws ++ vs) u
goes_append undefined ok {m = m} done q = let z : 0 + m ≡ m = omega arith in rw z q
goes_append undefined ok {m = m} {vs = vs} (more {n = n} {ws = ws} {vs = xs} e c r g p) q =
    let z : suc n + m ≡ suc (n + m) = omega arith in
    rw z (rw (append_assoc ws xs vs) (more e c r g (goes_append undefined ok p q)))

pub safe_append : (undefined : State → Flags) (ok : Permissions) (c n : ℕ) (xs ys : List Instr) (s : State)
    → Safe undefined ok c n xs s → Safe undefined ok c n ys (run undefined xs s) → Safe undefined ok c n (xs ++ ys) s
unfolding Safe run
safe_append undefined ok c n [] ys s p q = q
safe_append undefined ok c n (x ∷ xs) ys s p q = (p.0, p.1, p.2, safe_append undefined ok c n xs ys (one undefined x s) p.3 q)

pub fine_append : (xs ys : List Instr) → Fine xs → Fine ys → Fine (xs ++ ys)
unfolding Fine
fine_append [] ys p q = q
fine_append (x ∷ xs) ys p q = (p.0, p.1, fine_append xs ys p.2 q)

pub append-nil : (xs : List ℕ) → xs ++ [] ≡ xs
append-nil [] = refl
append-nil (x ∷ xs) = ap (λ (l : List ℕ). x ∷ l) (append-nil xs)

-- logs
pub all_append : (P : ℕ → Bool) (xs ys : List ℕ) → all P xs ≡ true → all P ys ≡ true → all P (xs ++ ys) ≡ true
unfolding all
all_append P [] ys p q = q
all_append P (x ∷ xs) ys p q = go (P x) (all_append P xs ys) p
  where
    go : (b : Bool) → (all P xs ≡ true → all P ys ≡ true → all P (xs ++ ys) ≡ true)
        → elim b [ true ↦ all P xs | false ↦ false ] ≡ true
        → elim b [ true ↦ all P (xs ++ ys) | false ↦ false ] ≡ true
    go true f e = f e q
    go false f e = e

pub all-span : (P : ℕ → Bool) (n a : ℕ) → a < 2 ^ 64 → ((i : ℕ) → i < n → P (at a i) ≡ true) → all P (span n a) ≡ true
unfolding all span
all-span P zero a l h = refl
all-span P (suc n) a l h =
    let z : at a 0 ≡ a = omega arith in
    let e : P a ≡ true = rw z at (h 0 (omega arith)) in
    rw e (all-span P n (up a) (omega arith) (λ i k. rw (up_at a i l) (h (suc i) (omega arith))))

pub span-all : (P : ℕ → Bool) (n a i : ℕ) → a < 2 ^ 64 → all P (span n a) ≡ true → i < n → P (at a i) ≡ true
unfolding all span
span-all P zero a i l h k = absurd (omega arith)
span-all P (suc n) a i l h k = go (P a) refl (span-all P n (up a)) h
  where
    at0 : (i : ℕ) → at a zero ≡ a
    at0 i = omega arith

    go : (b : Bool) → P a ≡ b
        → ((i : ℕ) → up a < 2 ^ 64 → all P (span n (up a)) ≡ true → i < n → P (at (up a) i) ≡ true)
        → elim b [ true ↦ all P (span n (up a)) | false ↦ false ] ≡ true → P (at a i) ≡ true
    go true e f h = pick i k
      where
        pick : (i : ℕ) → i < suc n → P (at a i) ≡ true
        pick zero k = rw (at0 0) e
        pick (suc i) k = rw (up_at a i l) at (f i (omega arith) h (omega arith))
    go false e f h = absurd (let z : ◌≡◌ {A = ℕ} 0 1 = cc in omega arith)

out8 : (P : ℕ → Bool) (m : Memory) (a v x : ℕ) → a < 2 ^ 64 → all P (span 8 a) ≡ true → P x ≡ false → write 8 m a v x ≡ m x
out8 P m a v x l h e = write_out 8 m a v x l (λ i k q. no i k q (span-all P 8 a i l h k))
  where
    no : (i : ℕ) → i < 8 → x ≡ at a i → P (at a i) ≡ true → ⊥
    no i k q f = let f' : P x ≡ true = rw (← q) at f in let z : ◌≡◌ {A = ℕ} 0 1 = cc in omega arith

-- the log of a step is right: a byte that is not in it stays
pub unwritten : (undefined : State → Flags) (P : ℕ → Bool) (i : Instr) (s : State) (x n : ℕ)
    → all P (writes i s) ≡ true → P x ≡ false → (exec undefined i (past n s)).mem x ≡ s.mem x
unfolding exec past accesses
unwritten undefined P (pop r) s x n h e = refl
unwritten undefined P (mov d r) s x n h e = refl
unwritten undefined P (mov_imm64 d v) s x n h e = refl
unwritten undefined P (load d b o) s x n h e = refl
unwritten undefined P (alu w op d r) s x n h e = refl
unwritten undefined P (alu_imm32 op d v) s x n h e = refl
unwritten undefined P (alu_imm8 op d v) s x n h e = refl
unwritten undefined P (shift_cl w op d) s x n h e = refl
unwritten undefined P (shift_imm8 w op d v) s x n h e = refl
unwritten undefined P (imul w d r) s x n h e = refl
unwritten undefined P (movsxd d r) s x n h e = refl
unwritten undefined P (setcc_al c) s x n h e = refl
unwritten undefined P (movzx d r) s x n h e = refl
unwritten undefined P (cmov c d r) s x n h e = refl
unwritten undefined P (mul_div w umul r) s x n h e = refl
unwritten undefined P (mul_div w smul r) s x n h e = refl
unwritten undefined P (mul_div w udiv r) s x n h e = refl
unwritten undefined P (mul_div w sdiv r) s x n h e = refl
unwritten undefined P (cqo w) s x n h e = refl
unwritten undefined P (jcc c d) s x n h e = refl
unwritten undefined P ret s x n h e = refl
unwritten undefined P (push r) s x n h e = out8 P s.mem (below s) (s.regs r) x (omega arith) h e
unwritten undefined P (store b o r) s x n h e = out8 P s.mem (operand b o s) (s.regs r) x (omega arith) h e
unwritten undefined P call_rax s x n h e = out8 P s.mem (below s) (at s.rip n) x (omega arith) h e

-- what a step did
pub record Step (undefined : State → Flags) (ok : Permissions) (s t : State) (ws : List ℕ) : Type 0 where
  pub f : Fetch
  pub fetched : next ok s ≡ Some f
  pub state : t ≡ exec undefined f.instr (past f.size s)
  pub log : ws ≡ writes f.instr s

pub step_inv : (undefined : State → Flags) (ok : Permissions) (s t : State) (ws : List ℕ)
    → step undefined ok s ≡ Some (t, ws) → Step undefined ok s t ws
unfolding step did
step_inv undefined ok s t ws e = go (next ok s) refl e
  where
    go : (o : Option Fetch) → next ok s ≡ o → did undefined ok s o ≡ Some (t, ws) → Step undefined ok s t ws
    go None q e = absurd (let z : ◌≡◌ {A = ℕ} 0 1 = cc in omega arith)
    go (Some f) q e = by (faults f.instr s) (all ok.read (reads f.instr s)) (all ok.write (writes f.instr s)) e
      where
        after : State × List ℕ
        after = (exec undefined f.instr (past f.size s), writes f.instr s)

        may : Bool → Bool → Bool → Option (State × List ℕ)
        may z x y = elim z [ true ↦ None | false ↦ elim x [ true ↦ elim y [ true ↦ Some after | false ↦ None ] | false ↦ None ] ]

        by : (z x y : Bool) → may z x y ≡ Some (t, ws) → Step undefined ok s t ws
        by true x y e = absurd (let z : ◌≡◌ {A = ℕ} 0 1 = cc in omega arith)
        by false true true e =
            let r : ◌≡◌ {A = State × List ℕ} (t, ws) after = cc in
            record { f = f; fetched = q; state = ap (λ (z : State × List ℕ). z.0) r; log = ap (λ (z : State × List ℕ). z.1) r }
        by false true false e = absurd (let z : ◌≡◌ {A = ℕ} 0 1 = cc in omega arith)
        by false false y e = absurd (let z : ◌≡◌ {A = ℕ} 0 1 = cc in omega arith)

pub step_unlogged : (undefined : State → Flags) (ok : Permissions) (P : ℕ → Bool) (s t : State) (ws : List ℕ) (x : ℕ)
    → step undefined ok s ≡ Some (t, ws) → all P ws ≡ true → P x ≡ false → t.mem x ≡ s.mem x
step_unlogged undefined ok P s t ws x st h e =
    let r = step_inv undefined ok s t ws st in
    rw r.state (unwritten undefined P r.f.instr s x r.f.size (rw r.log at h) e)

pub all_left : (P : ℕ → Bool) (xs ys : List ℕ) → all P (xs ++ ys) ≡ true → all P xs ≡ true
unfolding all
all_left P [] ys h = refl
all_left P (x ∷ xs) ys h = go (P x) (all_left P xs ys) h
  where
    go : (b : Bool) → (all P (xs ++ ys) ≡ true → all P xs ≡ true)
        → elim b [ true ↦ all P (xs ++ ys) | false ↦ false ] ≡ true
        → elim b [ true ↦ all P xs | false ↦ false ] ≡ true
    go true f e = f e
    go false f e = e

pub all_right : (P : ℕ → Bool) (xs ys : List ℕ) → all P (xs ++ ys) ≡ true → all P ys ≡ true
unfolding all
all_right P [] ys h = h
all_right P (x ∷ xs) ys h = go (P x) (all_right P xs ys) h
  where
    go : (b : Bool) → (all P (xs ++ ys) ≡ true → all P ys ≡ true)
        → elim b [ true ↦ all P (xs ++ ys) | false ↦ false ] ≡ true → all P ys ≡ true
    go true f e = f e
    go false f e = absurd (let z : ◌≡◌ {A = ℕ} 0 1 = cc in omega arith)

pub unlogged : (undefined : State → Flags) (ok : Permissions) (P : ℕ → Bool) {s t : State} {n : ℕ} {ws : List ℕ} (x : ℕ)
    → Goes undefined ok s n ws t → all P ws ≡ true → P x ≡ false → t.mem x ≡ s.mem x
unlogged undefined ok P x done h e = refl
unlogged undefined ok P x (more {s = s} {t = t} {ws = ws} {vs = vs} f c r st p) h e =
    unlogged undefined ok P x p (all_right P ws vs h) e ∙ step_unlogged undefined ok P s t ws x st (all_left P ws vs h) e
