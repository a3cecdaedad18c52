-- From bytes in memory to a step.
use Rattle.std.proofs.Common.{Bool, cond, false, true, List, [], ◌++◌, ◌∷◌, ◌∙◌, ◌≡◌, ap, refl, ◌%◌, ◌*◌, ◌+◌, ◌-◌, ◌/◌, ◌<◌, ◌^◌, ◌≤◌, suc}
use Rattle.std.specs.Prelude.{Some}
use Rattle.std.proofs.Common.{zero, ℕ, arith, eqb, length, length-append}
use Rattle.agreement.specs.X86.Encode.{encode, mod_mem, rex}
use Rattle.agreement.specs.X86.Execute.{accesses, exec, faults}
use Rattle.agreement.specs.X86.Form.{Instr, Ok, Width}
use Rattle.agreement.specs.X86.Form.Instr.{alu, alu_imm32, alu_imm8, call_rax, cmov, imul, load, mov, mov_imm64, movsxd, movzx, pop, push}
use Rattle.agreement.specs.X86.Form.Instr.{ret, setcc_al, shift_cl, shift_imm8, store, cqo, jcc, mul_div}
use Rattle.agreement.specs.X86.Form.Width.{r32, r64}
use Rattle.agreement.specs.X86.Memory.{Memory, at, bytes_of, up}
use Rattle.agreement.specs.X86.State.{Flags, Permissions, State}
use Rattle.agreement.specs.X86.Step.{Fetch, all, cut, did, fetched, next, past, step}
use Rattle.agreement.proofs.Codec.Decoding.{round}
use Rattle.agreement.proofs.Host.Memory.{up_at}
use Rattle.agreement.proofs.Laws.Bytes.{len_le}

-- the bytes bs stand at a and may be fetched
unfoldable pub Holds : (ℕ → Bool) → Memory → ℕ → List ℕ → Type 0
Holds may m a [] = Unit
Holds may m a (b ∷ bs) = (may a ≡ true) × (m a % 256 ≡ b) × Holds may m (up a) bs

pub holds_split : (may : ℕ → Bool) (m : Memory) (a : ℕ) (xs ys : List ℕ) → a < 2 ^ 64
    → Holds may m a (xs ++ ys) → Holds may m a xs × Holds may m (at a (length xs)) ys
unfolding Holds
holds_split may m a [] ys l h = let e : at a 0 ≡ a = omega arith in (tt, rw e h)
holds_split may m a (x ∷ xs) ys l h =
    let r = holds_split may m (up a) xs ys (omega arith) h.2 in
    let e : at (up a) (length xs) ≡ at a (suc (length xs)) = omega arith in
    ((h.0, h.1, r.0), rw e at r.1)

pub holds-bytes : (may : ℕ → Bool) (m m' : Memory) (a : ℕ) (xs : List ℕ) → a < 2 ^ 64
    → ((i : ℕ) → i < length xs → m' (at a i) % 256 ≡ m (at a i) % 256) → Holds may m a xs → Holds may m' a xs
unfolding Holds
holds-bytes may m m' a [] l e h = tt
holds-bytes may m m' a (x ∷ xs) l e h =
    let z : at a 0 ≡ a = omega arith in
    let z' : m' a % 256 ≡ m a % 256 = rw z at (e 0 (omega arith)) in
    let rest : Holds may m' (up a) xs =
    holds-bytes may m m' (up a) xs (omega arith) (λ i k. rw (up_at a i l) (e (suc i) (omega arith))) h.2 in
    (h.0, z' ∙ h.1, rest)

pub holds_ext : (may : ℕ → Bool) (m m' : Memory) (a : ℕ) (xs : List ℕ) → a < 2 ^ 64
    → ((i : ℕ) → i < length xs → m' (at a i) ≡ m (at a i)) → Holds may m a xs → Holds may m' a xs
holds_ext may m m' a xs l e h = holds-bytes may m m' a xs l (λ i k. ap (◌% 256) (e i k)) h

-- what is fetched begins with them
fetch_holds : (may : ℕ → Bool) (n : ℕ) (m : Memory) (a : ℕ) (bs : List ℕ)
    → Holds may m a bs → length bs ≤ n → (W : List ℕ) × (fetched may n m a ≡ bs ++ W)
unfolding Holds fetched
fetch_holds may n m a [] h k = (fetched may n m a, refl)
fetch_holds may zero m a (b ∷ bs) h k = absurd (omega arith)
fetch_holds may (suc n) m a (b ∷ bs) h k =
    let r = fetch_holds may n m (up a) bs h.2 (omega arith) in
    (r.0, rw (h.0, fetched) (rw h.1 (ap (λ (t : List ℕ). b ∷ t) r.1)))

rex_len : (w : Width) (r b : ℕ) → length (rex w r b) ≤ 1
rex_len r64 r b = omega arith
rex_len r32 r b = go (eqb (◌+◌ (4 * (r / 8)) (b / 8)) 0)
  where
    go : (t : Bool) → length (cond t [] ((64 + 4 * (r / 8) + b / 8) ∷ [])) ≤ 1
    go true = omega arith
    go false = omega arith

mem_len : (r b d : ℕ) → length (mod_mem r b d) ≤ 6
mem_len r b d = go (eqb (b % 8) 4)
  where
    go : (t : Bool)
        → length (cond t ((128 + 8 * (r % 8) + 4) ∷ (32 + b % 8) ∷ bytes_of 4 d) ((128 + 8 * (r % 8) + b % 8) ∷ bytes_of 4 d)) ≤ 6
    go true = omega (arith, len_le 4 d)
    go false = omega (arith, len_le 4 d)

pub short : (i : Instr) → length (encode i) ≤ 15
short (push r) = simp length-append (omega (arith, rex_len r32 0 r))
short (pop r) = simp length-append (omega (arith, rex_len r32 0 r))
short (mov d s) = simp length-append (omega (arith, rex_len r64 s d))
short (mov_imm64 d v) = simp length-append (omega (arith, rex_len r64 0 d, len_le 8 v))
short (load d b o) = simp length-append (omega (arith, rex_len r64 d b, mem_len d b o))
short (store b o s) = simp length-append (omega (arith, rex_len r64 s b, mem_len s b o))
short (alu w op d s) = simp length-append (omega (arith, rex_len w s d))
short (alu_imm32 op d v) = simp length-append (omega (arith, rex_len r64 0 d, len_le 4 v))
short (alu_imm8 op d v) = simp length-append (omega (arith, rex_len r64 0 d))
short (shift_cl w op d) = simp length-append (omega (arith, rex_len w 0 d))
short (shift_imm8 w op d v) = simp length-append (omega (arith, rex_len w 0 d))
short (imul w d s) = simp length-append (omega (arith, rex_len w d s))
short (movsxd d s) = simp length-append (omega (arith, rex_len r64 d s))
short (setcc_al c) = omega arith
short (movzx d s) = simp length-append (omega (arith, rex_len r64 d s))
short (cmov c d s) = simp length-append (omega (arith, rex_len r64 d s))
short (mul_div w op r) = simp length-append (omega (arith, rex_len w 0 r))
short (cqo w) = simp length-append (omega (arith, rex_len w 0 0))
short (jcc c d) = omega arith
short call_rax = omega arith
short ret = omega arith

abbrev pub fetch : Instr → Fetch
fetch i = record { instr = i; size = length (encode i) }

pub next_is : (ok : Permissions) (i : Instr) (s : State) → Ok i
    → Holds ok.fetch s.mem s.rip (encode i) → next ok s ≡ Some (fetch i)
unfolding next cut
next_is ok i s o h =
    let r = fetch_holds ok.fetch 15 s.mem s.rip (encode i) h (short i) in
    let W : List ℕ = r.0 in
    let z : length (encode i ++ W) - length W ≡ length (encode i) = rw (length-append (encode i) W) (omega arith) in
    rw (r.1, round i W o, z)

unfoldable pub one : (State → Flags) → Instr → State → State
one undefined i s = exec undefined i (past (length (encode i)) s)

abbrev pub reads : Instr → State → List ℕ
reads i s = (accesses i s).read

abbrev pub writes : Instr → State → List ℕ
writes i s = (accesses i s).written

pub step_is : (undefined : State → Flags) (ok : Permissions) (i : Instr) (s : State)
    → Ok i → Holds ok.fetch s.mem s.rip (encode i) → faults i s ≡ false → all ok.read (reads i s) ≡ true
    → all ok.write (writes i s) ≡ true → step undefined ok s ≡ Some (one undefined i s, writes i s)
unfolding step did one
step_is undefined ok i s o h f r w = rw (next_is ok i s o h) (rw (f, did) (rw (r, did) (rw w)))
