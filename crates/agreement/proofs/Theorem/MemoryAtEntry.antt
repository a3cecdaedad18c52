-- How a turn's block and register bytes stand in memory at entry.
use Rattle.std.proofs.Common.{Bool, ◌&&◌, cond, false, true, List, [], ◌++◌, ◌∷◌, ◌≢◌, ◌≡◌, refl, ◌%◌, ◌*◌, ◌+◌, ◌-◌, ◌/◌, ◌<◌, ◌^◌, ◌≤◌}
use Rattle.std.proofs.Common.{suc, zero, ℕ, mod-eq_of_lt, arith, eqb, leb, ltb, length}
use native.Mathlib.Decide.{dec_le, dec_lt}
use Rattle.agreement.specs.Statement.Machine.{RegisterBytes}
use Rattle.agreement.specs.X86.Decode.{Bytes}
use Rattle.agreement.specs.X86.Encode.{bytes, cc_number, encode, mod_mem, mod_reg, rex, shift_digit, mul_div_digit}
use Rattle.agreement.specs.X86.Form.{Cc, Instr, Ok, Width}
use Rattle.agreement.specs.X86.Form.Cc.{AE, B, E, GE, L, NE}
use Rattle.agreement.specs.X86.Form.Instr.{alu, alu_imm32, alu_imm8, call_rax, cmov, imul, load, mov, mov_imm64, movsxd, movzx, pop, push}
use Rattle.agreement.specs.X86.Form.Instr.{ret, setcc_al, shift_cl, shift_imm8, store, cqo, jcc, mul_div}
use Rattle.agreement.specs.X86.Form.Width.{r32, r64}
use Rattle.agreement.specs.X86.Memory.{Memory, at, bytes_of, nth, overlay, read, up}
use Rattle.agreement.proofs.Codec.Decoding.{digit_lt}
use Rattle.agreement.proofs.Host.Fetching.{Holds}
use Rattle.agreement.proofs.Host.Memory.{up_at}
use Rattle.agreement.proofs.Host.Straight.{AllOk}
use Rattle.agreement.proofs.Laws.Tests.{leb_no, leb_yes}

-- 1. What the encoder writes are bytes

pub small_append : (xs ys : List ℕ) → Bytes xs → Bytes ys → Bytes (xs ++ ys)
unfolding Bytes
small_append [] ys p q = q
small_append (x ∷ xs) ys p q = (p.0, small_append xs ys p.1 q)

small_number : (n v : ℕ) → Bytes (bytes_of n v)
unfolding Bytes
small_number zero v = tt
small_number (suc n) v = (omega arith, small_number n (v / 256))

small_rex : (w : Width) (r b : ℕ) → r < 16 → b < 16 → Bytes (rex w r b)
unfolding Bytes
small_rex r64 r b h k = omega arith
small_rex r32 r b h k = go (eqb (◌+◌ (4 * (r / 8)) (b / 8)) 0)
  where
    go : (t : Bool) → Bytes (cond t [] ((64 + 4 * (r / 8) + b / 8) ∷ []))
    go true = tt
    go false = omega arith

small_reg : (r b : ℕ) → mod_reg r b < 256
small_reg r b = omega arith

small_mem : (r b d : ℕ) → Bytes (mod_mem r b d)
unfolding Bytes
small_mem r b d = go (eqb (b % 8) 4)
  where
    go : (t : Bool) → Bytes (cond t ((128 + 8 * (r % 8) + 4) ∷ (32 + b % 8) ∷ bytes_of 4 d) ((128 + 8 * (r % 8) + b % 8) ∷ bytes_of 4 d))
    go true = (omega arith, (omega arith, small_number 4 d))
    go false = (omega arith, small_number 4 d)

cc_lt : (c : Cc) → cc_number c < 16
cc_lt B = omega arith
cc_lt AE = omega arith
cc_lt E = omega arith
cc_lt NE = omega arith
cc_lt L = omega arith
cc_lt GE = omega arith

-- REX, then opcode and the rest
small_after : (w : Width) (r b : ℕ) (bs : List ℕ) → r < 16 → b < 16 → Bytes bs → Bytes (rex w r b ++ bs)
small_after w r b bs h k s = small_append (rex w r b) bs (small_rex w r b h k) s

small_encode : (i : Instr) → Ok i → Bytes (encode i)
unfolding Ok Bytes
small_encode (push r) h = small_after r32 0 r _ (omega arith) h (omega arith)
small_encode (pop r) h = small_after r32 0 r _ (omega arith) h (omega arith)
small_encode (mov d s) h = omega arith
small_encode (mov_imm64 d v) h = (omega arith, (omega arith, small_number 8 v))
small_encode (load d b o) h = (omega arith, (omega arith, small_mem d b o))
small_encode (store b o s) h = (omega arith, (omega arith, small_mem s b o))
small_encode (alu w op d s) h = small_after w s d _ h.1 h.0 (omega (arith, digit_lt op), (small_reg s d, tt))
small_encode (alu_imm32 op d v) h = (omega arith, (omega arith, (omega arith, small_number 4 v)))
small_encode (alu_imm8 op d v) h = omega arith
small_encode (shift_cl w op d) h = small_after w 0 d _ (omega arith) h (omega arith, (small_reg (shift_digit op) d, tt))
small_encode (shift_imm8 w op d v) h = small_after w 0 d _ (omega arith) h.0 (omega arith, (small_reg (shift_digit op) d, (h.1, tt)))
small_encode (imul w d s) h = small_after w d s _ h.0 h.1 (omega arith, (omega arith, (small_reg d s, tt)))
small_encode (movsxd d s) h = omega arith
small_encode (setcc_al c) h = omega (arith, cc_lt c)
small_encode (movzx d s) h = omega arith
small_encode (cmov c d s) h = omega (arith, cc_lt c)
small_encode (mul_div w op r) h = small_after w 0 r _ (omega arith) h (omega arith, (small_reg (mul_div_digit op) r, tt))
small_encode (cqo w) h = small_after w 0 0 _ (omega arith) (omega arith) (omega arith, tt)
small_encode (jcc c d) h = omega (arith, cc_lt c)
small_encode call_rax h = omega arith
small_encode ret h = omega arith

pub small_bytes : (is : List Instr) → AllOk is → Bytes (bytes is)
unfolding AllOk Bytes
small_bytes [] h = tt
small_bytes (i ∷ is) h = small_append (encode i) (bytes is) (small_encode i h.0) (small_bytes is h.1)

-- 2. Overlays

pub overlay_in : (m : Memory) (b n : ℕ) (f : ℕ → ℕ) (i : ℕ) → i < n → overlay m b n f (b + i) ≡ f i
unfolding overlay
overlay_in m b n f i l =
    let z : b + i - b ≡ i = omega arith in
    rw (leb_yes b (b + i) (omega arith)) (rw (leb_yes (suc (b + i)) (b + n) (omega arith)) (rw z))

pub overlay_out : (m : Memory) (b n : ℕ) (f : ℕ → ℕ) (x : ℕ) → ((i : ℕ) → i < n → x ≢ b + i) → overlay m b n f x ≡ m x
unfolding overlay
overlay_out m b n f x h = go (dec_le b x) (dec_lt x (b + n))
  where
    go : Dec (b ≤ x) → Dec (x < b + n) → cond (leb b x && ltb x (b + n)) (f (x - b)) (m x) ≡ m x
    go (yes p) (yes q) = absurd (h (x - b) (omega arith) (omega arith))
    go (no p) d = rw (leb_no b x (omega arith))
    go (yes p) (no q) = rw (leb_yes b x p) (rw (leb_no (suc x) (b + n) (omega arith)))

-- the code stands where it was laid
stands : (may : ℕ → Bool) (m : Memory) (a : ℕ) (bs : List ℕ) → a + length bs ≤ 2 ^ 64 → Bytes bs
    → ((i : ℕ) → i < length bs → may (a + i) ≡ true) → ((i : ℕ) → i < length bs → m (a + i) ≡ nth bs i) → Holds may m a bs
unfolding Holds Bytes nth
stands may m a [] f s o h = tt
stands may m a (b ∷ []) f s o h =
    let z : a + 0 ≡ a = omega arith in
    let e : m a ≡ b = rw z at (h 0 (omega arith)) in
    (rw z at (o 0 (omega arith)), rw e (mod-eq_of_lt s.0), tt)
stands may m a (b ∷ c ∷ bs) f s o h =
    let z : a + 0 ≡ a = omega arith in
    let e : m a ≡ b = rw z at (h 0 (omega arith)) in
    let y : up a ≡ a + 1 = omega arith in
    let rest : Holds may m (a + 1) (c ∷ bs) = stands may m (a + 1) (c ∷ bs) (omega arith) s.1
    (λ i l. rw (next i) (o (suc i) (omega arith))) (λ i l. rw (next i) (h (suc i) (omega arith))) in
    (rw z at (o 0 (omega arith)), rw e (mod-eq_of_lt s.0), rw y rest)
  where
    next : (i : ℕ) → a + 1 + i ≡ a + suc i
    next i = omega arith

pub laid : (may : ℕ → Bool) (m : Memory) (c : ℕ) (code : List ℕ) → c + length code ≤ 2 ^ 64 → Bytes code
    → ((i : ℕ) → i < length code → may (c + i) ≡ true) → Holds may (overlay m c (length code) (nth code)) c code
laid may m c code f s o =
    stands may (overlay m c (length code) (nth code)) c code f s o (λ i l. overlay_in m c (length code) (nth code) i l)

-- 3. A slot, in memory and among the register bytes

-- the same bytes at two addresses
read_shift : (n : ℕ) (m m' : Memory) (a a' : ℕ) → a < 2 ^ 64 → a' < 2 ^ 64
    → ((i : ℕ) → i < n → m (at a i) ≡ m' (at a' i)) → read n m a ≡ read n m' a'
unfolding read
read_shift zero m m' a a' b b' h = refl
read_shift (suc n) m m' a a' b b' h =
    let e : at a 0 ≡ a = omega arith in
    let e' : at a' 0 ≡ a' = omega arith in
    let h0 : m a ≡ m' a' = rw (e, e') at (h 0 (omega arith)) in
    let r : read n m (up a) ≡ read n m' (up a') =
    read_shift n m m' (up a) (up a') (omega arith) (omega arith) (λ i l. rw (up_at a i b, up_at a' i b') (h (suc i) (omega arith))) in
    rw (h0, r)

pub slot_shift : (m : Memory) (rb : RegisterBytes) (b r : ℕ) → b + 256 ≤ 2 ^ 64 → r < 32
    → ((i : ℕ) → i < 256 → m (b + i) ≡ rb i) → read 8 m (b + 8 * r) ≡ read 8 rb (8 * r)
slot_shift m rb b r f l h = read_shift 8 m rb (b + 8 * r) (8 * r) (omega arith) (omega arith) (λ i k.
    let q : at (b + 8 * r) i ≡ b + (8 * r + i) = omega arith in
    let q' : at (8 * r) i ≡ 8 * r + i = omega arith in
    rw (q, q') (h (8 * r + i) (omega arith)))
