-- Laws of memory: what is read after a write, there and elsewhere.
use Rattle.std.proofs.Common.{◌≢◌, ◌∙◌, ◌≡◌, ap, refl, sym, ◌%◌, ◌*◌, ◌+◌, ◌/◌, ◌<◌, ◌^◌, ◌≤◌, suc, zero, ℕ, pow-suc, arith}
use native.Mathlib.Nat.{pow-zero}
use lib.Arith.{mod-mul}
use Rattle.agreement.specs.X86.Memory.{Memory, at, put, read, up, write}
use Rattle.agreement.proofs.Laws.Tests.{eqb_no, eqb_yes}

pub put_same : (m : Memory) (a v : ℕ) → put m a v a ≡ v
unfolding put
put_same m a v = rw (eqb_yes a a refl)

pub put_other : (m : Memory) (a v x : ℕ) → x ≢ a → put m a v x ≡ m x
unfolding put
put_other m a v x n = rw (eqb_no x a n)

pub write_out : (n : ℕ) (m : Memory) (a v x : ℕ) → a < 2 ^ 64 → ((i : ℕ) → i < n → x ≢ at a i) → write n m a v x ≡ m x
unfolding write
write_out zero m a v x f h = refl
write_out (suc n) m a v x f h =
    let k : x ≢ a = λ e. h 0 (omega arith) (omega arith) in
    rw (put_other _ a _ x k) (write_out n m (up a) (v / 256) x (omega arith) (λ i l e. h (suc i) (omega arith) (omega arith)))

pub up_at : (a i : ℕ) → a < 2 ^ 64 → at (up a) i ≡ at a (suc i)
up_at a i h = omega arith

-- equal bytes read equal
pub read-bytes : (n : ℕ) (m m' : Memory) (a : ℕ) → a < 2 ^ 64
    → ((i : ℕ) → i < n → m (at a i) % 256 ≡ m' (at a i) % 256) → read n m a ≡ read n m' a
unfolding read
read-bytes zero m m' a b h = refl
read-bytes (suc n) m m' a b h =
    let e : at a 0 ≡ a = omega arith in
    let h0 : m a % 256 ≡ m' a % 256 = rw e at (h 0 (omega arith)) in
    let r : read n m (up a) ≡ read n m' (up a) =
    read-bytes n m m' (up a) (omega arith) (λ i l. rw (up_at a i b) (h (suc i) (omega arith))) in
    rw (h0, r)

pub read_ext : (n : ℕ) (m m' : Memory) (a : ℕ) → a < 2 ^ 64 → ((i : ℕ) → i < n → m (at a i) ≡ m' (at a i)) → read n m a ≡ read n m' a
read_ext n m m' a b h = read-bytes n m m' a b (λ i l. ap (◌% 256) (h i l))

pub read-lt : (n : ℕ) (m : Memory) (a : ℕ) → read n m a < 256 ^ n
unfolding read
read-lt zero m a = rw pow-zero (omega arith)
read-lt (suc n) m a = rw pow-suc (omega (arith, read-lt n m (up a)))

pub read64_lt : (m : Memory) (a : ℕ) → read 8 m a < 2 ^ 64
read64_lt m a = read-lt 8 m a

step-le : (n v : ℕ) → v % 256 + 256 * (v / 256 % 256 ^ n) ≡ v % 256 ^ suc n
step-le n v = rw pow-suc (sym (mod-mul v {m = 256 ^ n} {c = 256} (pos n) (omega arith) ∙ omega arith))
  where
    pos : (n : ℕ) → 0 < 256 ^ n
    pos zero = rw pow-zero (omega arith)
    pos (suc n) = rw pow-suc (omega (arith, pos n))

pub read-write : (n : ℕ) (m : Memory) (a v : ℕ) → a < 2 ^ 64 → n ≤ 2 ^ 64 → read n (write n m a v) a ≡ v % 256 ^ n
unfolding read write
read-write zero m a v b h = rw pow-zero (omega arith)
read-write (suc n) m a v b h =
    let W : Memory = write n m (up a) (v / 256) in
    let p : put W a (v % 256) a ≡ v % 256 = put_same W a (v % 256) in
    let q : read n (put W a (v % 256)) (up a) ≡ read n W (up a) =
    read_ext n (put W a (v % 256)) W (up a) (omega arith) (λ i l. put_other W a (v % 256) (at (up a) i) (omega arith)) in
    let r : read n W (up a) ≡ v / 256 % 256 ^ n = read-write n m (up a) (v / 256) (omega arith) (omega arith) in
    rw (p, q, r) (let z : v % 256 % 256 ≡ v % 256 = omega arith in rw z (step-le n v))

-- a disjoint read
pub read_other : (n k : ℕ) (m : Memory) (a v x : ℕ) → a < 2 ^ 64 → x < 2 ^ 64
    → ((i j : ℕ) → i < k → j < n → at x i ≢ at a j) → read k (write n m a v) x ≡ read k m x
read_other n k m a v x b c h = read_ext k (write n m a v) m x c (λ i l. write_out n m a v (at x i) b (λ j l'. h i j l l'))

pub slot_same : (b r v : ℕ) (m : Memory) → b + 256 ≤ 2 ^ 64 → r < 32 → v < 2 ^ 64 → read 8 (write 8 m (b + 8 * r) v) (b + 8 * r) ≡ v
slot_same b r v m f l h = rw (read-write 8 m (b + 8 * r) v (omega arith) (omega arith)) (omega arith)

pub slot_other : (b r q v : ℕ) (m : Memory) → b + 256 ≤ 2 ^ 64 → r < 32 → q < 32 → q ≢ r
    → read 8 (write 8 m (b + 8 * r) v) (b + 8 * q) ≡ read 8 m (b + 8 * q)
slot_other b r q v m f l k n = read_other 8 8 m (b + 8 * r) v (b + 8 * q) (omega arith) (omega arith) (λ i j h h'. omega arith)
