-- Bytes, addresses and memory. Intel SDM volume 1, "Memory Organization" and "Bit and Byte Order".
use Rattle.std.specs.Prelude.{cond, ◌&&◌, List, [], ◌∷◌, ℕ, zero, suc, ◌+◌, ◌-◌, ◌*◌, ◌/◌, ◌%◌, ◌^◌, leb, ltb, eqb}

-- a memory gives a number for an address; its byte is that number modulo 256, and readers below take it so
abbrev pub Memory : Type 0
Memory = ℕ → ℕ

-- addresses go on from 2^64 - 1 to 0: the address i past a, and the next one
abbrev pub at : ℕ → ℕ → ℕ
at a i = (a + i) % 2 ^ 64

abbrev pub up : ℕ → ℕ
up a = (a + 1) % 2 ^ 64

-- the n bytes of a number, the least significant first
abbrev pub bytes_of : ℕ → ℕ → List ℕ
bytes_of zero v = []
bytes_of (suc n) v = v % 256 ∷ bytes_of n (v / 256)

unfoldable pub put : Memory → ℕ → ℕ → Memory
put m a v x = cond (eqb x a) v (m x)

-- the number in the n bytes from a
unfoldable pub read : ℕ → Memory → ℕ → ℕ
read zero m a = 0
read (suc n) m a = m a % 256 + 256 * read n m (up a)

unfoldable pub write : ℕ → Memory → ℕ → ℕ → Memory
write zero m a v = m
write (suc n) m a v = put (write n m (up a) (v / 256)) a (v % 256)

-- the n addresses from a
unfoldable pub span : ℕ → ℕ → List ℕ
span zero a = []
span (suc n) a = a ∷ span n (up a)

-- the first n numbers of f laid over m from b on. It does not wrap: the premises on layout keep b + n within 2^64.
unfoldable pub overlay : Memory → ℕ → ℕ → (ℕ → ℕ) → Memory
overlay m b n f x = cond (leb b x && ltb x (b + n)) (f (x - b)) (m x)

unfoldable pub nth : List ℕ → ℕ → ℕ
nth [] i = 0
nth (b ∷ bs) zero = b
nth (b ∷ bs) (suc i) = nth bs i
