-- The bytes of a number, the least significant first: how many they are, and one more behind k others.
use Rattle.std.proofs.Common.{◌≡◌, refl, sym, ap, ◌∙◌, List, [], ◌∷◌, ◌++◌, ℕ, zero, suc, ◌/◌, ◌%◌, ◌^◌, div-one, pow-suc, length}
use native.Mathlib.Nat.{div-div-eq-div-mul, pow-succ'}
use Rattle.agreement.specs.X86.Memory.{bytes_of}

pub len_le : (n v : ℕ) → length (bytes_of n v) ≡ n
len_le zero v = refl
len_le (suc n) v = ap suc (len_le n (v / 256))

-- a number divided by 256 once more: before k other divisions, and behind them
divided_before : (k v : ℕ) → v / 256 / 256 ^ k ≡ v / 256 ^ suc k
divided_before k v = div-div-eq-div-mul v 256 (256 ^ k) ∙ ap (λ (n : ℕ). v / n) (sym (pow-succ' 256 k))

pub divided_behind : (k v : ℕ) → v / 256 ^ k / 256 ≡ v / 256 ^ suc k
divided_behind k v = div-div-eq-div-mul v (256 ^ k) 256 ∙ ap (λ (n : ℕ). v / n) (sym (pow-suc 256 k))

-- the byte behind k others is the lowest of what k divisions leave
pub byte_behind : (k v : ℕ) → bytes_of k v ++ (v / 256 ^ k % 256 ∷ []) ≡ bytes_of (suc k) v
byte_behind zero v = ap (λ (n : ℕ). n % 256 ∷ []) (div-one v)
byte_behind (suc k) v =
    ap (λ (bs : List ℕ). v % 256 ∷ bs)
    (ap (λ (q : ℕ). bytes_of k (v / 256) ++ (q % 256 ∷ [])) (sym (divided_before k v)) ∙ byte_behind k (v / 256))
