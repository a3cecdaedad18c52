-- The halfwords from an index on, and what stands at their front.
use Rattle.std.proofs.Common.{bit_and, List, [], ap, arith, drop, drop-cons, drop_of_length-le, eqb, false, get_or, length, ne_eqb, refl}
use Rattle.std.proofs.Common.{suc, true, ℕ, ◌%◌, ◌*◌, ◌+◌, ◌<◌, ◌∙◌, ◌∷◌, ◌≡◌, ◌≢◌, ◌≤◌, Result, Ok}
use lib.Bits.{and_mask}
use Rattle.agreement.proofs.Laws.Fields.{word_of_is}
use Rattle.walk.specs.Fetch.{fetched}
use Rattle.walk.specs.declared.fetch.Fetched.{Fetched}
use Rattle.walk.specs.declared.fetch.Fetched.TheVariants.{Half, Word}
use Rattle.walk.specs.declared.fetch.Missing.{Missing}

-- the low two bits, by mask and by remainder
long : (h : ℕ) → h % 4 ≡ 3 → eqb (bit_and h 0x3) 0x3 ≡ true
long h e = rw (and_mask h 2, e) refl

short : (h : ℕ) → h % 4 ≢ 3 → eqb (bit_and h 0x3) 0x3 ≡ false
short h e = rw (and_mask h 2) (ne_eqb (h % 4) 3 e)

one_left : (l : List ℕ) (k : ℕ) → k < length l → length l ≤ k + 1 → drop k l ≡ get_or l k 0 ∷ []
one_left l k s t = drop-cons l k 0 s ∙ rw (drop_of_length-le l {i = suc k} (omega arith)) refl

two_left : (l : List ℕ) (k : ℕ) → k + 1 < length l → drop k l ≡ get_or l k 0 ∷ get_or l (k + 1) 0 ∷ drop (suc (suc k)) l
two_left l k s =
    let e : k + 1 ≡ suc k = omega arith in
    drop-cons l k 0 (omega arith) ∙ rw (e, drop-cons l (suc k) 0 (omega arith)) refl

pub word_there : (l : List ℕ) (k : ℕ) → k + 1 < length l → get_or l k 0 % 4 ≡ 3 → get_or l k 0 < 65536
    → Ok (Word (get_or l (k + 1) 0 * 65536 + get_or l k 0)) ≡ fetched (drop k l)
word_there l k s e b =
    rw (two_left l k s, long (get_or l k 0) e, word_of_is (get_or l k 0) (get_or l (k + 1) 0) b)
    (ap {B = Result Fetched Missing} (λ (w : ℕ). Ok (Word w)) (omega arith))

half_front : (h : ℕ) (hs : List ℕ) → h % 4 ≢ 3 → Ok (Half h) ≡ fetched (h ∷ hs)
half_front h [] e = rw (short h e) refl
half_front h (u ∷ hs) e = rw (short h e) refl

pub half_there : (l : List ℕ) (k : ℕ) → k < length l → get_or l k 0 % 4 ≢ 3 → Ok (Half (get_or l k 0)) ≡ fetched (drop k l)
half_there l k s e = rw (drop-cons l k 0 s) (half_front (get_or l k 0) (drop (suc k) l) e)
