-- Marks are being cleared, and entry i is next: those before it are done, and the others are as they were.
use Rattle.std.specs.List.{count_by}
use Rattle.std.proofs.Common.{◌≡◌, sym, ap, ◌∙◌, Bool, true, false, cond, List, [], ◌∷◌, ◌++◌, map, length, take, drop, set, get_or}
use Rattle.std.proofs.Common.{ℕ, ◌+◌, ◌<◌, ◌≤◌, arith, add-zero}
use Rattle.std.proofs.lemmas.List.{map_more, drop-set-lt, get_or-drop, length-take}
use Rattle.std.proofs.lemmas.List.Sums.{count_by_more_yes, count_by_more_no, count_by-le-length}
use Rattle.std.proofs.lemmas.Grind.{take-set_at, drop_more_same}
use Rattle.entry.specs.Index.{freed, is_dropped}
use Rattle.entry.specs.declared.Entry.{Entry}

-- xs is what was lent, and the entries are now ys; an entry becomes what f makes of it
pub record Cleared (f : Entry → Entry) (xs ys : List Entry) (i : ℕ) : Type 0 where
  pub cleared : take i ys ≡ map f (take i xs)
  pub rest : drop i ys ≡ drop i xs

first : (xs : List Entry) (i : ℕ) (d : Entry) → get_or (drop i xs) 0 d ≡ get_or xs i d
first xs i d = get_or-drop i xs 0 d ∙ ap (λ (n : ℕ). get_or xs n d) (add-zero i)

-- what a drop makes of an entry
abbrev pub if_dropped : ℕ → ℕ → Entry → Entry
if_dropped a n e = cond (is_dropped a n e) (freed e) e

-- and m of the entries before i were dropped
pub record Dropped (a n : ℕ) (xs ys : List Entry) (i m : ℕ) : Type 0 where
  pub entries : Cleared (if_dropped a n) xs ys i
  pub counted : m ≡ count_by (is_dropped a n) (take i xs)

pub few_dropped : (a n : ℕ) (xs ys : List Entry) (i m : ℕ) → Dropped a n xs ys i m → m ≤ i
few_dropped a n xs ys i m c = omega (arith, c.counted, count_by-le-length (is_dropped a n) (take i xs), length-take i xs)

module _ (xs ys ys' : List Entry) (i : ℕ) (d : Entry) (h : i < length xs) (l : length ys ≡ length xs) where
  same_next : (f : Entry → Entry) → Cleared f xs ys i → get_or ys i d ≡ get_or xs i d
  same_next f c = sym (first ys i d) ∙ ap (λ (zs : List Entry). get_or zs 0 d) c.rest ∙ first xs i d

  pub one_cleared : (f : Entry → Entry) → Cleared f xs ys i → ys' ≡ set ys i (f (get_or ys i d)) → Cleared f xs ys' (i + 1)
  one_cleared f c e = record {
    cleared =
        ap (take (i + 1)) e
        ∙ take-set_at ys i (i + 1) (f (get_or ys i d)) (omega arith) (omega arith)
        ∙ ap (λ (zs : List Entry). zs ++ f (get_or ys i d) ∷ []) c.cleared
        ∙ ap (λ (z : Entry). map f (take i xs) ++ f z ∷ []) (same_next f c)
        ∙ sym (map_more f xs i d h);
    rest = ap (drop (i + 1)) e ∙ drop-set-lt (i + 1) ys i (f (get_or ys i d)) (omega arith) ∙ drop_more_same ys xs i c.rest;
  }

  module _ (a n m m' : ℕ) (c : Dropped a n xs ys i m) where
    counts : (b : Bool) → is_dropped a n (get_or xs i d) ≡ b → cond b (m + 1) m ≡ count_by (is_dropped a n) (take (i + 1) xs)
    counts true t = ap (λ (k : ℕ). k + 1) c.counted ∙ sym (count_by_more_yes (is_dropped a n) xs i d h t)
    counts false t = c.counted ∙ sym (count_by_more_no (is_dropped a n) xs i d h t)

    pub one_dropped : (b : Bool) → b ≡ is_dropped a n (get_or ys i d)
        → ys' ≡ set ys i (cond b (freed (get_or ys i d)) (get_or ys i d)) → m' ≡ cond b (m + 1) m → Dropped a n xs ys' (i + 1) m'
    one_dropped b t e f = record {
      entries =
          one_cleared (if_dropped a n) c.entries
          (e ∙ ap (λ (b' : Bool). set ys i (cond b' (freed (get_or ys i d)) (get_or ys i d))) t);
      counted = f ∙ counts b (sym (t ∙ ap (is_dropped a n) (same_next (if_dropped a n) c.entries)));
    }
