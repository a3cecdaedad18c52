-- Laws of writing in a row, once over the bytes: what every proof of an emitting function cites, here and in the crates above.
use Rattle.std.proofs.Common.{◌≡◌, refl, sym, ap, ◌∙◌, List, [], ◌∷◌, ◌++◌, ℕ, suc, ◌+◌, add-zero, add-suc, suc-add, add_assoc}
use Rattle.std.proofs.Common.{length, set, take, drop, length-append}
use lib.Seq.{sets, sets-eq}
use Rattle.emitter.specs.Written.{Wrote, Room}

sets_append : (xs ys l : List ℕ) (i : ℕ) → sets (sets l i xs) (i + length xs) ys ≡ sets l i (xs ++ ys)
sets_append [] ys l i = rw add-zero
sets_append (x ∷ xs) ys l i =
    ap (λ (k : ℕ). sets (sets (set l i x) (suc i) xs) k ys) (add-suc i (length xs) ∙ sym (suc-add i (length xs)))
    ∙ sets_append xs ys (set l i x) (suc i)

-- no bytes
pub none : {l : List ℕ} {a : ℕ} → Wrote l a [] l a
none {a = a} = record { bytes = refl; place = sym (add-zero a); size = refl }

-- bytes, and more bytes behind them
pub ◌then◌ : {l m n : List ℕ} {a b c : ℕ} {xs ys : List ℕ} → Wrote l a xs m b → Wrote m b ys n c → Wrote l a (xs ++ ys) n c
◌then◌ {l = l} {m = m} {n = n} {a = a} {b = b} {xs = xs} {ys = ys} p q = record {
  bytes = q.bytes ∙ moved p.bytes p.place ∙ sets_append xs ys l a;
  place =
      q.place ∙ ap (λ (k : ℕ). k + length ys) p.place ∙ add_assoc a (length xs) (length ys)
      ∙ ap (λ (k : ℕ). a + k) (sym (length-append xs ys));
  size = q.size ∙ p.size;
}
  where
    moved : {m' : List ℕ} {b' : ℕ} → m ≡ m' → b ≡ b' → sets m b ys ≡ sets m' b' ys
    moved e f = cc

infixr 20 ◌then◌
-- the output in three parts: before the place, the bytes, behind them
pub parts : {l m : List ℕ} {a b : ℕ} {xs : List ℕ}
    → Room l a (length xs) → Wrote l a xs m b → m ≡ take a l ++ xs ++ drop (a + length xs) l
parts {l = l} {a = a} {xs = xs} h w = w.bytes ∙ sets-eq xs l a h.fits
