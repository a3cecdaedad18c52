-- Runs of the guest's code: code that has changed elsewhere has the same run, and every run is the run of some code.
use Rattle.std.proofs.Common.{◌≡◌, refl, ap, ◌∙◌, ◌≢◌, cond, List, [], ◌∷◌, ℕ, zero, suc, ◌+◌, ◌*◌, ◌/◌, ◌%◌, ◌^◌, ◌≤◌, ◌<◌, arith, eqb, drop}
use Rattle.std.specs.Prelude.{Option, None, Some}
use Rattle.std.proofs.Common.{length, sym, take}
use Rattle.agreement.specs.Riscv.Code.{Code, SameIn, front, run_at}
use Rattle.agreement.specs.Riscv.Fields.{plus}
use Rattle.agreement.specs.Laws.{Halfwords, RunsAlike, RunsHeld}
use Rattle.agreement.proofs.Laws.Tests.{eqb_no, eqb_yes}

-- the k-th address behind the next one is the k + 1st
further : (pc k : ℕ) → (plus pc 2 + 2 * k) % 2 ^ 64 ≡ (pc + 2 * suc k) % 2 ^ 64
further pc k = omega arith

-- and that is not pc, unless it has gone all the way round
not_back : (pc k : ℕ) → suc k < 2 ^ 63 → (pc + 2 * suc k) % 2 ^ 64 ≢ pc
not_back pc k l e = go ((pc + 2 * suc k) / 2 ^ 64) refl
  where
    go : (q : ℕ) → (pc + 2 * suc k) / 2 ^ 64 ≡ q → ⊥
    go zero z = omega (arith, l, e, z)
    go (suc q) z = omega (arith, l, e, z)

alike : (c d : Code) (pc n : ℕ) → pc < 2 ^ 64
    → ((k : ℕ) → k < n → c ((pc + 2 * k) % 2 ^ 64) ≡ d ((pc + 2 * k) % 2 ^ 64)) → run_at c pc n ≡ run_at d pc n
unfolding run_at
alike c d pc zero low h = refl
alike c d pc (suc n) low h =
    ap (λ (o : Option ℕ). front o (run_at c (plus pc 2) n)) first
    ∙ ap (front (d pc)) (alike c d (plus pc 2) n (omega arith) later)
  where
    first : c pc ≡ d pc
    first = let e : (pc + 2 * 0) % 2 ^ 64 ≡ pc = omega (arith, low) in rw e at (h 0 (omega arith))

    later : (k : ℕ) → k < n → c ((plus pc 2 + 2 * k) % 2 ^ 64) ≡ d ((plus pc 2 + 2 * k) % 2 ^ 64)
    later k l = rw (further pc k) (h (suc k) (omega (arith, l)))

-- of codes that have the same in the bytes of m halfwords from pc on, those halfwords, where the one has them
pub front_alike : (c d : Code) (pc m i j : ℕ) → pc < 2 ^ 64 → m ≤ length (run_at c pc i) → m ≤ j → SameIn pc (2 * m) c d
    → take m (run_at d pc j) ≡ take m (run_at c pc i)
unfolding run_at
front_alike c d pc zero i j low a b h = refl
front_alike c d pc (suc m) zero j low a b h = absurd (omega (arith, a))
front_alike c d pc (suc m) (suc i) zero low a b h = absurd (omega (arith, b))
front_alike c d pc (suc m) (suc i) (suc j) low a b h =
    go (c pc) a first (λ l. front_alike c d (plus pc 2) m i j (omega arith) l (omega (arith, b)) later)
  where
    first : d pc ≡ c pc
    first = let e : (pc + 2 * 0) % 2 ^ 64 ≡ pc = omega (arith, low) in ap d (sym e) ∙ sym (h 0 (omega arith)) ∙ ap c e

    later : SameIn (plus pc 2) (2 * m) c d
    later k l = ap c (further pc k) ∙ h (suc k) (omega (arith, l)) ∙ ap d (sym (further pc k))

    go : (o : Option ℕ) → suc m ≤ length (front o (run_at c (plus pc 2) i)) → d pc ≡ o
        → (m ≤ length (run_at c (plus pc 2) i) → take m (run_at d (plus pc 2) j) ≡ take m (run_at c (plus pc 2) i))
        → take (suc m) (front (d pc) (run_at d (plus pc 2) j)) ≡ take (suc m) (front o (run_at c (plus pc 2) i))
    go None s e r = absurd (omega (arith, s))
    go (Some x) s e r = rw e (ap (λ (l : List ℕ). x % 2 ^ 16 ∷ l) (r (omega (arith, s))))

-- a run is made of halfwords, whatever the code
pub run_halfwords : (c : Code) (pc n : ℕ) → Halfwords (run_at c pc n)
unfolding run_at Halfwords
run_halfwords c pc zero = tt
run_halfwords c pc (suc n) = go (c pc) (run_halfwords c (plus pc 2) n)
  where
    go : (o : Option ℕ) → Halfwords (run_at c (plus pc 2) n) → Halfwords (front o (run_at c (plus pc 2) n))
    go None r = tt
    go (Some h) r = (omega arith, r)

-- the front of a run of halfwords, and what follows it
pub halfwords_front : (g : ℕ) (hs : List ℕ) → Halfwords (g ∷ hs) → g < 2 ^ 16
unfolding Halfwords
halfwords_front g hs l = l.0

pub halfwords_tail : (g : ℕ) (hs : List ℕ) → Halfwords (g ∷ hs) → Halfwords hs
unfolding Halfwords
halfwords_tail g hs l = l.1

pub halfwords_drop : (g : ℕ) (hs : List ℕ) → Halfwords (g ∷ hs) → Halfwords (drop 1 hs)
unfolding Halfwords
halfwords_drop g [] l = tt
halfwords_drop g (u ∷ hs) l = l.1.1

pub runs_alike : RunsAlike
unfolding RunsAlike
runs_alike = alike

-- the code that has the run hs at pc, and nothing else
abbrev pub held : ℕ → List ℕ → Code
held pc [] x = None
held pc (h ∷ hs) x = cond (eqb x pc) (Some h) (held (plus pc 2) hs x)

held_run : (pc : ℕ) (hs : List ℕ) → pc < 2 ^ 64 → length hs ≤ 2 ^ 63 → Halfwords hs → run_at (held pc hs) pc (length hs) ≡ hs
unfolding run_at Halfwords
held_run pc [] low l t = refl
held_run pc (h ∷ hs) low l t = first (held_run (plus pc 2) hs (omega arith) (omega (arith, l)) t.1)
  where
    -- none of the addresses behind pc is pc
    behind : (k : ℕ) → k < length hs
        → held pc (h ∷ hs) ((plus pc 2 + 2 * k) % 2 ^ 64) ≡ held (plus pc 2) hs ((plus pc 2 + 2 * k) % 2 ^ 64)
    behind k m =
        rw (eqb_no ((plus pc 2 + 2 * k) % 2 ^ 64) pc (λ e. not_back pc k (omega (arith, l, m)) (rw (further pc k) at e))) refl

    first : run_at (held (plus pc 2) hs) (plus pc 2) (length hs) ≡ hs → run_at (held pc (h ∷ hs)) pc (suc (length hs)) ≡ h ∷ hs
    first rest =
        let e : h % 2 ^ 16 ≡ h = omega (arith, t.0) in
        rw (eqb_yes pc pc refl, run_at)
        (rw e (ap (h ∷◌) (alike (held pc (h ∷ hs)) (held (plus pc 2) hs) (plus pc 2) (length hs) (omega arith) behind ∙ rest)))

pub runs_held : RunsHeld
unfolding RunsHeld
runs_held pc hs low l t = record { code = held pc hs; run = held_run pc hs low l t }
