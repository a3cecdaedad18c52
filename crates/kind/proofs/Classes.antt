-- Of funct7 only its class matters.
use Rattle.std.proofs.Common.{◌≡◌, refl, ◌≢◌, Bool, true, false, cond, ℕ, zero, suc, ◌+◌, ◌*◌, ◌/◌, ◌<◌, arith, ne_eqb, eqb}
use Rattle.agreement.specs.Translation.Kind.{match, kind_of, kind_op, kind_op32, kind_op_imm, kind_op_imm32}
use Rattle.agreement.proofs.Laws.Matches.{decide}
use Rattle.kind.specs.Family.{class_of}

-- a funct7 of each class
abbrev pub sample : ℕ → ℕ
sample zero = 0x00
sample (suc zero) = 0x01
sample (suc (suc zero)) = 0x20
sample (suc (suc (suc zero))) = 0x21
sample (suc (suc (suc (suc n)))) = 0x02

abbrev Alike : ℕ → ℕ → ℕ → Type 0
Alike o f s = kind_of o f s (s / 2) ≡ kind_of o f (sample (class_of s)) (sample (class_of s) / 2)

-- imm_hi, which is all of funct7 but its lowest bit
half : (s k : ℕ) → s ≢ 2 * k → s ≢ 2 * k + 1 → s / 2 ≢ k
half s k a b e = omega (arith, a, b, e)

others : (o f s : ℕ) → s ≢ 0x00 → s ≢ 0x01 → s ≢ 0x20 → s ≢ 0x21 → Alike o f s
unfolding kind_of kind_op kind_op32 kind_op_imm kind_op_imm32 match
others o f s a b c d =
    let low : s / 2 ≢ 0x00 = half s 0x00 a b in
    let high : s / 2 ≢ 0x10 = half s 0x10 c d in
    rw (ne_eqb s 0x00 a, ne_eqb s 0x01 b, ne_eqb s 0x20 c, ne_eqb s 0x21 d, ne_eqb (s / 2) 0x00 low, ne_eqb (s / 2) 0x10 high) refl

pub by_class : (o f s : ℕ) → Alike o f s
by_class o f s =
    decide s 0x00 (λ e. rw e refl) (λ a.
    decide s 0x01 (λ e. rw e refl) (λ b.
    decide s 0x20 (λ e. rw e refl) (λ c.
    decide s 0x21 (λ e. rw e refl) (λ d. others o f s a b c d))))

pub class_small : (s : ℕ) → class_of s < 5
class_small s = go (eqb s 0x00) (eqb s 0x01) (eqb s 0x20) (eqb s 0x21)
  where
    go : (a b c d : Bool) → cond a 0 (cond b 1 (cond c 2 (cond d 3 4))) < 5
    go true b c d = omega arith
    go false true c d = omega arith
    go false false true d = omega arith
    go false false false true = omega arith
    go false false false false = omega arith
