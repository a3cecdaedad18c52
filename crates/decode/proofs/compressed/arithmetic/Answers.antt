use Rattle.std.proofs.Common.{◌≡◌, ℕ, ◌+◌, ◌*◌, ◌<◌, zero, suc, ap, refl, arith, rules}
use Rattle.std.specs.Prelude.{Some}
use Rattle.agreement.specs.Translation.Decode16.{part, match, shamt, rd3, arithmetic}
use Rattle.decode.proofs.compressed.arithmetic.Goals as goal

-- rows 0 and 1 are one sum
shifts : (h n : ℕ) → part h 10 2 ≡ n → n < 2 → Some (shamt h + rd3 h * 0x8080 + 0x5013 + n * 0x40000000) ≡ arithmetic h
unfolding match
shifts h zero e l = rw e (ap (λ (w : ℕ). Some w) (omega arith))
shifts h (suc zero) e l = rw e (ap (λ (w : ℕ). Some w) (omega arith))
shifts h (suc (suc n)) e l = absurd (omega (arith, l))

pub returns-then-row-eq3 : goal.returns-then-row-eq3
unfolding match
returns-then-row-eq3 c = let e : part c.args.h 10 2 ≡ 3 = omega (arith, c.if-row-eq3.true) in rw e c.registers.ensures

pub returns-then-row-eq2 : goal.returns-then-row-eq2
unfolding match
returns-then-row-eq2 c = let e : part c.args.h 10 2 ≡ 2 = omega (arith, c.if-row-eq2.true) in rw e (search rules)

pub returns : goal.returns
returns c =
    rw (c.shamt.ensures, c.rd3-2.ensures)
    (shifts c.args.h (part c.args.h 10 2) refl (omega (arith, c.if-row-eq3.false, c.if-row-eq2.false)))
