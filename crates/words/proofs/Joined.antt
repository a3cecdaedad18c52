-- Instructions written one behind another: what search does not find by computing, since the count of the first bytes depends on a
-- register.
use Rattle.std.proofs.Common.{◌≡◌, false, cond, ℕ, eqb, List, [], ◌++◌, sym, ◌∙◌, subst}
use Rattle.agreement.specs.X86.Form.{Instr}
use Rattle.agreement.specs.X86.Encode.{bytes}
use Rattle.agreement.proofs.Codec.Joined.{bytes-append}
use Rattle.emitter.specs.Written.{Emitter, Writes}
use Rattle.emitter.proofs.WriteLaws.{◌then◌}

-- instructions are written for a register that is not x0: `code_const`, `jalr_link`
pub at_other : {e f : Emitter} (n : ℕ) (is : List Instr)
    → false ≡ eqb n 0 → Writes e (bytes is) f → Writes e (bytes (cond (eqb n 0) [] is)) f
at_other n is h w = rw (sym h) w

-- instructions, then more of them
pub joined : {e f g : Emitter} (is js : List Instr) → Writes e (bytes is) f → Writes f (bytes js) g → Writes e (bytes (is ++ js)) g
joined {e = e} {g = g} is js p q =
    subst (λ (bs : List ℕ). Writes e bs g) (sym (bytes-append is js)) (record {
      wrote = p.wrote then q.wrote;
      same_output = q.same_output ∙ p.same_output;
    })
