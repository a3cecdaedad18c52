use Rattle.std.proofs.Common.{◌≡◌, ◌≢◌, Bool, true, false, ℕ, [], rules, ne_eqb}
use Rattle.agreement.specs.Translation.Kind.{kind_op, kind_op32, match}
use Rattle.words.specs.Word.{kind_op_of, op_body, not_emitted}
use Rattle.agreement.proofs.Laws.Tests.{cond_same}
use Rattle.words.proofs.op.op_on_r10.Goals as goal

other_funct7 : (w : Bool) (f s : ℕ) → s ≢ 0x00 → s ≢ 0x20 → s ≢ 0x01 → op_body (kind_op_of w f s) ≡ not_emitted []
unfolding kind_op kind_op32 match
other_funct7 true f s a b c = simp (ne_eqb s 0x00 a, ne_eqb s 0x20 b, ne_eqb s 0x01 c, cond_same)
other_funct7 false f s a b c = simp (ne_eqb s 0x00 a, ne_eqb s 0x20 b, ne_eqb s 0x01 c, cond_same)

pub returns-in_default : goal.returns-in_default
returns-in_default g c =
    let a = c.args in
    rw (other_funct7 _ a.funct3 a.funct7 (search rules) (search rules) (search rules)) (search rules)
