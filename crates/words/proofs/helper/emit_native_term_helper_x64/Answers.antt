use Rattle.std.proofs.Common.{[], ◌∷◌, ◌++◌}
use Rattle.agreement.specs.X86.Form.{Instr.call_rax, Instr.ret}
use Rattle.agreement.specs.Translation.Emit.{passes, add_count, closing}
use Rattle.agreement.specs.Translation.Walk.{ending}
use Rattle.words.proofs.Joined.{joined}
use Rattle.words.proofs.helper.emit_native_term_helper_x64.Goals as goal

pub returns : goal.returns
unfolding ending
returns c =
    let a = c.args in
    joined (passes a.instr a.pc a.helper ++ call_rax ∷ []) (add_count a.prefix_count ++ (closing ++ ret ∷ [])) c.helper_call.ensures
    (joined (add_count a.prefix_count) (closing ++ ret ∷ []) c.add_count.ensures.written c.x64_emit_epilogue.ensures)
