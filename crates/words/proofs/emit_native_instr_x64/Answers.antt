-- The word by its fields is the word that `kind` names.
use Rattle.std.proofs.Common.{ap, ◌∙◌, subst, rules}
use Rattle.decode.specs.declared.Decoded32.{Decoded32}
use Rattle.words.specs.Word.{Word, Emits, word_by}
use Rattle.words.proofs.Opcodes.{word_is}
use Rattle.words.proofs.emit_native_instr_x64.Goals as goal

pub returns : goal.returns
returns c =
    let a = c.args in
    let named = ap (λ (d : Decoded32). word_by a.size a.pc a.instr d) c.decode32-d.ensures ∙ word_is a.size a.pc a.instr (search rules) in
    subst (λ (w : Word). Emits a.em.now w c.emit_by_opcode.new.em c.emit_by_opcode.result) named c.emit_by_opcode.ensures
