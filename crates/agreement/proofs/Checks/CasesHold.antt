-- The P cases of document 01 hold of the definitions, by computing their one test.
use Rattle.std.proofs.Common.{◌≡◌, refl}
use Rattle.agreement.specs.Riscv.Immediates as Manual
use Rattle.agreement.specs.Translation.Decode16 as Decode16
use Rattle.agreement.specs.Translation.Decode32 as Decode32
use Rattle.agreement.specs.Translation.Kind.{match, kind_op, kind_op32, kind_op_imm, kind_op_imm32, kind_branch, kind_load, kind_store}
use Rattle.agreement.specs.Translation.Kind.{kind_fence, kind_of, kind}
use Rattle.agreement.specs.Translation.Emit.{leftover}
use Rattle.agreement.specs.Translation.Walk.{emit, walk, ending, instrs, counted}
use Rattle.agreement.specs.Translation.Replies.{rules, numbered, first_word, first, by_first, translate}
use Rattle.agreement.specs.Translation.Place.{placing_numbered, place}
use Rattle.agreement.specs.Cases.{by_manual, by_rust, equal, code_of, is_reply, holds, every, dump, framed, copies, words, cases, CasesHold}

-- whoever unfolds these unfolds what they name: the immediates of both sides; a translation; how a case is written and tested
unfoldable pub immediates : Unit {0}
unfolding
    Manual.sign_extend
    Decode32.sign_extend Decode32.imm_i Decode32.imm_s Decode32.imm_b Decode32.imm_u Decode32.imm_j
immediates = tt

unfoldable pub translations : Unit {0}
unfolding
    Decode32.word_of Decode32.opcode Decode32.rd Decode32.funct3 Decode32.rs1 Decode32.rs2 Decode32.funct7
    Decode32.imm12 Decode32.imm_hi Decode32.shamt Decode32.shamt_w Decode32.imm32
    Decode16.match Decode16.expand_by Decode16.expand match kind_op kind_op32 kind_op_imm kind_op_imm32 kind_branch kind_load kind_store
    kind_fence kind_of kind leftover emit walk ending instrs counted numbered first_word first by_first translate
translations = tt

unfoldable pub tests : Unit {0}
unfolding by_manual by_rust equal code_of is_reply dump framed copies words
tests = tt

pub cases_hold : CasesHold
unfolding immediates translations tests placing_numbered place holds every cases CasesHold
cases_hold = refl

-- document 02, Q-7: the number that callers compare
rules_are : rules ≡ 7
rules_are = refl
