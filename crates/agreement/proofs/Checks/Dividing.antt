-- Words that divide: a turn whose block jumps over its division, to which the theorem is applied, and which words divide at all.
use Rattle.std.proofs.Common.{Bool, ◌&&◌, false, not, true, List, [], ◌∷◌, ◌∙◌, ◌≡◌, refl, ◌*◌, ◌-◌, ◌^◌, ◌≤◌, ℕ, arith, length}
use Rattle.agreement.specs.Riscv.Code.{run_at}
use Rattle.agreement.specs.Riscv.Instruction.{quotient, value_op}
use Rattle.agreement.specs.Riscv.Run.{GuestState, write_x}
use Rattle.agreement.specs.Statement.Agreement.{Agrees, after, start}
use Rattle.agreement.specs.Statement.Machine.{Event, Turn}
use Rattle.agreement.specs.Statement.Steps.{divides, undivided, unless_dividing}
use Rattle.agreement.specs.Translation.Replies.{walked}
use Rattle.agreement.specs.Translation.Walk.{instrs}
use Rattle.agreement.specs.X86.Memory.{read}
use Rattle.agreement.specs.Cases.{words}
use Rattle.agreement.proofs.Checks.CasesHold.{immediates, translations}
use Rattle.agreement.proofs.Checks.CodeChanges.{Plainly}
use Rattle.agreement.proofs.Checks.Example.{leaves, turn_of, zeros}
use Rattle.agreement.proofs.Checks.ExampleStates.{reads_a_turn}
use Rattle.agreement.proofs.Checks.PremisesMet.{applied, turn_of_meets}
use Rattle.agreement.proofs.Laws.Runs.{held}
use Rattle.agreement.proofs.Theorem.AlongTheRun.{Ends, MeetsAt, Met, ends_here, ends_plain, met_plain}
use Rattle.agreement.proofs.Theorem.Consequences.{WentPlainly, after_plain, read_as}

-- 1. DIV x2, x1, x0 at 0x80000010 with all registers 0: 34 of the block's 37 instructions are executed (Checks/ExampleRuns, `by_zero`)

abbrev dividing_run : List ℕ
dividing_run = words (0x0200C133 ∷ [])

abbrev dividing_turn : Turn
dividing_turn = turn_of 0x30018 (held 0x80000010 dividing_run) dividing_run (leaves 1 0 0 0)

abbrev d0 : GuestState
d0 = start 0x80000010 zeros

dividing_meets : MeetsAt dividing_turn 0x80000010
dividing_meets =
    turn_of_meets 0x30018 dividing_turn.code dividing_run 1 0 0 0 0x80000010
    (record { above = omega arith; fits = omega arith; aligned = refl })
    (unfold words run_at in refl) (omega arith) (omega arith) (omega arith)

dividing_plain : Plainly dividing_turn d0
unfolding reads_a_turn
dividing_plain = record { taken = refl; stops = refl }

pub dividing : Agrees 0x80000010 zeros (dividing_turn ∷ [])
dividing =
    applied 0x80000010 (dividing_turn ∷ []) (omega arith)
    (met_plain d0 dividing_turn [] dividing_meets dividing_plain.taken dividing_plain.stops (unfold Met in tt))

instructions : length (instrs 0x2222 0x1111 (walked 0x80000010 64 dividing_run)) ≡ 37
unfolding translations immediates words
instructions = refl

dividing_x2 : (read_as dividing_turn d0).registers 2 ≡ 2 ^ 64 - 1
unfolding reads_a_turn value_op quotient write_x read
dividing_x2 = refl

-- no more steps than the block has instructions; x2 all ones
pub record Divided (es : List Event) (m : GuestState) : Type 0 where
  pub e : Event
  pub events : es ≡ e ∷ []
  pub went : WentPlainly d0 dividing_turn e
  pub steps : went.was.v.steps ≤ 37
  pub x2 : read 8 went.was.v.exit.mem 0x10010 ≡ 2 ^ 64 - 1
  pub after : m.registers 2 ≡ 2 ^ 64 - 1

dividing_ends : Ends d0 (dividing_turn ∷ []) Divided
dividing_ends = ends_plain d0 dividing_turn [] Divided dividing_plain.taken dividing_plain.stops (λ e w.
    ends_here (after_plain dividing_turn d0) (λ es. Divided (e ∷ es)) (says e w))
  where
    says : (e : Event) → WentPlainly d0 dividing_turn e → Divided (e ∷ []) (after_plain dividing_turn d0)
    says e w = record {
      e = e;
      events = refl;
      went = w;
      steps = omega (arith, w.was.returns.steps.most, instructions);
      x2 = w.says.slots 2 (omega arith) ∙ dividing_x2;
      after = dividing_x2;
    }

pub divided : Divided dividing.events (after 0x80000010 zeros (dividing_turn ∷ []) dividing.events)
divided = dividing_ends _ _ dividing.events _ _ dividing.history dividing.along

-- so the machine's own slot x2 at the end is this
pub divided_x2 : read 8 dividing.rb' (8 * 2) ≡ 2 ^ 64 - 1
divided_x2 = dividing.at_slots 2 (omega arith) ∙ divided.after

-- 2. The number of steps is exact in turns that meet no word that divides. That the blocks of such turns do not jump is proved
-- (Words/Undivided); here it is computed that no other turns are left out

-- of turns that read one of these words each and then `rest`: is a word that divides met in all of them (true), in none (false)
abbrev met_in : Bool → List ℕ → List ℕ → Bool
met_in t rest [] = true
met_in true rest (w ∷ ws) = not (undivided 64 (words (w ∷ rest))) && met_in true rest ws
met_in false rest (w ∷ ws) = undivided 64 (words (w ∷ rest)) && met_in false rest ws

-- DIV, DIVU, REM, REMU, and their W forms
abbrev dividing_words : List ℕ
dividing_words = 0x0220C1B3 ∷ 0x0220D1B3 ∷ 0x0220E1B3 ∷ 0x0220F1B3 ∷ 0x0220C1BB ∷ 0x0220D1BB ∷ 0x0220E1BB ∷ 0x0220F1BB ∷ []

-- one word of every other kind, as in Checks/Vectors. The turn goes on behind OP, OP-32 and M; OP-IMM and OP-IMM-32; LUI, AUIPC, FENCE
abbrev straight_words : List ℕ
straight_words =
    0x002F80B3 ∷ 0x40DD0433 ∷ 0x018A97B3 ∷ 0x00382B33 ∷ 0x00E5BEB3 ∷ 0x019342B3 ∷ 0x0040D633 ∷ 0x40FE59B3 ∷ 0x01ABED33 ∷ 0x00597133
    ∷ 0x010684BB ∷ 0x41B4083B ∷ 0x00619BBB ∷ 0x011F5F3B ∷ 0x41CCD33B ∷ 0x027A06B3 ∷ 0x03278A3B ∷ 0x022091B3 ∷ 0x0220A1B3 ∷ 0x0220B1B3
    ∷ 0xFFF08F93 ∷ 0x8003AE13 ∷ 0x7FF6BC93 ∷ 0xEEF9CB13 ∷ 0x555CE993 ∷ 0xAAAFF813 ∷ 0x021F1113 ∷ 0x001CD313 ∷ 0x43EA5513
    ∷ 0xFFEA849B ∷ 0x01F7971B ∷ 0x0005591B ∷ 0x4112DB1B ∷ 0x800003B7 ∷ 0x80000417 ∷ 0x0FF0000F ∷ []

-- and ends behind branches; JAL, JALR, FENCE.I; loads and stores; or at ECALL, and OP with funct7 0x20 and funct3 4
abbrev ending_words : List ℕ
ending_words =
    0x81F18063 ∷ 0x7FB41FE3 ∷ 0xFF76CFE3 ∷ 0x013950E3 ∷ 0x7EFBE063 ∷ 0x00BE7F63 ∷ 0x800000EF ∷ 0x7FF900E7 ∷ 0x0000100F
    ∷ 0x000F8083 ∷ 0xFFFF1283 ∷ 0xFFEEA483 ∷ 0xFFDE3683 ∷ 0xFFCDC883 ∷ 0xFFBD5A83 ∷ 0xFFACEC83 ∷ 0x000F0023 ∷ 0xFE3E9BA3 ∷ 0xFE6E2723
    ∷ 0xFE9DB2A3 ∷ 0x00000073 ∷ 0x4020C1B3 ∷ []

-- alone, and with DIV behind them
words_pass : met_in true [] dividing_words && (met_in false [] straight_words && (met_in false [] ending_words
    && (met_in true (0x0220C1B3 ∷ []) straight_words && met_in false (0x0220C1B3 ∷ []) ending_words))) ≡ true
unfolding reads_a_turn undivided unless_dividing divides
words_pass = refl

-- DIV as the last word that the limit admits, and behind the limit; behind C.NOP; behind C.LW, at which the turn ends; its lower half
-- alone; nothing
limits_pass : not (undivided 2 (words (0x00500093 ∷ 0x0220C1B3 ∷ []))) && (undivided 1 (words (0x00500093 ∷ 0x0220C1B3 ∷ []))
    && (not (undivided 64 (0x0001 ∷ words (0x0220C1B3 ∷ []))) && (undivided 64 (0x4108 ∷ words (0x0220C1B3 ∷ []))
    && (undivided 64 (0xC1B3 ∷ []) && undivided 64 [])))) ≡ true
unfolding reads_a_turn undivided unless_dividing divides
limits_pass = refl
