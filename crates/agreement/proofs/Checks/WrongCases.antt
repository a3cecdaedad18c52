-- The list of cases is all of it, and a wrong case does not hold: of each sort one with every part that could be wrong.
use Rattle.std.proofs.Common.{Bool, false, not, true, ◌&&◌, List, [], ◌∷◌, ◌++◌, ◌≡◌, refl, ◌-◌, ◌^◌, ℕ, length}
use Rattle.agreement.specs.Cases.{Case, Case.immediate, Case.placing, Case.same, Case.translation, CasesHold, Format.B, Format.I}
use Rattle.agreement.specs.Cases.{cases, dump, every, framed, holds, words}
use Rattle.agreement.specs.Translation.Place.{place, placing_numbered}
use Rattle.agreement.proofs.Checks.CasesHold.{cases_hold, immediates, tests, translations}

all_hold : every cases ≡ true
unfolding CasesHold
all_hold = cases_hold

all_are_26 : length cases ≡ 26
unfolding cases
all_are_26 = refl

-- the blocks of JAL x0, 0 and of ADDI x1, x0, 5 in the list
abbrev jal : List ℕ
jal = framed (dump 20 0x48B80000008000000000_48BA0100000000000000)

unfoldable none_holds : List Case → Bool
none_holds [] = true
none_holds (c ∷ cs) = not (holds c) && none_holds cs

wrong : List Case
wrong =
    -- a value too great
    immediate I 0x7FF00000 2048
    ∷ immediate B 0xFE000EE3 (2 ^ 64 - 2)
    -- number, length, count, span, a missing value, one too many, a byte, a missing byte, another refusal
    ∷ translation 0x80000000 64 (words (0x0000006F ∷ [])) 1 (67 ∷ 1 ∷ 4 ∷ []) jal
    ∷ translation 0x80000000 64 (words (0x0000006F ∷ [])) 0 (68 ∷ 1 ∷ 4 ∷ []) jal
    ∷ translation 0x80000000 64 (words (0x0000006F ∷ [])) 0 (67 ∷ 2 ∷ 4 ∷ []) jal
    ∷ translation 0x80000000 64 (words (0x0000006F ∷ [])) 0 (67 ∷ 1 ∷ 2 ∷ []) jal
    ∷ translation 0x80000000 64 (words (0x0000006F ∷ [])) 0 (67 ∷ 1 ∷ []) jal
    ∷ translation 0x80000000 64 (words (0x0000006F ∷ [])) 0 (67 ∷ 1 ∷ 4 ∷ 0 ∷ []) jal
    ∷ translation 0x80000000 64 (words (0x0000006F ∷ [])) 0 (67 ∷ 1 ∷ 4 ∷ [])
    (framed (dump 20 0x48B80000008000000001_48BA0100000000000000))
    ∷ translation 0x80000000 64 (words (0x0000006F ∷ [])) 0 (67 ∷ 1 ∷ 4 ∷ []) []
    ∷ translation 0x80000000 64 (words (0x0000006F ∷ [])) 0 (67 ∷ 1 ∷ 4 ∷ []) (jal ++ 0 ∷ [])
    ∷ translation 0x80000000 64 (words (0x4020C1B3 ∷ [])) 4 (0x4020C1B2 ∷ []) []
    -- another start, another limit
    ∷ translation 0x80000004 64 (words (0x0000006F ∷ [])) 0 (67 ∷ 1 ∷ 4 ∷ []) jal
    ∷ translation 0x80000000 0 (words (0x0000006F ∷ [])) 0 (67 ∷ 1 ∷ 4 ∷ []) jal
    -- two runs whose blocks differ
    ∷ same 0x80000000 64 (words (0x00500093 ∷ 0x00500093 ∷ [])) (words (0x00500093 ∷ []))
    -- offset, mark, number, a missing value
    ∷ placing 5 67 75 0 (16 ∷ 75 ∷ [])
    ∷ placing 5 67 75 0 (8 ∷ 74 ∷ [])
    ∷ placing 5 67 75 7 (8 ∷ 75 ∷ [])
    ∷ placing 5 67 75 0 (8 ∷ []) ∷ []

none_of_them : none_holds wrong ≡ true
unfolding immediates translations tests placing_numbered place holds none_holds wrong
none_of_them = refl

-- a wrong case behind a right one counts
second_counts : every (placing 5 67 74 7 [] ∷ placing 5 67 74 0 [] ∷ []) ≡ false
unfolding tests placing_numbered place holds every
second_counts = refl
