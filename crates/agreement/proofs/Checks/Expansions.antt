-- The words that halfwords expand to, as GNU objdump and as give them: every bit of each immediate by itself, and what is reserved. That
-- the translator's expansion is this one is a theorem (Laws/Expanding); a change of both alike is noticed here. All 49,152 halfwords are
-- compared with such words outside (checks/compressed.py).
use Rattle.std.proofs.Common.{◌≡◌, refl, Bool, true, false, ◌&&◌, List, [], ◌∷◌, ℕ, eqb}
use Rattle.std.specs.Prelude.{Option, None, Some}
use Rattle.agreement.specs.Riscv.Compressed.{expansion, expansion_by, find}
use Rattle.agreement.proofs.Checks.CasesHold.{immediates}

pub record Expands : Type 0 where
  pub halfword : ℕ
  pub word : ℕ

infix 80 ◌⇒◌
abbrev ◌⇒◌ : ℕ → ℕ → Expands
◌⇒◌ h w = record { halfword = h; word = w }

abbrev is : Option ℕ → ℕ → Bool
is None w = false
is (Some v) w = eqb v w

abbrev is_reserved : Option ℕ → Bool
is_reserved None = true
is_reserved (Some w) = false

unfoldable every : List Expands → Bool
every [] = true
every (e ∷ es) = is (expansion e.halfword) e.word && every es

unfoldable all_reserved : List ℕ → Bool
all_reserved [] = true
all_reserved (h ∷ hs) = is_reserved (expansion h) && all_reserved hs

expansions : List Expands
expansions =
    -- C.ADDI4SPN x8, imm[2] up to imm[9]
    0x0040 ⇒ 0x00410413 ∷ 0x0020 ⇒ 0x00810413 ∷ 0x0800 ⇒ 0x01010413 ∷ 0x1000 ⇒ 0x02010413
    ∷ 0x0080 ⇒ 0x04010413 ∷ 0x0100 ⇒ 0x08010413 ∷ 0x0200 ⇒ 0x10010413 ∷ 0x0400 ⇒ 0x20010413
    -- C.LI x1, imm[0] up to imm[5]
    ∷ 0x4085 ⇒ 0x00100093 ∷ 0x4089 ⇒ 0x00200093 ∷ 0x4091 ⇒ 0x00400093 ∷ 0x40A1 ⇒ 0x00800093
    ∷ 0x40C1 ⇒ 0x01000093 ∷ 0x5081 ⇒ 0xFE000093
    -- C.SRLI x8, shamt[0] up to shamt[5]
    ∷ 0x8005 ⇒ 0x00145413 ∷ 0x8009 ⇒ 0x00245413 ∷ 0x8011 ⇒ 0x00445413 ∷ 0x8021 ⇒ 0x00845413
    ∷ 0x8041 ⇒ 0x01045413 ∷ 0x9001 ⇒ 0x02045413
    -- C.ADDI16SP, imm[4] up to imm[9]
    ∷ 0x6141 ⇒ 0x01010113 ∷ 0x6105 ⇒ 0x02010113 ∷ 0x6121 ⇒ 0x04010113 ∷ 0x6109 ⇒ 0x08010113
    ∷ 0x6111 ⇒ 0x10010113 ∷ 0x7101 ⇒ 0xE0010113
    -- C.LUI x1, imm[12] up to imm[17]
    ∷ 0x6085 ⇒ 0x000010B7 ∷ 0x6089 ⇒ 0x000020B7 ∷ 0x6091 ⇒ 0x000040B7 ∷ 0x60A1 ⇒ 0x000080B7
    ∷ 0x60C1 ⇒ 0x000100B7 ∷ 0x7081 ⇒ 0xFFFE00B7
    -- C.J, imm[1] up to imm[11]
    ∷ 0xA009 ⇒ 0x0020006F ∷ 0xA011 ⇒ 0x0040006F ∷ 0xA021 ⇒ 0x0080006F ∷ 0xA801 ⇒ 0x0100006F
    ∷ 0xA005 ⇒ 0x0200006F ∷ 0xA081 ⇒ 0x0400006F ∷ 0xA041 ⇒ 0x0800006F ∷ 0xA201 ⇒ 0x1000006F
    ∷ 0xA401 ⇒ 0x2000006F ∷ 0xA101 ⇒ 0x4000006F ∷ 0xB001 ⇒ 0x801FF06F
    -- C.BEQZ x8, imm[1] up to imm[8]
    ∷ 0xC009 ⇒ 0x00040163 ∷ 0xC011 ⇒ 0x00040263 ∷ 0xC401 ⇒ 0x00040463 ∷ 0xC801 ⇒ 0x00040863
    ∷ 0xC005 ⇒ 0x02040063 ∷ 0xC021 ⇒ 0x04040063 ∷ 0xC041 ⇒ 0x08040063 ∷ 0xD001 ⇒ 0xF00400E3
    -- C.LW x8, x8, imm[2] up to imm[6]
    ∷ 0x4040 ⇒ 0x00442403 ∷ 0x4400 ⇒ 0x00842403 ∷ 0x4800 ⇒ 0x01042403 ∷ 0x5000 ⇒ 0x02042403
    ∷ 0x4020 ⇒ 0x04042403
    -- C.LD x8, x8, imm[3] up to imm[7]
    ∷ 0x6400 ⇒ 0x00843403 ∷ 0x6800 ⇒ 0x01043403 ∷ 0x7000 ⇒ 0x02043403 ∷ 0x6020 ⇒ 0x04043403
    ∷ 0x6040 ⇒ 0x08043403
    -- C.FLD f9, x10
    ∷ 0x2104 ⇒ 0x00053487
    -- C.SW x8, x8
    ∷ 0xC040 ⇒ 0x00842223 ∷ 0xC400 ⇒ 0x00842423 ∷ 0xC800 ⇒ 0x00842823 ∷ 0xD000 ⇒ 0x02842023
    ∷ 0xC020 ⇒ 0x04842023
    -- C.SD x8, x8
    ∷ 0xE400 ⇒ 0x00843423 ∷ 0xE800 ⇒ 0x00843823 ∷ 0xF000 ⇒ 0x02843023 ∷ 0xE020 ⇒ 0x04843023
    ∷ 0xE040 ⇒ 0x08843023
    -- C.FSD f9, x10
    ∷ 0xA104 ⇒ 0x00953027
    -- C.LWSP x1, imm[2] up to imm[7]
    ∷ 0x4092 ⇒ 0x00412083 ∷ 0x40A2 ⇒ 0x00812083 ∷ 0x40C2 ⇒ 0x01012083 ∷ 0x5082 ⇒ 0x02012083
    ∷ 0x4086 ⇒ 0x04012083 ∷ 0x408A ⇒ 0x08012083
    -- C.LDSP x1, imm[3] up to imm[8]
    ∷ 0x60A2 ⇒ 0x00813083 ∷ 0x60C2 ⇒ 0x01013083 ∷ 0x7082 ⇒ 0x02013083 ∷ 0x6086 ⇒ 0x04013083
    ∷ 0x608A ⇒ 0x08013083 ∷ 0x6092 ⇒ 0x10013083
    -- C.FLDSP f1
    ∷ 0x3082 ⇒ 0x02013087
    -- C.SWSP x1, imm[2] up to imm[7]
    ∷ 0xC206 ⇒ 0x00112223 ∷ 0xC406 ⇒ 0x00112423 ∷ 0xC806 ⇒ 0x00112823 ∷ 0xD006 ⇒ 0x02112023
    ∷ 0xC086 ⇒ 0x04112023 ∷ 0xC106 ⇒ 0x08112023
    -- C.SDSP x1, imm[3] up to imm[8]
    ∷ 0xE406 ⇒ 0x00113423 ∷ 0xE806 ⇒ 0x00113823 ∷ 0xF006 ⇒ 0x02113023 ∷ 0xE086 ⇒ 0x04113023
    ∷ 0xE106 ⇒ 0x08113023 ∷ 0xE206 ⇒ 0x10113023
    -- C.FSDSP f1
    ∷ 0xB006 ⇒ 0x02113027
    -- C.EBREAK
    ∷ 0x9002 ⇒ 0x00100073 ∷ []

-- 0x0000, which is illegal, and C.ADDI4SPN with immediate 0; quadrant 0, funct3 100; C.ADDIW to x0; C.ADDI16SP and C.LUI with immediate 0,
-- x0
-- too; quadrant 1, 100-1-11-1x; C.LWSP and C.LDSP to x0; C.JR of x0; the lower half of a word
reserved : List ℕ
reserved =
    0x0000 ∷ 0x001C ∷ 0x8000 ∷ 0x9FFC ∷ 0x2001 ∷ 0x3079 ∷ 0x6101 ∷ 0x6081 ∷ 0x6001 ∷ 0x9C41 ∷ 0x9FE1 ∷ 0x4002 ∷ 0x507E ∷ 0x6002 ∷ 0x707E
    ∷ 0x8002 ∷ 0x0093 ∷ []

expansions_hold : every expansions ≡ true
unfolding immediates find expansion_by expansion every expansions
expansions_hold = refl

reserved_hold : all_reserved reserved ≡ true
unfolding immediates find expansion_by expansion all_reserved reserved
reserved_hold = refl
