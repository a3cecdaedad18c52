-- Further vectors of the definitions: replies, bytes and immediates as the original Rust gives them. Three things are document 02's: number
-- 5 goes by 4,099 in place of 2,243, and the rest of M is taken, its bytes being what an assembler makes of the host instructions (Q-2);
-- JALR's opcode with funct3 1 to 7 is not taken (Q-6).
use Rattle.std.proofs.Common.{◌≡◌, refl, Bool, true, ◌&&◌, List, [], ◌∷◌, ◌++◌, ℕ, ◌-◌, ◌^◌, length}
use Rattle.agreement.specs.Translation.Replies.{Reply, translate}
use Rattle.agreement.specs.Cases.{is_reply, holds, dump, framed, copies, words}
use Rattle.agreement.specs.Cases.Format.{I, S, B, U, J}
use Rattle.agreement.specs.Cases.Case.{immediate}
use Rattle.agreement.proofs.Checks.CasesHold.{immediates, translations, tests}

-- a word translated alone at 0x80000000, with its n bytes: it goes on, it ends the block, it ends in a helper's call; the same of a
-- compressed halfword;
-- a word with rd x3, rs1 x1 and rs2 x2, which goes on, with its n bytes between loads and store; a word that goes on and has no bytes;
-- a word not taken, number 4 if it is the first, with the n bytes that it leaves behind an ADDI, or none; a run of halfwords, the output's
-- length, and the whole reply;
-- the I, S, B, U and J immediate of a word, by both definitions
data Vector : Type 0 where
  straight ending helped : (word n bytes : ℕ) → Vector
  straight_half ending_half helped_half : (halfword n bytes : ℕ) → Vector
  between : (word n bytes : ℕ) → Vector
  silent : (word : ℕ) → Vector
  leaves : (word n bytes : ℕ) → Vector
  leaves_nothing : (word : ℕ) → Vector
  run : (start limit : ℕ) (halfwords : List ℕ) (room number : ℕ) (values bytes : List ℕ) → Vector
  five : (word i s b u j : ℕ) → Vector

abbrev translated : ℕ → ℕ → List ℕ → ℕ → Reply
translated start limit hs room = translate start limit hs 0x1111111111111111 0x2222222222222222 room

-- halfwords whose block has count 1 and spans so many bytes, and its bytes between opening and closing; words whose block spans the first
abbrev single_of : List ℕ → ℕ → List ℕ → Bool
single_of hs span bytes = is_reply (translated 0x80000000 64 hs 4099) 0 (length (framed bytes) ∷ 1 ∷ span ∷ []) (framed bytes)

abbrev single : List ℕ → List ℕ → Bool
single ws bytes = single_of (words ws) 4 bytes

abbrev refused : ℕ → Bool
refused w = is_reply (translated 0x80000000 64 (words (w ∷ [])) 4099) 4 (w ∷ []) []

-- RDX becomes the count; before that RAX the next pc, unless the word has set it
abbrev counts : List ℕ
counts = dump 10 0x48BA0100000000000000

abbrev goes_on : List ℕ
goes_on = dump 10 0x48B80400008000000000 ++ counts

abbrev goes_on_half : List ℕ
goes_on_half = dump 10 0x48B80200008000000000 ++ counts

-- 0x00500093 (ADDI x1, x0, 5)
abbrev addi : List ℕ
addi = dump 21 0x4C8B9300000000_4981C205000000_4C899308000000

abbrev passes : Vector → Bool
passes (straight w n v) = single (w ∷ []) (dump n v ++ goes_on)
passes (ending w n v) = single (w ∷ []) (dump n v ++ counts)
passes (helped w n v) = single (w ∷ []) (dump n v)
passes (straight_half h n v) = single_of (h ∷ []) 2 (dump n v ++ goes_on_half)
passes (ending_half h n v) = single_of (h ∷ []) 2 (dump n v ++ counts)
passes (helped_half h n v) = single_of (h ∷ []) 2 (dump n v)
passes (between w n v) =
    single (w ∷ []) (dump 14 0x4C8B9308000000_4C8B9B10000000 ++ (dump n v ++ (dump 7 0x4C899318000000 ++ goes_on)))
passes (silent w) = single (w ∷ []) goes_on
passes (leaves w n v) = refused w && single (0x00500093 ∷ w ∷ []) (addi ++ (dump n v ++ goes_on))
passes (leaves_nothing w) = refused w && single (0x00500093 ∷ w ∷ []) (addi ++ goes_on)
passes (run start limit hs room number values bytes) = is_reply (translated start limit hs room) number values bytes
passes (five w i s b u j) =
    holds (immediate I w i) && (holds (immediate S w s)
    && (holds (immediate B w b) && (holds (immediate U w u) && holds (immediate J w j))))

abbrev pass : List Vector → Bool
pass [] = true
pass (v ∷ vs) = passes v && pass vs

-- one word of every kind
each_word : List Vector
each_word =
    -- OP and OP-32
    straight 0x002F80B3 24 0x4C8B93F8000000_4C8B9B10000000_4D01DA_4C899308000000  -- ADD x1, x31, x2
    ∷ straight 0x40DD0433 24 0x4C8B93D0000000_4C8B9B68000000_4D29DA_4C899340000000  -- SUB x8, x26, x13
    ∷ straight 0x018A97B3 27 0x4C8B93A8000000_4C8B9BC0000000_4C89D9_49D3E2_4C899378000000  -- SLL x15, x21, x24
    ∷ straight 0x00382B33 31 0x4C8B9380000000_4C8B9B18000000_4D39DA_0F9CC0_4C0FB6D0_4C8993B0000000  -- SLT x22, x16, x3
    ∷ straight 0x00E5BEB3 31 0x4C8B9358000000_4C8B9B70000000_4D39DA_0F92C0_4C0FB6D0_4C8993E8000000  -- SLTU x29, x11, x14
    ∷ straight 0x019342B3 24 0x4C8B9330000000_4C8B9BC8000000_4D31DA_4C899328000000  -- XOR x5, x6, x25
    ∷ straight 0x0040D633 27 0x4C8B9308000000_4C8B9B20000000_4C89D9_49D3EA_4C899360000000  -- SRL x12, x1, x4
    ∷ straight 0x40FE59B3 27 0x4C8B93E0000000_4C8B9B78000000_4C89D9_49D3FA_4C899398000000  -- SRA x19, x28, x15
    ∷ straight 0x01ABED33 24 0x4C8B93B8000000_4C8B9BD0000000_4D09DA_4C8993D0000000  -- OR x26, x23, x26
    ∷ straight 0x00597133 24 0x4C8B9390000000_4C8B9B28000000_4D21DA_4C899310000000  -- AND x2, x18, x5
    ∷ straight 0x010684BB 27 0x4C8B9368000000_4C8B9B80000000_4501DA_4D63D2_4C899348000000  -- ADDW x9, x13, x16
    ∷ straight 0x41B4083B 27 0x4C8B9340000000_4C8B9BD8000000_4529DA_4D63D2_4C899380000000  -- SUBW x16, x8, x27
    ∷ straight 0x00619BBB 34 0x4C8B9318000000_4C8B9B30000000_4C89D9_4883E11F_41D3E2_4D63D2_4C8993B8000000  -- SLLW x23, x3, x6
    ∷ straight 0x011F5F3B 34 0x4C8B93F0000000_4C8B9B88000000_4C89D9_4883E11F_41D3EA_4D63D2_4C8993F0000000  -- SRLW x30, x30, x17
    ∷ straight 0x41CCD33B 34 0x4C8B93C8000000_4C8B9BE0000000_4C89D9_4883E11F_41D3FA_4D63D2_4C899330000000  -- SRAW x6, x25, x28
    ∷ straight 0x027A06B3 25 0x4C8B93A0000000_4C8B9B38000000_4D0FAFD3_4C899368000000  -- MUL x13, x20, x7
    ∷ straight 0x03278A3B 28 0x4C8B9378000000_4C8B9B90000000_450FAFD3_4D63D2_4C8993A0000000  -- MULW x20, x15, x18
    -- the rest of M
    ∷ between 0x022091B3 9 0x4C89D0_49F7EB_4989D2  -- MULH
    ∷ between 0x0220A1B3 17 0x4C89D0_49F7E3_49C1FA3F_4D0FAFD3_4901D2  -- MULHSU
    ∷ between 0x0220B1B3 9 0x4C89D0_49F7E3_4989D2  -- MULHU
    ∷ between 0x0220C1B3 34 0x4C89D9_4883C101_4C89D0_490FAFC3_4829C8_4883F902_7208_4C89D0_4899_49F7FB_4989C2  -- DIV
    ∷ between 0x0220D1B3 20 0x4883C8FF_4D21DB_7408_4C89D0_31D2_49F7F3_4989C2  -- DIVU
    ∷ between 0x0220E1B3 31 0x4C89D9_4883C101_4C89D2_480FAFD1_4883F902_7208_4C89D0_4899_49F7FB_4989D2  -- REM
    ∷ between 0x0220F1B3 19 0x4C89D2_4D21DB_7408_4C89D0_31D2_49F7F3_4989D2  -- REMU
    ∷ between 0x0220C1BB 42 0x4D63D2_4D63DB_4C89D9_4883C101_4C89D0_490FAFC3_4829C8_4883F902_7207_4C89D0_99_41F7FB_4989C2_4D63D2  -- DIVW
    ∷ between 0x0220D1BB 23 0x4883C8FF_4521DB_7408_4C89D0_31D2_41F7F3_4989C2_4D63D2  -- DIVUW
    ∷ between 0x0220E1BB 39 0x4D63D2_4D63DB_4C89D9_4883C101_4C89D2_480FAFD1_4883F902_7207_4C89D0_99_41F7FB_4989D2_4D63D2  -- REMW
    ∷ between 0x0220F1BB 22 0x4C89D2_4521DB_7408_4C89D0_31D2_41F7F3_4989D2_4D63D2  -- REMUW
    -- OP-IMM and OP-IMM-32
    ∷ straight 0xFFF08F93 21 0x4C8B9308000000_4981C2FFFFFFFF_4C8993F8000000  -- ADDI x31, x1, -1
    ∷ straight 0x8003AE13 28 0x4C8B9338000000_4981FA00F8FFFF_0F9CC0_4C0FB6D0_4C8993E0000000  -- SLTI x28, x7, -2048
    ∷ straight 0x7FF6BC93 28 0x4C8B9368000000_4981FAFF070000_0F92C0_4C0FB6D0_4C8993C8000000  -- SLTIU x25, x13, 2047
    ∷ straight 0xEEF9CB13 21 0x4C8B9398000000_4981F2EFFEFFFF_4C8993B0000000  -- XORI x22, x19, -273
    ∷ straight 0x555CE993 21 0x4C8B93C8000000_4981CA55050000_4C899398000000  -- ORI x19, x25, 1365
    ∷ straight 0xAAAFF813 21 0x4C8B93F8000000_4981E2AAFAFFFF_4C899380000000  -- ANDI x16, x31, -1366
    ∷ straight 0x021F1113 18 0x4C8B93F0000000_49C1E221_4C899310000000  -- SLLI x2, x30, 33
    ∷ straight 0x001CD313 18 0x4C8B93C8000000_49C1EA01_4C899330000000  -- SRLI x6, x25, 1
    ∷ straight 0x43EA5513 18 0x4C8B93A0000000_49C1FA3E_4C899350000000  -- SRAI x10, x20, 62
    ∷ straight 0xFFEA849B 24 0x4C8B93A8000000_4981C2FEFFFFFF_4D63D2_4C899348000000  -- ADDIW x9, x21, -2
    ∷ straight 0x01F7971B 21 0x4C8B9378000000_41C1E21F_4D63D2_4C899370000000  -- SLLIW x14, x15, 31
    ∷ straight 0x0005591B 21 0x4C8B9350000000_41C1EA00_4D63D2_4C899390000000  -- SRLIW x18, x10, 0
    ∷ straight 0x4112DB1B 21 0x4C8B9328000000_41C1FA11_4D63D2_4C8993B0000000  -- SRAIW x22, x5, 17
    -- branches
    ∷ ending 0x81F18063 44 0x4C8B9318000000_4C8B9BF8000000_4D39DA_49BB0400008000000000_48B800F0FF7F00000000_4C0F44D8_4C89D8  -- BEQ -4096
    ∷ ending 0x7FB41FE3 44 0x4C8B9340000000_4C8B9BD8000000_4D39DA_49BB0400008000000000_48B8FE0F008000000000_4C0F45D8_4C89D8  -- BNE 4094
    ∷ ending 0xFF76CFE3 44 0x4C8B9368000000_4C8B9BB8000000_4D39DA_49BB0400008000000000_48B8FEFFFF7F00000000_4C0F4CD8_4C89D8  -- BLT -2
    ∷ ending 0x013950E3 44 0x4C8B9390000000_4C8B9B98000000_4D39DA_49BB0400008000000000_48B80008008000000000_4C0F4DD8_4C89D8  -- BGE 2048
    ∷ ending 0x7EFBE063 44 0x4C8B93B8000000_4C8B9B78000000_4D39DA_49BB0400008000000000_48B8E007008000000000_4C0F42D8_4C89D8  -- BLTU 2016
    ∷ ending 0x00BE7F63 44 0x4C8B93E0000000_4C8B9B58000000_4D39DA_49BB0400008000000000_48B81E00008000000000_4C0F43D8_4C89D8  -- BGEU 30
    -- upper immediates, jumps, FENCE
    ∷ straight 0x800003B7 17 0x49BA00000080FFFFFFFF_4C899338000000  -- LUI x7, 0x80000
    ∷ straight 0x7FFFFFB7 17 0x49BA00F0FF7F00000000_4C8993F8000000  -- LUI x31, 0x7FFFF
    ∷ straight 0x80000417 17 0x49BA0000000000000000_4C899340000000  -- AUIPC x8, 0x80000
    ∷ straight 0x12345817 17 0x49BA0050349200000000_4C899380000000  -- AUIPC x16, 0x12345
    ∷ ending 0x800000EF 27 0x49BA0400008000000000_4C899308000000_48B80000F07F00000000  -- JAL x1, -1048576
    ∷ ending 0x7FFFF2EF 27 0x49BA0400008000000000_4C899328000000_48B8FEFF0F8000000000  -- JAL x5, 1048574
    ∷ ending 0x0010006F 10 0x48B80008008000000000  -- JAL x0, 2048
    ∷ ending 0xFFF88067 24 0x4C8B9388000000_4981C2FFFFFFFF_4981E2FEFFFFFF_4C89D0  -- JALR x0, x17, -1
    ∷ ending 0x7FF900E7 41 0x4C8B9390000000_4981C2FF070000_4981E2FEFFFFFF_49BB0400008000000000_4C899B08000000_4C89D0  -- JALR x1, x18, 2047
    ∷ ending 0x010989E7 41 0x4C8B9398000000_4981C210000000_4981E2FEFFFFFF_49BB0400008000000000_4C899B98000000_4C89D0  -- JALR x19, x19, 16
    ∷ ending 0x80018167 41 0x4C8B9318000000_4981C200F8FFFF_4981E2FEFFFFFF_49BB0400008000000000_4C899B10000000_4C89D0  -- JALR x2, x3, -2048
    ∷ silent 0x0FF0000F  -- FENCE
    ∷ silent 0x0000008F  -- FENCE, rd x1
    -- rd x0: computed without the store; LUI and AUIPC give nothing
    ∷ straight 0x00208033 17 0x4C8B9308000000_4C8B9B10000000_4D01DA  -- ADD
    ∷ straight 0x0041A033 24 0x4C8B9318000000_4C8B9B20000000_4D39DA_0F9CC0_4C0FB6D0  -- SLT
    ∷ straight 0x0062903B 27 0x4C8B9328000000_4C8B9B30000000_4C89D9_4883E11F_41D3E2_4D63D2  -- SLLW
    ∷ straight 0x00838013 14 0x4C8B9338000000_4981C208000000  -- ADDI
    ∷ straight 0x00A4801B 17 0x4C8B9348000000_4981C20A000000_4D63D2  -- ADDIW
    ∷ straight 0x40C5D013 11 0x4C8B9358000000_49C1FA0C  -- SRAI
    ∷ silent 0x80000037  -- LUI
    ∷ silent 0x00001017  -- AUIPC
    -- DIV x0, x1, x0
    ∷ straight 0x0200C033 48 0x4C8B9308000000_4C8B9B00000000_4C89D9_4883C101_4C89D0_490FAFC3_4829C8_4883F902_7208_4C89D0_4899_49F7FB_4989C2
    -- loads and stores, through the second helper
    ∷ helped 0x000F8083 41 0x4C89E7_4C89EE_4C89F2_48B983800F0000000000_49B80000008000000000_48B82222222222222222_FFD0  -- LB
    ∷ helped 0xFFFF1283 41 0x4C89E7_4C89EE_4C89F2_48B98312FFFF00000000_49B80000008000000000_48B82222222222222222_FFD0  -- LH
    ∷ helped 0xFFEEA483 41 0x4C89E7_4C89EE_4C89F2_48B983A4EEFF00000000_49B80000008000000000_48B82222222222222222_FFD0  -- LW
    ∷ helped 0xFFDE3683 41 0x4C89E7_4C89EE_4C89F2_48B98336DEFF00000000_49B80000008000000000_48B82222222222222222_FFD0  -- LD
    ∷ helped 0xFFCDC883 41 0x4C89E7_4C89EE_4C89F2_48B983C8CDFF00000000_49B80000008000000000_48B82222222222222222_FFD0  -- LBU
    ∷ helped 0xFFBD5A83 41 0x4C89E7_4C89EE_4C89F2_48B9835ABDFF00000000_49B80000008000000000_48B82222222222222222_FFD0  -- LHU
    ∷ helped 0xFFACEC83 41 0x4C89E7_4C89EE_4C89F2_48B983ECACFF00000000_49B80000008000000000_48B82222222222222222_FFD0  -- LWU
    ∷ helped 0x000F0023 41 0x4C89E7_4C89EE_4C89F2_48B923000F0000000000_49B80000008000000000_48B82222222222222222_FFD0  -- SB
    ∷ helped 0xFE3E9BA3 41 0x4C89E7_4C89EE_4C89F2_48B9A39B3EFE00000000_49B80000008000000000_48B82222222222222222_FFD0  -- SH
    ∷ helped 0xFE6E2723 41 0x4C89E7_4C89EE_4C89F2_48B923276EFE00000000_49B80000008000000000_48B82222222222222222_FFD0  -- SW
    ∷ helped 0xFE9DB2A3 41 0x4C89E7_4C89EE_4C89F2_48B9A3B29DFE00000000_49B80000008000000000_48B82222222222222222_FFD0 ∷ []  -- SD

-- leftovers, helper ends, refusals, limits, the end of the address space
runs : List Vector
runs =
    -- what a word that is not taken leaves behind an ADDI
    leaves 0x05F32063 17 0x4C8B9330000000_4C8B9BF8000000_4D39DA  -- BRANCH funct3 2
    ∷ leaves 0x046FB063 17 0x4C8B93F8000000_4C8B9B30000000_4D39DA  -- BRANCH funct3 3
    ∷ leaves 0x407F41B3 14 0x4C8B93F0000000_4C8B9B38000000  -- OP: funct7 0x20 on funct3 4
    ∷ leaves 0x027F11BB 14 0x4C8B93F0000000_4C8B9B38000000  -- OP-32: funct7 1 on funct3 1
    ∷ leaves 0x027F21BB 14 0x4C8B93F0000000_4C8B9B38000000  -- OP-32: funct7 1 on funct3 2
    ∷ leaves 0x027F31BB 14 0x4C8B93F0000000_4C8B9B38000000  -- OP-32: funct7 1 on funct3 3
    ∷ leaves 0x01D421BB 14 0x4C8B9340000000_4C8B9BE8000000  -- OP-32: funct3 2
    ∷ leaves 0x040E1193 7 0x4C8B93E0000000  -- OP-IMM: SLLI, bit 26
    ∷ leaves 0x0204919B 7 0x4C8B9348000000  -- OP-IMM-32: SLLIW by 32
    ∷ leaves_nothing 0x00100073  -- SYSTEM: EBREAK
    ∷ leaves_nothing 0x00017083  -- LOAD funct3 7
    ∷ leaves_nothing 0x0020C023  -- STORE funct3 4
    ∷ leaves_nothing 0x0000200F  -- MISC-MEM funct3 2
    -- JALR's opcode with funct3 1 to 7 (document 02, Q-6)
    ∷ leaves_nothing 0x00009067
    ∷ leaves_nothing 0xFFF8A067
    ∷ leaves_nothing 0x7FF930E7
    ∷ leaves_nothing 0x0109C9E7
    ∷ leaves_nothing 0xFFFFDFE7
    ∷ leaves_nothing 0x00006067
    ∷ leaves_nothing 0x8001F167
    ∷ leaves_nothing 0x1005252F  -- AMO
    ∷ leaves_nothing 0xFFFFFFFF  -- low five bits 11111
    ∷ run 0x80000000 64 (words (0x00500093 ∷ []) ++ 0x91B3 ∷ []) 4099 0 (88 ∷ 1 ∷ 4 ∷ [])  -- OP, its upper half missing
    (framed (dump 41 0x4C8B9300000000_4981C205000000_4C899308000000_48B80400008000000000_48BA0100000000000000))
    -- helper ends: earlier count 0, then 2
    ∷ run 0x80000000 64 (0x4108 ∷ []) 4099 0 (88 ∷ 1 ∷ 2 ∷ [])  -- halfword
    (framed (dump 41 0x4C89E7_4C89EE_4C89F2_48B90841000000000000_49B80000008000000000_48B81111111111111111_FFD0))
    ∷ run 0x80000000 64 (words (0x00500093 ∷ 0xFFD08493 ∷ []) ++ 0x4108 ∷ []) 4099 0 (137 ∷ 3 ∷ 10 ∷ [])  -- halfword
    (framed (dump 48 0x4C8B9300000000_4981C205000000_4C899308000000_4C8B9308000000_4981C2FDFFFFFF_4C899348000000_4C89E7_4C89EE
    ++ dump 42 0x4C89F2_48B90841000000000000_49B80800008000000000_48B81111111111111111_FFD0_4881C202000000))
    ∷ run 0x80000000 64 (0x0000 ∷ 0x0093 ∷ []) 4099 0 (88 ∷ 1 ∷ 2 ∷ [])  -- halfword 0
    (framed (dump 41 0x4C89E7_4C89EE_4C89F2_48B90000000000000000_49B80000008000000000_48B81111111111111111_FFD0))
    ∷ run 0x80000000 64 (words (0x00813083 ∷ [])) 4099 0 (88 ∷ 1 ∷ 4 ∷ [])  -- LD
    (framed (dump 41 0x4C89E7_4C89EE_4C89F2_48B98330810000000000_49B80000008000000000_48B82222222222222222_FFD0))
    ∷ run 0x80000000 64 (words (0x00500093 ∷ 0xFFD08493 ∷ 0x00813083 ∷ [])) 4099 0 (137 ∷ 3 ∷ 12 ∷ [])  -- LD
    (framed (dump 48 0x4C8B9300000000_4981C205000000_4C899308000000_4C8B9308000000_4981C2FDFFFFFF_4C899348000000_4C89E7_4C89EE
    ++ dump 42 0x4C89F2_48B98330810000000000_49B80800008000000000_48B82222222222222222_FFD0_4881C202000000))
    ∷ run 0x80000000 64 (words (0xFF1EBC23 ∷ [])) 4099 0 (88 ∷ 1 ∷ 4 ∷ [])  -- SD
    (framed (dump 41 0x4C89E7_4C89EE_4C89F2_48B923BC1EFF00000000_49B80000008000000000_48B82222222222222222_FFD0))
    ∷ run 0x80000000 64 (words (0x00500093 ∷ 0xFFD08493 ∷ 0xFF1EBC23 ∷ [])) 4099 0 (137 ∷ 3 ∷ 12 ∷ [])  -- SD
    (framed (dump 48 0x4C8B9300000000_4981C205000000_4C899308000000_4C8B9308000000_4981C2FDFFFFFF_4C899348000000_4C89E7_4C89EE
    ++ dump 42 0x4C89F2_48B923BC1EFF00000000_49B80800008000000000_48B82222222222222222_FFD0_4881C202000000))
    -- the numbers 1 to 5, in their order
    ∷ run 0x80000001 0 [] 4099 1 [] []  -- limit 0 before odd start
    ∷ run 0x80000001 64 [] 4099 2 (0x80000001 ∷ []) []  -- odd start before the first word
    ∷ run 0x80000000 64 [] 0 3 (0 ∷ []) []  -- no halfword, output short
    ∷ run 0x80000000 64 (0x0093 ∷ []) 0 3 (1 ∷ []) []  -- half a word, output short
    ∷ run 0x80000000 64 (words (0x00000073 ∷ [])) 0 4 (0x00000073 ∷ []) []  -- SYSTEM, output short
    ∷ run 0x80000000 64 (words (0x0000F083 ∷ [])) 4099 4 (0x0000F083 ∷ []) []  -- LOAD funct3 7
    ∷ run 0x80000000 64 (words (0x027F11BB ∷ [])) 4099 4 (0x027F11BB ∷ []) []  -- OP-32: funct7 1 on funct3 1
    ∷ run 0x80000000 64 (words (0x00500093 ∷ [])) 4098 5 [] []  -- output short by one
    ∷ run 0x80000000 64 (words (0x00500093 ∷ [])) 2243 5 [] []  -- output as long as the Rust's greatest block
    -- limits: 65 as 64; what stands behind the limit or an ending word is not looked at
    ∷ run 0x80000000 65 (copies 65 (words (0x0000000F ∷ []))) 4099 0 (67 ∷ 64 ∷ 256 ∷ [])  -- 65
    (framed (dump 20 0x48B80001008000000000_48BA4000000000000000))
    ∷ run 0x80000000 64 (copies 65 (words (0x0000000F ∷ []))) 4099 0 (67 ∷ 64 ∷ 256 ∷ [])  -- 64
    (framed (dump 20 0x48B80001008000000000_48BA4000000000000000))
    ∷ run 0x80000000 4294967295 (copies 65 (words (0x0000000F ∷ []))) 4099 0 (67 ∷ 64 ∷ 256 ∷ [])  -- 2^32 - 1
    (framed (dump 20 0x48B80001008000000000_48BA4000000000000000))
    ∷ run 0x80000000 64 (copies 63 (words (0x0000000F ∷ [])) ++ 0x4108 ∷ []) 4099 0 (95 ∷ 64 ∷ 254 ∷ [])  -- 64, halfword the 64th
    (framed (dump 48 0x4C89E7_4C89EE_4C89F2_48B90841000000000000_49B8FC00008000000000_48B81111111111111111_FFD0_4881C23F000000))
    ∷ run 0x80000000 65 (copies 64 (words (0x0000000F ∷ [])) ++ 0x0001 ∷ []) 4099 0 (67 ∷ 64 ∷ 256 ∷ [])  -- 64, halfword the 65th
    (framed (dump 20 0x48B80001008000000000_48BA4000000000000000))
    ∷ run 0x80000000 1 (words (0x0000000F ∷ 0x022091B3 ∷ [])) 4099 0 (67 ∷ 1 ∷ 4 ∷ [])  -- 1, MULH behind
    (framed (dump 20 0x48B80400008000000000_48BA0100000000000000))
    ∷ run 0x80000000 64 (words (0x00500093 ∷ 0x00008463 ∷ 0xFFD08493 ∷ [])) 4099 0 (122 ∷ 2 ∷ 8 ∷ [])  -- BEQ ends the block
    (framed (dump 48 0x4C8B9300000000_4981C205000000_4C899308000000_4C8B9308000000_4C8B9B00000000_4D39DA_49BB0800008000000000
    ++ dump 27 0x48B80C00008000000000_4C0F44D8_4C89D8_48BA0200000000000000))
    -- halfwords in line: before a helper's; the limit; both sizes, up to a branch
    ∷ run 0x80000000 64 (0x0001 ∷ 0x4108 ∷ []) 4099 0 (109 ∷ 2 ∷ 4 ∷ [])  -- C.NOP, C.LW
    (framed (dump 14 0x4C8B9300000000_4981C200000000
    ++ dump 48 0x4C89E7_4C89EE_4C89F2_48B90841000000000000_49B80200008000000000_48B81111111111111111_FFD0_4881C201000000))
    ∷ run 0x80000000 64 (copies 65 (0x0001 ∷ [])) 4099 0 (963 ∷ 64 ∷ 128 ∷ [])  -- 65 times C.NOP
    (framed (copies 64 (dump 14 0x4C8B9300000000_4981C200000000) ++ dump 20 0x48B88000008000000000_48BA4000000000000000))
    ∷ run 0x80000002 64 (0x0001 ∷ words (0x00500093 ∷ []) ++ 0xC111 ∷ 0x0001 ∷ []) 4099 0 (136 ∷ 3 ∷ 8 ∷ [])  -- C.NOP, ADDI, C.BEQZ
    (framed (dump 35 0x4C8B9300000000_4981C200000000_4C8B9300000000_4981C205000000_4C899308000000
    ++ dump 44 0x4C8B9350000000_4C8B9B00000000_4D39DA_49BB0A00008000000000_48B80C00008000000000_4C0F44D8_4C89D8
    ++ dump 10 0x48BA0300000000000000))
    -- addresses go on from 2^64 - 1 to 0
    ∷ run 0xFFFFFFFFFFFFFFFC 64 (words (0x0000000F ∷ 0x00001097 ∷ []) ++ 0x4108 ∷ []) 4099 0 (112 ∷ 3 ∷ 10 ∷ [])  -- AUIPC, halfword
    (framed (dump 46 0x49BA0010000000000000_4C899308000000_4C89E7_4C89EE_4C89F2_48B90841000000000000_49B80400000000000000
    ++ dump 19 0x48B81111111111111111_FFD0_4881C202000000))
    ∷ run 0xFFFFFFFFFFFFFFFC 64 (words (0xFFDFF0EF ∷ [])) 4099 0 (84 ∷ 1 ∷ 4 ∷ [])  -- JAL, its link 0
    (framed (dump 37 0x49BA0000000000000000_4C899308000000_48B8F8FFFFFFFFFFFFFF_48BA0100000000000000)) ∷ []

-- FENCE.I ends its block (document 02, Q-1): the Rust's block of the run cut behind it. FENCE does not end it: the Rust's of the whole run
fences : List Vector
fences =
    run 0x80000000 64 (words (0x0000108F ∷ 0x00500093 ∷ [])) 4099 0 (67 ∷ 1 ∷ 4 ∷ [])  -- FENCE.I, rd x1
    (framed (dump 20 0x48B80400008000000000_48BA0100000000000000))
    ∷ run 0x80000000 64 (words (0xFFFFFF8F ∷ [])) 4099 4 (0xFFFFFF8F ∷ []) []  -- MISC-MEM funct3 7
    ∷ run 0x80000000 64 (words (0xFFFF9F8F ∷ 0x00500093 ∷ [])) 4099 0 (67 ∷ 1 ∷ 4 ∷ [])  -- FENCE.I, all other fields ones
    (framed (dump 20 0x48B80400008000000000_48BA0100000000000000))
    ∷ run 0x80000000 64 (words (0x0000000F ∷ 0x00500093 ∷ [])) 4099 0 (88 ∷ 2 ∷ 8 ∷ [])  -- FENCE
    (framed (dump 41 0x4C8B9300000000_4981C205000000_4C899308000000_48B80800008000000000_48BA0200000000000000))
    ∷ run 0x80000000 64 (words (0x00500093 ∷ 0x0000100F ∷ 0x00500093 ∷ [])) 4099 0 (88 ∷ 2 ∷ 8 ∷ [])  -- between two
    (framed (dump 41 0x4C8B9300000000_4981C205000000_4C899308000000_48B80800008000000000_48BA0200000000000000))
    ∷ run 0x80000000 64 (words (0x00000013 ∷ 0x0000100F ∷ [])) 4099 0 (81 ∷ 2 ∷ 8 ∷ [])  -- the run's last
    (framed (dump 34 0x4C8B9300000000_4981C200000000_48B80800008000000000_48BA0200000000000000))
    ∷ run 0xFFFFFFFFFFFFFFFC 64 (words (0x0000100F ∷ 0x00500093 ∷ [])) 4099 0 (67 ∷ 1 ∷ 4 ∷ [])  -- RAX gets 0
    (framed (dump 20 0x48B80000000000000000_48BA0100000000000000))
    ∷ run 0x80000000 64 (words (0x0000100F ∷ []) ++ 0x0001 ∷ []) 4099 0 (67 ∷ 1 ∷ 4 ∷ [])  -- a halfword behind
    (framed (dump 20 0x48B80400008000000000_48BA0100000000000000))
    -- the 64th, SLLW before
    ∷ run 0x80000000 64 (copies 63 (words (0x01FF1EBB ∷ [])) ++ words (0x0000100F ∷ [])) 4099 0 (2209 ∷ 64 ∷ 256 ∷ [])
    (framed (copies 63 (dump 34 0x4C8B93F0000000_4C8B9BF8000000_4C89D9_4883E11F_41D3E2_4D63D2_4C8993E8000000)
    ++ dump 20 0x48B80001008000000000_48BA4000000000000000))
    ∷ run 0x80000000 64 (copies 64 (words (0x0000000F ∷ []))) 4099 0 (67 ∷ 64 ∷ 256 ∷ [])  -- 64 times FENCE
    (framed (dump 20 0x48B80001008000000000_48BA4000000000000000))
    ∷ run 0x80000000 64 (copies 64 (words (0x0000100F ∷ []))) 4099 0 (67 ∷ 1 ∷ 4 ∷ [])  -- 64 times FENCE.I
    (framed (dump 20 0x48B80400008000000000_48BA0100000000000000)) ∷ []

-- compressed halfwords: one of each row of the manual's listing that is in line, and two that are not. The words are an assembler's, the
-- bytes are those that the original Rust wrote for them, its next pc and link 2 less
each_halfword : List Vector
each_halfword =
    straight_half 0x0001 14 0x4C8B9300000000_4981C200000000  -- C.NOP
    ∷ straight_half 0x0005 14 0x4C8B9300000000_4981C201000000  -- C.NOP 1, a hint
    ∷ straight_half 0x0502 18 0x4C8B9350000000_49C1E200_4C899350000000  -- C.SLLI x10, 0, a hint
    ∷ straight_half 0x852E 24 0x4C8B9300000000_4C8B9B58000000_4D01DA_4C899350000000  -- C.MV x10, x11
    -- C.JALR x1: the link is 2 behind
    ∷ ending_half 0x9082 41 0x4C8B9308000000_4981C200000000_4981E2FEFFFFFF_49BB0200008000000000_4C899B08000000_4C89D0
    -- C.BEQZ x10, 4
    ∷ ending_half 0xC111 44 0x4C8B9350000000_4C8B9B00000000_4D39DA_49BB0200008000000000_48B80400008000000000_4C0F44D8_4C89D8
    ∷ straight_half 0x955A 24 0x4C8B9350000000_4C8B9BB0000000_4D01DA_4C899350000000  -- C.ADD
    ∷ straight_half 0x09A5 21 0x4C8B9398000000_4981C209000000_4C899398000000  -- C.ADDI
    ∷ straight_half 0x6169 21 0x4C8B9310000000_4981C2D0000000_4C899310000000  -- C.ADDI16SP
    ∷ straight_half 0x14F4 21 0x4C8B9310000000_4981C26C020000_4C899368000000  -- C.ADDI4SPN
    ∷ straight_half 0x2209 24 0x4C8B9320000000_4981C202000000_4D63D2_4C899320000000  -- C.ADDIW
    ∷ straight_half 0x9CA5 27 0x4C8B9348000000_4C8B9B48000000_4501DA_4D63D2_4C899348000000  -- C.ADDW
    ∷ straight_half 0x8CF1 24 0x4C8B9348000000_4C8B9B60000000_4D21DA_4C899348000000  -- C.AND
    ∷ straight_half 0x99D9 21 0x4C8B9358000000_4981E2F6FFFFFF_4C899358000000  -- C.ANDI
    ∷ ending_half 0xC3B5 44 0x4C8B9378000000_4C8B9B00000000_4D39DA_49BB0200008000000000_48B86400008000000000_4C0F44D8_4C89D8  -- C.BEQZ
    ∷ ending_half 0xEDBD 44 0x4C8B9358000000_4C8B9B00000000_4D39DA_49BB0200008000000000_48B87E00008000000000_4C0F45D8_4C89D8  -- C.BNEZ
    ∷ ending_half 0xA265 10 0x48B8A801008000000000  -- C.J
    ∷ ending_half 0x9182 41 0x4C8B9318000000_4981C200000000_4981E2FEFFFFFF_49BB0200008000000000_4C899B08000000_4C89D0  -- C.JALR
    ∷ ending_half 0x8702 24 0x4C8B9370000000_4981C200000000_4981E2FEFFFFFF_4C89D0  -- C.JR
    ∷ straight_half 0x5AC1 21 0x4C8B9300000000_4981C2F0FFFFFF_4C8993A8000000  -- C.LI
    ∷ straight_half 0x62D1 17 0x49BA0040010000000000_4C899328000000  -- C.LUI
    ∷ straight_half 0x83FA 24 0x4C8B9300000000_4C8B9BF0000000_4D01DA_4C899338000000  -- C.MV
    ∷ straight_half 0x8CCD 24 0x4C8B9348000000_4C8B9B58000000_4D09DA_4C899348000000  -- C.OR
    ∷ straight_half 0x1222 18 0x4C8B9320000000_49C1E228_4C899320000000  -- C.SLLI
    ∷ straight_half 0x8785 18 0x4C8B9378000000_49C1FA01_4C899378000000  -- C.SRAI
    ∷ straight_half 0x807D 18 0x4C8B9340000000_49C1EA1F_4C899340000000  -- C.SRLI
    ∷ straight_half 0x8C9D 24 0x4C8B9348000000_4C8B9B78000000_4D29DA_4C899348000000  -- C.SUB
    ∷ straight_half 0x9D91 27 0x4C8B9358000000_4C8B9B60000000_4529DA_4D63D2_4C899358000000  -- C.SUBW
    ∷ straight_half 0x8C3D 24 0x4C8B9340000000_4C8B9B78000000_4D31DA_4C899340000000  -- C.XOR
    ∷ helped_half 0x9002 41 0x4C89E7_4C89EE_4C89F2_48B90290000000000000_49B80000008000000000_48B81111111111111111_FFD0  -- C.EBREAK
    ∷ helped_half 0x9C45 41 0x4C89E7_4C89EE_4C89F2_48B9459C000000000000_49B80000008000000000_48B81111111111111111_FFD0 ∷ []  -- reserved

-- every bit of a word by itself, then all of them
bits : List Vector
bits =
    five 0x00000001 0 0 0 0 0
    ∷ five 0x00000002 0 0 0 0 0
    ∷ five 0x00000004 0 0 0 0 0
    ∷ five 0x00000008 0 0 0 0 0
    ∷ five 0x00000010 0 0 0 0 0
    ∷ five 0x00000020 0 0 0 0 0
    ∷ five 0x00000040 0 0 0 0 0
    ∷ five 0x00000080 0 1 2048 0 0
    ∷ five 0x00000100 0 2 2 0 0
    ∷ five 0x00000200 0 4 4 0 0
    ∷ five 0x00000400 0 8 8 0 0
    ∷ five 0x00000800 0 16 16 0 0
    ∷ five 0x00001000 0 0 0 4096 4096
    ∷ five 0x00002000 0 0 0 8192 8192
    ∷ five 0x00004000 0 0 0 16384 16384
    ∷ five 0x00008000 0 0 0 32768 32768
    ∷ five 0x00010000 0 0 0 65536 65536
    ∷ five 0x00020000 0 0 0 131072 131072
    ∷ five 0x00040000 0 0 0 262144 262144
    ∷ five 0x00080000 0 0 0 524288 524288
    ∷ five 0x00100000 1 0 0 1048576 2048
    ∷ five 0x00200000 2 0 0 2097152 2
    ∷ five 0x00400000 4 0 0 4194304 4
    ∷ five 0x00800000 8 0 0 8388608 8
    ∷ five 0x01000000 16 0 0 16777216 16
    ∷ five 0x02000000 32 32 32 33554432 32
    ∷ five 0x04000000 64 64 64 67108864 64
    ∷ five 0x08000000 128 128 128 134217728 128
    ∷ five 0x10000000 256 256 256 268435456 256
    ∷ five 0x20000000 512 512 512 536870912 512
    ∷ five 0x40000000 1024 1024 1024 1073741824 1024
    ∷ five 0x80000000 (2 ^ 64 - 2048) (2 ^ 64 - 2048) (2 ^ 64 - 4096) (2 ^ 64 - 2147483648) (2 ^ 64 - 1048576)
    ∷ five 0xFFFFFFFF (2 ^ 64 - 1) (2 ^ 64 - 1) (2 ^ 64 - 2) (2 ^ 64 - 4096) (2 ^ 64 - 2) ∷ []

each_word_passes : pass each_word ≡ true
unfolding immediates translations tests each_word
each_word_passes = refl

each_halfword_passes : pass each_halfword ≡ true
unfolding immediates translations tests each_halfword
each_halfword_passes = refl

runs_pass : pass runs ≡ true
unfolding immediates translations tests runs
runs_pass = refl

fences_pass : pass fences ≡ true
unfolding immediates translations tests fences
fences_pass = refl

bits_pass : pass bits ≡ true
unfolding immediates tests holds bits
bits_pass = refl
