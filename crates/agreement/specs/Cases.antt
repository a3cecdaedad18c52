-- The cases that document 01 marks P, as document 02 changes them, those and no others: one list, and one Boolean test over it.
-- The case stands above each. The bytes are those that the original Rust wrote, to the run up to FENCE.I and up to a reserved JALR;
-- those of DIVW, which the Rust does not take, are an assembler's. `_` parts host instructions.
use Rattle.std.specs.Prelude.{◌≡◌, Bool, true, false, ◌&&◌, List, [], ◌∷◌, ◌++◌, ℕ, zero, suc, ◌-◌, ◌/◌, ◌%◌, ◌^◌, eqb}
use Rattle.agreement.specs.Riscv.Immediates as Manual
use Rattle.agreement.specs.Translation.Decode32 as Decode32
use Rattle.agreement.specs.Translation.Replies.{Reply, Reply.block, Reply.refusal, numbered, translate}
use Rattle.agreement.specs.Translation.Place.{placing_numbered, place}

-- 1. What a case is

-- an immediate, by the letter of its format
pub data Format : Type 0 where
  I S B U J : Format

-- an immediate, which the manual's definition and decode.rs's must both give; the whole reply to a translation, that is
-- its number and values by `numbered` and the block's bytes; two runs with the same reply; the reply to a placing
pub data Case : Type 0 where
  immediate : (format : Format) (word value : ℕ) → Case
  translation : (start limit : ℕ) (halfwords : List ℕ) (number : ℕ) (values bytes : List ℕ) → Case
  same : (start limit : ℕ) (halfwords halfwords' : List ℕ) → Case
  placing : (used code store number : ℕ) (values : List ℕ) → Case

-- 2. How a case is tested

unfoldable pub by_manual : Format → ℕ → ℕ
by_manual I w = Manual.imm_i w
by_manual S w = Manual.imm_s w
by_manual B w = Manual.imm_b w
by_manual U w = Manual.imm_u w
by_manual J w = Manual.imm_j w

unfoldable pub by_rust : Format → ℕ → ℕ
by_rust I w = Decode32.imm_i w
by_rust S w = Decode32.imm_s w
by_rust B w = Decode32.imm_b w
by_rust U w = Decode32.imm_u w
by_rust J w = Decode32.imm_j w

unfoldable pub equal : List ℕ → List ℕ → Bool
equal [] [] = true
equal [] (y ∷ ys) = false
equal (x ∷ xs) [] = false
equal (x ∷ xs) (y ∷ ys) = eqb x y && equal xs ys

unfoldable pub code_of : Reply → List ℕ
code_of (block b) = b.code
code_of (refusal r) = []

unfoldable pub is_reply : Reply → ℕ → List ℕ → List ℕ → Bool
is_reply r number values bytes =
    eqb (numbered r).0 number && (equal (numbered r).1 values && equal (code_of r) bytes)

-- both helpers 0, and an output that is large enough
abbrev pub reply : ℕ → ℕ → List ℕ → Reply
reply start limit hs = translate start limit hs 0 0 4099

unfoldable pub holds : Case → Bool
holds (immediate f w v) = eqb (by_manual f w) v && eqb (by_rust f w) v
holds (translation start limit hs number values bytes) = is_reply (reply start limit hs) number values bytes
holds (same start limit hs hs') =
    let r : Reply = reply start limit hs' in is_reply (reply start limit hs) (numbered r).0 (numbered r).1 (code_of r)
holds (placing used code store number values) =
    let r : ℕ × List ℕ = placing_numbered (place code store used) in eqb r.0 number && equal r.1 values

unfoldable pub every : List Case → Bool
every [] = true
every (c ∷ cs) = holds c && every cs

-- 3. How bytes and words are written below

-- the n bytes that a numeral of 2n hexadecimal digits shows, in the order of reading
unfoldable pub dump : ℕ → ℕ → List ℕ
dump zero v = []
dump (suc n) v = v / 256 ^ n ∷ dump n (v % 256 ^ n)

-- a block's bytes, those given between opening and closing (document 01, "Block bytes")
unfoldable pub framed : List ℕ → List ℕ
framed bytes =
    dump 32 0x53_55_4154_4155_4156_4157_4883EC08_4889FB_4989F4_4989D5_4989CE_4D89C7_4C89CD
    ++ (bytes ++ dump 15 0x4883C408_415F_415E_415D_415C_5D_5B_C3)

unfoldable pub copies : ℕ → List ℕ → List ℕ
copies zero xs = []
copies (suc n) xs = xs ++ copies n xs

-- the halfwords of words, the lower one first
unfoldable pub words : List ℕ → List ℕ
words [] = []
words (w ∷ ws) = w % 65536 ∷ w / 65536 ∷ words ws

-- 4. The cases

unfoldable pub cases : List Case
cases =
    -- top twelve bits 0x7FF, 0x800, 0xFFF give `imm_i` 2047, -2048, -1; the other bits all 0, then all 1
    immediate I 0x7FF00000 2047
    ∷ immediate I 0x7FFFFFFF 2047
    ∷ immediate I 0x80000000 (2 ^ 64 - 2048)
    ∷ immediate I 0x800FFFFF (2 ^ 64 - 2048)
    ∷ immediate I 0xFFF00000 (2 ^ 64 - 1)
    ∷ immediate I 0xFFFFFFFF (2 ^ 64 - 1)
    -- `imm_u` of 0x800000B7 is 0xFFFFFFFF80000000
    ∷ immediate U 0x800000B7 0xFFFFFFFF80000000
    -- `imm_b` of 0xFE000EE3 is -4
    ∷ immediate B 0xFE000EE3 (2 ^ 64 - 4)
    -- 0x0000006F (JAL x0, 0): 67 bytes, count 1, span 4, RAX gets 0x80000000: 48B8 is MOV RAX, the number follows low byte first
    ∷ translation 0x80000000 64 (words (0x0000006F ∷ [])) 0 (67 ∷ 1 ∷ 4 ∷ [])
    (framed (dump 20 0x48B80000008000000000_48BA0100000000000000))
    -- 0x0000000F (FENCE) at 0xFFFFFFFFFFFFFFFC, limit 1: 67 bytes, RAX gets 0: the eight bytes behind 48B8
    ∷ translation 0xFFFFFFFFFFFFFFFC 1 (words (0x0000000F ∷ [])) 0 (67 ∷ 1 ∷ 4 ∷ [])
    (framed (dump 20 0x48B80000000000000000_48BA0100000000000000))
    -- 0x0000100F (FENCE.I) then 0x00500093: 67 bytes, count 1, span 4, RAX gets 0x80000004 (document 02, Q-1)
    ∷ translation 0x80000000 64 (words (0x0000100F ∷ 0x00500093 ∷ [])) 0 (67 ∷ 1 ∷ 4 ∷ [])
    (framed (dump 20 0x48B80400008000000000_48BA0100000000000000))
    -- 0x00500093 (ADDI x1, x0, 5): 88 bytes, count 1, span 4
    ∷ translation 0x80000000 64 (words (0x00500093 ∷ [])) 0 (88 ∷ 1 ∷ 4 ∷ [])
    (framed (dump 41 0x4C8B9300000000_4981C205000000_4C899308000000_48B80400008000000000_48BA0100000000000000))
    -- Followed by 0x00000073 (ECALL): the same block
    ∷ same 0x80000000 64 (words (0x00500093 ∷ 0x00000073 ∷ [])) (words (0x00500093 ∷ []))
    -- 0x00500093 then 0x4020C1B3 (funct7 0x20 on funct3 4), in place of MULH (document 02, Q-2): 102 bytes, count 1, span 4. The two
    -- register loads of the word that is not taken, 14 bytes, stay in
    ∷ translation 0x80000000 64 (words (0x00500093 ∷ 0x4020C1B3 ∷ [])) 0 (102 ∷ 1 ∷ 4 ∷ [])
    (framed (dump 21 0x4C8B9300000000_4981C205000000_4C899308000000
    ++ dump 34 0x4C8B9308000000_4C8B9B10000000_48B80400008000000000_48BA0100000000000000))
    -- 0x4020C1B3 first: number 4
    ∷ translation 0x80000000 64 (words (0x4020C1B3 ∷ [])) 4 (0x4020C1B3 ∷ []) []
    -- halfword 0x0001 (C.NOP): 81 bytes, count 1, span 2, RAX gets 0x80000002; behind 0x00500093: 102 bytes, count 2, span 6
    -- (document 02, Q-7)
    ∷ translation 0x80000000 64 (0x0001 ∷ []) 0 (81 ∷ 1 ∷ 2 ∷ [])
    (framed (dump 34 0x4C8B9300000000_4981C200000000_48B80200008000000000_48BA0100000000000000))
    ∷ translation 0x80000000 64 (words (0x00500093 ∷ []) ++ 0x0001 ∷ []) 0 (102 ∷ 2 ∷ 6 ∷ [])
    (framed (dump 21 0x4C8B9300000000_4981C205000000_4C899308000000
    ++ dump 34 0x4C8B9300000000_4981C200000000_48B80600008000000000_48BA0200000000000000))
    -- 0x03F09093 (SLLI by 63): 85 bytes
    ∷ translation 0x80000000 64 (words (0x03F09093 ∷ [])) 0 (85 ∷ 1 ∷ 4 ∷ [])
    (framed (dump 38 0x4C8B9308000000_49C1E23F_4C899308000000_48B80400008000000000_48BA0100000000000000))
    -- 0x0200909B (SLLIW by 32): number 4
    ∷ translation 0x80000000 64 (words (0x0200909B ∷ [])) 4 (0x0200909B ∷ []) []
    -- 0x00009067 (JALR's opcode with funct3 1, which is reserved): number 4; behind 0x00500093: as without it (document 02, Q-6)
    ∷ translation 0x80000000 64 (words (0x00009067 ∷ [])) 4 (0x00009067 ∷ []) []
    ∷ same 0x80000000 64 (words (0x00500093 ∷ 0x00009067 ∷ [])) (words (0x00500093 ∷ []))
    -- 0x00008067 (JALR x0, x1, 0): 81 bytes
    ∷ translation 0x80000000 64 (words (0x00008067 ∷ [])) 0 (81 ∷ 1 ∷ 4 ∷ [])
    (framed (dump 34 0x4C8B9308000000_4981C200000000_4981E2FEFFFFFF_4C89D0_48BA0100000000000000))
    -- sixty-four times 0x002091BB (SLLW): 2,243 bytes
    ∷ translation 0x80000000 64 (copies 64 (words (0x002091BB ∷ []))) 0 (2243 ∷ 64 ∷ 256 ∷ [])
    (framed (copies 64 (dump 34 0x4C8B9308000000_4C8B9B10000000_4C89D9_4883E11F_41D3E2_4D63D2_4C899318000000)
    ++ dump 20 0x48B80001008000000000_48BA4000000000000000))
    -- sixty-four times 0x0220C1BB (DIVW): 4,099 bytes, the greatest of any block (document 02, Q-2)
    ∷ translation 0x80000000 64 (copies 64 (words (0x0220C1BB ∷ []))) 0 (4099 ∷ 64 ∷ 256 ∷ [])
    (framed (copies 64 (dump 14 0x4C8B9308000000_4C8B9B10000000
    ++ dump 49 0x4D63D2_4D63DB_4C89D9_4883C101_4C89D0_490FAFC3_4829C8_4883F902_7207_4C89D0_99_41F7FB_4989C2_4D63D2_4C899318000000)
    ++ dump 20 0x48B80001008000000000_48BA4000000000000000))
    -- used 5, code 67, store 75: offset 8, used 75. Store 74: number 7
    ∷ placing 5 67 75 0 (8 ∷ 75 ∷ [])
    ∷ placing 5 67 74 7 [] ∷ []

-- 5. The statement

unfoldable pub CasesHold : Type 0
CasesHold = every cases ≡ true
