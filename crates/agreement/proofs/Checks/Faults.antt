-- What has no next state: a fetch, a read or a write that is not permitted, a division by 0 or whose quotient does not fit, a jump
-- backward. For each instruction that touches memory the least that has to be permitted is enough, and one address less is not; the
-- instruction stands at address 0, every register is 0x1000.
use Rattle.std.proofs.Common.{Bool, ◌&&◌, cond, false, not, true, List, [], ◌∷◌, ◌≡◌, refl, ℕ, ◌+◌, ◌-◌, ◌^◌, eqb, leb, ltb}
use Rattle.std.specs.Prelude.{Option, None, Some}
use Rattle.agreement.specs.X86.Decode.{Answer, cc_of, decode, imm, loaded, memory, modrm, moved, mul_div_of, on_reg, only, opcode1, pick}
use Rattle.agreement.specs.X86.Decode.{width_of}
use Rattle.agreement.specs.X86.Execute.{accesses, division_faults, faults}
use Rattle.agreement.specs.X86.Flags.{as_signed, sext}
use Rattle.agreement.specs.X86.Memory.{nth, span}
use Rattle.agreement.specs.X86.State.{State}
use Rattle.agreement.specs.X86.Step.{all, cut, did, fetched, next, step}
use Rattle.agreement.proofs.Checks.Flags.{off}

-- is there a step, where addresses from rl up to r may be read, from wl up to w written, and those below f fetched
abbrev goes : List ℕ → ℕ → ℕ → ℕ → ℕ → ℕ → Bool
goes bytes f rl r wl w = by (step (λ s. off)
    (record { fetch = λ a. ltb a f; read = λ a. leb rl a && ltb a r; write = λ a. leb wl a && ltb a w })
    (record { regs = λ k. 0x1000; flags = off; rip = 0; mem = nth bytes }))
  where
    by : Option (State × List ℕ) → Bool
    by None = false
    by (Some a) = true

-- n bytes, which read the 8 bytes from a: these may be read, and no fewer; nothing is written
abbrev reads : List ℕ → ℕ → ℕ → Bool
reads bytes n a =
    goes bytes n a (a + 8) 0 0 && (not (goes bytes (n - 1) a (a + 8) 0 0)
    && (not (goes bytes n (a + 1) (a + 8) 0 0) && not (goes bytes n a (a + 7) 0 0)))

-- n bytes, which write the 8 bytes from a; nothing is read
abbrev writes : List ℕ → ℕ → ℕ → Bool
writes bytes n a =
    goes bytes n 0 0 a (a + 8) && (not (goes bytes (n - 1) 0 0 a (a + 8))
    && (not (goes bytes n 0 0 (a + 1) (a + 8)) && not (goes bytes n 0 0 a (a + 7))))

-- MOV R10, [RBX + 0]; MOV [RBX + 0], R10; PUSH RBX; POP RBX; CALL RAX; RET
access_faults : reads (0x4C ∷ 0x8B ∷ 0x93 ∷ []) 7 0x1000
    && (writes (0x4C ∷ 0x89 ∷ 0x93 ∷ []) 7 0x1000
    && (writes (0x53 ∷ []) 1 0xFF8
    && (reads (0x5B ∷ []) 1 0x1000
    && (writes (0xFF ∷ 0xD0 ∷ []) 2 0xFF8
    && reads (0xC3 ∷ []) 1 0x1000)))) ≡ true
unfolding step did next cut fetched all decode pick only opcode1 modrm memory on_reg imm loaded moved accesses span sext nth faults
access_faults = refl

-- is there a step of F7 with this REX prefix and this ModRM byte, RDX, RAX and R11 being so
abbrev divides : ℕ → ℕ → ℕ → ℕ → ℕ → Bool
divides rex m high low d = by (step (λ s. off)
    (record { fetch = λ a. true; read = λ a. false; write = λ a. false })
    (record {
      regs = λ k. cond (eqb k 0) low (cond (eqb k 2) high d);
      flags = off;
      rip = 0;
      mem = nth (rex ∷ 0xF7 ∷ m ∷ []);
    }))
  where
    by : Option (State × List ℕ) → Bool
    by None = false
    by (Some a) = true

-- DIV R11 (49 F7 F3), IDIV R11 (49 F7 FB), DIV R11D (41 F7 F3) and IDIV R11D (41 F7 FB), as a processor does them: by 0, and with
-- quotients that are too large by one; and with the greatest and the least quotient. Bits above the operand size do not count
unfoldable faulting : List Bool
faulting =
    divides 0x49 0xF3 0 7 0
    ∷ divides 0x49 0xF3 2 0 2
    ∷ divides 0x49 0xFB 0 7 0
    ∷ divides 0x49 0xFB (2 ^ 64 - 1) (2 ^ 63) (2 ^ 64 - 1)
    ∷ divides 0x49 0xFB 0 (2 ^ 63) 1
    ∷ divides 0x49 0xFB (2 ^ 64 - 1) (2 ^ 63 - 1) 1
    ∷ divides 0x41 0xF3 0x5555555500000000 0x6666666600000007 0xAAAAAAAA00000000
    ∷ divides 0x41 0xF3 0x5555555500000002 0x6666666600000000 0xAAAAAAAA00000002
    ∷ divides 0x41 0xFB 0x5555555500000000 0x6666666600000007 0xAAAAAAAA00000000
    ∷ divides 0x41 0xFB 0x55555555FFFFFFFF 0x6666666680000000 0xAAAAAAAAFFFFFFFF
    ∷ divides 0x41 0xFB 0x5555555500000000 0x6666666680000000 0xAAAAAAAA00000001
    ∷ divides 0x41 0xFB 0x55555555FFFFFFFF 0x666666667FFFFFFF 0xAAAAAAAA00000001 ∷ []

unfoldable fitting : List Bool
fitting =
    divides 0x49 0xF3 1 (2 ^ 64 - 1) 2
    ∷ divides 0x49 0xFB 0 (2 ^ 63 - 1) 1
    ∷ divides 0x49 0xFB (2 ^ 64 - 1) (2 ^ 63) 1
    ∷ divides 0x41 0xF3 0x5555555500000001 0x66666666FFFFFFFF 0xAAAAAAAA00000002
    ∷ divides 0x41 0xFB 0x5555555500000000 0x666666667FFFFFFF 0xAAAAAAAA00000001
    ∷ divides 0x41 0xFB 0x55555555FFFFFFFF 0x6666666680000000 0xAAAAAAAA00000001 ∷ []

-- are all of them so
unfoldable are : Bool → List Bool → Bool
are t [] = true
are true (b ∷ bs) = b && are true bs
are false (b ∷ bs) = not b && are false bs

division_faults_lem : are false faulting && are true fitting ≡ true
unfolding
    step did next cut fetched all decode pick only opcode1 modrm mul_div_of on_reg width_of accesses nth faults division_faults as_signed
    faulting fitting are
division_faults_lem = refl

-- a jump backward is not decoded
abbrev jumps : ℕ → Bool
jumps d = by (decode (0x72 ∷ d ∷ []))
  where
    by : Answer → Bool
    by None = false
    by (Some a) = true

forward_only : jumps 0x00 && (jumps 0x7F && (not (jumps 0x80) && not (jumps 0xFE))) ≡ true
unfolding decode pick only opcode1 cc_of imm
forward_only = refl
