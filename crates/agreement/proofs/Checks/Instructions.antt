-- The host's meanings by themselves, as computed vectors, with what no block looks at: upper halves, AL alone, the sign
-- extension of immediates and displacements, the masks of shift counts. The values of products, divisions and jumps are what a
-- processor gave for the same instruction and operands.
use Rattle.std.proofs.Common.{Bool, ◌&&◌, cond, false, true, List, [], ◌∷◌, ◌≡◌, refl, ℕ, zero, suc, ◌+◌, ◌/◌, ◌%◌, ◌^◌, eqb}
use Rattle.agreement.specs.Cases.{equal}
use Rattle.agreement.proofs.Checks.Flags.{number, off}
use Rattle.agreement.specs.X86.Encode.{encode}
use Rattle.agreement.specs.X86.Execute.{exec}
use Rattle.agreement.specs.X86.Flags.{alu_value, as_bits, as_signed, holds, sext, shifted}
use Rattle.agreement.specs.X86.Form.{Cc, Instr, R10, R11, R12, RAX, RBX, RDX, RSP}
use Rattle.agreement.specs.X86.Form.Alu.{add, and, cmp, or, sub, xor}
use Rattle.agreement.specs.X86.Form.Cc.{AE, B, E, GE, L, NE}
use Rattle.agreement.specs.X86.Form.Instr.{alu, alu_imm32, alu_imm8, cmov, cqo, imul, jcc, load, movsxd, movzx, mul_div, pop, setcc_al}
use Rattle.agreement.specs.X86.Form.Instr.{shift_cl, shift_imm8, store}
use Rattle.agreement.specs.X86.Form.MulDiv.{sdiv, smul, udiv, umul}
use Rattle.agreement.specs.X86.Form.Shift.{sar, shl, shr}
use Rattle.agreement.specs.X86.Form.Width.{r32, r64}
use Rattle.agreement.specs.X86.Memory.{nth, read}
use Rattle.agreement.specs.X86.State.{Flags, State}

-- 1. One register, from one state

abbrev carry : Flags
carry = record { cf = true; pf = false; af = false; zf = false; sf = false; of = false }

-- below 2^32 each byte is the low byte of its address
abbrev s : State
s = record {
  regs = nth (0x1122334455667788 ∷ 33 ∷ 0 ∷ 0x1000 ∷ 0x2000 ∷ 0 ∷ 0 ∷ 0 ∷ 0 ∷ 0 ∷ 0xFFFFFFFF80000001 ∷ 0x1FFFFFFFF ∷ []);
  flags = carry;
  rip = 0;
  mem = λ a. a + a / 2 ^ 32;
}

-- the register r after the instruction
record Vector : Type 0 where
  i : Instr
  r : ℕ
  v : ℕ

abbrev gives : Instr → ℕ → ℕ → Vector
gives i r v = record { i = i; r = r; v = v }

abbrev pass : List Vector → Bool
pass [] = true
pass (w ∷ ws) = eqb ((exec (λ s. carry) w.i s).regs w.r) w.v && pass ws

vectors : List Vector
vectors =
    gives (alu r64 add R10 R11) R10 0x180000000
    ∷ gives (alu r64 sub R10 R11) R10 0xFFFFFFFD80000002
    ∷ gives (alu r64 or R10 R11) R10 0xFFFFFFFFFFFFFFFF
    ∷ gives (alu r64 and R10 R11) R10 0x180000001
    ∷ gives (alu r64 xor R10 R11) R10 0xFFFFFFFE7FFFFFFE
    ∷ gives (alu r32 add R10 R11) R10 0x80000000
    ∷ gives (alu r32 sub R10 R11) R10 0x80000002
    ∷ gives (alu r32 cmp R10 R11) R10 0xFFFFFFFF80000001
    ∷ gives (alu_imm8 add R10 0xFF) R10 0xFFFFFFFF80000000
    ∷ gives (alu_imm32 add R10 0xFFFFFFFF) R10 0xFFFFFFFF80000000
    ∷ gives (shift_cl r32 shr R10) R10 0x40000000
    ∷ gives (shift_cl r64 shr R10) R10 0x7FFFFFFF
    ∷ gives (shift_cl r64 shl R10) R10 0x200000000
    ∷ gives (shift_cl r64 sar R10) R10 0xFFFFFFFFFFFFFFFF
    ∷ gives (shift_imm8 r64 shl R10 65) R10 0xFFFFFFFF00000002
    ∷ gives (shift_imm8 r32 sar R10 36) R10 0xF8000000
    ∷ gives (imul r64 R10 R11) R10 0x27FFFFFFF
    ∷ gives (imul r32 R10 R11) R10 0x7FFFFFFF
    ∷ gives (movsxd R10 R11) R10 0xFFFFFFFFFFFFFFFF
    ∷ gives (setcc_al B) RAX 0x1122334455667701
    ∷ gives (setcc_al AE) RAX 0x1122334455667700
    ∷ gives (movzx R10 RAX) R10 0x88
    ∷ gives (cmov B R10 R11) R10 0x1FFFFFFFF
    ∷ gives (cmov AE R10 R11) R10 0xFFFFFFFF80000001
    ∷ gives (load R10 RBX 0xFFFFFFF8) R10 0xFFFEFDFCFBFAF9F8
    ∷ gives (pop R10) R10 0x0706050403020100
    ∷ gives (pop R10) RSP 0x2008 ∷ []

vectors_pass : pass vectors ≡ true
unfolding exec alu_value shifted sext holds nth read vectors
vectors_pass = refl

-- 2. Products, quotients and remainders: with RDX, RAX and R11 before, what RAX and RDX are afterwards. A 32-bit form takes the
-- low halves and clears the upper ones; a product does not look at RDX; the operand may be RAX or RDX too

record Pair : Type 0 where
  i : Instr
  high : ℕ
  low : ℕ
  b : ℕ
  rax : ℕ
  rdx : ℕ

abbrev pair : Instr → ℕ → ℕ → ℕ → ℕ → ℕ → Pair
pair i high low b rax rdx = record { i = i; high = high; low = low; b = b; rax = rax; rdx = rdx }

abbrev before : Pair → State
before p = record {
  regs = λ k. cond (eqb k RAX) p.low (cond (eqb k RDX) p.high (cond (eqb k R11) p.b 0));
  flags = off;
  rip = 0;
  mem = λ a. 0;
}

abbrev pairs_pass : List Pair → Bool
pairs_pass [] = true
pairs_pass (p ∷ ps) =
    let t : State = exec (λ s. off) p.i (before p) in
    (eqb (t.regs RAX) p.rax && eqb (t.regs RDX) p.rdx) && pairs_pass ps

pairs : List Pair
pairs =
    pair (mul_div r64 umul R11) 0 0x1122334455667788 0xFFFFFFFF80000001 0xE66EF78055667788 0x112233444CD55DE5
    ∷ pair (mul_div r64 umul R11) 0x7777777777777777 0xFEDCBA9876543210 0x123456789ABCDEF 0x2236D88FE5618CF0 0x121FA00AD77D742
    ∷ pair (mul_div r64 umul R11) 0x7777777777777777 0xFFFFFFFFFFFFFFFF 0xFFFFFFFFFFFFFFFF 1 0xFFFFFFFFFFFFFFFE
    ∷ pair (mul_div r64 smul R11) 0 0x1122334455667788 0xFFFFFFFF80000001 0xE66EF78055667788 0xFFFFFFFFF76EE65D
    ∷ pair (mul_div r64 smul R11) 0x7777777777777777 0xFEDCBA9876543210 0x123456789ABCDEF 0x2236D88FE5618CF0 0xFFFEB49923CC0953
    ∷ pair (mul_div r64 smul R11) 0x7777777777777777 7 0xFFFFFFFFFFFFFFFD 0xFFFFFFFFFFFFFFEB 0xFFFFFFFFFFFFFFFF
    ∷ pair (mul_div r64 smul R11) 0x7777777777777777 0xFFFFFFFFFFFFFFF9 0xFFFFFFFFFFFFFFFD 0x15 0
    ∷ pair (mul_div r64 smul R11) 0x7777777777777777 0x8000000000000000 0x8000000000000000 0 0x4000000000000000
    ∷ pair (mul_div r64 smul R11) 0x7777777777777777 0x8000000000000000 0x7FFFFFFFFFFFFFFF 0x8000000000000000 0xC000000000000000
    ∷ pair (mul_div r32 umul R11) 0 0x1122334455667788 0x1FFFFFFFF 0xAA998878 0x55667787
    ∷ pair (mul_div r32 umul R11) 0x7777777777777777 0x5555555589ABCDEF 0xAAAAAAAAFEDCBA98 0xAD05EBE8 0x890F2A50
    ∷ pair (mul_div r32 smul R11) 0 0x1122334455667788 0x1FFFFFFFF 0xAA998878 0xFFFFFFFF
    ∷ pair (mul_div r32 smul R11) 0x7777777777777777 0x5555555589ABCDEF 0xAAAAAAAA76543210 0xE5618CF0 0xC94E4627
    ∷ pair (mul_div r32 smul R11) 0x7777777777777777 0x5555555500000007 0xAAAAAAAAFFFFFFFD 0xFFFFFFEB 0xFFFFFFFF
    ∷ pair (mul_div r32 smul R11) 0x7777777777777777 0x55555555FFFFFFF9 0xAAAAAAAAFFFFFFFD 0x15 0
    ∷ pair (mul_div r32 smul R11) 0x7777777777777777 0x5555555580000000 0xAAAAAAAA80000000 0 0x40000000
    ∷ pair (mul_div r64 udiv R11) 0 0x1122334455667788 0x1FFFFFFFF 0x89119A2 0x5DF7912A
    ∷ pair (mul_div r64 udiv R11) 0 7 2 3 1
    ∷ pair (mul_div r64 udiv R11) 5 0x123456789ABCDEF0 0xFEDCBA9876543210 5 0x17E4B17E4B17E4A0
    ∷ pair (mul_div r64 udiv R11) 1 0xFFFFFFFFFFFFFFFF 2 0xFFFFFFFFFFFFFFFF 1
    ∷ pair (mul_div r64 udiv R11) 0 0xFFFFFFFFFFFFFFFF 0xA 0x1999999999999999 5
    ∷ pair (mul_div r64 sdiv R11) 0 0x1122334455667788 0xFFFFFFFF80000001 0xFFFFFFFFDDBB9978 0x77AADE10
    ∷ pair (mul_div r64 sdiv R11) 0 7 2 3 1
    ∷ pair (mul_div r64 sdiv R11) 0xFFFFFFFFFFFFFFFF 0xFFFFFFFFFFFFFFF9 2 0xFFFFFFFFFFFFFFFD 0xFFFFFFFFFFFFFFFF
    ∷ pair (mul_div r64 sdiv R11) 0 7 0xFFFFFFFFFFFFFFFE 0xFFFFFFFFFFFFFFFD 1
    ∷ pair (mul_div r64 sdiv R11) 0xFFFFFFFFFFFFFFFF 0xFFFFFFFFFFFFFFF9 0xFFFFFFFFFFFFFFFE 3 0xFFFFFFFFFFFFFFFF
    ∷ pair (mul_div r64 sdiv R11) 0xFFFFFFFFFFFFFFF0 0x123456789ABCDEF0 0x123456789ABCDEF0 0xFFFFFFFFFFFFFF20 0xFFFFFFFFFFFFF0F0
    ∷ pair (mul_div r64 sdiv R11) 0xFEDCBA987654321 0xF1E2D3C4B5A6978 0x8000000000000001 0xE02468ACF13579BE 0x2EF9C48F5A24EFBA
    ∷ pair (mul_div r64 sdiv R11) 0xFFFFFFFFFFFFFFFF 0x8000000000000000 1 0x8000000000000000 0
    ∷ pair (mul_div r64 sdiv R11) 0 0x8000000000000000 0xFFFFFFFFFFFFFFFF 0x8000000000000000 0
    ∷ pair (mul_div r32 udiv R11) 0 0x1122334455667788 0x21 0x2967FBE 0xA
    ∷ pair (mul_div r32 udiv R11) 0x5555555500000000 0x6666666600000007 0xAAAAAAAA00000002 3 1
    ∷ pair (mul_div r32 udiv R11) 0x5555555500000005 0x6666666689ABCDEF 0xAAAAAAAAFEDCBA98 5 0x8F5C28F7
    ∷ pair (mul_div r32 udiv R11) 0x5555555500000001 0x66666666FFFFFFFF 0xAAAAAAAA00000002 0xFFFFFFFF 1
    ∷ pair (mul_div r32 sdiv R11) 0 0x1122334455667788 0xFFFFFFFF80000001 0 0x55667788
    ∷ pair (mul_div r32 sdiv R11) 0x5555555500000000 0x6666666600000007 0xAAAAAAAA00000002 3 1
    ∷ pair (mul_div r32 sdiv R11) 0x55555555FFFFFFFF 0x66666666FFFFFFF9 0xAAAAAAAA00000002 0xFFFFFFFD 0xFFFFFFFF
    ∷ pair (mul_div r32 sdiv R11) 0x5555555500000000 0x6666666600000007 0xAAAAAAAAFFFFFFFE 0xFFFFFFFD 1
    ∷ pair (mul_div r32 sdiv R11) 0x55555555FFFFFFFF 0x66666666FFFFFFF9 0xAAAAAAAAFFFFFFFE 3 0xFFFFFFFF
    ∷ pair (mul_div r32 sdiv R11) 0x55555555FFFFFFF0 0x666666669ABCDEF0 0xAAAAAAAA12345678 0xFFFFFF28 0xF6E5D430
    ∷ pair (mul_div r32 sdiv R11) 0x55555555FFFFFFFF 0x6666666680000000 0xAAAAAAAA00000001 0x80000000 0
    ∷ pair (mul_div r32 sdiv R11) 0 0x80000000 0xAAAAAAAAFFFFFFFF 0x80000000 0
    ∷ pair (cqo r64) 0x7777777777777777 0x8000000000000000 0 0x8000000000000000 0xFFFFFFFFFFFFFFFF
    ∷ pair (cqo r64) 0x7777777777777777 0x7FFFFFFFFFFFFFFF 0 0x7FFFFFFFFFFFFFFF 0
    ∷ pair (cqo r32) 0x7777777777777777 0x5555555580000000 0 0x5555555580000000 0xFFFFFFFF
    ∷ pair (cqo r32) 0x7777777777777777 0xAAAAAAAA7FFFFFFF 0 0xAAAAAAAA7FFFFFFF 0
    ∷ pair (mul_div r64 umul RAX) 0x7777777777777777 0xFEDCBA9876543210 0 0xDEEC6CD7A44A4100 0xFDBAC097C8DC5ACC
    ∷ pair (mul_div r64 smul RDX) 0xFEDCBA9876543210 0x123456789ABCDEF 0 0x2236D88FE5618CF0 0xFFFEB49923CC0953
    ∷ pair (mul_div r32 udiv RAX) 0x5555555500000000 0x6666666600000007 0 1 0
    ∷ pair (mul_div r64 sdiv RAX) 0xFFFFFFFFFFFFFFFF 0xFFFFFFFFFFFFFFF9 0 1 0
    ∷ pair (mul_div r64 sdiv RAX) 0 0xFFFFFFFFFFFFFFF9 0 0xDB6DB6DB6DB6DB6F 2 ∷ []

pairs_pass_lem : pairs_pass pairs ≡ true
unfolding exec as_signed as_bits pairs
pairs_pass_lem = refl

-- 3. Jumps over 0x7F bytes, 0x1000 being the address behind the jump, in each of the 64 settings of the flags: bit n of m says that the
-- jump is taken in the setting whose `number` is n

abbrev setting : ℕ → Flags
setting n = record {
  cf = eqb (n / 32 % 2) 1;
  pf = eqb (n / 16 % 2) 1;
  af = eqb (n / 8 % 2) 1;
  zf = eqb (n / 4 % 2) 1;
  sf = eqb (n / 2 % 2) 1;
  of = eqb (n % 2) 1;
}

abbrev goes_to : Cc → ℕ → ℕ
goes_to c n = (exec (λ s. off) (jcc c 0x7F) (record { regs = λ k. 0; flags = setting n; rip = 0x1000; mem = λ a. 0 })).rip

-- the settings below k
abbrev jumps : Cc → ℕ → ℕ → Bool
jumps c m zero = true
jumps c m (suc k) =
    (eqb (number (setting k)) k && eqb (goes_to c k) (cond (eqb (m / 2 ^ k % 2) 1) 0x107F 0x1000)) && jumps c m k

jumps_pass : jumps B 0xFFFFFFFF00000000 64
    && (jumps AE 0x00000000FFFFFFFF 64
    && (jumps E 0xF0F0F0F0F0F0F0F0 64
    && (jumps NE 0x0F0F0F0F0F0F0F0F 64
    && (jumps L 0x6666666666666666 64
    && jumps GE 0x9999999999999999 64)))) ≡ true
unfolding exec holds
jumps_pass = refl

-- 4. Bytes

-- a base whose low bits are 4 has a SIB byte, which no block's code has
sib-bytes : equal (encode (load R10 R12 0x10)) (0x4D ∷ 0x8B ∷ 0x94 ∷ 0x24 ∷ 0x10 ∷ 0 ∷ 0 ∷ 0 ∷ [])
    && equal (encode (store RSP 0 RAX)) (0x48 ∷ 0x89 ∷ 0x84 ∷ 0x24 ∷ 0 ∷ 0 ∷ 0 ∷ 0 ∷ []) ≡ true
unfolding equal
sib-bytes = refl
