-- Results and flags of the arithmetic instructions, over the operand size w in bits. Intel SDM volume 1, "Status Flags";
-- volume 2, "Flags Affected" of each page. What a page leaves undefined is taken from u, of which nothing is assumed.
use Rattle.std.specs.Prelude.{Bool, true, false, not, cond, ◌&&◌, ℕ, zero, suc, ◌+◌, ◌-◌, ◌*◌, ◌/◌, ◌%◌, ◌^◌, leb, ltb, eqb, ℤ}
use Rattle.std.specs.Int.Bits.{bit_and, bit_or, bit_xor}
use Rattle.std.proofs.Math.IntN.{ℤ.pos, ℤ.negsuc}
use Rattle.agreement.specs.X86.Form.{Alu, Shift, Cc}
use Rattle.agreement.specs.X86.Form.Alu.{add, or, and, sub, xor, cmp}
use Rattle.agreement.specs.X86.Form.Shift.{shl, shr, sar}
use Rattle.agreement.specs.X86.Form.Cc.{B, AE, E, NE, L, GE}
use Rattle.agreement.specs.X86.State.{Flags}

-- is the top bit of a number of w bits set
abbrev pub negative : ℕ → ℕ → Bool
negative w a = leb (2 ^ w / 2) a

-- sign extension from k bits to w, "SignExtend"
unfoldable pub sext : ℕ → ℕ → ℕ → ℕ
sext k w a = cond (negative k a) (a + (2 ^ w - 2 ^ k)) a

-- the integer that w bits stand for in two's complement, and the w bits of an integer (volume 1, "Signed Integers")
unfoldable pub as_signed : ℕ → ℕ → ℤ
as_signed w a = cond (negative w a) (negsuc (2 ^ w - 1 - a)) (pos a)

unfoldable pub as_bits : ℕ → ℤ → ℕ
as_bits w (pos a) = a % 2 ^ w
as_bits w (negsuc a) = 2 ^ w - 1 - a % 2 ^ w

abbrev pub unlike : Bool → Bool → Bool
unlike true b = not b
unlike false b = b

abbrev pub minus : ℕ → ℕ → ℕ → ℕ
minus w a b = (a + (2 ^ w - b)) % 2 ^ w

-- PF: the least significant byte of the result has an even number of ones
unfoldable pub ones : ℕ → ℕ → ℕ
ones zero v = 0
ones (suc n) v = v % 2 + ones n (v / 2)

unfoldable pub even_ones : ℕ → Bool
even_ones v = eqb (ones 8 v % 2) 0

-- ADD, OR, AND, SUB, XOR; CMP computes as SUB
unfoldable pub alu_value : ℕ → Alu → ℕ → ℕ → ℕ
alu_value w add a b = (a + b) % 2 ^ w
alu_value w or a b = bit_or a b
alu_value w and a b = bit_and a b
alu_value w sub a b = minus w a b
alu_value w xor a b = bit_xor a b
alu_value w cmp a b = minus w a b

-- flags of a result v of w bits: PF, ZF and SF go by the result, CF, AF and OF are given
abbrev pub flags_of : ℕ → ℕ → Bool → Bool → Bool → Flags
flags_of w v c a o = record { cf = c; pf = even_ones v; af = a; zf = eqb v 0; sf = negative w v; of = o }

-- AND, OR, XOR: "the OF and CF flags are cleared; the SF, ZF, and PF flags are set according to the result"; AF undefined
unfoldable pub logic_flags : ℕ → ℕ → Flags → Flags
logic_flags w v u = flags_of w v false u.af false

-- CF: carry out of the top bit; AF: carry out of bit 3; OF: the operands have one sign and the result the other
unfoldable pub add_flags : ℕ → ℕ → ℕ → Flags
add_flags w a b = flags_of w ((a + b) % 2 ^ w) (leb (2 ^ w) (a + b)) (leb 16 (a % 16 + b % 16))
    (not (unlike (negative w a) (negative w b)) && unlike (negative w ((a + b) % 2 ^ w)) (negative w a))

-- CF and AF: borrows; OF: the operands' signs differ and the result's sign is not the first one's
unfoldable pub sub_flags : ℕ → ℕ → ℕ → Flags
sub_flags w a b = flags_of w (minus w a b) (ltb a b) (ltb (a % 16) (b % 16))
    (unlike (negative w a) (negative w b) && unlike (negative w (minus w a b)) (negative w a))

unfoldable pub alu_flags : ℕ → Alu → ℕ → ℕ → Flags → Flags
alu_flags w add a b u = add_flags w a b
alu_flags w or a b u = logic_flags w (bit_or a b) u
alu_flags w and a b u = logic_flags w (bit_and a b) u
alu_flags w sub a b u = sub_flags w a b
alu_flags w xor a b u = logic_flags w (bit_xor a b) u
alu_flags w cmp a b u = sub_flags w a b

-- volume 1, "EFLAGS Condition Codes"
unfoldable pub holds : Cc → Flags → Bool
holds B f = f.cf
holds AE f = not f.cf
holds E f = f.zf
holds NE f = not f.zf
holds L f = unlike f.sf f.of
holds GE f = not (unlike f.sf f.of)

-- SHL, SHR; SAR divides the signed number by 2^c, rounding toward negative infinity
unfoldable pub shifted : ℕ → Shift → ℕ → ℕ → ℕ
shifted w shl a c = a * 2 ^ c % 2 ^ w
shifted w shr a c = a / 2 ^ c
shifted w sar a c = cond (negative w a) (2 ^ w - 1 - (2 ^ w - 1 - a) / 2 ^ c) (a / 2 ^ c)

-- CF: the last bit shifted out, for a count that is not 0
unfoldable pub shifted_out : ℕ → Shift → ℕ → ℕ → Bool
shifted_out w shl a c = eqb (a * 2 ^ c / 2 ^ w % 2) 1
shifted_out w shr a c = eqb (a * 2 / 2 ^ c % 2) 1
shifted_out w sar a c = eqb (a * 2 / 2 ^ c % 2) 1

-- OF of a shift by 1: SHL, the top two bits differ; SHR, the top bit; SAR, 0
unfoldable pub shift_overflow : ℕ → Shift → ℕ → Bool
shift_overflow w shl a = unlike (negative w (a * 2 % 2 ^ w)) (negative w a)
shift_overflow w shr a = negative w a
shift_overflow w sar a = false

-- "If the count is 0, the flags are not affected"; OF is defined for count 1 only; AF is undefined. (A masked count is
-- below the operand size of 32 or 64 bits, so that CF is defined.)
unfoldable pub shift_flags : ℕ → Shift → ℕ → ℕ → Flags → Flags → Flags
shift_flags w op a c old u = elim (eqb c 0) [
  | true ↦ old
  | false ↦ flags_of w (shifted w op a c) (shifted_out w op a c) u.af (cond (eqb c 1) (shift_overflow w op a) u.of)
]

-- a product: CF and OF say that it does not fit w bits; SF, ZF, AF and PF are undefined
abbrev pub product_flags : Bool → Flags → Flags
product_flags over u = record { cf = over; pf = u.pf; af = u.af; zf = u.zf; sf = u.sf; of = over }

-- IMUL of two operands, whose signed product is cut to w bits. (Newer editions of the SDM define SF; left undefined here, the
-- agreement covers both.)
unfoldable pub imul_flags : ℕ → ℕ → ℕ → Flags → Flags
imul_flags w a b u =
    let exact : ℕ = sext w (2 * w) a * sext w (2 * w) b % 2 ^ (2 * w) in
    product_flags (not (eqb exact (sext w (2 * w) (a * b % 2 ^ w)))) u

-- MUL and IMUL of one operand, p the whole product, of 2w bits: is its upper half not 0, or not the sign of the lower
unfoldable pub umul_flags : ℕ → ℕ → Flags → Flags
umul_flags w p u = product_flags (not (eqb (p / 2 ^ w) 0)) u

unfoldable pub smul_flags : ℕ → ℕ → Flags → Flags
smul_flags w p u = product_flags (not (eqb p (sext w (2 * w) (p % 2 ^ w)))) u

abbrev pub bit_of : Bool → ℕ
bit_of true = 1
bit_of false = 0
