-- The translator's word for a halfword is the manual's, for every number, where that is read in line; else there is none.
use Rattle.std.proofs.Common.{Bool, cond, false, not, true, ◌&&◌, ◌∙◌, ◌≡◌, refl, subst, sym, ◌%◌, ◌*◌, ◌+◌, ◌-◌, ◌/◌, ◌<◌, ◌^◌}
use Rattle.std.specs.Prelude.{Option, None, Some}
use Rattle.std.proofs.Common.{suc, zero, ℕ, mod-lt, arith, eqb, pow_mono, pow_pos, shr-shr}
use native.Mathlib.Decide.{ℕ_discrete}
use lib.Pow.{high, mod-pow-add}
use Rattle.agreement.specs.Laws.{ExpandsAlike, ExpandsToListed, Listed}
use Rattle.agreement.specs.Riscv.Fields.{bits, funct3, funct6, funct7, opcode}
use Rattle.agreement.specs.Riscv.Immediates.{sign_extend}
use Rattle.agreement.specs.Riscv.Compressed as C
use Rattle.agreement.specs.Riscv.Instruction.{find, find_in, listing, named, three_is, top_is}
use Rattle.agreement.specs.Riscv.Run.{if_in_line, in_line, is_in_line, taken}
use Rattle.agreement.specs.Translation.Decode16 as D
use Rattle.agreement.proofs.Laws.Naming.{eight, find_renamed, rows}
use Rattle.agreement.proofs.Laws.Tests.{eqb_no, eqb_yes}
use Rattle.agreement.proofs.Laws.Width.{twice}

-- 1. Cases of a small number, by an equation for each

two : {A : Type 0} (x : ℕ) → x < 2 → (x ≡ 0 → A) → (x ≡ 1 → A) → A
two zero l a b = a refl
two (suc zero) l a b = b refl
two (suc (suc x)) l a b = absurd (omega arith)

four : {A : Type 0} (x : ℕ) → x < 4 → (x ≡ 0 → A) → (x ≡ 1 → A) → (x ≡ 2 → A) → (x ≡ 3 → A) → A
four zero l a b c d = a refl
four (suc zero) l a b c d = b refl
four (suc (suc zero)) l a b c d = c refl
four (suc (suc (suc zero))) l a b c d = d refl
four (suc (suc (suc (suc x)))) l a b c d = absurd (omega arith)

-- 2. Fields and immediates

part_lt : (h k n : ℕ) → D.part h k n < 2 ^ n
part_lt h k n = mod-lt (h / 2 ^ k) (pow_pos n)

-- a field of two that stand side by side
part_split : (h k j i : ℕ) → D.part h k (j + i) ≡ D.part h (k + i) j * 2 ^ i + D.part h k i
part_split h k j i = rw (← (shr-shr h k i)) (mod-pow-add (h / 2 ^ k) j i)

-- a sign bit s above k bits is s times the ones from bit k on
extended : (k s a x : ℕ) → k < 64 → s < 2 → a < 2 ^ k → x ≡ s * 2 ^ k + a → sign_extend (suc k) x ≡ s * (2 ^ 64 - 2 ^ k) + a
unfolding sign_extend
extended k s a x l b h e =
    rw (e, high s k h) (
    two s b (λ e. rw e (omega arith)) (λ e. rw e (omega (arith, twice k, pow_mono {i = suc k} {j = 64} l))))

eqb_zero : (a b : ℕ) → (a ≡ 0 → b ≡ 0) → (b ≡ 0 → a ≡ 0) → eqb a 0 ≡ eqb b 0
eqb_zero a b f g = go (ℕ_discrete a 0)
  where
    go : Dec (a ≡ 0) → eqb a 0 ≡ eqb b 0
    go (yes e) = eqb_yes a 0 e ∙ sym (eqb_yes b 0 (f e))
    go (no n) = eqb_no a 0 n ∙ sym (eqb_no b 0 (λ e. n (g e)))

-- the formats of an immediate that is a sign s and bits 10 to 1, or bits 7 to 5 and 4 to 1
type_j_is : (s x : ℕ) → s < 2 → x < 2 ^ 10 → C.type_j (s * (2 ^ 64 - 2 ^ 11) + x * 2) 0 0x6F ≡ s * 0x801FF000 + x * 2 ^ 21 + 0x6F
type_j_is s x l k =
    let i : ℕ = s * (2 ^ 64 - 2 ^ 11) + x * 2 in
    let q : (bits 20 20 i ≡ s) × (bits 10 1 i ≡ x) × (bits 11 11 i ≡ s) × (bits 19 12 i ≡ s * 255) =
    (omega arith, omega arith, omega arith, omega arith) in
    rw (q.0, q.1, q.2, q.3) (omega arith)

type_b_is : (s y x r f : ℕ) → s < 2 → y < 8 → x < 16
    → C.type_b (s * (2 ^ 64 - 2 ^ 8) + (y * 2 ^ 5 + x * 2)) 0 r f 0x63
    ≡ s * 0xF0000080 + y * 2 ^ 25 + x * 2 ^ 8 + r * 2 ^ 15 + f * 2 ^ 12 + 0x63
type_b_is s y x r f l k m =
    let i : ℕ = s * (2 ^ 64 - 2 ^ 8) + (y * 2 ^ 5 + x * 2) in
    let q : (bits 12 12 i ≡ s) × (bits 10 5 i ≡ s * 56 + y) × (bits 4 1 i ≡ x) × (bits 11 11 i ≡ s) =
    (omega arith, omega arith, omega arith, omega arith) in
    rw (q.0, q.1, q.2, q.3) (omega arith)

-- 3. What the translator's word is: a word that is read in line, none of one that a helper runs, none of none

data Alike : Option ℕ → Option ℕ → Type 0 where
  read : (v w : ℕ) → v ≡ w → Listed v → Alike (Some v) (Some w)
  left : (w : ℕ) → is_in_line (taken w) ≡ false → Alike None (Some w)
  reserved : Alike None None

taken_is : (w o f s t : ℕ) → opcode w ≡ o → funct3 w ≡ f → funct7 w ≡ s → funct6 w ≡ t → taken w ≡ find o f s t w rows
unfolding taken named find_in
taken_is w o f s t a b c d = find_renamed (opcode w) (funct3 w) (funct7 w) (funct6 w) w listing ∙ rw (a, b, c, d) refl

reads : (v w o f s t : ℕ) → v ≡ w → v < 2 ^ 32 → opcode v ≡ o → funct3 v ≡ f → funct7 v ≡ s → funct6 v ≡ t
    → o % 4 ≡ 3 → is_in_line (find o f s t v rows) ≡ true → Alike (Some v) (Some w)
reads v w o f s t e l a b c d m k =
    let three : v % 4 ≡ 3 = omega arith in
    read v w e (record { below = l; low = three; is_straight_or_ends = rw (taken_is v o f s t a b c d) k })

leaves : (w o f : ℕ) → opcode w ≡ o → funct3 w ≡ f → is_in_line (find o f (funct7 w) (funct6 w) w rows) ≡ false → Alike None (Some w)
leaves w o f a b k = left w (rw (taken_is w o f _ _ a b refl refl) k)

-- a row that asks for a number that is not 0: t and u say whether it is
unless : (t u : Bool) (v w : ℕ) → t ≡ u → Alike (Some v) (Some w) → Alike (D.unless t v) (cond (not u) (Some w) None)
unless t u v w e a = rw e (go u)
  where
    go : (u : Bool) → Alike (D.unless u v) (cond (not u) (Some w) None)
    go true = reserved
    go false = a

-- C.ADDI16SP and C.LUI: t says whether rd is x2, z, y and x whether the immediate is 0
upper : (t z y x : Bool) (a b v w : ℕ) → z ≡ y → z ≡ x → Alike (Some a) (Some v) → Alike (Some b) (Some w)
    → Alike (D.unless z (cond t a b)) (cond (t && not y) (Some v) (cond (not t && not x) (Some w) None))
upper t z y x a b v w p q k l = rw (← p, ← q) (go t z)
  where
    go : (t z : Bool) → Alike (D.unless z (cond t a b)) (cond (t && not z) (Some v) (cond (not t && not z) (Some w) None))
    go true true = reserved
    go true false = k
    go false true = reserved
    go false false = l

-- 4. By the low two bits and funct3: a lemma for each row of the listing that a halfword fits. The parts of the halfword are given as
-- variables, so that `omega` meets few quotients.

module _ (h : ℕ) where
  abbrev Same : ℕ → ℕ → Type 0
  Same q f = Alike (D.expand_by (f * 4 + q) h) (C.expansion_by q f h)

  -- s and b: bit 12 and the five bits of an immediate or a shift amount; d: rd; r and q: rs1′ and rs2′ without their 8
  module _ (s b d r q : ℕ) (s-is : D.part h 12 1 ≡ s) (b-is : D.part h 2 5 ≡ b) (d-is : D.part h 7 5 ≡ d)
      (r-is : D.part h 7 3 ≡ r) (q-is : D.part h 2 3 ≡ q) (s-lt : s < 2) (b-lt : b < 32) (d-lt : d < 32) (r-lt : r < 8) (q-lt : q < 8) where
    imm_6_is : C.imm_6 h ≡ s * (2 ^ 64 - 2 ^ 5) + b
    imm_6_is = rw (s-is, b-is) (extended 5 s b _ (omega arith) s-lt b-lt (omega arith))

    imm_lui_is : C.imm_lui h ≡ s * (2 ^ 64 - 2 ^ 17) + b * 2 ^ 12
    imm_lui_is = rw (s-is, b-is) (extended 17 s (b * 2 ^ 12) _ (omega arith) s-lt (omega arith) (omega arith))

    -- quadrant 0

    fld : Same 0 1
    unfolding D.expand_by D.match C.expansion_by C.find find three_is top_is
    fld = rw (r-is, q-is) (leaves _ 0x07 3 (omega arith) (omega arith) refl)

    lw : Same 0 2
    unfolding D.expand_by D.match C.expansion_by C.find find three_is top_is
    lw = rw (r-is, q-is) (leaves _ 0x03 2 (omega arith) (omega arith) refl)

    ld : Same 0 3
    unfolding D.expand_by D.match C.expansion_by C.find find three_is top_is
    ld = rw (r-is, q-is) (leaves _ 0x03 3 (omega arith) (omega arith) refl)

    fsd : Same 0 5
    unfolding D.expand_by D.match C.expansion_by C.find find three_is top_is
    fsd = rw (r-is, q-is) (leaves _ 0x27 3 (omega arith) (omega arith) refl)

    sw : Same 0 6
    unfolding D.expand_by D.match C.expansion_by C.find find three_is top_is
    sw = rw (r-is, q-is) (leaves _ 0x23 2 (omega arith) (omega arith) refl)

    sd : Same 0 7
    unfolding D.expand_by D.match C.expansion_by C.find find three_is top_is
    sd = rw (r-is, q-is) (leaves _ 0x23 3 (omega arith) (omega arith) refl)

    addi : Same 1 0
    unfolding D.expand_by D.match C.expansion_by C.find find three_is top_is
    addi =
        rw (imm_6_is, s-is, b-is, d-is)
        (reads _ _ 0x13 0 _ _ (omega arith) (omega arith) (omega arith) (omega arith) refl refl refl refl)

    addiw : (y : Bool) → eqb (D.part h 7 5) 0 ≡ y → Same 1 1
    unfolding D.expand_by D.match C.expansion_by C.find find three_is top_is
    addiw true k = rw k reserved
    addiw false k =
        rw (k, imm_6_is, s-is, b-is, d-is)
        (reads _ _ 0x1B 0 _ _ (omega arith) (omega arith) (omega arith) (omega arith) refl refl refl refl)

    li : Same 1 2
    unfolding D.expand_by D.match C.expansion_by C.find find three_is top_is
    li = rw (imm_6_is, s-is, b-is, d-is) (reads _ _ 0x13 0 _ _ (omega arith) (omega arith) (omega arith) (omega arith) refl refl refl refl)

    srli : D.part h 10 2 ≡ 0 → Same 1 4
    unfolding D.expand_by D.match C.expansion_by C.find find three_is top_is
    srli e =
        rw (e, s-is, b-is, r-is)
        (reads _ _ 0x13 5 _ 0 (omega arith) (omega arith) (omega arith) (omega arith) refl (omega arith) refl refl)

    srai : D.part h 10 2 ≡ 1 → Same 1 4
    unfolding D.expand_by D.match C.expansion_by C.find find three_is top_is
    srai e =
        rw (e, s-is, b-is, r-is)
        (reads _ _ 0x13 5 _ 0x10 (omega arith) (omega arith) (omega arith) (omega arith) refl (omega arith) refl refl)

    andi : D.part h 10 2 ≡ 2 → Same 1 4
    unfolding D.expand_by D.match C.expansion_by C.find find three_is top_is
    andi e =
        rw (e, imm_6_is, s-is, b-is, r-is)
        (reads _ _ 0x13 7 _ _ (omega arith) (omega arith) (omega arith) (omega arith) refl refl refl refl)

    sub : D.part h 10 2 ≡ 3 → D.part h 12 1 ≡ 0 → D.part h 5 2 ≡ 0 → Same 1 4
    unfolding D.expand_by D.match C.expansion_by C.find find three_is top_is
    sub e k l =
        rw (e, k, l, r-is, q-is)
        (reads _ _ 0x33 0 0x20 _ (omega arith) (omega arith) (omega arith) (omega arith) (omega arith) refl refl refl)

    xor : D.part h 10 2 ≡ 3 → D.part h 12 1 ≡ 0 → D.part h 5 2 ≡ 1 → Same 1 4
    unfolding D.expand_by D.match C.expansion_by C.find find three_is top_is
    xor e k l =
        rw (e, k, l, r-is, q-is)
        (reads _ _ 0x33 4 0x00 _ (omega arith) (omega arith) (omega arith) (omega arith) (omega arith) refl refl refl)

    or : D.part h 10 2 ≡ 3 → D.part h 12 1 ≡ 0 → D.part h 5 2 ≡ 2 → Same 1 4
    unfolding D.expand_by D.match C.expansion_by C.find find three_is top_is
    or e k l =
        rw (e, k, l, r-is, q-is)
        (reads _ _ 0x33 6 0x00 _ (omega arith) (omega arith) (omega arith) (omega arith) (omega arith) refl refl refl)

    and : D.part h 10 2 ≡ 3 → D.part h 12 1 ≡ 0 → D.part h 5 2 ≡ 3 → Same 1 4
    unfolding D.expand_by D.match C.expansion_by C.find find three_is top_is
    and e k l =
        rw (e, k, l, r-is, q-is)
        (reads _ _ 0x33 7 0x00 _ (omega arith) (omega arith) (omega arith) (omega arith) (omega arith) refl refl refl)

    subw : D.part h 10 2 ≡ 3 → D.part h 12 1 ≡ 1 → D.part h 5 2 ≡ 0 → Same 1 4
    unfolding D.expand_by D.match C.expansion_by C.find find three_is top_is
    subw e k l =
        rw (e, k, l, r-is, q-is)
        (reads _ _ 0x3B 0 0x20 _ (omega arith) (omega arith) (omega arith) (omega arith) (omega arith) refl refl refl)

    addw : D.part h 10 2 ≡ 3 → D.part h 12 1 ≡ 1 → D.part h 5 2 ≡ 1 → Same 1 4
    unfolding D.expand_by D.match C.expansion_by C.find find three_is top_is
    addw e k l =
        rw (e, k, l, r-is, q-is)
        (reads _ _ 0x3B 0 0x00 _ (omega arith) (omega arith) (omega arith) (omega arith) (omega arith) refl refl refl)

    registers : D.part h 10 2 ≡ 3 → Same 1 4
    unfolding D.expand_by D.match C.expansion_by C.find
    registers e =
        two (D.part h 12 1) (part_lt h 12 1)
        (λ k. four (D.part h 5 2) (part_lt h 5 2) (sub e k) (xor e k) (or e k) (and e k))
        (λ k. four (D.part h 5 2) (part_lt h 5 2) (subw e k) (addw e k) (λ l. rw (e, k, l) reserved) (λ l. rw (e, k, l) reserved))

    arithmetic : Same 1 4
    arithmetic = four (D.part h 10 2) (part_lt h 10 2) srli srai andi registers

    slli : Same 2 0
    unfolding D.expand_by D.match C.expansion_by C.find find three_is top_is
    slli = rw (s-is, b-is, d-is) (reads _ _ 0x13 1 _ 0 (omega arith) (omega arith) (omega arith) (omega arith) refl (omega arith) refl refl)

    fldsp : Same 2 1
    unfolding D.expand_by D.match C.expansion_by C.find find three_is top_is
    fldsp = rw d-is (leaves _ 0x07 3 (omega arith) (omega arith) refl)

    lwsp : (y : Bool) → eqb (D.part h 7 5) 0 ≡ y → Same 2 2
    unfolding D.expand_by D.match C.expansion_by C.find find three_is top_is
    lwsp true k = rw k reserved
    lwsp false k = rw (k, d-is) (leaves _ 0x03 2 (omega arith) (omega arith) refl)

    ldsp : (y : Bool) → eqb (D.part h 7 5) 0 ≡ y → Same 2 3
    unfolding D.expand_by D.match C.expansion_by C.find find three_is top_is
    ldsp true k = rw k reserved
    ldsp false k = rw (k, d-is) (leaves _ 0x03 3 (omega arith) (omega arith) refl)

    fsdsp : Same 2 5
    unfolding D.expand_by D.match C.expansion_by C.find find three_is top_is
    fsdsp = rw b-is (leaves _ 0x27 3 (omega arith) (omega arith) refl)

    swsp : Same 2 6
    unfolding D.expand_by D.match C.expansion_by C.find find three_is top_is
    swsp = rw b-is (leaves _ 0x23 2 (omega arith) (omega arith) refl)

    sdsp : Same 2 7
    unfolding D.expand_by D.match C.expansion_by C.find find three_is top_is
    sdsp = rw b-is (leaves _ 0x23 3 (omega arith) (omega arith) refl)

    -- 100 in quadrant 2, by bit 12, and by whether rs2 and rd are 0
    moves_0 : D.part h 12 1 ≡ 0 → (y z : Bool) → eqb (D.part h 2 5) 0 ≡ y → eqb (D.part h 7 5) 0 ≡ z → Same 2 4
    unfolding D.expand_by D.match C.expansion_by C.find taken named find_in find three_is top_is
    moves_0 e true true k l = rw (e, k, l) reserved
    moves_0 e true false k l =
        rw (e, k, l, d-is)
        (reads _ _ 0x67 0 _ _ (omega arith) (omega arith) (omega arith) (omega arith) refl refl refl refl)
    moves_0 e false true k l =
        rw (e, k, l, b-is, d-is)
        (reads _ _ 0x33 0 0x00 _ (omega arith) (omega arith) (omega arith) (omega arith) (omega arith) refl refl refl)
    moves_0 e false false k l =
        rw (e, k, l, b-is, d-is)
        (reads _ _ 0x33 0 0x00 _ (omega arith) (omega arith) (omega arith) (omega arith) (omega arith) refl refl refl)

    moves_1 : D.part h 12 1 ≡ 1 → (y z : Bool) → eqb (D.part h 2 5) 0 ≡ y → eqb (D.part h 7 5) 0 ≡ z → Same 2 4
    unfolding D.expand_by D.match C.expansion_by C.find taken named find_in find three_is top_is
    moves_1 e true true k l = rw (e, k, l) (left 0x00100073 refl)
    moves_1 e true false k l =
        rw (e, k, l, d-is)
        (reads _ _ 0x67 0 _ _ (omega arith) (omega arith) (omega arith) (omega arith) refl refl refl refl)
    moves_1 e false true k l =
        rw (e, k, l, b-is, d-is)
        (reads _ _ 0x33 0 0x00 _ (omega arith) (omega arith) (omega arith) (omega arith) (omega arith) refl refl refl)
    moves_1 e false false k l =
        rw (e, k, l, b-is, d-is)
        (reads _ _ 0x33 0 0x00 _ (omega arith) (omega arith) (omega arith) (omega arith) (omega arith) refl refl refl)

    moves : Same 2 4
    moves = two (D.part h 12 1) (part_lt h 12 1) (λ e. moves_0 e _ _ refl refl) (λ e. moves_1 e _ _ refl refl)

    addi4spn : (a b c d : ℕ) → D.part h 11 2 ≡ a → D.part h 7 4 ≡ b → D.part h 6 1 ≡ c → D.part h 5 1 ≡ d
        → a < 4 → b < 16 → c < 2 → d < 2 → Same 0 0
    unfolding D.expand_by D.match C.expansion_by C.find find three_is top_is
    addi4spn a b c d a-is b-is c-is d-is i j k l =
        let whole : D.part h 5 8 ≡ a * 2 ^ 6 + (b * 2 ^ 2 + (c * 2 ^ 1 + d)) =
        part_split h 5 2 6 ∙ rw (part_split h 5 4 2, part_split h 5 1 1, a-is, b-is, c-is, d-is) refl in
        rw (whole, a-is, b-is, c-is, d-is, q-is)
        (unless _ _ _ _ (eqb_zero _ _ (λ z. omega arith) (λ z. omega arith))
        (reads _ _ 0x13 0 _ _ (omega arith) (omega arith) (omega arith) (omega arith) refl refl refl refl))

    addi16sp_or_lui : (a c e f : ℕ) → D.part h 6 1 ≡ a → D.part h 5 1 ≡ c → D.part h 3 2 ≡ e → D.part h 2 1 ≡ f
        → a < 2 → c < 2 → e < 4 → f < 2 → Same 1 3
    unfolding D.expand_by D.match C.expansion_by C.find find three_is top_is
    addi16sp_or_lui a c e f a-is c-is e-is f-is i j k l =
        let whole : D.part h 2 5 ≡ a * 2 ^ 4 + (c * 2 ^ 3 + (e * 2 ^ 1 + f)) =
        part_split h 2 1 4 ∙ rw (part_split h 2 1 3, part_split h 2 2 1, a-is, c-is, e-is, f-is) refl in
        let x : ℕ = a + c * 2 ^ 2 + e * 2 ^ 3 + f * 2 in
        let imm : C.imm_addi16sp h ≡ s * (2 ^ 64 - 2 ^ 9) + x * 2 ^ 4 =
        rw (s-is, a-is, c-is, e-is, f-is) (extended 9 s (x * 2 ^ 4) _ (omega arith) s-lt (omega arith) (omega arith)) in
        rw (imm, imm_lui_is, s-is, b-is, d-is, a-is, c-is, e-is, f-is)
        (upper _ _ _ _ _ _ _ _ (eqb_zero _ (s * (2 ^ 64 - 2 ^ 9) + x * 2 ^ 4) (λ z. omega arith) (λ z. omega arith))
        (eqb_zero _ (s * (2 ^ 64 - 2 ^ 17) + b * 2 ^ 12) (λ z. omega arith) (λ z. omega arith))
        (reads _ _ 0x13 0 _ _ (omega arith) (omega arith) (omega arith) (omega arith) refl refl refl refl)
        (reads _ _ 0x37 _ _ _ (omega arith) (omega arith) (omega arith) refl refl refl refl refl))

    imm_b_is : (a b c d : ℕ) → D.part h 10 2 ≡ a → D.part h 5 2 ≡ b → D.part h 3 2 ≡ c → D.part h 2 1 ≡ d
        → a < 4 → b < 4 → c < 4 → d < 2 → C.imm_b h ≡ s * (2 ^ 64 - 2 ^ 8) + ((b * 2 + d) * 2 ^ 5 + (a * 4 + c) * 2)
    imm_b_is a b c d a-is b-is c-is d-is i j k l =
        rw (s-is, a-is, b-is, c-is, d-is)
        (extended 8 s ((b * 2 + d) * 2 ^ 5 + (a * 4 + c) * 2) _ (omega arith) s-lt (omega arith) (omega arith))

    beqz : (a b c d : ℕ) → D.part h 10 2 ≡ a → D.part h 5 2 ≡ b → D.part h 3 2 ≡ c → D.part h 2 1 ≡ d
        → a < 4 → b < 4 → c < 4 → d < 2 → Same 1 6
    unfolding D.expand_by D.match C.expansion_by C.find find three_is top_is
    beqz a b c d a-is b-is c-is d-is i j k l =
        rw (imm_b_is a b c d a-is b-is c-is d-is i j k l, s-is, a-is, b-is, c-is, d-is, r-is)
        (reads _ _ 0x63 0 _ _ (rw (type_b_is s (b * 2 + d) (a * 4 + c) (8 + r) 0 s-lt (omega arith) (omega arith)) (omega arith))
        (omega arith) (omega arith) (omega arith) refl refl refl refl)

    bnez : (a b c d : ℕ) → D.part h 10 2 ≡ a → D.part h 5 2 ≡ b → D.part h 3 2 ≡ c → D.part h 2 1 ≡ d
        → a < 4 → b < 4 → c < 4 → d < 2 → Same 1 7
    unfolding D.expand_by D.match C.expansion_by C.find find three_is top_is
    bnez a b c d a-is b-is c-is d-is i j k l =
        rw (imm_b_is a b c d a-is b-is c-is d-is i j k l, s-is, a-is, b-is, c-is, d-is, r-is)
        (reads _ _ 0x63 1 _ _ (rw (type_b_is s (b * 2 + d) (a * 4 + c) (8 + r) 1 s-lt (omega arith) (omega arith)) (omega arith))
        (omega arith) (omega arith) (omega arith) refl refl refl refl)

    jump : (a b c d e f g : ℕ) → D.part h 11 1 ≡ a → D.part h 9 2 ≡ b → D.part h 8 1 ≡ c → D.part h 7 1 ≡ d
        → D.part h 6 1 ≡ e → D.part h 3 3 ≡ f → D.part h 2 1 ≡ g → a < 2 → b < 4 → c < 2 → d < 2 → e < 2 → f < 8 → g < 2 → Same 1 5
    unfolding D.expand_by D.match C.expansion_by C.find find three_is top_is
    jump a b c d e f g a-is b-is c-is d-is e-is f-is g-is a-lt b-lt c-lt d-lt e-lt f-lt g-lt =
        let x : ℕ = a * 2 ^ 3 + b * 2 ^ 7 + c * 2 ^ 9 + d * 2 ^ 5 + e * 2 ^ 6 + f + g * 2 ^ 4 in
        let imm : C.imm_j h ≡ s * (2 ^ 64 - 2 ^ 11) + x * 2 =
        rw (s-is, a-is, b-is, c-is, d-is, e-is, f-is, g-is) (extended 11 s (x * 2) _ (omega arith) s-lt (omega arith) (omega arith)) in
        rw (imm, s-is, a-is, b-is, c-is, d-is, e-is, f-is, g-is)
        (reads _ _ 0x6F _ _ _ (rw (type_j_is s x s-lt (omega arith)) (omega arith)) (omega arith) (omega arith) refl refl refl refl refl)

    quadrant_0 : (f : ℕ) → f < 8 → Same 0 f
    unfolding D.expand_by D.match C.expansion_by C.find
    quadrant_0 =
        eight (Same 0)
        (addi4spn _ _ _ _ refl refl refl refl (part_lt h 11 2) (part_lt h 7 4) (part_lt h 6 1) (part_lt h 5 1))
        fld lw ld reserved fsd sw sd

    quadrant_1 : (f : ℕ) → f < 8 → Same 1 f
    quadrant_1 =
        eight (Same 1)
        addi (addiw _ refl) li
        (addi16sp_or_lui _ _ _ _ refl refl refl refl (part_lt h 6 1) (part_lt h 5 1) (part_lt h 3 2) (part_lt h 2 1))
        arithmetic
        (jump _ _ _ _ _ _ _ refl refl refl refl refl refl refl
        (part_lt h 11 1) (part_lt h 9 2) (part_lt h 8 1) (part_lt h 7 1) (part_lt h 6 1) (part_lt h 3 3) (part_lt h 2 1))
        (beqz _ _ _ _ refl refl refl refl (part_lt h 10 2) (part_lt h 5 2) (part_lt h 3 2) (part_lt h 2 1))
        (bnez _ _ _ _ refl refl refl refl (part_lt h 10 2) (part_lt h 5 2) (part_lt h 3 2) (part_lt h 2 1))

    quadrant_2 : (f : ℕ) → f < 8 → Same 2 f
    quadrant_2 = eight (Same 2) slli fldsp (lwsp _ refl) (ldsp _ refl) moves fsdsp swsp sdsp

    -- a word of 32 bits
    no_quadrant : (f : ℕ) → f < 8 → Same 3 f
    unfolding D.expand_by D.match C.expansion_by
    no_quadrant = eight (Same 3) reserved reserved reserved reserved reserved reserved reserved reserved

    by_quadrant : (o f : ℕ) → o < 4 → f < 8 → Same o f
    by_quadrant o f l k =
        four o l (λ e. rw e (quadrant_0 f k)) (λ e. rw e (quadrant_1 f k)) (λ e. rw e (quadrant_2 f k)) (λ e. rw e (no_quadrant f k))

  alike : Alike (D.expand h) (C.expansion h)
  unfolding D.expand C.expansion
  alike =
      by_quadrant _ _ _ _ _ refl refl refl refl refl (part_lt h 12 1) (part_lt h 2 5) (part_lt h 7 5) (part_lt h 7 3) (part_lt h 2 3)
      (D.part h 0 2) (D.part h 13 3) (part_lt h 0 2) (part_lt h 13 3)

-- 5. The laws

alike_is : {a m : Option ℕ} → Alike a m → a ≡ if_in_line m
unfolding if_in_line
alike_is (read v w e l) = rw (← e, l.is_straight_or_ends) refl
alike_is (left w n) = rw n refl
alike_is reserved = refl

alike_listed : {a m : Option ℕ} → Alike a m → (w : ℕ) → a ≡ Some w → Listed w
alike_listed (read v u e l) w q = let z : v ≡ w = cc in subst Listed z l
alike_listed (left u n) w q = absurd (let z : ◌≡◌ {A = ℕ} 0 1 = cc in omega arith)
alike_listed reserved w q = absurd (let z : ◌≡◌ {A = ℕ} 0 1 = cc in omega arith)

pub expand_is : (h : ℕ) → D.expand h ≡ in_line h
unfolding in_line
expand_is h = alike_is (alike h)

pub expands_alike : ExpandsAlike
unfolding ExpandsAlike
expands_alike = expand_is

pub expands_to_listed : ExpandsToListed
unfolding ExpandsToListed
expands_to_listed h w e = alike_listed (alike h) w (expand_is h ∙ e)

pub in_line_listed : (h w : ℕ) → in_line h ≡ Some w → Listed w
in_line_listed = unfold ExpandsToListed in expands_to_listed

pub in_line_lt : (h w : ℕ) → in_line h ≡ Some w → w < 2 ^ 32
in_line_lt h w e = (in_line_listed h w e).below

pub expand_lt : (h w : ℕ) → D.expand h ≡ Some w → w < 2 ^ 32
expand_lt h w e = (alike_listed (alike h) w e).below
