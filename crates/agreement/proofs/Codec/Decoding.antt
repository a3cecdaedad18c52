-- Decoding what the encoder writes gives the instruction back, and its length.
use Rattle.std.proofs.Common.{false, true, List, ◌++◌, ◌∷◌, append_assoc, ◌∙◌, ◌≡◌, refl, ◌%◌, ◌*◌, ◌+◌, ◌/◌, ◌<◌, ◌^◌, ◌≤◌, suc, zero, ℕ}
use Rattle.std.specs.Prelude.{Some}
use Rattle.std.proofs.Common.{pow-suc, arith, eqb, ltb}
use native.Mathlib.Decide.{dec_le, ℕ_discrete}
use native.Mathlib.Nat.{pow-zero}
use Rattle.agreement.specs.X86.Decode.{Answer, Operand, alu_of, cc_of, decode, imm, loaded, memory, modrm, moved, on_reg, only, opcode_0f}
use Rattle.agreement.specs.X86.Decode.{opcode1, pick, shift_of, sib, width_of, mul_div_of}
use Rattle.agreement.specs.X86.Decode.Operand.{mem, reg}
use Rattle.agreement.specs.X86.Encode.{cc_number, digit, encode, mod_mem, mod_reg, rex, shift_digit, mul_div_digit}
use Rattle.agreement.specs.X86.Form.{Alu, Cc, Instr, Ok, Shift, Width, MulDiv}
use Rattle.agreement.specs.X86.Form.Alu.{add, and, cmp, or, sub, xor}
use Rattle.agreement.specs.X86.Form.Cc.{AE, B, E, GE, L, NE}
use Rattle.agreement.specs.X86.Form.Instr.{alu, alu_imm32, alu_imm8, call_rax, cmov, imul, load, mov, mov_imm64, movsxd, movzx, pop, push}
use Rattle.agreement.specs.X86.Form.Instr.{ret, setcc_al, shift_cl, shift_imm8, store, cqo, jcc, mul_div}
use Rattle.agreement.specs.X86.Form.Shift.{sar, shl, shr}
use Rattle.agreement.specs.X86.Form.Width.{r32, r64}
use Rattle.agreement.specs.X86.Form.MulDiv.{sdiv, smul, udiv, umul}
use Rattle.agreement.specs.X86.Memory.{bytes_of}
use Rattle.agreement.proofs.Laws.Tests.{eqb_no, eqb_yes, leb_yes}

-- REX.W
abbrev wide : Width → ℕ
wide r64 = 1
wide r32 = 0

-- the immediate
imm-le : (n v : ℕ) (rest : List ℕ) (k : ℕ → List ℕ → Answer) → v < 256 ^ n → imm n (bytes_of n v ++ rest) k ≡ k v rest
unfolding imm
imm-le zero v rest k h = let e : v ≡ 0 = omega (arith, rw pow-zero at h) in rw e
imm-le (suc n) v rest k h =
    let f : v / 256 < 256 ^ n = omega (arith, rw pow-suc at h) in
    let e : v % 256 + 256 * (v / 256) ≡ v = omega arith in
    rw (imm-le n (v / 256) rest (λ u r. k (v % 256 + 256 * u) r) f, e)

modrm_reg : (r b : ℕ) (rest : List ℕ) (k : Operand → ℕ → List ℕ → Answer)
    → r < 16 → b < 16 → modrm (r / 8) (b / 8) (mod_reg r b ∷ rest) k ≡ k (reg b) r rest
unfolding modrm pick
modrm_reg r b rest k h l =
    let m : ℕ = 192 + 8 * (r % 8) + b % 8 in
    let e : eqb (m / 64) 3 ≡ true = eqb_yes (m / 64) 3 (omega arith) in
    let f : 8 * (b / 8) + m % 8 ≡ b = omega arith in
    let q : m / 8 ≡ 24 + r % 8 = omega arith in
    let g : 8 * (r / 8) + (24 + r % 8) % 8 ≡ r = omega arith in
    rw e (rw (f, q, g))

modrm-digit : (r b : ℕ) (rest : List ℕ) (k : Operand → ℕ → List ℕ → Answer)
    → r < 8 → b < 16 → modrm 0 (b / 8) (mod_reg r b ∷ rest) k ≡ k (reg b) r rest
modrm-digit r b rest k h l = let e : r / 8 ≡ 0 = omega arith in rw e at (modrm_reg r b rest k (omega arith) l)

modrm_mem : (r b d : ℕ) (rest : List ℕ) (k : Operand → ℕ → List ℕ → Answer)
    → r < 16 → b < 16 → d < 2 ^ 32 → modrm (r / 8) (b / 8) (mod_mem r b d ++ rest) k ≡ k (mem b d) r rest
unfolding modrm memory sib pick only
modrm_mem r b d rest k h l n = go (ℕ_discrete (b % 8) 4)
  where
    go : Dec (b % 8 ≡ 4) → modrm (r / 8) (b / 8) (mod_mem r b d ++ rest) k ≡ k (mem b d) r rest
    go (no p) =
        let m : ℕ = 128 + 8 * (r % 8) + b % 8 in
        let t : eqb (b % 8) 4 ≡ false = eqb_no (b % 8) 4 p in
        let e : eqb (m / 64) 3 ≡ false = eqb_no (m / 64) 3 (omega arith) in
        let e' : eqb (m / 64) 2 ≡ true = eqb_yes (m / 64) 2 (omega arith) in
        let f : m % 8 ≡ b % 8 = omega arith in
        let q : m / 8 ≡ 16 + r % 8 = omega arith in
        let g : 8 * (r / 8) + (16 + r % 8) % 8 ≡ r = omega arith in
        let u : 8 * (b / 8) + b % 8 ≡ b = omega arith in
        rw t (rw (e, e') (rw (f, q, g) (rw t (rw u (imm-le 4 d rest (λ d r'. k (mem b d) r r') n)))))
    go (yes p) =
        let m : ℕ = 128 + 8 * (r % 8) + 4 in
        let t : eqb (b % 8) 4 ≡ true = eqb_yes (b % 8) 4 p in
        let e : eqb (m / 64) 3 ≡ false = eqb_no (m / 64) 3 (omega arith) in
        let e' : eqb (m / 64) 2 ≡ true = eqb_yes (m / 64) 2 (omega arith) in
        let f : m % 8 ≡ 4 = omega arith in
        let q : m / 8 ≡ 16 + r % 8 = omega arith in
        let g : 8 * (r / 8) + (16 + r % 8) % 8 ≡ r = omega arith in
        let v : 32 + b % 8 ≡ 0x24 = omega arith in
        let u : 8 * (b / 8) + 4 ≡ b = omega arith in
        rw t (rw (e, e') (rw (f, q, g) (rw v (rw u (imm-le 4 d rest (λ d r'. k (mem b d) r r') n)))))

rex_on : (w r b : ℕ) (bs : List ℕ) → w < 2 → r < 16 → b < 16 → 1 ≤ 8 * w + 4 * (r / 8) + b / 8
    → decode ((64 + 8 * w + 4 * (r / 8) + b / 8) ∷ bs) ≡ opcode1 w (r / 8) (b / 8) bs
unfolding decode pick only
rex_on w r b bs h k l n =
    let c : ℕ = 64 + 8 * w + 4 * (r / 8) + b / 8 in
    let e : eqb (c / 16) 4 ≡ true = eqb_yes (c / 16) 4 (omega arith) in
    let z : eqb c 64 ≡ false = eqb_no c 64 (omega arith) in
    let f : c / 8 % 2 ≡ w = omega arith in
    let g : c / 4 % 2 ≡ r / 8 = omega arith in
    let i : c / 2 % 2 ≡ 0 = omega arith in
    let j : c % 2 ≡ b / 8 = omega arith in
    rw e (rw z (rw i (rw (f, g, j))))

rex-any : (w : Width) (r b o : ℕ) (bs : List ℕ) → r < 16 → b < 16 → eqb (o / 16) 4 ≡ false
    → decode (rex w r b ++ o ∷ bs) ≡ opcode1 (wide w) (r / 8) (b / 8) (o ∷ bs)
rex-any r64 r b o bs h k n = rex_on 1 r b (o ∷ bs) (omega arith) h k (omega arith)
rex-any r32 r b o bs h k n = go (dec_le 1 (4 * (r / 8) + b / 8))
  where
    bare : 4 * (r / 8) + b / 8 ≡ 0 → decode (o ∷ bs) ≡ opcode1 0 (r / 8) (b / 8) (o ∷ bs)
    bare e =
        let f : r / 8 ≡ 0 = omega arith in
        let g : b / 8 ≡ 0 = omega arith in
        rw (f, g) (plain o bs n)
      where
        plain : (o : ℕ) (bs : List ℕ) → eqb (o / 16) 4 ≡ false → decode (o ∷ bs) ≡ opcode1 0 0 0 (o ∷ bs)
        plain o bs n = unfold decode pick in rw n

    go : Dec (1 ≤ 4 * (r / 8) + b / 8) → decode (rex r32 r b ++ o ∷ bs) ≡ opcode1 0 (r / 8) (b / 8) (o ∷ bs)
    go (yes p) =
        let t : eqb (4 * (r / 8) + b / 8) 0 ≡ false = eqb_no (4 * (r / 8) + b / 8) 0 (omega arith) in
        rw t (rex_on 0 r b (o ∷ bs) (omega arith) h k (omega arith))
    go (no p) =
        let t : eqb (4 * (r / 8) + b / 8) 0 ≡ true = eqb_yes (4 * (r / 8) + b / 8) 0 (omega arith) in
        rw t (bare (omega arith))

width_wide : (w : Width) → width_of (wide w) ≡ w
unfolding width_of
width_wide r64 = refl
width_wide r32 = refl

alu_of_lem : (op : Alu) (k : Alu → Answer) → alu_of (digit op) k ≡ k op
unfolding alu_of pick only
alu_of_lem add k = refl
alu_of_lem or k = refl
alu_of_lem and k = refl
alu_of_lem sub k = refl
alu_of_lem xor k = refl
alu_of_lem cmp k = refl

pub digit_lt : (op : Alu) → digit op < 8
digit_lt add = omega arith
digit_lt or = omega arith
digit_lt and = omega arith
digit_lt sub = omega arith
digit_lt xor = omega arith
digit_lt cmp = omega arith

sh_of : (op : Shift) (k : Shift → Answer) → shift_of (shift_digit op) k ≡ k op
unfolding shift_of pick only
sh_of shl k = refl
sh_of shr k = refl
sh_of sar k = refl

pub shift_digit-lt : (op : Shift) → shift_digit op < 8
shift_digit-lt shl = omega arith
shift_digit-lt shr = omega arith
shift_digit-lt sar = omega arith

muldiv_of : (op : MulDiv) (k : MulDiv → Answer) → mul_div_of (mul_div_digit op) k ≡ k op
unfolding mul_div_of pick only
muldiv_of umul k = refl
muldiv_of smul k = refl
muldiv_of udiv k = refl
muldiv_of sdiv k = refl

pub mul_div_digit-lt : (op : MulDiv) → mul_div_digit op < 8
mul_div_digit-lt umul = omega arith
mul_div_digit-lt smul = omega arith
mul_div_digit-lt udiv = omega arith
mul_div_digit-lt sdiv = omega arith

one_byte : (v : ℕ) (rest : List ℕ) (k : ℕ → List ℕ → Answer) → imm 1 (v ∷ rest) k ≡ k v rest
unfolding imm
one_byte v rest k = let e : v + 256 * 0 ≡ v = omega arith in rw e

at_alu : (op : Alu) (w r b : ℕ) (bs : List ℕ)
    → opcode1 w r b ((8 * digit op + 1) ∷ bs) ≡ modrm r b bs (λ p g rest. on_reg p (λ d. Some (alu (width_of w) op d g, rest)))
unfolding opcode1 alu_of pick only
at_alu add w r b bs = refl
at_alu or w r b bs = refl
at_alu and w r b bs = refl
at_alu sub w r b bs = refl
at_alu xor w r b bs = refl
at_alu cmp w r b bs = refl

no_rex : (op : Alu) → eqb ((8 * digit op + 1) / 16) 4 ≡ false
no_rex add = refl
no_rex or = refl
no_rex and = refl
no_rex sub = refl
no_rex xor = refl
no_rex cmp = refl

at_cmov : (c : Cc) (r b : ℕ) (bs : List ℕ)
    → opcode1 1 r b (0x0F ∷ (64 + cc_number c) ∷ bs) ≡ modrm r b bs (λ p g rest. on_reg p (λ s. Some (cmov c g s, rest)))
unfolding opcode1 opcode_0f cc_of pick only
at_cmov B r b bs = refl
at_cmov AE r b bs = refl
at_cmov E r b bs = refl
at_cmov NE r b bs = refl
at_cmov L r b bs = refl
at_cmov GE r b bs = refl

at_set : (c : Cc) (rest : List ℕ) → decode (0x0F ∷ (144 + cc_number c) ∷ 0xC0 ∷ rest) ≡ Some (setcc_al c, rest)
unfolding decode opcode1 opcode_0f cc_of modrm on_reg pick only
at_set B rest = refl
at_set AE rest = refl
at_set E rest = refl
at_set NE rest = refl
at_set L rest = refl
at_set GE rest = refl

at_jump : (c : Cc) (d : ℕ) (rest : List ℕ)
    → decode ((112 + cc_number c) ∷ d ∷ rest) ≡ imm 1 (d ∷ rest) (λ v r. only (ltb v 128) (Some (jcc c v, r)))
unfolding decode opcode1 cc_of pick only
at_jump B d rest = refl
at_jump AE d rest = refl
at_jump E d rest = refl
at_jump NE d rest = refl
at_jump L d rest = refl
at_jump GE d rest = refl

forward : (d : ℕ) (x : Answer) → d < 128 → only (ltb d 128) x ≡ x
unfolding only
forward d x l = rw (leb_yes (suc d) 128 l)

at_push : (r : ℕ) (rest : List ℕ) → r < 16 → opcode1 0 0 (r / 8) ((80 + r % 8) ∷ rest) ≡ Some (push r, rest)
unfolding opcode1 pick only
at_push r rest h =
    let e : eqb ((80 + r % 8) / 8) 10 ≡ true = eqb_yes ((80 + r % 8) / 8) 10 (omega arith) in
    let f : 8 * (r / 8) + (80 + r % 8) % 8 ≡ r = omega arith in
    rw e (rw f)

at_pop : (r : ℕ) (rest : List ℕ) → r < 16 → opcode1 0 0 (r / 8) ((88 + r % 8) ∷ rest) ≡ Some (pop r, rest)
unfolding opcode1 pick only
at_pop r rest h =
    let d : (88 + r % 8) / 8 ≡ 11 = omega arith in
    let f : 8 * (r / 8) + (88 + r % 8) % 8 ≡ r = omega arith in
    rw d (rw f)

at_mov_i : (r v : ℕ) (rest : List ℕ) → r < 16 → v < 2 ^ 64
    → opcode1 1 0 (r / 8) ((184 + r % 8) ∷ (bytes_of 8 v ++ rest)) ≡ Some (mov_imm64 r v, rest)
unfolding opcode1 pick only
at_mov_i r v rest h l =
    let d : (184 + r % 8) / 8 ≡ 23 = omega arith in
    let f : 8 * (r / 8) + (184 + r % 8) % 8 ≡ r = omega arith in
    rw d (rw f (imm-le 8 v rest (λ v rest. Some (mov_imm64 r v, rest)) l))

at_call : (rest : List ℕ) → decode (0xFF ∷ 0xD0 ∷ rest) ≡ Some (call_rax, rest)
unfolding decode opcode1 modrm on_reg pick only
at_call rest = refl

at_ret : (rest : List ℕ) → decode (0xC3 ∷ rest) ≡ Some (ret, rest)
unfolding decode opcode1 pick only
at_ret rest = refl

pub round : (i : Instr) (rest : List ℕ) → Ok i → decode (encode i ++ rest) ≡ Some (i, rest)
unfolding Ok opcode1 on_reg moved loaded opcode_0f pick only
round (push r) rest h =
    let e : eqb ((80 + r % 8) / 16) 4 ≡ false = eqb_no ((80 + r % 8) / 16) 4 (omega arith) in
    rw append_assoc (rex-any r32 0 r (80 + r % 8) rest (omega arith) h e ∙ at_push r rest h)
round (pop r) rest h =
    let e : eqb ((88 + r % 8) / 16) 4 ≡ false = eqb_no ((88 + r % 8) / 16) 4 (omega arith) in
    rw append_assoc (rex-any r32 0 r (88 + r % 8) rest (omega arith) h e ∙ at_pop r rest h)
round (mov d s) rest h = rw append_assoc (rex-any r64 s d _ _ h.1 h.0 refl ∙ modrm_reg s d rest moved h.1 h.0)
round (mov_imm64 d v) rest h =
    let e : eqb ((184 + d % 8) / 16) 4 ≡ false = eqb_no ((184 + d % 8) / 16) 4 (omega arith) in
    rw append_assoc (rex-any r64 0 d (184 + d % 8) _ (omega arith) h.0 e ∙ at_mov_i d v rest h.0 h.1)
round (load d b o) rest h = rw append_assoc (rex-any r64 d b _ _ h.0 h.1 refl ∙ modrm_mem d b o rest loaded h.0 h.1 h.2)
round (store b o s) rest h = rw append_assoc (rex-any r64 s b _ _ h.2 h.0 refl ∙ modrm_mem s b o rest moved h.2 h.0 h.1)
round (alu w op d s) rest h =
    rw append_assoc (rex-any w s d (8 * digit op + 1) _ h.1 h.0 (no_rex op)
    ∙ at_alu op (wide w) (s / 8) (d / 8) (mod_reg s d ∷ rest) ∙ modrm_reg s d rest _ h.1 h.0 ∙ rw width_wide)
round (alu_imm32 op d v) rest h =
    rw append_assoc (rex-any r64 0 d _ _ (omega arith) h.0 refl
    ∙ modrm-digit (digit op) d (bytes_of 4 v ++ rest) _ (digit_lt op) h.0 ∙ alu_of_lem op _ ∙ imm-le 4 v rest _ h.1)
round (alu_imm8 op d v) rest h =
    rw append_assoc (rex-any r64 0 d _ _ (omega arith) h.0 refl
    ∙ modrm-digit (digit op) d (v ∷ rest) _ (digit_lt op) h.0 ∙ alu_of_lem op _ ∙ one_byte v rest _)
round (shift_cl w op d) rest h =
    rw append_assoc (rex-any w 0 d _ _ (omega arith) h refl
    ∙ modrm-digit (shift_digit op) d rest _ (shift_digit-lt op) h ∙ sh_of op _ ∙ rw width_wide)
round (shift_imm8 w op d v) rest h =
    rw append_assoc (rex-any w 0 d _ _ (omega arith) h.0 refl
    ∙ modrm-digit (shift_digit op) d (v ∷ rest) _ (shift_digit-lt op) h.0 ∙ sh_of op _ ∙ one_byte v rest _ ∙ rw width_wide)
round (imul w d s) rest h = rw append_assoc (rex-any w d s _ _ h.0 h.1 refl ∙ modrm_reg d s rest _ h.0 h.1 ∙ rw width_wide)
round (movsxd d s) rest h = rw append_assoc (rex-any r64 d s _ _ h.0 h.1 refl ∙ modrm_reg d s rest _ h.0 h.1)
round (setcc_al c) rest h = at_set c rest
round (movzx d s) rest h = rw append_assoc (rex-any r64 d s _ _ h.0 h.1 refl ∙ modrm_reg d s rest _ h.0 h.1)
round (cmov c d s) rest h =
    rw append_assoc (rex-any r64 d s _ _ h.0 h.1 refl
    ∙ at_cmov c (d / 8) (s / 8) (mod_reg d s ∷ rest) ∙ modrm_reg d s rest _ h.0 h.1)
round (mul_div w op r) rest h =
    rw append_assoc (rex-any w 0 r _ _ (omega arith) h refl
    ∙ modrm-digit (mul_div_digit op) r rest _ (mul_div_digit-lt op) h ∙ muldiv_of op _ ∙ rw width_wide)
round (cqo w) rest h = rw append_assoc (rex-any w 0 0 _ _ (omega arith) (omega arith) refl ∙ rw width_wide)
round (jcc c d) rest h = at_jump c d rest ∙ one_byte d rest _ ∙ forward d _ h
round call_rax rest h = at_call rest
round ret rest h = at_ret rest
