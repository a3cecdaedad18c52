-- What the decoder takes is what the encoder writes.
use Rattle.std.proofs.Common.{Bool, ◌&&◌, cond, false, not, true, List, [], ◌++◌, ◌∷◌, append_assoc, ◌∙◌, ◌≡◌, ap, refl, subst, ◌%◌, ◌*◌}
use Rattle.std.specs.Prelude.{None, Some}
use Rattle.std.proofs.Common.{◌+◌, ◌/◌, ◌<◌, ◌^◌, suc, zero, ℕ, pow-suc, arith, eqb, eqb→eq, ltb, ltb→lt}
use native.Mathlib.Decide.{ℕ_discrete}
use native.Mathlib.Nat.{pow-zero}
use Rattle.agreement.specs.Laws.{Decodes, Encodes}
use Rattle.agreement.specs.X86.Decode.{Answer, Bytes, Operand, alu_of, cc_of, decode, imm, loaded, memory, modrm, moved, on_reg, only}
use Rattle.agreement.specs.X86.Decode.{opcode_0f, opcode1, pick, shift_of, sib, width_of, mul_div_of}
use Rattle.agreement.specs.X86.Decode.Operand.{mem, reg}
use Rattle.agreement.specs.X86.Encode.{cc_number, digit, encode, mod_mem, mod_reg, rex, shift_digit, mul_div_digit}
use Rattle.agreement.specs.X86.Form.{Alu, Cc, Instr, Ok, Shift, Width, MulDiv}
use Rattle.agreement.specs.X86.Form.Alu.{add, and, cmp, or, sub, xor}
use Rattle.agreement.specs.X86.Form.Cc.{AE, B, E, GE, L, NE}
use Rattle.agreement.specs.X86.Form.Instr.{alu, alu_imm32, alu_imm8, call_rax, cmov, imul, load, mov, mov_imm64, movsxd, movzx, pop, push}
use Rattle.agreement.specs.X86.Form.Instr.{ret, setcc_al, shift_cl, shift_imm8, store, cqo, jcc, mul_div}
use Rattle.agreement.specs.X86.Form.Shift.{sar, shl, shr}
use Rattle.agreement.specs.X86.Form.Width.{r32, r64}
use Rattle.agreement.specs.X86.Form.MulDiv.{sdiv, smul, udiv, umul}
use Rattle.agreement.specs.X86.Memory.{bytes_of}
use Rattle.agreement.proofs.Codec.Decoding.{round}
use Rattle.agreement.proofs.Laws.Tests.{eqb_no, eqb_yes, of_true}

-- an answer is right for the bytes W: an instruction that it gives is written as W up to the rest
record Right (W : List ℕ) (a : Answer) : Type 0 where
  taken : (i : Instr) (rest : List ℕ) → a ≡ Some (i, rest) → (W ≡ encode i ++ rest) × Ok i

-- the encoder writes l for i, and its operands may be
abbrev Written : Instr → List ℕ → Type 0
Written i l = (encode i ≡ l) × Ok i

none_right : {W : List ℕ} → Right W None
none_right = record { taken = λ i rest e. absurd (let z : ◌≡◌ {A = ℕ} 0 1 = cc in omega arith) }

some_right : {W : List ℕ} (i : Instr) (l rest : List ℕ) → Written i l → W ≡ l ++ rest → Right W (Some (i, rest))
some_right {W} i l rest h e = record { taken = by }
  where
    by : (j : Instr) (rest' : List ℕ) → ◌≡◌ {A = Answer} (Some (i, rest)) (Some (j, rest')) → (W ≡ encode j ++ rest') × Ok j
    by j rest' q =
        let r : ◌≡◌ {A = Instr × List ℕ} (i, rest) (j, rest') = cc in
        let a : i ≡ j = ap (λ (z : Instr × List ℕ). z.0) r in
        let b : rest ≡ rest' = ap (λ (z : Instr × List ℕ). z.1) r in
        let f : l ++ rest ≡ encode j ++ rest' = rw (← h.0, a, b) in
        (e ∙ f, subst Ok a h.1)

-- a choice is right if what it takes is right where its test holds
pick_right : {W : List ℕ} (c : Bool) {x y : Answer} → (c ≡ true → Right W x) → (c ≡ false → Right W y) → Right W (pick c x y)
unfolding pick
pick_right true f g = f refl
pick_right false f g = g refl

only_right : {W : List ℕ} (c : Bool) {x : Answer} → (c ≡ true → Right W x) → Right W (only c x)
unfolding only
only_right true f = f refl
only_right false f = none_right

is : (a b : ℕ) → eqb a b ≡ true → a ≡ b
is a b e = eqb→eq a b (of_true (eqb a b) e)

pick_is : {W : List ℕ} (a b : ℕ) {x y : Answer} → (a ≡ b → Right W x) → Right W y → Right W (pick (eqb a b) x y)
pick_is a b f g = pick_right (eqb a b) (λ e. f (is a b e)) (λ n. g)

only_is : {W : List ℕ} (a b : ℕ) {x : Answer} → (a ≡ b → Right W x) → Right W (only (eqb a b) x)
only_is a b f = only_right (eqb a b) (λ e. f (is a b e))

-- bs is an immediate of n bytes and a rest, and what is made of them is right
abbrev ForImm : List ℕ → ℕ → List ℕ → (ℕ → List ℕ → Answer) → Type 0
ForImm W n bs k = (v : ℕ) (rest : List ℕ) → v < 256 ^ n → Bytes rest → bs ≡ bytes_of n v ++ rest → Right W (k v rest)

imm_right : {W : List ℕ} (n : ℕ) (bs : List ℕ) (k : ℕ → List ℕ → Answer) → Bytes bs → ForImm W n bs k → Right W (imm n bs k)
unfolding imm Bytes
imm_right zero bs k h f = f 0 bs (rw pow-zero (omega arith)) h refl
imm_right (suc n) [] k h f = none_right
imm_right (suc n) (b ∷ bs) k h f =
    imm_right n bs (λ v r. k (b + 256 * v) r) h.1
    (λ v rest l s e. f (b + 256 * v) rest (rw pow-suc (omega (arith, h.0))) s (both v rest e))
  where
    both : (v : ℕ) (rest : List ℕ) → bs ≡ bytes_of n v ++ rest
        → b ∷ bs ≡ (b + 256 * v) % 256 ∷ (bytes_of n ((b + 256 * v) / 256) ++ rest)
    both v rest e =
        let p : (b + 256 * v) % 256 ≡ b = omega (arith, h.0) in
        let q : (b + 256 * v) / 256 ≡ v = omega (arith, h.0) in
        rw (p, q, e)

-- registers of a ModRM byte, with the bits r and b of REX
record Pair (r b g d : ℕ) : Type 0 where
  g_ok : g < 16
  d_ok : d < 16
  g_bit : g / 8 ≡ r
  d_bit : d / 8 ≡ b

-- a ModRM byte taken apart
apart : (m : ℕ) → m ≡ 64 * (m / 64) + 8 * (m / 8 % 8) + m % 8
apart m =
    let e : m ≡ 8 * (m / 8) + m % 8 = omega arith in
    let f : m / 8 ≡ 8 * (m / 8 / 8) + m / 8 % 8 = omega arith in
    let g : m / 8 / 8 ≡ m / 64 = omega arith in
    omega arith

low8 : (r x : ℕ) → x < 8 → (8 * r + x) % 8 ≡ x
low8 r x h = omega arith

high8 : (r x : ℕ) → x < 8 → (8 * r + x) / 8 ≡ r
high8 r x h = omega arith

-- bs begins with a ModRM byte for two registers, or for a register and a place in memory, and what is made of it is right
abbrev ForRegs : List ℕ → ℕ → ℕ → List ℕ → (ℕ → ℕ → List ℕ → Answer) → Type 0
ForRegs W r b bs k = (d g : ℕ) (rest : List ℕ) → Pair r b g d → Bytes rest → bs ≡ mod_reg g d ∷ rest → Right W (k d g rest)

abbrev ForMemory : List ℕ → ℕ → ℕ → List ℕ → (ℕ → ℕ → ℕ → List ℕ → Answer) → Type 0
ForMemory W r b bs k =
    (d o g : ℕ) (rest : List ℕ) → Pair r b g d → o < 2 ^ 32 → Bytes rest → bs ≡ mod_mem g d o ++ rest → Right W (k d o g rest)

-- the register that ModRM.reg names and the one that ModRM.rm names
abbrev reg_of : ℕ → ℕ → ℕ
reg_of r m = 8 * r + m / 8 % 8

abbrev rm_of : ℕ → ℕ → ℕ
rm_of b m = 8 * b + m % 8

-- a ModRM byte m is the one that the encoder writes for the registers that it names
module _ (r b m : ℕ) (lr : r < 2) (lb : b < 2) where
  reg_low : reg_of r m % 8 ≡ m / 8 % 8
  reg_low = low8 r (m / 8 % 8) (omega arith)

  rm_low : rm_of b m % 8 ≡ m % 8
  rm_low = low8 b (m % 8) (omega arith)

  named : Pair r b (reg_of r m) (rm_of b m)
  named =
      let x : m / 8 % 8 < 8 = omega arith in
      let y : m % 8 < 8 = omega arith in
      record {
        g_ok = omega arith;
        d_ok = omega arith;
        g_bit = high8 r (m / 8 % 8) x;
        d_bit = high8 b (m % 8) y;
      }

  reg_byte : m / 64 ≡ 3 → m ≡ mod_reg (reg_of r m) (rm_of b m)
  reg_byte e = rw (reg_low, rm_low) (omega (arith, apart m))

  -- where rm is 4 a SIB byte follows
  with_sib : (o : ℕ) → m / 64 ≡ 2 → m % 8 ≡ 4 → m ∷ 0x24 ∷ bytes_of 4 o ≡ mod_mem (reg_of r m) (rm_of b m) o
  with_sib o e f =
      let z : 128 + 8 * (m / 8 % 8) + 4 ≡ m = omega (arith, apart m) in
      rw (reg_low, rm_low) (rw f (rw z))

  without_sib : (o : ℕ) → m / 64 ≡ 2 → eqb (m % 8) 4 ≡ false → m ∷ bytes_of 4 o ≡ mod_mem (reg_of r m) (rm_of b m) o
  without_sib o e f =
      let z : 128 + 8 * (m / 8 % 8) + m % 8 ≡ m = omega (arith, apart m) in
      rw (reg_low, rm_low) (rw f (rw z))

  module _ (W : List ℕ) (k : Operand → ℕ → List ℕ → Answer) (two : m / 64 ≡ 2) where
    sib_right : (bs : List ℕ) → Bytes bs → m % 8 ≡ 4 → ForMemory W r b (m ∷ bs) (λ d o. k (mem d o))
        → Right W (sib b bs (λ o. k o (reg_of r m)))
    unfolding sib Bytes
    sib_right [] h e f = none_right
    sib_right (s ∷ bs) h e f = only_is s 0x24 (λ q. imm_right 4 bs _ h.1 (by q))
      where
        by : s ≡ 0x24 → ForImm W 4 bs (λ o. k (mem (8 * b + 4) o) (reg_of r m))
        by q o rest l t z =
            let rm : 8 * b + 4 ≡ rm_of b m = rw e in
            let i : m ∷ s ∷ bs ≡ mod_mem (reg_of r m) (rm_of b m) o ++ rest =
            rw (q, z) (ap (λ (l : List ℕ). l ++ rest) (with_sib o two e)) in
            rw rm (f (rm_of b m) o (reg_of r m) rest named l t i)

    memory_right : (bs : List ℕ) → Bytes bs → ForMemory W r b (m ∷ bs) (λ d o. k (mem d o))
        → Right W (memory b (m % 8) bs (λ o. k o (reg_of r m)))
    unfolding memory
    memory_right bs h f =
        pick_right (eqb (m % 8) 4) (λ q. sib_right bs h (is (m % 8) 4 q) f)
        (λ q. imm_right 4 bs _ h (by q))
      where
        by : eqb (m % 8) 4 ≡ false → ForImm W 4 bs (λ o. k (mem (rm_of b m) o) (reg_of r m))
        by q o rest l t z =
            f (rm_of b m) o (reg_of r m) rest named l t (rw z (ap (λ (l : List ℕ). l ++ rest) (without_sib o two q)))

modrm_right : {W : List ℕ} (r b : ℕ) (bs : List ℕ) (k : Operand → ℕ → List ℕ → Answer) → r < 2 → b < 2 → Bytes bs
    → ForRegs W r b bs (λ d. k (reg d)) → ForMemory W r b bs (λ d o. k (mem d o)) → Right W (modrm r b bs k)
unfolding modrm Bytes
modrm_right r b [] k lr lb h f f' = none_right
modrm_right {W} r b (m ∷ bs) k lr lb h f f' =
    pick_is (m / 64) 3 (λ e. f (rm_of b m) (reg_of r m) bs (named r b m lr lb) h.1 (ap (λ (x : ℕ). x ∷ bs) (reg_byte r b m lr lb e)))
    (only_is (m / 64) 2 (λ e. memory_right r b m lr lb W k e bs h.1 f'))

-- only a register operand
regs_right : {W : List ℕ} (r b : ℕ) (bs : List ℕ) (k : ℕ → ℕ → List ℕ → Answer) → r < 2 → b < 2 → Bytes bs
    → ForRegs W r b bs k → Right W (modrm r b bs (λ p g rest. on_reg p (λ d. k d g rest)))
unfolding on_reg
regs_right r b bs k lr lb h f =
    modrm_right r b bs (λ p g rest. on_reg p (λ d. k d g rest)) lr lb h f (λ d o g rest p l s e. none_right)

-- what is read from a number n is right, if it is right for every name whose number n is
abbrev Names : (A : Type 0) → (A → ℕ) → (ℕ → (A → Answer) → Answer) → Type 0
Names A number read = (W : List ℕ) (n : ℕ) (k : A → Answer) → ((a : A) → n ≡ number a → Right W (k a)) → Right W (read n k)

alus : Names Alu digit alu_of
unfolding alu_of
alus W n k f =
    pick_is n 0 (f add) (
    pick_is n 1 (f or) (
    pick_is n 4 (f and) (
    pick_is n 5 (f sub) (
    pick_is n 6 (f xor) (
    only_is n 7 (f cmp))))))

shifts : Names Shift shift_digit shift_of
unfolding shift_of
shifts W n k f = pick_is n 4 (f shl) (pick_is n 5 (f shr) (only_is n 7 (f sar)))

mul_divs : Names MulDiv mul_div_digit mul_div_of
unfolding mul_div_of
mul_divs W n k f = pick_is n 4 (f umul) (pick_is n 5 (f smul) (pick_is n 6 (f udiv) (only_is n 7 (f sdiv))))

ccs : Names Cc cc_number cc_of
unfolding cc_of
ccs W n k f =
    pick_is n 0x2 (f B) (
    pick_is n 0x3 (f AE) (
    pick_is n 0x4 (f E) (
    pick_is n 0x5 (f NE) (
    pick_is n 0xC (f L) (
    only_is n 0xD (f GE))))))

-- the REX prefix with these bits, if it is not bare
unfoldable prefix : ℕ → ℕ → ℕ → List ℕ
prefix w r b = cond (eqb (8 * w + 4 * r + b) 0) [] ((64 + 8 * w + 4 * r + b) ∷ [])

wide_is : (w : ℕ) → width_of w ≡ r64 → w ≡ 1
unfolding width_of
wide_is w e = go (eqb w 1) refl e
  where
    go : (t : Bool) → eqb w 1 ≡ t → elim t [ true ↦ r64 | false ↦ r32 ] ≡ r64 → w ≡ 1
    go true q e = is w 1 q
    go false q e = absurd (let z : ◌≡◌ {A = ℕ} 0 1 = cc in omega arith)

w_zero : {w : ℕ} → w ≡ 0 → width_of w ≡ r32
unfolding width_of
w_zero e = rw e

w_one : {w : ℕ} → w ≡ 1 → width_of w ≡ r64
unfolding width_of
w_one e = rw e

narrow_is : (w : ℕ) → w < 2 → width_of w ≡ r32 → w ≡ 0
narrow_is w l e = go (ℕ_discrete w 1)
  where
    go : Dec (w ≡ 1) → w ≡ 0
    go (yes p) = absurd (let y : width_of w ≡ r64 = w_one p in let z : ◌≡◌ {A = ℕ} 0 1 = cc in omega arith)
    go (no n) = omega arith

rex_is : (x : Width) (w r b g d : ℕ) → w < 2 → width_of w ≡ x → g / 8 ≡ r → d / 8 ≡ b → prefix w r b ≡ rex x g d
unfolding prefix
rex_is r64 w r b g d l e p q =
    let z : w ≡ 1 = wide_is w e in
    let n : eqb (8 * w + 4 * r + b) 0 ≡ false = eqb_no (8 * w + 4 * r + b) 0 (omega arith) in
    let s : 64 + 8 * w + 4 * r + b ≡ 72 + 4 * r + b = omega arith in
    rw n (rw (p, q) (rw s))
rex_is r32 w r b g d l e p q =
    let z : w ≡ 0 = narrow_is w l e in
    let s : 64 + 8 * w + 4 * r + b ≡ 64 + 4 * r + b = omega arith in
    let s' : 8 * w + 4 * r + b ≡ 4 * r + b = omega arith in
    rw (p, q) (rw (s, s'))

-- an immediate of one byte is that byte
byte : (v : ℕ) → v < 256 → bytes_of 1 v ≡ v ∷ []
byte v l = let z : v % 256 ≡ v = omega arith in rw z

second : (x y : Bool) → x && y ≡ true → y ≡ true
second true y e = e
second false y e = absurd (let z : ◌≡◌ {A = ℕ} 0 1 = cc in omega arith)

-- One lemma for each shape of encoding, with the bits w, r and b of REX; an arm of the decoder is a shape and an instruction.
module _ (w r b : ℕ) (lw : w < 2) (lr : r < 2) (lb : b < 2) where
  -- the answer to the bytes behind the prefix is right
  abbrev Arm : List ℕ → Answer → Type 0
  Arm bs a = Right (prefix w r b ++ bs) a

  joined : (x : Width) (g d : ℕ) (xs ys rest : List ℕ) → width_of w ≡ x → g / 8 ≡ r → d / 8 ≡ b → xs ≡ ys ++ rest
      → prefix w r b ++ xs ≡ (rex x g d ++ ys) ++ rest
  joined x g d xs ys rest e p q z = rw (append_assoc (rex x g d) ys rest) (rw (z, rex_is x w r b g d lw e p q))

  bare : 4 * w + 2 * r + b ≡ 0 → (xs : List ℕ) → prefix w r b ++ xs ≡ xs
  unfolding prefix
  bare e xs = rw (eqb_yes (8 * w + 4 * r + b) 0 (omega arith))

  -- an opcode os and the bytes ms of ModRM, which name g and d
  named_right : (i : Instr) (x : Width) (os ms bs rest : List ℕ) (g d : ℕ) → width_of w ≡ x → Pair r b g d → bs ≡ ms ++ rest
      → Written i (rex x g d ++ (os ++ ms)) → Arm (os ++ bs) (Some (i, rest))
  named_right i x os ms bs rest g d e p z f =
      let q : os ++ bs ≡ (os ++ ms) ++ rest = rw (append_assoc os ms rest, z) in
      some_right i _ rest f (joined x g d (os ++ bs) (os ++ ms) rest e p.g_bit p.d_bit q)

  -- an opcode os and a ModRM byte with two registers
  two_regs : (i : ℕ → ℕ → Instr) (x : Width) (os bs : List ℕ) → width_of w ≡ x → Bytes bs
      → ((d g : ℕ) → d < 16 → g < 16 → Written (i d g) (rex x g d ++ (os ++ mod_reg g d ∷ [])))
      → Arm (os ++ bs) (modrm r b bs (λ p g rest. on_reg p (λ d. Some (i d g, rest))))
  two_regs i x os bs e h f = regs_right r b bs (λ d g rest. Some (i d g, rest)) lr lb h
      (λ d g rest p s z. named_right (i d g) x os (mod_reg g d ∷ []) bs rest g d e p z (f d g p.d_ok p.g_ok))

  -- an opcode o, a ModRM byte with one register and a name a for an extension digit, and an immediate of n bytes; where the
  -- form has none, n is 0 and the instruction does not look at v
  one_reg : {A : Type 0} (number : A → ℕ) (read : ℕ → (A → Answer) → Answer) (i : A → ℕ → ℕ → Instr) (x : Width) (o n : ℕ) (bs : List ℕ)
      → Names A number read → width_of w ≡ x → r ≡ 0 → Bytes bs
      → ((a : A) (d v : ℕ) → d < 16 → v < 256 ^ n → Written (i a d v) (rex x 0 d ++ o ∷ mod_reg (number a) d ∷ bytes_of n v))
      → Arm (o ∷ bs) (modrm 0 b bs (λ p g rest. on_reg p (λ d. read g (λ a. imm n rest (λ v rest. Some (i a d v, rest))))))
  one_reg {A} number read i x o n bs names e z h f = regs_right 0 b bs _ (omega arith) lb h by
    where
      by : ForRegs (prefix w r b ++ o ∷ bs) 0 b bs (λ d g rest. read g (λ a. imm n rest (λ v rest. Some (i a d v, rest))))
      by d g rest p s q = names _ g _ (λ a y. imm_right n rest _ s (λ v more l t u. ends a v more y l u))
        where
          ends : (a : A) (v : ℕ) (more : List ℕ) → g ≡ number a → v < 256 ^ n → rest ≡ bytes_of n v ++ more
              → Arm (o ∷ bs) (Some (i a d v, more))
          ends a v more y l u =
              let c : o ∷ bs ≡ (o ∷ mod_reg (number a) d ∷ bytes_of n v) ++ more = rw (q, y, u) in
              some_right (i a d v) _ more (f a d v p.d_ok l) (joined x 0 d (o ∷ bs) _ more e (rw z) p.d_bit c)

  -- an opcode o with a register in its low three bits and c above them, and an immediate of n bytes, or none with n = 0
  in_opcode : (i : ℕ → ℕ → Instr) (x : Width) (o c n : ℕ) (bs : List ℕ) → o / 8 ≡ c → width_of w ≡ x → r ≡ 0 → Bytes bs
      → ((d v : ℕ) → d < 16 → v < 256 ^ n → Written (i d v) (rex x 0 d ++ (8 * c + d % 8) ∷ bytes_of n v))
      → Arm (o ∷ bs) (imm n bs (λ v rest. Some (i (8 * b + o % 8) v, rest)))
  in_opcode i x o c n bs q e z h f = imm_right n bs _ h by
    where
      by : ForImm (prefix w r b ++ o ∷ bs) n bs (λ v rest. Some (i (8 * b + o % 8) v, rest))
      by v rest l s u =
          let d : ℕ = 8 * b + o % 8 in
          let m : 8 * c + d % 8 ≡ o = rw (low8 b (o % 8) (omega arith)) (omega arith) in
          let k : o ∷ bs ≡ ((8 * c + d % 8) ∷ bytes_of n v) ++ rest = rw (m, u) in
          let bit : d / 8 ≡ b = high8 b (o % 8) (omega arith) in
          some_right (i d v) _ rest (f d v (omega arith) l) (joined x 0 d (o ∷ bs) _ rest e (rw z) bit k)

  -- the two forms whose operand may be a place in memory
  moved_arm : (bs : List ℕ) → Bytes bs → w ≡ 1 → Arm (0x89 ∷ bs) (modrm r b bs moved)
  unfolding Ok moved
  moved_arm bs h e =
      let x : width_of w ≡ r64 = w_one e in
      modrm_right r b bs moved lr lb h
      (λ d g rest p s z. named_right (mov d g) r64 (0x89 ∷ []) (mod_reg g d ∷ []) bs rest g d x p z (refl, (p.d_ok, p.g_ok)))
      (λ d o g rest p l s z. named_right (store d o g) r64 (0x89 ∷ []) (mod_mem g d o) bs rest g d x p z (refl, (p.d_ok, l, p.g_ok)))

  loaded_arm : (bs : List ℕ) → Bytes bs → w ≡ 1 → Arm (0x8B ∷ bs) (modrm r b bs loaded)
  unfolding Ok loaded
  loaded_arm bs h e =
      let x : width_of w ≡ r64 = w_one e in
      modrm_right r b bs loaded lr lb h (λ d g rest p s z. none_right)
      (λ d o g rest p l s z. named_right (load g d o) r64 (0x8B ∷ []) (mod_mem g d o) bs rest g d x p z (refl, (p.g_ok, p.d_ok, l)))

  -- the two forms that name one register alone, AL and RAX: no prefix, and one ModRM byte that is taken
  setcc_arm : (o : ℕ) (bs : List ℕ) → Bytes bs → 4 * w + 2 * r + b ≡ 0 → o / 16 ≡ 9 → Arm (0x0F ∷ o ∷ bs)
      (cc_of (o % 16) (λ c. modrm 0 0 bs (λ p g rest. on_reg p (λ s. only (eqb (g + s) 0) (Some (setcc_al c, rest))))))
  unfolding Ok
  setcc_arm o bs h e q = ccs _ (o % 16) _ (λ c f. regs_right 0 0 bs _ (omega arith) (omega arith) h (by c f))
    where
      by : (c : Cc) → o % 16 ≡ cc_number c
          → ForRegs (prefix w r b ++ 0x0F ∷ o ∷ bs) 0 0 bs (λ s g rest. only (eqb (g + s) 0) (Some (setcc_al c, rest)))
      by c f d g rest p s z = only_is (g + d) 0 (λ t.
          let n : o ≡ 144 + cc_number c = omega arith in
          let g0 : g ≡ 0 = omega arith in
          let d0 : d ≡ 0 = omega arith in
          some_right (setcc_al c) _ rest (refl, tt) (bare e (0x0F ∷ o ∷ bs) ∙ rw (n, z, g0, d0)))

  call_arm : (bs : List ℕ) → Bytes bs → 4 * w + 2 * r + b ≡ 0 → Arm (0xFF ∷ bs)
      (modrm 0 0 bs (λ p g rest. on_reg p (λ d. only (eqb (16 * g + d) 32) (Some (call_rax, rest)))))
  unfolding Ok
  call_arm bs h e = regs_right 0 0 bs _ (omega arith) (omega arith) h by
    where
      by : ForRegs (prefix w r b ++ 0xFF ∷ bs) 0 0 bs (λ d g rest. only (eqb (16 * g + d) 32) (Some (call_rax, rest)))
      by d g rest p s z = only_is (16 * g + d) 32 (λ t.
          let l : d < 16 = p.d_ok in
          let g2 : g ≡ 2 = omega arith in
          let d0 : d ≡ 0 = omega arith in
          some_right call_rax _ rest (refl, tt) (bare e (0xFF ∷ bs) ∙ rw (z, g2, d0)))

  -- CQO has no operand; a jump has a displacement that is not negative
  cqo_arm : (bs : List ℕ) → 2 * r + b ≡ 0 → Arm (0x99 ∷ bs) (Some (cqo (width_of w), bs))
  unfolding Ok
  cqo_arm bs e =
      let p : r ≡ 0 = omega arith in
      let q : b ≡ 0 = omega arith in
      some_right (cqo (width_of w)) _ bs (refl, tt) (joined (width_of w) 0 0 (0x99 ∷ bs) (0x99 ∷ []) bs refl (rw p) (rw q) refl)

  jump_arm : (o : ℕ) (bs : List ℕ) → Bytes bs → 4 * w + 2 * r + b ≡ 0 → o / 16 ≡ 7
      → Arm (o ∷ bs) (cc_of (o % 16) (λ c. imm 1 bs (λ d rest. only (ltb d 128) (Some (jcc c d, rest)))))
  unfolding Ok
  jump_arm o bs h e q = ccs _ (o % 16) _ (λ c f. imm_right 1 bs _ h (λ d rest l s z. only_right (ltb d 128) (λ t. by c f d rest l z t)))
    where
      by : (c : Cc) → o % 16 ≡ cc_number c → (d : ℕ) (rest : List ℕ) → d < 256 ^ 1 → bs ≡ bytes_of 1 d ++ rest → ltb d 128 ≡ true
          → Arm (o ∷ bs) (Some (jcc c d, rest))
      by c f d rest l z t =
          let n : o ≡ 112 + cc_number c = omega arith in
          let y : bs ≡ d ∷ rest = z ∙ ap (λ (l : List ℕ). l ++ rest) (byte d l) in
          some_right (jcc c d) _ rest (refl, ltb→lt d 128 (of_true (ltb d 128) t)) (bare e (o ∷ bs) ∙ rw (n, y))

  -- the opcodes of two bytes, and then those of one, in the order of the decoder
  opcode_0f_right : (bs : List ℕ) → Bytes bs → Arm (0x0F ∷ bs) (opcode_0f w r b bs)
  unfolding opcode_0f Bytes Ok
  opcode_0f_right [] h = none_right
  opcode_0f_right (o ∷ bs) h =
      let t : Bytes bs = h.1 in
      pick_is o 0xAF (λ e. rw e (
      two_regs (λ s g. imul (width_of w) g s) (width_of w) (0x0F ∷ 0xAF ∷ []) bs refl t (λ s g k l. (refl, (l, k))))) (
      pick_is o 0xB6 (λ e. only_is w 1 (λ f. rw e (
      two_regs (λ s g. movzx g s) r64 (0x0F ∷ 0xB6 ∷ []) bs (w_one f) t (λ s g k l. (refl, (l, k)))))) (
      pick_is (o / 16) 4 (λ e. only_is w 1 (λ f. ccs _ (o % 16) _ (λ c q.
      let n : o ≡ 64 + cc_number c = omega arith in
      rw n (two_regs (λ s g. cmov c g s) r64 (0x0F ∷ (64 + cc_number c) ∷ []) bs (w_one f) t (λ s g k l. (refl, (l, k))))))) (
      only_is (o / 16) 9 (λ e. only_is (4 * w + 2 * r + b) 0 (λ f. setcc_arm o bs t f e)))))

  opcode_right : (bs : List ℕ) → Bytes bs → Arm bs (opcode1 w r b bs)
  unfolding opcode1 Bytes Ok imm
  opcode_right [] h = none_right
  opcode_right (o ∷ bs) h =
      let t : Bytes bs = h.1 in
      pick_is (o / 8) 10 (λ e. only_is (2 * w + r) 0 (λ f.
      in_opcode (λ d v. push d) r32 o 10 0 bs e (w_zero (omega arith)) (omega arith) t (λ d v l m. (refl, l)))) (
      pick_is (o / 8) 11 (λ e. only_is (2 * w + r) 0 (λ f.
      in_opcode (λ d v. pop d) r32 o 11 0 bs e (w_zero (omega arith)) (omega arith) t (λ d v l m. (refl, l)))) (
      pick_is (o / 8) 23 (λ e. only_is (2 * w + r) 2 (λ f.
      in_opcode mov_imm64 r64 o 23 8 bs e (w_one (omega arith)) (omega arith) t (λ d v l m. (refl, (l, m))))) (
      pick_right (ltb o 64 && eqb (o % 8) 1) (λ e. alus _ (o / 8) _ (λ op q.
      let m : o % 8 ≡ 1 = is (o % 8) 1 (second (ltb o 64) (eqb (o % 8) 1) e) in
      let n : o ≡ 8 * digit op + 1 = omega arith in
      rw n (two_regs (alu (width_of w) op) (width_of w) ((8 * digit op + 1) ∷ []) bs refl t (λ d g k l. (refl, (k, l)))))) (λ n.
      pick_is o 0x89 (λ e. only_is w 1 (λ f. rw e (moved_arm bs t f))) (
      pick_is o 0x8B (λ e. only_is w 1 (λ f. rw e (loaded_arm bs t f))) (
      pick_is o 0x81 (λ e. only_is (2 * w + r) 2 (λ f. rw e (
      one_reg digit alu_of alu_imm32 r64 0x81 4 bs alus (w_one (omega arith)) (omega arith) t (λ a d v l m. (refl, (l, m)))))) (
      pick_is o 0x83 (λ e. only_is (2 * w + r) 2 (λ f. rw e (
      one_reg digit alu_of alu_imm8 r64 0x83 1 bs alus (w_one (omega arith)) (omega arith) t (λ a d v l m. (rw (byte v m), (l, m)))))) (
      pick_is o 0xD3 (λ e. only_is r 0 (λ f. rw e (
      one_reg shift_digit shift_of (λ op d v. shift_cl (width_of w) op d) (width_of w) 0xD3 0 bs shifts refl f t
      (λ a d v l m. (refl, l))))) (
      pick_is o 0xC1 (λ e. only_is r 0 (λ f. rw e (
      one_reg shift_digit shift_of (shift_imm8 (width_of w)) (width_of w) 0xC1 1 bs shifts refl f t
      (λ a d v l m. (rw (byte v m), (l, m)))))) (
      pick_is o 0x63 (λ e. only_is w 1 (λ f. rw e (
      two_regs (λ s g. movsxd g s) r64 (0x63 ∷ []) bs (w_one f) t (λ s g k l. (refl, (l, k)))))) (
      pick_is o 0x0F (λ e. rw e (opcode_0f_right bs t)) (
      pick_is o 0xFF (λ e. only_is (4 * w + 2 * r + b) 0 (λ f. rw e (call_arm bs t f))) (
      pick_is o 0xF7 (λ e. only_is r 0 (λ f. rw e (
      one_reg mul_div_digit mul_div_of (λ op d v. mul_div (width_of w) op d) (width_of w) 0xF7 0 bs mul_divs refl f t
      (λ a d v l m. (refl, l))))) (
      pick_is o 0x99 (λ e. only_is (2 * r + b) 0 (λ f. rw e (cqo_arm bs f))) (
      pick_is (o / 16) 7 (λ e. only_is (4 * w + 2 * r + b) 0 (λ f. jump_arm o bs t f e)) (
      only_is o 0xC3 (λ e. only_is (4 * w + 2 * r + b) 0 (λ f. some_right ret _ bs (refl, tt) (bare f (o ∷ bs) ∙ rw e)))))))))))))))))))

-- the bits W, R and B of a REX prefix, which it adds to 0x40
abbrev bits : ℕ → ℕ
bits c = 8 * (c / 8 % 2) + 4 * (c / 4 % 2) + c % 2

rex_byte : (c : ℕ) {bs : List ℕ} → c / 16 ≡ 4 → not (eqb c 64) ≡ true → c / 2 % 2 ≡ 0
    → prefix (c / 8 % 2) (c / 4 % 2) (c % 2) ++ bs ≡ c ∷ bs
unfolding prefix
rex_byte c e f g =
    let n : eqb (bits c) 0 ≡ false = eqb_no (bits c) 0 not_bare in
    rw n (rw (← whole))
  where
    whole : c ≡ 64 + 8 * (c / 8 % 2) + 4 * (c / 4 % 2) + c % 2
    whole =
        let a : c ≡ 2 * (c / 2) + c % 2 = omega arith in
        let b : c / 2 ≡ 2 * (c / 2 / 2) + c / 2 % 2 = omega arith in
        let b' : c / 2 / 2 ≡ c / 4 = omega arith in
        let d : c / 4 ≡ 2 * (c / 4 / 2) + c / 4 % 2 = omega arith in
        let d' : c / 4 / 2 ≡ c / 8 = omega arith in
        let k : c / 8 ≡ 2 * (c / 8 / 2) + c / 8 % 2 = omega arith in
        let k' : c / 8 / 2 ≡ c / 16 = omega arith in
        omega arith

    not_bare : bits c ≡ 0 → ⊥
    not_bare z =
        let q : c ≡ 64 + 8 * (c / 8 % 2) + 4 * (c / 4 % 2) + c % 2 = whole in
        let y : eqb c 64 ≡ true = eqb_yes c 64 (omega arith) in
        let f' : false ≡ true = rw y at f in
        let z : ◌≡◌ {A = ℕ} 0 1 = cc in
        omega arith

decode_right : (bs : List ℕ) → Bytes bs → Right bs (decode bs)
unfolding decode Bytes prefix
decode_right [] h = none_right
decode_right (c ∷ bs) h =
    pick_is (c / 16) 4 (λ e. only_right (not (eqb c 64)) (λ f. only_is (c / 2 % 2) 0 (λ g. with_rex e f g)))
    (opcode_right 0 0 0 (omega arith) (omega arith) (omega arith) (c ∷ bs) h)
  where
    with_rex : c / 16 ≡ 4 → not (eqb c 64) ≡ true → c / 2 % 2 ≡ 0 → Right (c ∷ bs) (opcode1 (c / 8 % 2) (c / 4 % 2) (c % 2) bs)
    with_rex e f g = rw (← whole) (opcode_right (c / 8 % 2) (c / 4 % 2) (c % 2) (omega arith) (omega arith) (omega arith) bs h.1)
      where
        whole : prefix (c / 8 % 2) (c / 4 % 2) (c % 2) ++ bs ≡ c ∷ bs
        whole = rex_byte c e f g

pub encodes : Encodes
unfolding Encodes
encodes bs i rest h e = (decode_right bs h).taken i rest e

pub decodes : Decodes
unfolding Decodes
decodes = round
