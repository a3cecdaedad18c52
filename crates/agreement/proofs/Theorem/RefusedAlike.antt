-- The table of replies and the manual's own reading of it refuse the same turns; bounds of a walk.
use Rattle.std.proofs.Common.{Bool, ◌||◌, ap, cond, false, true, List, [], ◌∷◌, ◌∙◌, ◌≡◌, refl, subst, sym, ◌%◌, ◌<◌, ◌^◌, ◌≤◌, suc, zero, ℕ, arith, drop}
use Rattle.std.specs.Prelude.{Option, None, Some}
use Rattle.std.proofs.Common.{bit_and, eqb, ltb}
use Rattle.agreement.specs.Common.{greatest}
use Rattle.agreement.specs.Riscv.Code.{run_at}
use Rattle.agreement.specs.Riscv.Fields.{plus}
use Rattle.agreement.specs.Riscv.Instruction.{Instruction}
use Rattle.agreement.specs.Riscv.Instruction.Instruction.{AUIPC, FENCE, FENCE_I, JAL, JALR, LUI, access, branch, op, op_imm, other, unmodelled}
use Rattle.agreement.specs.Riscv.Run.{chosen, first_refused, is_long, is_not_taken, refused, taken, word_of, in_line}
use Rattle.agreement.specs.Translation.Kind.{kind}
use Rattle.agreement.specs.Translation.Replies.{Block, Refusal, Reply, block_of, by_first, first, first_word, translate, walked}
use Rattle.agreement.specs.Translation.Replies.{First}
use Rattle.agreement.specs.Translation.Replies.First.{begins, lacks, untaken}
use Rattle.agreement.specs.Translation.Replies.Refusal.{limit_zero, missing, not_taken, odd_start, output_short}
use Rattle.agreement.specs.Translation.Replies.Reply.{block, refusal}
use Rattle.agreement.specs.Translation.Walk.{End, End.calls, End.goes_on, End.jumped, Walked, emit, walk, emit_word, emit_halfword}
use Rattle.agreement.specs.Statement.Machine.{Turn}
use Rattle.agreement.specs.Statement.Premises.{rests_on_code}
use Rattle.agreement.specs.Laws.{Halfwords}
use Rattle.agreement.proofs.Laws.Runs.{run_halfwords, halfwords_front, halfwords_drop, halfwords_tail}
use Rattle.agreement.proofs.Laws.Fields.{long_is, word_of_is}
use Rattle.agreement.proofs.Laws.Naming.{kind_is}
use Rattle.agreement.specs.Translation.Decode32 as Decode32
use Rattle.agreement.specs.Translation.Decode16.{expand}
use Rattle.agreement.proofs.Laws.Expanding.{expand_is, in_line_lt}

-- 1. The first instruction

data FirstIs (hs : List ℕ) : Type 0 where
  taken-first : first hs ≡ begins → first_refused hs ≡ false → FirstIs hs
  lacks_first : (i : ℕ) → first hs ≡ lacks i → first_refused hs ≡ true → FirstIs hs
  untaken_first : (w : ℕ) → first hs ≡ untaken w → first_refused hs ≡ true → FirstIs hs

first-chosen : (i : Instruction) (w : ℕ) → first_word i w ≡ cond (chosen i) begins (untaken w)
unfolding first_word
first-chosen (op o) w = refl
first-chosen (unmodelled o) w = refl
first-chosen (op_imm o) w = refl
first-chosen (branch c) w = refl
first-chosen (access a) w = refl
first-chosen LUI w = refl
first-chosen AUIPC w = refl
first-chosen JAL w = refl
first-chosen JALR w = refl
first-chosen FENCE w = refl
first-chosen FENCE_I w = refl
first-chosen other w = refl

first_is : (hs : List ℕ) → Halfwords hs → FirstIs hs
unfolding first first_refused Halfwords is_not_taken
first_is [] l = lacks_first 0 refl refl
first_is (h ∷ []) l = go (is_long h) refl
  where
    go : (b : Bool) → is_long h ≡ b → FirstIs (h ∷ [])
    go true e = lacks_first 1 (rw (long_is h ∙ e, first)) e
    go false e = taken-first (rw (long_is h ∙ e, first)) e
first_is (h ∷ u ∷ hs) l = go (is_long h) refl (chosen (taken (word_of h u))) refl
  where
    word_first : (b : Bool) → chosen (taken (word_of h u)) ≡ b
        → first_word (kind (Decode32.word_of h u)) (Decode32.word_of h u) ≡ cond b begins (untaken (word_of h u))
    word_first b e = rw (word_of_is h u l.0) (rw (kind_is (word_of h u)) (first-chosen (taken (word_of h u)) (word_of h u) ∙ rw e))

    go : (b : Bool) → is_long h ≡ b → (c : Bool) → chosen (taken (word_of h u)) ≡ c → FirstIs (h ∷ u ∷ hs)
    go true e true c = taken-first (rw (long_is h ∙ e, first) (word_first true c)) (rw (e, first_refused) (rw c))
    go true e false c = untaken_first (word_of h u) (rw (long_is h ∙ e, first) (word_first false c)) (rw (e, first_refused) (rw c))
    go false e b c = taken-first (rw (long_is h ∙ e, first)) (rw (e, first_refused))

-- 2. The reply

-- a run's first instruction against an output that is long enough, and that is not
room_rests : (f : First) (room : ℕ) (b : Block) → ltb room greatest ≡ false → rests_on_code (by_first f room b) ≡ true
unfolding by_first
room_rests begins room b e = rw (e, by_first) refl
room_rests (lacks i) room b e = refl
room_rests (untaken w) room b e = refl

record Short (f : First) (room : ℕ) (b : Block) : Type 0 where
  r : Refusal
  is : by_first f room b ≡ refusal r

no_room : (f : First) (room : ℕ) (b : Block) → ltb room greatest ≡ true → Short f room b
unfolding by_first
no_room begins room b e = record { r = output_short; is = rw (e, by_first) refl }
no_room (lacks i) room b e = record { r = missing i; is = refl }
no_room (untaken w) room b e = record { r = not_taken w; is = refl }

or_true : (a : Bool) → a || true ≡ true
or_true true = refl
or_true false = refl

-- what the reply to the run hs is, and whether the manual's run of `now` refuses the turn
pub data Replied (start limit : ℕ) (hs : List ℕ) (helper16 helper_mem room : ℕ) (now : List ℕ) : Type 0 where
  out : (r : Refusal) → translate start limit hs helper16 helper_mem room ≡ refusal r → refused limit start now room ≡ true
      → Replied start limit hs helper16 helper_mem room now
  came : translate start limit hs helper16 helper_mem room ≡ block (block_of helper16 helper_mem (walked start limit hs))
      → refused limit start now room ≡ false → Replied start limit hs helper16 helper_mem room now

-- a block is made of halfwords, since it is made from a run
pub made_halfwords : (t : Turn) (pc : ℕ) → t.made ≡ run_at t.code pc t.reach → Halfwords t.made
made_halfwords t pc un = subst Halfwords (sym un) (run_halfwords t.code pc t.reach)

module _ (start limit : ℕ) (hs : List ℕ) (helper16 helper_mem room : ℕ) where
  abbrev Rests : Type 0
  Rests = rests_on_code (translate start limit hs helper16 helper_mem room) ≡ true

  pub replied : (now : List ℕ) → (Rests → hs ≡ now) → Halfwords now → Replied start limit hs helper16 helper_mem room now
  replied now un l = go (eqb limit 0) (eqb (start % 2) 1) (ltb room greatest) refl refl refl
    where
      by : eqb limit 0 ≡ false → eqb (start % 2) 1 ≡ false
          → translate start limit hs helper16 helper_mem room
          ≡ by_first (first hs) room (block_of helper16 helper_mem (walked start limit hs))
      by p q = unfold translate in rw (p, translate) (rw q refl)

      there : eqb limit 0 ≡ false → eqb (start % 2) 1 ≡ false → ltb room greatest ≡ false → hs ≡ now
      there p q r = un (ap rests_on_code (by p q) ∙ room_rests (first hs) room _ r)

      enough : eqb limit 0 ≡ false → eqb (start % 2) 1 ≡ false → ltb room greatest ≡ false → FirstIs hs
          → Replied start limit hs helper16 helper_mem room hs
      enough p q r (lacks_first i e h) =
          out (missing i) (by p q ∙ (unfold by_first in rw e refl)) (unfold refused in rw (p, q, h))
      enough p q r (untaken_first w e h) =
          out (not_taken w) (by p q ∙ (unfold by_first in rw e refl)) (unfold refused in rw (p, q, h))
      enough p q r (taken-first e h) =
          came (by p q ∙ (unfold by_first in rw e (rw (r, by_first)))) (unfold refused in rw (p, q, h, r))

      go : (a b c : Bool) → eqb limit 0 ≡ a → eqb (start % 2) 1 ≡ b → ltb room greatest ≡ c
          → Replied start limit hs helper16 helper_mem room now
      go true b c p q r = out limit_zero (unfold translate in rw (p, translate)) (unfold refused in rw p)
      go false true c p q r = out (odd_start start) (unfold translate in rw (p, translate) (rw q)) (unfold refused in rw (p, q))
      go false false true p q r =
          let s = no_room (first hs) room (block_of helper16 helper_mem (walked start limit hs)) r in
          out s.r (by p q ∙ s.is) (unfold refused in rw (p, q, r) (or_true (first_refused now)))
      go false false false p q r =
          let e : hs ≡ now = there p q r in
          subst (λ (x : List ℕ). Replied start limit hs helper16 helper_mem room x) e
          (enough p q r (first_is hs (subst Halfwords (sym e) l)))

  -- where a turn was refused, the manual's run refuses it
  pub refused_too : (r : Refusal) → translate start limit hs helper16 helper_mem room ≡ refusal r
      → (now : List ℕ) → (Rests → hs ≡ now) → Halfwords now → refused limit start now room ≡ true
  refused_too r e now un l = go (replied now un l)
    where
      go : Replied start limit hs helper16 helper_mem room now → refused limit start now room ≡ true
      go (out s f z) = z
      go (came f z) = absurd (
          let x : ◌≡◌ {A = Reply} (refusal r) (block (block_of helper16 helper_mem (walked start limit hs))) = sym e ∙ f in
          let z : ◌≡◌ {A = ℕ} 0 1 = cc in
          omega arith
          )

  -- what is known of a block that was the reply
  pub record IsWalk (b : Block) : Type 0 where
    pub is : b ≡ block_of helper16 helper_mem (walked start limit hs)
    pub accepted : refused limit start hs room ≡ false

  pub is_walk : (b : Block) → Halfwords hs → translate start limit hs helper16 helper_mem room ≡ block b → IsWalk b
  is_walk b l e = go (replied hs (λ x. refl) l)
    where
      go : Replied start limit hs helper16 helper_mem room hs → IsWalk b
      go (out r f z) = absurd (let x : ◌≡◌ {A = Reply} (refusal r) (block b) = sym f ∙ e in let z : ◌≡◌ {A = ℕ} 0 1 = cc in omega arith)
      go (came f z) =
          let x : ◌≡◌ {A = Reply} (block b) (block (block_of helper16 helper_mem (walked start limit hs))) = sym e ∙ f in
          record { is = cc; accepted = z }

-- 3. Bounds of a walk: 64-bit addresses, no more instructions than were asked for

unfoldable pub EndOk : End → Type 0
EndOk (goes_on pc) = pc < 2 ^ 64
EndOk jumped = Unit
EndOk (calls h i pc) = (i < 2 ^ 32) × (pc < 2 ^ 64)

pub record Bounds (n : ℕ) (p : Walked) : Type 0 where
  pub end_ok : EndOk p.end
  pub few : p.added ≤ n

emit_ok : (i : Instruction) (n z pc w : ℕ) (p : Walked) → pc < 2 ^ 64 → w < 2 ^ 32 → Bounds n p → Bounds (suc n) (emit i z pc w p)
unfolding emit EndOk
emit_ok (op o) n z pc w p h l s = record { end_ok = s.end_ok; few = omega (arith, s.few) }
emit_ok (op_imm o) n z pc w p h l s = record { end_ok = s.end_ok; few = omega (arith, s.few) }
emit_ok LUI n z pc w p h l s = record { end_ok = s.end_ok; few = omega (arith, s.few) }
emit_ok AUIPC n z pc w p h l s = record { end_ok = s.end_ok; few = omega (arith, s.few) }
emit_ok FENCE n z pc w p h l s = record { end_ok = s.end_ok; few = omega (arith, s.few) }
emit_ok FENCE_I n z pc w p h l s = omega arith
emit_ok (branch c) n z pc w p h l s = omega arith
emit_ok JAL n z pc w p h l s = omega arith
emit_ok JALR n z pc w p h l s = omega arith
emit_ok (access a) n z pc w p h l s = omega arith
emit_ok (unmodelled o) n z pc w p h l s = omega arith
emit_ok other n z pc w p h l s = omega arith

long_ok : (n pc x : ℕ) (hs : List ℕ) (p : Walked) → pc < 2 ^ 64 → Halfwords (x ∷ hs) → Bounds n p → Bounds (suc n) (emit_word pc x hs p)
unfolding Halfwords EndOk
long_ok n pc x [] p h l s = omega arith
long_ok n pc x (y ∷ hs) p h l s = emit_ok (kind w) n 4 pc w p h w_lt s
  where
    w : ℕ
    w = Decode32.word_of x y

    w_lt : w < 2 ^ 32
    w_lt = rw (word_of_is x y l.0) (omega (arith, l.0, l.1.0))

short_ok : (n pc x : ℕ) (p : Walked) → pc < 2 ^ 64 → x < 2 ^ 16 → Bounds n p → Bounds (suc n) (emit_halfword (expand x) pc x p)
short_ok n pc x p h l s = rw (expand_is x) (go (in_line x) refl)
  where
    go : (o : Option ℕ) → in_line x ≡ o → Bounds (suc n) (emit_halfword o pc x p)
    go None e = unfold EndOk in omega (arith, l)
    go (Some w) e = emit_ok (kind w) n 2 pc w p h (in_line_lt x w e) s

pub walk_ok : (n pc : ℕ) (hs : List ℕ) → pc < 2 ^ 64 → Halfwords hs → Bounds n (walk n pc hs)
unfolding walk EndOk
walk_ok zero pc hs h l = omega arith
walk_ok (suc n) pc [] h l = omega arith
walk_ok (suc n) pc (x ∷ hs) h l =
    go (eqb (bit_and x 0x3) 0x3) (walk_ok n (plus pc 4) (drop 1 hs) (omega arith) (halfwords_drop x hs l))
    (walk_ok n (plus pc 2) hs (omega arith) (halfwords_tail x hs l))
  where
    go : (t : Bool) → Bounds n (walk n (plus pc 4) (drop 1 hs)) → Bounds n (walk n (plus pc 2) hs)
        → Bounds (suc n) (elim t [
          | true ↦ emit_word pc x hs (walk n (plus pc 4) (drop 1 hs))
          | false ↦ emit_halfword (expand x) pc x (walk n (plus pc 2) hs)
        ])
    go true p q = long_ok n pc x hs _ h l p
    go false p q = short_ok n pc x _ h (halfwords_front x hs l) q
