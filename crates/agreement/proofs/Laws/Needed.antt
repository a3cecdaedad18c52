-- What the number of a word's kind says of the walk, and that a run fetched by it is long enough.
use Rattle.std.proofs.Common.{◌≡◌, refl, ap, sym, ◌∙◌, ◌≢◌, Bool, true, false, List, [], ◌∷◌, ℕ, zero, suc, min, ◌%◌, arith, bit_and, eqb}
use Rattle.std.specs.Prelude.{Option, None, Some}
use Rattle.agreement.specs.Common.{most_steps}
use Rattle.agreement.specs.Riscv.Instruction.{Instruction}
use Rattle.agreement.specs.Riscv.Instruction.Instruction.{op, op_imm, branch, access, unmodelled, LUI, AUIPC, JAL, JALR, FENCE, FENCE_I, other}
use Rattle.agreement.specs.Translation.Decode16.{expand}
use Rattle.agreement.specs.Translation.Decode32.{word_of, rd, rs1, rs2, imm32, shamt, shamt_w, imm_u, wrapping_add}
use Rattle.agreement.specs.Translation.Kind.{kind, kind_number}
use Rattle.agreement.specs.Translation.Needed.{behind, halfword_kind, needed}
use Rattle.agreement.specs.Translation.Emit.{code_op, code_op_imm, code_const}
use Rattle.agreement.specs.Translation.Walk.{Walked, walk, emit, emit_halfword}
use Rattle.agreement.specs.Translation.Replies.{First, Reply, first, by_first, block_of, translate}
use Rattle.agreement.specs.Translation.Replies.First.{begins}
use Rattle.agreement.specs.Translation.Replies.Reply.{refusal}
use Rattle.agreement.specs.Translation.Replies.Refusal.{limit_zero, odd_start}
use Rattle.agreement.specs.Laws.{KindsWalk, WalksBy, Ends.sets, Ends.leaves, NeedsNoMore}
use Rattle.agreement.proofs.Laws.Matches.{decide}

pub kinds_walk : KindsWalk
unfolding KindsWalk WalksBy emit
kinds_walk (op o) z pc w = record { code = code_op o (rd w) (rs1 w) (rs2 w); on = λ p. refl }
kinds_walk (op_imm o) z pc w = record { code = code_op_imm o (rd w) (rs1 w) (imm32 w) (shamt w) (shamt_w w); on = λ p. refl }
kinds_walk LUI z pc w = record { code = code_const (rd w) (imm_u w); on = λ p. refl }
kinds_walk AUIPC z pc w = record { code = code_const (rd w) (wrapping_add pc (imm_u w)); on = λ p. refl }
kinds_walk FENCE z pc w = record { code = []; on = λ p. refl }
kinds_walk FENCE_I z pc w = leaves [] (λ p. refl)
kinds_walk (branch c) z pc w = sets _ (λ p. refl)
kinds_walk JAL z pc w = sets _ (λ p. refl)
kinds_walk JALR z pc w = sets _ (λ p. refl)
kinds_walk (access a) z pc w = λ p. refl
kinds_walk (unmodelled u) z pc w = λ p. refl
kinds_walk other z pc w = λ p. refl

-- only a straight word looks at what follows it
emit_alike : (k : Instruction) (z pc w : ℕ) {p q : Walked} → (kind_number k ≡ 1 → p ≡ q) → emit k z pc w p ≡ emit k z pc w q
unfolding emit
emit_alike (op o) z pc w h = ap (emit (op o) z pc w) (h refl)
emit_alike (op_imm o) z pc w h = ap (emit (op_imm o) z pc w) (h refl)
emit_alike LUI z pc w h = ap (emit LUI z pc w) (h refl)
emit_alike AUIPC z pc w h = ap (emit AUIPC z pc w) (h refl)
emit_alike FENCE z pc w h = ap (emit FENCE z pc w) (h refl)
emit_alike FENCE_I z pc w h = refl
emit_alike (branch c) z pc w h = refl
emit_alike JAL z pc w h = refl
emit_alike JALR z pc w h = refl
emit_alike (access a) z pc w h = refl
emit_alike (unmodelled u) z pc w h = refl
emit_alike other z pc w h = refl

-- what a straight instruction needs behind it, and no other does
behind_alike : (k : Instruction) (z pc w : ℕ) (f : List ℕ → Walked) (l hs : List ℕ) → f l ≡ f hs
    → emit k z pc w (f (behind k l)) ≡ emit k z pc w (f hs)
behind_alike k z pc w f l hs e = emit_alike k z pc w (λ s. rw s e)

short_alike : (o : Option ℕ) (pc h : ℕ) (f : List ℕ → Walked) (l hs : List ℕ) → f l ≡ f hs
    → emit_halfword o pc h (f (behind (halfword_kind o) l)) ≡ emit_halfword o pc h (f hs)
short_alike None pc h f l hs e = refl
short_alike (Some w) pc h f l hs e = behind_alike (kind w) 2 pc w f l hs e

walk-needed : (n pc : ℕ) (hs : List ℕ) → walk n pc (needed n hs) ≡ walk n pc hs
unfolding walk needed
walk-needed zero pc hs = refl
walk-needed (suc n) pc [] = refl
walk-needed (suc n) pc (h ∷ []) = refl
walk-needed (suc n) pc (h ∷ u ∷ hs) =
    go (eqb (bit_and h 0x3) 0x3) refl (walk-needed n (wrapping_add pc 4) hs) (walk-needed n (wrapping_add pc 2) (u ∷ hs))
  where
    w : ℕ
    w = word_of h u

    go : (t : Bool) → eqb (bit_and h 0x3) 0x3 ≡ t
        → walk n (wrapping_add pc 4) (needed n hs) ≡ walk n (wrapping_add pc 4) hs
        → walk n (wrapping_add pc 2) (needed n (u ∷ hs)) ≡ walk n (wrapping_add pc 2) (u ∷ hs)
        → walk (suc n) pc (needed (suc n) (h ∷ u ∷ hs)) ≡ walk (suc n) pc (h ∷ u ∷ hs)
    go true e long short =
        rw (e, walk) (rw e (behind_alike (kind w) 4 pc w (walk n (wrapping_add pc 4)) (needed n hs) hs long))
    go false e long short =
        rw (e, walk) (rw e (short_alike (expand h) pc h (walk n (wrapping_add pc 2)) (needed n (u ∷ hs)) (u ∷ hs) short))

-- a halfword begins a block, whatever stands behind it
first_short : (h : ℕ) (hs : List ℕ) → eqb (bit_and h 0x3) 0x3 ≡ false → first (h ∷ hs) ≡ begins
unfolding first
first_short h [] e = rw (e, first) refl
first_short h (u ∷ hs) e = rw (e, first) refl

first-needed : (n : ℕ) (hs : List ℕ) → n ≢ 0 → first (needed n hs) ≡ first hs
unfolding first needed
first-needed zero hs h = absurd (h refl)
first-needed (suc n) [] h = refl
first-needed (suc n) (l ∷ []) h = refl
first-needed (suc n) (l ∷ u ∷ hs) h = go (eqb (bit_and l 0x3) 0x3) refl
  where
    go : (t : Bool) → eqb (bit_and l 0x3) 0x3 ≡ t → first (needed (suc n) (l ∷ u ∷ hs)) ≡ first (l ∷ u ∷ hs)
    go true e = rw (e, first) (rw e refl)
    go false e = rw e (first_short l _ e ∙ sym (first_short l (u ∷ hs) e))

-- the reply by the test of the first word and the walk
abbrev replied : ℕ → ℕ → ℕ → ℕ → ℕ → First → Walked → Reply
replied start limit helper16 helper_mem room f p =
    elim (eqb limit 0) [
      | true ↦ refusal limit_zero
      | false ↦ elim (eqb (start % 2) 1) [
        | true ↦ refusal (odd_start start)
        | false ↦ by_first f room (block_of helper16 helper_mem p)
      ]
    ]

pub needs_no_more : NeedsNoMore
unfolding NeedsNoMore translate
needs_no_more start limit hs helper16 helper_mem room = decide limit 0 (λ e. rw e refl) Some
  where
    m : ℕ
    m = min limit most_steps

    Some : limit ≢ 0 → translate start limit (needed m hs) helper16 helper_mem room ≡ translate start limit hs helper16 helper_mem room
    Some h =
        ap (λ (f : First). replied start limit helper16 helper_mem room f (walk m start (needed m hs)))
        (first-needed m hs (λ e. h (omega (arith, e))))
        ∙ ap (replied start limit helper16 helper_mem room (first hs)) (walk-needed m start hs)
