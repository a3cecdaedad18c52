-- A step of the walk (crate agreement, Translation/Walk) by what stands at the front of the run.
use Rattle.std.proofs.Common.{bit_and, Bool, List, [], ap, cond, drop, drop-drop, eqb, false, refl, sub-one, subst, suc, sym, true, zero, ℕ, ◌+◌, ◌*◌, ◌≤◌, arith}
use Rattle.std.specs.Prelude.{Option, None, Some}
use Rattle.std.proofs.Common.{◌-◌, ◌∙◌, ◌∷◌, ◌≡◌, ◌≢◌, Result, Ok, Err}
use Rattle.agreement.specs.Common.{Helper.for_halfword}
use Rattle.agreement.specs.Translation.Decode32.{word_of, wrapping_add}
use Rattle.agreement.specs.Translation.Kind.{kind}
use Rattle.agreement.specs.Riscv.Run.{in_line}
use Rattle.agreement.specs.Translation.Decode16.{expand}
use Rattle.agreement.specs.Translation.Walk.{Walked, walk, emit, emit_halfword, stops_at, helps}
use Rattle.words.specs.Word.{word_as, end_at}
use Rattle.words.specs.declared.X64EmitFlow.{X64EmitFlow}
use Rattle.walk.specs.Fetch.{by_expansion, fetched, instr_of, missing, to_translate}
use Rattle.walk.specs.declared.fetch.Instr.{Instr}
use Rattle.walk.specs.declared.fetch.Fetched.{Fetched}
use Rattle.walk.specs.declared.fetch.Fetched.TheVariants.{Half, Word}
use Rattle.walk.specs.declared.fetch.Missing.{Missing}
use Rattle.agreement.proofs.Laws.Expanding.{expand_is}
use Rattle.words.proofs.WalkWords.{by_flow, walks_on}

-- rest: the walk over what follows so many halfwords
abbrev by_fetched : Result Fetched Missing → ℕ → (ℕ → Walked) → Walked
by_fetched (Err m) pc rest = stops_at pc
by_fetched (Ok (Half h)) pc rest = emit_halfword (expand h) pc h (rest 1)
by_fetched (Ok (Word w)) pc rest = emit (kind w) (2 * 2) pc w (rest 2)

-- the walk over what follows m halfwords of the run
abbrev pub follows : ℕ → ℕ → List ℕ → ℕ → Walked
follows n pc hs m = walk n (wrapping_add pc (2 * m)) (drop m hs)

step : (n pc : ℕ) (hs : List ℕ) → walk (suc n) pc hs ≡ by_fetched (fetched hs) pc (follows n pc hs)
unfolding walk
step n pc [] = refl
step n pc (h ∷ []) = go (eqb (bit_and h 0x3) 0x3)
  where
    go : (t : Bool)
        → elim t [ true ↦ stops_at pc | false ↦ emit_halfword (expand h) pc h (walk n (wrapping_add pc 2) []) ]
        ≡ by_fetched (cond t (missing 1) (Ok (Half h))) pc (follows n pc (h ∷ []))
    go true = refl
    go false = refl
step n pc (h ∷ u ∷ hs) = go (eqb (bit_and h 0x3) 0x3)
  where
    w : ℕ
    w = word_of h u

    go : (t : Bool)
        → elim t [
          | true ↦ emit (kind w) 4 pc w (walk n (wrapping_add pc 4) hs)
          | false ↦ emit_halfword (expand h) pc h (walk n (wrapping_add pc 2) (u ∷ hs))
        ]
        ≡ by_fetched (cond t (Ok (Word w)) (Ok (Half h))) pc (follows n pc (h ∷ u ∷ hs))
    go true = refl
    go false = refl

-- n steps are left, and f is what stands at the front
some_left : (n pc : ℕ) (hs : List ℕ) {f : Result Fetched Missing} → n ≢ 0 → f ≡ fetched hs
    → walk n pc hs ≡ by_fetched f pc (follows (n - 1) pc hs)
some_left zero pc hs h e = absurd (h refl)
some_left (suc n) pc hs {f} h e =
    step n pc hs
    ∙ ap (λ (g : Result Fetched Missing). by_fetched g pc (follows n pc hs)) (sym e)
    ∙ ap (λ (m : ℕ). by_fetched f pc (follows m pc hs)) (sym (sub-one (suc n)))

-- the same by what is translated
abbrev by_instr : Result Instr ℕ → ℕ → (ℕ → Walked) → Walked
by_instr (Err h) pc rest = helps for_halfword h pc
by_instr (Ok i) pc rest = emit (kind i.word) (2 * i.halfwords) pc i.word (rest i.halfwords)

translated : (f : Fetched) (pc : ℕ) (rest : ℕ → Walked) → by_fetched (Ok f) pc rest ≡ by_instr (to_translate f) pc rest
translated (Word w) pc rest = refl
translated (Half h) pc rest = ap (λ (o : Option ℕ). emit_halfword o pc h (rest 1)) (expand_is h) ∙ go (in_line h)
  where
    go : (o : Option ℕ) → emit_halfword o pc h (rest 1) ≡ by_instr (by_expansion o h) pc rest
    go None = refl
    go (Some w) = refl

some_translated : (n pc : ℕ) (hs : List ℕ) {f : Fetched} {i : Result Instr ℕ} → n ≢ 0 → Ok f ≡ fetched hs → i ≡ to_translate f
    → walk n pc hs ≡ by_instr i pc (follows (n - 1) pc hs)
some_translated n pc hs {f} h e t =
    some_left n pc hs h e ∙ translated f pc (follows (n - 1) pc hs)
    ∙ ap (λ (j : Result Instr ℕ). by_instr j pc (follows (n - 1) pc hs)) (sym t)

pub at_none : (n pc : ℕ) (hs : List ℕ) → n ≡ 0 → walk n pc hs ≡ stops_at pc
unfolding walk
at_none n pc hs e = rw e refl

pub at_missing : (n pc : ℕ) (hs : List ℕ) {m : Missing} → n ≢ 0 → Err m ≡ fetched hs → walk n pc hs ≡ stops_at pc
at_missing n pc hs h e = some_left n pc hs h e

pub at_half : (n pc : ℕ) (hs : List ℕ) {f : Fetched} {h : ℕ} → n ≢ 0 → Ok f ≡ fetched hs → Err h ≡ to_translate f
    → walk n pc hs ≡ helps for_halfword h pc
at_half n pc hs l e t = some_translated n pc hs l e t

pub at_word : (n pc : ℕ) (hs : List ℕ) {f : Fetched} {w m : ℕ} {t : Option X64EmitFlow} → n ≢ 0
    → Ok f ≡ fetched hs → Ok (instr_of w m) ≡ to_translate f → (word_as (kind w) (2 * m) pc w).flow ≡ t
    → walk n pc hs
    ≡ by_flow t (2 * m) (word_as (kind w) (2 * m) pc w).code (wrapping_add pc (2 * m)) (end_at (kind w) pc w) (follows (n - 1) pc hs m)
at_word n pc hs {w = w} {m = m} l e i t =
    let p : Walked = follows (n - 1) pc hs m in
    some_translated n pc hs l e i ∙ walks_on (kind w) (2 * m) pc w p
    ∙ ap (λ (g : Option X64EmitFlow). by_flow g (2 * m) (word_as (kind w) (2 * m) pc w).code (wrapping_add pc (2 * m))
    (end_at (kind w) pc w) p) t

-- the run behind an instruction, from the instruction and from the start of the run
pub behind : (n pc m k : ℕ) (hs : List ℕ) → follows n pc (drop k hs) m ≡ walk n (wrapping_add pc (2 * m)) (drop (k + m) hs)
behind n pc m k hs = rw (drop-drop m k hs) refl

-- an instruction has one halfword or two
abbrev halfwords_of : Result Instr ℕ → ℕ
halfwords_of (Ok i) = i.halfwords
halfwords_of (Err h) = 0

at_most : (f : Fetched) → halfwords_of (to_translate f) ≤ 2
at_most (Word w) = omega arith
at_most (Half h) = go (in_line h)
  where
    go : (o : Option ℕ) → halfwords_of (by_expansion o h) ≤ 2
    go None = omega arith
    go (Some w) = omega arith

pub at_most_two : {w m : ℕ} (f : Fetched) → Ok (instr_of w m) ≡ to_translate f → m ≤ 2
at_most_two f e = subst (λ (n : ℕ). n ≤ 2) (sym (ap halfwords_of e)) (at_most f)
