-- The replies of crate agreement (Translation/Replies), one law for each way through their tests, and the answers that give them.
use Rattle.std.proofs.Common.{◌≡◌, refl, sym, ap, ◌∙◌, subst, Bool, true, false, ◌≢◌, List, ℕ, ◌%◌, ◌<◌, ◌≤◌, min, zero-add, arith, eq-eqb}
use Rattle.std.proofs.Common.{ne_eqb, lt-ltb, le-ltb, eqb, length, length-take-le, Ok, Err}
use Rattle.agreement.specs.Common.{greatest, most_steps}
use Rattle.agreement.specs.Translation.Walk.{walk}
use Rattle.agreement.specs.Translation.Replies.{Block, Reply, First, first, by_first, block_of, walked, translate, numbered, output_after}
use Rattle.agreement.specs.Translation.Replies.Reply.{block, refusal}
use Rattle.agreement.specs.Translation.Replies.Refusal.{limit_zero, odd_start, output_short}
use Rattle.agreement.specs.Translation.Replies.First.{begins, lacks, untaken}
use Rattle.agreement.proofs.Block.Length.{block_length}
use Rattle.emitter.proofs.WriteLaws.{parts}
use Rattle.block.specs.Answers.{Answer, Answers, Compiles, Fits}
use Rattle.block.specs.First.{refused}
use Rattle.block.specs.declared.Block as Rust
use Rattle.block.specs.declared.Refusal.{Refusal}
use Rattle.block.specs.declared.Refusal.TheVariants.{LimitZero, OddStart, Missing, NotTaken, OutputShort}

-- 1. The reply, by the tests in their order

answer : Bool → Bool → First → ℕ → ℕ → Block → Reply
answer zero odd f start room b =
    elim zero [ true ↦ refusal limit_zero | false ↦ elim odd [ true ↦ refusal (odd_start start) | false ↦ by_first f room b ] ]

by_tests : (start limit : ℕ) (hs : List ℕ) (h16 hm room : ℕ) {zero odd : Bool} {f : First}
    → eqb limit 0 ≡ zero → eqb (start % 2) 1 ≡ odd → first hs ≡ f
    → translate start limit hs h16 hm room ≡ answer zero odd f start room (block_of h16 hm (walked start limit hs))
unfolding translate answer
by_tests start limit hs h16 hm room {zero} {odd} a b c =
    let B : Block = block_of h16 hm (walked start limit hs) in
    ap (λ (x : Bool). answer x (eqb (start % 2) 1) (first hs) start room B) a
    ∙ ap (λ (x : Bool). answer zero x (first hs) start room B) b
    ∙ ap (λ (x : First). answer zero odd x start room B) c

pub if_limit_zero : (start limit : ℕ) (hs : List ℕ) (h16 hm room : ℕ) → limit ≡ 0
    → translate start limit hs h16 hm room ≡ refusal limit_zero
unfolding answer
if_limit_zero start limit hs h16 hm room e = by_tests start limit hs h16 hm room (eq-eqb limit 0 e) refl refl

pub if_odd_start : (start limit : ℕ) (hs : List ℕ) (h16 hm room : ℕ) → limit ≢ 0 → start % 2 ≡ 1
    → translate start limit hs h16 hm room ≡ refusal (odd_start start)
unfolding answer
if_odd_start start limit hs h16 hm room d e =
    by_tests start limit hs h16 hm room (ne_eqb limit 0 d) (eq-eqb (start % 2) 1 e) refl

pub if_first : (start limit : ℕ) (hs : List ℕ) (h16 hm room : ℕ) {f : First} → limit ≢ 0 → start % 2 ≢ 1 → first hs ≡ f
    → translate start limit hs h16 hm room ≡ by_first f room (block_of h16 hm (walked start limit hs))
unfolding answer
if_first start limit hs h16 hm room d e t =
    by_tests start limit hs h16 hm room (ne_eqb limit 0 d) (ne_eqb (start % 2) 1 e) t

if_short : (room : ℕ) (b : Block) → room < greatest → by_first begins room b ≡ refusal output_short
unfolding by_first
if_short room b e = rw (lt-ltb room greatest e, by_first) refl

if_long : (room : ℕ) (b : Block) → greatest ≤ room → by_first begins room b ≡ block b
unfolding by_first
if_long room b e = rw (le-ltb room greatest e, by_first) refl

-- 2. The answers

named : {p q : Reply} {l l' : List ℕ} {r : Answer} → p ≡ q → Answers q l l' r → Answers p l l' r
named {l = l} {l' = l'} {r = r} e h = subst (λ (x : Reply). Answers x l l' r) (sym e) h

pub limit_zero_lem : {p : Reply} {l : List ℕ} → p ≡ refusal limit_zero → Answers p l l (Err LimitZero)
unfolding numbered output_after
limit_zero_lem e = named e (record { answers = refl; leaves = refl })

pub odd_start_lem : {p : Reply} {l : List ℕ} {start : ℕ} → p ≡ refusal (odd_start start) → Answers p l l (Err (OddStart start))
unfolding numbered output_after
odd_start_lem e = named e (record { answers = refl; leaves = refl })

-- the first word is not there, or not taken
pub first_refused : {p : Reply} {l : List ℕ} (f : First) {r : Refusal} (b : Block) → Err r ≡ refused f → p ≡ by_first f (length l) b
    → Answers p l l (Err r)
unfolding by_first numbered output_after
first_refused begins b e h = cc e
first_refused (lacks i) {r = r} b e h =
    let n : r ≡ Missing i = cc e in named h (rw n (record { answers = refl; leaves = refl }))
first_refused (untaken w) {r = r} b e h =
    let n : r ≡ NotTaken w = cc e in named h (rw n (record { answers = refl; leaves = refl }))

-- it begins a block
pub begun : (f : First) {u : Unit {0}} → Ok u ≡ refused f → f ≡ begins
begun begins e = refl
begun (lacks i) e = cc e
begun (untaken w) e = cc e

pub output_short_lem : {p : Reply} {l : List ℕ} (b : Block) → length l < greatest → p ≡ by_first begins (length l) b
    → Answers p l l (Err OutputShort)
unfolding numbered output_after
output_short_lem {l = l} b s e = named (e ∙ if_short (length l) b s) (record { answers = refl; leaves = refl })

-- a block at the front of the output
at_front : {l l' : List ℕ} {b : Block} {r : Rust.Block} → length b.code ≤ length l → Compiles b l l' r
    → Answers (block b) l l' (Ok r)
unfolding numbered output_after
at_front {b = b} f h = record {
  answers = rw (h.wrote.place ∙ zero-add (length b.code), h.counts, h.spans) refl;
  leaves = parts (record { fits = omega (arith, f) }) h.wrote ∙ rw zero-add refl;
}

fits : {l l' : List ℕ} {b : Block} {r : Rust.Block} → length b.code ≤ length l → Compiles b l l' r
    → Fits (Ok r) l'
fits {l' = l'} {r = r} f h =
    let g : r.length ≤ length l' = omega (arith, f, h.wrote.place, h.wrote.size) in
    (g, sym (length-take-le r.length l' g))

pub made : {p : Reply} {l l' : List ℕ} {r : Rust.Block} (start limit : ℕ) (hs : List ℕ) (h16 hm steps : ℕ)
    → greatest ≤ length l → p ≡ by_first begins (length l) (block_of h16 hm (walked start limit hs))
    → steps ≡ min limit most_steps → Compiles (block_of h16 hm (walk steps start hs)) l l' r
    → Answers p l l' (Ok r) × Fits (Ok r) l'
made {l = l} {l' = l'} {r = r} start limit hs h16 hm steps s e n h =
    let b : Block = block_of h16 hm (walked start limit hs) in
    let k : Compiles b l l' r = rw n at h in
    let f : length b.code ≤ length l = omega (arith, s, block_length h16 hm (min limit most_steps) start hs) in
    (named (e ∙ if_long (length l) b s) (at_front f k), fits f k)
