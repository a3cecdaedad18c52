-- Placing (crate agreement, Translation/Place): one law for each way through its tests, the answers that give it, and the mark they leave.
use Rattle.std.proofs.Common.{◌≡◌, refl, sym, ap, ◌∙◌, Bool, true, false, List, [], ◌∷◌, ◌++◌, ℕ, ◌+◌, ◌-◌, ◌%◌, ◌<◌, ◌≤◌, arith, lt-ltb}
use Rattle.std.proofs.Common.{le-ltb, ltb, length, take, drop}
use Rattle.agreement.specs.Translation.Place as Definition
use Rattle.agreement.specs.Translation.Place.{round_up, place, placing_numbered, store_after, mark_after}
use Rattle.agreement.specs.Translation.Place.Placing.{placed, beyond, full}
use Rattle.agreement.proofs.Laws.Values.{second_value, differ}
use Rattle.std.specs.Prelude.{Result, Ok, Err}
use Rattle.store.specs.Places.{Places, Allocates, answered}
use Rattle.store.specs.declared.Placed.{Placed}
use Rattle.store.specs.declared.Refusal.{Refusal}
use Rattle.store.specs.declared.Refusal.TheVariants.{Beyond, Full}

-- 1. The definition, by its tests in their order

tested : Bool → Bool → ℕ → ℕ → Definition.Placing
tested past over n used =
    elim past [ true ↦ beyond | false ↦ elim over [ true ↦ full | false ↦ placed (round_up used) (round_up used + n) ] ]

by_tests : (n size used : ℕ) {past over : Bool} → ltb size used ≡ past → ltb size (round_up used + n) ≡ over
    → place n size used ≡ tested past over n used
unfolding place tested
by_tests n size used {past} a b =
    ap (λ (x : Bool). tested x (ltb size (round_up used + n)) n used) a ∙ ap (λ (x : Bool). tested past x n used) b

-- what the code adds to the mark rounds it up
rounded : (used : ℕ) → used + (4 - used % 4) % 4 ≡ round_up used
rounded used = omega arith

-- 2. The answers

named : {code before after : List ℕ} {used : ℕ} {r : Result Placed Refusal} (p : Definition.Placing)
    → place (length code) (length before) used ≡ p → answered r ≡ placing_numbered p → after ≡ store_after p code before
    → Places code used before after r
named {code = code} {before = before} p e a l = record {
  answers = a ∙ ap placing_numbered (sym e);
  leaves = l ∙ ap (λ (q : Definition.Placing). store_after q code before) (sym e);
}

pub is_beyond : (code store : List ℕ) (used : ℕ) → length store < used → Places code used store store (Err Beyond)
unfolding tested placing_numbered store_after
is_beyond code store used h = named beyond (by_tests (length code) (length store) used (lt-ltb (length store) used h) refl) refl refl

pub is_full : (code store : List ℕ) (used : ℕ) → used ≤ length store → length store < (used + (4 - used % 4) % 4) + length code
    → Places code used store store (Err Full)
unfolding tested placing_numbered store_after
is_full code store used h k =
    let over : length store < round_up used + length code = omega (arith, k, rounded used) in
    named full (by_tests (length code) (length store) used (le-ltb (length store) used h) (lt-ltb (length store) _ over)) refl refl

pub is_placed : (code store after : List ℕ) (used offset mark : ℕ) → offset ≡ used + (4 - used % 4) % 4 → mark ≡ offset + length code
    → used ≤ length store → mark ≤ length store → after ≡ take offset store ++ (code ++ drop (offset + length code) store)
    → Places code used store after (Ok (record { offset = offset; mark = mark }))
unfolding tested placing_numbered store_after
is_placed code store after used offset mark o m h k l =
    let e : offset ≡ round_up used = o ∙ rounded used in
    let fits : round_up used + length code ≤ length store = omega (arith, k, m, e) in
    named (placed offset (offset + length code))
    (
    by_tests (length code) (length store) used (le-ltb (length store) used h) (le-ltb (length store) _ fits)
    ∙ ap (λ (x : ℕ). placed x (x + length code)) (sym e)
    )
    (ap (λ (x : ℕ). (0, offset ∷ x ∷ [])) m) l

-- 3. The mark afterwards

-- where code was placed, the mark is the second value
pub mark_placed : (p : Definition.Placing) (r : Placed) (used : ℕ) → answered (Ok r) ≡ placing_numbered p → r.mark ≡ mark_after p used
unfolding placing_numbered mark_after
mark_placed (placed offset mark) r used e = second_value e
mark_placed beyond r used e = differ e (λ n. omega arith)
mark_placed full r used e = differ e (λ n. omega arith)

-- where it was refused, the mark stays
pub mark_kept : (p : Definition.Placing) (r : Refusal) (used : ℕ) → answered (Err r) ≡ placing_numbered p → used ≡ mark_after p used
unfolding placing_numbered mark_after
mark_kept (placed offset mark) Beyond used e = differ e (λ n. omega arith)
mark_kept (placed offset mark) Full used e = differ e (λ n. omega arith)
mark_kept beyond r used e = refl
mark_kept full r used e = refl

pub moves : {code before after : List ℕ} {used : ℕ} {r : Placed} → Places code used before after (Ok r)
    → Allocates code used r.mark before after (Ok r)
moves {used = used} {r = r} h = record { places = h; moves = mark_placed _ r used h.answers }

pub keeps : {code before after : List ℕ} {used : ℕ} {e : Refusal} → Places code used before after (Err e)
    → Allocates code used used before after (Err e)
keeps {used = used} {e = e} h = record { places = h; moves = mark_kept _ e used h.answers }
