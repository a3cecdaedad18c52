-- The loop over the instructions: what holds between two of them, and each way on or out.
use Rattle.std.proofs.Common.{◌≡◌, ℕ, ◌+◌, ◌-◌, ◌*◌, ◌<◌, ◌≤◌, List, drop, Option, Some, None, Ok, Err, sym, ap, refl, ◌∙◌, arith}
use native.Mathlib.Nat.{sub-zero}
use Rattle.agreement.specs.Common.{Helper.for_halfword}
use Rattle.agreement.specs.Translation.Decode32.{wrapping_add}
use Rattle.agreement.specs.Translation.Kind.{kind}
use Rattle.agreement.specs.Translation.Walk.{walk, End.goes_on, End.jumped, End.calls}
use Rattle.emitter.specs.Written.{Emitter, HasRoom}
use Rattle.words.specs.Word.{Emits, word_as, end_at}
use Rattle.words.specs.declared.X64EmitFlow.{X64EmitFlow}
use Rattle.words.specs.declared.X64EmitFlow.TheVariants.{Continue, Terminate, StopBehind}
use Rattle.walk.specs.Fetch.{fetched, instr_of, to_translate}
use Rattle.walk.specs.declared.fetch.Fetched.{Fetched}
use Rattle.walk.specs.Walks.{Walks}
use Rattle.walk.specs.declared.run.Walked.{Walked}
use Rattle.walk.specs.declared.fetch.Missing.{Missing}
use Rattle.walk.proofs.WalkStep.{at_none, at_missing, at_half, at_word, at_most_two, behind, follows}
use Rattle.words.proofs.WalkWords.{by_flow}
use Rattle.walk.proofs.StraightLength.{straight_short}
use Rattle.walk.proofs.WalkWritten.{Left, named, going, ending_word, stopping, stopping_here}

-- n instructions of the run hs are written, which have k halfwords; e₀ was the emitter before the first, e is it behind the last. Whatever
-- completes the walk from there completes the whole.
pub record Walking (steps start : ℕ) (hs : List ℕ) (e₀ e : Emitter) (pc n k : ℕ) : Type 0 where
  pub taken : n ≤ steps
  pub place : k ≤ 2 * n
  pub room : HasRoom e (63 * (steps - n) + 35)
  pub rest : (f : Emitter) (r : Walked) → Walks e n k (walk (steps - n) pc (drop k hs)) f r → Walks e₀ 0 0 (walk steps start hs) f r

pub begins : (steps start : ℕ) (hs : List ℕ) (e : Emitter) → HasRoom e (63 * steps + 35) → Walking steps start hs e e start 0 0
begins steps start hs e h = record {
  taken = omega arith;
  place = omega arith;
  room = record { fits = omega (arith, h.fits) };
  rest = λ f r w. named (ap (λ (n : ℕ). walk n start hs) (sym (sub-zero steps))) w;
}

module _ {steps start : ℕ} {hs : List ℕ} {e₀ e : Emitter} {pc n k : ℕ} where
  -- nothing is written: the steps are used up, a halfword is missing, or a helper takes a halfword
  pub used_up : {r : Walked} → Walking steps start hs e₀ e pc n k → steps ≤ n → Left n k (goes_on pc) r
      → Walks e₀ 0 0 (walk steps start hs) e r
  used_up {r = r} w h q =
      w.rest e r (named (at_none (steps - n) pc (drop k hs) (omega (arith, h))) (stopping_here q))

  pub lacking : {r : Walked} {m : Missing} → Walking steps start hs e₀ e pc n k → n < steps
      → Err m ≡ fetched (drop k hs) → Left n k (goes_on pc) r → Walks e₀ 0 0 (walk steps start hs) e r
  lacking {r = r} w h f q =
      w.rest e r (named (at_missing (steps - n) pc (drop k hs) (λ z. omega (arith, h, z)) f) (stopping_here q))

  pub halved : {r : Walked} {f : Fetched} {i : ℕ} → Walking steps start hs e₀ e pc n k → n < steps
      → Ok f ≡ fetched (drop k hs) → Err i ≡ to_translate f → Left n k (calls for_halfword i pc) r
      → Walks e₀ 0 0 (walk steps start hs) e r
  halved {r = r} w h f t q =
      w.rest e r (named (at_half (steps - n) pc (drop k hs) (λ z. omega (arith, h, z)) f t) (stopping_here q))

  -- an instruction of m halfwords is written
  module _ {f : Emitter} {flow : Option X64EmitFlow} {g : Fetched} (i m : ℕ) (w : Walking steps start hs e₀ e pc n k) (h : n < steps)
      (E : Emits e (word_as (kind i) (2 * m) pc i) f flow) (F : Ok g ≡ fetched (drop k hs)) (I : Ok (instr_of i m) ≡ to_translate g) where
    left : steps - n ≡ 0 → ⊥
    left z = omega (arith, h, z)

    at : {t : Option X64EmitFlow} → flow ≡ t → walk (steps - n) pc (drop k hs)
        ≡ by_flow t (2 * m) (word_as (kind i) (2 * m) pc i).code (wrapping_add pc (2 * m)) (end_at (kind i) pc i)
        (follows (steps - n - 1) pc (drop k hs) m)
    at t = at_word (steps - n) pc (drop k hs) left F I (sym E.flows ∙ t)

    pub going_on : flow ≡ Some Continue → Walking steps start hs e₀ f (wrapping_add pc (2 * m)) (n + 1) (k + m)
    going_on t =
        let short = straight_short (kind i) (2 * m) pc i (sym E.flows ∙ t) in
        record {
          taken = omega (arith, h);
          place = omega (arith, w.place, at_most_two g I);
          room = record { fits = omega (arith, h, short, w.room.fits, E.writes.wrote.place, E.writes.wrote.size) };
          rest = λ j r q.
              w.rest j r (named (at t)
              (going m E (named (behind (steps - n - 1) pc m k hs
              ∙ ap (λ (j : ℕ). walk j (wrapping_add pc (2 * m)) (drop (k + m) hs)) fewer) q)));
        }
      where
        fewer : steps - n - 1 ≡ steps - (n + 1)
        fewer = omega arith

    pub ended : {r : Walked} → flow ≡ Some Terminate → Left (n + 1) (k + m) jumped r → Walks e₀ 0 0 (walk steps start hs) f r
    ended {r = r} t q = w.rest f r (named (at t) (ending_word m refl E q))

    pub stopped_behind : {r : Walked} → flow ≡ Some StopBehind → Left (n + 1) (k + m) (goes_on (wrapping_add pc (2 * m))) r
        → Walks e₀ 0 0 (walk steps start hs) f r
    stopped_behind {r = r} t q = w.rest f r (named (at t) (ending_word m refl E q))

    pub turned_down : {r : Walked} → flow ≡ None → Left n k (end_at (kind i) pc i) r → Walks e₀ 0 0 (walk steps start hs) f r
    turned_down {r = r} t q = w.rest f r (named (at t) (stopping E q))
