-- A walk that was written, instruction by instruction; the room behind it.
use Rattle.std.proofs.Common.{◌≡◌, ℕ, ◌+◌, ◌*◌, ◌≤◌, List, [], Option, sym, refl, subst, arith}
use Rattle.agreement.specs.Common.{greatest, most_steps}
use Rattle.agreement.specs.X86.Encode.{bytes}
use Rattle.agreement.specs.Translation.Emit.{opening}
use Rattle.agreement.specs.Translation.Walk.{walk, before, End.goes_on, End.jumped, End.calls}
use Rattle.agreement.specs.Translation.Walk as Translation
use Rattle.agreement.proofs.Block.Length.{sized}
use Rattle.agreement.proofs.Block.Length as Length
use Rattle.emitter.specs.Written.{Emitter, Writes, HasRoom}
use Rattle.emitter.proofs.WriteLaws.{none}
use Rattle.words.specs.Word.{Word, Emits, end_size}
use Rattle.words.specs.declared.X64EmitFlow.{X64EmitFlow}
use Rattle.words.proofs.Joined.{joined}
use Rattle.walk.specs.Walks.{Walks, end_as, most, walked_of}
use Rattle.walk.specs.declared.close.End.{End}
use Rattle.walk.specs.declared.run.Walked.{Walked}

-- the same walk by another name
pub named : {e f : Emitter} {n k : ℕ} {p q : Translation.Walked} {r : Walked} → p ≡ q → Walks e n k q f r → Walks e n k p f r
named {e = e} {f = f} {n = n} {k = k} {r = r} q h = subst (λ (x : Translation.Walked). Walks e n k x f r) (sym q) h

-- a word of m halfwords that goes on, then the walk over what follows
pub going : {e f g : Emitter} {n k : ℕ} (m : ℕ) {w : Word} {flow : Option X64EmitFlow} {p : Translation.Walked} {r : Walked}
    → Emits e w f flow → Walks f (n + 1) (k + m) p g r → Walks e n k (before (2 * m) w.code p) g r
going m {w = w} {p = p} h k = record {
  ends = k.ends;
  counts = omega (arith, k.counts);
  spans = omega (arith, k.spans);
  writes = joined w.code p.code h.writes k.writes;
}

-- the result has n instructions of k halfwords, and the end e
pub record Left (n k : ℕ) (e : Translation.End) (r : Walked) : Type 0 where
  pub counts : r.emitted ≡ n
  pub spans : r.span ≡ 2 * k + end_size e
  pub ends : end_as r.end ≡ e

-- as the code puts it together
pub left_of : (n k : ℕ) (e : End) {q : Translation.End} {r : Walked} → r ≡ walked_of n k e → end_as e ≡ q → Left n k q r
left_of n k e h t = rw (h, ← t) record { counts = refl; spans = refl; ends = refl }

-- a word of m halfwords that ends the walk and counts
pub ending_word : {e f : Emitter} {n k : ℕ} (m : ℕ) {w : Word} {flow : Option X64EmitFlow} {q : Translation.End} {r : Walked}
    → end_size q ≡ 0 → Emits e w f flow → Left (n + 1) (k + m) q r
    → Walks e n k (record { code = w.code; added = 1; span = 2 * m; end = q }) f r
ending_word m z h k = record { ends = k.ends; counts = k.counts; spans = omega (arith, k.spans, z); writes = h.writes }

-- a word that is not emitted ends the walk
pub stopping : {e f : Emitter} {n k : ℕ} {w : Word} {flow : Option X64EmitFlow} {q : Translation.End} {r : Walked}
    → Emits e w f flow → Left n k q r → Walks e n k (record { code = w.code; added = 0; span = end_size q; end = q }) f r
stopping h k = record { ends = k.ends; counts = omega (arith, k.counts); spans = k.spans; writes = h.writes }

-- the walk ends, with nothing more written
pub stopping_here : {e : Emitter} {n k : ℕ} {q : Translation.End} {r : Walked}
    → Left n k q r → Walks e n k (record { code = []; added = 0; span = end_size q; end = q }) e r
stopping_here k = record {
  ends = k.ends;
  counts = omega (arith, k.counts);
  spans = k.spans;
  writes = record { wrote = none; same_output = refl };
}

-- the greatest length of an end
most_is : (e : Translation.End) → Length.most e ≡ most e
unfolding Length.most
most_is (goes_on pc) = refl
most_is jumped = refl
most_is (calls h i pc) = refl

-- behind the opening and a walk of `most_steps` at most there is room for the end
pub room_to_close : {e f g : Emitter} {r : Walked} (n pc : ℕ) (hs : List ℕ) → n ≤ most_steps → HasRoom e greatest → e.at ≡ 0
    → Writes e (bytes opening) f → Walks f 0 0 (walk n pc hs) g r → HasRoom g (most (end_as r.end))
room_to_close n pc hs k h z o w = record {
  fits = rw (w.ends, sym (most_is (walk n pc hs).end))
      (omega (arith, k, h.fits, z, o.wrote.place, o.wrote.size, w.writes.wrote.place, w.writes.wrote.size, (sized n pc hs).high));
}
