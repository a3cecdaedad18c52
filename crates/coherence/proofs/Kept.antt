-- Every entry in use is of a translation whose code is unchanged in the bytes that its block spans: what each operation leaves of this,
-- and the theorem by induction.
use Rattle.std.specs.Prelude.{Some, slice_get}
use Rattle.std.specs.List.{list_any}
use Rattle.std.proofs.Common.{◌≡◌, refl, sym, ap, ◌∙◌, Bool, true, false, cond, ◌&&◌, true≢false, List, [], ◌∷◌, ℕ, zero, suc, arith}
use Rattle.std.proofs.Common.{◌+◌, ◌*◌, ◌%◌, ◌^◌, map}
use Rattle.std.proofs.lemmas.Bool.{or_parts}
use Rattle.agreement.specs.Riscv.Code.{SameIn}
use Rattle.agreement.specs.Translation.Replies.{Reply, Reply.block, Reply.refusal}
use Rattle.entry.specs.Index.{is_in_use, is_dropped, freed, key_of, over_first, taken, renewed, empty, touches, drop_touched}
use Rattle.entry.specs.declared.Entry.{Entry}
use Rattle.entry.specs.declared.Key.{Key}
use Rattle.entry.specs.declared.NativeBlock.{NativeBlock}
use Rattle.entry.proofs.Touching.{no_common}
use Rattle.coherence.specs.Keeping.{Codes, Writes, Request, reply_to, key, native, Operation, Operation.translates, Operation.writes, Operation.empties}
use Rattle.coherence.specs.Keeping.{codes_after, OnlyWrites, inserted, after, IsCurrent, AllCurrent, KeepsSpans}

-- 1. What stands in a slot behind an operation

data Put (es : List Entry) (f : Entry → Entry) (e : Entry) : Type 0 where
  stays : (slot : ℕ) → slice_get es slot ≡ Some e → Put es f e
  changes : (d : Entry) → f d ≡ e → Put es f e

put_behind : {f : Entry → Entry} {e : Entry} (d : Entry) (es : List Entry) → Put es f e → Put (d ∷ es) f e
put_behind d es (stays slot h) = stays (suc slot) h
put_behind d es (changes c h) = changes c h

over_slot : (p : Entry → Bool) (f : Entry → Entry) (es : List Entry) (slot : ℕ) (e : Entry)
    → slice_get (over_first p f es) slot ≡ Some e → Put es f e
over_slot p f [] slot e h = absurd (cc)
over_slot p f (d ∷ es) zero e h = at (p d) h
  where
    at : (b : Bool) → slice_get (cond b (f d ∷ es) (d ∷ over_first p f es)) 0 ≡ Some e → Put (d ∷ es) f e
    at true k = changes d (cc)
    at false k = stays 0 k
over_slot p f (d ∷ es) (suc slot) e h = at (p d) h (over_slot p f es slot e)
  where
    at : (b : Bool) → slice_get (cond b (f d ∷ es) (d ∷ over_first p f es)) (suc slot) ≡ Some e
        → (slice_get (over_first p f es) slot ≡ Some e → Put es f e) → Put (d ∷ es) f e
    at true k r = stays (suc slot) k
    at false k r = put_behind d es (r k)

record Was (f : Entry → Entry) (es : List Entry) (slot : ℕ) (e : Entry) : Type 0 where
  d : Entry
  there : slice_get es slot ≡ Some d
  becomes : f d ≡ e

map_slot : (f : Entry → Entry) (es : List Entry) (slot : ℕ) (e : Entry) → slice_get (map f es) slot ≡ Some e → Was f es slot e
map_slot f [] slot e h = absurd (cc)
map_slot f (d ∷ es) zero e h = record { d = d; there = refl; becomes = cc }
map_slot f (d ∷ es) (suc slot) e h = let w = map_slot f es slot e h in record { d = w.d; there = w.there; becomes = w.becomes }

-- 2. Each operation

-- the operation o came behind the others, and left the code under the entry's satp as it was in the bytes that its block spans
later_too : (cs : Codes) (operations : List Operation) (o : Operation) (e : Entry) (c : IsCurrent cs operations e)
    → SameIn c.request.pc c.b.span (codes_after cs operations c.request.satp) (codes_after cs (o ∷ operations) c.request.satp)
    → IsCurrent cs (o ∷ operations) e
later_too cs operations o e c s = record {
  later = o ∷ c.later;
  request = c.request;
  earlier = c.earlier;
  when = ap (λ (l : List Operation). o ∷ l) c.when;
  b = c.b;
  made = c.made;
  has_key = c.has_key;
  has_block = c.has_block;
  same = λ k h. c.same k h ∙ s k h;
}

-- a write that touches none of the bytes that a block spans leaves every halfword of them
next_byte : (pc k : ℕ) → ((pc + 2 * k) % 2 ^ 64 + 1) % 2 ^ 64 ≡ (pc + (2 * k + 1)) % 2 ^ 64
next_byte pc k = omega arith

unwritten : (pc span a n satp : ℕ) (cs cs' : Codes) → touches pc span a n ≡ false → Writes a n cs cs' → SameIn pc span (cs satp) (cs' satp)
unwritten pc span a n satp cs cs' t w k h =
    sym (w satp ((pc + 2 * k) % 2 ^ 64) (omega arith)
    (λ j l e. no_common pc span a n (2 * k) j t (omega (arith, h)) l (sym e))
    (λ j l e. no_common pc span a n (2 * k + 1) j t h l (sym (e ∙ next_byte pc k))))

not_touched : (a n : ℕ) (e : Entry) → is_in_use e ≡ true → is_dropped a n e ≡ false → touches e.pc e.block.span a n ≡ false
not_touched a n e u t = ap (λ (b : Bool). b && touches e.pc e.block.span a n) (sym u) ∙ t

module _ (cs : Codes) (operations : List Operation) (es : List Entry) (current : AllCurrent cs operations es) where
  -- a translation: the entry it was put in is of the code as it is, and the others stay
  translated : (q : Request) (r : Reply) → reply_to q (codes_after cs operations) ≡ r
      → AllCurrent cs (translates q ∷ operations) (inserted es q r)
  translated q (refusal r) m slot e h u = later_too cs operations (translates q) e (current slot e h u) (λ k l. refl)
  translated q (block b) m slot e h u = at (over_slot (taken es (key q)) (renewed (key q) (native q b)) es slot e h)
    where
      at : Put es (renewed (key q) (native q b)) e → IsCurrent cs (translates q ∷ operations) e
      at (stays s k) = later_too cs operations (translates q) e (current s e k u) (λ k l. refl)
      at (changes d k) = record {
        later = [];
        request = q;
        earlier = operations;
        when = refl;
        b = b;
        made = m;
        has_key = sym (ap key_of k);
        has_block = sym (ap (λ (x : Entry). x.block) k);
        same = λ k l. refl;
      }

  -- a write: an entry still in use was not touched, and so no halfword within its span was written
  written : (a n : ℕ) (cs' : Codes) → Writes a n (codes_after cs operations) cs'
      → AllCurrent cs (writes a n cs' ∷ operations) (drop_touched es a n)
  written a n cs' w slot e h u = at (is_dropped a n was.d) refl was.becomes
    where
      was : Was (λ d. cond (is_dropped a n d) (freed d) d) es slot e
      was = map_slot _ es slot e h

      at : (b : Bool) → is_dropped a n was.d ≡ b → cond b (freed was.d) was.d ≡ e → IsCurrent cs (writes a n cs' ∷ operations) e
      at true t k = absurd (true≢false (sym u ∙ sym (ap is_in_use k)))
      at false t k =
          let c = current slot e (was.there ∙ ap (λ (d : Entry). Some d) k) u in
          let pc : e.pc ≡ c.request.pc = ap (λ (x : Key). x.pc) c.has_key in
          let span : e.block.span ≡ c.b.span = ap (λ (x : NativeBlock). x.span) c.has_block in
          let t' : touches c.request.pc c.b.span a n ≡ false =
          ap (λ (x : ℕ). touches x c.b.span a n) (sym pc) ∙ ap (λ (x : ℕ). touches e.pc x a n) (sym span)
          ∙ not_touched a n e u (ap (is_dropped a n) (sym k) ∙ t)
          in
          later_too cs operations (writes a n cs') e c
          (unwritten c.request.pc c.b.span a n c.request.satp (codes_after cs operations) cs' t' w)

  emptied : AllCurrent cs (empties ∷ operations) (empty es)
  emptied slot e h u = let w = map_slot freed es slot e h in absurd (true≢false (sym u ∙ sym (ap is_in_use w.becomes)))

-- 3. The theorem

none_used : (es : List Entry) (slot : ℕ) (e : Entry) → list_any is_in_use es ≡ false → slice_get es slot ≡ Some e → is_in_use e ≡ false
none_used [] slot e n h = absurd (cc)
none_used (d ∷ es) zero e n h = let k : d ≡ e = cc in ap is_in_use (sym k) ∙ (or_parts (is_in_use d) (list_any is_in_use es) n).0
none_used (d ∷ es) (suc slot) e n h = none_used es slot e (or_parts (is_in_use d) (list_any is_in_use es) n).1 h

keep : (es : List Entry) (cs : Codes) (operations : List Operation) → list_any is_in_use es ≡ false → OnlyWrites cs operations
    → AllCurrent cs operations (after es cs operations)
keep es cs [] n w = λ slot e h u. absurd (true≢false (sym u ∙ none_used es slot e n h))
keep es cs (translates q ∷ earlier) n w =
    translated cs earlier (after es cs earlier) (keep es cs earlier n w) q (reply_to q (codes_after cs earlier)) refl
keep es cs (writes a m cs' ∷ earlier) n w = written cs earlier (after es cs earlier) (keep es cs earlier n w.1) a m cs' w.0
keep es cs (empties ∷ earlier) n w = emptied cs earlier (after es cs earlier) (keep es cs earlier n w)

pub keeps_spans : KeepsSpans
unfolding KeepsSpans
keeps_spans = keep
