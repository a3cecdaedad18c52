-- The history of an index: what find shows after each operation, that keys stay apart, and the theorem by induction over the list.
use Rattle.std.specs.Prelude.{Option, Some, None, slice_get}
use Rattle.std.specs.List.{list_any, position_or_len}
use Rattle.std.specs.List as Lists
use Rattle.std.proofs.Common.{◌≡◌, refl, sym, ap, ◌∙◌, subst, Bool, true, false, not, cond, ◌&&◌, ◌||◌, true≢false, List, [], ◌∷◌, ℕ, zero, suc}
use Rattle.std.proofs.Common.{eqb, eqb-true, eq-eqb, ne_eqb}
use Rattle.std.proofs.Math.Bool.{and-false}
use borrow.Author.Tests.{eqb-false}
use Rattle.entry.specs.Index.{free, is_in_use, key_of, keyed, holds, over_first, find, taken, mark_of, renewed, insert, insert_answer, empty}
use Rattle.entry.specs.Index.{freed, touches, is_dropped, drop_touched}
use Rattle.entry.specs.History.{Event, Event.inserted, Event.refused, Event.emptied, Event.dropped, last, unless_touched, Operation, Operation.inserts}
use Rattle.entry.specs.History.{Operation.empties, Operation.drops, after, outcome, events, showing, Distinct, ShowsLast, History}
use Rattle.entry.specs.declared.Key.{Key}
use Rattle.entry.specs.declared.Entry.{Entry}
use Rattle.entry.specs.declared.NativeBlock.{NativeBlock}
use Rattle.entry.proofs.Scans.{found_none, over_none, changed, over_found, over_alone, over_other}

-- 1. Keys

abbrev same : Key → Key → Bool
same j k = eqb j.satp k.satp && eqb j.pc k.pc

both_hold : (a b : Bool) → (a && b) ≡ true → (a ≡ true) × (b ≡ true)
both_hold true b e = (refl, e)
both_hold false b e = absurd (true≢false (sym e))

equal_keys : (j k : Key) → same j k ≡ true → j ≡ k
equal_keys j k h =
    let b = both_hold (eqb j.satp k.satp) (eqb j.pc k.pc) h in
    let s : j.satp ≡ k.satp = eqb-true j.satp k.satp b.0 in
    let c : j.pc ≡ k.pc = eqb-true j.pc k.pc b.1 in
    ap (λ (n : ℕ). let k' : Key = record { satp = n; pc = j.pc } in k') s
    ∙ ap (λ (n : ℕ). let k' : Key = record { satp = k.satp; pc = n } in k') c

pub held : (k : Key) (e : Entry) → holds k e ≡ true → (is_in_use e ≡ true) × (key_of e ≡ k)
held k e h =
    let b = both_hold (is_in_use e) (keyed k e) h in
    (b.0, equal_keys (key_of e) k b.1)

holding : (k : Key) (e : Entry) → is_in_use e ≡ true → key_of e ≡ k → holds k e ≡ true
holding k e u i =
    subst (λ (j : Key). holds j e ≡ true) i (rw (u, eq-eqb e.satp e.satp refl, eq-eqb e.pc e.pc refl))

not_keyed : (k : Key) (e : Entry) → keyed k e ≡ false → holds k e ≡ false
not_keyed k e h = ap (λ (t : Bool). is_in_use e && t) h ∙ and-false (is_in_use e)

-- an entry that holds one key does not hold another
other_key : (j k : Key) (e : Entry) → same j k ≡ false → holds j e ≡ true → holds k e ≡ false
other_key j k e n h = not_keyed k e (ap (λ (i : Key). same i k) (held j e h).1 ∙ n)

-- nor does a free one
free_key : (k : Key) (e : Entry) → free e ≡ true → holds k e ≡ false
free_key k e f = ap (λ (t : Bool). not t && keyed k e) f

-- 2. Marks: an entry that was inserted is in use, and where every mark is 0 or 1 it has the mark 1

mark_not_0 : (e : Entry) → eqb (mark_of e) 0 ≡ false
mark_not_0 e = at (free e) refl
  where
    at : (f : Bool) → free e ≡ f → eqb (cond f 1 e.in_use) 0 ≡ false
    at true h = refl
    at false h = h

module _ (k : Key) (b : NativeBlock) where
  renewed-holds : (e : Entry) → holds k (renewed k b e) ≡ true
  renewed-holds e = holding k (renewed k b e) (ap not (mark_not_0 e)) refl

  renewed_other : (j : Key) → same k j ≡ false → (e : Entry) → holds j (renewed k b e) ≡ false
  renewed_other j n e = not_keyed j (renewed k b e) n

-- every mark is 0 or 1
abbrev pub Marks : List Entry → Type 0
Marks [] = Unit {0}
Marks (e ∷ es) = (mark_of e ≡ 1) × Marks es

marks_over : (p : Entry → Bool) (k : Key) (b : NativeBlock) (es : List Entry) → Marks es → Marks (over_first p (renewed k b) es)
marks_over p k b [] h = tt
marks_over p k b (e ∷ es) h = at (p e) (marks_over p k b es h.1)
  where
    at : (t : Bool) → Marks (over_first p (renewed k b) es)
        → Marks (cond t (renewed k b e ∷ es) (e ∷ over_first p (renewed k b) es))
    at true i = (ap (λ (m : ℕ). cond (eqb m 0) 1 m) h.0, h.1)
    at false i = (h.0, i)

marks_drop : (es : List Entry) (a n : ℕ) → Marks es → Marks (drop_touched es a n)
marks_drop [] a n h = tt
marks_drop (e ∷ es) a n h = at (is_dropped a n e) (marks_drop es a n h.1)
  where
    at : (t : Bool) → Marks (drop_touched es a n) → Marks (cond t (freed e) e ∷ drop_touched es a n)
    at true i = (refl, i)
    at false i = (h.0, i)

marks_empty : (es : List Entry) → Marks (empty es)
marks_empty [] = tt
marks_empty (e ∷ es) = (refl, marks_empty es)

-- the entry that is taken, renewed
renewed-first : (p : Entry → Bool) (k : Key) (b : NativeBlock) (es : List Entry) → Marks es → list_any p es ≡ true
    → changed (renewed k b) (Lists.find p es) ≡ showing k (Some b)
renewed-first p k b [] h n = absurd (true≢false (sym n))
renewed-first p k b (e ∷ es) h n = at (p e) n (renewed-first p k b es h.1)
  where
    at : (t : Bool) → (t || list_any p es) ≡ true
        → (list_any p es ≡ true → changed (renewed k b) (Lists.find p es) ≡ showing k (Some b))
        → changed (renewed k b) (cond t (Some e) (Lists.find p es)) ≡ showing k (Some b)
    at true n' i = ap (λ (m : ℕ). Some (record { satp = k.satp; pc = k.pc; block = b; in_use = m })) h.0
    at false n' i = i n'

-- 3. What find shows after each operation

module _ (es : List Entry) (k : Key) (b : NativeBlock) where
  -- the inserted key shows the entry that was taken, renewed
  find_inserted : find (insert es k b) k ≡ changed (renewed k b) (Lists.find (taken es k) es)
  find_inserted = at (list_any (holds k) es) refl
    where
      at : (t : Bool) → list_any (holds k) es ≡ t
          → Lists.find (holds k) (over_first (cond t (holds k) free) (renewed k b) es)
          ≡ changed (renewed k b) (Lists.find (cond t (holds k) free) es)
      at true h = over_found (holds k) (renewed k b) es (renewed-holds k b)
      at false h = over_alone (holds k) free (renewed k b) es h (renewed-holds k b)

  -- another key shows what it did
  find_other : (j : Key) → same k j ≡ false → find (insert es k b) j ≡ find es j
  find_other j n = over_other (holds j) (taken es k) (renewed k b) es (renewed_other k b j n) (at (list_any (holds k) es))
    where
      at : (t : Bool) (e : Entry) → cond t (holds k) free e ≡ true → holds j e ≡ false
      at true e h = other_key k j e n h
      at false e h = free_key j e h

find-empty : (es : List Entry) (k : Key) → find (empty es) k ≡ None
find-empty [] k = refl
find-empty (e ∷ es) k = find-empty es k

-- 8 is the number of an insert for which no entry is taken
pub refused_is : (es : List Entry) (k : Key) → eqb (insert_answer es k).0 8 ≡ not (list_any (taken es k) es)
refused_is es k = at (list_any (taken es k) es)
  where
    at : (t : Bool) → eqb (cond {A = ℕ × List ℕ} t (0, position_or_len (taken es k) es ∷ []) (8, [])).0 8 ≡ not t
    at true = refl
    at false = refl

module _ (es : List Entry) (k : Key) (b : NativeBlock) (happened : List Event) (j : Key)
    (marks : Marks es) (so_far : find es j ≡ showing j (last happened j)) where
  inserted_shows : (s : Bool) → same k j ≡ s → list_any (taken es k) es ≡ true
      → find (insert es k b) j ≡ showing j (cond s (Some b) (last happened j))
  inserted_shows true s t =
      subst (λ (i : Key). find (insert es k b) i ≡ showing i (Some b)) (equal_keys k j s)
      (find_inserted es k b ∙ renewed-first (taken es k) k b es marks t)
  inserted_shows false s t = find_other es k b j s ∙ so_far

  -- a refused insert shows what was shown before, and another shows its block
  insert_shows : find (insert es k b) j ≡ showing j (last (outcome (insert_answer es k) k b ∷ happened) j)
  insert_shows =
      at (list_any (taken es k) es) refl
      ∙ sym (ap (λ (r : Bool). showing j (last (cond r refused (inserted k b) ∷ happened) j)) (refused_is es k))
    where
      at : (t : Bool) → list_any (taken es k) es ≡ t
          → find (insert es k b) j ≡ showing j (last (cond (not t) refused (inserted k b) ∷ happened) j)
      at true t = inserted_shows (same k j) refl t
      at false t = ap (λ (l : List Entry). find l j) (over_none (taken es k) (renewed k b) es t) ∙ so_far

-- 4. Keys stay apart: no key stands in two entries in use, entry by entry

abbrev pub Apart : List Entry → Type 0
Apart [] = Unit {0}
Apart (e ∷ es) = (is_in_use e ≡ true → find es (key_of e) ≡ None) × Apart es

eqb_sym : (m n : ℕ) → eqb m n ≡ eqb n m
eqb_sym m n = at (eqb n m) refl
  where
    at : (b : Bool) → eqb n m ≡ b → eqb m n ≡ b
    at true e = eq-eqb m n (sym (eqb-true n m e))
    at false e = ne_eqb m n (λ h. eqb-false n m e (sym h))

unkeyed : (k : Key) (e : Entry) → is_in_use e ≡ true → holds k e ≡ false → same k (key_of e) ≡ false
unkeyed k e u h = rw (eqb_sym k.satp e.satp, eqb_sym k.pc e.pc) (sym (ap (λ (t : Bool). t && keyed k e) u) ∙ h)

module _ (k : Key) (b : NativeBlock) where
  -- beside the renewed entry stands one that does not hold its key
  apart_beside : (p : Entry → Bool) (e : Entry) (es : List Entry) → is_in_use e ≡ true → holds k e ≡ false
      → ((f : Entry) → p f ≡ true → (j : Key) → same k j ≡ false → holds j f ≡ false)
      → find es (key_of e) ≡ None → find (over_first p (renewed k b) es) (key_of e) ≡ None
  apart_beside p e es u n o h =
      let d = unkeyed k e u n in
      over_other (holds (key_of e)) p (renewed k b) es (renewed_other k b (key_of e) d) (λ f t. o f t (key_of e) d) ∙ h

  apart_over : (es : List Entry) → Apart es → Apart (over_first (holds k) (renewed k b) es)
  apart_over [] h = tt
  apart_over (e ∷ es) h = at (holds k e) refl (apart_over es h.1)
    where
      at : (t : Bool) → holds k e ≡ t → Apart (over_first (holds k) (renewed k b) es)
          → Apart (cond t (renewed k b e ∷ es) (e ∷ over_first (holds k) (renewed k b) es))
      at true n i =
          let d = held k e n in
          ((λ u. subst (λ (j : Key). find es j ≡ None) d.1 (h.0 d.0)), h.1)
      at false n i = ((λ u. apart_beside (holds k) e es u n (λ f t j d. other_key k j f d t) (h.0 u)), i)

  apart_free : (es : List Entry) → list_any (holds k) es ≡ false → Apart es → Apart (over_first free (renewed k b) es)
  apart_free [] n h = tt
  apart_free (e ∷ es) n h = at (free e) (holds k e) refl n (λ m. apart_free es m h.1)
    where
      at : (t s : Bool) → holds k e ≡ s → (s || list_any (holds k) es) ≡ false
          → (list_any (holds k) es ≡ false → Apart (over_first free (renewed k b) es))
          → Apart (cond t (renewed k b e ∷ es) (e ∷ over_first free (renewed k b) es))
      at t true s m i = absurd (true≢false m)
      at true false s m i = ((λ u. found_none (holds k) es m), h.1)
      at false false s m i = ((λ u. apart_beside free e es u s (λ f t j d. free_key j f t) (h.0 u)), i m)

  apart_insert : (es : List Entry) → Apart es → Apart (insert es k b)
  apart_insert es h = at (list_any (holds k) es) refl
    where
      at : (t : Bool) → list_any (holds k) es ≡ t → Apart (over_first (cond t (holds k) free) (renewed k b) es)
      at true n = apart_over es h
      at false n = apart_free es n h

apart_empty : (es : List Entry) → Apart (empty es)
apart_empty [] = tt
apart_empty (e ∷ es) = ((λ u. absurd (true≢false (sym u))), apart_empty es)

-- what a drop leaves of what was found; here it counts that keys stand apart: behind the first of two, which goes, the second would be
-- found
abbrev unless_dropped : ℕ → ℕ → Option Entry → Option Entry
unless_dropped a n None = None
unless_dropped a n (Some e) = cond (is_dropped a n e) None (Some e)

find_dropped : (es : List Entry) (a n : ℕ) (k : Key) → Apart es → find (drop_touched es a n) k ≡ unless_dropped a n (find es k)
find_dropped [] a n k h = refl
find_dropped (e ∷ es) a n k h = at (is_dropped a n e) (holds k e) refl refl (find_dropped es a n k h.1)
  where
    at : (t s : Bool) → is_dropped a n e ≡ t → holds k e ≡ s → find (drop_touched es a n) k ≡ unless_dropped a n (find es k)
        → find (cond t (freed e) e ∷ drop_touched es a n) k ≡ unless_dropped a n (cond s (Some e) (find es k))
    at true true f g i =
        let d = held k e g in
        let alone : find es k ≡ None = subst (λ (j : Key). find es j ≡ None) d.1 (h.0 d.0) in
        rw f (i ∙ ap (unless_dropped a n) alone)
    at true false f g i = i
    at false true f g i = rw (f, g)
    at false false f g i = rw g i

apart_drop : (es : List Entry) (a n : ℕ) → Apart es → Apart (drop_touched es a n)
apart_drop [] a n h = tt
apart_drop (e ∷ es) a n h = at (is_dropped a n e) (apart_drop es a n h.1)
  where
    at : (t : Bool) → Apart (drop_touched es a n) → Apart (cond t (freed e) e ∷ drop_touched es a n)
    at true i = ((λ u. absurd (true≢false (sym u))), i)
    at false i = ((λ u. find_dropped es a n (key_of e) h.1 ∙ ap (unless_dropped a n) (h.0 u)), i)

-- an entry with the mark 1 that shows a block is dropped where the write touches the bytes that the block spans
drop_shows : (k : Key) (a n : ℕ) (o : Option NativeBlock) → unless_dropped a n (showing k o) ≡ showing k (unless_touched k a n o)
drop_shows k a n None = refl
drop_shows k a n (Some b) = at (touches k.pc b.span a n)
  where
    at : (t : Bool) → cond t None (showing k (Some b)) ≡ showing k (cond t None (Some b))
    at true = refl
    at false = refl

-- an entry in use is found by its key
found : (es : List Entry) (i : ℕ) (f : Entry) → slice_get es i ≡ Some f → is_in_use f ≡ true → find es (key_of f) ≡ None → ⊥
found [] i f h u n = cc
found (e ∷ es) zero f h u n =
    let g : e ≡ f = cc in
    let k : holds (key_of f) e ≡ true = ap (holds (key_of f)) g ∙ holding (key_of f) f u refl in
    let m : Some e ≡ None = sym (ap (λ (t : Bool). cond t (Some e) (find es (key_of f))) k) ∙ n in
    cc
found (e ∷ es) (suc i) f h u n = at (holds (key_of f) e) n (found es i f h u)
  where
    at : (b : Bool) → cond b (Some e) (find es (key_of f)) ≡ None → (find es (key_of f) ≡ None → ⊥) → ⊥
    at true m r = cc
    at false m r = r m

-- the head's key is in no entry in use behind it
no_second : (e f g : Entry) (es : List Entry) (i : ℕ) → (is_in_use g ≡ true → find es (key_of g) ≡ None)
    → Some g ≡ Some e → slice_get es i ≡ Some f → is_in_use e ≡ true → is_in_use f ≡ true → key_of e ≡ key_of f → ⊥
no_second e f g es i h s at_i u v k =
    let d : g ≡ e = cc in
    found es i f at_i v
    (subst (λ (j : Key). find es j ≡ None) (ap key_of d ∙ k) (h (ap is_in_use d ∙ u)))

one_key : (e f : Entry) → e.satp ≡ f.satp → e.pc ≡ f.pc → key_of e ≡ key_of f
one_key e f s c =
    equal_keys (key_of e) (key_of f) (rw (eq-eqb e.satp f.satp s, eq-eqb e.pc f.pc c))

pub keys_distinct : (es : List Entry) → Apart es → Distinct es
keys_distinct [] h i j e f at_i at_j u v s c = absurd (cc)
keys_distinct (g ∷ es) h zero zero e f at_i at_j u v s c = refl
keys_distinct (g ∷ es) h zero (suc j) e f at_i at_j u v s c = absurd (no_second e f g es j h.0 at_i at_j u v (one_key e f s c))
keys_distinct (g ∷ es) h (suc i) zero e f at_i at_j u v s c = absurd (no_second f e g es i h.0 at_j at_i v u (sym (one_key e f s c)))
keys_distinct (g ∷ es) h (suc i) (suc j) e f at_i at_j u v s c = ap suc (keys_distinct es h.1 i j e f at_i at_j u v s c)

-- 5. What every operation keeps

pub record Preserved (es : List Entry) (happened : List Event) : Type 0 where
  pub marks : Marks es
  pub apart : Apart es
  pub shows : (k : Key) → find es k ≡ showing k (last happened k)

pub preserved_start : (es : List Entry) → list_any is_in_use es ≡ false → Preserved es []
preserved_start es h = record { marks = marks es h; apart = apart es h; shows = λ k. shows es k h }
  where
    marks : (l : List Entry) → list_any is_in_use l ≡ false → Marks l
    marks [] n = tt
    marks (e ∷ l) n = at (free e) n (marks l)
      where
        at : (t : Bool) → (not t || list_any is_in_use l) ≡ false → (list_any is_in_use l ≡ false → Marks l)
            → (cond t 1 e.in_use ≡ 1) × Marks l
        at true m i = (refl, i m)
        at false m i = absurd (true≢false m)

    apart : (l : List Entry) → list_any is_in_use l ≡ false → Apart l
    apart [] n = tt
    apart (e ∷ l) n = at (is_in_use e) n (apart l)
      where
        at : (t : Bool) → (t || list_any is_in_use l) ≡ false → (list_any is_in_use l ≡ false → Apart l)
            → (t ≡ true → find l (key_of e) ≡ None) × Apart l
        at true m i = absurd (true≢false m)
        at false m i = ((λ u. absurd (true≢false (sym u))), i m)

    shows : (l : List Entry) (k : Key) → list_any is_in_use l ≡ false → find l k ≡ None
    shows [] k n = refl
    shows (e ∷ l) k n = at (is_in_use e) n (shows l k)
      where
        at : (t : Bool) → (t || list_any is_in_use l) ≡ false → (list_any is_in_use l ≡ false → find l k ≡ None)
            → cond (t && keyed k e) (Some e) (find l k) ≡ None
        at true m i = absurd (true≢false m)
        at false m i = i m

module _ (es : List Entry) (happened : List Event) (p : Preserved es happened) where
  pub preserved_insert : (k : Key) (b : NativeBlock) → Preserved (insert es k b) (outcome (insert_answer es k) k b ∷ happened)
  preserved_insert k b = record {
    marks = marks_over (taken es k) k b es p.marks;
    apart = apart_insert k b es p.apart;
    shows = λ j. insert_shows es k b happened j p.marks (p.shows j);
  }

  pub preserved_empty : Preserved (empty es) (emptied ∷ happened)
  preserved_empty = record { marks = marks_empty es; apart = apart_empty es; shows = find-empty es }

  pub preserved_drop : (a n : ℕ) → Preserved (drop_touched es a n) (dropped a n ∷ happened)
  preserved_drop a n = record {
    marks = marks_drop es a n p.marks;
    apart = apart_drop es a n p.apart;
    shows = λ k. find_dropped es a n k p.apart ∙ ap (unless_dropped a n) (p.shows k) ∙ drop_shows k a n (last happened k);
  }

pub shows_last : (es : List Entry) (happened : List Event) → Preserved es happened → ShowsLast es happened
shows_last es happened p = record { shows = p.shows; distinct = keys_distinct es p.apart }

-- 6. The theorem

preserved_after : (es : List Entry) (operations : List Operation) → list_any is_in_use es ≡ false
    → Preserved (after es operations) (events es operations)
preserved_after es [] h = preserved_start es h
preserved_after es (inserts k b ∷ earlier) h =
    preserved_insert (after es earlier) (events es earlier) (preserved_after es earlier h) k b
preserved_after es (empties ∷ earlier) h = preserved_empty (after es earlier) (events es earlier) (preserved_after es earlier h)
preserved_after es (drops a n ∷ earlier) h = preserved_drop (after es earlier) (events es earlier) (preserved_after es earlier h) a n

pub history : History
unfolding History
history es operations h = shows_last (after es operations) (events es operations) (preserved_after es operations h)
