-- Kept blocks: the manual's run of the code as it is now, read for as many instructions as the block counts, is that of the code of which
-- the block was made.
use Rattle.std.proofs.Common.{◌≡◌, refl, sym, ap, ◌∙◌, subst, Bool, true, false, ◌||◌, true≢false, ◌≢◌, List, [], ◌∷◌, ℕ, ◌*◌, ◌%◌, ◌^◌, ◌≤◌, ◌<◌}
use Rattle.std.proofs.Common.{arith, min, length, take, eqb, ltb}
use Rattle.std.proofs.lemmas.Bool.{eqb-false}
use Rattle.agreement.specs.Common.{most_steps, greatest}
use Rattle.agreement.specs.Riscv.Code.{run_at}
use Rattle.agreement.specs.Riscv.Run.{Feed, GuestState, Read, Stop, Stop.plain, Stop.called, Registers, first_refused, manual, read_turn, reading, refused, run_of, settle, turn}
use Rattle.agreement.specs.Translation.Replies.{Block, Refusal, Reply.block, Reply.refusal, translate, walked}
use Rattle.agreement.specs.Translation.Walk.{counted}
use Rattle.agreement.specs.Statement.Machine.{RegisterBytes, Event, Event.rejected, Event.visited, Visit, reply, Turned, Turned.skip, Turned.visit}
use Rattle.agreement.specs.Statement.Premises.{Premises, Unchanged, rests_on_code}
use Rattle.agreement.specs.Statement.Agreement.{left_by, feed, feed_of, feeds, is_refused, start}
use Rattle.agreement.specs.Statement.Kept.{Kept, turns, Current, CurrentAlong, feed_now, feeds_now, refuses_now, ReadsAlike, AlongNow, AgreementOfKept}
use Rattle.agreement.specs.Laws.{Halfwords, Spans, SpansOf}
use Rattle.agreement.proofs.Laws.Runs.{front_alike, run_halfwords}
use Rattle.agreement.proofs.Laws.Spans.{Spanning, spanning}
use Rattle.agreement.proofs.Laws.Tests.{eqb_no}
use Rattle.agreement.proofs.Theorem.RefusedAlike.{IsWalk, is_walk, made_halfwords, refused_too}
use Rattle.agreement.proofs.Theorem.ManualRun.{turn_refused}
use Rattle.agreement.proofs.Theorem.TurnByTurn.{Led, SlotsAre, led}
use Rattle.agreement.proofs.Theorem.Agreement.{Result, nothing, manual-cons, one_more, Asked, split, from_start, x0_at_start}

-- 1. A turn goes where its reading goes, unless it is refused

abbrev goes_by : Feed → GuestState → Read → Bool → GuestState
goes_by f m r b = elim b [ true ↦ m | false ↦ settle f m r r.stop ]

same_turn : (f g : Feed) (m : GuestState) → refused f.limit m.pc (run_of f m) f.room ≡ refused g.limit m.pc (run_of g m) g.room
    → f.left ≡ g.left → read_turn f m ≡ read_turn g m → turn f m ≡ turn g m
unfolding turn settle
same_turn f g m a l r =
    ap (λ (b : Bool). goes_by f m (read_turn f m) b) a
    ∙ ap (λ (q : Read). goes_by f m q (refused g.limit m.pc (run_of g m) g.room)) r
    ∙ go (refused g.limit m.pc (run_of g m) g.room)
  where
    settled : (s : Stop) → settle f m (read_turn g m) s ≡ settle g m (read_turn g m) s
    settled plain = refl
    settled (called h i) = rw l refl

    go : (b : Bool) → goes_by f m (read_turn g m) b ≡ goes_by g m (read_turn g m) b
    go true = refl
    go false = settled (read_turn g m).stop

-- 2. The tests by which a turn is refused, one by one

record NotRefused (limit pc : ℕ) (hs : List ℕ) (room : ℕ) : Type 0 where
  limit_there : eqb limit 0 ≡ false
  even : eqb (pc % 2) 1 ≡ false
  taken : first_refused hs ≡ false
  enough : ltb room greatest ≡ false

neither : (a b : Bool) → (a || b) ≡ false → (a ≡ false) × (b ≡ false)
neither true b e = absurd (true≢false e)
neither false b e = (refl, e)

not_refused : (limit pc : ℕ) (hs : List ℕ) (room : ℕ) → refused limit pc hs room ≡ false → NotRefused limit pc hs room
unfolding refused
not_refused limit pc hs room e =
    let a = neither (eqb limit 0) (eqb (pc % 2) 1 || (first_refused hs || ltb room greatest)) e in
    let b = neither (eqb (pc % 2) 1) (first_refused hs || ltb room greatest) a.1 in
    let c = neither (first_refused hs) (ltb room greatest) b.1 in
    record { limit_there = a.0; even = b.0; taken = c.0; enough = c.1 }

accepted : (limit pc : ℕ) (hs : List ℕ) (room : ℕ) → NotRefused limit pc hs room → refused limit pc hs room ≡ false
unfolding refused
accepted limit pc hs room a = rw (a.limit_there, a.even, a.taken) a.enough

-- 3. A block, and what it spans

-- the run has the same as the one of which the block was made, in the bytes that the block spans
abbrev SameFront : Block → List ℕ → List ℕ → Type 0
SameFront b hs made = (n : ℕ) → b.span ≡ 2 * n → n ≤ length made → take n hs ≡ take n made

module _ (pc limit : ℕ) (made : List ℕ) (helper16 helper_mem room : ℕ) (b : Block)
    (e : translate pc limit made helper16 helper_mem room ≡ block b) (h : Halfwords made) where
  was : IsWalk pc limit made helper16 helper_mem room b
  was = is_walk pc limit made helper16 helper_mem room b h e

  read_of : Spanning (min limit most_steps) pc made (walked pc limit made)
  read_of = spanning (min limit most_steps) pc made h

  abbrev count : ℕ
  count = counted (walked pc limit made).end (walked pc limit made).added

  count_is : b.count ≡ count
  count_is = ap (λ (x : Block). x.count) was.is

  span_is : b.span ≡ 2 * read_of.halfwords
  span_is = ap (λ (x : Block). x.span) was.is ∙ read_of.is

  begun : count ≢ 0
  begun =
      let r = not_refused limit pc made room was.accepted in
      let some : limit ≢ 0 = eqb-false limit 0 r.limit_there in
      read_of.begins (λ z. some (omega (arith, z))) r.taken

  bounds : SpansOf made b
  bounds = record {
    low = omega (arith, span_is, read_of.least, begun);
    high = omega (arith, span_is, read_of.most, read_of.few);
    even = omega (arith, span_is);
    least = omega (arith, span_is, count_is, read_of.least);
    most = omega (arith, span_is, count_is, read_of.most);
    there = omega (arith, span_is, read_of.within);
  }

  -- a run that has the same in the span is read alike, for as many instructions as the block counts
  module _ (hs : List ℕ) (f : SameFront b hs made) where
    front : take read_of.halfwords hs ≡ take read_of.halfwords made
    front = f read_of.halfwords span_is read_of.within

    reads_again : (x : Registers) → reading (min b.count most_steps) pc hs x ≡ reading (min limit most_steps) pc made x
    reads_again x =
        let few : min count most_steps ≡ count = omega (arith, read_of.few) in
        rw (count_is, few) (read_of.reads hs x front)

    accepted_again : refused b.count pc hs room ≡ false
    accepted_again =
        let r = not_refused limit pc made room was.accepted in
        accepted b.count pc hs room (record {
          limit_there = rw count_is (eqb_no count 0 begun);
          even = r.even;
          taken = read_of.accepts hs begun front;
          enough = r.enough;
        })

pub spans : Spans
unfolding Spans
spans start limit hs helper16 helper_mem room b h e = bounds start limit hs helper16 helper_mem room b e h

-- 4. One turn

module _ (k : Kept) (m : GuestState) (low : m.pc < 2 ^ 64) (un : Unchanged k.turn m.pc) (current : Current k m.pc) where
  -- the run that the code has now
  abbrev hs : List ℕ
  hs = run_at k.now m.pc k.reach

  -- what was read of the code of which the block was made is there to be read
  entered : (b : Block) (v : Visit) → reply k.turn m.pc ≡ block b → ReadsAlike k (visited m.pc b.count v) m
  unfolding feed feed_of feed_now refuses_now
  entered b v e = record { refuses = refuses; reads = λ y. reads; goes = same_turn _ _ m refuses refl reads }
    where
      made : k.turn.made ≡ run_at k.turn.code m.pc k.turn.reach
      made = un (ap rests_on_code e)

      h : Halfwords k.turn.made
      h = made_halfwords k.turn m.pc made

      front : SameFront b hs k.turn.made
      front n is within =
          let there : n ≤ length (run_at k.turn.code m.pc k.turn.reach) = rw (← made) within in
          front_alike k.turn.code k.now m.pc n k.turn.reach k.reach low there (omega (arith, is, current.fetched b e))
          (rw is at (current.spanned b e))
          ∙ ap (take n) (sym made)

      reads : read_turn (feed_now k (visited m.pc b.count v)) m ≡ read_turn (feed k.turn (visited m.pc b.count v)) m
      reads =
          reads_again m.pc k.turn.limit k.turn.made k.turn.helper16 k.turn.helper_mem (length k.turn.output) b e h hs front m.registers
          ∙ ap (λ (l : List ℕ). reading (min k.turn.limit most_steps) m.pc l m.registers) made

      taken_now : refused b.count m.pc hs (length k.turn.output) ≡ false
      taken_now =
          accepted_again m.pc k.turn.limit k.turn.made k.turn.helper16 k.turn.helper_mem (length k.turn.output) b e h hs front

      taken : refused k.turn.limit m.pc (run_at k.turn.code m.pc k.turn.reach) (length k.turn.output) ≡ false
      taken = rw (← made) (was m.pc k.turn.limit k.turn.made k.turn.helper16 k.turn.helper_mem (length k.turn.output) b e h).accepted

      refuses : refused b.count m.pc hs (length k.turn.output) ≡ is_refused k.turn m
      refuses = taken_now ∙ sym taken

  -- a refused turn is refused by the run of the code as it is now, and reads that where it rests on it
  skipped : (r : Refusal) → reply k.turn m.pc ≡ refusal r → ReadsAlike k (rejected m.pc r) m
  unfolding feed feed_of feed_now left_by refuses_now
  skipped r e = record { refuses = now ∙ sym then; reads = reads; goes = turn_refused _ m now ∙ sym (turn_refused _ m then) }
    where
      made_now : rests_on_code (reply k.turn m.pc) ≡ true → k.turn.made ≡ hs
      made_now y = current.refused r e (sym (ap rests_on_code e) ∙ y)

      now : refused k.turn.limit m.pc hs (length k.turn.output) ≡ true
      now =
          refused_too m.pc k.turn.limit k.turn.made k.turn.helper16 k.turn.helper_mem (length k.turn.output) r e hs made_now
          (run_halfwords k.now m.pc k.reach)

      then : is_refused k.turn m ≡ true
      then =
          refused_too m.pc k.turn.limit k.turn.made k.turn.helper16 k.turn.helper_mem (length k.turn.output) r e
          (run_at k.turn.code m.pc k.turn.reach) un (run_halfwords k.turn.code m.pc k.turn.reach)

      reads : rests_on_code (reply k.turn m.pc) ≡ true
          → read_turn (feed_now k (rejected m.pc r)) m ≡ read_turn (feed k.turn (rejected m.pc r)) m
      reads y =
          let same : hs ≡ run_at k.turn.code m.pc k.turn.reach = sym (made_now y) ∙ un y in
          rw same refl

  alike : {ev : Event} {pc' : ℕ} {rb rb' : RegisterBytes} → Turned m.pc rb k.turn ev pc' rb' → ReadsAlike k ev m
  alike (skip {r} e) = skipped r e
  alike (visit {b} {v} e w) = entered b v e

-- 5. The list

record ResultNow (m : GuestState) (rb : RegisterBytes) (ks : List Kept) : Type 0 where
  result : Result m rb (turns ks)
  along : AlongNow m ks result.events
  at_end : manual (feeds_now ks result.events) m ≡ manual (feeds (turns ks) result.events) m

-- the list agrees from every start
abbrev AgreesFrom : List Kept → Type 0
AgreesFrom ks = (m : GuestState) (rb : RegisterBytes) → Premises m.pc rb (turns ks) → CurrentAlong m.pc rb ks → m.pc < 2 ^ 64
    → SlotsAre rb m → m.registers 0 ≡ 0 → ResultNow m rb ks

-- what is asked of the code at the first turn, and at the others after it
abbrev AskedNow : ℕ → RegisterBytes → Kept → List Kept → Type 0
AskedNow pc rb k ks =
    Current k pc × ((e : Event) (pc' : ℕ) (rb' : RegisterBytes) → Turned pc rb k.turn e pc' rb' → CurrentAlong pc' rb' ks)

asked_now : (pc : ℕ) (rb : RegisterBytes) (k : Kept) (ks : List Kept) → CurrentAlong pc rb (k ∷ ks) → AskedNow pc rb k ks
unfolding CurrentAlong
asked_now pc rb k ks h = h

along_cons : (k : Kept) (ks : List Kept) (e : Event) (es : List Event) (m : GuestState)
    → ReadsAlike k e m → AlongNow (turn (feed_now k e) m) ks es → AlongNow m (k ∷ ks) (e ∷ es)
unfolding AlongNow
along_cons k ks e es m a r = (a, r)

manual_cons : (k : Kept) (ks : List Kept) (e : Event) (es : List Event) (m : GuestState)
    → manual (feeds_now (k ∷ ks) (e ∷ es)) m ≡ manual (feeds_now ks es) (turn (feed_now k e) m)
unfolding manual feeds_now
manual_cons k ks e es m = refl

list : (ks : List Kept) → AgreesFrom ks
unfolding turns manual feeds feeds_now AlongNow nothing one_more
list [] m rb g c low sl z = record { result = nothing m rb sl z; along = tt; at_end = refl }
list (k ∷ ks) m rb g c low sl z = go (list ks)
  where
    asked : Asked m.pc rb k.turn (turns ks)
    asked = split m.pc rb k.turn (turns ks) g

    now : AskedNow m.pc rb k ks
    now = asked_now m.pc rb k ks c

    l : Led k.turn m rb
    l = led k.turn m rb asked.0 asked.1 asked.2 low sl z

    r : ReadsAlike k l.e m
    r = alike k m low asked.1 now.0 l.turned

    premises : Premises l.m2.pc l.rb' (turns ks)
    premises = subst (λ (x : ℕ). Premises x l.rb' (turns ks)) l.pcs (asked.3 l.e l.pc' l.rb' l.turned)

    current : CurrentAlong l.m2.pc l.rb' ks
    current = subst (λ (x : ℕ). CurrentAlong x l.rb' ks) l.pcs (now.1 l.e l.pc' l.rb' l.turned)

    go : AgreesFrom ks → ResultNow m rb (k ∷ ks)
    go rest =
        let s = rest l.m2 l.rb' premises current l.low l.slots l.x0 in
        record {
          result = one_more k.turn (turns ks) m rb l s.result;
          along = along_cons k ks l.e s.result.events m r (rw (r.goes ∙ l.is) s.along);
          at_end =
              manual_cons k ks l.e s.result.events m ∙ ap (manual (feeds_now ks s.result.events)) (r.goes ∙ l.is) ∙ s.at_end
              ∙ sym (manual-cons k.turn (turns ks) l.e s.result.events m ∙ ap (manual (feeds (turns ks) s.result.events)) l.is);
        }

pub agreement_of_kept : AgreementOfKept
unfolding AgreementOfKept from_start
agreement_of_kept pc rb ks low z g c =
    let r = list ks (start pc rb) rb g c (omega (arith, low)) (λ i l. refl) (x0_at_start pc rb z) in
    record { agrees = from_start pc rb (turns ks) r.result; along = r.along; at_end = r.at_end }
