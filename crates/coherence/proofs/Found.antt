-- A block that is found may be entered: it stands in an entry in use, which is current.
use Rattle.std.specs.Prelude.{Some, slice_get}
use Rattle.std.specs.List as Lists
use Rattle.std.proofs.Common.{◌≡◌, refl, sym, ap, ◌∙◌, subst, Bool, true, false, cond, List, [], ◌∷◌, ℕ, suc, ◌*◌, ◌≤◌, arith}
use Rattle.agreement.specs.Translation.Replies.{Block, Reply, Reply.block, Reply.refusal}
use Rattle.agreement.specs.Statement.Premises.{Unchanged}
use Rattle.agreement.specs.Statement.Kept.{Kept, Current}
use Rattle.agreement.specs.Statement.Machine.{reply}
use Rattle.entry.specs.Index.{key_of, holds}
use Rattle.entry.specs.declared.Key.{Key}
use Rattle.entry.specs.declared.Entry.{Entry}
use Rattle.entry.specs.declared.NativeBlock.{NativeBlock}
use Rattle.entry.proofs.LastShown.{held}
use Rattle.coherence.specs.Keeping.{Codes, Request, reply_to, Operation, codes_after, after, IsCurrent, KeepsSpans}
use Rattle.coherence.specs.Entering.{AskedOfCode, Enters, FoundMayBeEntered}
use Rattle.coherence.proofs.Kept.{keeps_spans}

record FoundIn (p : Entry → Bool) (es : List Entry) (e : Entry) : Type 0 where
  slot : ℕ
  there : slice_get es slot ≡ Some e
  passes : p e ≡ true

found_in : (p : Entry → Bool) (es : List Entry) (e : Entry) → Lists.find p es ≡ Some e → FoundIn p es e
found_in p [] e h = absurd (cc)
found_in p (d ∷ es) e h = at (p d) refl h (found_in p es e)
  where
    at : (b : Bool) → p d ≡ b → cond b (Some d) (Lists.find p es) ≡ Some e → (Lists.find p es ≡ Some e → FoundIn p es e)
        → FoundIn p (d ∷ es) e
    at true t k r = let q : d ≡ e = cc in record { slot = 0; there = k; passes = ap p (sym q) ∙ t }
    at false t k r = let f = r k in record { slot = suc f.slot; there = f.there; passes = f.passes }

-- the turn's reply is the request's
entered_reply : (q : Request) (those these : Codes) (k : Kept) → Enters q those these k → reply k.turn q.pc ≡ reply_to q those
entered_reply q those these k h = rw (h.limit, h.made, h.helper16, h.helper_mem, h.room) refl

module _ (cs : Codes) (operations : List Operation) (e : Entry) (c : IsCurrent cs operations e) (k : Kept)
    (h : Enters c.request (codes_after cs c.earlier) (codes_after cs operations) k) where
  its_block : (b : Block) → reply k.turn c.request.pc ≡ block b → c.b ≡ b
  its_block b m =
      let same : ◌≡◌ {A = Reply} (block c.b) (block b) =
      sym c.made ∙ sym (entered_reply c.request (codes_after cs c.earlier) (codes_after cs operations) k h) ∙ m in
      cc

  as_it_was : Unchanged k.turn c.request.pc
  as_it_was = λ r. rw (h.made, h.code, h.reach) refl

  may_enter : e.block.span ≤ 2 * k.reach → Current k c.request.pc
  may_enter reach = record {
    spanned = λ b m.
        let is : c.b ≡ b = its_block b m in
        rw (h.code, h.now, ← is) c.same;
    fetched = λ b m.
        let is : c.b ≡ b = its_block b m in
        let span : e.block.span ≡ b.span = ap (λ (x : NativeBlock). x.span) c.has_block ∙ ap (λ (x : Block). x.span) is in
        omega (arith, span, reach);
    refused = λ r m y.
        let same : ◌≡◌ {A = Reply} (block c.b) (refusal r) =
        sym c.made ∙ sym (entered_reply c.request (codes_after cs c.earlier) (codes_after cs operations) k h) ∙ m in
        absurd (let z : ◌≡◌ {A = ℕ} 0 1 = cc in omega arith);
  }

pub found_may_be_entered : FoundMayBeEntered
unfolding FoundMayBeEntered KeepsSpans
found_may_be_entered es cs operations n w j e f =
    let s = found_in (holds j) (after es cs operations) e f in
    let u = held j e s.passes in
    let c : IsCurrent cs operations e = keeps_spans es cs operations n w s.slot e s.there u.0 in
    let key : key_of e ≡ j = u.1 in
    let pc : c.request.pc ≡ j.pc = sym (ap (λ (x : Key). x.pc) c.has_key) ∙ ap (λ (x : Key). x.pc) key in
    record {
      current = c;
      under = sym (ap (λ (x : Key). x.satp) c.has_key) ∙ ap (λ (x : Key). x.satp) key;
      at = pc;
      enters = λ k h reach.
          subst (AskedOfCode k) pc (record { made = as_it_was cs operations e c k h; now = may_enter cs operations e c k h reach });
    }
