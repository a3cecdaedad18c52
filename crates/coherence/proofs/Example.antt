-- Two blocks are inserted, under two satps, and a write touches the second: what is left, computed, and the theorems applied to it.
use Rattle.std.proofs.Common.{◌≡◌, refl, sym, ap, ◌∙◌, Bool, true, false, cond, List, [], ◌∷◌, ◌++◌, ℕ, arith, eqb, eqb-true, length}
use Rattle.std.specs.Prelude.{Some}
use Rattle.agreement.specs.Riscv.Code.{run_at}
use Rattle.agreement.specs.Cases.{words}
use Rattle.agreement.proofs.Checks.CasesHold.{translations}
use Rattle.agreement.proofs.Laws.Runs.{held}
use Rattle.entry.specs.Index.{blank, touches}
use Rattle.entry.specs.declared.Entry.{Entry}
use Rattle.coherence.specs.Keeping.{Codes, Writes, Request, Operation, Operation.translates, Operation.writes, after, IsCurrent, KeepsSpans}
use Rattle.coherence.proofs.Kept.{keeps_spans}
use Rattle.coherence.proofs.Found.{found_may_be_entered}
use Rattle.coherence.specs.Entering.{AskedOfCode, Enters, MayBeEntered, FoundMayBeEntered}
use Rattle.coherence.specs.Keeping.{run_for, codes_after}
use Rattle.agreement.specs.Statement.Kept.{Kept}
use Rattle.agreement.specs.Statement.Machine.{Turn}
use Rattle.entry.specs.declared.Key.{Key}
use Rattle.entry.specs.declared.NativeBlock.{NativeBlock}

-- ADDI x1, x0, 5 and JAL x0, 0 from 0x80000000 on, whatever the satp
abbrev before : Codes
before satp = held 0x80000000 (words (0x00500093 ∷ 0x0000006F ∷ []))

-- the guest has written one byte, the last of JAL, which is now JAL x0, -1048576
abbrev behind : Codes
behind satp x = cond (eqb x 0x80000006) (Some 0x8000) (before satp x)

abbrev request : ℕ → ℕ → ℕ → Request
request satp pc offset = record {
  satp = satp;
  pc = pc;
  limit = 64;
  reach = 2;
  helper16 = 0;
  helper_mem = 0;
  room = 4099;
  offset = offset;
}

abbrev operations : List Operation
operations = writes 0x80000007 1 behind ∷ translates (request 2 0x80000004 88) ∷ translates (request 1 0x80000000 0) ∷ []

abbrev entry : ℕ → ℕ → ℕ → ℕ → ℕ → Entry
entry mark satp pc offset length =
    record { satp = satp; pc = pc; block = record { offset = offset; count = 1; length = length; span = 4 }; in_use = mark }

-- the second entry is free again, and nothing else of it has changed
left : after (blank ∷ blank ∷ []) before operations ≡ entry 1 1 0x80000000 0 88 ∷ entry 0 2 0x80000004 88 67 ∷ []
unfolding translations words run_at touches
left = refl

one_byte : Writes 0x80000007 1 before behind
one_byte satp x low first second = at (eqb x 0x80000006) refl
  where
    at : (b : Bool) → eqb x 0x80000006 ≡ b → cond b (Some 0x8000) (before satp x) ≡ before satp x
    at true e = let is : x ≡ 0x80000006 = eqb-true x 0x80000006 e in absurd (second 0 (omega arith) (omega (arith, is)))
    at false e = refl

-- and the first is current
first_current : IsCurrent before operations (entry 1 1 0x80000000 0 88)
unfolding translations words run_at touches KeepsSpans
first_current = keeps_spans (blank ∷ blank ∷ []) before operations refl (one_byte, tt) 0 (entry 1 1 0x80000000 0 88) refl refl

-- 2. What it says of that entry: it is of the second translation from the end, and of no other

its_request : (c : IsCurrent before operations (entry 1 1 0x80000000 0 88)) → c.request ≡ request 1 0x80000000 0
its_request c = at c.later c.when
  where
    satp : c.request.satp ≡ 1
    satp = sym (ap (λ (x : Key). x.satp) c.has_key)

    at : (later : List Operation) → operations ≡ later ++ (translates c.request ∷ c.earlier) → c.request ≡ request 1 0x80000000 0
    at [] e = absurd (let z : ◌≡◌ {A = ℕ} 0 1 = cc in omega arith)
    at (o ∷ []) e =
        let r : request 2 0x80000004 88 ≡ c.request = cc in
        let s : c.request.satp ≡ 2 = sym (ap (λ (x : Request). x.satp) r) in
        absurd (omega (arith, s, satp))
    at (o ∷ p ∷ []) e = let r : request 1 0x80000000 0 ≡ c.request = cc in sym r
    at (o ∷ p ∷ q ∷ []) e = absurd (let z : ◌≡◌ {A = ℕ} 0 1 = cc in omega arith)
    at (o ∷ p ∷ q ∷ r ∷ later) e = absurd (let z : ◌≡◌ {A = ℕ} 0 1 = cc in omega arith)

its_count : (c : IsCurrent before operations (entry 1 1 0x80000000 0 88)) → c.b.count ≡ 1
its_count c = sym (ap (λ (x : NativeBlock). x.count) c.has_block)

its_length : (c : IsCurrent before operations (entry 1 1 0x80000000 0 88)) → length c.b.code ≡ 88
its_length c = sym (ap (λ (x : NativeBlock). x.length) c.has_block)

-- 3. It is found, and there is a turn that enters it

-- with the code as it is, of which so many halfwords can be fetched
abbrev pub entering : Request → Codes → Codes → Turn → ℕ → Kept
entering q those these t reach = record {
  turn = record {
    limit = q.limit;
    made = run_for q those;
    code = those q.satp;
    reach = q.reach;
    helper16 = q.helper16;
    helper_mem = q.helper_mem;
    output = t.output;
    block = t.block;
    base = t.base;
    sp = t.sp;
    others = t.others;
    flags = t.flags;
    rest = t.rest;
    ok = t.ok;
    undefined = t.undefined;
    helper = t.helper;
  };
  now = these q.satp;
  reach = reach;
}

pub enters : (q : Request) (those these : Codes) (t : Turn) (reach : ℕ) → length t.output ≡ q.room
    → Enters q those these (entering q those these t reach)
enters q those these t reach h = record {
  limit = refl;
  made = refl;
  code = refl;
  reach = refl;
  helper16 = refl;
  helper_mem = refl;
  room = h;
  now = refl;
}

first_found : MayBeEntered before operations (record { satp = 1; pc = 0x80000000 }) (entry 1 1 0x80000000 0 88)
unfolding translations words run_at touches FoundMayBeEntered
first_found =
    found_may_be_entered (blank ∷ blank ∷ []) before operations refl (one_byte, tt) (record { satp = 1; pc = 0x80000000 })
    (entry 1 1 0x80000000 0 88) refl

may_be : (m : MayBeEntered before operations (record { satp = 1; pc = 0x80000000 }) (entry 1 1 0x80000000 0 88)) (t : Turn)
    → length t.output ≡ 4099
    → AskedOfCode (entering m.current.request (codes_after before m.current.earlier) behind t 2) 0x80000000
may_be m t h =
    m.enters _ (enters _ _ behind t 2 (h ∙ sym (ap (λ (x : Request). x.room) (its_request m.current)))) (omega arith)
