-- The theorems applied to a longer list of operations, of definitions and code: three blocks under three satps, one of which goes on at
-- address 0; a refused translation; writes of none, 1, 2 and 8 bytes, that change all they may; an emptying, and translations behind it.
use Rattle.std.specs.Prelude.{Some, slice_get}
use Rattle.std.proofs.Common.{◌≡◌, refl, sym, ap, ◌∙◌, Bool, true, false, cond, ◌||◌, List, [], ◌∷◌, ◌++◌, ℕ, ◌-◌, ◌^◌, arith, eqb, eqb-true}
use Rattle.std.proofs.Common.{length, subst}
use Rattle.agreement.specs.Riscv.Code.{Code, SameIn, run_at}
use Rattle.agreement.specs.Translation.Replies.{Reply.block}
use Rattle.agreement.specs.Cases.{words}
use Rattle.agreement.proofs.Checks.CasesHold.{translations}
use Rattle.agreement.proofs.Laws.Runs.{held}
use Rattle.agreement.specs.Statement.Kept.{Kept, Current}
use Rattle.agreement.specs.Statement.Machine.{Turn}
use Rattle.agreement.specs.Statement.Premises.{Unchanged}
use Rattle.entry.specs.Index.{blank, find, touches}
use Rattle.entry.specs.declared.Entry.{Entry}
use Rattle.entry.specs.declared.Key.{Key}
use Rattle.entry.specs.declared.NativeBlock.{NativeBlock}
use Rattle.entry.proofs.Applied.{many}
use Rattle.index.specs.Answers.{Finds}
use Rattle.coherence.specs.Keeping.{Codes, Writes, Request, reply_to, Operation, Operation.translates, Operation.writes, Operation.empties}
use Rattle.coherence.specs.Keeping.{OnlyWrites, after, AllCurrent, IsCurrent, KeepsSpans}
use Rattle.coherence.specs.Keeping.{codes_after}
use Rattle.coherence.specs.Entering.{AskedOfCode, Enters, MayBeEntered, FoundMayBeEntered}
use Rattle.coherence.specs.KeepingOf.{Leads}
use Rattle.coherence.specs.KeepingInCode.{Does, KeepsSpansInCode, FoundMayBeEnteredInCode, CallsCanBeMade}
use Rattle.coherence.proofs.Kept.{keeps_spans}
use Rattle.coherence.proofs.Found.{found_may_be_entered}
use Rattle.coherence.proofs.KeptInCode.{keeps_spans_in_code, found_may_be_entered_in_code}
use Rattle.coherence.proofs.Reached.{calls_can_be_made}
use Rattle.coherence.proofs.Example.{entering, enters}

abbrev pub end : ℕ
end = 2 ^ 64

-- ADDI x1, x0, 5 and JAL x0, 0, at the last four and the first four addresses under satp 2, and at 0x80000000 under any other
abbrev pub code : ℕ → Code
code pc = held pc (words (0x00500093 ∷ 0x0000006F ∷ []))

abbrev pub first : Codes
first satp = cond (eqb satp 2) (code (end - 4)) (code 0x80000000)

-- 8 bytes are written from an odd address on: the halfwords of which only one byte is among them change too, under every satp
abbrev pub second : Codes
second satp x = cond (eqb x 0x80000008 || eqb x 0x80000010) (Some 0x8000) (first satp x)

-- two bytes, the last one and the first: the halfwords at the last three, the last and the first address change, under every satp
abbrev pub third : Codes
third satp x = cond (eqb x (end - 2) || (eqb x (end - 1) || eqb x 0)) (Some 0) (second satp x)

abbrev pub at_end : Request
at_end = record {
  satp = 2;
  pc = end - 4;
  limit = 2 ^ 32 - 1;
  reach = 200;
  helper16 = end - 1;
  helper_mem = end - 1;
  room = 4099;
  offset = end - 1;
}

abbrev pub request : ℕ → ℕ → ℕ → ℕ → Request
request satp pc reach offset = record {
  satp = satp;
  pc = pc;
  limit = 64;
  reach = reach;
  helper16 = 0;
  helper_mem = 0;
  room = 5000;
  offset = offset;
}

abbrev pub kept : List Operation
kept =
    writes 0x80000009 8 second ∷ writes 1 0 first ∷ translates (request 1 0x80000001 (end - 1) 7)
    ∷ translates (request (end - 1) 0x80000000 2 200) ∷ translates (request 1 0x80000000 4 88) ∷ translates at_end ∷ []

abbrev pub three : List Entry
three = blank ∷ blank ∷ blank ∷ []

abbrev pub entry : ℕ → ℕ → ℕ → ℕ → ℕ → ℕ → ℕ → Entry
entry mark satp pc offset count length span =
    record { satp = satp; pc = pc; block = record { offset = offset; count = count; length = length; span = span }; in_use = mark }

left : after three first kept
    ≡ entry 1 2 (end - 4) (end - 1) 2 88 8 ∷ entry 1 1 0x80000000 88 2 88 8 ∷ entry 1 (end - 1) 0x80000000 200 1 88 4 ∷ []
unfolding translations words run_at touches
left = refl

-- then two bytes are written, the last and the first of all, and the first entry goes; no write touched the other two
abbrev pub touched : List Operation
touched = writes (end - 1) 2 third ∷ kept

left_touched : after three first touched
    ≡ entry 0 2 (end - 4) (end - 1) 2 88 8 ∷ entry 1 1 0x80000000 88 2 88 8 ∷ entry 1 (end - 1) 0x80000000 200 1 88 4 ∷ []
unfolding translations words run_at touches
left_touched = refl

-- all is emptied; the first is translated again, of the code as it is then, and another under a third satp
abbrev pub again : List Operation
again = translates (request 3 0x80000000 4 0) ∷ translates at_end ∷ empties ∷ touched

left_again : after three first again
    ≡ entry 1 2 (end - 4) (end - 1) 2 116 6 ∷ entry 1 3 0x80000000 0 2 88 8 ∷ entry 0 (end - 1) 0x80000000 200 1 88 4 ∷ []
unfolding translations words run_at touches
left_again = refl

-- 2. The writes change no more than they may

pub eight_bytes : Writes 0x80000009 8 first second
eight_bytes satp x low f s = at (eqb x 0x80000008) (eqb x 0x80000010) refl refl
  where
    at : (b c : Bool) → eqb x 0x80000008 ≡ b → eqb x 0x80000010 ≡ c → cond (b || c) (Some 0x8000) (first satp x) ≡ first satp x
    at true c d e = let is : x ≡ 0x80000008 = eqb-true x 0x80000008 d in absurd (s 0 (omega arith) (omega (arith, is)))
    at false true d e = let is : x ≡ 0x80000010 = eqb-true x 0x80000010 e in absurd (f 7 (omega arith) (omega (arith, is)))
    at false false d e = refl

pub two_bytes : Writes (end - 1) 2 second third
two_bytes satp x low f s = at (eqb x (end - 2)) (eqb x (end - 1)) (eqb x 0) refl refl refl
  where
    at : (b c d : Bool) → eqb x (end - 2) ≡ b → eqb x (end - 1) ≡ c → eqb x 0 ≡ d
        → cond (b || (c || d)) (Some 0) (second satp x) ≡ second satp x
    at true c d e g h = let is : x ≡ end - 2 = eqb-true x (end - 2) e in absurd (s 0 (omega arith) (omega (arith, is)))
    at false true d e g h = let is : x ≡ end - 1 = eqb-true x (end - 1) g in absurd (f 0 (omega arith) (omega (arith, is)))
    at false false true e g h = let is : x ≡ 0 = eqb-true x 0 h in absurd (f 1 (omega arith) (omega (arith, is)))
    at false false false e g h = refl

pub only_kept : OnlyWrites first kept
only_kept = (eight_bytes, ((λ satp x low f s. refl), tt))

pub only_touched : OnlyWrites first touched
only_touched = (two_bytes, only_kept)

-- 3. What the theorem says of the entry at the end: of which translation it is, which block that is, and that the code is the same

all_current : AllCurrent first kept (after three first kept)
unfolding KeepsSpans
all_current = keeps_spans three first kept refl only_kept

all_touched : AllCurrent first touched (after three first touched)
unfolding KeepsSpans
all_touched = keeps_spans three first touched refl only_touched

all_again : AllCurrent first again (after three first again)
unfolding KeepsSpans
all_again = keeps_spans three first again refl only_touched

abbrev pub wrapping : Entry
wrapping = entry 1 2 (end - 4) (end - 1) 2 88 8

its : IsCurrent first kept wrapping
unfolding translations words run_at touches
its = all_current 0 wrapping refl refl

second_too : IsCurrent first touched (entry 1 1 0x80000000 88 2 88 8)
unfolding translations words run_at touches
second_too = all_touched 1 (entry 1 1 0x80000000 88 2 88 8) refl refl

third_too : IsCurrent first touched (entry 1 (end - 1) 0x80000000 200 1 88 4)
unfolding translations words run_at touches
third_too = all_touched 2 (entry 1 (end - 1) 0x80000000 200 1 88 4) refl refl

anew : IsCurrent first again (entry 1 3 0x80000000 0 2 88 8)
unfolding translations words run_at touches
anew = all_again 1 (entry 1 3 0x80000000 0 2 88 8) refl refl

-- 4. It is of the first translation, and of no other; its block is that translation's, and has those bytes of the code still

its_request : (c : IsCurrent first kept wrapping) → (c.request ≡ at_end) × (c.earlier ≡ [])
its_request c = at c.later c.when
  where
    satp : c.request.satp ≡ 2
    satp = sym (ap (λ (x : Key). x.satp) c.has_key)

    at : (later : List Operation) → kept ≡ later ++ (translates c.request ∷ c.earlier) → (c.request ≡ at_end) × (c.earlier ≡ [])
    at [] e = absurd (let z : ◌≡◌ {A = ℕ} 0 1 = cc in omega arith)
    at (o ∷ []) e = absurd (let z : ◌≡◌ {A = ℕ} 0 1 = cc in omega arith)
    at (o ∷ p ∷ []) e =
        let r : request 1 0x80000001 (end - 1) 7 ≡ c.request = cc in
        let s : c.request.satp ≡ 1 = sym (ap (λ (x : Request). x.satp) r) in
        absurd (omega (arith, s, satp))
    at (o ∷ p ∷ q ∷ []) e =
        let r : request (end - 1) 0x80000000 2 200 ≡ c.request = cc in
        let s : c.request.satp ≡ end - 1 = sym (ap (λ (x : Request). x.satp) r) in
        absurd (omega (arith, s, satp))
    at (o ∷ p ∷ q ∷ r ∷ []) e =
        let r : request 1 0x80000000 4 88 ≡ c.request = cc in
        let s : c.request.satp ≡ 1 = sym (ap (λ (x : Request). x.satp) r) in
        absurd (omega (arith, s, satp))
    at (o ∷ p ∷ q ∷ r ∷ s ∷ []) e =
        let r : at_end ≡ c.request = cc in
        let l : [] ≡ c.earlier = cc in
        (sym r, sym l)
    at (o ∷ p ∷ q ∷ r ∷ s ∷ t ∷ []) e = absurd (let z : ◌≡◌ {A = ℕ} 0 1 = cc in omega arith)
    at (o ∷ p ∷ q ∷ r ∷ s ∷ t ∷ u ∷ later) e = absurd (let z : ◌≡◌ {A = ℕ} 0 1 = cc in omega arith)

its_block : (c : IsCurrent first kept wrapping) → reply_to at_end first ≡ block c.b
its_block c =
    let i = its_request c in
    ap (λ (q : Request). reply_to q first) (sym i.0)
    ∙ ap (λ (l : List Operation). reply_to c.request (codes_after first l)) (sym i.1) ∙ c.made

its_parts : (c : IsCurrent first kept wrapping) → (c.b.count ≡ 2) × (length c.b.code ≡ 88) × (c.b.span ≡ 8) × (c.request.offset ≡ end - 1)
its_parts c = (
  sym (ap (λ (x : NativeBlock). x.count) c.has_block),
  sym (ap (λ (x : NativeBlock). x.length) c.has_block),
  sym (ap (λ (x : NativeBlock). x.span) c.has_block),
  sym (ap (λ (x : NativeBlock). x.offset) c.has_block),
)

its_pc : (c : IsCurrent first kept wrapping) → end - 4 ≡ c.request.pc
its_pc c = ap (λ (x : Key). x.pc) c.has_key

-- in all of the 8 bytes
same_code : (cs : Codes) (operations : List Operation) (e : Entry) (c : IsCurrent cs operations e) (q : Request) (l : List Operation)
    → c.request ≡ q → c.earlier ≡ l → SameIn q.pc e.block.span (codes_after cs l q.satp) (codes_after cs operations q.satp)
same_code cs operations e c q l r m = rw (← r, ← m, ap (λ (x : NativeBlock). x.span) c.has_block) c.same

its_code : (c : IsCurrent first kept wrapping) → SameIn (end - 4) 8 (first 2) (second 2)
its_code c = let i = its_request c in same_code first kept wrapping c at_end [] i.0 i.1

-- 5. It is found, and may be entered by a turn that fetches those 8 bytes and no more

abbrev pub last_key : Key
last_key = record { satp = 2; pc = end - 4 }

found : MayBeEntered first kept last_key wrapping
unfolding translations words run_at touches FoundMayBeEntered
found = found_may_be_entered three first kept refl only_kept last_key wrapping refl

found_under : found.current.request.satp ≡ 2
found_under = found.under

found_at : found.current.request.pc ≡ end - 4
found_at = found.at

asked : (t : Turn) → length t.output ≡ 4099 → AskedOfCode (entering at_end first second t 4) (end - 4)
asked t h =
    let i = its_request found.current in
    let k : Kept = entering at_end first second t 4 in
    let s : Enters at_end (codes_after first found.current.earlier) second k =
    subst (λ (l : List Operation). Enters at_end (codes_after first l) second k) (sym i.1) (enters at_end first second t 4 h) in
    found.enters k (subst (λ (q : Request). Enters q (codes_after first found.current.earlier) second k) (sym i.0) s) (omega arith)

-- of the code when the block was made, and of the code now
asked_then : (t : Turn) → length t.output ≡ 4099 → Unchanged (entering at_end first second t 4).turn (end - 4)
asked_then t h = (asked t h).made

asked_now : (t : Turn) → length t.output ≡ 4099 → Current (entering at_end first second t 4) (end - 4)
asked_now t h = (asked t h).now

-- 6. No entry, and 64; the same of the code, by calls that can be made

none_found : (j : Key) (e : Entry) → find (after [] first again) j ≡ Some e → MayBeEntered first again j e
unfolding FoundMayBeEntered
none_found = found_may_be_entered [] first again refl only_touched

of_many : AllCurrent first kept (after many first kept)
unfolding KeepsSpans many
of_many = keeps_spans many first kept refl only_kept

fourth_free : slice_get (after many first kept) 2 ≡ Some (entry 1 (end - 1) 0x80000000 200 1 88 4)
unfolding translations words run_at touches many
fourth_free = refl

led : Leads Does three first again (after three first again)
unfolding CallsCanBeMade
led = calls_can_be_made three first again

in_code : AllCurrent first again (after three first again)
unfolding KeepsSpansInCode
in_code = keeps_spans_in_code three (after three first again) first again refl only_touched led

anew_in_code : IsCurrent first again (entry 1 3 0x80000000 0 2 88 8)
unfolding translations words run_at touches
anew_in_code = in_code 1 (entry 1 3 0x80000000 0 2 88 8) refl refl

led_kept : Leads Does three first kept (after three first kept)
unfolding CallsCanBeMade
led_kept = calls_can_be_made three first kept

found_in_code : MayBeEntered first kept last_key wrapping
unfolding translations words run_at touches FoundMayBeEnteredInCode
found_in_code = found_may_be_entered_in_code three (after three first kept) first kept refl only_kept led_kept last_key wrapping refl

led_many : Leads Does many first kept (after many first kept)
unfolding CallsCanBeMade
led_many = calls_can_be_made many first kept

many_in_code : AllCurrent first kept (after many first kept)
unfolding KeepsSpansInCode many
many_in_code = keeps_spans_in_code many (after many first kept) first kept refl only_kept led_many

none_led : Leads Does [] first again (after [] first again)
unfolding CallsCanBeMade
none_led = calls_can_be_made [] first again

none_in_code : (j : Key) (e : Entry) → Finds (after [] first again) j (Some e) → MayBeEntered first again j e
unfolding FoundMayBeEnteredInCode
none_in_code = found_may_be_entered_in_code [] (after [] first again) first again refl only_touched none_led
