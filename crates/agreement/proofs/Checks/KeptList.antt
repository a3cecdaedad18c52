-- The theorem on kept blocks applied to sixteen turns, those of Checks/HelperList: behind what each block spans the code is now another, in
-- the last two bytes of the address space and the first, and no more of it can be fetched than the block spans.
use Rattle.std.proofs.Common.{false, true, List, [], ◌∷◌, ◌++◌, ◌≡◌, ◌∙◌, ap, refl, sym, ℕ, zero, suc, ◌-◌, ◌^◌}
use Rattle.std.proofs.Common.{arith, length, min}
use Rattle.std.specs.Prelude.{Option, None, Some}
use Rattle.agreement.specs.Common.{Helper, Helper.for_access, Helper.for_halfword}
use Rattle.agreement.specs.Riscv.Code.{SameIn, run_at}
use Rattle.agreement.specs.Riscv.Run.{GuestState, Stop.called, jump, manual, read_turn, turn}
use Rattle.agreement.specs.Statement.Agreement.{Along, after, feed, is_refused, start}
use Rattle.agreement.specs.Statement.Kept.{AgreesNow, AlongNow, Current, Kept, feed_now, feeds_now, refuses_now, turns}
use Rattle.agreement.specs.Statement.Machine.{Event, History, History.then, RegisterBytes, reply}
use Rattle.agreement.specs.Statement.Premises.{Unchanged, rests_on_code}
use Rattle.agreement.specs.Translation.Replies.{Block, Reply.block, Reply.refusal, block_of, by_first, translate, walked}
use Rattle.agreement.specs.Translation.Walk.{walk}
use Rattle.agreement.specs.X86.State.{State}
use Rattle.agreement.specs.Cases.{words}
use Rattle.agreement.proofs.Checks.CasesHold.{immediates, translations}
use Rattle.agreement.proofs.Checks.HelperList.{Sixteen, after_half, after_mem, half_called, last_meets, last_turn, mem_called, n0, n1, n2, n2_high}
use Rattle.agreement.proofs.Checks.HelperList.{sixteen, sixteen_ends, to_n0}
use Rattle.agreement.proofs.Checks.HelperTurns.{half_code, half_meets, half_run, half_taken, half_turn, mem_code, mem_meets, mem_run, mem_taken, mem_turn}
use Rattle.agreement.proofs.Checks.Jumping.{Jumps, all_jump, jump_code, jump_meets, jump_pc, jump_reads, jump_run, jump_taken, jump_turn, jumps_at, jumps_lem}
use Rattle.agreement.proofs.Checks.Jumping.{sites, sites_jump, some_limit}
use Rattle.agreement.proofs.Checks.JumpList.{after_jumps, after_one, further, jump_stops, jump_turns, ones, ones_x0}
use Rattle.agreement.proofs.Checks.KeptBlocks.{MetNow, applied_now, reads_as, span_of}
use Rattle.agreement.proofs.Checks.Sites.{Site, both}
use Rattle.agreement.proofs.Checks.StaleBlock.{recoded}
use Rattle.agreement.proofs.Laws.Runs.{held}
use Rattle.agreement.proofs.Laws.Tests.{eqb_no}
use Rattle.agreement.proofs.Theorem.AlongTheRun.{MeetsAt}
use Rattle.agreement.proofs.Theorem.Consequences.{WentHelped, after_helper, after_helper_lem, after_plain_lem, read_as}

-- 1. The code as it is now: the same halfwords, and behind them, where there was nothing, ADDI x1, x0, 5

abbrev pub behind : List ℕ
behind = words (0x00500093 ∷ [])

abbrev pub kept_jump : Site → Kept
kept_jump s = record { turn = jump_turn s; now = held jump_pc (jump_run ++ behind); reach = 2 }

abbrev pub kept_mem : Kept
kept_mem = record { turn = mem_turn; now = held jump_pc (mem_run ++ behind); reach = 4 }

abbrev pub kept_half : Kept
kept_half = record { turn = half_turn; now = held jump_pc half_run; reach = 1 }

abbrev pub kept_last : Kept
kept_last = record { turn = last_turn; now = λ x. None; reach = 1 }

unfoldable pub kept_jumps : List Site → List Kept → List Kept
kept_jumps [] ks = ks
kept_jumps (s ∷ ss) ks = kept_jump s ∷ kept_jumps ss ks

abbrev pub kept_three : List Kept
kept_three = kept_mem ∷ kept_half ∷ kept_last ∷ []

abbrev pub kept_sixteen : List Kept
kept_sixteen = kept_jumps sites kept_three

turns_are : turns kept_sixteen ≡ sixteen
unfolding turns kept_jumps sites jump_turns
turns_are = refl

-- 2. What is asked of it

jump_reply : (s : Site) → Jumps s
    → reply (jump_turn s) jump_pc ≡ block (block_of (2 ^ 64 - 1) (2 ^ 64 - 1) (walked jump_pc s.limit jump_run))
unfolding immediates translations words
jump_reply s j = rw (eqb_no s.limit 0 j.limit, translate) (rw (j.room, by_first) refl)

jump_rests : (s : Site) → Jumps s → rests_on_code (reply (jump_turn s) jump_pc) ≡ true
jump_rests s j = rw (jump_reply s j)

span_once : (k : ℕ) → (walk (suc k) jump_pc jump_run).span ≡ 4
unfolding immediates translations words
span_once k = refl

jump_span : (s : Site) → Jumps s → (b : Block) → reply (jump_turn s) jump_pc ≡ block b → b.span ≡ 4
jump_span s j b e =
    let c : Block = block_of (2 ^ 64 - 1) (2 ^ 64 - 1) (walked jump_pc s.limit jump_run) in
    let z : ◌≡◌ (block b) (block c) = sym e ∙ jump_reply s j in
    let q : b ≡ c = cc in
    ap (λ (x : Block). x.span) q ∙ rw (some_limit s.limit j.limit) (span_once (min s.limit 64 - 1))

jump_same : SameIn jump_pc 4 jump_code (held jump_pc (jump_run ++ behind))
unfolding words
jump_same zero h = refl
jump_same (suc zero) h = refl
jump_same (suc (suc k)) h = absurd (omega (arith, h))

jump_current : (s : Site) → Jumps s → Current (kept_jump s) jump_pc
jump_current s j = record {
  spanned = λ b e. rw (jump_span s j b e) jump_same;
  fetched = λ b e. rw (jump_span s j b e) (omega arith);
  refused = λ r e c. absurd (let z : ◌≡◌ (refusal r) (block _) = sym e ∙ jump_reply s j in let o : ◌≡◌ {A = ℕ} 0 1 = cc in omega arith);
}

mem_span : (b : Block) → reply mem_turn jump_pc ≡ block b → b.span ≡ 8
mem_span b e = sym (ap span_of e) ∙ computed
  where
    computed : span_of (reply mem_turn jump_pc) ≡ 8
    computed = unfold translations words in refl

mem_same : SameIn jump_pc 8 mem_code (held jump_pc (mem_run ++ behind))
unfolding words
mem_same zero h = refl
mem_same (suc zero) h = refl
mem_same (suc (suc zero)) h = refl
mem_same (suc (suc (suc zero))) h = refl
mem_same (suc (suc (suc (suc k)))) h = absurd (omega (arith, h))

mem_current : Current kept_mem jump_pc
unfolding translations words
mem_current = record {
  spanned = λ b e. rw (mem_span b e) mem_same;
  fetched = λ b e. rw (mem_span b e) (omega arith);
  refused = λ r e c. absurd (let z : ◌≡◌ {A = ℕ} 0 1 = cc in omega arith);
}

half_span : (b : Block) → reply half_turn jump_pc ≡ block b → b.span ≡ 2
half_span b e = sym (ap span_of e) ∙ computed
  where
    computed : span_of (reply half_turn jump_pc) ≡ 2
    computed = unfold translations in refl

half_same : SameIn jump_pc 2 half_code (held jump_pc half_run)
unfolding words
half_same zero h = refl
half_same (suc k) h = absurd (omega (arith, h))

half_current : Current kept_half jump_pc
unfolding translations
half_current = record {
  spanned = λ b e. rw (half_span b e) half_same;
  fetched = λ b e. rw (half_span b e) (omega arith);
  refused = λ r e c. absurd (let z : ◌≡◌ {A = ℕ} 0 1 = cc in omega arith);
}

last_current : Current kept_last (2 ^ 64 - 1)
unfolding translations run_at
last_current = record {
  spanned = λ b e. absurd (let z : ◌≡◌ {A = ℕ} 0 1 = cc in omega arith);
  fetched = λ b e. absurd (let z : ◌≡◌ {A = ℕ} 0 1 = cc in omega arith);
  refused = λ r e c. refl;
}

-- a turn with a helper, entered where the theorem says
now_entered : (m : GuestState) (k : Kept) (ks : List Kept) (h : Helper) (i : ℕ) → MeetsAt k.turn m.pc → Current k m.pc
    → is_refused k.turn m ≡ false → (read_as k.turn m).stop ≡ called h i
    → ((e : Event) (w : WentHelped m k.turn e) → MetNow (after_helper k.turn w.call.inside) ks) → MetNow m (k ∷ ks)
unfolding MetNow
now_entered m k ks h i a c f st on = (a, c, λ e pc' rb rb' g w. let q = after_helper_lem m h i f st g w in rw q.turned (on e q))

last_met : (a : State) → MetNow (n2 a) (kept_last ∷ [])
unfolding MetNow
last_met a = (last_meets, last_current, λ e pc' rb rb' h w. tt)

half_met : (a : State) → MetNow (n1 a) (kept_half ∷ kept_last ∷ [])
half_met a =
    now_entered (n1 a) kept_half (kept_last ∷ []) for_halfword 0x4108 half_meets half_current (half_taken (n1 a) refl) (half_called a)
    (λ e w. rw (after_half a e w) (last_met w.call.inside))

three_met : MetNow n0 kept_three
three_met =
    now_entered n0 kept_mem (kept_half ∷ kept_last ∷ []) for_access 0x0000B083 mem_meets mem_current (mem_taken n0 refl) mem_called
    (λ e w. rw (after_mem e w) (half_met w.call.inside))

jumps_met : (ss : List Site) (ks : List Kept) (m : GuestState) → all_jump ss ≡ true → m.pc ≡ jump_pc
    → ((n : GuestState) → n ≡ after_jumps m ss → MetNow n ks) → MetNow m (kept_jumps ss ks)
unfolding all_jump kept_jumps after_jumps MetNow
jumps_met [] ks m a e k = k m refl
jumps_met (s ∷ ss) ks m a e k =
    let p = both (jumps_at s) (all_jump ss) a in
    let j = jumps_lem s p.0 in
    let rest : MetNow (further m) (kept_jumps ss ks) = jumps_met ss ks (further m) p.1 refl k in (
      rw e (jump_meets s j),
      rw e (jump_current s j),
      λ f pc' rb rb' h w. rw ((after_plain_lem m (jump_taken s m j e) (jump_stops s m j e) h w).turned, after_one s m j e) rest,
    )

pub sixteen_now : AgreesNow jump_pc ones kept_sixteen
sixteen_now =
    applied_now jump_pc ones kept_sixteen (omega arith) ones_x0
    (jumps_met sites kept_three (start jump_pc ones) sites_jump refl (λ n e. rw (e ∙ to_n0) three_met))

-- the agreement itself says nothing of them
changed : (s : Site) → Jumps s → Unchanged (recoded (jump_turn s) (held jump_pc (jump_run ++ behind)) 4) jump_pc → ⊥
unfolding words run_at
changed s j u = let e = ap length (u (jump_rests s j)) in let o : ◌≡◌ {A = ℕ} 2 4 = e in omega arith

-- 3. What it says of each of the thirteen, and of the end

pub record JumpsNow (s : Site) (e : Event) (m : GuestState) : Type 0 where
  pub taken : refuses_now (kept_jump s) e m ≡ false
  pub reads : read_turn (feed_now (kept_jump s) e) m ≡ jump m.registers jump_pc
  pub goes : turn (feed_now (kept_jump s) e) m ≡ further m

unfoldable pub EachNow : GuestState → List Site → List Event → Type 0
EachNow m [] es = Unit
EachNow m (s ∷ ss) [] = ⊥
EachNow m (s ∷ ss) (e ∷ es) = JumpsNow s e m × EachNow (further m) ss es

each_now : (ss : List Site) (ks : List Kept) (m : GuestState) (es : List Event) {pc pc' : ℕ} {rb rb' : RegisterBytes}
    → all_jump ss ≡ true → m.pc ≡ jump_pc → History pc rb (turns (kept_jumps ss ks)) es pc' rb'
    → Along m (turns (kept_jumps ss ks)) es → AlongNow m (kept_jumps ss ks) es → EachNow m ss es
unfolding all_jump kept_jumps turns Along AlongNow EachNow
each_now [] ks m es c p h a n = tt
each_now (s ∷ ss) ks m [] c p h a n = elim h [ ]
each_now (s ∷ ss) ks m (e ∷ es) c p (then h hs) a n = (
  record { taken = n.0.refuses ∙ jump_taken s m j p; reads = n.0.reads rests ∙ reads_as (jump_turn s) e m ∙ jump_reads s m j p; goes = g },
  each_now ss ks (further m) es q.1 refl hs (rw z at a.1) (rw g at n.1),
)
  where
    q : (jumps_at s ≡ true) × (all_jump ss ≡ true)
    q = both (jumps_at s) (all_jump ss) c

    j : Jumps s
    j = jumps_lem s q.0

    rests : rests_on_code (reply (jump_turn s) m.pc) ≡ true
    rests = rw p (jump_rests s j)

    z : turn (feed (jump_turn s) e) m ≡ further m
    z = (after_plain_lem m (jump_taken s m j p) (jump_stops s m j p) h a.0).turned ∙ after_one s m j p

    g : turn (feed_now (kept_jump s) e) m ≡ further m
    g = n.0.goes ∙ z

record SixteenNow (es : List Event) : Type 0 where
  each : EachNow (start jump_pc ones) sites es
  pc : (manual (feeds_now kept_sixteen es) (start jump_pc ones)).pc ≡ 2 ^ 64 - 1
  x31 : (manual (feeds_now kept_sixteen es) (start jump_pc ones)).registers 31 ≡ 2 ^ 64 - 1
  count : (manual (feeds_now kept_sixteen es) (start jump_pc ones)).count ≡ 0

sixteen_says : SixteenNow sixteen_now.agrees.events
unfolding turns kept_jumps sites jump_turns
sixteen_says = record {
  each = each_now sites kept_three (start jump_pc ones) sixteen_now.agrees.events sites_jump refl sixteen_now.agrees.history
      sixteen_now.agrees.along sixteen_now.along;
  pc = ap (λ (m : GuestState). m.pc) is;
  x31 = ap (λ (m : GuestState). m.registers 31) is ∙ (n2_high k.second.call.inside).x31;
  count = ap (λ (m : GuestState). m.count) is;
}
  where
    k : Sixteen sixteen_now.agrees.events (after jump_pc ones sixteen sixteen_now.agrees.events)
    k = sixteen_ends _ _ sixteen_now.agrees.events _ _ sixteen_now.agrees.history sixteen_now.agrees.along

    is : manual (feeds_now kept_sixteen sixteen_now.agrees.events) (start jump_pc ones) ≡ n2 k.second.call.inside
    is = sixteen_now.at_end ∙ k.after

-- 4. Two codes that differ in the second halfword have the same in three bytes, and not in four

three_bytes : SameIn jump_pc 3 (held jump_pc (0x0001 ∷ 0x0001 ∷ [])) (held jump_pc (0x0001 ∷ 0x0002 ∷ []))
three_bytes zero h = refl
three_bytes (suc k) h = absurd (omega (arith, h))

four_bytes : SameIn jump_pc 4 (held jump_pc (0x0001 ∷ 0x0001 ∷ [])) (held jump_pc (0x0001 ∷ 0x0002 ∷ [])) → ⊥
four_bytes h = differ (h 1 (omega arith))
  where
    differ : ◌≡◌ {A = Option ℕ} (Some 1) (Some 2) → ⊥
    differ e = let o : ◌≡◌ {A = ℕ} 1 2 = cc in omega arith
