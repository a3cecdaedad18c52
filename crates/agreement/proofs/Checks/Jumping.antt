-- Turns that jump to where they stand, at thirteen sites: block, register bytes and stack touch each other in each order, begin at address
-- 0 and end at 2^64. The code stands in the last two and the first two bytes of the address space; no helper is called, nor keeps anything.
use Rattle.std.proofs.Common.{◌≤◌, leb, ltb, replicate, Bool, false, true, ◌&&◌, not, List, [], ◌∷◌, ◌≡◌, ◌∙◌, ◌≢◌, ap, refl, sym, ℕ, suc, ◌+◌, ◌-◌, ◌^◌}
use Rattle.std.proofs.Common.{arith, eqb, length, min}
use Rattle.std.specs.Prelude.{Option, None, Some}
use Rattle.agreement.specs.Riscv.Code.{Code, run_at}
use Rattle.agreement.specs.Riscv.Immediates as Manual
use Rattle.agreement.specs.Riscv.Run.{GuestState, Read, Registers, Stop.called, Stop.plain, jump, reading, write_x}
use Rattle.agreement.specs.Statement.Agreement.{Entered, feed_of, is_refused, start}
use Rattle.agreement.specs.Statement.Machine.{By, Call, RegisterBytes, Steps, Turn, Visit, enter, reply}
use Rattle.agreement.specs.Translation.Replies.{Block, Reply.block}
use Rattle.agreement.specs.Translation.Walk.{instrs, walk}
use Rattle.agreement.specs.X86.Encode.{bytes}
use Rattle.agreement.specs.X86.Form.{Instr.call_rax}
use Rattle.agreement.specs.X86.Memory.{read}
use Rattle.agreement.specs.X86.State.{State}
use Rattle.agreement.specs.Cases.{words}
use Rattle.agreement.proofs.Checks.CasesHold.{immediates, translations}
use Rattle.agreement.proofs.Checks.ExampleStates.{reads_a_turn}
use Rattle.agreement.proofs.Checks.OneCall.{Called, CalledAs, called_as, tidy}
use Rattle.agreement.proofs.Checks.Sites.{Fits, Site, both, fits, fits_lem, laid_out, turn_at, fetched}
use Rattle.agreement.proofs.Laws.Runs.{held}
use Rattle.std.proofs.lemmas.List.{length-replicate}
use Rattle.agreement.proofs.Laws.Tests.{leb-true, leb_no, eqb-true, eqb_no}
use Rattle.agreement.proofs.Theorem.AlongTheRun.{MeetsAt}
use Rattle.agreement.proofs.Theorem.Consequences.{read_as}
use Rattle.agreement.proofs.Theorem.RefusedAlike.{is_walk, made_halfwords}

-- 1. JAL x0, 0

abbrev pub jump_pc : ℕ
jump_pc = 2 ^ 64 - 2

abbrev pub jump_run : List ℕ
jump_run = words (0x0000006F ∷ [])

abbrev pub jump_code : Code
jump_code = held jump_pc jump_run

abbrev pub jump_turn : Site → Turn
jump_turn s = turn_at s jump_code jump_run (λ u. u)

-- a site with a block of 67 bytes, as this word's is, a limit that is not 0, and an output that is large enough
unfoldable pub jumps_at : Site → Bool
jumps_at s = fits s && (eqb s.size 67 && (not (eqb s.limit 0) && leb 4099 s.room))

pub record Jumps (s : Site) : Type 0 where
  pub fit : Fits s
  pub size : s.size ≡ 67
  pub limit : s.limit ≢ 0
  pub room : ltb (length {A = ℕ} (replicate s.room 1)) 4099 ≡ false

not_zero : (n : ℕ) → not (eqb n 0) ≡ true → n ≢ 0
not_zero n h e = let z : not (eqb 0 0) ≡ true = rw e at h in let o : ◌≡◌ {A = ℕ} 0 1 = cc in omega arith

large : (n : ℕ) → 4099 ≤ n → ltb (length {A = ℕ} (replicate n 1)) 4099 ≡ false
large n h = rw (length-replicate {A = ℕ} n 1) (leb_no (suc n) 4099 (omega (arith, h)))

pub jumps_lem : (s : Site) → jumps_at s ≡ true → Jumps s
unfolding jumps_at
jumps_lem s h =
    let p = both (fits s) _ h in
    let q = both (eqb s.size 67) _ p.1 in
    let r = both (not (eqb s.limit 0)) _ q.1 in
    record { fit = fits_lem s p.0; size = eqb-true _ _ q.0; limit = not_zero _ r.0; room = large s.room (leb-true 4099 s.room r.1) }

-- 2. What its turn comes to, whatever the limit

pub some_limit : (n : ℕ) → n ≢ 0 → min n 64 ≡ suc (min n 64 - 1)
some_limit n h = omega (arith, h)

reads_once : (k : ℕ) (x : Registers) → reading (suc k) jump_pc (run_at jump_code jump_pc 11) x ≡ jump x jump_pc
unfolding reads_a_turn Manual.sign_extend write_x
reads_once k x = refl

pub jump_taken : (s : Site) (m : GuestState) → Jumps s → m.pc ≡ jump_pc → is_refused (jump_turn s) m ≡ false
unfolding reads_a_turn
jump_taken s m j e = rw (e, eqb_no s.limit 0 j.limit) j.room

pub jump_reads : (s : Site) (m : GuestState) → Jumps s → m.pc ≡ jump_pc → read_as (jump_turn s) m ≡ jump m.registers jump_pc
unfolding feed_of words
jump_reads s m j e = rw (some_limit s.limit j.limit, e) (reads_once (min s.limit 64 - 1) m.registers)

-- 19 instructions in 67 bytes
long_once : (k : ℕ) → length (bytes (instrs (2 ^ 64 - 1) (2 ^ 64 - 1) (walk (suc k) jump_pc jump_run))) ≡ 67
unfolding immediates translations words
long_once k = refl

unchanged : jump_run ≡ run_at jump_code jump_pc (fetched jump_run)
unfolding words run_at
unchanged = refl

pub jump_long : (s : Site) → Jumps s → (b : Block) → reply (jump_turn s) jump_pc ≡ block b → length b.code ≡ s.size
jump_long s j b e =
    let w =
    is_walk jump_pc s.limit jump_run (2 ^ 64 - 1) (2 ^ 64 - 1) (length (jump_turn s).output) b
    (made_halfwords (jump_turn s) jump_pc unchanged) e in
    ap (λ (x : Block). length x.code) w.is
    ∙ rw (some_limit s.limit j.limit) (long_once (min s.limit 64 - 1)) ∙ sym j.size

-- whatever its helper would do: no helper is called, and nothing is asked of it
reads_tidy : (s : Site) (m : GuestState) → read_as (turn_at s jump_code jump_run (tidy s)) m ≡ read_as (jump_turn s) m
unfolding feed_of
reads_tidy s m = refl

pub not_called : (t : Turn) (n : ℕ) (v : Visit) (q : Read) (u a : State) (o : Option Call)
    → q.stop ≡ plain → Entered t n v q o → Called o u a → ⊥
unfolding Entered Called
not_called t n v q u a None e y k = k
not_called t n v q u a (Some d) e y k =
    absurd (let o : ◌≡◌ (called y.h y.i) plain = sym y.stop ∙ e in let o : ◌≡◌ {A = ℕ} 0 1 = cc in omega arith)

no_call : (s : Site) → Jumps s → (rb : RegisterBytes) → read 8 rb 0 ≡ 0 → (b : Block) → reply (jump_turn s) jump_pc ≡ block b
    → (u a : State) (k : ℕ) (ws xs : List ℕ) → Steps (jump_turn s) (enter (jump_turn s) b.code rb) k ws u
    → By (jump_turn s) call_rax u a xs → ⊥
no_call s j rb z b e u a k ws xs g c = not_called _ _ _ _ u a w.v.call stops w.says w.called
  where
    w : CalledAs s jump_code jump_run jump_pc rb b u a
    w = called_as s jump_code jump_run (λ u. u) jump_pc rb b u a k ws xs j.fit (omega arith) z unchanged (jump_long s j) e g c

    stops : (read_as (turn_at s jump_code jump_run (tidy s)) (start jump_pc rb)).stop ≡ plain
    stops = ap (λ (q : Read). q.stop) (reads_tidy s (start jump_pc rb) ∙ jump_reads s (start jump_pc rb) j refl)

pub jump_meets : (s : Site) → Jumps s → MeetsAt (jump_turn s) jump_pc
jump_meets s j = record {
  typed = record { helper16 = omega arith; helper_mem = omega arith; others = λ k h. omega (arith, h) };
  unchanged = λ r. unchanged;
  enterable = λ b rb z e. record {
    layout = laid_out s jump_code jump_run (λ u. u) (length b.code) j.fit (jump_long s j b e);
    helper = λ u a k ws xs g c. absurd (no_call s j rb z b e u a k ws xs g c);
  };
}

-- 3. The sites. B, R and S stand for block, registers and stack, in the order of their addresses
abbrev site : ℕ → ℕ → ℕ → ℕ → Site
site l b r p = record { limit = l; size = 67; room = 4099; block = b; base = r; sp = p }

-- a limit that is no number of 64 bits, an output longer than it need be; R and S on both sides of 2^32, B around 2^47
abbrev roomy_site : Site
roomy_site = record { limit = 2 ^ 64; size = 67; room = 5000; block = 2 ^ 47 - 1; base = 2 ^ 32 - 256; sp = 2 ^ 32 + 72 }

-- nothing near anything else, the block at an odd address: what it leaves alone is read off here
abbrev pub lone_site : Site
lone_site = site 64 0x20001 0x10000 0x30008

unfoldable pub sites : List Site
sites =
    lone_site
    -- B R S and R B S, each touching the next, up to 2^64; limits of 1 and 2
    ∷ site 1 (2 ^ 64 - 395) (2 ^ 64 - 328) (2 ^ 64 - 8)
    ∷ site 2 (2 ^ 64 - 139) (2 ^ 64 - 395) (2 ^ 64 - 8)
    -- B S R up to 2^64; S B R and S R B from 8, the lowest that a stack can stand; a limit of 65
    ∷ site 65 (2 ^ 64 - 395) (2 ^ 64 - 256) (2 ^ 64 - 264)
    ∷ site 64 80 147 72
    ∷ site 64 336 80 72
    -- R S B from 8; R B and B R from 0, the stack behind them as near as can be
    ∷ site 64 336 8 328
    ∷ site 63 256 0 392
    ∷ site 64 0 67 392
    -- R B up to 2^64, the stack at the bottom; B at the top, R at the bottom and S at 2^63; the greatest limit of a u32
    ∷ site 64 (2 ^ 64 - 67) (2 ^ 64 - 323) 72
    ∷ site (2 ^ 32 - 1) (2 ^ 64 - 67) 0 (2 ^ 63 + 8)
    ∷ roomy_site
    -- S R B around 2^63
    ∷ site 1 (2 ^ 63 - 1) (2 ^ 63 - 257) (2 ^ 63 - 328) ∷ []

unfoldable pub all_jump : List Site → Bool
all_jump [] = true
all_jump (s ∷ ss) = jumps_at s && all_jump ss

pub sites_jump : all_jump sites ≡ true
unfolding sites all_jump jumps_at fits
sites_jump = refl
