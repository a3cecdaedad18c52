-- A block from its entry to its return, or to the call of its helper and on from there.
use Rattle.std.proofs.Common.{Bool, cond, false, true, List, [], ◌++◌, ◌∷◌, append_assoc, ◌∙◌, ◌≡◌, ap, refl, subst, sym, ◌%◌, ◌*◌, ◌+◌}
use Rattle.std.specs.Prelude.{Some}
use Rattle.std.proofs.Common.{◌/◌, ◌<◌, ◌^◌, suc, ℕ, mod-eq_of_lt, arith, eqb, eqb→eq, leb, length, length-append}
use Rattle.agreement.specs.Common.{Helper, Helper.for_access, Helper.for_halfword}
use Rattle.agreement.specs.Riscv.Run.{Read, Registers, Stop.called, Stop.plain}
use Rattle.agreement.specs.Translation.Emit.{add_count, closing, opening, passes}
use Rattle.agreement.specs.Translation.Walk.{End, End.calls, End.goes_on, End.jumped, Walked, ending, helper_at, instrs}
use Rattle.agreement.specs.X86.Encode.{bytes, encode}
use Rattle.agreement.specs.X86.Execute.{exec}
use Rattle.agreement.specs.X86.Flags.{alu_value, sext}
use Rattle.agreement.specs.X86.Form.{Instr, Ok, R12, R13, R14, R8, RAX, RBX, RCX, RDI, RDX, RSI, RSP}
use Rattle.agreement.specs.X86.Form.Alu.{add}
use Rattle.agreement.specs.X86.Form.Instr.{alu_imm32, call_rax, mov_imm64, ret}
use Rattle.agreement.specs.X86.Memory.{read}
use Rattle.agreement.specs.X86.State.{Flags, Permissions, State}
use Rattle.agreement.specs.X86.Step.{next, past, step}
use Rattle.agreement.proofs.Block.Stages.{Calls, Entry, Exit, Inside, Mid, Place, Returned, Way, begin, call_step, called_at}
use Rattle.agreement.proofs.Block.Stages.{came_back, go_on, leave, way_append}
use Rattle.agreement.proofs.Host.Fetching.{fetch, one}
use Rattle.agreement.proofs.Codec.Joined.{bytes-append}
use Rattle.agreement.proofs.Host.Straight.{Fine, append-nil, run}
use Rattle.agreement.proofs.Laws.Tests.{leb_no, of_true}
use Rattle.agreement.proofs.Words.Fit.{Fit, fit_nil, leads_straight}
use Rattle.agreement.proofs.Words.Simulation.{Agree, Next}
use Rattle.agreement.proofs.Words.Slots.{Slots}
use Rattle.agreement.proofs.Words.Tame.{AllTame, Tame}
use Rattle.agreement.proofs.Host.Paths.{jumpless_left, jumpless_right, path_steps}
use Rattle.agreement.proofs.Host.Jumpless.{StepsThrough, jumpless}

-- 1. The bytes and the number of instructions of each end

tail_bytes : (xs : List Instr) → bytes (xs ++ (closing ++ ret ∷ [])) ≡ bytes xs ++ (bytes closing ++ encode ret)
tail_bytes xs =
    bytes-append xs (closing ++ ret ∷ [])
    ∙ ap (λ (l : List ℕ). bytes xs ++ l) (bytes-append closing (ret ∷ [])
    ∙ ap (λ (l : List ℕ). bytes closing ++ l) (append-nil (encode ret)))

goes_on-bytes : (h1 h2 pc n : ℕ)
    → bytes (ending h1 h2 (goes_on pc) n) ≡ bytes (mov_imm64 RAX pc ∷ mov_imm64 RDX n ∷ []) ++ (bytes closing ++ encode ret)
unfolding ending
goes_on-bytes h1 h2 pc n = tail_bytes (mov_imm64 RAX pc ∷ mov_imm64 RDX n ∷ [])

jumped_bytes : (h1 h2 n : ℕ) → bytes (ending h1 h2 jumped n) ≡ bytes (mov_imm64 RDX n ∷ []) ++ (bytes closing ++ encode ret)
unfolding ending
jumped_bytes h1 h2 n = tail_bytes (mov_imm64 RDX n ∷ [])

calls_bytes : (h1 h2 : ℕ) (k : Helper) (i pc n : ℕ)
    → bytes (ending h1 h2 (calls k i pc) n)
    ≡ bytes (passes i pc (helper_at k h1 h2)) ++ (encode call_rax ++ (bytes (add_count n) ++ (bytes closing ++ encode ret)))
unfolding ending
calls_bytes h1 h2 k i pc n =
    bytes-append (passes i pc (helper_at k h1 h2)) (call_rax ∷ (add_count n ++ (closing ++ ret ∷ [])))
    ∙ ap (λ (l : List ℕ). bytes (passes i pc (helper_at k h1 h2)) ++ (encode call_rax ++ l)) (tail_bytes (add_count n))

goes_on-length : (h1 h2 pc n : ℕ) → length (ending h1 h2 (goes_on pc) n) ≡ 10
unfolding ending
goes_on-length h1 h2 pc n = refl

jumped_length : (h1 h2 n : ℕ) → length (ending h1 h2 jumped n) ≡ 9
unfolding ending
jumped_length h1 h2 n = refl

calls_length : (h1 h2 : ℕ) (k : Helper) (i pc n : ℕ) → length (ending h1 h2 (calls k i pc) n) ≡ 7 + (length (add_count n) + 8)
unfolding ending
calls_length h1 h2 k i pc n = rw (length-append (add_count n) (closing ++ ret ∷ [])) (omega arith)

-- 2. What the few instructions of an end do

-- RAX, RDX and the slots after them
record Set (b : ℕ) (x : Registers) (pc n : ℕ) (t : State) : Type 0 where
  slots : Slots b x t
  rax : t.regs RAX ≡ pc
  rdx : t.regs RDX ≡ n

sets_both : (undefined : State → Flags) (b : ℕ) (x : Registers) (s : State) (pc n : ℕ) → Slots b x s
    → Set b x pc n (run undefined (mov_imm64 RAX pc ∷ mov_imm64 RDX n ∷ []) s)
unfolding run one past exec
sets_both undefined b x s pc n h = record { slots = record { base = h.base; slots = h.slots }; rax = refl; rdx = refl }

sets_count : (undefined : State → Flags) (b : ℕ) (x : Registers) (s : State) (n : ℕ) → Slots b x s
    → Set b x (s.regs RAX) n (run undefined (mov_imm64 RDX n ∷ []) s)
unfolding run one past exec
sets_count undefined b x s n h = record { slots = record { base = h.base; slots = h.slots }; rax = refl; rdx = refl }

-- the helper's arguments
record Passed (s t : State) (i pc a : ℕ) : Type 0 where
  rax : t.regs RAX ≡ a
  rdi : t.regs RDI ≡ s.regs R12
  rsi : t.regs RSI ≡ s.regs R13
  rdx : t.regs RDX ≡ s.regs R14
  rcx : t.regs RCX ≡ i
  r8 : t.regs R8 ≡ pc
  rbx : t.regs RBX ≡ s.regs RBX
  same : t.mem ≡ s.mem

passed : (undefined : State → Flags) (i pc a : ℕ) (s : State) → Passed s (run undefined (passes i pc a) s) i pc a
unfolding run one past exec
passed undefined i pc a s = record { rax = refl; rdi = refl; rsi = refl; rdx = refl; rcx = refl; r8 = refl; rbx = refl; same = refl }

fit_passes : (i pc a : ℕ) → i < 2 ^ 64 → pc < 2 ^ 64 → a < 2 ^ 64 → Fit (passes i pc a)
unfolding Fine Ok AllTame Tame
fit_passes i pc a h k l = omega arith

-- the earlier count added to RDX, nothing where it is 0
record Added (n : ℕ) (s t : State) : Type 0 where
  rax : t.regs RAX ≡ s.regs RAX
  rdx : t.regs RDX ≡ (s.regs RDX + n) % 2 ^ 64
  rbx : t.regs RBX ≡ s.regs RBX
  same : t.mem ≡ s.mem

added : (undefined : State → Flags) (n : ℕ) (s : State) → n < 2 ^ 31 → s.regs RDX < 2 ^ 64
    → Fit (add_count n) × Added n s (run undefined (add_count n) s)
unfolding run one past exec alu_value sext Fine Ok AllTame Tame
added undefined n s l h = go (eqb n 0) refl
  where
    go : (z : Bool) → eqb n 0 ≡ z
        → Fit (cond z [] (alu_imm32 add RDX n ∷ [])) × Added n s (run undefined (cond z [] (alu_imm32 add RDX n ∷ [])) s)
    go true e =
        let z : n ≡ 0 = eqb→eq n 0 (of_true (eqb n 0) e) in
        (fit_nil, record { rax = refl; rdx = omega arith; rbx = refl; same = refl })
    go false e =
        let l' : leb (2 ^ 32 / 2) n ≡ false = leb_no (2 ^ 32 / 2) n (omega arith) in
        (omega arith, record { rax = refl; rdx = rw l' (rw (mod-eq_of_lt h)); rbx = refl; same = refl })

-- 3. The block of a walk

module _ (undefined : State → Flags) (ok : Permissions) (P : ℕ → Bool) (b c p h1 h2 : ℕ) (part : Walked)
    (pl : Place ok P b c p (bytes (instrs h1 h2 part))) where
  abbrev code : List ℕ
  code = bytes (instrs h1 h2 part)

  abbrev pre : List ℕ
  pre = bytes opening ++ bytes part.code

  abbrev tail : End → List Instr
  tail e = ending h1 h2 e part.added

  whole : code ≡ bytes opening ++ (bytes part.code ++ bytes (tail part.end))
  unfolding instrs
  whole =
      bytes-append opening (part.code ++ tail part.end)
      ∙ ap (λ (l : List ℕ). bytes opening ++ l) (bytes-append part.code (tail part.end))

  shape : (e : End) → part.end ≡ e → code ≡ pre ++ bytes (tail e)
  shape e q =
      whole ∙ sym (append_assoc (bytes opening) (bytes part.code) (bytes (tail part.end)))
      ∙ ap (λ (e : End). pre ++ bytes (tail e)) q

  count : (e : End) → part.end ≡ e → length (instrs h1 h2 part) ≡ 13 + (length part.code + length (tail e))
  unfolding instrs
  count e q = rw (length-append opening (part.code ++ tail part.end)) (rw (length-append part.code (tail part.end), q))

  -- opening and words
  record Front (q : Read) (s : State) : Type 0 where
    n : ℕ
    t : State
    way : Way undefined ok P s t (13 + n)
    through : StepsThrough part.code n
    mid : Mid ok b c p code s q.registers (length pre) t
    next : Next part.end q.pc q.stop t
    same : part.added ≡ q.added

  front : (x : Registers) (q : Read) (s : State) → Entry ok b c p x code s
      → ((s : State) → Slots b x s → Agree undefined b pl.b_fits part q s) → Front q s
  front x q s h f =
      let e = begin undefined ok P b c p code pl x (bytes part.code ++ bytes (tail part.end)) s whole h in
      let s0 : State = run undefined opening s in
      let a : Agree undefined b pl.b_fits part q s0 = f s0 e.1.slots in
      let w = go_on undefined ok P b c p code pl part.code (bytes opening) (bytes (tail part.end)) s s0 a.t a.n x q.registers
      whole a.leads e.1 a.slots in
      record {
        n = a.n;
        t = a.t;
        way = way_append undefined ok P s s0 a.t 13 a.n e.0 w.0;
        through = path_steps undefined part.code s0 a.t a.n a.leads.path;
        mid = w.1;
        next = a.next;
        same = a.same;
      }

  -- the words' steps, with 13 before them and j behind
  paced : (n j k : ℕ) → StepsThrough part.code n → length (instrs h1 h2 part) ≡ 13 + (length part.code + j) → k ≡ 13 + (n + j)
      → StepsThrough (instrs h1 h2 part) k
  paced n j k h l e = record {
    most = rw (l, e) (omega (arith, h.most));
    exact = λ z. rw (l, e) (omega (arith, h.exact (only_words z)));
  }
    where
      only_words : jumpless (instrs h1 h2 part) ≡ true → jumpless part.code ≡ true
      only_words z =
          jumpless_left part.code (tail part.end)
          (jumpless_right opening (part.code ++ tail part.end) (unfold instrs in z))

  -- 4. Without a helper

  pub record Leaving (q : Read) (s : State) : Type 0 where
    pub u : State
    pub t : State
    pub n : ℕ
    pub way : Way undefined ok P s u n
    pub fetch : next ok u ≡ Some (fetch ret)
    pub does : step undefined ok u ≡ Some (t, [])
    pub w : State
    pub exit : Exit p s w t
    pub rax : w.regs RAX ≡ q.pc
    pub rdx : w.regs RDX ≡ q.added
    pub slots : (r : ℕ) → r < 32 → read 8 w.mem (b + 8 * r) ≡ q.registers r
    pub steps : StepsThrough (instrs h1 h2 part) (suc n)

  closes : (is : List Instr) (q : Read) (s : State) (f : Front q s) → code ≡ pre ++ (bytes is ++ (bytes closing ++ encode ret)) → Fit is
      → Set b q.registers q.pc q.added (run undefined is f.t)
      → length (instrs h1 h2 part) ≡ 13 + (length part.code + (length is + 8)) → Leaving q s
  closes is q s f z ft st k =
      let t : State = f.t in
      let v : State = run undefined is t in
      let end : List ℕ = bytes closing ++ encode ret in
      let w = go_on undefined ok P b c p code pl is pre end s t v (length is) q.registers q.registers z
      (leads_straight undefined is t ft) f.mid st.slots in
      let l = leave undefined ok P b c p code pl q.registers (pre ++ bytes is) s v (z ∙ sym (append_assoc pre (bytes is) end)) w.1 in
      record {
        u = l.u;
        t = l.t;
        n = 13 + f.n + (length is + 7);
        way = way_append undefined ok P s t l.u (13 + f.n) (length is + 7) f.way
            (way_append undefined ok P t v l.u (length is) 7 w.0 l.way);
        fetch = l.fetch;
        does = l.does;
        w = v;
        exit = l.exit;
        rax = st.rax;
        rdx = st.rdx;
        slots = st.slots.slots;
        steps = paced f.n (length is + 8) _ f.through k (omega arith);
      }

  next_at : (q : Read) (s : State) (f : Front q s) (e : End) → part.end ≡ e → Next e q.pc q.stop f.t
  next_at q s f e z = subst (λ (y : End). Next y q.pc q.stop f.t) z f.next

  pub goes_on_leaves : (pc : ℕ) (x : Registers) (q : Read) (s : State)
      → part.end ≡ goes_on pc → pc < 2 ^ 64 → part.added < 2 ^ 64 → Entry ok b c p x code s
      → ((s : State) → Slots b x s → Agree undefined b pl.b_fits part q s) → Leaving q s × (q.stop ≡ plain)
  goes_on_leaves pc x q s e lp ln h f =
      let r = front x q s h f in
      let n : ℕ = part.added in
      let st = sets_both undefined b q.registers r.t pc n r.mid.slots in
      let nx : (pc ≡ q.pc) × (q.stop ≡ plain) = stops r.t (next_at q s r (goes_on pc) e) in
      let z : code ≡ pre ++ (bytes (mov_imm64 RAX pc ∷ mov_imm64 RDX n ∷ []) ++ (bytes closing ++ encode ret)) =
      shape (goes_on pc) e ∙ ap (λ (l : List ℕ). pre ++ l) (goes_on-bytes h1 h2 pc n) in (
        closes (mov_imm64 RAX pc ∷ mov_imm64 RDX n ∷ []) q s r z (unfold Fine Ok AllTame Tame in omega arith)
            (record { slots = st.slots; rax = st.rax ∙ nx.0; rdx = st.rdx ∙ r.same })
            (count (goes_on pc) e ∙ rw (goes_on-length h1 h2 pc n)),
        nx.1,
      )
    where
      stops : (t : State) → Next (goes_on pc) q.pc q.stop t → (pc ≡ q.pc) × (q.stop ≡ plain)
      stops t y = unfold Next in y

  pub jumped_leaves : (x : Registers) (q : Read) (s : State) → part.end ≡ jumped → part.added < 2 ^ 64 → Entry ok b c p x code s
      → ((s : State) → Slots b x s → Agree undefined b pl.b_fits part q s) → Leaving q s × (q.stop ≡ plain)
  jumped_leaves x q s e ln h f =
      let r = front x q s h f in
      let n : ℕ = part.added in
      let st = sets_count undefined b q.registers r.t n r.mid.slots in
      let nx : (r.t.regs RAX ≡ q.pc) × (q.stop ≡ plain) = stops r.t (next_at q s r jumped e) in (
        closes (mov_imm64 RDX n ∷ []) q s r (shape jumped e ∙ ap (λ (l : List ℕ). pre ++ l) (jumped_bytes h1 h2 n))
            (unfold Fine Ok AllTame Tame in omega arith)
            (record { slots = st.slots; rax = st.rax ∙ nx.0; rdx = st.rdx ∙ r.same })
            (count jumped e ∙ rw (jumped_length h1 h2 n)),
        nx.1,
      )
    where
      stops : (t : State) → Next jumped q.pc q.stop t → (t.regs RAX ≡ q.pc) × (q.stop ≡ plain)
      stops t y = unfold Next in y

  -- 5. With a helper

  -- from its return v to the block's; n steps led to the call
  pub record Back (q : Read) (n : ℕ) (e v : State) : Type 0 where
    pub u : State
    pub t : State
    pub m : ℕ
    pub way : Way undefined ok P v u m
    pub fetch : next ok u ≡ Some (fetch ret)
    pub does : step undefined ok u ≡ Some (t, [])
    pub w : State
    pub exit : Exit p e w t
    pub rax : w.regs RAX ≡ v.regs RAX
    pub rdx : w.regs RDX ≡ (v.regs RDX + q.added) % 2 ^ 64
    pub same : w.mem ≡ v.mem
    pub steps : StepsThrough (instrs h1 h2 part) (suc n + suc m)

  pub record Calling (q : Read) (k : Helper) (i : ℕ) (e : State) : Type 0 where
    pub u : State
    pub n : ℕ
    pub way : Way undefined ok P e u n
    pub call : Calls undefined ok P b c p code pl u
    pub slots : (r : ℕ) → r < 32 → read 8 u.mem (b + 8 * r) ≡ q.registers r
    pub r8 : u.regs R8 ≡ q.pc
    pub rcx : u.regs RCX ≡ i
    pub rdi : u.regs RDI ≡ e.regs RSI
    pub rsi : u.regs RSI ≡ e.regs RDX
    pub rdx : u.regs RDX ≡ e.regs RCX
    pub rsp : u.regs RSP ≡ p + 8
    pub target : (one undefined call_rax u).rip ≡ helper_at k h1 h2
    pub slots_inside : (r : ℕ) → r < 32 → read 8 (one undefined call_rax u).mem (b + 8 * r) ≡ q.registers r
    pub back : (v : State) → Returned c p code (one undefined call_rax u) v → v.regs RDX < 2 ^ 64 → Back q n e v

  -- behind the CALL: the earlier count, the closing
  returns : (q : Read) (s u v : State) (n : ℕ) (pre2 : List ℕ) (a k j : ℕ) → StepsThrough part.code j → n < 2 ^ 31 → v.regs RDX < 2 ^ 64
      → code ≡ pre2 ++ (encode call_rax ++ (bytes (add_count n) ++ (bytes closing ++ encode ret)))
      → Inside undefined ok P b c p code pl s q.registers (length pre2 + 2) a (one undefined call_rax u)
      → Returned c p code (one undefined call_rax u) v
      → n ≡ q.added → length (instrs h1 h2 part) ≡ 13 + (length part.code + (7 + (length (add_count n) + 8)))
      → k ≡ 13 + j + 6 → Back q k s v
  returns q s u v n pre2 a k j th ln lv z ins rt sn cn kk =
      let xv : Registers = λ r. read 8 v.mem (b + 8 * r) in
      let end : List ℕ = bytes closing ++ encode ret in
      let m : Mid ok b c p code s xv (length pre2 + 2) v =
      came_back undefined ok P b c p code pl q.registers (length pre2 + 2) a s (one undefined call_rax u) v ins rt in
      let pre3 : List ℕ = pre2 ++ encode call_rax in
      let z3 : code ≡ pre3 ++ (bytes (add_count n) ++ end) = z ∙ sym (append_assoc pre2 (encode call_rax) _) in
      let lk : length pre2 + 2 ≡ length pre3 = sym (length-append pre2 (encode call_rax) ∙ two) in
      let m3 : Mid ok b c p code s xv (length pre3) v = rw lk at m in
      let af = added undefined n v ln lv in
      let w : State = run undefined (add_count n) v in
      let g2 = go_on undefined ok P b c p code pl (add_count n) pre3 end s v w (length (add_count n)) xv xv z3
      (leads_straight undefined (add_count n) v af.0) m3
      (record { base = af.1.rbx ∙ m3.slots.base; slots = λ j l. rw af.1.same }) in
      let l = leave undefined ok P b c p code pl xv (pre3 ++ bytes (add_count n)) s w
      (z3 ∙ sym (append_assoc pre3 (bytes (add_count n)) _)) g2.1 in
      record {
        u = l.u;
        t = l.t;
        m = length (add_count n) + 7;
        way = way_append undefined ok P v w l.u (length (add_count n)) 7 g2.0 l.way;
        fetch = l.fetch;
        does = l.does;
        w = w;
        exit = l.exit;
        rax = af.1.rax;
        rdx = af.1.rdx ∙ rw sn;
        same = af.1.same;
        steps = paced j (7 + (length (add_count n) + 8)) _ th cn (rw kk (omega arith));
      }
    where
      two : length pre2 + length (encode call_rax) ≡ length pre2 + 2
      two = refl

  pub calls_leaves : (k : Helper) (i pc : ℕ) (x : Registers) (q : Read) (s : State) → part.end ≡ calls k i pc
      → i < 2 ^ 64 → pc < 2 ^ 64 → h1 < 2 ^ 64 → h2 < 2 ^ 64 → part.added < 2 ^ 31 → Entry ok b c p x code s
      → ((s : State) → Slots b x s → Agree undefined b pl.b_fits part q s) → Calling q k i s × (q.stop ≡ called k i)
  calls_leaves k i pc x q s e li lp l1 l2 ln h f =
      let r = front x q s h f in
      let n : ℕ = part.added in
      let a : ℕ = helper_at k h1 h2 in
      let s1 : State = r.t in
      let end : List ℕ = bytes (add_count n) ++ (bytes closing ++ encode ret) in
      let z : code ≡ pre ++ (bytes (passes i pc a) ++ (encode call_rax ++ end)) =
      shape (calls k i pc) e ∙ ap (λ (l : List ℕ). pre ++ l) (calls_bytes h1 h2 k i pc n) in
      let nx : (pc ≡ q.pc) × (q.stop ≡ called k i) = stops s1 (next_at q s r (calls k i pc) e) in
      let u : State = run undefined (passes i pc a) s1 in
      let fa : Passed s1 u i pc a = passed undefined i pc a s1 in
      let w = go_on undefined ok P b c p code pl (passes i pc a) pre (encode call_rax ++ end) s s1 u 6 q.registers q.registers
      z (leads_straight undefined (passes i pc a) s1 (fit_passes i pc a li lp (low k))) r.mid
      (record { base = fa.rbx ∙ r.mid.slots.base; slots = λ j l. rw fa.same (r.mid.slots.slots j l) }) in
      let pre2 : List ℕ = pre ++ bytes (passes i pc a) in
      let z2 : code ≡ pre2 ++ (encode call_rax ++ end) = z ∙ sym (append_assoc pre (bytes (passes i pc a)) _) in
      let ca = called_at undefined ok P b c p code pl q.registers (length pre2) s u w.1 in (
        record {
          u = u;
          n = 13 + r.n + 6;
          way = way_append undefined ok P s s1 u (13 + r.n) 6 r.way w.0;
          call = call_step undefined ok P b c p code pl pre2 end s u q.registers z2 w.1;
          slots = w.1.slots.slots;
          r8 = fa.r8 ∙ nx.0;
          rcx = fa.rcx;
          rdi = fa.rdi ∙ r.mid.r12;
          rsi = fa.rsi ∙ r.mid.r13;
          rdx = fa.rdx ∙ r.mid.r14;
          rsp = w.1.rsp;
          target = ca.rip ∙ fa.rax;
          slots_inside = ca.slots;
          back = λ v rt lv. returns q s u v n pre2 (u.regs RAX) (13 + r.n + 6) r.n r.through ln lv z2 ca rt r.same
              (count (calls k i pc) e ∙ rw (calls_length h1 h2 k i pc n)) (omega arith);
        },
        nx.1,
      )
    where
      low : (k : Helper) → helper_at k h1 h2 < 2 ^ 64
      low for_halfword = l1
      low for_access = l2

      stops : (t : State) → Next (calls k i pc) q.pc q.stop t → (pc ≡ q.pc) × (q.stop ≡ called k i)
      stops t y = unfold Next in y
