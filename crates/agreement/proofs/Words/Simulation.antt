-- The walk's code against the manual's reading: one lemma per instruction, then the run of halfwords.
use Rattle.std.proofs.Common.{Bool, false, true, List, [], ◌∷◌, ◌≡◌, ap, refl, subst, sym, ◌+◌, ◌<◌, ◌^◌, ◌≤◌, suc, zero, ℕ, arith, length, drop}
use Rattle.std.specs.Prelude.{Option, None, Some}
use Rattle.agreement.specs.Common.{Helper, Helper.for_access, Helper.for_halfword}
use Rattle.agreement.specs.Riscv.Fields.{opcode, plus, rd, rs1, rs2, shamt5, shamt6}
use Rattle.agreement.specs.Riscv.Instruction.{Branch, Instruction, Op, OpImm, value_op, value_op_imm}
use Rattle.agreement.specs.Riscv.Instruction.Instruction.{AUIPC, FENCE, FENCE_I, JAL, JALR, LUI, access, branch, op, op_imm, other, unmodelled}
use Rattle.agreement.specs.Riscv.Run.{Read, Registers, Stop, does, halt, help, in_line, is_long, jump, one_more, reading, taken, word_of, write_x}
use Rattle.agreement.specs.Riscv.Run.{does_halfword, does_word}
use Rattle.agreement.specs.Riscv.Run.Stop.{called, plain}
use Rattle.agreement.specs.Translation.Decode16.{expand}
use Rattle.agreement.specs.Translation.Emit.{code_branch, code_const, code_jal, code_jalr, code_op, code_op_imm, compare, leftover, load_reg}
use Rattle.agreement.specs.Translation.Walk.{End, Walked, before, emit, helps, jumps, not_taken_at, stops_at, stops_behind, walk, emit_word, emit_halfword}
use Rattle.agreement.specs.Translation.Walk.End.{calls, goes_on, jumped}
use Rattle.agreement.specs.Laws.{Halfwords}
use Rattle.agreement.specs.X86.Execute.{exec}
use Rattle.agreement.specs.X86.Form.{Instr, R10, R11, RAX}
use Rattle.agreement.specs.X86.State.{Flags, State}
use Rattle.agreement.specs.X86.Step.{past}
use Rattle.agreement.proofs.Host.Fetching.{one}
use Rattle.agreement.proofs.Host.Straight.{run}
use Rattle.agreement.proofs.Laws.Expanding.{expand_is, in_line_lt}
use Rattle.agreement.proofs.Laws.Fields.{long_is, opcode_is, rd_is, rs1_is, rs2_is, shamt5_is, shamt6_is, word_of_is}
use Rattle.agreement.proofs.Laws.Immediates.{imm32_is, imm32-lt, imm_b_is, imm_i-lt, imm_j_is, imm_u_is, imm_u-lt}
use Rattle.agreement.proofs.Laws.Leftover.{leftover_by}
use Rattle.agreement.proofs.Laws.Naming.{kind_is}
use Rattle.agreement.proofs.Laws.Runs.{halfwords_drop, halfwords_tail}
use Rattle.agreement.proofs.Words.Fit.{Fit, fit_branch, fit_compare, fit_const, fit_imm, fit_jal, fit_jalr, fit_load, fit_loads}
use Rattle.agreement.proofs.Words.Fit.{fit_nil, Leads, leads_append, leads_straight}
use Rattle.agreement.proofs.Words.Jumps.{Jumped, branch_jumps, const_slots, jal_jumps, jalr_jumps}
use Rattle.agreement.proofs.Words.Op.{op_done}
use Rattle.agreement.proofs.Words.OpImm.{op_imm_slots}
use Rattle.agreement.proofs.Words.Slots.{Slots}
use Rattle.agreement.specs.Translation.Decode32 as Decode32
use Rattle.agreement.specs.Riscv.Immediates as Manual

-- how the walk's end matches the reading's stop
unfoldable pub Next : End → ℕ → Stop → State → Type 0
Next (goes_on pc) pc' st t = (pc ≡ pc') × (st ≡ plain)
Next jumped pc' st t = (t.regs RAX ≡ pc') × (st ≡ plain)
Next (calls h i pc) pc' st t = (pc ≡ pc') × (st ≡ called h i)

plus-lt : (a c : ℕ) → plus a c < 2 ^ 64
plus-lt a c = omega arith

module _ (undefined : State → Flags) (b : ℕ) (fits : b + 256 ≤ 2 ^ 64) where
  -- what a walk p, run from s, makes of a reading q
  pub record Agree (p : Walked) (q : Read) (s : State) : Type 0 where
    pub n : ℕ
    pub t : State
    pub leads : Leads undefined p.code s n t
    pub slots : Slots b q.registers t
    pub same : p.added ≡ q.added
    pub next : Next p.end q.pc q.stop t

  -- code that changes no slot
  Idle : Registers → State → List Instr → Type 0
  Idle x s is = Fit is × Slots b x (run undefined is s)

  left_over : (o r q : ℕ) → r < 32 → q < 32 → (x : Registers) (s : State) → Slots b x s → Idle x s (leftover o r q)
  left_over o r q lr lq x s h = leftover_by (Idle x s) o r q o3 o2 o1 o0
    where
      o3 : Idle x s (compare r q)
      o3 = unfold Idle in (fit_compare r q lr lq, unfold run one past exec in record { base = h.base; slots = h.slots })

      o2 : Idle x s (load_reg R10 r ∷ load_reg R11 q ∷ [])
      o2 = unfold Idle in (fit_loads r q lr lq, unfold run one past exec in record { base = h.base; slots = h.slots })

      o1 : Idle x s (load_reg R10 r ∷ [])
      o1 = unfold Idle in (fit_load r lr, unfold run one past exec in record { base = h.base; slots = h.slots })

      o0 : Idle x s []
      o0 = unfold Idle in (fit_nil, unfold run in h)

  -- how a walk stops
  idly : (s : State) → Leads undefined [] s 0 s
  unfolding run
  idly s = leads_straight undefined [] s fit_nil

  stopped : (pc : ℕ) (x : Registers) (s : State) → Slots b x s → Agree (stops_at pc) (halt x pc) s
  unfolding run Next
  stopped pc x s h = record { n = 0; t = s; leads = idly s; slots = h; same = refl; next = (refl, refl) }

  calling : (k : Helper) (i pc : ℕ) (x : Registers) (s : State) → Slots b x s → Agree (helps k i pc) (help x pc k i) s
  unfolding run Next
  calling k i pc x s h = record { n = 0; t = s; leads = idly s; slots = h; same = refl; next = (refl, refl) }

  not_taken : (pc w : ℕ) (x : Registers) (s : State) → Slots b x s → Agree (not_taken_at pc w) (halt x pc) s
  not_taken pc w x s h = rw (opcode_is w, rs1_is w, rs2_is w) (by (left_over (opcode w) (rs1 w) (rs2 w) (omega arith) (omega arith) x s h))
    where
      by : Idle x s (leftover (opcode w) (rs1 w) (rs2 w))
          → Agree (record { code = leftover (opcode w) (rs1 w) (rs2 w); added = 0; span = 0; end = goes_on pc }) (halt x pc) s
      by q = unfold Idle Next in record {
        n = _;
        t = run undefined (leftover (opcode w) (rs1 w) (rs2 w)) s;
        leads = leads_straight undefined _ s q.0;
        slots = q.1;
        same = refl;
        next = (refl, refl);
      }

  jumping : (z : ℕ) (is : List Instr) (x : Registers) (pc : ℕ) (s : State) → Fit is
      → Jumped b x pc (run undefined is s) → Agree (jumps z is) (jump x pc) s
  unfolding Next
  jumping z is x pc s f j = record {
    n = length is;
    t = run undefined is s;
    leads = leads_straight undefined is s f;
    slots = j.slots;
    same = refl;
    next = (j.rax, refl);
  }

  stopping : (z : ℕ) (is : List Instr) (x : Registers) (pc : ℕ) (s : State) → Fit is
      → Slots b x (run undefined is s) → Agree (stops_behind z is pc) (jump x pc) s
  unfolding Next
  stopping z is x pc s f h = record {
    n = length is;
    t = run undefined is s;
    leads = leads_straight undefined is s f;
    slots = h;
    same = refl;
    next = (refl, refl);
  }

  -- a straight word before a walk
  along : (z : ℕ) (is : List Instr) (p : Walked) (r : Read) (s t : State) (n : ℕ) → Leads undefined is s n t → Agree p r t
      → Agree (before z is p) (one_more r) s
  along z is p r s t n l a = record {
    n = n + a.n;
    t = a.t;
    leads = leads_append undefined is p.code s t a.t n a.n l a.leads;
    slots = a.slots;
    same = ap suc a.same;
    next = a.next;
  }

  then : (z : ℕ) (is : List Instr) (p : Walked) (r : Read) (s : State) → Fit is → Agree p r (run undefined is s)
      → Agree (before z is p) (one_more r) s
  then z is p r s f a = along z is p r s (run undefined is s) (length is) (leads_straight undefined is s f) a

  -- what is shown of an instruction; the last premise goes on with what follows it
  abbrev WordAgrees : Instruction → Type 0
  WordAgrees i =
      (z pc w : ℕ) (p : Walked) (x : Registers) (k : Registers → Read) (s : State) → w < 2 ^ 32 → Slots b x s
      → ((x : Registers) (s : State) → Slots b x s → Agree p (k x) s) → Agree (emit i z pc w p) (does i z pc w x k) s

  -- one lemma per instruction or family; where the proof is one line it stands in `agree_word`
  agree_op : (o : Op) → WordAgrees (op o)
  unfolding emit does
  agree_op o z pc w p x k s lw h f = rw (rd_is w, rs1_is w, rs2_is w)
      (let d = op_done undefined b fits o x s (rd w) (rs1 w) (rs2 w) h (omega arith) (omega arith) (omega arith) in
      along z (code_op o (rd w) (rs1 w) (rs2 w)) p (k (write_x x (rd w) (value_op o (x (rs1 w)) (x (rs2 w))))) s d.t d.n
      d.leads (f _ _ d.slots))

  agree_op_imm : (o : OpImm) → WordAgrees (op_imm o)
  unfolding emit does
  agree_op_imm o z pc w p x k s lw h f = rw (rd_is w, rs1_is w, shamt6_is w, shamt5_is w)
      (then z (code_op_imm o (rd w) (rs1 w) (Decode32.imm32 w) (shamt6 w) (shamt5 w)) p
      (k (write_x x (rd w) (value_op_imm o (x (rs1 w)) (Manual.imm_i w) (shamt6 w) (shamt5 w)))) s
      (fit_imm o (rd w) (rs1 w) (Decode32.imm32 w) (shamt6 w) (shamt5 w)
      (omega arith) (omega arith) (imm32-lt w) (omega arith) (omega arith))
      (f _ _ (op_imm_slots undefined b fits o x s (rd w) (rs1 w) (Decode32.imm32 w) (Manual.imm_i w) (shamt6 w) (shamt5 w) h
      (omega arith) (omega arith) (imm_i-lt w) (omega arith) (omega arith) (imm32_is w lw))))

  agree_lui : WordAgrees LUI
  unfolding emit does
  agree_lui z pc w p x k s lw h f = rw (imm_u_is w, rd_is w)
      (then z (code_const (rd w) (Manual.imm_u w)) p (k (write_x x (rd w) (Manual.imm_u w))) s
      (fit_const (rd w) (Manual.imm_u w) (omega arith) (imm_u-lt w))
      (f _ _ (const_slots undefined b fits x s (rd w) (Manual.imm_u w) h (omega arith) (imm_u-lt w))))

  agree_auipc : WordAgrees AUIPC
  unfolding emit does
  agree_auipc z pc w p x k s lw h f = rw (imm_u_is w, rd_is w)
      (then z (code_const (rd w) (plus pc (Manual.imm_u w))) p (k (write_x x (rd w) (plus pc (Manual.imm_u w)))) s
      (fit_const (rd w) (plus pc (Manual.imm_u w)) (omega arith) (plus-lt pc (Manual.imm_u w)))
      (f _ _ (const_slots undefined b fits x s (rd w) (plus pc (Manual.imm_u w)) h (omega arith) (plus-lt pc (Manual.imm_u w)))))

  agree_branch : (c : Branch) → WordAgrees (branch c)
  unfolding emit does
  agree_branch c z pc w p x k s lw h f = rw (imm_b_is w, rs1_is w, rs2_is w)
      (jumping z (code_branch c (rs1 w) (rs2 w) (plus pc z) (plus pc (Manual.imm_b w))) x _ s
      (fit_branch c (rs1 w) (rs2 w) (plus pc z) (plus pc (Manual.imm_b w))
      (omega arith) (omega arith) (plus-lt pc z) (plus-lt pc (Manual.imm_b w)))
      (branch_jumps undefined b fits c x s (rs1 w) (rs2 w) (plus pc z) (plus pc (Manual.imm_b w)) h (omega arith) (omega arith)))

  agree_jal : WordAgrees JAL
  unfolding emit does
  agree_jal z pc w p x k s lw h f = rw (imm_j_is w, rd_is w)
      (jumping z (code_jal (rd w) (plus pc z) (plus pc (Manual.imm_j w))) (write_x x (rd w) (plus pc z)) _ s
      (fit_jal (rd w) (plus pc z) (plus pc (Manual.imm_j w)) (omega arith) (plus-lt pc z) (plus-lt pc (Manual.imm_j w)))
      (jal_jumps undefined b fits x s (rd w) (plus pc z) (plus pc (Manual.imm_j w)) h (omega arith) (plus-lt pc z)))

  agree_jalr : WordAgrees JALR
  unfolding emit does
  agree_jalr z pc w p x k s lw h f = rw (rd_is w, rs1_is w)
      (jumping z (code_jalr (rd w) (rs1 w) (Decode32.imm32 w) (plus pc z)) (write_x x (rd w) (plus pc z)) _ s
      (fit_jalr (rd w) (rs1 w) (Decode32.imm32 w) (plus pc z) (omega arith) (omega arith) (imm32-lt w) (plus-lt pc z))
      (jalr_jumps undefined b fits x s (rd w) (rs1 w) (Decode32.imm32 w) (Manual.imm_i w) (plus pc z) h
      (omega arith) (omega arith) (imm32_is w lw) (plus-lt pc z)))

  agree_word : (i : Instruction) → WordAgrees i
  unfolding emit does
  agree_word (op o) = agree_op o
  agree_word (op_imm o) = agree_op_imm o
  agree_word LUI = agree_lui
  agree_word AUIPC = agree_auipc
  agree_word FENCE = λ z pc w p x k s lw h f. then z [] p (k x) s fit_nil (unfold run in f x s h)
  agree_word FENCE_I = λ z pc w p x k s lw h f. stopping z _ x _ s fit_nil (unfold run in h)
  agree_word (branch c) = agree_branch c
  agree_word JAL = agree_jal
  agree_word JALR = agree_jalr
  agree_word (access a) = λ z pc w p x k s lw h f. calling for_access w pc x s h
  agree_word (unmodelled o) = λ z pc w p x k s lw h f. not_taken pc w x s h
  agree_word other = λ z pc w p x k s lw h f. not_taken pc w x s h

  -- a word of the run, if its upper halfword is there
  agree_long : (pc g : ℕ) (hs : List ℕ) (p : Walked) (x : Registers) (k : Registers → Read) (s : State) → Halfwords (g ∷ hs) → Slots b x s
      → ((x : Registers) (s : State) → Slots b x s → Agree p (k x) s) → Agree (emit_word pc g hs p) (does_word pc g hs x k) s
  unfolding Halfwords
  agree_long pc g [] p x k s l h f = stopped pc x s h
  agree_long pc g (u ∷ hs) p x k s l h f =
      rw (word_of_is g u l.0, kind_is (word_of g u)) (agree_word (taken (word_of g u)) 4 pc (word_of g u) p x k s (w_lt l.0 l.1.0) h f)
    where
      w_lt : g < 65536 → u < 65536 → word_of g u < 2 ^ 32
      w_lt p q = omega arith

  -- a halfword: the word that it is translated and read as, or the helper
  agree_short : (pc g : ℕ) (p : Walked) (x : Registers) (k : Registers → Read) (s : State) → Slots b x s
      → ((x : Registers) (s : State) → Slots b x s → Agree p (k x) s)
      → Agree (emit_halfword (expand g) pc g p) (does_halfword (in_line g) pc g x k) s
  agree_short pc g p x k s h f = rw (expand_is g) (by (in_line g) refl)
    where
      by : (o : Option ℕ) → in_line g ≡ o → Agree (emit_halfword o pc g p) (does_halfword o pc g x k) s
      by None e = calling for_halfword g pc x s h
      by (Some w) e =
          rw (kind_is w) (agree_word (taken w) 2 pc w p x k s (in_line_lt g w e) h f)

  pub agree : (n pc : ℕ) (hs : List ℕ) (x : Registers) (s : State) → Halfwords hs → Slots b x s → Agree (walk n pc hs) (reading n pc hs x) s
  unfolding walk reading
  agree zero pc hs x s l h = stopped pc x s h
  agree (suc n) pc [] x s l h = stopped pc x s h
  agree (suc n) pc (g ∷ hs) x s l h =
      subst A (sym (long_is g))
      (by (is_long g) (λ x s. agree n (plus pc 4) (drop 1 hs) x s (halfwords_drop g hs l))
      (λ x s. agree n (plus pc 2) hs x s (halfwords_tail g hs l)))
    where
      p : Bool → Walked
      p t = elim t [
        | true ↦ emit_word pc g hs (walk n (plus pc 4) (drop 1 hs))
        | false ↦ emit_halfword (expand g) pc g (walk n (plus pc 2) hs)
      ]

      q : Bool → Read
      q t = elim t [
        | true ↦ does_word pc g hs x (reading n (plus pc 4) (drop 1 hs))
        | false ↦ does_halfword (in_line g) pc g x (reading n (plus pc 2) hs)
      ]

      A : Bool → Type 0
      A t = Agree (p t) (q (is_long g)) s

      Follows : ℕ → List ℕ → Type 0
      Follows z hs =
          (x : Registers) (s : State) → Slots b x s → Agree (walk n (plus pc z) hs) (reading n (plus pc z) hs x) s

      by : (t : Bool) → Follows 4 (drop 1 hs) → Follows 2 hs → Agree (p t) (q t) s
      by true f k = agree_long pc g hs _ x _ s l h f
      by false f k = agree_short pc g _ x _ s h k
