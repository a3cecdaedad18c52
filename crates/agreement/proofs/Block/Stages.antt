-- The stages of a block: entry, in the middle of it, at a helper's first instruction, and how each leads to the next.
-- b: the registers' address; c: the block's; p: 64 below the entry stack pointer; P: the addresses that may be written.
use Rattle.std.proofs.Common.{Bool, false, true, List, [], ◌++◌, append_assoc, ◌∙◌, ◌≡◌, ap, refl, sym, ◌%◌, ◌*◌, ◌+◌, ◌-◌, ◌<◌, ◌^◌, ◌≤◌}
use Rattle.std.specs.Prelude.{Some}
use Rattle.std.proofs.Common.{ℕ, arith, length, length-append}
use Rattle.agreement.specs.Riscv.Run.{Registers}
use Rattle.agreement.specs.Translation.Emit.{closing, opening}
use Rattle.agreement.specs.Statement.Premises.{Apart}
use Rattle.agreement.specs.X86.Encode.{bytes, encode}
use Rattle.agreement.specs.X86.Execute.{accesses, exec, faults}
use Rattle.agreement.specs.X86.Form.{Instr, Instr.call_rax, Instr.ret, Ok, R12, R13, R14, R15, RAX, RBP, RBX, RCX, RDI, RDX, RSI, RSP}
use Rattle.agreement.specs.X86.Memory.{Memory, at, read, span, write}
use Rattle.agreement.specs.X86.State.{Flags, Permissions, State, set}
use Rattle.agreement.specs.X86.Step.{Goes, all, next, past, step}
use Rattle.agreement.proofs.Block.Frame.{Closed, Framed, Opened, above_read, at_read, closed, closing_safe, closing_trace, frame}
use Rattle.agreement.proofs.Block.Frame.{frame_out, framed, framed_same, opened, opening_safe, opening_trace, stack_all}
use Rattle.agreement.proofs.Host.Fetching.{Holds, fetch, holds-bytes, holds_ext, holds_split, next_is, one, step_is, writes}
use Rattle.agreement.proofs.Host.Memory.{read-bytes, read_ext, write_out, read_other}
use Rattle.agreement.proofs.Host.Straight.{Fine, Kept, Safe, all_append, all-span, goes_append, ran, run, trace, unlogged}
use Rattle.agreement.proofs.Words.Fit.{Leads}
use Rattle.agreement.proofs.Words.Slots.{Slots}
use Rattle.agreement.proofs.Words.Tame.{Within, trod}

-- 1. The relations

-- where things stand
pub record Place (ok : Permissions) (P : ℕ → Bool) (b c p : ℕ) (code : List ℕ) : Type 0 where
  pub b_fits : b + 256 ≤ 2 ^ 64
  pub p_fits : p + 72 ≤ 2 ^ 64
  pub c_fits : c + length code ≤ 2 ^ 64
  pub c_low : c < 2 ^ 64
  pub c_b : Apart c (length code) b 256
  pub c_p : Apart c (length code) p 72
  pub b_p : Apart b 256 p 72
  pub b_read : (i : ℕ) → i < 256 → ok.read (b + i) ≡ true
  pub b_write : (i : ℕ) → i < 256 → ok.write (b + i) ≡ true
  pub p_read : (i : ℕ) → i < 72 → ok.read (p + i) ≡ true
  pub p_write : (i : ℕ) → i < 72 → ok.write (p + i) ≡ true
  pub own_b : (i : ℕ) → 8 ≤ i → i < 256 → P (b + i) ≡ true
  pub own_p : (i : ℕ) → 16 ≤ i → i < 64 → P (p + i) ≡ true
  pub own_r : (i : ℕ) → i < 8 → P (p + i) ≡ true

pub record Entry (ok : Permissions) (b c p : ℕ) (x : Registers) (code : List ℕ) (s : State) : Type 0 where
  pub at_code : s.rip ≡ c
  pub rdi : s.regs RDI ≡ b
  pub rsp : s.regs RSP ≡ p + 64
  pub held : Holds ok.fetch s.mem c code
  pub slots : (r : ℕ) → r < 32 → read 8 s.mem (b + 8 * r) ≡ x r
  pub words : (k : ℕ) → k < 16 → s.regs k < 2 ^ 64

-- in the middle of a block that was entered in the state e, o bytes of the code behind us
pub record Mid (ok : Permissions) (b c p : ℕ) (code : List ℕ) (e : State) (x : Registers) (o : ℕ) (s : State) : Type 0 where
  pub rip : s.rip ≡ at c o
  pub held : Holds ok.fetch s.mem c code
  pub slots : Slots b x s
  pub rsp : s.regs RSP ≡ p + 8
  pub r12 : s.regs R12 ≡ e.regs RSI
  pub r13 : s.regs R13 ≡ e.regs RDX
  pub r14 : s.regs R14 ≡ e.regs RCX
  pub frame : Framed e p s.mem

-- returned in t, the closing having begun in s
pub record Exit (p : ℕ) (e s t : State) : Type 0 where
  pub rip : t.rip ≡ read 8 e.mem (p + 64)
  pub rsp : t.regs RSP ≡ at (p + 64) 8
  pub rbx : t.regs RBX ≡ e.regs RBX
  pub rbp : t.regs RBP ≡ e.regs RBP
  pub r12 : t.regs R12 ≡ e.regs R12
  pub r13 : t.regs R13 ≡ e.regs R13
  pub r14 : t.regs R14 ≡ e.regs R14
  pub r15 : t.regs R15 ≡ e.regs R15
  pub rax : t.regs RAX ≡ s.regs RAX
  pub rdx : t.regs RDX ≡ s.regs RDX
  pub same : t.mem ≡ s.mem

-- what a block needs of a helper entered in u and returned in v
pub record Returned (c p : ℕ) (code : List ℕ) (u v : State) : Type 0 where
  pub rip : v.rip ≡ read 8 u.mem (u.regs RSP)
  pub rsp : v.regs RSP ≡ at (u.regs RSP) 8
  pub rbx : v.regs RBX ≡ u.regs RBX
  pub r12 : v.regs R12 ≡ u.regs R12
  pub r13 : v.regs R13 ≡ u.regs R13
  pub r14 : v.regs R14 ≡ u.regs R14
  pub frame : (j : ℕ) → j < 56 → v.mem (p + (16 + j)) % 256 ≡ u.mem (p + (16 + j)) % 256
  pub block : (i : ℕ) → i < length code → v.mem (at c i) % 256 ≡ u.mem (at c i) % 256

-- n straight steps that write only in P
pub record Way (undefined : State → Flags) (ok : Permissions) (P : ℕ → Bool) (s t : State) (n : ℕ) : Type 0 where
  pub ws : List ℕ
  pub goes : Goes undefined ok s n ws t
  pub own : all P ws ≡ true

module _ (undefined : State → Flags) (ok : Permissions) (P : ℕ → Bool) where
  pub way_append : (s t u : State) (n m : ℕ) → Way undefined ok P s t n → Way undefined ok P t u m → Way undefined ok P s u (n + m)
  way_append s t u n m x y = record {
    ws = x.ws ++ y.ws;
    goes = goes_append undefined ok x.goes y.goes;
    own = all_append P x.ws y.ws x.own y.own;
  }

  pub way_out : (s t : State) (n : ℕ) → Way undefined ok P s t n → (x : ℕ) → P x ≡ false → t.mem x ≡ s.mem x
  way_out s t n w x e = unlogged undefined ok P x w.goes w.own e

opening_fine : Fine opening
unfolding Fine Ok
opening_fine = omega arith

closing_fine : Fine closing
unfolding Fine Ok
closing_fine = omega arith

nothing : (P : ℕ → Bool) → all P [] ≡ true
unfolding all
nothing P = refl

ret_state : (undefined : State → Flags) (s : State)
    → one undefined ret s ≡ record {
      regs = set s.regs RSP (at (s.regs RSP) 8);
      flags = s.flags;
      rip = read 8 s.mem (s.regs RSP);
      mem = s.mem;
    }
unfolding one past exec
ret_state undefined s = refl

ok_ret : Ok ret
unfolding Ok
ok_ret = tt

ok_call : Ok call_rax
unfolding Ok
ok_call = tt

module _ (undefined : State → Flags) (ok : Permissions) (P : ℕ → Bool) (b c p : ℕ) (code : List ℕ) (pl : Place ok P b c p code) where
  -- 2. From the entry through the opening

  pub begin : (x : Registers) (post : List ℕ) (s : State) → code ≡ bytes opening ++ post → Entry ok b c p x code s
      → Way undefined ok P s (run undefined opening s) (length opening)
      × Mid ok b c p code s x (length (bytes opening)) (run undefined opening s)
  begin x post s q h =
      let t : State = run undefined opening s in
      let pf : p + 72 ≤ 2 ^ 64 = pl.p_fits in
      let bf : b + 256 ≤ 2 ^ 64 = pl.b_fits in
      let lo : c < 2 ^ 64 = pl.c_low in
      let o : Opened undefined s p h.rsp pf t = opened undefined s p h.rsp pf in
      let z : s.rip ≡ at c 0 = h.at_code ∙ omega arith in
      let sf : Safe undefined ok c (length code) opening s =
      opening_safe undefined s p h.rsp pf ok pl.p_write c (length code) pl.c_fits (λ i j l o. pl.c_p i j l (omega arith)) in
      let r = ran undefined ok c code opening [] post s q lo opening_fine sf h.held z in
      let sl : (r : ℕ) → r < 32 → read 8 (frame s p) (b + 8 * r) ≡ read 8 s.mem (b + 8 * r) = λ r l.
      read_ext 8 (frame s p) s.mem (b + 8 * r) (omega arith) (λ i k. frame_out s p pf (at (b + 8 * r) i) (λ j o.
      omega (arith, pl.b_p (8 * r + i) j (omega arith) (omega arith)))) in (
        record { ws = trace undefined opening s; goes = r.reached; own = opening_trace undefined s p h.rsp pf P pl.own_p },
        record {
          rip = r.there ∙ ap (at c) (omega arith);
          held = r.held;
          slots = record { base = o.rbx ∙ h.rdi; slots = λ r l. rw o.memory (sl r l ∙ h.slots r l) };
          rsp = o.rsp;
          r12 = o.r12;
          r13 = o.r13;
          r14 = o.r14;
          frame = rw o.memory (framed s p pf h.words);
        },
      )

  -- 3. Through a run of words

  -- only slots were written: the frame is as it was
  frame_kept : (e s t : State) → Within b s t → Framed e p s.mem → Framed e p t.mem
  frame_kept e s t w h = framed_same e p s.mem t.mem (λ k l m.
      let f : p + 72 ≤ 2 ^ 64 = pl.p_fits in
      let f' : b + 256 ≤ 2 ^ 64 = pl.b_fits in
      read_ext 8 t.mem s.mem (p + k) (omega arith) (λ i o. w.outside (at (p + k) i) (λ j u.
      omega (arith, pl.b_p j (k + i) u (omega arith))))) h

  pub go_on : (is : List Instr) (pre post : List ℕ) (e s t : State) (n : ℕ) (x x' : Registers) → code ≡ pre ++ (bytes is ++ post)
      → Leads undefined is s n t → Mid ok b c p code e x (length pre) s → Slots b x' t
      → Way undefined ok P s t n × Mid ok b c p code e x' (length (pre ++ bytes is)) t
  go_on is pre post e s t n x x' q ld h sl =
      let r = trod undefined b pl.b_fits ok P c code pl.b_read pl.b_write pl.own_b pl.c_low pl.c_fits pl.c_b
      is pre post s t n q ld.sound.allowed ld.sound.tame ld.path h.slots.base h.held h.rip in
      let w : Within b s t = r.within in (
        record { ws = r.ws; goes = r.goes; own = r.own },
        record {
          rip = r.there ∙ ap (at c) (sym (length-append pre (bytes is)));
          held = r.held;
          slots = sl;
          rsp = w.saved.rsp ∙ h.rsp;
          r12 = w.saved.r12 ∙ h.r12;
          r13 = w.saved.r13 ∙ h.r13;
          r14 = w.saved.r14 ∙ h.r14;
          frame = frame_kept e s t w h.frame;
        },
      )

  -- 4. Through the closing and its RET

  pub record Leaves (e s : State) : Type 0 where
    pub u : State
    pub t : State
    pub way : Way undefined ok P s u (length closing)
    pub fetch : next ok u ≡ Some (fetch ret)
    pub does : step undefined ok u ≡ Some (t, [])
    pub exit : Exit p e s t

  ret_step : (u : State) → Holds ok.fetch u.mem u.rip (encode ret) → all ok.read (span 8 (u.regs RSP)) ≡ true
      → step undefined ok u ≡ Some (one undefined ret u, [])
  ret_step u h a =
      by (step_is undefined ok ret u ok_ret h (unfold faults in refl) (unfold accesses in a) (unfold accesses in nothing ok.write))
    where
      by : step undefined ok u ≡ Some (one undefined ret u, writes ret u) → step undefined ok u ≡ Some (one undefined ret u, [])
      by e = unfold accesses in e

  pub leave : (x : Registers) (pre : List ℕ) (e s : State) → code ≡ pre ++ (bytes closing ++ encode ret)
      → Mid ok b c p code e x (length pre) s → Leaves e s
  leave x pre e s q h =
      let lo : c < 2 ^ 64 = pl.c_low in
      let pf : p + 72 ≤ 2 ^ 64 = pl.p_fits in
      let u : State = run undefined closing s in
      let cl : Closed undefined s p h.rsp pf u = closed undefined s p h.rsp pf in
      let sf : Safe undefined ok c (length code) closing s = closing_safe undefined s p h.rsp pf ok pl.p_read c (length code) in
      let r = ran undefined ok c code closing pre (encode ret) s q lo closing_fine sf h.held h.rip in
      let w : List ℕ = pre ++ bytes closing in
      let q' : code ≡ w ++ encode ret = rw append_assoc q in
      let hh = holds_split ok.fetch u.mem c w (encode ret) lo (rw q' at r.held) in
      let z : u.rip ≡ at c (length w) = r.there ∙ ap (at c) (sym (length-append pre (bytes closing))) in
      let hr : Holds ok.fetch u.mem u.rip (encode ret) = rw z hh.1 in
      let sr : all ok.read (span 8 (p + 64)) ≡ true =
      stack_all p pf ok.read 0 (λ j l m. pl.p_read j m) 64 (omega arith) (omega arith) in
      record {
        u = u;
        t = one undefined ret u;
        way = record { ws = trace undefined closing s; goes = r.reached; own = rw (closing_trace undefined s p h.rsp pf) (nothing P) };
        fetch = next_is ok ret u ok_ret hr;
        does = ret_step u hr (rw cl.rsp sr);
        exit = exits u cl;
      }
    where
      exits : (u : State) → Closed undefined s p h.rsp pl.p_fits u → Exit p e s (one undefined ret u)
      exits u cl = rw (ret_state undefined u) (record {
        rip = rw (cl.rsp, cl.same) h.frame.f64;
        rsp = rw cl.rsp;
        rbx = cl.rbx ∙ h.frame.f56;
        rbp = cl.rbp ∙ h.frame.f48;
        r12 = cl.r12 ∙ h.frame.f40;
        r13 = cl.r13 ∙ h.frame.f32;
        r14 = cl.r14 ∙ h.frame.f24;
        r15 = cl.r15 ∙ h.frame.f16;
        rax = cl.rax;
        rdx = cl.rdx;
        same = cl.same;
      })

  -- 5. Through the CALL of a helper

  -- at the helper's first instruction, the CALL's successor k bytes into the code
  pub record Inside (e : State) (x : Registers) (k a : ℕ) (u : State) : Type 0 where
    pub rip : u.rip ≡ a
    pub rsp : u.regs RSP ≡ p
    pub back : read 8 u.mem p ≡ at c k
    pub held : Holds ok.fetch u.mem c code
    pub base : u.regs RBX ≡ b
    pub slots : (r : ℕ) → r < 32 → read 8 u.mem (b + 8 * r) ≡ x r
    pub r12 : u.regs R12 ≡ e.regs RSI
    pub r13 : u.regs R13 ≡ e.regs RDX
    pub r14 : u.regs R14 ≡ e.regs RCX
    pub frame : Framed e p u.mem

  -- a slot is not among the eight bytes at p
  slot_kept : (m : Memory) (v r : ℕ) → r < 32 → read 8 (write 8 m p v) (b + 8 * r) ≡ read 8 m (b + 8 * r)
  slot_kept m v r l =
      let f : p + 72 ≤ 2 ^ 64 = pl.p_fits in
      let g : b + 256 ≤ 2 ^ 64 = pl.b_fits in
      read_other 8 8 m p v (b + 8 * r) (omega arith) (omega arith) (λ i j h k.
      let y : at (b + 8 * r) i ≡ b + (8 * r + i) = omega arith in
      let z : at p j ≡ p + j = omega arith in
      rw (y, z) (pl.b_p (8 * r + i) j (omega arith) (omega arith)))

  pub called_at : (x : Registers) (k : ℕ) (e u : State) → Mid ok b c p code e x k u
      → Inside e x (k + 2) (u.regs RAX) (one undefined call_rax u)
  unfolding one past exec
  called_at x k e u h =
      let f : p + 72 ≤ 2 ^ 64 = pl.p_fits in
      let lo : c < 2 ^ 64 = pl.c_low in
      let cf : c + length code ≤ 2 ^ 64 = pl.c_fits in
      let z : at (p + 8) (2 ^ 64 - 8) ≡ p = omega arith in
      let y : at (at c k) 2 ≡ at c (k + 2) = omega arith in
      let v : ℕ = at c (k + 2) in
      let m : Memory = write 8 u.mem p v in
      let me : write 8 u.mem (at (u.regs RSP) (2 ^ 64 - 8)) (at u.rip 2) ≡ m = rw (h.rsp, z, h.rip, y) in
      let kept : Kept c (length code) u.mem m = λ j l. write_out 8 u.mem p v (at c j) (omega arith) (λ o w.
      omega (arith, pl.c_p j o l (omega arith))) in
      record {
        rip = refl;
        rsp = rw (h.rsp, z);
        back = rw me (at_read u.mem p v (omega arith) (omega arith));
        held = rw me (holds_ext ok.fetch u.mem m c code lo kept h.held);
        base = h.slots.base;
        slots = λ r l. rw me (slot_kept u.mem v r l ∙ h.slots.slots r l);
        r12 = h.r12;
        r13 = h.r13;
        r14 = h.r14;
        frame = rw me (framed_same e p u.mem m (λ k l o. above_read u.mem p v (p + k) (omega arith) (omega arith)) h.frame);
      }

  pub record Calls (u : State) : Type 0 where
    pub ws : List ℕ
    pub fetch : next ok u ≡ Some (fetch call_rax)
    pub does : step undefined ok u ≡ Some (one undefined call_rax u, ws)
    pub own : all P ws ≡ true

  -- the CALL writes the eight bytes at p
  call_writes : (u : State) → u.regs RSP ≡ p + 8 → writes call_rax u ≡ span 8 p
  unfolding accesses
  call_writes u e = let f : p + 72 ≤ 2 ^ 64 = pl.p_fits in let z : at (p + 8) (2 ^ 64 - 8) ≡ p = omega arith in rw (e, z)

  span_p : (Q : ℕ → Bool) → ((i : ℕ) → i < 8 → Q (p + i) ≡ true) → all Q (span 8 p) ≡ true
  span_p Q h =
      let f : p + 72 ≤ 2 ^ 64 = pl.p_fits in
      all-span Q 8 p (omega arith) (λ i j. let z : at p i ≡ p + i = omega arith in rw z (h i j))

  pub call_step : (pre post : List ℕ) (e u : State) (x : Registers) → code ≡ pre ++ (encode call_rax ++ post)
      → Mid ok b c p code e x (length pre) u → Calls u
  call_step pre post e u x z m =
      let lo : c < 2 ^ 64 = pl.c_low in
      let hh = holds_split ok.fetch u.mem c pre (encode call_rax ++ post) lo (rw z at m.held) in
      let ll : at c (length pre) < 2 ^ 64 = omega arith in
      let hc = holds_split ok.fetch u.mem (at c (length pre)) (encode call_rax) post ll hh.1 in
      let hi : Holds ok.fetch u.mem u.rip (encode call_rax) = rw m.rip hc.0 in
      let w : writes call_rax u ≡ span 8 p = call_writes u m.rsp in
      let wr : all ok.write (writes call_rax u) ≡ true = rw w (span_p ok.write (λ i l. pl.p_write i (omega arith))) in
      record {
        ws = writes call_rax u;
        fetch = next_is ok call_rax u ok_call hi;
        does = step_is undefined ok call_rax u ok_call hi (unfold faults in refl) (unfold accesses in nothing ok.read) wr;
        own = rw w (span_p P pl.own_r);
      }

  -- 6. Back from the helper

  pub came_back : (x : Registers) (k a : ℕ) (e u v : State) → Inside e x k a u → Returned c p code u v
      → Mid ok b c p code e (λ r. read 8 v.mem (b + 8 * r)) k v
  came_back x k a e u v h r =
      let f : p + 72 ≤ 2 ^ 64 = pl.p_fits in
      let lo : c < 2 ^ 64 = pl.c_low in
      record {
        rip = r.rip ∙ rw h.rsp h.back;
        held = holds-bytes ok.fetch u.mem v.mem c code lo r.block h.held;
        slots = record { base = r.rbx ∙ h.base; slots = λ i l. refl };
        rsp = r.rsp ∙ rw h.rsp (omega arith);
        r12 = r.r12 ∙ h.r12;
        r13 = r.r13 ∙ h.r13;
        r14 = r.r14 ∙ h.r14;
        frame = framed_same e p u.mem v.mem cell h.frame;
      }
    where
      cell : (k : ℕ) → 16 ≤ k → k ≤ 64 → read 8 v.mem (p + k) ≡ read 8 u.mem (p + k)
      cell k l m =
          let f : p + 72 ≤ 2 ^ 64 = pl.p_fits in
          read-bytes 8 v.mem u.mem (p + k) (omega arith) (λ j o.
          let z : at (p + k) j ≡ p + (16 + (k - 16 + j)) = omega arith in rw z (r.frame (k - 16 + j) (omega arith)))
