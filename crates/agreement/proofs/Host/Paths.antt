-- A way through a list of instructions, some of which jump over others.
use Rattle.std.proofs.Common.{Bool, false, true, List, [], ◌++◌, ◌∷◌, append_assoc, ◌≢◌, ◌∙◌, ◌≡◌, ap, refl, sym, ◌+◌, ◌≤◌, suc, ℕ, arith}
use Rattle.std.proofs.Common.{length, length-append}
use Rattle.agreement.proofs.Host.Jumpless.{StepsThrough, is_jump, jumpless}
use Rattle.agreement.specs.X86.Encode.{bytes, encode}
use Rattle.agreement.specs.X86.Execute.{faults}
use Rattle.agreement.specs.X86.Form.{Instr}
use Rattle.agreement.specs.X86.Form.Instr.{call_rax, ret}
use Rattle.agreement.specs.X86.Memory.{at}
use Rattle.agreement.specs.X86.State.{Flags, State}
use Rattle.agreement.proofs.Host.Fetching.{one}
use Rattle.agreement.proofs.Host.Straight.{Fine, calm, not_call, not_ret, one_rip, run}

-- in the state s the instruction i goes on behind the instructions xs that follow it, which are none unless it is a jump
pub record Passes (undefined : State → Flags) (i : Instr) (s : State) (xs : List Instr) : Type 0 where
  pub no_call : i ≢ call_rax
  pub no_ret : i ≢ ret
  pub sound : faults i s ≡ false
  pub rip : (one undefined i s).rip ≡ at s.rip (length (encode i) + length (bytes xs))
  pub none : is_jump i ≡ false → xs ≡ []

-- n steps lead from s through the instructions to t
pub data Path (undefined : State → Flags) : List Instr → State → ℕ → State → Type 0 where
  arrived : {s : State} → Path undefined [] s 0 s
  onward : {i : Instr} {is xs ys : List Instr} {s t : State} {n : ℕ}
      → Passes undefined i s xs → is ≡ xs ++ ys → Path undefined ys (one undefined i s) n t → Path undefined (i ∷ is) s (suc n) t

-- parts of instructions without a jump have none
pub jumpless_left : (xs ys : List Instr) → jumpless (xs ++ ys) ≡ true → jumpless xs ≡ true
unfolding jumpless
jumpless_left [] ys h = refl
jumpless_left (x ∷ xs) ys h = go (is_jump x) h (jumpless_left xs ys)
  where
    go : (b : Bool) → elim b [ true ↦ false | false ↦ jumpless (xs ++ ys) ] ≡ true → (jumpless (xs ++ ys) ≡ true → jumpless xs ≡ true)
        → elim b [ true ↦ false | false ↦ jumpless xs ] ≡ true
    go true h f = h
    go false h f = f h

pub jumpless_right : (xs ys : List Instr) → jumpless (xs ++ ys) ≡ true → jumpless ys ≡ true
unfolding jumpless
jumpless_right [] ys h = h
jumpless_right (x ∷ xs) ys h = go (is_jump x) h (jumpless_right xs ys)
  where
    go : (b : Bool) → elim b [ true ↦ false | false ↦ jumpless (xs ++ ys) ] ≡ true → (jumpless (xs ++ ys) ≡ true → jumpless ys ≡ true)
        → jumpless ys ≡ true
    go true h f = absurd (let y : ◌≡◌ {A = ℕ} 0 1 = cc in omega arith)
    go false h f = f h

module _ (undefined : State → Flags) where
  pub path_append : {xs ys : List Instr} {s t u : State} {n m : ℕ}
      → Path undefined xs s n t → Path undefined ys t m u → Path undefined (xs ++ ys) s (n + m) u
  path_append {m = m} arrived q = let z : 0 + m ≡ m = omega arith in rw z q
  path_append {ys = zs} {m = m} (onward {is = is} {xs = xs} {ys = ys} {n = n} p e r) q =
      let z : suc n + m ≡ suc (n + m) = omega arith in
      rw z (onward {is = is ++ zs} {xs = xs} {ys = ys ++ zs} p (rw e (append_assoc xs ys zs)) (path_append r q))

  -- straight instructions, one after the other
  pub path_straight : (is : List Instr) (s : State) → Fine is → Path undefined is s (length is) (run undefined is s)
  unfolding Fine run
  path_straight [] s f = arrived
  path_straight (i ∷ is) s f =
      onward {xs = []} (record {
        no_call = not_call i f.1;
        no_ret = not_ret i f.1;
        sound = calm i s f.1;
        rip = one_rip undefined i s f.1 ∙ ap (at s.rip) (omega arith);
        none = λ e. refl;
      }) refl (path_straight is (one undefined i s) f.2)

  path_most : {is : List Instr} {s t : State} {n : ℕ} → Path undefined is s n t → n ≤ length is
  path_most arrived = omega arith
  path_most (onward {xs = xs} {ys = ys} p e q) = rw (e, length-append xs ys) (omega (arith, path_most q))

  path_exact : {is : List Instr} {s t : State} {n : ℕ} → Path undefined is s n t → jumpless is ≡ true → n ≡ length is
  unfolding jumpless
  path_exact arrived h = refl
  path_exact (onward {i = i} {is = is} {xs = xs} {ys = ys} {n = n} p e q) h = go (is_jump i) refl h (path_exact q)
    where
      go : (b : Bool) → is_jump i ≡ b → elim b [ true ↦ false | false ↦ jumpless is ] ≡ true
          → (jumpless ys ≡ true → n ≡ length ys) → suc n ≡ suc (length is)
      go true z h f = absurd (let y : ◌≡◌ {A = ℕ} 0 1 = cc in omega arith)
      go false z h f =
          let y : is ≡ ys = rw (p.none z) at e in
          ap suc (f (rw y at h) ∙ ap (λ (l : List Instr). length l) (sym y))

  pub path_steps : (is : List Instr) (s t : State) (n : ℕ) → Path undefined is s n t → StepsThrough is n
  path_steps is s t n p = record { most = path_most p; exact = path_exact p }
