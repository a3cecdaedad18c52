-- One step: fetch at RIP, decode, execute. Bytes that do not decode, divisions that fault (#DE) and accesses that are not
-- permitted have no next state; the bytes behind an instruction need not be fetchable. A store is seen by the next fetch at once,
-- where the SDM asks for a jump or a serializing instruction first: the blocks never write themselves. CALL, RET and Jcc do not
-- test that the target is canonical.
use Rattle.std.specs.Prelude.{◌≡◌, Bool, true, false, List, [], ◌∷◌, ◌++◌, ◌≢◌, ℕ, zero, suc, ◌-◌, ◌%◌, length, Option, None, Some}
use Rattle.agreement.specs.X86.Memory.{Memory, at, up}
use Rattle.agreement.specs.X86.Form.{Instr, Instr.call_rax, Instr.ret}
use Rattle.agreement.specs.X86.Decode.{Answer, decode}
use Rattle.agreement.specs.X86.State.{Flags, State, Permissions}
use Rattle.agreement.specs.X86.Execute.{accesses, faults, exec}

-- the bytes from a on that may be fetched, n at the most
unfoldable pub fetched : (ℕ → Bool) → ℕ → Memory → ℕ → List ℕ
fetched may zero m a = []
fetched may (suc n) m a = elim (may a) [ true ↦ m a % 256 ∷ fetched may n m (up a) | false ↦ [] ]

unfoldable pub all : (ℕ → Bool) → List ℕ → Bool
all may [] = true
all may (a ∷ rest) = elim (may a) [ true ↦ all may rest | false ↦ false ]

unfoldable pub past : ℕ → State → State
past n s = record { regs = s.regs; flags = s.flags; rip = at s.rip n; mem = s.mem }

-- an instruction and its length
pub record Fetch : Type 0 where
  pub instr : Instr
  pub size : ℕ

unfoldable pub cut : List ℕ → Answer → Option Fetch
cut bs None = None
cut bs (Some a) = Some (record { instr = a.0; size = length bs - length a.1 })

-- the instruction at RIP; none is longer than 15 bytes
unfoldable pub next : Permissions → State → Option Fetch
next ok s = let bs : List ℕ = fetched ok.fetch 15 s.mem s.rip in cut bs (decode bs)

-- the state after an instruction, with the addresses that it wrote
unfoldable pub did : (State → Flags) → Permissions → State → Option Fetch → Option (State × List ℕ)
did undefined ok s None = None
did undefined ok s (Some f) = elim (faults f.instr s) [
  | true ↦ None
  | false ↦ elim (all ok.read (accesses f.instr s).read) [
    | true ↦ elim (all ok.write (accesses f.instr s).written) [
      | true ↦ Some (exec undefined f.instr (past f.size s), (accesses f.instr s).written)
      | false ↦ None
    ]
    | false ↦ None
  ]
]

unfoldable pub step : (State → Flags) → Permissions → State → Option (State × List ℕ)
step undefined ok s = did undefined ok s (next ok s)

abbrev pub bind : Option (State × List ℕ) → (State → List ℕ → Option (State × List ℕ)) → Option (State × List ℕ)
bind None k = None
bind (Some a) k = k a.0 a.1

-- n steps, with all that they wrote
unfoldable pub steps : (State → Flags) → Permissions → ℕ → State → Option (State × List ℕ)
steps undefined ok zero s = Some (s, [])
steps undefined ok (suc n) s =
    bind (step undefined ok s) (λ t ws. bind (steps undefined ok n t) (λ u vs. Some (u, ws ++ vs)))

-- n steps lead from s to t, none of them a CALL or a RET, and write at the addresses ws
pub data Goes (undefined : State → Flags) (ok : Permissions) : State → ℕ → List ℕ → State → Type 0 where
  done : {s : State} → Goes undefined ok s 0 [] s
  more : {s t u : State} {n : ℕ} {ws vs : List ℕ} {f : Fetch}
      → next ok s ≡ Some f → f.instr ≢ call_rax → f.instr ≢ ret → step undefined ok s ≡ Some (t, ws)
      → Goes undefined ok t n vs u → Goes undefined ok s (suc n) (ws ++ vs) u
