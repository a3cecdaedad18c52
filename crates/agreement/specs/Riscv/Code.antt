-- The guest's code: what can be fetched, address by address. Document 02, Q-1: it may change from turn to turn; Q-5: elsewhere than in
-- some bytes.
use Rattle.std.specs.Prelude.{◌≡◌, List, [], ◌∷◌, ℕ, zero, suc, ◌+◌, ◌*◌, ◌%◌, ◌^◌, ◌<◌, Option, None, Some}
use Rattle.agreement.specs.Riscv.Fields.{plus}

-- at each address a halfword, the lower byte first, or none where nothing can be fetched
abbrev pub Code : Type 0
Code = ℕ → Option ℕ

-- what an address has, before the rest of a run: where there is none, the run ends. A halfword is the low 16 bits of the number
abbrev pub front : Option ℕ → List ℕ → List ℕ
front None rest = []
front (Some h) rest = h % 2 ^ 16 ∷ rest

-- the run at pc: what the code has from there on, at most n halfwords, up to the first that is not there. "The address space
-- is circular" (Introduction, "Memory"): addresses are modulo 2^64
unfoldable pub run_at : Code → ℕ → ℕ → List ℕ
run_at code pc zero = []
run_at code pc (suc n) = front (code pc) (run_at code (plus pc 2) n)

-- two codes have the same in the n bytes from pc on: every second address from there has the same halfword, if both its bytes are among
-- the n
abbrev pub SameIn : ℕ → ℕ → Code → Code → Type 0
SameIn pc n c d = (k : ℕ) → 2 * k + 1 < n → c ((pc + 2 * k) % 2 ^ 64) ≡ d ((pc + 2 * k) % 2 ^ 64)
