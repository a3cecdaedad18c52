-- What a contract says of bytes written into a lent output (document 01, "Forms that change").
use Rattle.std.specs.Prelude.{◌≡◌, List, ℕ, ◌+◌, ◌≤◌, length}
use Rattle.std.specs.Borrow.{MutBor}
use Rattle.std.proofs.lemmas.List.Edits.{sets}
use Rattle.emitter.specs.declared.X64Emitter.{X64Emitter}

-- the output after is the output before with the bytes bs from place at on and nothing else changed; next is the place behind them
pub record Wrote (before : List ℕ) (at : ℕ) (bs : List ℕ) (after : List ℕ) (next : ℕ) : Type 0 where
  pub bytes : after ≡ sets before at bs
  pub place : next ≡ at + length bs
  pub size : length after ≡ length before

-- n more bytes fit behind place at
pub record Room (output : List ℕ) (at : ℕ) (n : ℕ) : Type 0 where
  pub fits : at + n ≤ length output

-- an emitter that writes: its output is lent
abbrev pub Emitter : Type 0
Emitter = X64Emitter (MutBor (List ℕ))

-- an emitter that wrote the bytes bs, into the output that it was lent
pub record Writes (old : Emitter) (bs : List ℕ) (new : Emitter) : Type 0 where
  pub wrote : Wrote old.out.now old.at bs new.out.now new.at
  pub same_output : new.out.ghost_name ≡ old.out.ghost_name

-- n more bytes fit behind an emitter's place
abbrev pub HasRoom : Emitter → ℕ → Type 0
HasRoom em n = Room em.out.now em.at n
