-- What a group of instructions promises here: it keeps to its share of the output. Their bytes are the emitter's promise.
use Rattle.std.specs.Prelude.{◌≡◌, ℕ, ◌+◌, ◌≤◌, length}
use Rattle.emitter.specs.Written.{Emitter}

pub record Advances (old : Emitter) (n : ℕ) (new : Emitter) : Type 0 where
  pub place : new.at ≤ old.at + n
  pub size : length new.out.now ≡ length old.out.now
  pub same_output : new.out.ghost_name ≡ old.out.ghost_name
