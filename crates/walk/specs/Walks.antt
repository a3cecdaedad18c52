-- A walk that was written, and a block's end: the code's cases as those of crate agreement (Translation/Walk).
use Rattle.std.specs.Prelude.{◌≡◌, ℕ, ◌+◌, ◌*◌}
use Rattle.agreement.specs.Common.{Helper.for_halfword, Helper.for_access}
use Rattle.agreement.specs.Common as Common
use Rattle.agreement.specs.X86.Encode.{bytes}
use Rattle.agreement.specs.Translation.Walk.{End.goes_on, End.jumped, End.calls, ending, counted}
use Rattle.agreement.specs.Translation.Walk as Translation
use Rattle.emitter.specs.Written.{Emitter, Writes}
use Rattle.words.specs.Word.{end_size}
use Rattle.walk.specs.declared.close.Helper.{Helper}
use Rattle.walk.specs.declared.close.Helper.TheVariants.{Halfword, Access}
use Rattle.walk.specs.declared.close.End.{End}
use Rattle.walk.specs.declared.close.End.TheVariants.{GoesOn, Jumped, Calls}
use Rattle.walk.specs.declared.run.Walked.{Walked}

abbrev pub helper_as : Helper → Common.Helper
helper_as Halfword = for_halfword
helper_as Access = for_access

abbrev pub end_as : End → Translation.End
end_as (GoesOn pc) = goes_on pc
end_as Jumped = jumped
end_as (Calls helper instr pc) = calls (helper_as helper) instr pc

-- the greatest length of an end
abbrev pub most : Translation.End → ℕ
most (goes_on pc) = 35
most jumped = 25
most (calls h i pc) = 63

-- behind n instructions of k halfwords
abbrev pub walked_of : ℕ → ℕ → End → Walked
walked_of n k e = record { emitted = n; span = 2 * k + end_size (end_as e); end = e }

-- the walk p, behind n earlier instructions of k halfwords, was written
pub record Walks (old : Emitter) (n k : ℕ) (p : Translation.Walked) (new : Emitter) (r : Walked) : Type 0 where
  pub ends : end_as r.end ≡ p.end
  pub counts : r.emitted ≡ n + p.added
  pub spans : r.span ≡ 2 * k + p.span
  pub writes : Writes old (bytes p.code) new

-- the end e, behind n instructions, was written, and the block has this count
pub record Closes (old : Emitter) (helper16 helper_mem : ℕ) (e : Translation.End) (n : ℕ) (new : Emitter) (count : ℕ)
    : Type 0 where
  pub counts : count ≡ counted e n
  pub writes : Writes old (bytes (ending helper16 helper_mem e n)) new
