-- The halfwords so far are the first of the code.
use Rattle.std.proofs.Common.{◌≡◌, take}
use Rattle.translate.specs.Program.{halfwords_of}
use Rattle.translate.proofs.read_halfwords.Given as goal

abbrev pub invariant-loop-i : goal.invariant-loop-i
invariant-loop-i l = take l.i l.halfwords ≡ take l.i (halfwords_of l.code)
