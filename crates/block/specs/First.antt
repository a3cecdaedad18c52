-- What crate agreement says of the first word (Translation/Replies), as the code answers it.
use Rattle.std.specs.Prelude.{Result, Ok, Err}
use Rattle.agreement.specs.Translation.Replies.{First, First.begins, First.lacks, First.untaken}
use Rattle.block.specs.declared.Refusal.{Refusal}
use Rattle.block.specs.declared.Refusal.TheVariants.{Missing, NotTaken}

abbrev pub refused : First → Result (Unit {0}) Refusal
refused begins = Ok tt
refused (lacks index) = Err (Missing index)
refused (untaken word) = Err (NotTaken word)
