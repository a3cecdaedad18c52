-- What stands at the front of a run of halfwords, as the walk of crate agreement (Translation/Walk) takes it apart, and what it is
-- translated as.
use Rattle.std.specs.Prelude.{ℕ, cond, List, [], ◌∷◌, ◌==◌, bit_and, Result, Ok, Err, Option, None, Some}
use Rattle.agreement.specs.Riscv.Run.{in_line}
use Rattle.agreement.specs.Translation.Decode32.{word_of}
use Rattle.walk.specs.declared.fetch.Fetched.{Fetched}
use Rattle.walk.specs.declared.fetch.Fetched.TheVariants.{Half, Word}
use Rattle.walk.specs.declared.fetch.Instr.{Instr}
use Rattle.walk.specs.declared.fetch.Missing.{Missing}

abbrev pub missing : ℕ → Result Fetched Missing
missing i = Err (record { index = i })

abbrev pub fetched : List ℕ → Result Fetched Missing
fetched [] = missing 0
fetched (h ∷ []) = cond (bit_and h 0x3 == 0x3) (missing 1) (Ok (Half h))
fetched (h ∷ u ∷ hs) = cond (bit_and h 0x3 == 0x3) (Ok (Word (word_of h u))) (Ok (Half h))

abbrev pub instr_of : ℕ → ℕ → Instr
instr_of w m = record { word = w; halfwords = m }

-- a halfword by the word that it is read as
abbrev pub by_expansion : Option ℕ → ℕ → Result Instr ℕ
by_expansion None h = Err h
by_expansion (Some w) h = Ok (instr_of w 1)

abbrev pub to_translate : Fetched → Result Instr ℕ
to_translate (Half h) = by_expansion (in_line h) h
to_translate (Word w) = Ok (instr_of w 2)
