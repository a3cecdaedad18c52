-- What the translator and the manual's run share: two numbers of documents 01 and 02, an instruction's size, and a name for each of the two
-- helpers.
use Rattle.std.specs.Prelude.{ℕ}

-- document 02, Q-2, for number 5 of document 01's "Replies": the greatest length of a block, the least output that is accepted; 67 and 64
-- times the 63 of DIVW
abbrev pub greatest : ℕ
greatest = 4099

-- document 01, "The manual's run in demand 3": at most 64 instructions to a turn (the Rust's `max_steps.min(64)`)
abbrev pub most_steps : ℕ
most_steps = 64

-- an instruction of 32 bits, and one of 16 ("Base Instruction-Length Encoding"); how many bytes it has
pub data Length : Type 0 where
  long short : Length

abbrev pub size : Length → ℕ
size long = 4
size short = 2

-- document 01, "Block bytes": the helper for compressed halfwords that are not in line, the helper for loads and stores
pub data Helper : Type 0 where
  for_halfword for_access : Helper
