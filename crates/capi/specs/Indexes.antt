-- What the exported functions of the index reply.
use Rattle.std.specs.Prelude.{◌≡◌, List, ℕ, Option, Some, None}
use Rattle.entry.specs.Index.{blank, find, insert_answer, insert}
use Rattle.entry.specs.declared.Entry.{Entry}
use Rattle.entry.specs.declared.NativeBlock.{NativeBlock}
use Rattle.capi.specs.Replies.{padded}
use Rattle.capi.specs.declared.Reply.{Reply}

-- the entry that find shows, which is in use; where there is none, the blank one, which is not
abbrev pub told : Option Entry → Entry
told (Some e) = e
told None = blank

pub record RepliesToFind (es : List Entry) (satp pc : ℕ) (r : Entry) : Type 0 where
  pub tells : r ≡ told (find es (record { satp = satp; pc = pc }))

-- insert's number and value as a record of four numbers, and every entry afterwards
pub record RepliesToInsert (es es' : List Entry) (satp pc : ℕ) (b : NativeBlock) (r : Reply) : Type 0 where
  pub replies : r ≡ padded (insert_answer es (record { satp = satp; pc = pc }))
  pub leaves : es' ≡ insert es (record { satp = satp; pc = pc }) b
