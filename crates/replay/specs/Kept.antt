-- The index that is kept between lines: what each request makes of its entries. That the replies are printed is not said.
use Rattle.std.specs.Prelude.{◌≡◌, Bool, true, List, ℕ, ltb, set, replicate, Option, Some, None, is_some}
use Rattle.entry.specs.Index as Index
use Rattle.entry.specs.declared.Entry.{Entry}
use Rattle.entry.specs.declared.NativeBlock.{NativeBlock}
use Rattle.requests.specs.declared.indexing.Indexing.{Indexing}
use Rattle.requests.specs.declared.indexing.KeyedBlock.{KeyedBlock}
use Rattle.requests.specs.declared.indexing.Indexing.TheVariants.{New, Set, Insert, Find, Drop, Empty, Show}
use Rattle.table.specs.Held.{entries_of}
use Rattle.table.specs.declared.Table.{Table}

-- the block of those numbers
abbrev pub block_of : KeyedBlock → NativeBlock
block_of b = record { offset = b.offset; count = b.count; length = b.length; span = b.span }

-- the entries after a request
abbrev pub after : Indexing → List Entry → List Entry
after (New n) es = replicate n Index.blank
after (Set slot mark b) es = set es slot (record { satp = b.satp; pc = b.pc; block = block_of b; in_use = mark })
after (Insert b) es = Index.insert es (record { satp = b.satp; pc = b.pc }) (block_of b)
after (Find satp pc) es = es
after (Drop address n) es = Index.drop_touched es address n
after Empty es = Index.empty es
after Show es = es

-- what is asked is a request to an index of n entries: an entry that is set must be one of them
abbrev pub is_request : Indexing → ℕ → Bool
is_request (New m) n = true
is_request (Set slot mark b) n = ltb slot n
is_request (Insert b) n = true
is_request (Find satp pc) n = true
is_request (Drop address n') n = true
is_request Empty n = true
is_request Show n = true

-- the reply to what is asked, and the index then
pub record Answers (asked : Indexing) (t t' : Table) (r : Option (Unit {0})) : Type 0 where
  pub good : is_some r ≡ is_request asked t.n
  pub keeps : entries_of t' ≡ after asked (entries_of t)

-- a line that asks for nothing gets no reply, and the index stays
abbrev pub Replies : Option Indexing → (t t' : Table) → Option (Unit {0}) → Type 0
Replies None t t' r = (r ≡ None) × (entries_of t' ≡ entries_of t)
Replies (Some asked) t t' r = Answers asked t t' r
