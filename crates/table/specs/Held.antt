-- What a function on a held index promises: the first n entries change as the index's own function says, and the others stay.
use Rattle.std.specs.Prelude.{◌≡◌, List, take, drop}
use Rattle.entry.specs.declared.Entry.{Entry}
use Rattle.table.specs.declared.Table.{Table}

-- the index: the first n entries of the array
abbrev pub entries_of : Table → List Entry
entries_of t = take t.n t.entries

pub record AtFront (t t' : Table) (Changes : List Entry → List Entry → Type 0) : Type 0 where
  pub size : t'.n ≡ t.n
  pub front : Changes (entries_of t) (entries_of t')
  pub rest : drop t.n t'.entries ≡ drop t.n t.entries
