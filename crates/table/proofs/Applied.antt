-- What the contracts of a held index say of its parts: the first n entries change as the index's own function says, and nothing else does.
use Rattle.std.proofs.Common.{◌≡◌, drop}
use Rattle.entry.specs.Index.{empty}
use Rattle.table.specs.Held.{entries_of, AtFront}
use Rattle.table.specs.declared.Table.{Table}

emptied : (t t' : Table) → AtFront t t' (λ es es'. es' ≡ empty es)
    → (t'.n ≡ t.n) × (entries_of t' ≡ empty (entries_of t)) × (drop t.n t'.entries ≡ drop t.n t.entries)
emptied t t' h = (h.size, h.front, h.rest)
