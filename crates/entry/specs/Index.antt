-- The index of blocks (document 02, Q-4 and Q-5): what find, insert, empty and drop answer and leave, on a list of entries.
use Rattle.std.specs.Prelude.{Bool, false, not, cond, ◌&&◌, ◌||◌, List, [], ◌∷◌, ℕ, zero, suc, ◌+◌, ◌%◌, ◌^◌, eqb, map, Option}
use Rattle.std.specs.List.{list_any, position_or_len, count_by}
use Rattle.std.specs.List as Lists
use Rattle.entry.specs.declared.Key.{Key}
use Rattle.entry.specs.declared.Entry.{Entry}
use Rattle.entry.specs.declared.NativeBlock.{NativeBlock}

-- 1. An entry

-- of zeros, and so not in use
abbrev pub blank : Entry
blank = record { satp = 0; pc = 0; block = record { offset = 0; count = 0; length = 0; span = 0 }; in_use = 0 }

-- a mark of 0 means not in use, any other in use
abbrev pub free : Entry → Bool
free e = eqb e.in_use 0

abbrev pub is_in_use : Entry → Bool
is_in_use e = not (free e)

abbrev pub key_of : Entry → Key
key_of e = record { satp = e.satp; pc = e.pc }

-- with that key; in use, with that key
abbrev pub keyed : Key → Entry → Bool
keyed k e = eqb e.satp k.satp && eqb e.pc k.pc

abbrev pub holds : Key → Entry → Bool
holds k e = is_in_use e && keyed k e

-- 2. The first entry that passes is changed; the others stay

abbrev pub over_first : (Entry → Bool) → (Entry → Entry) → List Entry → List Entry
over_first p f [] = []
over_first p f (e ∷ es) = cond (p e) (f e ∷ es) (e ∷ over_first p f es)

-- 3. Find: the first entry in use that has the key, or none, which has no number

abbrev pub find : List Entry → Key → Option Entry
find es k = Lists.find (holds k) es

-- 4. Insert: over the first entry in use that has the key, where there is one; a new key takes the first entry not in use

abbrev pub taken : List Entry → Key → Entry → Bool
taken es k = cond (list_any (holds k) es) (holds k) free

-- the mark of an entry in use stays, and one that was not in use gets the mark 1
abbrev pub mark_of : Entry → ℕ
mark_of e = cond (free e) 1 e.in_use

-- all of the entry but its mark is the new one's
abbrev pub renewed : Key → NativeBlock → Entry → Entry
renewed k b e = record { satp = k.satp; pc = k.pc; block = b; in_use = mark_of e }

abbrev pub insert : List Entry → Key → NativeBlock → List Entry
insert es k b = over_first (taken es k) (renewed k b) es

-- the number, 0 where the entry was put, and its value, the index; 8 where the key is new and every entry is in use
abbrev pub insert_answer : List Entry → Key → ℕ × List ℕ
insert_answer es k = cond (list_any (taken es k) es) (0, position_or_len (taken es k) es ∷ []) (8, [])

-- 5. Empty: every mark is cleared, and nothing else

abbrev pub freed : Entry → Entry
freed e = record { satp = e.satp; pc = e.pc; block = e.block; in_use = 0 }

abbrev pub empty : List Entry → List Entry
empty es = map freed es

-- 6. Drop: a write of n bytes from an address a on clears the marks of the entries in use that it touches, under every satp, and nothing
-- else

-- some number below n passes
abbrev pub any_below : ℕ → (ℕ → Bool) → Bool
any_below zero p = false
any_below (suc n) p = p n || any_below n p

-- one of the bytes pc, pc + 1, .., pc + span - 1 is one of the bytes a, a + 1, .., a + n - 1: addresses are modulo 2^64
unfoldable pub touches : ℕ → ℕ → ℕ → ℕ → Bool
touches pc span a n = any_below span (λ i. any_below n (λ j. eqb ((pc + i) % 2 ^ 64) ((a + j) % 2 ^ 64)))

abbrev pub is_dropped : ℕ → ℕ → Entry → Bool
is_dropped a n e = is_in_use e && touches e.pc e.block.span a n

abbrev pub drop_touched : List Entry → ℕ → ℕ → List Entry
drop_touched es a n = map (λ e. cond (is_dropped a n e) (freed e) e) es

-- how many
abbrev pub drop_answer : List Entry → ℕ → ℕ → ℕ
drop_answer es a n = count_by (is_dropped a n) es
