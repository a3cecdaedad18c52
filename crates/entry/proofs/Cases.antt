-- The definitions held against the requests' text (docs/SCOPE.md, "The index"): cases worked by hand, computed.
use Rattle.std.proofs.Common.{◌≡◌, refl, true, false, List, [], ◌∷◌, ℕ, ◌-◌, ◌^◌}
use Rattle.std.specs.Prelude.{Some, None}
use Rattle.entry.specs.Index.{find, insert, insert_answer, empty, touches, drop_touched, drop_answer}
use Rattle.entry.specs.History.{Event.inserted, Event.refused, Event.emptied, Event.dropped, last}
use Rattle.entry.specs.declared.Key.{Key}
use Rattle.entry.specs.declared.Entry.{Entry}
use Rattle.entry.specs.declared.NativeBlock.{NativeBlock}

-- offset, count, length, span
abbrev pub block : ℕ → ℕ → ℕ → ℕ → NativeBlock
block offset count length span = record { offset = offset; count = count; length = length; span = span }

abbrev pub key : ℕ → ℕ → Key
key satp pc = record { satp = satp; pc = pc }

-- mark, satp, pc, and the block's parts
abbrev pub entry : ℕ → ℕ → ℕ → ℕ → ℕ → ℕ → ℕ → Entry
entry mark satp pc offset count length span = record { satp = satp; pc = pc; block = block offset count length span; in_use = mark }

abbrev pub zeros : Entry
zeros = entry 0 0 0 0 0 0 0

-- a key in two entries in use, behind one that is not in use and has it too
abbrev twice : List Entry
twice = entry 0 1 2 3 4 5 6 ∷ entry 1 1 2 5 6 7 8 ∷ entry 1 1 2 7 8 9 10 ∷ []

-- every entry in use
abbrev pub full : List Entry
full = entry 1 1 2 3 4 5 6 ∷ entry 7 1 5 6 7 8 9 ∷ entry (2 ^ 32 - 1) 8 2 9 10 11 12 ∷ []

-- 1. Find, insert, empty

found_first : find twice (key 1 2) ≡ Some (entry 1 1 2 5 6 7 8)
found_first = refl

shows_again : find (entry 0 1 2 3 4 5 6 ∷ entry 0 1 2 5 6 7 8 ∷ entry 1 1 2 7 8 9 10 ∷ []) (key 1 2) ≡ Some (entry 1 1 2 7 8 9 10)
shows_again = refl

other_satp : find full (key 8 5) ≡ None
other_satp = refl

other_pc : find full (key 1 6) ≡ None
other_pc = refl

not_in_use : find (entry 0 1 2 3 4 5 6 ∷ []) (key 1 2) ≡ None
not_in_use = refl

any_mark : find full (key 8 2) ≡ Some (entry (2 ^ 32 - 1) 8 2 9 10 11 12)
any_mark = refl

-- the first counts, and the second stays; an entry in front of it that is not in use stays too
replaced : insert twice (key 1 2) (block 9 10 11 12) ≡ entry 0 1 2 3 4 5 6 ∷ entry 1 1 2 9 10 11 12 ∷ entry 1 1 2 7 8 9 10 ∷ []
replaced = refl

replaced_at : insert_answer twice (key 1 2) ≡ (0, 1 ∷ [])
replaced_at = refl

-- also where every entry is in use; the mark stays
replaced_in_full : insert full (key 1 5) (block 11 12 13 14)
    ≡ entry 1 1 2 3 4 5 6 ∷ entry 7 1 5 11 12 13 14 ∷ entry (2 ^ 32 - 1) 8 2 9 10 11 12 ∷ []
replaced_in_full = refl

replaced_in_full_at : insert_answer full (key 1 5) ≡ (0, 1 ∷ [])
replaced_in_full_at = refl

-- a new key takes the first entry not in use
new_key : insert (entry 1 1 2 3 4 5 6 ∷ entry 0 1 2 3 4 5 6 ∷ zeros ∷ []) (key 2 1) (block 5 6 7 8)
    ≡ entry 1 1 2 3 4 5 6 ∷ entry 1 2 1 5 6 7 8 ∷ zeros ∷ []
new_key = refl

new_key_at : insert_answer (entry 1 1 2 3 4 5 6 ∷ entry 0 1 2 3 4 5 6 ∷ zeros ∷ []) (key 2 1) ≡ (0, 1 ∷ [])
new_key_at = refl

refused_8 : insert_answer full (key 8 5) ≡ (8, [])
refused_8 = refl

unchanged : insert full (key 8 5) (block 11 12 13 14) ≡ full
unchanged = refl

-- the last entry not in use is taken too
last_free_at : insert_answer (entry 1 1 2 3 4 5 6 ∷ zeros ∷ []) (key 2 1) ≡ (0, 1 ∷ [])
last_free_at = refl

-- a slice of no entries
nothing_found : find [] (key 1 2) ≡ None
nothing_found = refl

no_entries : insert_answer [] (key 1 2) ≡ (8, [])
no_entries = refl

still_none : insert [] (key 1 2) (block 3 4 5 6) ≡ []
still_none = refl

-- keys and blocks stay
emptied_marks : empty full ≡ entry 0 1 2 3 4 5 6 ∷ entry 0 1 5 6 7 8 9 ∷ entry 0 8 2 9 10 11 12 ∷ []
emptied_marks = refl

-- 2. Drop: ranges that meet, and that end where the other begins

first_byte : touches 1000 6 997 4 ≡ true
unfolding touches
first_byte = refl

byte_before : touches 1000 6 996 4 ≡ false
unfolding touches
byte_before = refl

last_byte : touches 1000 6 1005 4 ≡ true
unfolding touches
last_byte = refl

byte_behind : touches 1000 6 1006 4 ≡ false
unfolding touches
byte_behind = refl

-- a block that goes on at address 0
wraps : touches (2 ^ 64 - 4) 8 3 1 ≡ true
unfolding touches
wraps = refl

wraps_no_further : touches (2 ^ 64 - 4) 8 4 1 ≡ false
unfolding touches
wraps_no_further = refl

-- a write that goes on there
write_wraps : touches 0 4 (2 ^ 64 - 16) 17 ≡ true
unfolding touches
write_wraps = refl

write_to_the_end : touches 0 4 (2 ^ 64 - 16) 16 ≡ false
unfolding touches
write_to_the_end = refl

-- within a block, but of no bytes; and where a block begins that spans none
no_bytes : touches 1000 6 1002 0 ≡ false
unfolding touches
no_bytes = refl

no_span : touches 1000 0 998 4 ≡ false
unfolding touches
no_span = refl

-- 3. Drop: two bytes at 1003 are written

-- in use: a key twice, the same pc under another satp, one that begins at the second byte, one that ends before the first, one that begins
-- behind the second, and one that spans nothing; not in use: a key that is touched
abbrev blocks : List Entry
blocks =
    entry 1 1 1000 3 4 5 6 ∷ entry 0 1 1000 7 8 9 6 ∷ entry 7 1 1000 3 4 5 4 ∷ entry 1 2 1000 10 11 12 8 ∷ entry 2 0 1004 13 14 15 2
    ∷ entry 3 1 999 16 17 18 4 ∷ entry 1 1 1005 19 20 21 2 ∷ entry 1 1 1004 22 23 24 0 ∷ []

-- the marks of those that are touched go, under every satp, and all else stays
dropped_marks : drop_touched blocks 1003 2
    ≡ entry 0 1 1000 3 4 5 6 ∷ entry 0 1 1000 7 8 9 6 ∷ entry 0 1 1000 3 4 5 4 ∷ entry 0 2 1000 10 11 12 8 ∷ entry 0 0 1004 13 14 15 2
    ∷ entry 3 1 999 16 17 18 4 ∷ entry 1 1 1005 19 20 21 2 ∷ entry 1 1 1004 22 23 24 0 ∷ []
unfolding touches
dropped_marks = refl

-- of the five that are touched one was not in use
how_many : drop_answer blocks 1003 2 ≡ 4
unfolding touches
how_many = refl

none_dropped : drop_touched blocks 1003 0 ≡ blocks
unfolding touches
none_dropped = refl

counts_none : drop_answer blocks 1003 0 ≡ 0
unfolding touches
counts_none = refl

-- a slice of no entries
none_to_drop : drop_touched [] 1003 2 ≡ []
none_to_drop = refl

-- 4. Without a slice: the latest first

last_of_two : last
    (inserted (key 1 2) (block 5 6 7 8) ∷ inserted (key 3 2) (block 7 8 9 10) ∷ inserted (key 1 2) (block 3 4 5 6) ∷ []) (key 1 2)
    ≡ Some (block 5 6 7 8)
last_of_two = refl

last_behind_others : last
    (refused ∷ inserted (key 1 3) (block 7 8 9 10) ∷ inserted (key 2 2) (block 9 9 9 9) ∷ inserted (key 1 2) (block 3 4 5 6) ∷ []) (key 1 2)
    ≡ Some (block 3 4 5 6)
last_behind_others = refl

last_emptied : last (inserted (key 1 3) (block 7 8 9 10) ∷ emptied ∷ inserted (key 1 2) (block 3 4 5 6) ∷ []) (key 1 2) ≡ None
last_emptied = refl

last_dropped : last (dropped 1003 2 ∷ inserted (key 1 1000) (block 3 4 5 4) ∷ []) (key 1 1000) ≡ None
unfolding touches
last_dropped = refl

last_not_dropped : last (dropped 1003 2 ∷ inserted (key 1 1000) (block 3 4 5 3) ∷ []) (key 1 1000) ≡ Some (block 3 4 5 3)
unfolding touches
last_not_dropped = refl

-- by the block that was inserted last, and not by one before it
last_by_its_span : last (dropped 1003 2 ∷ inserted (key 1 1000) (block 7 8 9 3) ∷ inserted (key 1 1000) (block 3 4 5 4) ∷ []) (key 1 1000)
    ≡ Some (block 7 8 9 3)
unfolding touches
last_by_its_span = refl

last_inserted_again : last
    (inserted (key 1 1000) (block 7 8 9 4) ∷ dropped 1003 2 ∷ inserted (key 1 1000) (block 3 4 5 4) ∷ []) (key 1 1000)
    ≡ Some (block 7 8 9 4)
last_inserted_again = refl
