-- What a line about the index of blocks asks for: its word, and the numbers behind it.
use Rattle.std.specs.Prelude.{cond, List, [], ◌∷◌, ℕ, ◌-◌, ◌^◌, ◌≤◌, Option, Some, None}
use Rattle.std.specs.Option.{option_or}
use Rattle.std.specs.Str.{bytes_eq}
use Prim.Native.Char.{code}
use Prim.Native.String.{String, [] as no_text, ◌∷◌ as ◌then◌}
use Rattle.requests.specs.declared.indexing.Indexing.{Indexing}
use Rattle.requests.specs.declared.indexing.Indexing.TheVariants.{New, Set, Insert, Find, Drop, Empty, Show}
use Rattle.requests.specs.declared.indexing.KeyedBlock.{KeyedBlock}
use Rattle.requests.specs.Fields.{Field, ◌>>=◌, word_at, next_number, next_at_most, end_at}

-- the bytes of a text: ASCII
abbrev pub bytes : String → List ℕ
bytes no_text = []
bytes (c then text) = code c ∷ bytes text

-- A line has its word, all its numbers with a space before each, and nothing behind them.

-- I new n: 64 entries at most
unfoldable pub new_of : List ℕ → Option Indexing
new_of line = do
  word ← word_at (bytes "I new") line 0
  n ← next_at_most 64 line word.next
  _ ← end_at line n.next
  Some (New n.value)

-- satp pc offset count length span: a count has 32 bits
unfoldable pub block_at : List ℕ → (at : ℕ) → Option (Field KeyedBlock)
block_at line at = do
  satp ← next_number 16 line at
  pc ← next_number 16 line satp.next
  offset ← next_number 10 line pc.next
  count ← next_at_most (2 ^ 32 - 1) line offset.next
  length ← next_number 10 line count.next
  span ← next_number 10 line length.next
  Some (record {
    value = record {
      satp = satp.value;
      pc = pc.value;
      offset = offset.value;
      count = count.value;
      length = length.value;
      span = span.value;
    };
    next = span.next;
  })

-- I set slot use satp pc offset count length span: a use has 32 bits
unfoldable pub set_of : List ℕ → Option Indexing
set_of line = do
  word ← word_at (bytes "I set") line 0
  slot ← next_number 10 line word.next
  in_use ← next_at_most (2 ^ 32 - 1) line slot.next
  block ← block_at line in_use.next
  _ ← end_at line block.next
  Some (Set slot.value in_use.value block.value)

-- I insert satp pc offset count length span
unfoldable pub insert_of : List ℕ → Option Indexing
insert_of line = do
  word ← word_at (bytes "I insert") line 0
  block ← block_at line word.next
  _ ← end_at line block.next
  Some (Insert block.value)

-- I find satp pc
unfoldable pub find_of : List ℕ → Option Indexing
find_of line = do
  word ← word_at (bytes "I find") line 0
  satp ← next_number 16 line word.next
  pc ← next_number 16 line satp.next
  _ ← end_at line pc.next
  Some (Find satp.value pc.value)

-- I drop address n
unfoldable pub drop_of : List ℕ → Option Indexing
drop_of line = do
  word ← word_at (bytes "I drop") line 0
  address ← next_number 16 line word.next
  n ← next_number 10 line address.next
  _ ← end_at line n.next
  Some (Drop address.value n.value)

-- a word alone
unfoldable pub alone_of : (word : List ℕ) → Indexing → List ℕ → Option Indexing
alone_of word request line = cond (bytes_eq line word) (Some request) None

-- I empty
abbrev pub empty_of : List ℕ → Option Indexing
empty_of = alone_of (bytes "I empty") Empty

-- I show
abbrev pub show_of : List ℕ → Option Indexing
show_of = alone_of (bytes "I show") Show

-- no two words are alike, so a line is of one kind at most
infixl 5 ◌or◌
abbrev pub ◌or◌ : Option Indexing → Option Indexing → Option Indexing
a or b = option_or a b

abbrev pub indexing_of : List ℕ → Option Indexing
indexing_of line = new_of line or set_of line or insert_of line or find_of line or drop_of line or empty_of line or show_of line

-- a new index has 64 entries at most
abbrev pub Fits : Indexing → Type 0
Fits (New n) = n ≤ 64
Fits (Set slot in_use block) = Unit {0}
Fits (Insert block) = Unit {0}
Fits (Find satp pc) = Unit {0}
Fits (Drop address n) = Unit {0}
Fits Empty = Unit {0}
Fits Show = Unit {0}
