-- What a line asks for: the fields behind its letter, where they are all there.
use Rattle.std.specs.Prelude.{◌≡◌, Bool, cond, List, [], ◌∷◌, ℕ, ◌^◌, ◌≤◌, ltb, length, take, Option, Some, None, is_some, option_map, IfSome}
use Rattle.requests.specs.declared.placing.Placing.{Placing}
use Rattle.requests.specs.declared.translation.Translation.{Translation}
use Rattle.requests.specs.Fields.{◌>>=◌, number_at, word_at, next_number, next_at_most, end_at}
use Rattle.requests.specs.Halfwords.{run_at}

-- the most bytes that are lent to a request
abbrev pub lent : ℕ
lent = 65536

-- D <word hex>: a word has 32 bits
unfoldable pub decoding_of : List ℕ → Option ℕ
decoding_of line = do
  word ← number_at 16 line 2
  _ ← end_at line word.next
  cond (ltb word.value (2 ^ 32)) (Some word.value) None

-- P <used> <store length> <code length>
unfoldable pub placing_of : List ℕ → Option Placing
placing_of line = do
  used ← number_at 10 line 2
  store ← next_at_most lent line used.next
  code ← next_at_most lent line store.next
  _ ← end_at line code.next
  Some (record { used = used.value; store = store.value; code = code.value })

-- a T line as it is written: five numbers of 64 bits and the halfwords
pub record Written : Type 0 where
  pub start : ℕ
  pub limit : ℕ
  pub helper16 : ℕ
  pub helper_mem : ℕ
  pub output : ℕ
  pub halfwords : List ℕ

-- T <start hex> <limit> <helper16 hex> <helper_mem hex> <output length> <halfwords>; at most `room` halfwords are read
unfoldable pub written_of : (room : ℕ) → List ℕ → Option Written
written_of room line = do
  start ← number_at 16 line 2
  limit ← next_number 10 line start.next
  helper16 ← next_number 16 line limit.next
  helper_mem ← next_number 16 line helper16.next
  output ← next_number 10 line helper_mem.next
  space ← word_at (32 ∷ []) line output.next
  halfwords ← run_at room line space.next
  Some (record {
    start = start.value;
    limit = limit.value;
    helper16 = helper16.value;
    helper_mem = helper_mem.value;
    output = output.value;
    halfwords = halfwords;
  })

-- what a T line asks for: its numbers and its halfwords
pub record Asked : Type 0 where
  pub numbers : Translation
  pub halfwords : List ℕ

-- a limit has 32 bits, and no more bytes are lent than there are
unfoldable pub asked_of : (room : ℕ) → List ℕ → Option Asked
asked_of room line = do
  written ← written_of room line
  cond (ltb lent written.output) None (cond (ltb written.limit (2 ^ 32)) (Some (record {
    numbers = record {
      start = written.start;
      limit = written.limit;
      helper16 = written.helper16;
      helper_mem = written.helper_mem;
      output = written.output;
      count = length written.halfwords;
    };
    halfwords = written.halfwords;
  })) None)

abbrev pub translation_of : (room : ℕ) → List ℕ → Option Translation
translation_of room line = option_map (λ a. a.numbers) (asked_of room line)

abbrev pub halfwords_of : (room : ℕ) → List ℕ → Option (List ℕ)
halfwords_of room line = option_map (λ a. a.halfwords) (asked_of room line)

-- the numbers are the line's, and the lent halfwords hold its halfwords at their front, also where its limit or its output is too great
pub record Asks (room : ℕ) (line lent : List ℕ) (r : Option Translation) : Type 0 where
  pub numbers : r ≡ translation_of room line
  pub halfwords : option_map (λ t. take t.count lent) r ≡ halfwords_of room line
  pub written : IfSome (written_of room line) (λ w. take (length w.halfwords) lent ≡ w.halfwords)
  pub fits : IfSome r (λ t. t.count ≤ length lent)

-- the requests: the lines that get an answer
abbrev pub is_decoding : List ℕ → Bool
is_decoding line = is_some (decoding_of line)

abbrev pub is_placing : List ℕ → Bool
is_placing line = is_some (placing_of line)

abbrev pub is_translation : (room : ℕ) → List ℕ → Bool
is_translation room line = is_some (translation_of room line)
