-- What document 01's program writes ("Block bytes", last paragraph).
use Rattle.std.specs.Prelude.{List, [], ◌∷◌, ℕ, ◌+◌, ◌*◌, Ok, Err}
use Rattle.agreement.specs.Translation.Replies.{Reply, Reply.block, Reply.refusal, translate}
use Rattle.block.specs.Answers.{Answer}

-- the halfwords of a run of bytes, little-endian; a last odd byte is dropped
abbrev pub halfwords_of : List ℕ → List ℕ
halfwords_of [] = []
halfwords_of (low ∷ []) = []
halfwords_of (low ∷ high ∷ bytes) = (low + 256 * high) ∷ halfwords_of bytes

-- the bytes of a block, none when refused
abbrev pub bytes_of : Reply → List ℕ
bytes_of (block b) = b.code
bytes_of (refusal r) = []

-- the translation at 0x80000000, limit 64, both helpers 0
abbrev pub written : List ℕ → ℕ → List ℕ
written code room = bytes_of (translate 0x80000000 64 (halfwords_of code) 0 0 room)

-- how many bytes of the output an answer calls the block's
abbrev pub length_of : Answer → ℕ
length_of (Ok b) = b.length
length_of (Err r) = 0
