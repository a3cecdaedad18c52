-- The bytes of two lists of instructions, one behind the other.
use Rattle.std.proofs.Common.{List, [], ◌∷◌, ◌++◌, ◌≡◌, append_assoc, refl, sym}
use Rattle.agreement.specs.X86.Encode.{bytes, encode}
use Rattle.agreement.specs.X86.Form.{Instr}

pub bytes-append : (xs ys : List Instr) → bytes (xs ++ ys) ≡ bytes xs ++ bytes ys
bytes-append [] ys = refl
bytes-append (x ∷ xs) ys = rw (bytes-append xs ys) (sym (append_assoc (encode x) (bytes xs) (bytes ys)))
