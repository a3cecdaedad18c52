-- A row of the table of forms in src/forms.rt. What each must hold is what its encoder promises, the bytes of crate agreement's `encode`.
use Rattle.std.specs.Prelude.{◌≡◌, ℕ}
use Rattle.emitter.specs.declared.forms.Form.{Form}

-- the columns
abbrev pub opcode_of : Form → ℕ
opcode_of form = form.0

abbrev pub digit_of : Form → ℕ
digit_of form = form.1

pub record IsForm (o d : ℕ) (form : Form) : Type 0 where
  pub opcode : opcode_of form ≡ o
  pub digit : digit_of form ≡ d
