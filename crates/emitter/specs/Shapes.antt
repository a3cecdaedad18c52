-- The bytes of each shape of form, in the words of crate agreement's X86/Encode. Only the emitter's own functions promise these;
-- every public encoder promises `encode`, and that the two are the same bytes is what its proof computes.
use Rattle.std.specs.Prelude.{cond, List, [], ◌∷◌, ◌++◌, ℕ, ◌+◌, ◌*◌, ◌/◌, ◌%◌, eqb}
use Rattle.agreement.specs.X86.Memory.{bytes_of}
use Rattle.agreement.specs.X86.Form.{RAX, Width.r64}
use Rattle.agreement.specs.X86.Encode.{rex, mod_reg, mod_mem}
use Rattle.emitter.specs.declared.args.Width.{Width}
use Rattle.emitter.specs.declared.forms.Form.{Form}
use Rattle.emitter.specs.Args.{is_64, width_of}
use Rattle.emitter.specs.Forms.{opcode_of, digit_of}

-- ModRM and SIB: two bits, three bits, three bits
abbrev pub modrm : ℕ → ℕ → ℕ → ℕ
modrm mode reg rm = 64 * mode + 8 * (reg % 8) + rm % 8

-- 0100WRXB
abbrev pub rex_byte : Width → ℕ → ℕ → ℕ → ℕ
rex_byte w r x b = 0x40 + cond (is_64 w) 8 0 + 4 * (r / 8) + 2 * (x / 8) + b / 8

-- `emit_rex` takes the X bit as the Rust's does; no form has an index register, so every caller gives 0, and this is `rex`
abbrev pub rex_bytes : Width → ℕ → ℕ → ℕ → List ℕ
rex_bytes w r x b = cond (eqb (x / 8) 0) (rex (width_of w) r b) (rex_byte w r x b ∷ [])

-- the two arms of `mod_mem`
abbrev pub mem_sib : ℕ → ℕ → ℕ → List ℕ
mem_sib reg base disp = modrm 2 reg 4 ∷ modrm 0 4 base ∷ bytes_of 4 disp

abbrev pub mem_plain : ℕ → ℕ → ℕ → List ℕ
mem_plain reg base disp = modrm 2 reg base ∷ bytes_of 4 disp

-- a register in the opcode
abbrev pub opcode_reg : Form → Width → ℕ → List ℕ
opcode_reg form w reg = rex (width_of w) 0 reg ++ (opcode_of form + reg % 8) ∷ []

-- two registers; two behind 0F; AL behind 0F
abbrev pub reg_rm : Form → Width → ℕ → ℕ → List ℕ
reg_rm form w reg rm = rex (width_of w) reg rm ++ opcode_of form ∷ mod_reg reg rm ∷ []

abbrev pub reg_rm_0f : Form → ℕ → Width → ℕ → ℕ → List ℕ
reg_rm_0f form plus w reg rm = rex (width_of w) reg rm ++ 0x0F ∷ (opcode_of form + plus) ∷ mod_reg reg rm ∷ []

abbrev pub al_0f : Form → ℕ → List ℕ
al_0f form plus = 0x0F ∷ (opcode_of form + plus) ∷ mod_reg 0 RAX ∷ []

-- a register and memory
abbrev pub reg_mem : Form → ℕ → ℕ → ℕ → List ℕ
reg_mem form reg base disp = rex r64 reg base ++ opcode_of form ∷ mod_mem reg base disp

-- no operand
abbrev pub bare : Form → Width → List ℕ
bare form w = rex (width_of w) 0 0 ++ opcode_of form ∷ []

-- a condition in the opcode, and a displacement
abbrev pub jump : Form → ℕ → ℕ → List ℕ
jump form plus rel = (opcode_of form + plus) ∷ rel ∷ []

-- a register with a digit; with a byte; with four bytes
abbrev pub digit_rm : Form → Width → ℕ → List ℕ
digit_rm form w rm = rex (width_of w) 0 rm ++ opcode_of form ∷ mod_reg (digit_of form) rm ∷ []

abbrev pub digit_rm_imm8 : Form → Width → ℕ → ℕ → List ℕ
digit_rm_imm8 form w rm imm = rex (width_of w) 0 rm ++ opcode_of form ∷ mod_reg (digit_of form) rm ∷ imm ∷ []

abbrev pub digit_rm_imm32 : Form → ℕ → ℕ → List ℕ
digit_rm_imm32 form rm imm = rex r64 0 rm ++ opcode_of form ∷ mod_reg (digit_of form) rm ∷ bytes_of 4 imm
