-- What the words of F7_MULDIV have in common, in the words of crate agreement (Translation/Emit).
use Rattle.std.specs.Prelude.{List, [], ◌∷◌}
use Rattle.agreement.specs.X86.Form.{RAX, RDX, R10, R11, Width, Width.r32, Width.r64, MulDiv, Instr}
use Rattle.agreement.specs.X86.Form.Instr.{mov, mul_div}
use Rattle.agreement.specs.Translation.Emit.{sign_extend_pair}

-- MULH is this of `smul`, MULHU of `umul`
abbrev pub upper_half : MulDiv → List Instr
upper_half op = mov RAX R10 ∷ mul_div r64 op R11 ∷ mov R10 RDX ∷ []

-- a signed division of 32 bits sign-extends its operands first
abbrev pub extended : Width → List Instr
extended r32 = sign_extend_pair
extended r64 = []
