-- The names that the emitter's types have in crate agreement (X86/Form).
use Rattle.std.specs.Prelude.{Bool, true, false}
use Rattle.agreement.specs.X86.Form as Form
use Rattle.emitter.specs.declared.args.Width.{Width}
use Rattle.emitter.specs.declared.args.Width.TheVariants.{R32, R64}
use Rattle.emitter.specs.declared.args.Alu.{Alu}
use Rattle.emitter.specs.declared.args.Alu.TheVariants.{Add, Or, And, Sub, Xor, Cmp}
use Rattle.emitter.specs.declared.args.Shift.{Shift}
use Rattle.emitter.specs.declared.args.Shift.TheVariants.{Shl, Shr, Sar}
use Rattle.emitter.specs.declared.args.MulDiv.{MulDiv}
use Rattle.emitter.specs.declared.args.MulDiv.TheVariants.{Mul, Imul, Div, Idiv}
use Rattle.emitter.specs.declared.args.X64Cc.{X64Cc}
use Rattle.emitter.specs.declared.args.X64Cc.TheVariants.{B, AE, E, NE, L, GE}

abbrev pub is_64 : Width → Bool
is_64 R32 = false
is_64 R64 = true

abbrev pub width_of : Width → Form.Width
width_of R32 = Form.r32
width_of R64 = Form.r64

abbrev pub alu_of : Alu → Form.Alu
alu_of Add = Form.add
alu_of Or = Form.or
alu_of And = Form.and
alu_of Sub = Form.sub
alu_of Xor = Form.xor
alu_of Cmp = Form.cmp

abbrev pub shift_of : Shift → Form.Shift
shift_of Shl = Form.shl
shift_of Shr = Form.shr
shift_of Sar = Form.sar

abbrev pub mul_div_of : MulDiv → Form.MulDiv
mul_div_of Mul = Form.umul
mul_div_of Imul = Form.smul
mul_div_of Div = Form.udiv
mul_div_of Idiv = Form.sdiv

abbrev pub cc_of : X64Cc → Form.Cc
cc_of B = Form.B
cc_of AE = Form.AE
cc_of E = Form.E
cc_of NE = Form.NE
cc_of L = Form.L
cc_of GE = Form.GE
