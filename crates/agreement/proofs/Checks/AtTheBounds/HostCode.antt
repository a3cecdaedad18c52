-- The laws of host code, each taken at its bounds: every form with its greatest operands, before bytes, numbers that are no bytes and
-- nothing; a stretch of a thousand steps, and one that writes.
use Rattle.std.proofs.Common.{Bool, ◌&&◌, false, true, true≢false, sym, ltb, List, [], ◌∷◌, ◌++◌, ◌≡◌, ◌≢◌, refl, suc, zero, ◌+◌, ◌-◌, ◌^◌, ◌<◌, ℕ, arith}
use Rattle.std.specs.Prelude.{Some}
use Rattle.std.proofs.lemmas.Bool.{ltb-true}
use Rattle.agreement.specs.Laws.{Decodes, Encodes, StepsAlike}
use Rattle.agreement.specs.X86.Decode.{Bytes, decode}
use Rattle.agreement.specs.X86.Encode.{encode}
use Rattle.agreement.specs.X86.Form.{Instr, Ok, Alu.cmp, Cc.GE, MulDiv.sdiv, Shift.sar, Width.r32, Width.r64}
use Rattle.agreement.specs.X86.Form.Instr.{push, pop, mov, mov_imm64, load, store, alu, alu_imm32, alu_imm8, shift_cl, shift_imm8, imul}
use Rattle.agreement.specs.X86.Form.Instr.{movsxd, setcc_al, movzx, cmov, mul_div, cqo, jcc, call_rax, ret}
use Rattle.agreement.specs.X86.Execute.{exec}
use Rattle.agreement.specs.X86.Memory.{span, up}
use Rattle.agreement.specs.X86.State.{Flags, Permissions, State}
use Rattle.agreement.specs.X86.Step.{Goes, Goes.done, Goes.more, past, steps}
use Rattle.agreement.proofs.Checks.Example.{clear}
use Rattle.agreement.proofs.Checks.ExampleRuns.{the_model}
use Rattle.agreement.proofs.Codec.Encoding.{decodes, encodes}
use Rattle.agreement.proofs.Host.Steps.{steps_alike}

-- 1. Decoding: what follows is a number that is no byte, and more than 15 of them

abbrev behind : List ℕ
behind = 300 ∷ 2 ^ 70 ∷ 0 ∷ 1 ∷ 2 ∷ 3 ∷ 4 ∷ 5 ∷ 6 ∷ 7 ∷ 8 ∷ 9 ∷ 10 ∷ 11 ∷ 12 ∷ 13 ∷ 14 ∷ []

-- before these numbers, and before nothing
record Read (i : Instr) : Type 0 where
  before_numbers : decode (encode i ++ behind) ≡ Some (i, behind)
  before_nothing : decode (encode i ++ []) ≡ Some (i, [])

reads : (i : Instr) → Ok i → Read i
unfolding Decodes
reads i k = record { before_numbers = decodes i behind k; before_nothing = decodes i [] k }

record EachRead : Type 0 where
  push_read : Read (push 15)
  pop_read : Read (pop 15)
  mov_read : Read (mov 15 15)
  mov_imm64_read : Read (mov_imm64 15 (2 ^ 64 - 1))
  load_read : Read (load 15 15 (2 ^ 32 - 1))
  store_read : Read (store 15 (2 ^ 32 - 1) 15)
  alu_read : Read (alu r64 cmp 15 15)
  alu_imm32_read : Read (alu_imm32 cmp 15 (2 ^ 32 - 1))
  alu_imm8_read : Read (alu_imm8 cmp 15 255)
  shift_cl_read : Read (shift_cl r64 sar 15)
  shift_imm8_read : Read (shift_imm8 r64 sar 15 255)
  imul_read : Read (imul r64 15 15)
  movsxd_read : Read (movsxd 15 15)
  setcc_al_read : Read (setcc_al GE)
  movzx_read : Read (movzx 15 15)
  cmov_read : Read (cmov GE 15 15)
  mul_div_read : Read (mul_div r32 sdiv 15)
  cqo_read : Read (cqo r64)
  jcc_read : Read (jcc GE 127)
  call_read : Read call_rax
  ret_read : Read ret

each_read : EachRead
unfolding Ok
each_read = record {
  push_read = reads (push 15) (omega arith);
  pop_read = reads (pop 15) (omega arith);
  mov_read = reads (mov 15 15) (omega arith, omega arith);
  mov_imm64_read = reads (mov_imm64 15 (2 ^ 64 - 1)) (omega arith, omega arith);
  load_read = reads (load 15 15 (2 ^ 32 - 1)) (omega arith, omega arith, omega arith);
  store_read = reads (store 15 (2 ^ 32 - 1) 15) (omega arith, omega arith, omega arith);
  alu_read = reads (alu r64 cmp 15 15) (omega arith, omega arith);
  alu_imm32_read = reads (alu_imm32 cmp 15 (2 ^ 32 - 1)) (omega arith, omega arith);
  alu_imm8_read = reads (alu_imm8 cmp 15 255) (omega arith, omega arith);
  shift_cl_read = reads (shift_cl r64 sar 15) (omega arith);
  shift_imm8_read = reads (shift_imm8 r64 sar 15 255) (omega arith, omega arith);
  imul_read = reads (imul r64 15 15) (omega arith, omega arith);
  movsxd_read = reads (movsxd 15 15) (omega arith, omega arith);
  setcc_al_read = reads (setcc_al GE) tt;
  movzx_read = reads (movzx 15 15) (omega arith, omega arith);
  cmov_read = reads (cmov GE 15 15) (omega arith, omega arith);
  mul_div_read = reads (mul_div r32 sdiv 15) (omega arith);
  cqo_read = reads (cqo r64) tt;
  jcc_read = reads (jcc GE 127) (omega arith);
  call_read = reads call_rax tt;
  ret_read = reads ret tt;
}

-- 2. Encoding: MOV R15, 2^64 - 1 before eighteen bytes, of which the first is the greatest; and RET before nothing

abbrev bytes_behind : List ℕ
bytes_behind = 255 ∷ 0 ∷ 1 ∷ 2 ∷ 3 ∷ 4 ∷ 5 ∷ 6 ∷ 7 ∷ 8 ∷ 9 ∷ 10 ∷ 11 ∷ 12 ∷ 13 ∷ 14 ∷ 15 ∷ 16 ∷ []

abbrev mov_bytes : List ℕ
mov_bytes = 0x49 ∷ 0xBF ∷ 255 ∷ 255 ∷ 255 ∷ 255 ∷ 255 ∷ 255 ∷ 255 ∷ 255 ∷ []

record Written (bs : List ℕ) (i : Instr) (rest : List ℕ) : Type 0 where
  bytes : bs ≡ encode i ++ rest
  in_range : Ok i

written : (bs : List ℕ) (i : Instr) (rest : List ℕ) → Bytes bs → decode bs ≡ Some (i, rest) → Written bs i rest
unfolding Encodes
written bs i rest l e = let h = encodes bs i rest l e in record { bytes = h.0; in_range = h.1 }

small : List ℕ → Bool
small [] = true
small (b ∷ bs) = ltb b 256 && small bs

small_bytes : (bs : List ℕ) → small bs ≡ true → Bytes bs
unfolding small Bytes
small_bytes [] e = tt
small_bytes (b ∷ bs) e = go (ltb b 256) refl e (small_bytes bs)
  where
    go : (t : Bool) → ltb b 256 ≡ t → (t && small bs) ≡ true → (small bs ≡ true → Bytes bs) → (b < 256) × Bytes bs
    go true f e r = (ltb-true b 256 f, r e)
    go false f e r = absurd (true≢false (sym e))

mov_written : Written (mov_bytes ++ bytes_behind) (mov_imm64 15 (2 ^ 64 - 1)) bytes_behind
unfolding the_model small
mov_written = written (mov_bytes ++ bytes_behind) (mov_imm64 15 (2 ^ 64 - 1)) bytes_behind (small_bytes _ refl) refl

ret_written : Written (0xC3 ∷ []) ret []
unfolding the_model small
ret_written = written (0xC3 ∷ []) ret [] (small_bytes _ refl) refl

-- 3. Steps: where every byte is CDQ, which has one byte. Nothing more is permitted than is done, and registers and bytes are numbers
-- that have more bits

abbrev fetching : Permissions
fetching = record { fetch = λ x. true; read = λ x. false; write = λ x. false }

abbrev kept : State → Flags
kept s = s.flags

abbrev all_bytes : ℕ → (ℕ → ℕ) → ℕ → State
all_bytes b regs rip = record { regs = regs; flags = clear; rip = rip; mem = λ a. b }

-- the state behind one of them, and behind n
abbrev next_regs : (ℕ → ℕ) → ℕ → ℕ
next_regs regs = (exec kept (cqo r32) (all_bytes 0x199 regs 0)).regs

behind_steps : ℕ → (ℕ → ℕ) → ℕ → State
behind_steps zero regs rip = all_bytes 0x199 regs rip
behind_steps (suc n) regs rip = behind_steps n (next_regs regs) (up rip)

goes : (n : ℕ) (regs : ℕ → ℕ) (rip : ℕ) → Goes kept fetching (all_bytes 0x199 regs rip) n [] (behind_steps n regs rip)
unfolding behind_steps the_model
goes zero regs rip = done
goes (suc n) regs rip = more {f = record { instr = cqo r32; size = 1 }} refl not_call not_ret refl (goes n (next_regs regs) (up rip))
  where
    not_call : cqo r32 ≢ call_rax
    not_call e = let z : ◌≡◌ {A = ℕ} 0 1 = cc in omega arith

    not_ret : cqo r32 ≢ ret
    not_ret e = let z : ◌≡◌ {A = ℕ} 0 1 = cc in omega arith

-- a thousand, the first of them in the last byte of memory
abbrev some_regs : ℕ → ℕ
some_regs r = 2 ^ 70 + r

thousand : steps kept fetching 1000 (all_bytes 0x199 some_regs (2 ^ 64 - 1)) ≡ Some (behind_steps 1000 some_regs (2 ^ 64 - 1), [])
unfolding StepsAlike
thousand =
    steps_alike kept fetching (all_bytes 0x199 some_regs (2 ^ 64 - 1)) (behind_steps 1000 some_regs (2 ^ 64 - 1)) 1000 []
    (goes 1000 some_regs (2 ^ 64 - 1))

-- PUSH RBX, from beyond the address space, which writes eight bytes around its end
abbrev writing : Permissions
writing = record { fetch = λ x. true; read = λ x. false; write = λ x. true }

abbrev cleared : State → Flags
cleared s = clear

abbrev pushed : State
pushed = exec cleared (push 3) (past 1 (all_bytes 0x53 (λ r. 4) (2 ^ 70)))

pushes : Goes cleared writing (all_bytes 0x53 (λ r. 4) (2 ^ 70)) 1 (span 8 (2 ^ 64 - 4)) pushed
unfolding the_model
pushes = more {f = record { instr = push 3; size = 1 }} refl not_call not_ret refl done
  where
    not_call : push 3 ≢ call_rax
    not_call e = let z : ◌≡◌ {A = ℕ} 0 1 = cc in omega arith

    not_ret : push 3 ≢ ret
    not_ret e = let z : ◌≡◌ {A = ℕ} 0 1 = cc in omega arith

one_that_writes : steps cleared writing 1 (all_bytes 0x53 (λ r. 4) (2 ^ 70)) ≡ Some (pushed, span 8 (2 ^ 64 - 4))
unfolding StepsAlike
one_that_writes = steps_alike cleared writing (all_bytes 0x53 (λ r. 4) (2 ^ 70)) pushed 1 (span 8 (2 ^ 64 - 4)) pushes
