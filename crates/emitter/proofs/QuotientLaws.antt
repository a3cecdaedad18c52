-- One byte more of a number, and one division more of its quotient: the loop of `emit_u64`.
use Rattle.std.proofs.Common.{◌≡◌, subst, List, [], ◌∷◌, ℕ, ◌+◌, ◌/◌, ◌%◌, ◌<◌, add-one, arith, length}
use Rattle.agreement.specs.X86.Memory.{bytes_of}
use Rattle.agreement.proofs.Laws.Bytes.{len_le, divided_behind, byte_behind}
use Rattle.emitter.specs.Written.{Wrote, Room}
use Rattle.emitter.specs.Quotient.{RunningQuotient}
use Rattle.emitter.proofs.WriteLaws.{◌then◌}

-- there is room for the next byte
pub room_left : {v k q : ℕ} {l m : List ℕ} {a b : ℕ}
    → RunningQuotient v k q l a m b → Room l a (length (bytes_of 8 v)) → k < 8 → Room m b 1
room_left {v = v} {k = k} s r h = record { fits = omega (arith, len_le k v, s.written.place, s.written.size, r.fits, h) }

-- the quotient's lowest byte is written, and the quotient is divided by 256; k, the byte and the quotient are given by equations, so that
-- a wrong loop fails at one of these
pub one_more : {v k k' q q' x : ℕ} {l m n : List ℕ} {a b c : ℕ}
    → RunningQuotient v k q l a m b → Wrote m b (x ∷ []) n c → k < 8 → k' ≡ k + 1 → x ≡ q % 256 → q' ≡ q / 256
    → RunningQuotient v k' q' l a n c
one_more {v = v} {k = k} {l = l} {n = n} {a = a} {c = c} s w h d e f = record {
  most = omega (arith, d, h);
  divided = rw (d, f, s.divided, add-one) (divided_behind k v);
  written = subst (λ (bs : List ℕ). Wrote l a bs n c) (rw (d, e, s.divided, add-one) (byte_behind k v)) (s.written then w);
}
