-- The first n entries are what the index's function left of them, and the others stand behind.
use Rattle.std.proofs.Common.{◌≡◌, refl, sym, ap, ◌∙◌, ◌++◌, ℕ, length, take, drop, arith}
use Rattle.std.proofs.Math.Seq.{take-append_seam}
use Rattle.std.proofs.lemmas.List.{length-take-le}
use Rattle.std.proofs.lemmas.Slice.{drop-append-drop}
use Rattle.table.proofs.Table.drop_touched.Goals as goal

pub returns : goal.returns
returns c =
    let n = c.args.self.now.n in
    let all = c.args.self.now.entries in
    let left = c.drop_touched-answer.new.entries in
    let size : length left ≡ n = omega (arith, length-take-le n all (omega arith)) in
    let front : take n (left ++ drop n all) ≡ left =
    ap (λ (k : ℕ). take k (left ++ drop n all)) (sym size) ∙ take-append_seam left (drop n all) in
    record {
      size = refl;
      front = rw front c.drop_touched-answer.ensures;
      rest = drop-append-drop n all left n (omega arith) size;
    }
