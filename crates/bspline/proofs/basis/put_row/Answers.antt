use Rattle.std.proofs.Common.{◌≡◌, ℕ, ◌+◌, ◌≤◌, ◌<◌, List, length, get_or, set, take, sym, ap, ◌∙◌, add-one, arith}
use lib.Ieee.{Float, nan}
use Rattle.std.proofs.lemmas.List.{take_all}
use lib.Seq.{take-suc, length-take-le}
use Rattle.arith.specs.Operations.{floats}
use Rattle.arith.proofs.Loops.{each_runs}
use Rattle.window.specs.Window.{splice}
use Rattle.window.specs.Rows.{written}
use Rattle.window.proofs.Written.{written_none, set_next}
use Rattle.bspline.specs.Powers.{put_turn, put_row}
use Rattle.bspline.proofs.basis.put_row.Goals as goal

module _ (b : List Float) (at : ℕ) (row : List Float) (six : length row ≡ 6) (room : at + 6 ≤ length b) where
  -- one cell more is written
  put_next : (k : ℕ) (s : List Float) → k < 6 → s ≡ written at (take k row) b
      → set s (at + k) (get_or row k nan) ≡ written at (take (k + 1) row) b
  put_next k s h e =
      let n = length-take-le k row (omega arith) in
      let q : at + k ≡ at + length (take k row) = omega arith in
      rw (e, q, add-one, take-suc row k nan (omega arith)) (set_next at (take k row) b (get_or row k nan) (omega arith))

  -- the cells, one by one, are the row at once
  put_all : splice at (at + 6) row b ≡ put_row floats b at row
  unfolding put_row put_turn
  put_all =
      let all : take 6 row ≡ row = take_all 6 row (omega arith) in
      let e = each_runs (λ (k : ℕ) (s : List Float). s ≡ written at (take k row) b) (put_turn floats at row) 0 6 b (omega arith)
      (λ k s _ h e. put_next k s h e) (sym (written_none at b)) in
      ap (λ (n : ℕ). splice at (at + n) row b) (sym six) ∙ sym (rw all at e)

pub returns : goal.returns
returns c =
    rw c.copy_from_slice.ensures.after (put_all c.args.b.now c.args.at c.args.row.now (omega arith) (omega arith))
