use Rattle.std.proofs.Common.{◌≡◌, ◌&&◌, List, map, ℕ, ◌+◌, ◌<◌, eqb, length, get_or, sym, ap, ◌∙◌, arith}
use lib.Ieee.{Float, nan, binary64, to_bits, lt}
use Rattle.window.specs.Cells.{at}
use Rattle.window.proofs.Joined.{map_at}
use Rattle.curve.specs.Form.{width_of}
use Rattle.curve.proofs.Counting.{counted_none, counted_next}
use Rattle.curve.proofs.Shaped.{formed_at, formed_counted}
use Rattle.lane_file.specs.Curves.{number_of}
use Rattle.lane_file.proofs.kept.segments_formed.Goals as goal

-- the width that was asked about is that of the cell
asked : (breaks : List Float) (cells : List ℕ) (from i : ℕ) (w : Float) → from + i < length cells → w ≡ number_of (get_or cells (from + i) 0)
    → (lt (at breaks i) (at breaks (i + 1)) && eqb (to_bits binary64 w) (to_bits binary64 (width_of breaks i)))
    ≡ formed_at breaks (map number_of cells) from i
asked b c from i w l e =
    ap (λ (w : Float). lt (at b i) (at b (i + 1)) && eqb (to_bits binary64 w) (to_bits binary64 (width_of b i)))
    (e ∙ sym (map_at number_of c (from + i) 0 nan l))

pub loop-i-init : goal.loop-i-init
loop-i-init c =
    let a = c.args in counted_none (formed_at a.breaks.now (map number_of a.cells.now) a.from)

pub loop-i-preserved : goal.loop-i-preserved
loop-i-preserved c =
    let a = c.args in
    let e = asked a.breaks.now a.cells.now a.from c.loop-i.i c.number-width.result (omega arith) c.number-width.ensures in
    let k = counted_next (formed_at a.breaks.now (map number_of a.cells.now) a.from) c.loop-i.i c.loop-i.kept c.loop-i.invariant in
    rw (c.one_if-kept.ensures.0, c.is_width.ensures ∙ e) k

pub returns : goal.returns
returns c =
    let a = c.args in
    let e : c.loop-i.i ≡ a.n = omega arith in
    rw (← e) (formed_counted a.breaks.now (map number_of a.cells.now) a.from c.loop-i.i c.loop-i.kept c.loop-i.invariant)
