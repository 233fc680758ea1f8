-- `window_fit::reach_of` meets its contract: the cells are read where the arrays lie.
use mathlib.Core.Path.{sym, ap, ◌∙◌}
use Prim.Native.Nat.{◌+◌}
use native.Mathlib.Omega.{arith}
use borrow.Author.Rules.{rules}
use lib.Ieee.{Float, nan, le}
use Rattle.window.specs.Window.{window}
use Rattle.window.specs.Cells.{at}
use Rattle.window.proofs.Windows.{length_window, window_cell}
use Rattle.fitting_rows.specs.Samples.{below}
use Rattle.fitting_rows.specs.Pieces.{at_or_below}
use Rattle.bspline.proofs.PointWithin.{point_within}
use Rattle.fit.proofs.window_fit.reach_of.Statement.{statement}
use Rattle.fit.proofs.window_fit.reach_of.Tie as tie

returns : tie.Need-returns
returns c =
    let a = c.args in
    let p = a.p in
    let w = a.cells.now in
    let t = window p.knots (p.knots + (p.count + 6)) w in
    let s = window p.parameters (p.parameters + p.samples) w in
    let lo = sym (window_cell p.knots (p.knots + (p.count + 6)) w a.a nan (omega arith)) in
    let hi = sym (window_cell p.knots (p.knots + (p.count + 6)) w (a.z + 5) nan (omega arith)) in
    let first = c.partition_point_lt-first.ensures in
    let last = c.partition_point_le-last.ensures in
    let h = point_within nan (λ (v : Float). le v (at w (p.knots + (a.z + 5)))) s in
    let k = length_window p.parameters (p.parameters + p.samples) w (omega arith) (omega arith) in
    ((lo, hi), ((first ∙ ap (below s) lo, last ∙ ap (at_or_below s) hi), omega (arith, last, h, k)))

pub reach_of_spec : {M : Type 1} → statement M
reach_of_spec =
    tie.close
    (tie.spec
    (λ c. search rules)
    (λ c. search rules)
    (λ c. search rules)
    (λ c. search rules)
    (λ c. search rules)
    (λ c. search rules)
    (λ c. search rules)
    (λ c. search rules)
    (λ c. search rules)
    (λ c. search rules)
    (λ c. search rules)
    (λ c. search rules)
    (λ c κs. search rules)
    (λ c. search rules)
    (λ c. search rules)
    (λ c. search rules)
    (λ c. search rules)
    (λ c κs. search rules)
    returns)
