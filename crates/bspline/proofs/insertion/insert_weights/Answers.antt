use Rattle.std.proofs.Common.{◌≡◌, ℕ, ◌+◌, ◌-◌, refl, List, arith}
use lib.Ieee.{Float}
use Rattle.arith.specs.Operations.{floats}
use Rattle.window.specs.Cells.{zeros}
use Rattle.window.specs.Rows.{join, list_of}
use Rattle.window.proofs.Joined.{list_length}
use Rattle.window.proofs.Written.{fill_next, written_all}
use Rattle.bspline.specs.Insertion.{alpha_of}
use Rattle.bspline.proofs.insertion.insert_weights.Goals as goal

abbrev alphas : List Float → Float → ℕ → ℕ → Float
alphas t x k i = alpha_of floats t x (k - 4 + i)

pub loop-r-init : goal.loop-r-init
unfolding join
loop-r-init c = refl

pub loop-r-preserved : goal.loop-r-preserved
loop-r-preserved c =
    let l = c.loop-r in
    let a = c.args in
    let q : 0 + l.r ≡ l.r = omega arith in
    rw l.invariant (rw q at (fill_next 0 (alphas a.t.now a.x a.k) l.r (zeros 5) c.weight.result (omega arith) c.weight.ensures))

pub returns : goal.returns
returns c =
    let l = c.loop-r in
    let a = c.args in
    let e : l.r ≡ 5 = omega arith in
    let f = alphas a.t.now a.x a.k in
    rw (l.invariant, e) (written_all (list_of 5 f) (zeros 5) (list_length 5 f))
