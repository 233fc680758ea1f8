use Rattle.std.proofs.Common.{◌≡◌, ◌+◌, ◌-◌, List, true, set, length, refl, ap, ◌∙◌, arith}
use lib.Ieee.{Float, binary64, sub, div}
use Rattle.window.specs.Cells.{at}
use Rattle.window.specs.Rows.{join, list_of}
use Rattle.curve.proofs.Putting.{put_none, put_step}
use Rattle.request.specs.Parameters.{length_of, normalised_of}
use Rattle.window.proofs.Joined.{list_length}
use Rattle.window.proofs.Written.{written_all}
use Rattle.gathering.proofs.Normalising.{read_next}
use Rattle.gathering.proofs.parameters.normalise.Goals as goal

pub loop-x-init : goal.loop-x-init
unfolding join
loop-x-init c = (refl, put_none true 0 c.args.cells.now)

pub loop-x-preserved : goal.loop-x-preserved
unfolding normalised_of length_of
loop-x-preserved c =
    let p = c.args.cells.now in
    let l = c.loop-x in
    let n = length p in
    let f = normalised_of p n in
    let whole = sub binary64 (at p (n - 1)) (at p 0) in
    let x = div binary64 (sub binary64 (at l.cells l.x-index) (at p 0)) whole in
    let read : at l.cells l.x-index ≡ at p l.x-index = ap (λ (v : List Float). at v l.x-index) l.invariant.1
    ∙ read_next l.x-index f p (omega arith) in
    let e : 0 + l.x-index ≡ l.x-index = omega arith in
    put_step true 0 l.x-index n f p l.cells (set l.cells l.x-index x) x (omega arith) (λ b. omega arith) l.invariant.1 (rw e)
    (λ j. div binary64 (sub binary64 (read j) (at p 0)) whole)

pub returns : goal.returns
unfolding length_of
returns c =
    let p = c.args.cells.now in
    let n = length p in
    let f = normalised_of p n in
    let e : c.loop-x.x-index ≡ n = omega arith in
    record { value = refl; cells_after = (rw e at c.loop-x.invariant.1) ∙ written_all (list_of n f) p (list_length n f) }
