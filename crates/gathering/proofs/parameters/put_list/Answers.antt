use Rattle.std.proofs.Common.{◌≡◌, ◌+◌, true, set, length, refl, ◌∙◌, arith}
use Rattle.window.specs.Cells.{at}
use Rattle.window.specs.Rows.{join, list_of}
use Rattle.curve.proofs.Putting.{put_none, put_step}
use Rattle.request.specs.Parameters.{parameter_list}
use Rattle.window.proofs.Joined.{list_length}
use Rattle.window.proofs.Written.{written_all}
use Rattle.gathering.proofs.parameters.put_list.Goals as goal

pub loop-i-init : goal.loop-i-init
unfolding join
loop-i-init c =
    let a = c.args in
    let n = length a.cells.now in
    let p = parameter_list a.spacing a.list.now a.points.now a.d n in
    let x = c.first-current.result in
    let e = c.first-current.ensures a.points.now a.d in (
      e,
      put_step true 0 0 n (at p) a.cells.now a.cells.now (set a.cells.now 0 x) x (omega arith) (λ b. omega arith)
          (put_none true 0 a.cells.now) refl e,
    )

pub following-current-requires : goal.following-current-requires
following-current-requires c =
    record { n_bound = (omega arith, omega arith, omega arith, c.requires.3); current_value = c.loop-i.invariant.0 }

pub loop-i-preserved : goal.loop-i-preserved
loop-i-preserved c =
    let a = c.args in
    let n = length a.cells.now in
    let p = parameter_list a.spacing a.list.now a.points.now a.d n in
    let l = c.loop-i in
    let x = c.following-current.result in
    let e : 0 + (l.i + 1) ≡ l.i + 1 = omega arith in (
      c.following-current.ensures,
      put_step true 0 (l.i + 1) n (at p) a.cells.now l.cells (set l.cells (l.i + 1) x) x (omega arith)
          (λ t. omega arith) l.invariant.1.1 (rw e) c.following-current.ensures,
    )

pub returns : goal.returns
returns c =
    let a = c.args in
    let n = length a.cells.now in
    let p = parameter_list a.spacing a.list.now a.points.now a.d n in
    let l = c.loop-i in
    let e : l.i + 1 ≡ n = omega arith in
    (rw e at l.invariant.1.1) ∙ written_all (list_of n (at p)) a.cells.now (list_length n (at p))
