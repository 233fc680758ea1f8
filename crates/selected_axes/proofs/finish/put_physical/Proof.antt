-- `finish::put_physical` meets its contract.
use mathlib.Core.Path.{◌≡◌, sym, subst}
use mathlib.Core.List.{List}
use native.Mathlib.Omega.{arith}
use borrow.Author.Rules.{rules}
use lib.ListN.{length, take}
use lib.Ieee.{Float}
use Rattle.smoothing.specs.Rows.{gathered}
use Rattle.refinement.specs.Memory.{memory_at, Wide}
use Rattle.selected_axes.proofs.Finishing.{scaled_knots, physical_is}
use Rattle.selected_axes.proofs.finish.put_physical.Statement.{statement}
use Rattle.selected_axes.proofs.finish.put_physical.Tie as tie

rebuild-requires : tie.Need-rebuild-requires
rebuild-requires c κs =
    let a = c.args in
    let p = a.p in
    let e = c.put_points in
    let f = c.scale_all in
    let rows = gathered a.points.now a.d p.samples (take p.axes a.axes.now) in
    let same : length f.new.work ≡ length a.work.now = omega arith in (
      rw same c.requires.0,
      subst (λ (t : List Float). Wide t p.count)
          (sym (scaled_knots p rows a.eps.now (memory_at p a.work.now) (memory_at p e.new.work) (memory_at p f.new.work)
          e.ensures f.ensures))
          c.requires.5,
    )

returns : tie.Need-returns
returns c =
    let a = c.args in
    let p = a.p in
    let e = c.put_points in
    let f = c.scale_all in
    let g = c.rebuild in
    let rows = gathered a.points.now a.d p.samples (take p.axes a.axes.now) in
    physical_is p rows a.eps.now (memory_at p a.work.now) (memory_at p e.new.work) (memory_at p f.new.work) e.ensures
    f.ensures (memory_at p g.new.work) g.ensures

pub put_physical_spec : {M : Type 1} → statement M
put_physical_spec = tie.close (tie.spec (λ c κs. search rules) (λ c κs. search rules) rebuild-requires (λ c. search rules) returns)
