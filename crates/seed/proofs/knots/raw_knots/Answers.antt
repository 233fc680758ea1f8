use Rattle.std.proofs.Common.{◌≡◌, ◌+◌, ◌<◌, ℕ, List, length, refl, ◌∙◌, arith}
use Rattle.window.proofs.Windows.{length_splice}
use Rattle.seed.specs.Anchors.{next_anchor}
use lib.Ieee.{Float}
use Rattle.seed.specs.declared.Waypoints.{Waypoints}
use Rattle.seed.specs.Placed.{WaypointsLaid, parameters_at, points_at}
use Rattle.seed.proofs.Scanning.{next_between}
use Rattle.seed.proofs.Writing.{Begun, begun_none, begun_more, begun_count, begun_cells, parameters_length, same_parameters, same_points}
use Rattle.seed.proofs.knots.raw_knots.Goals as goal

pub loop-b-init : goal.loop-b-init
loop-b-init c =
    let g = c.args in
    let p = g.p in
    let w = g.work.now in
    let n = parameters_length p w c.requires.0 in
    rw c.anchor_after-b.ensures (begun_none (parameters_at p w) (points_at p w) p.axes p.knots w (omega arith), refl, n)

module _ (p : Waypoints) (w : List Float) (b next : ℕ) where
  -- the anchor after b, of the waypoints as at entry
  next_is : (work : List Float) (a k : ℕ) → WaypointsLaid p (length w)
      → Begun (parameters_at p w) (points_at p w) p.axes p.knots w work a b k
      → next ≡ next_anchor (parameters_at p work) (points_at p work) p.axes b
      → next ≡ next_anchor (parameters_at p w) (points_at p w) p.axes b
  next_is work a k laid z e = e ∙ rw (z.is, same_parameters p w laid z.done, same_points p w laid z.done)

  -- it lies after b
  next_after : length (parameters_at p w) ≡ p.samples → b + 1 < p.samples
      → next ≡ next_anchor (parameters_at p w) (points_at p w) p.axes b → (b < next) × (next < p.samples)
  next_after n h e =
      let k = next_between (parameters_at p w) (points_at p w) p.axes b (omega arith) in
      rw e (k.0, omega (arith, k.1))

pub knots_at-t-requires : goal.knots_at-t-requires
knots_at-t-requires c =
    let p = c.args.p in
    let w = c.args.work.now in
    let l = c.loop-b in
    let laid = c.requires.0 in
    let n = next_is p w l.b _ l.work l.a l.k laid l.invariant.0 c.anchor_after-c.ensures in
    ((laid.0, laid.1, laid.2, omega arith), omega arith, omega arith, (next_after p w l.b _ l.invariant.2 (omega arith) n).1)

pub loop-b-smaller : goal.loop-b-smaller
loop-b-smaller c =
    let p = c.args.p in
    let w = c.args.work.now in
    let l = c.loop-b in
    let n = next_is p w l.b _ l.work l.a l.k c.requires.0 l.invariant.0 c.anchor_after-c.ensures in
    omega (arith, next_after p w l.b _ l.invariant.2 (omega arith) n)

pub loop-b-preserved : goal.loop-b-preserved
loop-b-preserved c =
    let p = c.args.p in
    let w = c.args.work.now in
    let l = c.loop-b in
    let laid = c.requires.0 in
    let z = l.invariant.0 in
    let n = next_is p w l.b _ l.work l.a l.k laid z c.anchor_after-c.ensures in
    let e = rw (z.is, same_parameters p w laid z.done, same_points p w laid z.done, n) at c.knots_at-t.ensures in
    rw (c.copy_from_slice.ensures.after, n) (
      begun_more (parameters_at p w) (points_at p w) p.axes p.knots w l.work l.a l.b l.k c.knots_at-t.result (omega arith) (omega arith)
          e z,
      length_splice (p.knots + l.k) (p.knots + l.k + 3) c.knots_at-t.result l.work (omega arith) (omega arith) (omega arith)
          ∙ l.invariant.1,
      l.invariant.2,
    )

pub returns-clause-value : goal.returns-clause-value
returns-clause-value c =
    let p = c.args.p in
    let w = c.args.work.now in
    let l = c.loop-b in
    begun_count (parameters_at p w) (points_at p w) p.axes p.knots w l.work l.a l.b l.k (omega arith) l.invariant.0

pub returns-clause-work_after : goal.returns-clause-work_after
returns-clause-work_after c =
    let p = c.args.p in
    let w = c.args.work.now in
    let l = c.loop-b in
    begun_cells (parameters_at p w) (points_at p w) p.axes p.knots w l.work l.a l.b l.k (omega arith) l.invariant.0
