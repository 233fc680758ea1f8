-- `assembly::add_span` meets its contract: the span is passed over, or the rows of its mesh are added.
use mathlib.Core.Path.{refl, ap, ◌∙◌}
use Prim.Native.Nat.{ℕ, ◌+◌, ◌-◌, ◌≤◌}
use native.Mathlib.Omega.{arith}
use borrow.Author.Rules.{rules}
use lib.ListN.{length}
use Rattle.fitting_rows.specs.Arrays.{Arrays, arrays_at}
use Rattle.fit.specs.Region.{before, system_at}
use Rattle.fitting_rows.specs.Pieces.{mesh_span}
use Rattle.fit.specs.Assembly.{assembled, mesh_of}
use lib.Ieee.{nan, lt}
use Rattle.window.specs.Cells.{at}
use Rattle.window.proofs.Windows.{length_window}
use Rattle.fitting_rows.specs.declared.pieces.Mesh.{Mesh}
use Rattle.bspline.proofs.PointWithin.{point_within}
use Rattle.fit.proofs.Placing.{placed}
use Rattle.fit.proofs.Turns.{span_passed, span_counted}
use Rattle.fit.proofs.assembly.add_span.Statement.{statement}
use Rattle.fit.proofs.assembly.add_span.Tie as tie

is-passed-over-requires : tie.Need-is_passed_over-requires
is-passed-over-requires c κs = (placed _ _ _ _ c.requires.0.0, omega arith)

returns : tie.Need-returns-then-is_passed_over
returns c =
    let a = c.args in
    let w = a.work.now in
    let x = arrays_at a.w.place (before a.w.place w) in (
      refl,
      (
        span_passed x a.w.a a.w.z a.lo a.hi c.requires.1.0
            c.requires.1.1 a.span _ (assembled a.rows (system_at a.w.place (a.w.z - a.w.a) w))
            c.is_passed_over.ensures c.if-is_passed_over.true,
        omega arith,
      ),
    )

mesh-at-requires : tie.Need-mesh_at-mesh-requires
mesh-at-requires c κs = (placed _ _ _ _ c.requires.0.0, omega arith)

-- the samples of a mesh end where the samples do
mesh-within : (x : Arrays) (span : ℕ) → (mesh_span x span).end ≤ length x.s
unfolding mesh_span
mesh-within x span = point_within nan (λ v. lt v (at x.t (span + 1))) x.s

add-mesh-requires : tie.Need-add_mesh-requires
add-mesh-requires c κs =
    let a = c.args in
    let w = a.work.now in
    let x = arrays_at a.w.place (before a.w.place w) in
    let e = ap (λ (m : Mesh). m.end) c.mesh_at-mesh.ensures in
    let h = mesh-within x a.span in
    let l = length_window 0 a.w.place.system w (omega arith) (omega arith) in
    let k = length_window a.w.place.parameters (a.w.place.parameters + a.w.place.samples) (before a.w.place w) (omega arith) (omega arith) in
    (c.requires.0.0, omega (arith, e, h, k), omega arith)

returns-2 : tie.Need-returns
returns-2 c =
    let a = c.args in
    let w = a.work.now in
    let x = arrays_at a.w.place (before a.w.place w) in
    let n = assembled a.rows (system_at a.w.place (a.w.z - a.w.a) w) in
    let v = c.add_mesh.ensures in
    let t = span_counted x a.w.a a.w.z a.lo a.hi
    c.requires.1.0
    c.requires.1.1 a.span _ n
    c.is_passed_over.ensures
    c.if-is_passed_over.false in
    (v.0, (v.1.0 ∙ ap (λ (m : Mesh). mesh_of x a.w.a a.w.z m n) c.mesh_at-mesh.ensures ∙ t, v.1.1))

pub add_span_spec : {M : Type 1} → statement M
add_span_spec =
    tie.close
    (tie.spec
    (λ c. search rules)
    (λ c. search rules)
    (λ c. search rules)
    is-passed-over-requires
    (λ c. search rules)
    returns
    (λ c. search rules)
    (λ c. search rules)
    (λ c. search rules)
    mesh-at-requires
    add-mesh-requires
    (λ c. search rules)
    returns-2)
