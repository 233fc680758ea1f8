-- `certify::checked` meets its contract: by cases on the checks, in their order. What is not refused is `Accepted`, and gives what the walk
-- requires.
use mathlib.Core.Path.{sym, ap, ◌∙◌}
use Prim.Native.Nat.{◌*◌, ◌≤◌}
use native.Mathlib.Nat.{mul-le-mul}
use native.Mathlib.Omega.{arith}
use borrow.Author.Tests.{le-ltb, lt-ltb, eq-eqb, ne_eqb}
use Rattle.request.proofs.Counts.{listed_count, waypoint_count}
use Rattle.curve.specs.Form.{slices}
use Rattle.curve.proofs.Formed.{formed}
use Rattle.figure.specs.Certify.{certify_of, outcome}
use Rattle.figure.proofs.Certified.{Accepted, axis_below, breaks_rise_law, lengths, parameters_rise}
use Rattle.certificate.proofs.certify.checked.Goals as goal

pub returns-then-depth-gt6 : goal.returns-then-depth-gt6
unfolding certify_of
returns-then-depth-gt6 c = rw (lt-ltb 6 _ c.if-depth-gt6.true)

pub returns-then-d-gt16 : goal.returns-then-d-gt16
unfolding certify_of
returns-then-d-gt16 c = rw (le-ltb 6 _ c.if-depth-gt6.false, lt-ltb 16 _ c.if-d-gt16.true)

pub returns-then-n-gt20000 : goal.returns-then-n-gt20000
unfolding certify_of
returns-then-n-gt20000 c = rw (le-ltb 6 _ c.if-depth-gt6.false, le-ltb 16 _ c.if-d-gt16.false, lt-ltb 20000 _ c.if-n-gt20000.true)

pub overflow_mul-d : goal.overflow_mul-d
overflow_mul-d c =
    let a = c.args in
    let h : a.curve.d * a.n ≤ 16 * 20000 = mul-le-mul c.if-d-gt16.false c.if-n-gt20000.false in
    omega arith

pub returns-then-points-d : goal.returns-then-points-d
unfolding certify_of
returns-then-points-d c = rw (
  le-ltb 6 _ c.if-depth-gt6.false,
  le-ltb 16 _ c.if-d-gt16.false,
  le-ltb 20000 _ c.if-n-gt20000.false,
  ne_eqb _ _ c.if-points-d.true,
)

pub returns-then-unfit : goal.returns-then-unfit
unfolding certify_of
returns-then-unfit c = rw (
  le-ltb 6 _ c.if-depth-gt6.false,
  le-ltb 16 _
      c.if-d-gt16.false,
  le-ltb 20000 _ c.if-n-gt20000.false,
  eq-eqb
      _ _ c.if-points-d.false,
  sym c.unfit.ensures ∙ c.if-unfit.true,
)

pub placed-requires : goal.placed-requires
placed-requires c =
    let a = c.args in (
      waypoint_count a.curve.d a.n a.points.now (sym c.unfit.ensures ∙ c.if-unfit.false),
      c.if-n-gt20000.false,
      omega (arith, c.if-points-d.false),
    )

pub returns-in_default : goal.returns-in_default
unfolding certify_of
returns-in_default c = rw (
  le-ltb 6 _ c.if-depth-gt6.false,
  le-ltb 16 _ c.if-d-gt16.false,
  le-ltb 20000 _
      c.if-n-gt20000.false,
  eq-eqb _ _ c.if-points-d.false,
  sym
      c.unfit.ensures ∙ c.if-unfit.false,
  c.in_default.ensures,
)

pub unreliable-requires : goal.unreliable-requires
unreliable-requires c =
    let a = c.args in
    let count = listed_count a.spacing a.parameters.now a.points.now a.curve.d a.n c.in-Some.ensures.0 in
    record {
      le_n = (
        waypoint_count a.curve.d a.n a.points.now (sym c.unfit.ensures ∙ c.if-unfit.false),
        c.if-n-gt20000.false,
        omega (arith, c.if-points-d.false),
        λ e. let l = count e in omega arith,
      );
      range_value = c.in-Some.ensures.1;
    }

pub returns-then-unreliable : goal.returns-then-unreliable
unfolding certify_of
returns-then-unreliable c = rw (
  le-ltb 6 _ c.if-depth-gt6.false,
  le-ltb 16 _ c.if-d-gt16.false,
  le-ltb 20000 _
      c.if-n-gt20000.false,
  eq-eqb _ _
      c.if-points-d.false,
  sym c.unfit.ensures
      ∙ c.if-unfit.false,
  c.in-Some.ensures.0,
  sym c.unreliable.ensures ∙ c.if-unreliable.true,
)

pub returns-then-not-well_formed : goal.returns-then-not-well_formed
unfolding certify_of
returns-then-not-well_formed c = rw (
  le-ltb 6 _ c.if-depth-gt6.false,
  le-ltb 16 _ c.if-d-gt16.false,
  le-ltb 20000 _
      c.if-n-gt20000.false,
  eq-eqb _ _
      c.if-points-d.false,
  sym
      c.unfit.ensures
      ∙ c.if-unfit.false,
  c.in-Some.ensures.0,
  sym c.unreliable.ensures
      ∙ c.if-unreliable.false,
  sym c.well_formed-2.ensures ∙ c.if-not-well_formed.true,
)

pub position-place-requires : goal.position-place-requires
position-place-requires c =
    let a = c.args in
    let f = formed a.curve (slices a.breaks.now a.coefficients.now a.other_breaks.now a.other_coefficients.now)
    (sym c.well_formed-2.ensures ∙ c.if-not-well_formed.false) in
    omega (arith, f.k_high, f.d_high)

pub returns-then-k-place : goal.returns-then-k-place
unfolding certify_of
returns-then-k-place c = rw (
  le-ltb 6 _ c.if-depth-gt6.false,
  le-ltb 16 _ c.if-d-gt16.false,
  le-ltb 20000 _ c.if-n-gt20000.false,
  eq-eqb _ _ c.if-points-d.false,
  sym c.unfit.ensures
      ∙ c.if-unfit.false,
  c.in-Some.ensures.0,
  sym
      c.unreliable.ensures
      ∙ c.if-unreliable.false,
  sym c.well_formed-2.ensures
      ∙ c.if-not-well_formed.false,
  ← c.position-place.ensures,
  le-ltb _ _ c.if-k-place.true,
)

pub walk-requires : goal.walk-requires
walk-requires c =
    let a = c.args in
    let s = (slices a.breaks.now a.coefficients.now a.other_breaks.now a.other_coefficients.now) in
    let A : Accepted a.curve s a.points.now a.n a.spacing a.parameters.now a.axis a.depth =
    record {
      shallow = c.if-depth-gt6.false;
      d_domain = c.if-d-gt16.false;
      n_domain = c.if-n-gt20000.false;
      cells = c.if-points-d.false;
      points_fit = sym c.unfit.ensures
          ∙ c.if-unfit.false;
      placed = c.in-Some.ensures.0;
      reliable = sym c.unreliable.ensures
          ∙ c.if-unreliable.false;
      well_formed_law = sym c.well_formed-2.ensures
          ∙ c.if-not-well_formed.false;
      selected = rw (← c.position-place.ensures) c.if-k-place.false;
    }
    in
    let l = lengths a.curve s a.points.now a.n a.spacing a.parameters.now a.axis a.depth A in
    record {
      place_lt_k = (
        c.if-k-place.false,
        l.0,
        l.1,
        l.2,
        l.3,
        axis_below a.curve s a.points.now a.n a.spacing a.parameters.now a.axis a.depth A,
        A.d_domain,
        waypoint_count a.curve.d a.n a.points.now A.points_fit,
        A.n_domain,
        A.cells,
        listed_count a.spacing a.parameters.now a.points.now a.curve.d a.n A.placed,
      );
      rises = (
        breaks_rise_law a.curve s a.points.now a.n a.spacing a.parameters.now a.axis a.depth A,
        parameters_rise a.curve s a.points.now a.n a.spacing a.parameters.now a.axis a.depth A
            c.type_inv.parameters,
      );
      range_value = c.in-Some.ensures.1;
    }

pub returns : goal.returns
unfolding certify_of
returns c = rw (
  le-ltb 6 _ c.if-depth-gt6.false,
  le-ltb 16 _ c.if-d-gt16.false,
  le-ltb 20000 _
      c.if-n-gt20000.false,
  eq-eqb _ _ c.if-points-d.false,
  sym c.unfit.ensures ∙ c.if-unfit.false,
  c.in-Some.ensures.0,
  sym
      c.unreliable.ensures
      ∙ c.if-unreliable.false,
  sym
      c.well_formed-2.ensures
      ∙ c.if-not-well_formed.false,
  ← c.position-place.ensures,
  lt-ltb _ _
      c.if-k-place.false,
) (ap (outcome 0) c.walk.ensures)
