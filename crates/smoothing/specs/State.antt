-- What `build` carries from step to step, and the two steps that it takes again and again: a fit of a window, an audit of intervals.
use Rattle.std.specs.Prelude.{ℕ, ◌+◌, List, Float}
use Rattle.arith.specs.Operations.{floats}
use Rattle.bspline.specs.Segments.{Polynomial, polynomial_of}
use Rattle.fitting_rows.specs.Arrays.{arrays}
use Rattle.fit.specs.Fit.{Fit, fit_of}
use Rattle.polynomial.specs.Audit.{Audit, audit_of}
use Rattle.polynomial.specs.Outcome as audits
use Rattle.smoothing.specs.Answer.{Answer, unless}
use Rattle.smoothing.specs.Rows.{Task}

-- the source's `b`: m + 6 knots, m controls
pub record Spline : Type 0 where
  pub t : List Float
  pub c : List Float
  pub m : ℕ

abbrev pub spline : List Float → List Float → ℕ → Spline
spline t c m = record { t = t; c = c; m = m }

-- "The running report is one record that each stage adds to": `report.refinements`, `fitting_rows`, `checked_intervals`
pub record Counts : Type 0 where
  pub refinements : ℕ
  pub rows : ℕ
  pub intervals : ℕ

abbrev pub counts : ℕ → ℕ → ℕ → Counts
counts refinements rows intervals = record { refinements = refinements; rows = rows; intervals = intervals }

-- the three adders
abbrev pub add_refinement : Counts → Counts
add_refinement r = counts (r.refinements + 1) r.rows r.intervals

abbrev pub add_rows : ℕ → Counts → Counts
add_rows rows r = counts r.refinements (r.rows + rows) r.intervals

abbrev pub add_intervals : ℕ → Counts → Counts
add_intervals checked r = counts r.refinements r.rows (r.intervals + checked)

-- `b`, `bounds`, `witness` and the report
pub record State : Type 0 where
  pub b : Spline
  pub bounds : List Float
  pub witness : List Float
  pub report : Counts

abbrev pub state : Spline → List Float → List Float → Counts → State
state b bounds witness report = record { b = b; bounds = bounds; witness = witness; report = report }

-- `b.polynomial()`, of k axes
abbrev pub polynomial_in : ℕ → Spline → Polynomial Float
polynomial_in k b = polynomial_of floats b.t b.c k b.m

-- `fit(&mut b, &s, &y, a, z, strength)`
unfoldable pub fit_in : Task → ℕ → ℕ → Float → Spline → Fit
fit_in q a z strength b = fit_of (arrays b.t b.c b.m q.k q.s q.y q.n) a z strength

-- the state after a fit: new controls, and its rows counted; 9, 10, 11
unfoldable pub fitted : Fit → State → Answer State
fitted f st =
    unless f.answered.number
    (state (spline st.b.t f.controls st.b.m) st.bounds st.witness (add_rows f.answered.rows st.report))

-- the state after an audit: new bounds and witnesses, and the intervals counted; 12, 13
unfoldable pub audited : Audit → State → Answer State
audited a st = unless (audits.number_of a.outcome) (state st.b a.bounds a.witness (add_intervals a.checked st.report))

-- `audit(&b.polynomial(), &s, &y, left, right, &mut bounds, &mut witness)?`
unfoldable pub audit_in : Task → ℕ → ℕ → State → Answer State
audit_in q left right st =
    let p = polynomial_in q.k st.b in
    audited (audit_of p.breaks p.coefficients q.s q.y q.k left right st.bounds st.witness) st
