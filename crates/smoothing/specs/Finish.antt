-- The accepted spline in physical units, its audit and its errors: "The final audit is in physical units".
use Rattle.std.specs.Prelude.{ℕ, ◌+◌, ◌-◌, ◌*◌, Bool, cond, List, Float}
use Rattle.std.specs.Float.{binary64}
use Rattle.std.specs.Float.Ieee.{add, mul, lt}
use Rattle.arith.specs.Loop.{each}
use Rattle.arith.specs.Operations.{floats}
use Rattle.window.specs.Cells.{+0, at}
use Rattle.float.specs.Order.{max_of}
use Rattle.window.specs.Rows.{list_of, table}
use Rattle.bspline.specs.Segments.{Polynomial, polynomial_of}
use Rattle.polynomial.specs.Audit.{Audit, audit_of}
use Rattle.polynomial.specs.Outcome as audits
use Rattle.request.specs.Any.{any}
use Rattle.smoothing.specs.Answer.{Answer, and_then, unless}
use Rattle.smoothing.specs.Answer.Answer.{done, refused}
use Rattle.smoothing.specs.Rows.{Task, Units}
use Rattle.smoothing.specs.State.{Counts, add_intervals, Spline, State}

-- `b.c[i * k + a] = b.c[i * k + a] * eps[a] + points[(axes[a], 0)]`
unfoldable pub physical_of : Units → ℕ → Spline → List Float
physical_of u k b = table b.m k (λ i a. add binary64 (mul binary64 (at b.c (i * k + a)) (at u.eps a)) (at u.rows a))

-- `let selected = b.polynomial()`
unfoldable pub final_polynomial : Units → ℕ → Spline → Polynomial Float
final_polynomial u k b = polynomial_of floats b.t (physical_of u k b) k b.m

-- `(0..n - 1).map(|i| bounds[i * k + a]).fold(0., f64::max)`
unfoldable pub error_of : ℕ → ℕ → List Float → ℕ → Float
error_of n k bounds a = each (λ i w. max_of w (at bounds (i * k + a))) 0 (n - 1) +0

-- `report.max_errors`
unfoldable pub errors_of : Task → List Float → List Float
errors_of q bounds = list_of q.k (error_of q.n q.k bounds)

-- 17, "final error above the tolerance"
unfoldable pub excessive : List Float → ℕ → List Float → Bool
excessive eps k errors = any k (λ a. lt (at eps a) (at errors a))

-- the selected axes: their polynomial, their errors, and the report's counts
pub record Selected : Type 0 where
  pub curve : Polynomial Float
  pub errors : List Float
  pub report : Counts

-- once they are audited; 12, 13, 17
unfoldable pub judged : Task → Units → Polynomial Float → Counts → Audit → Answer Selected
judged q u p report a =
    let errors = errors_of q a.bounds in
    let fine : Answer Selected = done (record { curve = p; errors = errors; report = add_intervals a.checked report }) in
    and_then (unless (audits.number_of a.outcome) a) (λ _. cond (excessive u.eps q.k errors) (refused 17) fine)

-- `audit(&selected, &s, &y, 0, n - 1, &mut bounds, &mut witness)?`, where y now holds the waypoints as handed in
unfoldable pub finish_of : Task → Units → State → Answer Selected
finish_of q u st =
    let p = final_polynomial u q.k st.b in
    judged q u p st.report (audit_of p.breaks p.coefficients q.s u.rows q.k 0 (q.n - 1) st.bounds st.witness)
