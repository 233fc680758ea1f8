-- The source's `audit`: interval after interval. `first..last` of them are audited.
use Rattle.std.specs.Prelude.{ℕ, ◌+◌, ◌*◌, cond, List, set, Float}
use Rattle.arith.specs.Loop.{each, till, Step}
use Rattle.arith.specs.Loop.Step.{next, stop}
use Rattle.window.specs.Cells.{at}
use Rattle.polynomial.specs.Outcome.{Outcome}
use Rattle.polynomial.specs.Outcome.{Done}
use Rattle.polynomial.specs.Span.{break_span}
use Rattle.polynomial.specs.Outcome.{is_done}
use Rattle.polynomial.specs.Interval.{interval_of}

-- bounds, d for each interval, and a witness for each; the span where the next interval starts; how many intervals were checked
pub record Audit : Type 0 where
  pub bounds : List Float
  pub witness : List Float
  pub span : ℕ
  pub checked : ℕ
  pub outcome : Outcome

-- the first d of an interval's cells, from `row` on
unfoldable pub bounds_with : ℕ → ℕ → List Float → List Float → List Float
bounds_with row d cells bounds = each (λ axis b. set b (row + axis) (at cells axis)) 0 d bounds

-- interval i: a refused one leaves its bounds and its witness as they were
unfoldable pub audit_turn : List Float → List Float → List Float → List Float → ℕ → ℕ → Audit → Step Audit Audit
audit_turn breaks coefficients s y d i a =
    let r = interval_of breaks coefficients s y d i a.span (at a.witness i) in
    cond (is_done r.outcome)
    (next (record {
      bounds = bounds_with (i * d) d r.bounds a.bounds;
      witness = set a.witness i r.witness;
      span = r.span;
      checked = a.checked + 1;
      outcome = Done;
    }))
    (stop (record { bounds = a.bounds; witness = a.witness; span = a.span; checked = a.checked; outcome = r.outcome }))

unfoldable pub audit_of : List Float → List Float → List Float → List Float → ℕ → ℕ → ℕ → List Float → List Float → Audit
audit_of breaks coefficients s y d first last bounds witness =
    till (audit_turn breaks coefficients s y d) (λ a. a) first last
    (record { bounds = bounds; witness = witness; span = break_span breaks (at s first); checked = 0; outcome = Done })
