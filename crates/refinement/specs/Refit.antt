-- What a refit leaves as it was, its audit, and its counts.
use Rattle.std.specs.Prelude.{ℕ, ◌+◌, ◌*◌, ◌≤◌, ◌≡◌, List, Float, length, ⊤, Result, OnOk}
use Rattle.polynomial.specs.Audit.{Audit, audit_of}
use Rattle.seed.specs.Regions.{range}
use Rattle.smoothing.specs.Answer.{unless}
use Rattle.smoothing.specs.State.{Counts, add_intervals, audit_in}
use Rattle.smoothing.specs.Round.{refit_of}
use Rattle.smoothing.specs.Refusal.{answered}
use Rattle.smoothing.specs.declared.refusal.Refusal.{Refusal}
use Rattle.running_report.specs.declared.Report.{Report}
use Rattle.running_report.specs.Counted.{counts_of}
use Rattle.refinement.specs.declared.plan.Plan.{Plan}
use Rattle.refinement.specs.Memory.{Memory, Roomy, Wide, memory_at, task_at, state_at, Stored}

-- the task, the knots and the locations are as they were
pub record Same (x y : Memory) : Type 0 where
  pub same_s : y.s ≡ x.s
  pub same_y : y.y ≡ x.y
  pub same_t : y.t ≡ x.t
  pub same_locations : y.locations ≡ x.locations

-- the audit of the intervals from first up to last, against the stored polynomial
abbrev pub audit_over : Plan → ℕ → ℕ → Memory → Audit
audit_over p first last x =
    audit_of x.breaks x.coefficients x.s x.y p.axes first last x.bounds x.witness

-- n refits add no more than these: 2^32 rows and 20,016 intervals each
pub record More (n : ℕ) (r after : Report) : Type 0 where
  pub rows : after.rows ≤ r.rows + 4294967296 * n
  pub intervals : after.intervals ≤ r.intervals + 20016 * n

-- n refits can still be counted, up to 2^63
abbrev pub Spare : ℕ → Report → Type 0
Spare n r = (r.rows + 4294967296 * n ≤ 9223372036854775808) × (r.intervals + 20016 * n ≤ 9223372036854775808)

-- a slice in which the controls from a up to z can be fitted anew
abbrev pub Refittable : Plan → ℕ → ℕ → List Float → Type 0
Refittable p a z w = Roomy p (length w) × (a ≤ z) × (z ≤ p.count) × Wide (memory_at p w).t p.count × Stored p (memory_at p w)

-- an audit from left up to right took the slice from w to w', with a refusal's number or 0, and checked so many intervals:
-- the definition's audit, whatever was counted before
abbrev pub Audits : Plan → ℕ → ℕ → List Float → List Float → ℕ → ℕ → Type 0
Audits p left right w w' number checked =
    (k : Counts) → unless number (state_at p (add_intervals checked k) w') ≡ audit_in (task_at p w) left right (state_at p k w)

-- the source's turn for the region [a, z): the slice went from w to w' and the report from r to r', with a refusal or none
abbrev pub AfterRefit : Plan → ℕ → ℕ → List Float → List Float → Report → Report → Result ⊤ Refusal → Type 0
AfterRefit p a z w w' r r' result =
    (answered result (state_at p (counts_of r') w') ≡ refit_of (task_at p w) (range a z) (state_at p (counts_of r) w))
    × OnOk result (Stored p (memory_at p w') × Same (memory_at p w) (memory_at p w'))
    × (r'.refinements ≡ r.refinements) × More 1 r r'
