-- What `audit` asks of the slice, and what its contract then says of the arrays.
use mathlib.Core.Path.{◌≡◌, ap, ◌∙◌}
use mathlib.Core.List.{List}
use Prim.Native.Nat.{ℕ, ◌<◌, ◌≤◌}
use native.Mathlib.Omega.{arith}
use lib.ListN.{length}
use lib.Ieee.{Float}
use Rattle.polynomial.specs.Placed as audits
use Rattle.polynomial.specs.Audit.{Audit}
use Rattle.polynomial.proofs.Counts.{audit_few}
use Rattle.polynomial.proofs.Counts.{audit_lengths}
use Rattle.refinement.specs.declared.plan.Plan.{Plan}
use Rattle.refinement.specs.Memory.{parts_of, Roomy, Memory, memory_at, with_bounds}
use Rattle.refinement.specs.Refit.{audit_over}
use Rattle.refinement.proofs.Memories.{products, lengths, bounds_written}

module _ (p : Plan) (w : List Float) (r : Roomy p (length w)) where
  pub audit_asks : audits.PartsLaid (parts_of p) (length w)
  audit_asks =
      let q = products p (length w) r in
      record {
        few = r.few;
        some = omega arith;
        parameters_end = omega arith;
        points_end = omega arith;
        bounds_end = omega arith;
        before_breaks = omega arith;
        before_coefficients = omega arith;
        breaks_end = omega arith;
        coefficients_end = omega arith;
      }

  module _ (first last : ℕ) where
    abbrev x : Memory
    x = memory_at p w

    abbrev found : Audit
    found = audit_over p first last x

    -- it checks no more intervals than there are
    pub checked_few : (k : ℕ) → k ≡ found.checked → last < p.samples → k ≤ p.samples
    checked_few k e h =
        let n = audit_few x.breaks x.coefficients x.s x.y p.axes first last x.bounds x.witness in omega arith

    pub audit_memory : (v : List Float) → v ≡ audits.with_bounds (parts_of p) found.bounds found.witness w
        → memory_at p v ≡ with_bounds found.bounds found.witness x
    audit_memory v e =
        let l = lengths p w r in
        let n = audit_lengths x.breaks x.coefficients x.s x.y p.axes first last x.bounds x.witness in
        ap (memory_at p) e ∙ bounds_written p w r found.bounds found.witness (n.0 ∙ l.bounds) (n.1 ∙ l.witness)
