-- The turns of `audit`, how many intervals it checks, and that it writes in place.
use mathlib.Core.Path.{◌≡◌, refl, sym, ap, ◌∙◌}
use mathlib.Core.Bool.{Bool, true, false, true≢false}
use mathlib.Core.List.{List}
use Prim.Native.Nat.{ℕ, zero, suc, ◌+◌, ◌-◌, ◌*◌, ◌≤◌}
use native.Mathlib.Omega.{arith}
use lib.ListN.{length, set, length-set}
use lib.Ieee.{Float}
use Rattle.arith.specs.Loop.{till}
use Rattle.arith.specs.Loop.Step.{next, stop}
use Rattle.arith.proofs.Loops.{Holds, till_done, till_holds, till_next, till_stop}
use Rattle.arith.proofs.Loops.Holds.{goes, ends}
use Rattle.window.specs.Cells.{at}
use Rattle.polynomial.specs.Outcome.{Done}
use Rattle.polynomial.specs.Span.{break_span}
use Rattle.polynomial.specs.Outcome.{is_done}
use Rattle.polynomial.specs.Interval.{Interval, interval_of}
use Rattle.polynomial.specs.Audit.{Audit, bounds_with, audit_turn, audit_of}
use Rattle.polynomial.proofs.Placed.{bounds_length}

shift : (v c k : ℕ) → v ≤ (c + 1) + k → v ≤ c + suc k
shift v c k h = omega arith

module _ (breaks coefficients s y : List Float) (d : ℕ) where
  -- the turn of interval i, which is r
  module _ (i : ℕ) (a : Audit) (r : Interval) (is : r ≡ interval_of breaks coefficients s y d i a.span (at a.witness i)) where
    pub goes_on : is_done r.outcome ≡ true → audit_turn breaks coefficients s y d i a
        ≡ next (record {
          bounds = bounds_with (i * d) d r.bounds a.bounds;
          witness = set a.witness i r.witness;
          span = r.span;
          checked = a.checked + 1;
          outcome = Done;
        })
    unfolding audit_turn
    goes_on g = rw (← is, g)

    pub stops : is_done r.outcome ≡ false → audit_turn breaks coefficients s y d i a
        ≡ stop (record { bounds = a.bounds; witness = a.witness; span = a.span; checked = a.checked; outcome = r.outcome })
    unfolding audit_turn
    stops g = rw (← is, g)

  -- the audit from interval i on
  abbrev rest : ℕ → ℕ → Audit → Audit
  rest i last a = till (audit_turn breaks coefficients s y d) (λ a. a) i last a

  counted : (k i last : ℕ) (a : Audit) → last - i ≡ k
      → ((rest i last a).checked ≤ a.checked + k) × ((rest i last a).outcome ≡ Done → (rest i last a).checked ≡ a.checked + k)
  counted zero i last a e =
      let t = till_done (audit_turn breaks coefficients s y d) (λ a. a) i last a (omega arith) in
      (rw t (omega arith), λ h. rw t (omega arith))
  counted (suc k) i last a e =
      go (is_done (interval_of breaks coefficients s y d i a.span (at a.witness i)).outcome) refl
      (λ b. counted k (i + 1) last b (omega arith))
    where
      go : (b : Bool) → is_done (interval_of breaks coefficients s y d i a.span (at a.witness i)).outcome ≡ b
          → ((b : Audit) → ((rest (i + 1) last b).checked ≤ b.checked + k) × ((rest (i + 1) last b).outcome ≡ Done → (rest (i + 1) last
          b).checked ≡ b.checked + k))
          → ((rest i last a).checked ≤ a.checked + suc k) × ((rest i last a).outcome ≡ Done → (rest i last a).checked ≡ a.checked + suc k)
      go true g again =
          let t = till_next (audit_turn breaks coefficients s y d) (λ a. a) i last a _ (omega arith) (goes_on i a _ refl g) in
          let n = again _ in
          (rw t (shift _ a.checked k n.0), λ h. rw t (n.1 (rw t at h) ∙ omega arith))
      go false g again =
          let t = till_stop (audit_turn breaks coefficients s y d) (λ a. a) i last a _ (omega arith) (stops i a _ refl g) in
          (rw t (omega arith), λ h. absurd (true≢false (sym (ap is_done (rw t at h)) ∙ g)))

  -- an audit that is not refused checked every interval of the range
  pub audit_counts : (first last : ℕ) (bounds witness : List Float) → (audit_of breaks coefficients s y d first last bounds witness).outcome
      ≡ Done
      → (audit_of breaks coefficients s y d first last bounds witness).checked ≡ last - first
  unfolding audit_of
  audit_counts first last bounds witness h =
      let n = (counted (last - first) first last _ refl).1 h in omega arith

  -- and no audit more than these
  pub audit_few : (first last : ℕ) (bounds witness : List Float) → (audit_of breaks coefficients s y d first last bounds witness).checked
      ≤ last - first
  unfolding audit_of
  audit_few first last bounds witness =
      let n = (counted (last - first) first last (record {
        bounds = bounds;
        witness = witness;
        span = break_span breaks (at s first);
        checked =
            0;
        outcome = Done;
      }) refl).0 in
      omega arith

  -- an audit writes in place
  abbrev Long : ℕ → ℕ → Audit → Type 0
  Long m n a = (length a.bounds ≡ m) × (length a.witness ≡ n)

  turn_long : (m n i : ℕ) (a : Audit) → Long m n a → Holds (Long m n) (Long m n) (audit_turn breaks coefficients s y d i a)
  turn_long m n i a h = go (is_done r.outcome) refl
    where
      r : Interval
      r = interval_of breaks coefficients s y d i a.span (at a.witness i)

      go : (c : Bool) → is_done r.outcome ≡ c → Holds (Long m n) (Long m n) (audit_turn breaks coefficients s y d i a)
      go true e = rw (goes_on i a r refl e) (goes (
        bounds_length (i * d) d r.bounds a.bounds
            ∙ h.0,
        length-set a.witness i r.witness ∙ h.1,
      ))
      go false e = rw (stops i a r refl e) (ends h)

  pub audit_lengths : (first last : ℕ) (bounds witness : List Float) → let a = audit_of breaks coefficients s y d first last bounds
      witness in
      (length a.bounds ≡ length bounds) × (length a.witness ≡ length witness)
  unfolding audit_of
  audit_lengths first last bounds witness =
      till_holds (Long (length bounds) (length witness)) (Long (length bounds) (length witness)) (audit_turn breaks coefficients s y d)
      (λ a. a)
      (turn_long (length bounds) (length witness)) (λ a h. h) first last _ (refl, refl)
