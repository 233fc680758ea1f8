-- Number 12 asks for a waypoint above the last break: where there is none, the right end of every piece is above its left end, whatever the
-- other numbers are. (`build`'s breaks end at 1, and its parameters rise to 1.)
use mathlib.Core.Path.{◌≡◌, refl, sym, ap, ◌∙◌}
use mathlib.Core.Bool.{Bool, true, false, ◌&&◌, true≢false}
use mathlib.Core.List.{List}
use Prim.Native.Nat.{ℕ, ◌+◌, ◌*◌, ◌≤◌, ◌<◌}
use native.Mathlib.Omega.{arith}
use native.Mathlib.Decide.{dec_lt}
use borrow.Author.Tests.{lt-ltb, ltb-true}
use lib.Dec.{ltb}
use lib.ListN.{length}
use lib.Ieee.{Float, lt, le}
use Rattle.arith.proofs.Loops.{Holds, holds_cond, till_holds}
use Rattle.arith.proofs.Loops.Holds.{goes, ends}
use Rattle.window.specs.Cells.{at}
use Rattle.float.specs.Order.{min_of}
use Rattle.arith.proofs.FloatOrder.{lt_not_le}
use Rattle.arith.proofs.Runs.{whilst_ends}
use Rattle.polynomial.specs.declared.piece.Piece.{Piece}
use Rattle.polynomial.specs.Outcome.{Outcome}
use Rattle.polynomial.specs.Outcome.{Done}
use Rattle.polynomial.specs.Span.{segments, passed, advanced}
use Rattle.polynomial.specs.Outcome.{number_of, is_done}
use Rattle.polynomial.specs.Interval.{Found, Interval, piece_at, all_finite, axis_turn, axes_of, Walk, ended_by, walk_turn, interval_of}
use Rattle.polynomial.specs.Audit.{Audit, audit_turn, audit_of}
use Rattle.polynomial.proofs.Walk.{to_end, to_break}

-- ---- a piece
first_of : (p q : Bool) → (p && q) ≡ true → p ≡ true
first_of true q h = refl
first_of false q h = h

module _ (breaks : List Float) where
  advanced_ends : (left : Float) (span : ℕ) → span + 1 < length breaks → (advanced breaks left span + 1 < length breaks)
      × (passed breaks left (advanced breaks left span) ≡ false)
  unfolding advanced
  advanced_ends left span h =
      let r = whilst_ends (λ (n k : ℕ). (k + 1 < length breaks) × (length breaks ≤ n + k + 1)) (passed breaks left) (λ k. k + 1)
      (λ n k e g. let t = ltb-true (k + 1) (segments breaks) (first_of (ltb (k + 1) (segments breaks)) (le (at breaks (k + 1)) left) e) in
      (omega arith, omega arith))
      (λ k g. absurd (omega arith)) (length breaks) span (h, omega arith) in
      (r.1.0, r.2)

  piece_above : (end left : Float) (span : ℕ) → span + 1 < length breaks → lt left end ≡ true → lt (at breaks (segments breaks)) end ≡ false
      → le (min_of end (at breaks (advanced breaks left span + 1))) left ≡ false
  piece_above end left span h below top = go (lt (at breaks (advanced breaks left span + 1)) end) refl
    where
      go : (t : Bool) → lt (at breaks (advanced breaks left span + 1)) end ≡ t
          → le (min_of end (at breaks (advanced breaks left span + 1))) left ≡ false
      go false e = rw (to_end end left (at breaks (advanced breaks left span + 1)) below e) (lt_not_le left end below)
      go true e =
          let a = advanced_ends left span h in
          rw (to_break end left (at breaks (advanced breaks left span + 1)) below e)
          (elim (dec_lt (advanced breaks left span + 1) (segments breaks)) [
            | yes s ↦ rw (lt-ltb (advanced breaks left span + 1) (segments breaks) s) at a.1
            | no s ↦
                let last : advanced breaks left span + 1 ≡ segments breaks = omega arith in
                absurd (true≢false (sym e ∙ ap (λ (n : ℕ). lt (at breaks n) end) last ∙ top))
          ])

-- ---- the audit
abbrev Not12 : Outcome → Type 0
Not12 o = number_of o ≡ 12 → ⊥

done_not_12 : Not12 Done
done_not_12 e = omega arith

axes_not_12 : (coefficients y : List Float) (d first row : ℕ) (q : Piece) (f : Found) → Not12 f.outcome
    → Not12 (axes_of coefficients y d first row q f).outcome
unfolding axes_of axis_turn
axes_not_12 coefficients y d first row q f h =
    till_holds (λ (f : Found). Not12 f.outcome) (λ (f : Found). Not12 f.outcome) (axis_turn coefficients y d first row q) (λ f. f)
    (λ i f h. holds_cond (λ (f : Found). Not12 f.outcome) (λ (f : Found). Not12 f.outcome) (all_finite _) (λ e. goes h)
    (λ e. ends (λ g. omega arith))) (λ f h. h) 0 d f h

module _ (breaks coefficients s y : List Float) (d : ℕ) (top : (i : ℕ) → lt (at breaks (segments breaks)) (at s (i + 1)) ≡ false) where
  abbrev Going : Walk → Type 0
  Going w = (w.span + 1 < length breaks) × Not12 w.found.outcome

  abbrev Fine : Interval → Type 0
  Fine r = (r.span + 1 < length breaks) × Not12 r.outcome

  walk_not_12 : (i j : ℕ) (w : Walk) → Going w → Holds Going Fine (walk_turn breaks coefficients s y d i j w)
  unfolding walk_turn ended_by
  walk_not_12 i j w h =
      let k = advanced breaks w.left w.span in
      let right = min_of (at s (i + 1)) (at breaks (k + 1)) in
      let q = piece_at breaks s i k w.left right in
      let inside = (advanced_ends breaks w.left w.span h.0).0 in
      let fine = axes_not_12 coefficients y d (k * d) (i * d) q w.found h.1 in
      holds_cond Going Fine (lt w.left (at s (i + 1)))
      (λ below. holds_cond Going Fine (le right w.left)
      (λ e. absurd (true≢false (sym e ∙ piece_above breaks (at s (i + 1)) w.left w.span h.0 below (top i))))
      (λ e. holds_cond Going Fine (is_done (axes_of coefficients y d (k * d) (i * d) q w.found).outcome) (λ g. goes (inside, fine))
      (λ g. ends (inside, fine))))
      (λ e. ends (h.0, done_not_12))

  interval_not_12 : (i span : ℕ) (before : Float) → span + 1 < length breaks → Fine (interval_of breaks coefficients s y d i span before)
  unfolding interval_of ended_by
  interval_not_12 i span before h =
      till_holds Going Fine (walk_turn breaks coefficients s y d i) _ (walk_not_12 i) (λ w g. (g.0, done_not_12)) 0 (length breaks + 2) _
      (h, done_not_12)

  abbrev Audited : Audit → Type 0
  Audited a = (a.span + 1 < length breaks) × Not12 a.outcome

  abbrev Ended : Audit → Type 0
  Ended a = Not12 a.outcome

  turn_not_12 : (i : ℕ) (a : Audit) → Audited a → Holds Audited Ended (audit_turn breaks coefficients s y d i a)
  unfolding audit_turn
  turn_not_12 i a g =
      let r = interval_not_12 i a.span (at a.witness i) g.0 in
      holds_cond Audited Ended (is_done (interval_of breaks coefficients s y d i a.span (at a.witness i)).outcome)
      (λ e. goes (r.0, done_not_12)) (λ e. ends r.1)

  -- no interval of a curve is refused with 12, where no waypoint lies above its last break
  pub audit_not_12 : (first last : ℕ) (bounds witness : List Float) → 1 < length breaks → number_of (audit_of breaks coefficients s y d first
      last bounds witness).outcome ≡ 12 → ⊥
  unfolding audit_of
  audit_not_12 first last bounds witness h =
      till_holds Audited Ended (audit_turn breaks coefficients s y d) (λ a. a) turn_not_12 (λ a g. g.1) first last _
      (omega arith, done_not_12)
