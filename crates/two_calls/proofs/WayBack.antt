-- Document 02, request 12: "A return lane is certified anew, like any curve, against points in reverse and parameters listed for them."
-- What the certificate's user has: of a lane whose certificate was not refused, the return lane's is not either, but for the parameters
-- that are listed for it (5, 6); and what it certifies is the lane driven back.
use mathlib.Core.Path.{◌≡◌, refl, sym, ap, ◌∙◌}
use mathlib.Core.Bool.{Bool, true, false, not, cond, ◌||◌}
use mathlib.Core.List.{List}
use Prim.Native.Nat.{ℕ, ◌+◌, ◌-◌, ◌*◌, ◌≤◌, ◌<◌}
use native.Mathlib.Omega.{arith}
use borrow.Author.Tests.{eq-eqb, le-ltb, lt-ltb}
use lib.Dec.{eqb, ltb}
use lib.ListN.{length, get_or-append}
use lib.Ieee.{Float, nan, binary64, of_bits, sub}
use lib.Ieee.Scale.{finite}
use Rattle.arith.specs.Operations.{floats}
use Rattle.arith.proofs.Rows.{row_end}
use Rattle.arith.proofs.Truth.{or_none}
use Rattle.window.specs.Cells.{at}
use Rattle.window.specs.Rows.{list_of}
use Rattle.window.proofs.Joined.{by_row, join_at, table_at, table_length}
use Rattle.request.specs.declared.parameters.Spacing.{Spacing}
use Rattle.request.specs.declared.parameters.Spacing.TheVariants.{Listed}
use Rattle.request.specs.Any.{any}
use Rattle.request.specs.Parameters.{parameter_list, misplaced, unreliable}
use Rattle.request.specs.Points.{unfit}
use Rattle.request.proofs.Anys.{any_none}
use Rattle.request.proofs.Counts.{waypoint_count}
use Rattle.curve.specs.declared.Curve.{Curve}
use Rattle.curve.specs.Form.{Slices, width_of, with_widths, well_formed}
use Rattle.curve.specs.Places.{position_of}
use Rattle.curve.proofs.Formed.{formed, set_parts}
use Rattle.checks.proofs.Selected.{any_false}
use Rattle.figure.specs.Certify.{CertificateOutcome, outcome, certified_axis, certify_of}
use Rattle.figure.specs.Figure.{Axis, figure_of, no_figure}
use Rattle.figure.proofs.Certified.{Accepted, accepted, axis_below}
use Rattle.certificate.specs.Outcome.{outcome_of}
use Rattle.return_lane.specs.Return as returning
use Rattle.return_lane.specs.Return.{return_breaks, return_segment, return_coefficients, return_slices, used_by, number_of}
use Rattle.return_lane.specs.Segment.{return_coefficient}
use Rattle.return_lane.proofs.Answered.{no_refusal, used}
use Rattle.return_lane.proofs.Returned.{break_at_law, breaks_length, coefficients_length, segment_length}
use Rattle.two_calls.specs.Certifying.{CertifyCall}
use Rattle.two_calls.specs.Returning.{ReturnCall, DrivenBack, reversed_points}

-- ---- points in reverse
-- they are finite if the points are
fit_reversed : (d n : ℕ) (points : List Float) → length points ≡ d * n → unfit d n points ≡ false
    → unfit d n (reversed_points d n points) ≡ false
unfolding unfit
fit_reversed d n points e h =
    let bad : ℕ → Bool = λ i. not (finite (at points i)) in
    let p = or_none (eqb d 0 || ltb n 2) (any (length points) bad) h in
    let back = reversed_points d n points in
    rw p.0 (any_false (length back) (λ i. not (finite (at back i)))
    (λ i l. by_row (λ q. not (finite (at back q)) ≡ false) n d
    (λ j a m g. let r = row_end (n - (j + 1)) n d (n * d) (omega arith) (omega arith) in
    rw (table_at n d (λ j a. at points ((n - (j + 1)) * d + a)) nan j a m g)
    (any_none bad (length points) p.1 ((n - (j + 1)) * d + a) (omega arith)))
    i (omega (arith, table_length n d (λ j a. at points ((n - (j + 1)) * d + a))))))

-- ---- a coefficient of the return lane
coefficient_back : (m n : ℕ) (b c : List Float) (i a k : ℕ) → i < n → a < m → k < 6
    → at (with_widths (return_breaks b) (return_coefficients m n c)) (6 * (i * m + a) + k)
    ≡ return_coefficient floats (λ j. at c (6 * ((n - (i + 1)) * m + a) + j)) k
unfolding return_coefficients return_segment
coefficient_back m n b c i a k l g h =
    let rows : ℕ → List Float = λ i. return_segment m c (n - (i + 1)) in
    let cell : 6 * (i * m + a) + k ≡ i * (m * 6) + (a * 6 + k) = omega arith in
    let within = row_end i n (m * 6) (n * (m * 6)) l (omega arith) in
    let column = row_end a m 6 (m * 6) g (omega arith) in
    let long = coefficients_length m n c in
    get_or-append (return_coefficients m n c) (list_of (length (return_breaks b) - 1) (width_of (return_breaks b))) nan
    (6 * (i * m + a) + k) (omega arith)
    ∙ ap (λ (q : ℕ). at (return_coefficients m n c) q) cell
    ∙ join_at n (m * 6) rows nan (λ i l. segment_length m c (n - (i + 1))) i (a * 6 + k) l (omega arith)
    ∙ table_at m 6 (λ a k. return_coefficient floats (λ j. at c (6 * ((n - (i + 1)) * m + a) + j)) k) nan a k g h

-- ---- the checks that the way back passes
passes : (a b c e f g w p : Bool) (r : CertificateOutcome) → a ≡ false → b ≡ false → c ≡ false → e ≡ false → w ≡ true → p ≡ true
    → cond a (outcome 23 no_figure) (cond b (outcome 18 no_figure) (cond c (outcome 20 no_figure) (cond e (outcome 1 no_figure)
    (cond f (outcome 5 no_figure) (cond g (outcome 6 no_figure) (cond (not w) (outcome 24 no_figure)
    (cond (not p) (outcome 3 no_figure) r)))))))
    ≡ cond f (outcome 5 no_figure) (cond g (outcome 6 no_figure) r)
passes a b c e f g w p r h₁ h₂ h₃ h₄ h₅ h₆ = rw (h₁, h₂, h₃, h₄, h₅, h₆) refl

module _ {c : Curve} {s lent : Slices} (back : ReturnCall c s lent) (returned : number_of back.answer ≡ 0)
    {points : List Float} {n : ℕ} {spacing : Spacing} {parameters : List Float} {axis depth : ℕ}
    (out : CertifyCall c s points n spacing parameters axis depth) (certified : (outcome_of out.answer).number ≡ 0)
    (listed : List Float) where
  -- the return lane, in its used cells
  abbrev lane : Slices
  lane = used_by s back.after

  -- what is certified of the way out, and of the way back
  abbrev there : Axis
  there = certified_axis c s points n spacing parameters axis

  abbrev here : Axis
  here = certified_axis c lane (reversed_points c.d n points) n Listed listed axis

  passed : Accepted c s points n spacing parameters axis depth
  passed = (accepted c s points n spacing parameters axis depth (outcome_of out.answer).certified
      (sym out.answered ∙ (λ i. outcome (certified i) (outcome_of out.answer).certified))).0

  lane_is : lane ≡ return_slices c s
  lane_is =
      let done = no_refusal c s lent back.after ((λ i. returning.outcome (sym returned i) back.after) ∙ back.answered) in
      ap (used_by s) done.put ∙ used c s done.formed lent

  -- The certificate of the way back is refused for its listed parameters alone, and is otherwise the figure of the lane driven back.
  pub way_back : (deep : ℕ) → deep ≤ 6
      → (call : CertifyCall c lane (reversed_points c.d n points) n Listed listed axis deep)
      → outcome_of call.answer ≡ cond (misplaced listed n) (outcome 5 no_figure)
      (cond (unreliable listed n) (outcome 6 no_figure) (outcome 0 (figure_of deep here)))
  unfolding certify_of parameter_list
  way_back deep within call =
      let p = passed in
      let counted = table_length n c.d (λ i a. at points ((n - (i + 1)) * c.d + a)) in
      call.answered
      ∙ passes (ltb 6 deep) (ltb 16 c.d || ltb 20000 n) (not (eqb (length (reversed_points c.d n points)) (c.d * n)))
      (unfit c.d n (reversed_points c.d n points)) (misplaced listed n) (unreliable listed n) (well_formed c lane)
      (ltb (position_of c.axes c.k axis) c.k) (outcome 0 (figure_of deep here))
      (le-ltb 6 deep within)
      (rw (le-ltb 16 c.d p.d_domain, le-ltb 20000 n p.n_domain) refl)
      (ap not (eq-eqb (length (reversed_points c.d n points)) (c.d * n) (omega (arith, counted))))
      (fit_reversed c.d n points p.cells p.points_fit)
      (back.formed returned)
      (lt-ltb (position_of c.axes c.k axis) c.k p.selected)

  -- What it certifies: breaks, coefficients and waypoints are those of the lane driven back.
  pub driven_back : DrivenBack there here
  driven_back =
      let p = passed in
      let z = set_parts c.k c.segments s.breaks s.coefficients (formed c s p.well_formed_law).set_formed_law in
      let two = waypoint_count c.d n points p.points_fit in
      let count : c.segments ≡ length s.breaks - 1 = omega (arith, z.breaks_length) in
      let place = position_of c.axes c.k axis in
      record {
        segments = ap (λ (t : Slices). length t.breaks - 1) lane_is ∙ ap (λ (l : ℕ). l - 1) (breaks_length s.breaks);
        break = λ m l.
            let e : length s.breaks - (m + 1) ≡ length s.breaks - 1 - m = omega arith in
            ap (λ (t : Slices). at t.breaks m) lane_is ∙ break_at_law s.breaks m (omega (arith, z.breaks_length))
            ∙ ap (λ (q : ℕ). sub binary64 (of_bits binary64 0x3ff0_0000_0000_0000) (at s.breaks q)) e;
        coefficient = λ m k l h.
            ap (λ (t : Slices). at t.coefficients (6 * (m * c.k + place) + k)) lane_is
            ∙ coefficient_back c.k c.segments s.breaks s.coefficients m place k (omega (arith, count)) p.selected h
            ∙ ap (λ (q : ℕ). return_coefficient floats (λ j. at s.coefficients (6 * ((q - (m + 1)) * c.k + place) + j)) k) count;
        intervals = refl;
        waypoint = λ i l.
            let e : n - (i + 1) ≡ n - 1 - i = omega arith in
            table_at n c.d (λ i a. at points ((n - (i + 1)) * c.d + a)) nan i axis (omega arith)
            (axis_below c s points n spacing parameters axis depth p)
            ∙ ap (λ (q : ℕ). at points (q * c.d + axis)) e;
      }
