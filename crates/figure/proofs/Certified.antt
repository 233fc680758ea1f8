-- What a certificate says: the distance rule, for the selected axis that was asked for.
use mathlib.Core.Path.{◌≡◌, refl, sym, ap, subst}
use mathlib.Core.Bool.{Bool, true, false, not, cond, ◌||◌}
use mathlib.Core.List.{List}
use Prim.Native.Nat.{ℕ, suc, ◌+◌, ◌-◌, ◌*◌, ◌≤◌, ◌<◌}
use native.Mathlib.Omega.{arith}
use borrow.Author.Tests.{eqb-true, ltb-false, ltb-true, not-false}
use lib.Dec.{T, eqb, ltb}
use lib.ListN.{length, get_or}
use lib.Ieee.{Float, lt}
use Rattle.arith.proofs.Truth.{or_none}
use Rattle.window.specs.Cells.{at, Doubles}
use Rattle.request.specs.declared.parameters.Spacing.{Spacing}
use Rattle.request.specs.Parameters.{misplaced, normalised_of, parameter_list, unreliable}
use Rattle.request.specs.Points.{unfit}
use Rattle.request.proofs.Counts.{waypoint_count}
use Rattle.request.proofs.Normalised.{normalised_first, normalised_last, normalised_rises}
use Rattle.request.proofs.Spaced.{spaced_doubles}
use Rattle.curve.specs.declared.Curve.{Curve}
use Rattle.curve.specs.Form.{Slices, set_formed, well_formed}
use Rattle.curve.specs.Places.{position_of}
use Rattle.arith.proofs.Firsts.{every_at, first_passes}
use Rattle.curve.proofs.Formed.{axes_good, formed, set_parts}
use Rattle.figure.specs.Certify.{Certified, CertificateOutcome, certified_axis, certify_of, outcome}
use Rattle.figure.specs.Distance.{Rises}
use Rattle.figure.specs.Figure.{Figure, figure, figure_of, no_figure}
use Rattle.figure.proofs.Covering.{covered}
use Rattle.figure.proofs.Distance.{distance_theorem}

-- ---- a set of segments that is well formed
-- its breaks rise strictly from 0 to 1
set_rises : (m n : ℕ) (breaks coefficients : List Float) → set_formed m n breaks coefficients ≡ true → Rises n (at breaks)
set_rises m n b c h =
    let z = set_parts m n b c h in
    record {
      from_zero = subst T (sym z.from_zero) tt;
      rising = λ i l. subst T (sym (every_at (λ i. lt (at b i) (at b (i + 1))) n z.rising i l)) tt;
      to_one = subst T (sym z.to_one) tt;
    }

-- ---- the place of an axis
-- a selected axis is one of the curve's
selected_below : (axes : List ℕ) (k d a : ℕ) → ((i : ℕ) → i < k → get_or axes i 0 < d) → position_of axes k a < k → a < d
selected_below axes k d a h l =
    let i = position_of axes k a in
    subst (λ (x : ℕ). x < d) (eqb-true (get_or axes i 0) a (first_passes (λ i. eqb (get_or axes i 0) a) k l)) (h i l)

-- ---- what is not refused
-- an answer that is no refusal passed the check, and is what follows it
passed : (b : Bool) (k : ℕ) (next : CertificateOutcome) (f : Figure) → cond b (outcome (suc k) no_figure) next ≡ outcome 0 f → (b ≡ false)
    × (next ≡ outcome 0 f)
passed true k next f h = let e : suc k ≡ 0 = ap (λ (o : CertificateOutcome). o.number) h in absurd (omega arith)
passed false k next f h = (refl, h)

module _ (c : Curve) (s : Slices) (points : List Float) (n : ℕ) (spacing : Spacing) (parameters : List Float) (axis depth : ℕ) where
  pub record Accepted : Type 0 where
    pub shallow : depth ≤ 6
    pub d_domain : c.d ≤ 16
    pub n_domain : n ≤ 20000
    pub cells : length points ≡ c.d * n
    pub points_fit : unfit c.d n points ≡ false
    pub placed : misplaced (parameter_list spacing parameters points c.d n) n ≡ false
    pub reliable : unreliable (parameter_list spacing parameters points c.d n) n ≡ false
    pub well_formed_law : well_formed c s ≡ true
    pub selected : position_of c.axes c.k axis < c.k

  -- the checks that a certificate passed, and its figure
  pub accepted : (f : Figure) → certify_of c s points n spacing parameters axis depth ≡ outcome 0 f → Accepted
      × (figure_of depth (certified_axis c s points n spacing parameters axis) ≡ f)
  unfolding certify_of
  accepted f h =
      let e23 = passed (ltb 6 depth) 22 _ f h in
      let e18 = passed (ltb 16 c.d || ltb 20000 n) 17 _ f e23.1 in
      let e20 = passed (not (eqb (length points) (c.d * n))) 19 _ f e18.1 in
      let e1 = passed (unfit c.d n points) 0 _ f e20.1 in
      let e5 = passed (misplaced (parameter_list spacing parameters points c.d n) n) 4 _ f e1.1 in
      let e6 = passed (unreliable (parameter_list spacing parameters points c.d n) n) 5 _ f e5.1 in
      let e24 = passed (not (well_formed c s)) 23 _ f e6.1 in
      let e3 = passed (not (ltb (position_of c.axes c.k axis) c.k)) 2 _ f e24.1 in
      let d = or_none (ltb 16 c.d) (ltb 20000 n) e18.0 in (
        record {
          shallow = ltb-false 6 depth e23.0;
          d_domain = ltb-false 16 c.d d.0;
          n_domain = ltb-false 20000 n d.1;
          cells = eqb-true (length points) (c.d * n) (not-false (eqb (length points) (c.d * n)) e20.0);
          points_fit = e1.0;
          placed = e5.0;
          reliable = e6.0;
          well_formed_law = not-false (well_formed c s) e24.0;
          selected = ltb-true (position_of c.axes c.k axis) c.k (not-false (ltb (position_of c.axes c.k axis) c.k)
              e3.0);
        },
        ap (λ (o : CertificateOutcome). o.certified) e3.1,
      )

  module _ (A : Accepted) where
    pub lengths : (c.k ≤ 16) × (2 ≤ length s.breaks) × (length s.breaks ≤ 20001)
        × (6 * ((length s.breaks - 1) * c.k) ≤ length s.coefficients)
    lengths =
        let F = formed c s A.well_formed_law in
        let z = set_parts c.k c.segments s.breaks s.coefficients F.set_formed_law in
        let e : length s.breaks - 1 ≡ c.segments = omega (arith, z.breaks_length) in (
          omega (arith, F.k_high, F.d_high),
          omega (arith, z.some, z.breaks_length),
          omega (arith, z.most, z.breaks_length),
          rw e (omega (arith, z.coefficients_length)),
        )

    pub breaks_rise_law : Rises (length s.breaks - 1) (at s.breaks)
    breaks_rise_law =
        let F = formed c s A.well_formed_law in
        let z = set_parts c.k c.segments s.breaks s.coefficients F.set_formed_law in
        let e : c.segments ≡ length s.breaks - 1 = omega (arith, z.breaks_length) in
        subst (λ (m : ℕ). Rises m (at s.breaks)) e (set_rises c.k c.segments s.breaks s.coefficients F.set_formed_law)

    pub parameters_rise : Doubles parameters → Rises (n - 1) (normalised_of (parameter_list spacing parameters points c.d n) n)
    parameters_rise doubles =
        let two = waypoint_count c.d n points A.points_fit in
        let p = parameter_list spacing parameters points c.d n in
        let held = spaced_doubles spacing parameters points c.d n doubles in
        record {
          from_zero = normalised_first p n two held A.placed A.reliable;
          rising = normalised_rises p n two held A.placed A.reliable;
          to_one = normalised_last p n two held A.placed A.reliable;
        }

    pub axis_below : axis < c.d
    axis_below =
        selected_below c.axes c.k c.d axis (λ i l. (axes_good c.axes c.k c.d (formed c s A.well_formed_law).axes_formed_law i
        l).0) A.selected

-- The theorem about the certificate. Whatever the curve with its slices, the points, the parameters and the axis: if the answer is the
-- figure F, then the curve is well formed, breaks and normalised parameters rise from 0 to 1, and the distance rule holds for the axis and
-- F at every fraction from 0 to 1. By its contract `certify` answers as `certify_of` does, and the cells of its slices are f64s, as
-- `Doubles` asks of the parameters.
pub certificate_theorem : (c : Curve) (s : Slices) (points : List Float) (n : ℕ) (spacing : Spacing) (parameters : List Float)
    (axis depth : ℕ)
    (F : Float) → Doubles parameters
    → certify_of c s points n spacing parameters axis depth ≡ outcome 0 (figure F) → Certified c s points n spacing parameters axis F
certificate_theorem c s points n spacing parameters axis depth F doubles h =
    let a = accepted c s points n spacing parameters axis depth (figure F) h in
    let A = a.0 in
    let x = certified_axis c s points n spacing parameters axis in
    let breaks = breaks_rise_law c s points n spacing parameters axis depth A in
    let rise = parameters_rise c s points n spacing parameters axis depth A doubles in
    record {
      well_formed_law = A.well_formed_law;
      breaks_rise_law = breaks;
      parameters_rise = rise;
      everywhere = covered x breaks rise;
      distance = distance_theorem depth x F breaks rise a.1;
    }
