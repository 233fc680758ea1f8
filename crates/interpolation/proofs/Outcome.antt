-- The polynomial in its place, and the answer.
use mathlib.Core.Path.{◌≡◌, refl, sym, ap, ◌∙◌}
use mathlib.Core.List.{List, [], ◌∷◌}
use Prim.Native.Nat.{ℕ, ◌+◌, ◌-◌, ◌*◌, ◌≤◌, ◌<◌}
use native.Mathlib.Omega.{arith}
use native.Mathlib.Nat.{mul-le-mul_right}
use mathlib.Core.Bool.{false}
use lib.Dec.{eqb}
use lib.ListN.{length, length-append}
use lib.Ieee.{Float}
use Rattle.arith.specs.Operations.{floats}
use Rattle.arith.specs.Loop.{each}
use Rattle.window.specs.Window.{window}
use Rattle.window.proofs.Windows.{window_at, window_same, window_after}
use Rattle.bspline.specs.declared.Spline.{Spline}
use Rattle.window.specs.Rows.{written}
use Rattle.bspline.specs.Segments.{Polynomial, polynomial_of}
use Rattle.bspline.specs.Placed.{knots_at, controls_at, polynomial_from, polynomial_at, segments_at}
use Rattle.window.proofs.Written.{written_length}
use Rattle.normal.specs.System.{System, size_of}
use Rattle.normal.specs.Solve.{solve_of}
use Rattle.fitting_rows.specs.Arrays.{arrays_at}
use Rattle.smoothing.specs.Answer.{unless}
use Rattle.smoothing.specs.Answer.Answer.{done, refused}
use Rattle.smoothing.specs.Interpolate.{waypoint_knots, interpolation_system, interpolate_of}
use Rattle.bspline.proofs.Breaks.{break_turn, breaks_are}
use Rattle.bspline.proofs.Breaks.{polynomial_room}
use Rattle.interpolation.specs.declared.Nodes.{Nodes}
use Rattle.interpolation.specs.Memory.{breaks_place, coefficients_place, Roomy, polynomial_in, place_of, system_in}
use Rattle.interpolation.proofs.Placing.{rows_fit}

-- ---- the polynomial whose controls are the system's right sides
module _ (p : Nodes) (w : List Float) (r : Roomy p (length w)) where
  abbrev m : ℕ
  m = p.samples + 4

  abbrev d : ℕ
  d = p.axes

  abbrev b : ℕ
  b = p.room * p.axes

  abbrev s : Spline
  s = record { knots = p.room + b; controls = 2 * p.room + b + 6 * m; count = m; axes = d }

  abbrev B : ℕ
  B = breaks_place p

  abbrev C : ℕ
  C = coefficients_place p

  segment_rows : (n : ℕ) → n ≤ p.samples → n * (6 * d) ≤ 6 * b
  segment_rows n h =
      let e : n * (6 * d) ≤ p.room * (6 * d) = mul-le-mul_right (6 * d) (omega arith) in omega arith

  pub polynomial_asks : (5 < m) × (s.knots + m + 6 ≤ s.controls) × (s.controls + m * d ≤ B) × (B + m ≤ C + 4)
      × (C + (m - 5) * (6 * d) ≤ length w)
  polynomial_asks =
      let f = rows_fit p (length w) r in
      let g = segment_rows (m - 5) (omega arith) in
      (omega arith, omega arith, omega arith, omega arith, omega arith)

  abbrev P : Polynomial Float
  P = polynomial_from s w

  polynomial_is : P ≡ polynomial_of floats (arrays_at (place_of p) w).t (system_in (place_of p) w).right d m
  polynomial_is =
      let f = rows_fit p (length w) r in
      let S = 2 * p.room + b in
      let e : p.room + b + m + 6 ≡ p.room + b + (m + 6) = omega arith in
      ap (λ (k : ℕ). polynomial_of floats (window (p.room + b) k w) (controls_at s w) d m) e
      ∙ ap (λ (c : List Float). polynomial_of floats (arrays_at (place_of p) w).t c d m)
      (window_at S (S + size_of m d) (6 * m) (6 * m + m * d) (S + 6 * m) (S + 6 * m + m * d) w refl (omega arith) (omega arith)
      (omega arith))

  some : 1 ≤ length P.breaks
  some =
      let t = knots_at s w in
      let l = each (break_turn floats t) 5 m [] in
      let e = ap length (breaks_are floats t (controls_at s w) d m) in
      let k = length-append l (floats.one ∷ []) in
      omega arith

  module _ (n : ℕ) (w' : List Float) (e : n ≡ segments_at s w) (e' : w' ≡ polynomial_at s B C w) where
    room : (length P.breaks ≡ n + 1) × (n < p.samples) × (length P.coefficients ≡ n * (6 * d))
    room =
        let k = polynomial_room floats (knots_at s w) (controls_at s w) d m (omega arith) in
        let o = some in
        (omega arith, omega arith, k.1 ∙ ap (λ (i : ℕ). i * (6 * d)) (sym e))

    pub few_segments : n < p.samples
    few_segments = room.1

    pub polynomial_put : polynomial_in p n w' ≡ polynomial_of floats (arrays_at (place_of p) w).t (system_in (place_of p) w).right d m
    polynomial_put =
        let k = room in
        let g = segment_rows n (omega arith) in
        let bs = P.breaks in
        let cs = P.coefficients in
        let long = written_length C cs w (omega arith) in
        let b_end : B + n + 1 ≡ B + length bs = omega arith in
        let c_end : C + n * (6 * d) ≡ C + length cs = omega arith in
        let breaks_are : window B (B + n + 1) w' ≡ bs =
        ap (λ (i : ℕ). window B i w') b_end
        ∙ ap (λ (l : List Float). window B (B + length bs) l) e'
        ∙ window_same B (B + length bs) bs (written C cs w) (omega arith) (omega arith) in
        let coefficients_are : window C (C + n * (6 * d)) w' ≡ cs =
        ap (λ (i : ℕ). window C i w') c_end
        ∙ ap (λ (l : List Float). window C (C + length cs) l) e'
        ∙ window_after B (B + length bs) bs (written C cs w) C (C + length cs) (omega arith) (omega arith) (omega arith) (omega arith)
        ∙ window_same C (C + length cs) cs w (omega arith) (omega arith) in
        (λ i. record { breaks = breaks_are i; coefficients = coefficients_are i }) ∙ polynomial_is

-- ---- the answer, from the system a that was solved
module _ (n d : ℕ) (s y : List Float) (number : ℕ) (a : System)
    (system_is : a ≡ interpolation_system n d s y) (number_is : number ≡ (solve_of (n + 4) d a).number) where
  pub refused_is : eqb number 0 ≡ false → refused number ≡ interpolate_of n d s y
  unfolding unless interpolate_of
  refused_is f = rw (← system_is, ← number_is, f)

  -- t are the knots, b is the system after it, x the polynomial
  pub done_is : (t : List Float) (b : System) (x : Polynomial Float) → number ≡ 0 → t ≡ waypoint_knots n d s y
      → b ≡ (solve_of (n + 4) d a).system → x ≡ polynomial_of floats t b.right d (n + 4) → done x ≡ interpolate_of n d s y
  unfolding unless interpolate_of
  done_is t b x z knots_are solution-is p =
      let e : 0 ≡ (solve_of (n + 4) d a).number = sym z ∙ number_is in
      ap (unless 0)
      (p
      ∙ ap (λ (k : List Float). polynomial_of floats k b.right d (n + 4)) knots_are
      ∙ ap (λ (k : System). polynomial_of floats (waypoint_knots n d s y) k.right d (n + 4)) solution-is)
      ∙ ap (λ (k : ℕ). unless k (polynomial_of floats (waypoint_knots n d s y) (solve_of (n + 4) d a).system.right d (n + 4))) e
      ∙ ap (λ (k : System). let o = solve_of (n + 4) d k in
      unless o.number (polynomial_of floats (waypoint_knots n d s y) o.system.right d (n + 4))) system_is
