-- The arrays of `build` after one or two of them were written.
use mathlib.Core.Path.{◌≡◌, refl, sym, ap, subst, ◌∙◌}
use mathlib.Core.List.{List, [], ◌++◌}
use Prim.Native.Nat.{ℕ, ◌+◌, ◌-◌, ◌*◌, ◌≤◌, ◌<◌}
use native.Mathlib.Omega.{arith}
use lib.ListN.{length, replicate, length-replicate}
use lib.Ieee.{Float, nan, binary64, mul}
use Rattle.arith.specs.Operations.{floats}
use Rattle.arith.proofs.Rows.{row_end}
use Rattle.window.specs.Window.{window, splice}
use Rattle.window.specs.Cells.{at, zeros}
use Rattle.window.proofs.Windows.{length_window, length_splice, window_cell, window_same, window_before, window_after}
use Rattle.window.specs.Rows.{table, written}
use Rattle.bspline.specs.declared.Spline.{Spline}
use Rattle.window.proofs.Joined.{table_length, table_ap}
use Rattle.window.proofs.Written.{written_none}
use Rattle.window.proofs.TwoParts.{Apart, both_before, both_first, both_second}
use Rattle.smoothing.specs.Start.{greville_of, open_knots, chord_controls}
use Rattle.refinement.specs.declared.plan.Plan.{Plan}
use Rattle.refinement.specs.Memory.{block, knots_place, controls_place, bounds_place, witness_place, locations_place, system_place, breaks_place, coefficients_place, spline_of, Roomy, Memory, memory_at, with_controls, with_bounds, task_in}
use Rattle.window.proofs.Seams.{same_window, window_append}
use Rattle.refinement.proofs.Memories.{products, block_small, controls_written, bounds_written}
use Rattle.selected_axes.specs.First.{inner_knots}
use Rattle.selected_axes.specs.Physical.{scaled, with_points}

module _ (p : Plan) (w : List Float) (r : Roomy p (length w)) where
  abbrev x : Memory
  x = memory_at p w

  abbrev m : ℕ
  m = p.count

  abbrev d : ℕ
  d = p.axes

  -- ---- the controls alone
  pub controls_one : (v : List Float) → length v ≡ m * d → memory_at p (written (controls_place p) v w) ≡ with_controls v x
  controls_one v n =
      let S = system_place p in
      let e : controls_place p + length v ≡ controls_place p + m * d = omega arith in
      let g : S + 0 ≡ S = omega arith in
      let l = splice (controls_place p) (controls_place p + m * d) v w in
      ap (λ (k : ℕ). memory_at p (splice (controls_place p) k v w)) e
      ∙ ap (memory_at p) (sym (written_none S l) ∙ ap (λ (k : ℕ). splice S k [] l) g)
      ∙ controls_written p w r v [] S n (omega arith) (omega arith) (omega arith)

  -- a cell of the controls, and one of the points
  control_cell : (i a : ℕ) → i < m → a < d → at x.c (i * d + a) ≡ at w (controls_place p + i * d + a)
  control_cell i a h g =
      let e = row_end i m d (m * d) h (omega arith) in
      let q : controls_place p + (i * d + a) ≡ controls_place p + i * d + a = omega arith in
      window_cell (controls_place p) (controls_place p + m * d) w (i * d + a) nan (omega arith) ∙ ap (at w) q

  point_cell : (i a : ℕ) → i < p.samples → a < d → at x.y (i * d + a) ≡ at w (p.room + i * d + a)
  point_cell i a h g =
      let e = row_end i p.samples d (p.samples * d) h (omega arith) in
      let q : p.room + (i * d + a) ≡ p.room + i * d + a = omega arith in
      window_cell p.room (p.room + p.samples * d) w (i * d + a) nan (omega arith) ∙ ap (at w) q

  -- what the linear test reads
  pub points_numbers : (p.samples * d ≤ 320256) × (p.room + p.samples * d ≤ length w)
  points_numbers =
      let q = products p (length w) r in
      (omega (arith, q.points, block_small p (length w) r), omega (arith, q.points, r.cells_fit))

  -- ---- the points alone
  pub points_written : (v : List Float) → length v ≡ p.samples * d → memory_at p (splice p.room (p.room + p.samples * d) v w)
      ≡ with_points v x
  points_written v n =
      let q = products p (length w) r in
      let a = p.room in
      let e = p.room + p.samples * d in
      let end : e ≤ length w = omega (arith, q.points, r.cells_fit) in
      let lv : length v ≡ e - a = n ∙ omega arith in
      let after : (b g : ℕ) → e ≤ b → window b g (splice a e v w) ≡ window b g w = λ b g h. window_after a e v w b g h
      (omega arith) end lv in
      let s-is = window_before a e v w 0 (0 + p.samples) (omega arith) (omega (arith, r.waypoints_fit)) (omega arith) in
      let y-is = window_same a e v w (omega arith) lv in
      let t_is = after (knots_place p) (knots_place p + (m + 6)) (omega (arith, q.points)) in
      let c_is = after (controls_place p) (controls_place p + m * d) (omega (arith, q.points)) in
      let b-is = after (bounds_place p) (bounds_place p + (p.samples - 1) * d) (omega (arith, q.points)) in
      let w_is = after (witness_place p) (witness_place p + (p.samples - 1)) (omega (arith, q.points)) in
      let l-is = after (locations_place p) (locations_place p + 3 * p.room) (omega (arith, q.points)) in
      let k_is = after (breaks_place p) (breaks_place p + (m - 5) + 1) (omega (arith, q.points)) in
      let f-is = after (coefficients_place p) (coefficients_place p + (m - 5) * (6 * d)) (omega (arith, q.points)) in
      λ i. record {
        s = s-is i;
        y = y-is i;
        t = t_is i;
        c = c_is i;
        bounds = b-is i;
        witness = w_is i;
        locations = l-is i;
        breaks = k_is i;
        coefficients = f-is i;
      }

  -- ---- the chord's controls
  module _ (s : Spline) (is : s ≡ spline_of p) where
    abbrev last : ℕ
    last = p.room + (p.samples - 1) * d

    -- the controls that the code puts, by a spline's places
    abbrev put : Spline → List Float
    put v = table m d (λ i a. mul binary64 (greville_of (window v.knots (v.knots + (m + 6)) w) i) (at w (last + a)))

    pub chord_memory : (w' : List Float) → w' ≡ written s.controls (put s) w
        → memory_at p w' ≡ with_controls (chord_controls (task_in p x) x.t m) x
    unfolding chord_controls
    chord_memory w' e =
        let f : ℕ → ℕ → Float = λ i a. mul binary64 (greville_of x.t i) (at w (last + a)) in
        let g : ℕ → ℕ → Float = λ i a. mul binary64 (greville_of x.t i) (at x.y ((p.samples - 1) * d + a)) in
        let same : table m d f ≡ table m d g =
        table_ap m d f g
        (λ i a h l. ap (mul binary64 (greville_of x.t i)) (sym (point_cell (p.samples - 1) a (omega (arith, r.two)) l))) in
        ap (memory_at p) (e ∙ ap (λ (v : Spline). written v.controls (put v) w) is)
        ∙ ap (λ (l : List Float). memory_at p (written (controls_place p) l w)) same
        ∙ controls_one (table m d g) (table_length m d g)

    -- the controls in physical units, by a spline's places
    abbrev scaled_at : List Float → Spline → List Float
    scaled_at eps v = table m d (λ i a. scaled (at w (v.controls + i * d + a)) (at eps a) (at w (p.room + a)))

    pub scale_memory : (w' eps : List Float) → w' ≡ written s.controls (scaled_at eps s) w
        → memory_at p w' ≡ with_controls (table m d (λ i a. scaled (at x.c (i * d + a)) (at eps a) (at x.y a))) x
    scale_memory w' eps e =
        let f : ℕ → ℕ → Float = λ i a. scaled (at w (controls_place p + i * d + a)) (at eps a) (at w (p.room + a)) in
        let g : ℕ → ℕ → Float = λ i a. scaled (at x.c (i * d + a)) (at eps a) (at x.y a) in
        let first : (a : ℕ) → a < d → at w (p.room + a) ≡ at x.y a =
        λ a l. (let q : 0 * d + a ≡ a = omega arith in let k : p.room + 0 * d + a ≡ p.room + a = omega arith in
        sym (ap (at x.y) (sym q) ∙ point_cell 0 a (omega (arith, r.two)) l ∙ ap (at w) k)) in
        let same : table m d f ≡ table m d g = table_ap m d f g (λ i a h l. rw (control_cell i a h l, first a l) refl) in
        ap (memory_at p) (e ∙ ap (λ (v : Spline). written v.controls (scaled_at eps v) w) is)
        ∙ ap (λ (l : List Float). memory_at p (written (controls_place p) l w)) same
        ∙ controls_one (table m d g) (table_length m d g)

  -- ---- no bound and no witness
  module _ (v₁ v₂ : List Float) where
    abbrev n : ℕ
    n = p.samples - 1

    abbrev Cleared : ℕ → Type 0
    Cleared b =
        let B = 2 * p.room + 2 * b in
        let W = 2 * p.room + 3 * b in
        v₁ ≡ zeros (length (window B (B + n * d) w)) → v₂ ≡ zeros (length (window W (W + n) (splice B (B + n * d) v₁ w)))
        → memory_at p (splice W (W + n) v₂ (splice B (B + n * d) v₁ w)) ≡ with_bounds (zeros (n * d)) (zeros n) x

    cleared_here : Cleared (block p)
    cleared_here e₁ e₂ =
        let q = products p (length w) r in
        let B = bounds_place p in
        let W = witness_place p in
        let k₁ : length (window B (B + n * d) w) ≡ n * d = length_window B (B + n * d) w (omega arith)
        (omega (arith, q.bounds, r.cells_fit)) ∙ omega arith in
        let f₁ : v₁ ≡ zeros (n * d) = e₁ ∙ ap zeros k₁ in
        let l₁ : length v₁ ≡ n * d = ap length f₁ ∙ length-replicate (n * d) _ in
        let h : length (splice B (B + n * d) v₁ w) ≡ length w = length_splice B (B + n * d) v₁ w (omega arith)
        (omega (arith, q.bounds, r.cells_fit)) (l₁ ∙ omega arith) in
        let k₂ : length (window W (W + n) (splice B (B + n * d) v₁ w)) ≡ n = length_window W (W + n) (splice B (B + n * d) v₁ w)
        (omega arith) (omega (arith, r.waypoints_fit, r.cells_fit)) ∙ omega arith in
        let f₂ : v₂ ≡ zeros n = e₂ ∙ ap zeros k₂ in
        bounds_written p w r v₁ v₂ l₁ (ap length f₂ ∙ length-replicate n _) ∙ ap (λ (l : List Float). with_bounds l v₂ x) f₁ ∙ ap
        (λ (l : List Float). with_bounds (zeros (n * d)) l x) f₂

    pub cleared : (b : ℕ) → b ≡ p.room * p.axes → Cleared b
    cleared b e = subst Cleared (sym e) cleared_here

    -- ---- the ends of the knots
    abbrev Opened : ℕ → Type 0
    Opened b =
        let t = p.room + b in
        let l = splice (t + m) (t + m + 6) v₂ (splice t (t + 6) v₁ w) in
        v₁ ≡ zeros (length (window t (t + 6) w)) → v₂ ≡ replicate (length (window (t + m) (t + m + 6) (splice t (t + 6) v₁ w)))
        floats.one
        → ((memory_at p l).t ≡ open_knots (inner_knots p (m - 6) w)) × (task_in p (memory_at p l) ≡ task_in p x)

    opened_here : Opened (block p)
    unfolding open_knots
    opened_here e₁ e₂ =
        let q = products p (length w) r in
        let six = r.six in
        let t = knots_place p in
        let end : t + m + 6 ≤ length w = omega (arith, r.knots_fit, r.cells_fit) in
        let k₁ : length (window t (t + 6) w) ≡ 6 = length_window t (t + 6) w (omega arith) (omega arith) ∙ omega arith in
        let f₁ : v₁ ≡ zeros 6 = e₁ ∙ ap zeros k₁ in
        let l₁ : length v₁ ≡ t + 6 - t = ap length f₁ ∙ omega arith in
        let h : length (splice t (t + 6) v₁ w) ≡ length w = length_splice t (t + 6) v₁ w (omega arith) (omega arith) l₁ in
        let k₂ : length (window (t + m) (t + m + 6) (splice t (t + 6) v₁ w)) ≡ 6 = length_window (t + m) (t + m + 6) (splice t (t + 6) v₁ w)
        (omega arith) (omega arith) ∙ omega arith in
        let f₂ : v₂ ≡ replicate 6 floats.one = e₂ ∙ ap (λ (k : ℕ). replicate k floats.one) k₂ in
        let l₂ : length v₂ ≡ t + m + 6 - (t + m) = ap length f₂ ∙ omega arith in
        let a : Apart t (t + 6) (t + m) (t + m + 6) v₁ v₂ w = record {
          be = omega arith;
          ew = omega arith;
          wf = omega arith;
          fl = end;
          first_fits = l₁;
          second_fits = l₂;
        } in
        let l = splice (t + m) (t + m + 6) v₂ (splice t (t + 6) v₁ w) in
        let mid : window (t + 6) (t + m) l ≡ inner_knots p (m - 6) w =
        window_before (t + m) (t + m + 6) v₂ (splice t (t + 6) v₁ w) (t + 6) (t + m) (omega arith) (omega arith) (omega arith)
        ∙ window_after t (t + 6) v₁ w (t + 6) (t + m) (omega arith) (omega arith) (omega arith) l₁
        ∙ same_window (t + 6) (t + 6) (t + m) (t + 6 + (m - 6)) w refl (omega arith) in
        let s-is = both_before a 0 (0 + p.samples) (omega arith) (omega (arith, r.waypoints_fit)) in
        let y-is = both_before a p.room (p.room + p.samples * d) (omega arith) (omega (arith, q.points)) in (
          window_append t (t + 6) (t + (m + 6)) l (omega arith) (omega arith)
              ∙ ap (λ (u : List Float). u ++ window (t + 6) (t + (m + 6)) l) (both_first a ∙ f₁)
              ∙ ap (λ (u : List Float). zeros 6 ++ u)
              (window_append (t + 6) (t + m) (t + (m + 6)) l (omega arith) (omega arith)
              ∙ ap (λ (u : List Float). u ++ window (t + m) (t + (m + 6)) l) mid
              ∙ ap (λ (u : List Float). inner_knots p (m - 6) w ++ u)
              (same_window (t + m) (t + m) (t + (m + 6)) (t + m + 6) l refl (omega arith) ∙ both_second a ∙ f₂)),
          λ i. record { n = p.samples; k = d; s = s-is i; y = y-is i },
        )

    pub opened : (b : ℕ) → b ≡ p.room * p.axes → Opened b
    opened b e = subst Opened (sym e) opened_here
