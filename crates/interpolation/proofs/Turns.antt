-- The rows as the code makes them, and each row added as the definition adds it.
use mathlib.Core.Path.{◌≡◌, refl, sym, ap, ◌∙◌}
use mathlib.Core.List.{List, []}
use Prim.Native.Nat.{ℕ, ◌+◌, ◌-◌, ◌≤◌, ◌<◌}
use native.Mathlib.Omega.{arith}
use lib.ListN.{get_or}
use lib.Ieee.{Float, nan, binary64, sub}
use Rattle.arith.specs.Operations.{floats}
use Rattle.arith.specs.Loop.{each}
use Rattle.window.specs.Cells.{+0, at, zeros}
use Rattle.window.proofs.Windows.{window_cell}
use Rattle.bspline.specs.Search.{span_of}
use Rattle.bspline.specs.Values.{values_of}
use Rattle.bspline.specs.Powers.{powers_of}
use Rattle.bspline.proofs.InsertPlaced.{span_within}
use Rattle.normal.specs.System.{System, new_of}
use Rattle.normal.specs.Add.{row_of, add_of}
use Rattle.normal.specs.declared.Row.{Row}
use Rattle.fitting_rows.specs.declared.Place.{Place}
use Rattle.fitting_rows.specs.Arrays.{Arrays, arrays_at}
use Rattle.fitting_rows.specs.Samples.{point_of}
use Rattle.smoothing.specs.Interpolate.{waypoint_knots, control_count, equation, waypoint_turn, derivative_of, end_turns, interpolation_system}
use Rattle.interpolation.specs.Rows.{prepared, waypoint_row, end_row}

-- the turn of the loop of `end_turns`
abbrev pub end_turn : Arrays → Float → Float → ℕ → System → System
end_turn x u h r a =
    let t = waypoint_knots x.n x.d x.s x.y in
    let span = span_of floats t (control_count x.n x.d x.s x.y) u in
    equation x.n x.d x.s x.y (span - 5) (derivative_of x.n x.d x.s x.y (powers_of floats t span u) h r) (zeros 16) a

-- a span that the search gave is one of the spans 5 to m - 1
pub found_within : (t : List Float) (m : ℕ) (u : Float) (span : ℕ) → 6 ≤ m → span ≡ span_of floats t m u → (5 ≤ span) × (span < m)
found_within t m u span six e = rw e (span_within t m u six)

module _ (x : Arrays) where
  -- ---- the rows, from what the callees gave
  pub waypoint_row_is : (i span : ℕ) (u : Float) (basis target : List Float) (row : Row)
      → u ≡ at x.s i → span ≡ span_of floats x.t x.m u → basis ≡ values_of floats x.t span u → target ≡ point_of x.y x.d i
      → row ≡ row_of x.c x.d (span - 5) basis floats.one target → row ≡ waypoint_row x i
  unfolding waypoint_row
  waypoint_row_is i span u basis target row e₁ e₂ e₃ e₄ e = e ∙ rw (e₄, e₃, e₂, e₁)

  pub end_row_is : (u h : Float) (r span : ℕ) (powers basis : List Float) (row : Row) → span ≡ span_of floats x.t x.m u
      → powers ≡ powers_of floats x.t span u → basis ≡ derivative_of 0 0 [] [] powers h r
      → row ≡ row_of x.c x.d (span - 5) basis floats.one (zeros 16) → row ≡ end_row x u h r
  unfolding end_row derivative_of
  end_row_is u h r span powers basis row e₁ e₂ e₃ e = e ∙ rw (e₃, e₂, e₁)

  -- ---- their first controls
  pub waypoint_start : (i : ℕ) → 6 ≤ x.m → (waypoint_row x i).start < x.m
  unfolding waypoint_row row_of
  waypoint_start i six = let k = span_within x.t x.m (at x.s i) six in omega (arith, k)

  pub end_start : (u h : Float) (r : ℕ) → 6 ≤ x.m → (end_row x u h r).start < x.m
  unfolding end_row row_of
  end_start u h r six = let k = span_within x.t x.m u six in omega (arith, k)

  -- ---- the turns of the loops
  module _ (ready : x ≡ prepared x) (a : System) where
    pub waypoint_added : (i : ℕ) → add_of 0 x.m x.d (waypoint_row x i) a ≡ waypoint_turn x.n x.d x.s x.y i a
    unfolding waypoint_row waypoint_turn equation
    waypoint_added i = ap (λ (z : Arrays). add_of 0 z.m z.d (waypoint_row z i) a) ready

    pub end_added : (u h : Float) (r : ℕ) → add_of 0 x.m x.d (end_row x u h r) a ≡ end_turn x u h r a
    unfolding end_row equation
    end_added u h r = ap (λ (z : Arrays). add_of 0 z.m z.d (end_row z u h r) a) ready

-- ---- all rows
-- prepared arrays stay so
pub ready : (x y : Arrays) → y ≡ prepared x → y ≡ prepared y
ready x y e = e ∙ ap (λ (z : Arrays). prepared z) (sym e)

-- the widths of the first and of the last interval
pub ends_are : (q : Place) (w : List Float) → 2 ≤ q.samples
    → let s = q.parameters in let z = q.parameters + q.samples in let x = arrays_at q w in
    (sub binary64 (get_or w (s + 1) nan) (get_or w s nan) ≡ sub binary64 (at x.s 1) (at x.s 0))
    × (sub binary64 (get_or w (z - 1) nan) (get_or w (z - 2) nan) ≡ sub binary64 (at x.s (q.samples - 1)) (at x.s (q.samples - 2)))
ends_are q w two =
    let s = q.parameters in
    let n = q.samples in
    let cell : (i k : ℕ) → i < n → k ≡ s + i → get_or w k nan ≡ at (arrays_at q w).s i =
    λ i k h e. ap (λ (j : ℕ). get_or w j nan) e ∙ sym (window_cell s (s + n) w i nan (omega arith)) in (
      ap (λ (v : Float). sub binary64 v (get_or w s nan)) (cell 1 (s + 1) (omega arith) refl)
          ∙ ap (λ (v : Float). sub binary64 (at (arrays_at q w).s 1) v) (cell 0 s (omega arith) (omega arith)),
      ap (λ (v : Float). sub binary64 v (get_or w (s + n - 2) nan)) (cell (n - 1) (s + n - 1) (omega arith) (omega arith))
          ∙ ap (λ (v : Float). sub binary64 (at (arrays_at q w).s (n - 1)) v) (cell (n - 2) (s + n - 2) (omega arith) (omega arith)),
    )

-- the waypoints, the first end, the last end
module _ (n d m : ℕ) (count_is : m ≡ n + 4) (x x₁ x₂ x₃ : Arrays) (e₁ : x₁ ≡ prepared x) (e₂ : x₂ ≡ x₁) (e₃ : x₃ ≡ x₂) where
  pub assembly_is : (a₁ a₂ a₃ a₄ : System) (first last : Float) → a₁ ≡ new_of m d → a₂ ≡ each (waypoint_turn n d x₁.s x₁.y) 0 n a₁
      → first ≡ sub binary64 (at x₂.s 1) (at x₂.s 0) → last ≡ sub binary64 (at x₂.s (n - 1)) (at x₂.s (n - 2))
      → a₃ ≡ end_turns n d x₂.s x₂.y +0 first a₂ → a₄ ≡ end_turns n d x₃.s x₃.y floats.one last a₃
      → a₄ ≡ interpolation_system n d x.s x.y
  unfolding interpolation_system
  assembly_is a₁ a₂ a₃ a₄ first last h₁ h₂ f l h₃ h₄ =
      let s = x.s in
      let y = x.y in
      let is₂ = e₂ ∙ e₁ in
      let is₃ = e₃ ∙ is₂ in
      let waypoints =
      h₂
      ∙ ap (λ (z : Arrays). each (waypoint_turn n d z.s z.y) 0 n a₁) e₁
      ∙ ap (λ (a : System). each (waypoint_turn n d s y) 0 n a) (h₁ ∙ ap (λ (k : ℕ). new_of k d) count_is) in
      let f' = f ∙ ap (λ (z : Arrays). sub binary64 (at z.s 1) (at z.s 0)) is₂ in
      let l' = l ∙ ap (λ (z : Arrays). sub binary64 (at z.s (n - 1)) (at z.s (n - 2))) is₂ in
      let F = sub binary64 (at s 1) (at s 0) in
      let L = sub binary64 (at s (n - 1)) (at s (n - 2)) in
      let first-end =
      h₃
      ∙ ap (λ (z : Arrays). end_turns n d z.s z.y +0 first a₂) is₂
      ∙ ap (λ (h : Float). end_turns n d s y +0 h a₂) f'
      ∙ ap (λ (a : System). end_turns n d s y +0 F a) waypoints in
      h₄
      ∙ ap (λ (z : Arrays). end_turns n d z.s z.y floats.one last a₃) is₃
      ∙ ap (λ (h : Float). end_turns n d s y floats.one h a₃) l'
      ∙ ap (λ (a : System). end_turns n d s y floats.one L a) first-end
