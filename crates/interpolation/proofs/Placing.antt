-- The arrays in the lent slice: where they lie, and what writing one of them leaves of the others.
use mathlib.Core.Path.{◌≡◌, refl, subst, sym, ap, ◌∙◌}
use mathlib.Core.List.{List}
use Prim.Native.Nat.{ℕ, ◌+◌, ◌-◌, ◌*◌, ◌≤◌}
use native.Mathlib.Omega.{arith}
use native.Mathlib.Nat.{mul-le-mul_right}
use lib.ListN.{length, length-replicate}
use lib.Ieee.{Float}
use Rattle.window.specs.Window.{window, splice}
use Rattle.window.specs.Cells.{+0, zeros}
use Rattle.window.proofs.Windows.{length_window, length_splice, window_same, window_before, window_after}
use Rattle.normal.specs.System.{size_of, system_of, new_of}
use Rattle.normal.proofs.Arrays.{new_system}
use Rattle.fitting_rows.specs.declared.Place.{Place}
use Rattle.fitting_rows.specs.Arrays.{arrays_at}
use Rattle.smoothing.specs.Start.{open_knots}
use Rattle.interpolation.specs.declared.Nodes.{Nodes}
use Rattle.interpolation.specs.Memory.{Roomy, place_of, NodesLaid, system_in}
use Rattle.interpolation.specs.Rows.{prepared}
use Rattle.interpolation.proofs.Knots.{knots_long}

-- the rows of so many waypoints and controls fit in the room
pub rows_fit : (p : Nodes) (cells : ℕ) → Roomy p cells
    → (p.samples * p.axes ≤ p.room * p.axes) × ((p.samples + 4) * p.axes ≤ p.room * p.axes)
rows_fit p cells r = (mul-le-mul_right p.axes (omega arith), mul-le-mul_right p.axes (omega arith))

pub laid : (p : Nodes) (cells : ℕ) → Roomy p cells → NodesLaid (place_of p) cells
laid p cells r =
    let f = rows_fit p cells r in
    record {
      few = r.few;
      two = r.two;
      count_is = refl;
      parameters_fit = omega arith;
      points_fit = omega arith;
      knots_fit = omega arith;
      system_fits = omega arith;
      controls_fit = omega arith;
    }

module _ (q : Place) (w : List Float) (l : NodesLaid q (length w)) where
  abbrev end : ℕ
  end = q.system + size_of q.count q.axes

  -- ---- the system is written
  module _ (v : List Float) (fills : length v ≡ size_of q.count q.axes) where
    pub arrays_kept : arrays_at q (splice q.system end v w) ≡ arrays_at q w
    arrays_kept =
        let t_is = window_before q.system end v w q.knots (q.knots + (q.count + 6)) (omega arith) (omega arith) (omega arith) in
        let c_is =
        window_after q.system end v w q.controls (q.controls + q.count * q.axes) (omega arith) (omega arith) (omega arith)
        (omega arith) in
        let s-is =
        window_before q.system end v w q.parameters (q.parameters + q.samples) (omega arith) (omega arith) (omega arith) in
        let y-is =
        window_before q.system end v w q.points (q.points + q.samples * q.axes) (omega arith) (omega arith) (omega arith) in
        λ i. record { t = t_is i; c = c_is i; m = q.count; d = q.axes; s = s-is i; y = y-is i; n = q.samples }

    pub system_written : system_in q (splice q.system end v w) ≡ system_of q.count q.axes v
    system_written = ap (system_of q.count q.axes) (window_same q.system end v w (omega arith) (omega arith))

-- ---- the knots are written, then the controls and the system are cleared
module _ (q : Place) (w : List Float) (l : NodesLaid q (length w)) (w₁ v₁ v₂ : List Float) where
  abbrev knots : List Float
  knots = open_knots (window 1 (q.samples - 1) (arrays_at q w).s)

  abbrev t : ℕ
  t = q.knots

  abbrev t_end : ℕ
  t_end = q.knots + (q.count + 6)

  abbrev c : ℕ
  c = q.controls

  abbrev c_end : ℕ
  c_end = q.controls + q.count * q.axes

  abbrev w₂ : List Float
  w₂ = splice c c_end v₁ w₁

  abbrev w₃ : List Float
  w₃ = splice q.system (q.system + size_of q.count q.axes) v₂ w₂

  module _ (e : w₁ ≡ splice t t_end knots w) (e₁ : v₁ ≡ zeros (length (window c c_end w₁)))
      (e₂ : v₂ ≡ zeros (length (window q.system (q.system + size_of q.count q.axes) w₂))) where
    knots_fill : length knots ≡ t_end - t
    knots_fill =
        let n = length_window q.parameters (q.parameters + q.samples) w (omega arith) (omega arith) in
        let k = knots_long (arrays_at q w).s q.samples l.two (omega arith) in
        omega arith

    long₁ : length w₁ ≡ length w
    long₁ = ap length e ∙ length_splice t t_end knots w (omega arith) (omega arith) knots_fill

    controls_are : v₁ ≡ zeros (q.count * q.axes)
    controls_are =
        let k = long₁ in
        let n : length (window c c_end w₁) ≡ q.count * q.axes = length_window c c_end w₁ (omega arith) (omega arith) ∙ omega arith in
        e₁ ∙ ap zeros n

    controls_fill : length v₁ ≡ c_end - c
    controls_fill = ap length controls_are ∙ length-replicate (q.count * q.axes) +0 ∙ omega arith

    long₂ : length w₂ ≡ length w
    long₂ = let k = long₁ in length_splice c c_end v₁ w₁ (omega arith) (omega arith) controls_fill ∙ k

    laid₂ : NodesLaid q (length w₂)
    laid₂ = subst (NodesLaid q) (sym long₂) l

    system_is : v₂ ≡ zeros (size_of q.count q.axes)
    system_is =
        let k = long₂ in
        let n : length (window q.system (q.system + size_of q.count q.axes) w₂) ≡ size_of q.count q.axes =
        length_window q.system (q.system + size_of q.count q.axes) w₂ (omega arith) (omega arith) ∙ omega arith in e₂ ∙ ap zeros n

    system_fills : length v₂ ≡ size_of q.count q.axes
    system_fills = ap length system_is ∙ length-replicate (size_of q.count q.axes) +0

    -- what lies before the knots
    front : (a b : ℕ) → a ≤ b → b ≤ t → window a b w₂ ≡ window a b w
    front a b h g =
        let k = long₁ in
        window_before c c_end v₁ w₁ a b h (omega arith) (omega arith)
        ∙ ap (λ (x : List Float). window a b x) e
        ∙ window_before t t_end knots w a b h g (omega arith)

    pub arrays_prepared : arrays_at q w₃ ≡ prepared (arrays_at q w)
    arrays_prepared =
        let k = long₁ in
        let t_is : window t t_end w₂ ≡ knots =
        window_before c c_end v₁ w₁ t t_end (omega arith) (omega arith) (omega arith)
        ∙ ap (λ (x : List Float). window t t_end x) e
        ∙ window_same t t_end knots w (omega arith) knots_fill in
        let c_is : window c c_end w₂ ≡ zeros ((q.samples + 4) * q.axes) =
        window_same c c_end v₁ w₁ (omega arith) controls_fill ∙ controls_are ∙ ap (λ (m : ℕ). zeros (m * q.axes)) l.count_is in
        let s-is = front q.parameters (q.parameters + q.samples) (omega arith) (omega arith) in
        let y-is = front q.points (q.points + q.samples * q.axes) (omega arith) (omega arith) in
        let m-is = l.count_is in
        arrays_kept q w₂ laid₂ v₂ system_fills
        ∙ (λ i. record { t = t_is i; c = c_is i; m = m-is i; d = q.axes; s = s-is i; y = y-is i; n = q.samples })

    pub system_cleared : system_in q w₃ ≡ new_of q.count q.axes
    system_cleared =
        system_written q w₂ laid₂ v₂ system_fills ∙ ap (system_of q.count q.axes) system_is ∙ new_system q.count q.axes
