-- How the steps of `compute` follow one another.
use mathlib.Core.Path.{◌≡◌, refl, sym, ap, ◌∙◌}
use mathlib.Core.Bool.{Bool, true, false, cond}
use mathlib.Core.List.{List, ◌++◌, append-nil}
use Prim.Native.Nat.{ℕ, ◌+◌, ◌-◌, ◌*◌, ◌≤◌, ◌<◌}
use native.Mathlib.Omega.{arith}
use lib.ListN.{length, take, drop, length-drop, drop_of_length-le}
use lib.Seq.{drop_at, length-take-le}
use lib.Ieee.{Float}
use Rattle.window.specs.Window.{splice}
use Rattle.window.proofs.Windows.{window_before}
use Rattle.bspline.specs.Segments.{Polynomial}
use Rattle.request.specs.Parameters.{unreliable}
use Rattle.smoothing.specs.Answer.{Answer, and_then}
use Rattle.smoothing.specs.Answer.Answer.{done, refused}
use Rattle.smoothing.specs.Refusal.{refused_by}
use Rattle.smoothing.specs.declared.refusal.Refusal.{Refusal}
use Rattle.smoothing.proofs.Refused.{stops_there}
use Rattle.smoothing.specs.Request.{Limits}
use Rattle.smoothing.specs.Checks.{overflows}
use Rattle.smoothing.specs.Rows.{Task, Units}
use Rattle.smoothing.specs.Finish.{Selected}
use Rattle.smoothing.specs.Build.{selected_of}
use Rattle.checks.specs.Checks.{refusal_after}
use Rattle.refinement.specs.declared.plan.Plan.{Plan}
use Rattle.refinement.specs.Memory.{Roomy, cells_of, breaks_place, coefficients_place, memory_at, sized}
use Rattle.selected_axes.specs.Selected.{selected_in}
use Rattle.work_slice.proofs.Copying.{spans_fit}
use Rattle.building.specs.Computed.{both, both_from, with_other, computed_of}

-- ---- 6 and 7
module _ (list : List Float) (m : Limits) (q : Task) (u : Units) (o : Answer (Polynomial Float)) (r : ℕ)
    (e : r ≡ refusal_after list q) where
  pub stops : 0 < r → computed_of list m q u o ≡ refused r
  unfolding computed_of
  stops h = go (unreliable list q.n) (overflows q) e
    where
      go : (a b : Bool) → r ≡ cond a 6 (cond b 7 0) → cond a (refused 6) (cond b (refused 7) (both_from m q u o)) ≡ refused r
      go true b g = ap refused (sym g)
      go false true g = ap refused (sym g)
      go false false g = absurd (omega arith)

  pub goes : r ≡ 0 → computed_of list m q u o ≡ both_from m q u o
  unfolding computed_of
  goes h = go (unreliable list q.n) (overflows q) e
    where
      go : (a b : Bool) → r ≡ cond a 6 (cond b 7 0) → cond a (refused 6) (cond b (refused 7) (both_from m q u o)) ≡ both_from m q u o
      go true b g = let z : ◌≡◌ {A = ℕ} 0 6 = sym h ∙ g in absurd (omega arith)
      go false true g = let z : ◌≡◌ {A = ℕ} 0 7 = sym h ∙ g in absurd (omega arith)
      go false false g = refl

-- ---- the selected axes, or their refusal
module _ (m : Limits) (q : Task) (u : Units) (o : Answer (Polynomial Float)) where
  pub both_done : (x : Selected) → done x ≡ selected_of m q u → with_other x o ≡ both_from m q u o
  unfolding both_from and_then
  both_done x h = ap (λ (s : Answer Selected). and_then s (λ y. with_other y o)) h

  pub both_refused : (e : Refusal) → refused_by e ≡ selected_of m q u → refused_by e ≡ both_from m q u o
  unfolding both_from
  both_refused e h = stops_there e (selected_of m q u) (λ y. with_other y o) h

-- ---- the other axes
module _ (x : Selected) (o : Answer (Polynomial Float)) where
  pub other_refused : (n : ℕ) → refused n ≡ o → with_other x o ≡ refused n
  unfolding with_other and_then
  other_refused n h = ap (λ (s : Answer (Polynomial Float)). and_then s (λ y. done (both x y))) (sym h)

  pub other_done : (p : Polynomial Float) → done p ≡ o → with_other x o ≡ done (both x p)
  unfolding with_other and_then
  other_done p h = ap (λ (s : Answer (Polynomial Float)). and_then s (λ y. done (both x y))) (sym h)

-- ---- what is written behind the plan's cells leaves the selected axes as they are
module _ (p : Plan) (count : ℕ) (w : List Float) (R : Roomy (sized p count) (length w)) (z : List Float) where
  abbrev g : ℕ
  g = cells_of p

  behind : g ≤ length w
  behind = omega (arith, R.cells_fit)

  pub same_selected : (errors : List Float) (r : _)
      → selected_in (sized p count) errors r (memory_at (sized p count) (splice g (length w) z w))
      ≡ selected_in (sized p count) errors r (memory_at (sized p count) w)
  same_selected errors r =
      let s = sized p count in
      let b = window_before g (length w) z w (breaks_place s) (breaks_place s + (count - 5) + 1) (omega arith)
      (omega (arith, R.knots_fit)) behind in
      let c = window_before g (length w) z w (coefficients_place s) (coefficients_place s + (count - 5) * (6 * p.axes)) (omega arith)
      (omega (arith, spans_fit (count - 5) p.room p.axes (omega (arith, R.knots_fit)))) behind in
      λ i. record { curve = record { breaks = b i; coefficients = c i }; errors = errors; report = r }

  pub part_is : drop g (splice g (length w) z w) ≡ z
  part_is =
      drop_at (take g w) (z ++ drop (length w - g) (drop g w)) g (length-take-le g w behind)
      ∙ ap (λ (l : List Float). z ++ l) (drop_of_length-le (drop g w) {i = length w - g} (omega (arith, length-drop g w)))
      ∙ append-nil z
