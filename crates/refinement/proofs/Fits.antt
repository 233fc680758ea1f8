-- What `fit` asks of its part of the slice, and what its contract then says of the arrays.
use mathlib.Core.Path.{◌≡◌, ap, ◌∙◌}
use mathlib.Core.List.{List, ◌++◌}
use Prim.Native.Nat.{ℕ, ◌+◌, ◌-◌, ◌*◌, ◌≤◌}
use native.Mathlib.Omega.{arith}
use native.Mathlib.Nat.{mul-le-mul}
use lib.ListN.{length, length-append}
use lib.Ieee.{Float}
use Rattle.window.specs.Window.{window, splice}
use Rattle.window.proofs.Windows.{length_window, length_splice, window_window}
use Rattle.window.proofs.Seams.{same_window, front_written}
use Rattle.normal.specs.System.{size_of}
use Rattle.fitting_rows.specs.Arrays.{Arrays, arrays, arrays_at}
use Rattle.fit.specs.Region.{WindowLaid, before}
use Rattle.fit.specs.Fit.{Fit, Answer, fit_of, cells_of, cells_after}
use Rattle.smoothing.specs.State.{fit_in}
use Rattle.fit.proofs.Bounds.{fit_length}
use Rattle.fit.proofs.Bounds.{fit_reach}
use Rattle.fit.proofs.RowCounts.{fit_rows}
use Rattle.refinement.specs.declared.plan.Plan.{Plan}
use Rattle.refinement.specs.Memory.{points_place, knots_place, controls_place, system_place, breaks_place, place_of, Roomy, Memory}
use Rattle.refinement.specs.Memory.{memory_at, with_controls, task_in, spline_in}
use Rattle.refinement.proofs.Memories.{products, lengths, controls_written}

module _ (p : Plan) (w : List Float) (r : Roomy p (length w)) (a z : ℕ) (az : a ≤ z) (zm : z ≤ p.count) where
  abbrev x : Memory
  x = memory_at p w

  abbrev size : ℕ
  size = size_of (z - a) p.axes

  abbrev end : ℕ
  end = system_place p + size

  -- the system ends before the breaks
  pub fit_ends : end ≤ breaks_place p
  fit_ends = let q = products p (length w) r in omega (arith, q.window_rows (z - a) (omega arith))

  pub fit_fits : end ≤ length w
  fit_fits = omega (arith, fit_ends, r.cells_fit)

  part_length : length (window 0 end w) ≡ end
  part_length = length_window 0 end w (omega arith) fit_fits ∙ omega arith

  pub fit_asks : WindowLaid (place_of p) a z (length (window 0 end w))
  fit_asks =
      let q = products p (length w) r in
      let n = part_length in
      (az, zm, omega arith, omega arith, omega arith, r.six, r.two, r.few, omega arith, omega arith, omega arith, omega arith)

  -- what it reads of the slice's part
  inner : (b f : ℕ) → b ≤ f → f ≤ system_place p → window b f (before (place_of p) (window 0 end w)) ≡ window b f w
  inner b f h g =
      window_window 0 (system_place p) b f (window 0 end w) h (omega arith)
      ∙ same_window (0 + b) b (0 + f) f (window 0 end w) (omega arith) (omega arith)
      ∙ window_window 0 end b f w h (omega arith)
      ∙ same_window (0 + b) b (0 + f) f w (omega arith) (omega arith)

  abbrev given : Arrays
  given = arrays x.t x.c p.count p.axes x.s x.y p.samples

  arrays_are : arrays_at (place_of p) (before (place_of p) (window 0 end w)) ≡ given
  arrays_are =
      let q = products p (length w) r in
      let t_is = inner (knots_place p) (knots_place p + (p.count + 6)) (omega arith) (omega arith) in
      let c_is = inner (controls_place p) (controls_place p + p.count * p.axes) (omega arith) (omega arith) in
      let s-is = inner 0 (0 + p.samples) (omega arith) (omega arith) in
      let y-is = inner (points_place p) (points_place p + p.samples * p.axes) (omega arith) (omega arith) in
      λ i. record { t = t_is i; c = c_is i; m = p.count; d = p.axes; s = s-is i; y = y-is i; n = p.samples }

  module _ (strength : Float) where
    abbrev fitted : Fit
    fitted = fit_in (task_in p x) a z strength (spline_in p x)

    fit_is : fit_of (arrays_at (place_of p) (before (place_of p) (window 0 end w))) a z strength ≡ fitted
    unfolding fit_in
    fit_is = ap (λ (y : Arrays). fit_of y a z strength) arrays_are

    pub fit_answer : (v : Answer) → v ≡ (fit_of (arrays_at (place_of p) (before (place_of p) (window 0 end w))) a z strength).answered
        → v ≡ fitted.answered
    fit_answer v e = e ∙ ap (λ (f : Fit). f.answered) fit_is

    pub fit_memory : (cells : List Float) → length cells ≡ end
        → cells ≡ cells_after (place_of p) (fit_of (arrays_at (place_of p) (before (place_of p) (window 0 end w))) a z strength) (window 0 end w)
        → memory_at p (splice 0 end cells w) ≡ with_controls fitted.controls x
    unfolding fit_in
    fit_memory cells long e =
        let q = products p (length w) r in
        let v = fitted.controls in
        let y = cells_of fitted.system in
        let c = controls_place p in
        let ce = controls_place p + p.count * p.axes in
        let S = system_place p in
        let lv : length v ≡ p.count * p.axes = fit_length given a z strength ∙ (lengths p w r).c in
        let front = splice c ce v (window 0 S (window 0 end w)) in
        let g : cells ≡ front ++ y = e ∙ ap (λ (f : Fit). cells_after (place_of p) f (window 0 end w)) fit_is in
        let lw = part_length in
        let lb : length (window 0 S (window 0 end w)) ≡ S = length_window 0 S (window 0 end w) (omega arith) (omega arith) ∙ omega arith in
        let lf : length front ≡ S = length_splice c ce v (window 0 S (window 0 end w)) (omega arith) (omega arith) (lv ∙ omega arith)
        ∙ lb in
        let la = length-append front y in
        let lc = ap length g in
        ap (λ (l : List Float). memory_at p (splice 0 end l w)) g
        ∙ ap (λ (l : List Float). memory_at p l)
        (front_written S end c ce v y w (omega arith) (omega arith) (omega arith) fit_fits (lv ∙ omega arith))
        ∙ controls_written p w r v y end lv (omega arith) fit_ends (omega arith)

-- how far a fit reaches, and how many rows it has
pub fit_few : (p : Plan) (w : List Float) (r : Roomy p (length w)) (a z : ℕ) (v : Answer) (strength : Float) → let x = memory_at p w in
    v ≡ (fit_in (task_in p x) a z strength (spline_in p x)).answered → (v.first ≤ p.samples) × (v.rows ≤ 4294967296)
unfolding fit_in
fit_few p w r a z v strength e =
    let x = memory_at p w in
    let given = arrays x.t x.c p.count p.axes x.s x.y p.samples in
    let l = (lengths p w r).s in
    let g = (fit_reach given a z strength).0 in
    let h = fit_rows given a z strength in
    let few : p.count ≤ 20016 = omega (arith, r.knots_fit, r.small) in
    let short : (length x.s + 1) * 6 ≤ 120102 = omega (arith, l, r.waypoints_fit, r.small) in
    let k : p.count * ((length x.s + 1) * 6) ≤ 20016 * 120102 = mul-le-mul few short in
    let i : v.first ≡ _ = ap (λ (v : Answer). v.first) e in
    let j : v.rows ≡ _ = ap (λ (v : Answer). v.rows) e in
    (omega arith, omega (arith, r.waypoints_fit, r.small))
