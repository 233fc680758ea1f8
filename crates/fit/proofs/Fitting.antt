-- The fit as the code goes through it: the system assembled, solved, and the answer with the cells after it.
use mathlib.Core.Path.{◌≡◌, sym, ap, ◌∙◌}
use mathlib.Core.Bool.{false}
use mathlib.Core.List.{List, ◌++◌, append_assoc}
use Prim.Native.Nat.{ℕ, ◌+◌, ◌-◌, ◌*◌, ◌≤◌}
use native.Mathlib.Omega.{arith}
use lib.Dec.{eqb}
use lib.ListN.{length, take, drop, take-append-drop, length-drop}
use lib.Seq.{take_all, take-append-le, drop-append-le}
use lib.Ieee.{Float}
use Rattle.window.specs.Window.{window, splice}
use Rattle.window.proofs.Windows.{length_window, length_splice, splice_window}
use Rattle.normal.specs.System.{System, size_of, system_of, new_of}
use Rattle.normal.specs.Solve.{solve_of}
use Rattle.normal.proofs.Arrays.{all_cells}
use Rattle.fitting_rows.specs.declared.Place.{Place}
use Rattle.fitting_rows.specs.Arrays.{Arrays, arrays_at}
use Rattle.fit.specs.Region.{before, system_at}
use Rattle.fitting_rows.specs.Samples.{below}
use Rattle.fitting_rows.specs.Pieces.{at_or_below}
use Rattle.fit.specs.Assembly.{Assembled, assembled, low, high, samples_of, sparse_of, penalties_of, assembled_of}
use Rattle.fit.specs.Fit.{Fit, answer, added_to, solved_of, fit_of, cells_of, cells_after}
use Rattle.fit.proofs.Placing.{front_kept, back_written}

module _ (x : Arrays) (a z : ℕ) (strength : Float) where
  -- the three loops, one after the other
  pub assembly_is : (s₁ s₂ s₃ s₄ : System) (r₂ r₃ : ℕ) → assembled r₂ s₂ ≡ samples_of x a z (below x.s (low x a z)) (at_or_below x.s
      (high x a z)) (assembled 0 s₁)
      → assembled r₃ s₃ ≡ sparse_of x a z (assembled r₂ s₂) → s₄ ≡ penalties_of x a z strength s₃ → assembled r₃ s₄
      ≡ assembled_of x a z strength s₁
  unfolding assembled_of
  assembly_is s₁ s₂ s₃ s₄ r₂ r₃ e f g =
      ap (assembled r₃) g ∙ ap (λ (n : Assembled). assembled n.rows (penalties_of x a z strength n.system)) (f ∙ ap (sparse_of x a z) e)

  module _ (rows : ℕ) (s : System) (e : assembled rows s ≡ assembled_of x a z strength (new_of (z - a) x.d)) where
    pub fit_refused : (number : ℕ) → number ≡ (solve_of (z - a) x.d s).number → eqb number 0 ≡ false
        → fit_of x a z strength ≡ record { answered = answer number 0 0 0; controls = x.c; system = (solve_of (z - a) x.d s).system }
    unfolding fit_of solved_of
    fit_refused number h f = rw (sym e, sym h, f)

    pub fit_done : 0 ≡ (solve_of (z - a) x.d s).number
        → fit_of x a z strength
        ≡ record {
          answered = answer 0 (below x.s (low x a z)) (at_or_below x.s (high x a z)) rows;
          controls = added_to (solve_of (z - a) x.d s).system.right (a * x.d) ((z - a) * x.d) x.c;
          system = (solve_of (z - a) x.d s).system;
        }
    unfolding fit_of solved_of
    fit_done h = rw (sym e, sym h)

-- a part of the first of two lists is written
splice_front : (c e : ℕ) (u A B : List Float) → c ≤ e → e ≤ length A → splice c e u (A ++ B) ≡ splice c e u A ++ B
splice_front c e u A B h g =
    let l : e - c ≤ length (drop c A) = simp length-drop (omega arith) in
    let rest = drop (e - c) (drop c A) in
    rw (take-append-le c A B (omega arith), drop-append-le c A B (omega arith), drop-append-le (e - c) (drop c A) B l)
    (ap (λ (t : List Float). take c A ++ t) (sym (append_assoc u rest B)) ∙ sym (append_assoc (take c A) (u ++ rest) B))

module _ (p : Place) (k : ℕ) (w : List Float) (long : p.system + size_of k p.axes ≡ length w) where
  -- the cells are the arrays and the system
  whole : w ≡ before p w ++ cells_of (system_at p k w)
  whole =
      let g = p.system in
      let e = g + size_of k p.axes in
      let zero : g ≡ g - 0 = omega arith in
      let size : length (window g e w) ≡ size_of k p.axes = length_window g e w (omega arith) (omega arith) ∙ omega arith in
      sym (take-append-drop g w)
      ∙ ap (λ (n : ℕ). take n w ++ drop g w) zero
      ∙ ap (λ (l : List Float). before p w ++ l) (sym (take_all (e - g) (drop g w) (simp length-drop (omega arith)))
      ∙ all_cells k p.axes (window g e w) size)

  module _ (w₀ : List Float) (s : System) (b : before p w ≡ before p w₀) (e : system_at p k w ≡ s) where
    parts : w ≡ before p w₀ ++ cells_of s
    parts = whole ∙ ap (λ (l : List Float). l ++ cells_of (system_at p k w)) b ∙ ap (λ (v : System). before p w₀ ++ cells_of v) e

    -- after a refusal
    pub cells_refused : w ≡ splice p.controls (p.controls + p.count * p.axes) (arrays_at p (before p w₀)).c (before p w₀) ++ cells_of s
    cells_refused =
        parts ∙ ap (λ (l : List Float). l ++ cells_of s) (sym (splice_window p.controls (p.controls + p.count * p.axes) (before p w₀)))

    -- with other controls
    pub cells_done : (u : List Float) → p.controls + p.count * p.axes ≤ p.system
        → splice p.controls (p.controls + p.count * p.axes) u w ≡ splice p.controls (p.controls + p.count * p.axes) u
        (before p w₀) ++ cells_of s
    cells_done u h =
        let l = length_window 0 p.system w (omega arith) (omega arith) in
        let m = ap length b in
        ap (splice p.controls (p.controls + p.count * p.axes) u) parts
        ∙ splice_front p.controls (p.controls + p.count * p.axes) u (before p w₀) (cells_of s) (omega arith) (omega arith)

-- After `solve` has left the cells v in the system's place: w₀ are the cells at entry, w₁ those with the system assembled.
module _ (p : Place) (a z : ℕ) (strength : Float) (w₀ w₁ v : List Float) (rows : ℕ) (b : before p w₁ ≡ before p w₀)
    (e : assembled rows (system_at p (z - a) w₁) ≡ assembled_of (arrays_at p (before p w₀)) a z strength (new_of (z - a) p.axes))
    (s : system_of (z - a) p.axes v ≡ (solve_of (z - a) p.axes (system_at p (z - a) w₁)).system)
    (long : p.system + size_of (z - a) p.axes ≡ length w₁) (fills : length v ≡ size_of (z - a) p.axes)
    (lies : p.controls + p.count * p.axes ≤ p.system) where
  abbrev x : Arrays
  x = arrays_at p (before p w₀)

  abbrev w₂ : List Float
  w₂ = splice p.system (p.system + size_of (z - a) p.axes) v w₁

  front : before p w₂ ≡ before p w₀
  front = front_kept p.system (p.system + size_of (z - a) p.axes) v w₁ (omega arith) long (omega arith) ∙ b

  solved : system_at p (z - a) w₂ ≡ (solve_of (z - a) p.axes (system_at p (z - a) w₁)).system
  solved = ap (system_of (z - a) p.axes) (back_written p.system (p.system + size_of (z - a) p.axes) v w₁ (omega arith) long
      (omega arith)) ∙ s

  size : p.system + size_of (z - a) p.axes ≡ length w₂
  size = long ∙ sym (length_splice p.system (p.system + size_of (z - a) p.axes) v w₁ (omega arith) (omega arith) (omega arith))

  pub after_refusal : (number : ℕ) → number ≡ (solve_of (z - a) p.axes (system_at p (z - a) w₁)).number → eqb number 0 ≡ false
      → (answer number 0 0 0 ≡ (fit_of x a z strength).answered) × (w₂ ≡ cells_after p (fit_of x a z strength) w₀)
  after_refusal number h f =
      let is = fit_refused x a z strength rows (system_at p (z - a) w₁) e number h f in (
        ap (λ (k : Fit). k.answered) (sym is),
        cells_refused p (z - a) w₂ size w₀ _ front solved
            ∙ ap (λ (k : Fit). cells_after p k w₀) (sym is),
      )

  pub after_solution : (first last : ℕ) → first ≡ below x.s (low x a z) → last ≡ at_or_below x.s (high x a z) → 0
      ≡ (solve_of (z - a) p.axes (system_at p (z - a) w₁)).number
      → (answer 0 first last rows ≡ (fit_of x a z strength).answered)
      × (splice p.controls (p.controls + p.count * p.axes) (added_to (system_at p (z - a) w₂).right (a * p.axes) ((z - a) * p.axes)
      (arrays_at p (before p w₂)).c) w₂ ≡ cells_after p (fit_of x a z strength) w₀)
  after_solution first last f l h =
      let is = fit_done x a z strength rows (system_at p (z - a) w₁) e h in
      let added = added_to (solve_of (z - a) p.axes (system_at p (z - a) w₁)).system.right (a * p.axes) ((z - a) * p.axes) x.c in
      let same : added_to (system_at p (z - a) w₂).right (a * p.axes) ((z - a) * p.axes) (arrays_at p (before p w₂)).c ≡ added =
      ap (λ (t : System). added_to t.right (a * p.axes) ((z - a) * p.axes) (arrays_at p (before p w₂)).c) solved
      ∙ ap (λ (t : List Float). added_to (solve_of (z - a) p.axes (system_at p (z - a) w₁)).system.right (a * p.axes) ((z - a) * p.axes)
      (arrays_at p t).c) front in (
        rw (f, l) (ap (λ (k : Fit). k.answered) (sym is)),
        ap (λ (u : List Float). splice p.controls (p.controls + p.count * p.axes) u w₂) same
            ∙ cells_done p (z - a) w₂ size w₀ _ front solved added lies
            ∙ ap (λ (k : Fit). cells_after p k w₀) (sym is),
      )
