-- What holds of every fit: its number, the length of its controls, those outside its window, and where its intervals end.
use mathlib.Core.Path.{◌≡◌, refl, ◌∙◌}
use mathlib.Core.Bool.{Bool, true, false, cond}
use mathlib.Core.List.{List}
use Prim.Native.Nat.{ℕ, ◌+◌, ◌-◌, ◌*◌, ◌≤◌, ◌<◌}
use native.Mathlib.Omega.{arith}
use lib.Dec.{eqb}
use lib.ListN.{length, length-set}
use lib.Seq.{get_or-set_other}
use lib.Ieee.{Float, nan, binary64, add, le, lt}
use Rattle.arith.proofs.Loops.{each_keeps, each_runs}
use Rattle.window.specs.Cells.{at}
use Rattle.normal.specs.System.{new_of}
use Rattle.normal.specs.Solve.{SolveOutcome, solve_of}
use Rattle.normal.proofs.Outcomes.{solve_number}
use Rattle.fitting_rows.specs.Arrays.{Arrays}
use Rattle.fitting_rows.specs.Samples.{below}
use Rattle.fitting_rows.specs.Pieces.{at_or_below}
use Rattle.bspline.proofs.PointWithin.{point_within}
use Rattle.fit.specs.Assembly.{low, high, assembled_of}
use Rattle.fit.specs.Fit.{Fit, answer, add_turn, added_to, solved_of, fit_of}

-- the solution is added in place, in the cells of the window
added_length : (delta : List Float) (from count : ℕ) (c : List Float) → length (added_to delta from count c) ≡ length c
unfolding added_to add_turn
added_length delta from count c =
    each_keeps (λ (l : List Float). length l ≡ length c) (add_turn delta from) 0 count c (λ i l h. simp length-set h) refl

added_outside : (delta : List Float) (from count : ℕ) (c : List Float) (i : ℕ) → ((k : ℕ) → k < count → i ≡ from + k → ⊥)
    → at (added_to delta from count c) i ≡ at c i
unfolding added_to add_turn
added_outside delta from count c i out =
    each_runs (λ (k : ℕ) (l : List Float). at l i ≡ at c i) (add_turn delta from) 0 count c (omega arith)
    (λ k l a b h. get_or-set_other l (from + k) i (add binary64 (at l (from + k)) (at delta k)) nan (out k b) ∙ h) refl

module _ (x : Arrays) (a z : ℕ) where
  -- the two ways in which a fit ends
  abbrev fine : ℕ → SolveOutcome → Fit
  fine rows o =
      record {
        answered = answer 0 (below x.s (low x a z)) (at_or_below x.s (high x a z)) rows;
        controls = added_to o.system.right (a * x.d) ((z - a) * x.d) x.c;
        system = o.system;
      }

  abbrev refused : SolveOutcome → Fit
  refused o = record { answered = answer o.number 0 0 0; controls = x.c; system = o.system }

  -- what holds of both, for the rows that were assembled and what `solve` gave, holds of the fit
  pub fit_either : (strength : Float) (P : Fit → Type 0) → let n = assembled_of x a z strength (new_of (z - a) x.d) in
      let o = solve_of (z - a) x.d n.system in
      P (fine n.rows o) → P (refused o) → P (fit_of x a z strength)
  unfolding fit_of solved_of
  fit_either strength P h k =
      go (eqb (solve_of (z - a) x.d (assembled_of x a z strength (new_of (z - a) x.d)).system).number 0)
    where
      go : (b : Bool) → let n = assembled_of x a z strength (new_of (z - a) x.d) in let o = solve_of (z - a) x.d n.system in
          P (cond b (fine n.rows o) (refused o))
      go true = h
      go false = k

  module _ (strength : Float) where
    -- 0, 9, 10, 11
    pub fit_number : (P : ℕ → Type 0) → P 0 → P 9 → P 10 → P 11 → P (fit_of x a z strength).answered.number
    fit_number P none nine ten eleven =
        fit_either strength (λ f. P f.answered.number) none (solve_number P none nine ten eleven (z - a) x.d _)

    -- the new controls stand in the place of the old
    pub fit_length : length (fit_of x a z strength).controls ≡ length x.c
    fit_length = fit_either strength (λ f. length f.controls ≡ length x.c) (added_length _ (a * x.d) ((z - a) * x.d) x.c) refl

    -- and outside the window they are the old
    pub fit_outside : (i : ℕ) → ((k : ℕ) → k < (z - a) * x.d → i ≡ a * x.d + k → ⊥) → at (fit_of x a z strength).controls i ≡ at x.c i
    fit_outside i out =
        fit_either strength (λ f. at f.controls i ≡ at x.c i) (added_outside _ (a * x.d) ((z - a) * x.d) x.c i out) refl

    -- the intervals that it hands to the audit lie within the samples
    pub fit_reach : ((fit_of x a z strength).answered.first ≤ length x.s) × ((fit_of x a z strength).answered.last ≤ length x.s)
    fit_reach =
        fit_either strength (λ f. (f.answered.first ≤ length x.s) × (f.answered.last ≤ length x.s))
        (point_within nan (λ v. lt v (low x a z)) x.s, point_within nan (λ v. le v (high x a z)) x.s) (omega arith, omega arith)
