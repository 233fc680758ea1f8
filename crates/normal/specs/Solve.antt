-- The source's `Normal::solve`, phase by phase. Where the source takes its differences in a cell, one after the other, they are taken in v,
-- and the cell is written once.
use Rattle.std.specs.Prelude.{ℕ, ◌+◌, ◌-◌, ◌*◌, min, Bool, true, false, not, ◌&&◌, ◌||◌, cond, List, [], ◌∷◌, set, Float, Result, Ok, Err}
use Rattle.std.specs.Float.{binary64}
use Rattle.std.specs.Float.Ieee.{sub, mul, div, le}
use Rattle.std.specs.Float.Ieee.Scale.{finite}
use Rattle.float.specs.Root.{sqrt_of}
use Rattle.arith.specs.Loop.{each, back, till, Step}
use Rattle.arith.specs.Loop.Step.{next, stop}
use Rattle.window.specs.Cells.{+0, at}
use Rattle.normal.specs.System.{System, with_band, with_right, with_scales}
use Rattle.normal.specs.declared.Unsolved.{Unsolved}
use Rattle.normal.specs.declared.Unsolved.TheVariants.{BadDiagonal, BadPivot, BadSolution}

-- `!x.is_finite()`, and where a number above 0 is asked for also `x <= 0.`
unfoldable pub unfit_of : Bool → Float → Bool
unfit_of positive x = not (finite x) || (positive && le x +0)

-- `iter().any(..)` of that test
unfoldable pub any_unfit_of : Bool → List Float → Bool
any_unfit_of positive [] = false
any_unfit_of positive (x ∷ l) = unfit_of positive x || any_unfit_of positive l

-- ---- the scales
-- `scales[i] = h[i][0].sqrt()`
unfoldable pub root_of : ℕ → System → System
root_of i s = with_scales s (set s.scales i (sqrt_of binary64 (at s.band (6 * i))))

-- the scales of all controls
unfoldable pub roots_of : ℕ → System → System
roots_of n s = each root_of 0 n s

-- ---- the scaled system
-- `self.h[i][k] /= scales[i] * scales[i - k]`
unfoldable pub scale_cell_of : ℕ → ℕ → System → System
scale_cell_of i k s =
    with_band s (set s.band (6 * i + k) (div binary64 (at s.band (6 * i + k)) (mul binary64 (at s.scales i)
    (at s.scales (i - k)))))

-- row i of the band: `for k in 0..=P.min(i)`
unfoldable pub scale_row_of : ℕ → System → System
scale_row_of i s = each (scale_cell_of i) 0 (min 5 i + 1) s

-- `self.rhs[i * self.d + axis] /= scale`
unfoldable pub divide_of : ℕ → ℕ → Float → ℕ → System → System
divide_of d i scale axis s = with_right s (set s.right (i * d + axis) (div binary64 (at s.right (i * d + axis)) scale))

-- row i of the right sides, by its own scale
unfoldable pub divide_row_of : ℕ → ℕ → System → System
divide_row_of d i s = each (divide_of d i (at s.scales i)) 0 d s

-- row i of both
unfoldable pub scale_both_of : ℕ → ℕ → System → System
scale_both_of d i s = divide_row_of d i (scale_row_of i s)

-- all rows
unfoldable pub scale_of : ℕ → ℕ → System → System
scale_of n d s = each (scale_both_of d) 0 n s

-- ---- the factor: H = L * transpose of L, row by row, L in H's place
-- `v -= self.h[i][i - k] * self.h[j][j - k]`
unfoldable pub reduce_of : List Float → ℕ → ℕ → ℕ → Float → Float
reduce_of h i j k v = sub binary64 v (mul binary64 (at h (6 * i + (i - k))) (at h (6 * j + (j - k))))

-- h[i][i - j] less the products of the columns before j: `for k in i.saturating_sub(P)..j`
unfoldable pub reduced_of : List Float → ℕ → ℕ → Float
reduced_of h i j = each (reduce_of h i j) (i - 5) j (at h (6 * i + (i - j)))

-- `self.h[i][i - j] = v / self.h[j][0]`, j below i
unfoldable pub eliminate_of : ℕ → ℕ → List Float → List Float
eliminate_of i j h = set h (6 * i + (i - j)) (div binary64 (reduced_of h i j) (at h (6 * j)))

-- row i up to its diagonal: `for j in i.saturating_sub(P)..i`
unfoldable pub eliminated_of : ℕ → List Float → List Float
eliminated_of i h = each (eliminate_of i) (i - 5) i h

-- whether every pivot was fit, and the band: as far as the first pivot that was not
pub record Factored : Type 0 where
  pub whole : Bool
  pub band : List Float

-- row i: j below i, then the pivot, which is tested and becomes its root
unfoldable pub pivot_of : ℕ → List Float → Step (List Float) Factored
pivot_of i h =
    let g = eliminated_of i h in
    cond (unfit_of true (reduced_of g i i)) (stop (record { whole = false; band = g }))
    (next (set g (6 * i) (sqrt_of binary64 (reduced_of g i i))))

-- no pivot was unfit
abbrev pub whole_of : List Float → Factored
whole_of h = record { whole = true; band = h }

-- all rows, or those up to the first pivot that is unfit
unfoldable pub factor_of : ℕ → List Float → Factored
factor_of n h = till pivot_of whole_of 0 n h

-- ---- forward substitution
-- `self.rhs[i * self.d + axis] -= self.h[i][k] * self.rhs[(i - k) * self.d + axis]`
unfoldable pub forward_term_of : ℕ → ℕ → ℕ → System → ℕ → Float → Float
forward_term_of d i axis s k v = sub binary64 v (mul binary64 (at s.band (6 * i + k)) (at s.right ((i - k) * d + axis)))

-- `for k in 1..=P.min(i)`
unfoldable pub forward_value_of : ℕ → ℕ → ℕ → System → Float
forward_value_of d i axis s = each (forward_term_of d i axis s) 1 (min 5 i + 1) (at s.right (i * d + axis))

-- `self.rhs[i * self.d + axis] /= self.h[i][0]`
unfoldable pub forward_cell_of : ℕ → ℕ → ℕ → System → System
forward_cell_of d i axis s = with_right s (set s.right (i * d + axis) (div binary64 (forward_value_of d i axis s) (at s.band (6 * i))))

-- row i
unfoldable pub forward_row_of : ℕ → ℕ → System → System
forward_row_of d i s = each (forward_cell_of d i) 0 d s

-- all rows, from the first
unfoldable pub forward_of : ℕ → ℕ → System → System
forward_of n d s = each (forward_row_of d) 0 n s

-- ---- back substitution
-- `self.rhs[i * self.d + axis] -= self.h[j][j - i] * self.rhs[j * self.d + axis]`
unfoldable pub back_term_of : ℕ → ℕ → ℕ → System → ℕ → Float → Float
back_term_of d i axis s j v = sub binary64 v (mul binary64 (at s.band (6 * j + (j - i))) (at s.right (j * d + axis)))

-- `for j in i + 1..(i + P + 1).min(n)`
unfoldable pub back_value_of : ℕ → ℕ → ℕ → ℕ → System → Float
back_value_of n d i axis s = each (back_term_of d i axis s) (i + 1) (min (i + 6) n) (at s.right (i * d + axis))

-- `self.rhs[i * self.d + axis] /= self.h[i][0]`
unfoldable pub back_cell_of : ℕ → ℕ → ℕ → ℕ → System → System
back_cell_of n d i axis s = with_right s (set s.right (i * d + axis) (div binary64 (back_value_of n d i axis s) (at s.band (6 * i))))

-- row i
unfoldable pub back_row_of : ℕ → ℕ → ℕ → System → System
back_row_of n d i s = each (back_cell_of n d i) 0 d s

-- all rows, from the last
unfoldable pub backward_of : ℕ → ℕ → System → System
backward_of n d s = back (back_row_of n d) 0 n s

-- ---- the solution of the scaled system, unscaled
unfoldable pub unscale_of : ℕ → ℕ → System → System
unscale_of n d s = each (divide_row_of d) 0 n s

-- ---- `solve`
-- document 01's number of the refusal, 0 where there is none; and what the arrays then hold: the solution in the right sides, or what the
-- work had come to
pub record SolveOutcome : Type 0 where
  pub number : ℕ
  pub system : System

-- once the band is factored; 11 for a solution that is not finite
unfoldable pub finish_of : ℕ → ℕ → System → SolveOutcome
finish_of n d s =
    let x = unscale_of n d (backward_of n d (forward_of n d s)) in
    record { number = cond (any_unfit_of false x.right) 11 0; system = x }

-- once the system is scaled; 10 for a pivot that is not finite or not above 0
unfoldable pub solve_scaled_of : ℕ → ℕ → System → SolveOutcome
solve_scaled_of n d s =
    let f = factor_of n s.band in
    let x = with_band s f.band in
    cond f.whole (finish_of n d x) (record { number = 10; system = x })

-- the whole; 9 for a scale that is not finite or not above 0
unfoldable pub solve_of : ℕ → ℕ → System → SolveOutcome
solve_of n d s =
    let r = roots_of n s in
    cond (any_unfit_of true r.scales) (record { number = 9; system = r }) (solve_scaled_of n d (scale_of n d r))

-- document 01's number for each refusal
abbrev pub refusal_number : Unsolved → ℕ
refusal_number BadDiagonal = 9
refusal_number BadPivot = 10
refusal_number BadSolution = 11

-- document 01's number for each answer, 0 where there is a solution
abbrev pub number_of : {A : Type 0} → Result A Unsolved → ℕ
number_of (Ok a) = 0
number_of (Err e) = refusal_number e
