-- How `solve` ends, from what each phase left; and the numbers that it ends with.
use mathlib.Core.Path.{◌≡◌, refl}
use mathlib.Core.Bool.{Bool, true, false, cond}
use mathlib.Core.List.{List}
use Prim.Native.Nat.{ℕ}
use lib.Dec.{eqb}
use lib.Ieee.{Float}
use Rattle.normal.specs.declared.Unsolved.{Unsolved}
use Rattle.normal.specs.declared.Unsolved.TheVariants.{BadDiagonal, BadPivot, BadSolution}
use Rattle.normal.specs.System.{System, with_band}
use Rattle.normal.specs.Solve.{any_unfit_of, roots_of, scale_of, factor_of, forward_of, backward_of, unscale_of, finish_of, solve_scaled_of, solve_of, refusal_number}

-- no refusal has number 0
pub refusal_told : (e : Unsolved) → eqb (refusal_number e) 0 ≡ false
refusal_told BadDiagonal = refl
refusal_told BadPivot = refl
refusal_told BadSolution = refl

-- ---- the substitutions left x
module _ (n d : ℕ) (s : System) (x : System) (e : x ≡ unscale_of n d (backward_of n d (forward_of n d s))) where
  pub bad_solution : any_unfit_of false x.right ≡ true → finish_of n d s ≡ record { number = 11; system = x }
  unfolding finish_of
  bad_solution t = rw (← e, t)

  pub solution : any_unfit_of false x.right ≡ false → finish_of n d s ≡ record { number = 0; system = x }
  unfolding finish_of
  solution t = rw (← e, t)

-- ---- the factor left the band h
module _ (n d : ℕ) (s : System) (whole : Bool) (h : List Float) (p : whole ≡ (factor_of n s.band).whole)
    (q : h ≡ (factor_of n s.band).band) where
  pub bad_pivot : whole ≡ false → solve_scaled_of n d s ≡ record { number = 10; system = with_band s h }
  unfolding solve_scaled_of
  bad_pivot t = rw (← p, ← q, t)

  pub pivots : whole ≡ true → solve_scaled_of n d s ≡ finish_of n d (with_band s h)
  unfolding solve_scaled_of
  pivots t = rw (← p, ← q, t)

-- ---- the roots left r
module _ (n d : ℕ) (s : System) (r : System) (e : r ≡ roots_of n s) where
  pub bad_diagonal : any_unfit_of true r.scales ≡ true → solve_of n d s ≡ record { number = 9; system = r }
  unfolding solve_of
  bad_diagonal t = rw (← e, t)

  pub diagonal : any_unfit_of true r.scales ≡ false → solve_of n d s ≡ solve_scaled_of n d (scale_of n d r)
  unfolding solve_of
  diagonal t = rw (← e, t)

-- ---- the numbers: 0, 9, 10, 11
module _ (P : ℕ → Type 0) (none : P 0) (nine : P 9) (ten : P 10) (eleven : P 11) where
  finish_number : (n d : ℕ) (s : System) → P (finish_of n d s).number
  unfolding finish_of
  finish_number n d s = go (any_unfit_of false (unscale_of n d (backward_of n d (forward_of n d s))).right)
    where
      go : (b : Bool) → P (cond b 11 0)
      go true = eleven
      go false = none

  scaled_number : (n d : ℕ) (s : System) → P (solve_scaled_of n d s).number
  unfolding solve_scaled_of
  scaled_number n d s = go (factor_of n s.band).whole
    where
      x : System
      x = with_band s (factor_of n s.band).band

      go : (b : Bool) → P (cond b (finish_of n d x) (record { number = 10; system = x })).number
      go true = finish_number n d x
      go false = ten

  pub solve_number : (n d : ℕ) (s : System) → P (solve_of n d s).number
  unfolding solve_of
  solve_number n d s = go (any_unfit_of true (roots_of n s).scales)
    where
      go : (b : Bool) → P (cond b (record { number = 9; system = roots_of n s }) (solve_scaled_of n d (scale_of n d (roots_of n s)))).number
      go true = nine
      go false = scaled_number n d (scale_of n d (roots_of n s))
