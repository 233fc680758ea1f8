-- What the contracts of the code ask of knots and locations.
use Rattle.std.specs.Prelude.{◌≡◌, ℕ, ◌+◌, ◌<◌, ◌≤◌, true, not, T, List, [], ◌∷◌, length, is_nan, Float}
use Rattle.std.specs.Float.{binary64}
use Rattle.std.specs.Float.Ieee.{fits, lt}
use Rattle.std.specs.Float.Ieee.Scale.{finite}
use Rattle.arith.specs.Operations.{floats}
use Rattle.window.specs.Cells.{+0, at}

-- the knots t of m controls rise strictly from 0 to 1, the five before them and the five behind apart
pub record Rising (t : List Float) (m : ℕ) : Type 0 where
  pub six : 6 ≤ m
  pub long : length t ≡ m + 6
  pub first : at t 5 ≡ +0
  pub last : at t m ≡ floats.one
  pub number : (i : ℕ) → 5 ≤ i → i ≤ m → T (finite (at t i))
  pub held : (i : ℕ) → 5 ≤ i → i ≤ m → T (fits binary64 (at t i))
  pub rise : (i : ℕ) → 5 ≤ i → i < m → lt (at t i) (at t (i + 1)) ≡ true

-- each of a list's numbers is so
abbrev pub All : (Float → Type 0) → List Float → Type 0
All P [] = Unit {0}
All P (x ∷ l) = P x × All P l

-- an f64 that is no NaN
abbrev pub Number : Float → Type 0
Number x = T (fits binary64 x) × T (not (is_nan x))
