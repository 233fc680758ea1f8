-- The parameters of a request, as the source's `build` makes and tests them.
use Rattle.std.specs.Prelude.{◌≡◌, Bool, true, false, Option, MatchOption, not, ◌||◌, List, ℕ, zero, suc, ◌+◌, ◌-◌, ◌*◌, eqb, pos, length, Float}
use Rattle.std.specs.Float.{binary64}
use Rattle.std.specs.Float.Ieee.{add, div, le, mul, of_int, sub}
use Rattle.std.specs.Float.Ieee.Scale.{finite}
use Rattle.window.specs.Cells.{+0, at}
use Rattle.window.specs.Rows.{list_of}
use Rattle.float.specs.Root.{sqrt_of}
use Rattle.request.specs.declared.parameters.Spacing.{Spacing}
use Rattle.request.specs.declared.parameters.Spacing.TheVariants.{Listed, Even, Chord}
use Rattle.request.specs.Any.{any}

-- parameter i of n even ones: `i as f64 / (n - 1) as f64`
unfoldable pub even_of : ℕ → ℕ → Float
even_of n i = div binary64 (of_int binary64 (pos i)) (of_int binary64 (pos (n - 1)))

-- x 0 + .. + x (n - 1): from 0 on, the lowest first
unfoldable pub sum_of : ℕ → (ℕ → Float) → Float
sum_of zero x = +0
sum_of (suc n) x = add binary64 (sum_of n x) (x n)

-- the squared difference of row r between waypoint i, of d rows, and the next
unfoldable pub square_of : List Float → ℕ → ℕ → ℕ → Float
square_of points d i r =
    let x = sub binary64 (at points ((i + 1) * d + r)) (at points (i * d + r)) in mul binary64 x x

-- Document 02, request 3, "the root of the sum of squared differences, rows summed lowest first. Every row counts, also unsmoothed ones":
-- the chord from waypoint i to the next.
unfoldable pub chord_length : List Float → ℕ → ℕ → Float
chord_length points d i = sqrt_of binary64 (sum_of d (square_of points d i))

-- The parameters of n waypoints: those listed, which "override both" versions of the rule of spacing; version 1, even; version 2,
-- "parameters start at 0 and grow by" the chords.
unfoldable pub parameter_list : Spacing → List Float → List Float → ℕ → ℕ → List Float
parameter_list Listed list points d n = list
parameter_list Even list points d n = list_of n (even_of n)
parameter_list Chord list points d n = list_of n (λ i. sum_of i (chord_length points d))

-- `windows(2).any(|v| v[1] <= v[0])` of x 0 .. x (n - 1)
abbrev pub any_fall : ℕ → (ℕ → Float) → Bool
any_fall n x = any (n - 1) (λ i. le (x (i + 1)) (x i))

-- an answer that is the range, unless the parameters are bad
abbrev pub RangeUnless : Bool → Float → Option Float → Type 0
RangeUnless bad range r = MatchOption r (bad ≡ true) (λ x. (bad ≡ false) × (x ≡ range))

-- of the parameters p of n waypoints
module _ (p : List Float) (n : ℕ) where
  -- `let length = end - start`: the last parameter less the first
  unfoldable pub length_of : Float
  length_of = sub binary64 (at p (n - 1)) (at p 0)

  -- `(v - start) / length`
  unfoldable pub normalised_of : ℕ → Float
  normalised_of i = div binary64 (sub binary64 (at p i) (at p 0)) length_of

  -- 5, "parameters of wrong count, non-finite or not strictly rising":
  -- `parameters.len() != n || parameters.iter().any(|v| !v.is_finite()) || parameters.windows(2).any(|v| v[1] <= v[0])`
  unfoldable pub misplaced : Bool
  misplaced = not (eqb (length p) n) || any n (λ i. not (finite (at p i))) || any_fall n (at p)

  -- 6, "end - start not finite, or normalised parameters not strictly rising": `!length.is_finite() || s.windows(2).any(|v| v[1] <= v[0])`
  unfoldable pub unreliable : Bool
  unreliable = not (finite length_of) || any_fall n normalised_of
