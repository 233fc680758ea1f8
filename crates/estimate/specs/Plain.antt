-- The operations on floats, each rounded to nearest: what the estimate is computed with.
use Rattle.std.specs.Prelude.{ℕ, false, ◌≡◌, Float, List}
use Rattle.std.specs.Float.Ieee.{add, div, mul, neg, round, sub}
use Rattle.std.specs.Float.{binary64}
use Rattle.fraction.specs.Pair.{highest}
use Rattle.figure.specs.Operations.{Operations}
use Rattle.window.specs.Cells.{at}

abbrev pub plain : Operations Float
plain =
    record {
      number = λ x. x;
      whole = λ n. round binary64 false n 1;
      plus = add binary64;
      minus = sub binary64;
      times = mul binary64;
      over = div binary64;
    }

-- six numbers are f 0 .. f 5
abbrev pub SixAre : (ℕ → Float) → List Float → Type 0
SixAre f s = (at s 0 ≡ f 0) × (at s 1 ≡ f 1) × (at s 2 ≡ f 2) × (at s 3 ≡ f 3) × (at s 4 ≡ f 4) × (at s 5 ≡ f 5)

-- the larger of x and the size of y
abbrev pub larger_size : Float → Float → Float
larger_size x y = highest x (highest y (neg y))

-- the largest size of six numbers
abbrev pub largest_size : List Float → Float
largest_size s = larger_size (larger_size (larger_size (larger_size (larger_size (highest (at s 0) (neg (at s 0))) (at s 1)) (at s 2))
    (at s 3)) (at s 4)) (at s 5)
