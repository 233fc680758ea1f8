-- The cases of the book's definitions for an insertion: a new knot, and α.
use mathlib.Core.Path.{◌≡◌, ap}
use Prim.Native.Nat.{ℕ, ◌+◌, ◌≤◌, ◌<◌}
use native.Mathlib.Omega.{arith}
use borrow.Author.Tests.{le-leb, lt-leb, eq-eqb, ne_eqb}
use Rattle.fraction.specs.Rational.{ℚ, ◌-q◌, ◌/q◌, 𝟘, 𝟙}
use Rattle.book.specs.Insertion.{inserted_knot, alpha}

module _ (t : ℕ → ℚ) (u : ℚ) (k : ℕ) where
  -- the knots up to k are as they were
  pub knot_before : (i : ℕ) → i ≤ k → inserted_knot t u k i ≡ t i
  unfolding inserted_knot
  knot_before i h = rw (le-leb i k h)

  -- u itself
  pub knot_new : (i : ℕ) → i ≡ k + 1 → inserted_knot t u k i ≡ u
  unfolding inserted_knot
  knot_new i h = rw (lt-leb i k (omega arith), eq-eqb i (k + 1) h)

  -- the knots after it
  pub knot_after : (j i : ℕ) → j ≡ i + 1 → k < i → inserted_knot t u k j ≡ t i
  unfolding inserted_knot
  knot_after j i e h = rw (lt-leb j k (omega arith), ne_eqb j (k + 1) (λ g. omega arith)) (ap t (omega arith))

  -- α is 1 up to k - p
  pub alpha_one : (p i : ℕ) → i + p ≤ k → alpha t u k p i ≡ 𝟙
  unfolding alpha
  alpha_one p i h = rw (le-leb (i + p) k h)

  -- the quotient
  pub alpha_between : (p i : ℕ) → k < i + p → i ≤ k → alpha t u k p i ≡ (u -q t i) /q (t (i + p) -q t i)
  unfolding alpha
  alpha_between p i h g = rw (lt-leb (i + p) k h, le-leb i k g)

  -- 0 after k
  pub alpha_zero : (p i : ℕ) → k < i → alpha t u k p i ≡ 𝟘
  unfolding alpha
  alpha_zero p i h = rw (lt-leb (i + p) k (omega arith), lt-leb i k h)
