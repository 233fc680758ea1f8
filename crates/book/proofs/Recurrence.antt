-- Laws of the recurrence for the basis functions: its two terms, what it looks at, and where it is 0.
use mathlib.Core.Path.{◌≡◌, refl}
use mathlib.Core.List.{[], ◌∷◌}
use Prim.Native.Nat.{ℕ, zero, suc, ◌+◌, ◌≤◌, ◌<◌}
use native.Mathlib.Omega.{arith}
use borrow.Author.Tests.{eq-eqb, ne_eqb}
use lib.IntN.{pos}
use Rattle.fraction.specs.Rational.{ℚ, ◌+q◌, ◌*q◌, 𝟘, 𝟙, ◌-q◌, ◌/q◌}
use Rattle.fraction.specs.RationalRing.{rational_ring}
use Rattle.fraction.specs.Ring.{con, ◌⊕◌, ◌⊗◌, solve, v0, v1}
use Rattle.book.specs.Basis.{basis, on_span}

module _ (t : ℕ → ℚ) (first : ℕ → ℚ) (u : ℚ) where
  -- what N_{i,p} contributes to N_{i,p+1}
  abbrev pub rising : ℕ → ℕ → ℚ
  rising p i = (u -q t i) /q (t (i + suc p) -q t i) *q basis t first u p i

  -- and to N_{i-1,p+1}
  abbrev pub falling : ℕ → ℕ → ℚ
  falling p i = (t (i + suc p) -q u) /q (t (i + suc p) -q t i) *q basis t first u p i

  -- eq. 2.5 by these two
  pub basis_step : (p i : ℕ) → basis t first u (suc p) i ≡ rising p i +q falling p (i + 1)
  unfolding basis
  basis_step p i = let e : i + suc p + 1 ≡ i + 1 + suc p = omega arith in rw e

  -- N_{i,p} is 0 where N_{i,0} to N_{i+p,0} are
  basis_zero : (p i : ℕ) → ((m : ℕ) → i ≤ m → m ≤ i + p → first m ≡ 𝟘) → basis t first u p i ≡ 𝟘
  unfolding basis
  basis_zero zero i h = h i (omega arith) (omega arith)
  basis_zero (suc p) i h =
      let a = basis_zero p i (λ m l g. h m l (omega arith)) in
      let b = basis_zero p (i + 1) (λ m l g. h m (omega arith) (omega arith)) in
      rw (a, b) (solve rational_ring (((u -q t i) /q (t (i + suc p) -q t i)) ∷ ((t (i + suc p + 1) -q u) /q (t (i + suc p + 1) -q t (i + 1)))
      ∷ []) (v0 ⊗ con (pos 0) ⊕ v1 ⊗ con (pos 0)) (con (pos 0)) tt)

-- N_{i,p} looks at the knots i to i + p + 1
pub basis_knots : (t t' : ℕ → ℚ) (first : ℕ → ℚ) (u : ℚ) (p i : ℕ) → ((m : ℕ) → i ≤ m → m ≤ i + p + 1 → t m ≡ t' m) → basis t first u p i
    ≡ basis t' first u p i
unfolding basis
basis_knots t t' first u zero i h = refl
basis_knots t t' first u (suc p) i h =
    rw (
      h (i + suc p + 1) (omega arith) (omega arith),
      h (i + suc p) (omega arith) (omega arith),
      h (i + 1) (omega arith) (omega arith),
      h i (omega arith) (omega arith),
      basis_knots t t' first u p i (λ m a b. h m a (omega arith)),
      basis_knots t t' first u p (i + 1) (λ m a b. h m (omega arith) (omega arith)),
    )

-- and at N_{i,0} to N_{i+p,0}
pub basis_first : (t : ℕ → ℚ) (first first' : ℕ → ℚ) (u : ℚ) (p i : ℕ) → ((m : ℕ) → i ≤ m → m ≤ i + p → first m ≡ first' m)
    → basis t first u p i ≡ basis t first' u p i
unfolding basis
basis_first t first first' u zero i h = h i (omega arith) (omega arith)
basis_first t first first' u (suc p) i h =
    rw (
      basis_first t first first' u p i (λ m a b. h m a (omega arith)),
      basis_first t first first' u p (i + 1)
          (λ m a b. h m (omega arith) (omega arith)),
    )

-- ---- relative to a span
-- 1 at the span
pub on_here : (span : ℕ) → on_span span span ≡ 𝟙
unfolding on_span
on_here span = rw (eq-eqb span span refl)

-- 0 elsewhere
pub on_other : (span i : ℕ) → (i ≡ span → ⊥) → on_span span i ≡ 𝟘
unfolding on_span
on_other span i h = rw (ne_eqb i span h)

-- N_{i,p} is 0 on the spans before i
pub before_support : (t : ℕ → ℚ) (span : ℕ) (u : ℚ) (p i : ℕ) → span < i → basis t (on_span span) u p i ≡ 𝟘
before_support t span u p i h = basis_zero t (on_span span) u p i (λ m a b. on_other span m (λ e. omega arith))

-- and on those after i + p
pub after_support : (t : ℕ → ℚ) (span : ℕ) (u : ℚ) (p i : ℕ) → i + p < span → basis t (on_span span) u p i ≡ 𝟘
after_support t span u p i h = basis_zero t (on_span span) u p i (λ m a b. on_other span m (λ e. omega arith))
