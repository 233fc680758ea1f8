-- Finite sums and whole powers, over any commutative ring.
use Rattle.std.specs.Prelude.{suc, zero, ℕ, pos}
use Rattle.fraction.specs.Ring.{CommutativeRing}

module _ {A : Type 0} (R : CommutativeRing A) where
  -- f 0 + .. + f n
  abbrev pub sum : ℕ → (ℕ → A) → A
  sum zero f = f zero
  sum (suc n) f = R.add (f zero) (sum n (λ i. f (suc i)))

  -- u ^ k
  abbrev pub power : A → ℕ → A
  power u zero = R.of (pos 1)
  power u (suc k) = R.mul u (power u k)
