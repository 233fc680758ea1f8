-- One segment driven back: document 02, request 12.
use Rattle.std.specs.Prelude.{ℕ, zero, suc}
use Rattle.arith.specs.Operations.{Arith}
use Rattle.arith.specs.Loop.{each}
use Rattle.bspline.specs.Choose.{choose_of}

module _ {A : Type 0} (o : Arith A) where
  -- "(-1)^k"
  abbrev pub sign : ℕ → A
  sign zero = o.one
  sign (suc k) = o.minus o.zero (sign k)

  -- one term more: C(j,k)·p_j
  abbrev pub add_term : (ℕ → A) → ℕ → ℕ → A → A
  add_term p k j s = o.plus s (o.times (choose_of o j k) (p j))

  -- "coefficient k becomes (-1)^k times the sum over j from k to 5 of C(j,k)·p_j, added to 0 in rising j"
  unfoldable pub return_coefficient : (ℕ → A) → ℕ → A
  return_coefficient p k = o.times (sign k) (each (add_term p k) k 6 o.zero)
