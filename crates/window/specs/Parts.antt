-- Several arrays that lie in one slice, one after the other.
use Rattle.std.specs.Prelude.{ℕ, zero, suc, ◌+◌, List, [], ◌∷◌, ◌++◌, length}

module _ {A : Type 0} where
  -- the arrays, joined
  unfoldable pub joined : List (List A) → List A
  joined [] = []
  joined (p ∷ ps) = p ++ joined ps

  -- where array i starts
  unfoldable pub offset : List (List A) → ℕ → ℕ
  offset ps zero = 0
  offset [] (suc i) = 0
  offset (p ∷ ps) (suc i) = length p + offset ps i
