-- Lists written row after row.
use Rattle.std.specs.Prelude.{ℕ, zero, suc, ◌+◌, List, [], ◌∷◌, ◌++◌, length}
use Rattle.window.specs.Window.{splice}

module _ {A : Type 0} where
  -- f 0, f 1, .. f (n - 1), joined
  unfoldable pub join : ℕ → (ℕ → List A) → List A
  join zero f = []
  join (suc n) f = join n f ++ f n

  -- the list of f 0, f 1, .. f (n - 1)
  abbrev pub list_of : ℕ → (ℕ → A) → List A
  list_of n f = join n (λ j. f j ∷ [])

  -- n rows of d elements each: element j of row i is f i j
  unfoldable pub table : ℕ → ℕ → (ℕ → ℕ → A) → List A
  table n d f = join n (λ i. list_of d (f i))

  -- l with v from a on
  abbrev pub written : ℕ → List A → List A → List A
  written a v l = splice a (a + length v) v l
