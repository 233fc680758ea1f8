-- Six Bernstein coefficients, "split into two halves by de Casteljau's midpoints, in the same end arithmetic (add, then divide by 2)":
-- document 02, request 8.
use Rattle.std.specs.Prelude.{ℕ, zero, suc, ◌-◌}
use Rattle.figure.specs.Operations.{Operations}

module _ {A : Type 0} (o : Operations A) where
  -- "add, then divide by 2"
  abbrev pub midpoint : A → A → A
  midpoint a b = o.over (o.plus a b) (o.whole 2)

  -- Level r of de Casteljau's triangle, at i: level 0 are the coefficients, each further level has the midpoints of neighbours.
  unfoldable pub level : ℕ → (ℕ → A) → ℕ → A
  level zero c i = c i
  level (suc r) c i = midpoint (level r c i) (level r c (suc i))

  -- The triangle's first edge and its last one: coefficient k of the left and of the right half.
  abbrev pub left_half : (ℕ → A) → ℕ → A
  left_half c k = level k c 0

  abbrev pub right_half : (ℕ → A) → ℕ → A
  right_half c k = level (5 - k) c k
