-- Sets of lanes as the code has them: a number of 64 bits, of which bit l is 1 where lane l is in the set.
use Rattle.std.specs.Prelude.{Bool, List, ◌≡◌, ℕ, ◌/◌, ◌%◌, ◌^◌, ◌<◌, eqb, length}
use Rattle.order.specs.Pairs.{Pairs, before_of, after_of}
use Rattle.order.specs.Order.{among}

-- bit l of the set is 1
unfoldable pub held : ℕ → ℕ → Bool
held set l = eqb (set / 2 ^ l % 2) 1

-- the set has the lanes of the list, of those that fit it
abbrev pub SetOf : List ℕ → ℕ → Type 0
SetOf list set = (l : ℕ) → l < 64 → held set l ≡ among list l

-- the lanes of every pair fit a set
abbrev pub Fitting : Pairs → Type 0
Fitting pairs = (i : ℕ) → i < length pairs → (before_of pairs i < 64) × (after_of pairs i < 64)
