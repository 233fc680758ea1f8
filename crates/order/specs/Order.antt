-- The cutting order: document 02, request 14, "the cutting order that takes the lowest-numbered ready lane each time".
use Rattle.std.specs.Prelude.{Bool, false, not, ◌&&◌, ◌||◌, cond, List, [], ◌∷◌, ◌++◌, ℕ, zero, suc, eqb, ltb, length}
use Rattle.std.proofs.Math.Option.{Option, some, none}
use Rattle.arith.specs.First.{first_of, every}
use Rattle.order.specs.Pairs.{Pairs, before_of, after_of}

-- whether the lane stands in the list
unfoldable pub among : List ℕ → ℕ → Bool
among [] lane = false
among (l ∷ list) lane = eqb l lane || among list lane

-- pair i does not hold the lane back: it speaks of another lane, or its first lane is cut
abbrev pub passes : Pairs → List ℕ → ℕ → ℕ → Bool
passes pairs cut lane i = not (eqb (after_of pairs i) lane) || among cut (before_of pairs i)

-- "ready": not cut, and every lane that has to come before it is
abbrev pub ready : Pairs → List ℕ → ℕ → Bool
ready pairs cut lane = not (among cut lane) && every (length pairs) (passes pairs cut lane)

-- the lowest-numbered ready lane after these; the number of lanes where none is ready
abbrev pub next_of : ℕ → Pairs → List ℕ → ℕ
next_of lanes pairs cut = first_of lanes (ready pairs cut)

-- the lanes that are cut, and then as many places as are left, each with the lowest-numbered ready lane; none where no lane is ready for a
-- place
unfoldable pub order_from : ℕ → ℕ → Pairs → List ℕ → Option (List ℕ)
order_from zero lanes pairs cut = some cut
order_from (suc left) lanes pairs cut =
    cond (ltb (next_of lanes pairs cut) lanes) (order_from left lanes pairs (cut ++ (next_of lanes pairs cut ∷ []))) none

-- the cutting order of the lanes numbered from 0; none where there is a ring
abbrev pub order_of : ℕ → Pairs → Option (List ℕ)
order_of lanes pairs = order_from lanes lanes pairs []
