-- The answer to a call, and what the lent slice holds after it: document 02, request 14.
use Rattle.std.specs.Prelude.{◌≡◌, Bool, true, false, ◌&&◌, ◌||◌, not, cond, List, ◌++◌, ◌⊎◌, ℕ, ◌≤◌, ltb, length, take, drop, Result, Ok, Err}
use Rattle.std.proofs.Math.Option.{Option, some, none}
use Rattle.arith.specs.First.{every}
use Rattle.order.specs.declared.Refusal.{Refusal}
use Rattle.order.specs.declared.Refusal.TheVariants.{AboveLimits, NoSuchLane, TooShort, Ring}
use Rattle.order.specs.Pairs.{Pairs, before_of, after_of, Meets, Lower}
use Rattle.order.specs.Order.{order_of}

-- the answer's number in the papers; 0 says that there is an order
abbrev pub number_of : Result (Unit {0}) Refusal → ℕ
number_of (Ok _) = 0
number_of (Err AboveLimits) = 18
number_of (Err NoSuchLane) = 31
number_of (Err TooShort) = 19
number_of (Err Ring) = 32

-- the answer's number, and the cells of the lent slice after it
pub record Outcome : Type 0 where
  pub number : ℕ
  pub cells : List ℕ

abbrev pub outcome : ℕ → List ℕ → Outcome
outcome n cells = record { number = n; cells = cells }

-- "up to 64 lanes, numbered from 0, and up to 1,024 pairs"; repeated pairs are counted as they are handed in
abbrev pub above_limits : ℕ → Pairs → Bool
above_limits lanes pairs = ltb 64 lanes || ltb 1024 (length pairs)

-- both lanes of every pair are below the number of lanes
abbrev pub in_range : ℕ → Pairs → Bool
in_range lanes pairs = every (length pairs) (λ i. ltb (before_of pairs i) lanes && ltb (after_of pairs i) lanes)

-- the order in the first cells, "cells past the last lane are untouched"; a ring, and "a refusal touches none"
abbrev pub placed : Option (List ℕ) → List ℕ → Outcome
placed none cells = outcome 32 cells
placed (some order) cells = outcome 0 (order ++ drop (length order) cells)

-- whether there is no order
abbrev pub is_ring : Option (List ℕ) → Bool
is_ring none = true
is_ring (some order) = false

-- "Checks: counts above the limits 18, a lane number out of range 31, slice too short 19, a ring 32, in that order."
unfoldable pub cutting_order_of : ℕ → Pairs → List ℕ → Outcome
cutting_order_of lanes pairs cells =
    cond (above_limits lanes pairs) (outcome 18 cells)
    (cond (not (in_range lanes pairs)) (outcome 31 cells)
    (cond (ltb (length cells) lanes) (outcome 19 cells)
    (placed (order_of lanes pairs) cells)))

-- What holds of a call's outcome: an order that is given meets all pairs, and any other that does so has a higher-numbered lane at the
-- first place that differs; "It is refused for a ring if no order meets all pairs, and never otherwise."
pub record Promised (lanes : ℕ) (pairs : Pairs) (cells : List ℕ) (o : Outcome) : Type 0 where
  pub meets : o.number ≡ 0 → Meets lanes pairs (take lanes o.cells)
  pub least : o.number ≡ 0 → (other : List ℕ) → Meets lanes pairs other
      → (take lanes o.cells ≡ other) ⊎ Lower (take lanes o.cells) other
  pub ring : o.number ≡ 32 → (other : List ℕ) → Meets lanes pairs other → ⊥
  pub refused : above_limits lanes pairs ≡ false → in_range lanes pairs ≡ true → lanes ≤ length cells
      → ((other : List ℕ) → Meets lanes pairs other → ⊥) → o.number ≡ 32
