-- Pairs "this before that", and the orders that meet them: document 02, request 14, "Which lane first".
use Rattle.std.specs.Prelude.{◌≡◌, List, [], ℕ, ◌<◌, length, get_or}

-- A pair has two cells: the lane that is cut before, and the lane that waits for it.
abbrev pub Pairs : Type 0
Pairs = List (List ℕ)

-- the two lanes of pair i
abbrev pub before_of : Pairs → ℕ → ℕ
before_of pairs i = get_or (get_or pairs i []) 0 0

abbrev pub after_of : Pairs → ℕ → ℕ
after_of pairs i = get_or (get_or pairs i []) 1 0

-- the lane at place i of an order
abbrev pub lane_at : List ℕ → ℕ → ℕ
lane_at order i = get_or order i 0

-- lane a stands in the order before lane b
abbrev pub Before : List ℕ → ℕ → ℕ → Type 0
Before order a b = (i : ℕ) × (j : ℕ) × (i < j) × (j < length order) × (lane_at order i ≡ a) × (lane_at order j ≡ b)

-- "an order meets all pairs": it has each of the lanes numbered from 0 once, and in it each pair's first stands before its second
pub record Meets (lanes : ℕ) (pairs : Pairs) (order : List ℕ) : Type 0 where
  pub long : length order ≡ lanes
  pub lane : (i : ℕ) → i < lanes → lane_at order i < lanes
  pub once : (i j : ℕ) → i < j → j < lanes → lane_at order i ≡ lane_at order j → ⊥
  pub kept : (p : ℕ) → p < length pairs → Before order (before_of pairs p) (after_of pairs p)

-- Where the two orders differ, the first has the lower-numbered lane at the first place that differs.
pub record Lower (order other : List ℕ) : Type 0 where
  pub place : ℕ
  pub same : (i : ℕ) → i < place → lane_at order i ≡ lane_at other i
  pub lower : lane_at order place < lane_at other place

-- every pair of the first list stands in the second: neither the order of the pairs counts nor how often one stands there
abbrev pub Within : Pairs → Pairs → Type 0
Within pairs others =
    (i : ℕ) → i < length pairs → (j : ℕ) × (j < length others) × (get_or pairs i [] ≡ get_or others j [])
