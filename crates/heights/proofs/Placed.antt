-- Where a height stands in the slice.
use mathlib.Core.Path.{◌≡◌, sym, ap, ◌∙◌, subst}
use mathlib.Core.Bool.{Bool, true, false, cond, not}
use mathlib.Core.List.{List}
use Prim.Native.Nat.{ℕ, ◌+◌, ◌-◌, ◌*◌, ◌≤◌, ◌<◌}
use native.Mathlib.Omega.{arith}
use lib.Dec.{ltb}
use lib.IntN.{ℤ, pos}
use lib.ListN.{length, get_or}
use lib.Ieee.{Float}
use Rattle.arith.proofs.Rows.{row_end}
use Rattle.window.specs.Rows.{written}
use Rattle.window.proofs.Joined.{join_length, join_at, list_length, list_at}
use Rattle.window.proofs.Written.{splice_inside}
use Rattle.heights.specs.Controls.{AxisSet, controls_on, wholes_of, all_fit}
use Rattle.heights.specs.Height.{height_of}
use Rattle.heights.specs.Exact.{WithinHalf}
use Rattle.heights.specs.Heights.{segment_heights, all_heights, heights_in, outcome, EachWithinHalf}
use Rattle.heights.specs.Sets.{Sized}
use Rattle.heights.proofs.Exact.{height_within}

pub heights_length : (x : AxisSet) → length (all_heights x) ≡ 257 * x.segments
unfolding all_heights
heights_length x =
    join_length x.segments 257 (segment_heights x) (λ i l. list_length 257 (height_of (wholes_of (controls_on x i)))) ∙ omega arith

-- the height at step j of segment i
pub height_at : (x : AxisSet) (cells : List ℤ) (i j : ℕ) → i < x.segments → j ≤ 256
    → get_or (written 0 (all_heights x) cells) (257 * i + j) (pos 0) ≡ height_of (wholes_of (controls_on x i)) j
unfolding all_heights
height_at x cells i j l m =
    let f = height_of (wholes_of (controls_on x i)) in
    let n = heights_length x in
    let e : 257 * i + j - 0 ≡ i * 257 + j = omega arith in
    splice_inside 0 (0 + length (all_heights x)) (all_heights x) cells (pos 0) (omega arith) (257 * i + j) (omega arith) (omega (arith, n))
    ∙ ap (λ (p : ℕ). get_or (all_heights x) p (pos 0)) e
    ∙ join_at x.segments 257 (segment_heights x) (pos 0) (λ i l. list_length 257 (height_of (wholes_of (controls_on x i)))) i j l
    (omega arith)
    ∙ list_at 257 f (pos 0) j (omega arith)

-- what a call gives is within half
pub given_within : (x : AxisSet) (cells : List ℤ) → EachWithinHalf x (heights_in x cells)
unfolding heights_in
given_within x cells = go (ltb (length cells) (257 * x.segments)) (all_fit x)
  where
    go : (short fit : Bool) → EachWithinHalf x (cond short (outcome 19 cells) (cond (not fit) (outcome 28 cells)
        (outcome 0 (written 0 (all_heights x) cells))))
    go true fit = λ e. absurd (omega (arith, e))
    go false false = λ e. absurd (omega (arith, e))
    go false true = λ e i j l m.
        subst (WithinHalf (wholes_of (controls_on x i)) j) (sym (height_at x cells i j l m)) (height_within (wholes_of (controls_on x i)) j m)

-- a segment's breaks and coefficients lie in the slices
pub segment_inside : (n m at i : ℕ) (breaks coefficients : List Float) → Sized n m at breaks coefficients → i < n
    → (i + 1 < length breaks) × (6 * (i * m + at) + 6 ≤ length coefficients)
segment_inside n m at i breaks coefficients h l =
    let r = row_end i n m (n * m) l (omega arith) in
    (omega (arith, h.3), omega (arith, h.0, h.4, r))
