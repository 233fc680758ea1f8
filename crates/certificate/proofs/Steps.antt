-- The steps of the walk over both lists. It visits an interval with a segment, and goes on to the next segment or to the next interval. The
-- pairs that it passes by share at most a point, so they leave the figure as it is: what the walk has left to do gives the figure, at every
-- step.
use mathlib.Core.Bool.{Bool, cond, false, not, true}
use mathlib.Core.Path.{◌∙◌, ◌≡◌, ap, refl, subst, sym}
use Prim.Native.Nat.{ℕ, zero, suc, ◌+◌, ◌-◌, ◌<◌, ◌≤◌}
use native.Mathlib.Decide.{dec_lt}
use native.Mathlib.Omega.{arith}
use lib.Dec.{T}
use lib.Ieee.{Float, lt}
use lib.Ieee.Scale.{finite}
use Rattle.arith.specs.Loop.{each, turns}
use Rattle.arith.proofs.Loops.{each_done, each_same, each_turn}
use Rattle.window.specs.Cells.{+0}
use Rattle.fraction.specs.Pair.{highest, lowest}
use Rattle.fraction.specs.Rational.{◌<q◌, ◌≤q◌, ℚ}
use Rattle.fraction.specs.Value.{value}
use Rattle.fraction.proofs.Lowest.{IsHighest, IsLowest, highest_is, lowest_is}
use Rattle.fraction.proofs.Rational.{<q-weaken, never, ≤q-trans}
use Rattle.fraction.proofs.Value.{value_le_of_not_lt}
use Rattle.fraction.proofs.Comparison.{lt_value}
use Rattle.figure.specs.Distance.{Rises}
use Rattle.figure.specs.Figure.{Axis, Figure, figure, figure_of, intersection, intersection_figure, larger, with_intersection}
use Rattle.figure.proofs.Rising.{last_is, rises_finite, rises_to}

-- ---- loops
-- turns that leave the state
turns_idle : {S : Type 0} (f : ℕ → S → S) (n a : ℕ) (s : S) → ((i : ℕ) → a ≤ i → i < a + n → f i s ≡ s) → turns f n a s ≡ s
unfolding turns
turns_idle f zero a s h = refl
turns_idle f (suc n) a s h = ap (turns f n (a + 1)) (h a (omega arith) (omega arith)) ∙ turns_idle f n (a + 1) s
    (λ i l k. h i (omega arith)
    (omega arith))

each_idle : {S : Type 0} (f : ℕ → S → S) (a b : ℕ) (s : S) → ((i : ℕ) → a ≤ i → i < b → f i s ≡ s) → each f a b s ≡ s
unfolding each
each_idle f a b s h = turns_idle f (b - a) a s (λ i l k. h i l (omega arith))

-- ---- what is left to do
-- the segments from m on, with interval i
abbrev segments_from : ℕ → Axis → ℕ → ℕ → Figure → Figure
segments_from depth x m i = each (with_intersection depth x i) m x.segments

-- the largest so far with those of the intervals from i on, in each the segments from m on
unfoldable pub rest : ℕ → Axis → ℕ → ℕ → Figure → Figure
rest depth x i m so_far = each (segments_from depth x m) i x.intervals so_far

-- at the start, the figure
pub rest_all : (depth : ℕ) (x : Axis) → rest depth x 0 0 (figure +0) ≡ figure_of depth x
unfolding rest figure_of
rest_all depth x = refl

-- after the last interval, nothing
pub rest_done : (depth : ℕ) (x : Axis) (i m : ℕ) (g : Figure) → x.intervals ≤ i → rest depth x i m g ≡ g
unfolding rest
rest_done depth x i m g l = each_done (segments_from depth x m) i x.intervals g l

module _ (depth : ℕ) (x : Axis) (breaks : Rises x.segments x.break) (parameters : Rises x.intervals x.parameter) where
  -- the values of break m and of parameter i
  abbrev a : ℕ → ℚ
  a m = value (x.break m)

  abbrev s : ℕ → ℚ
  s i = value (x.parameter i)

  abbrev break_finite : (m : ℕ) → m ≤ x.segments → T (finite (x.break m))
  break_finite = rises_finite x.segments x.break breaks

  abbrev parameter_finite : (i : ℕ) → i ≤ x.intervals → T (finite (x.parameter i))
  parameter_finite = rises_finite x.intervals x.parameter parameters

  module _ (i m : ℕ) (i< : i < x.intervals) (m< : m < x.segments) where
    -- interval i with segment m: left and right
    abbrev left : Float
    left = highest (x.break m) (x.parameter i)

    abbrev right : Float
    right = lowest (x.break (m + 1)) (x.parameter (i + 1))

    left_is : IsHighest (x.break m) (x.parameter i) left
    left_is = highest_is (x.break m) (x.parameter i) (break_finite m (omega arith)) (parameter_finite i (omega arith))

    right_is : IsLowest (x.break (m + 1)) (x.parameter (i + 1)) right
    right_is = lowest_is (x.break (m + 1)) (x.parameter (i + 1)) (break_finite (m + 1) (omega arith))
        (parameter_finite (i + 1) (omega arith))

    -- where right is at most left, the figure stays
    stays : (g : Figure) → value right ≤q value left → with_intersection depth x i m g ≡ g
    unfolding with_intersection intersection
    stays g h = go (lt left right) (λ t. never (value left) (value right) (lt_value left right left_is.is_finite right_is.is_finite
        t)
        h)
      where
        go : (b : Bool) → (T b → ⊥) → cond b (larger g (intersection_figure depth (intersection x i m))) g ≡ g
        go true h = absurd (h tt)
        go false h = refl

    -- the segment ends before the interval starts, or where it starts
    segment_before : (g : Figure) → a (m + 1) ≤q s i → with_intersection depth x i m g ≡ g
    segment_before g h = stays g (≤q-trans (value right) (a (m + 1)) (value left) right_is.first
        (≤q-trans (a (m + 1)) (s i) (value left) h left_is.second))

    -- the interval ends before the segment starts, or where it starts
    interval_before : (g : Figure) → s (i + 1) ≤q a m → with_intersection depth x i m g ≡ g
    interval_before g h = stays g (≤q-trans (value right) (s (i + 1)) (value left) right_is.second
        (≤q-trans (s (i + 1)) (a m) (value left) h left_is.first))

  module _ (i m : ℕ) (i< : i < x.intervals) (m< : m < x.segments) where
    -- ---- the segment ends inside the interval
    module _ (inside : T (lt (x.break (m + 1)) (x.parameter (i + 1)))) where
      inside_value : a (m + 1) <q s (i + 1)
      inside_value = lt_value (x.break (m + 1)) (x.parameter (i + 1)) (break_finite (m + 1) (omega arith))
          (parameter_finite (i + 1) (omega arith)) inside

      -- it shares at most a point with every later interval
      pub next_segment : (g : Figure) → rest depth x i m g ≡ rest depth x i (m + 1) (with_intersection depth x i m g)
      unfolding rest
      next_segment g =
          each_turn (segments_from depth x m) i x.intervals g i< ∙ ap (each (segments_from depth x m) (i + 1) x.intervals)
          (each_turn (with_intersection depth x i) m x.segments g m<)
          ∙ each_same (segments_from depth x m) (segments_from depth x (m + 1)) (i + 1) x.intervals (segments_from depth x (m + 1) i
          (with_intersection depth x i m g)) later
          ∙ sym (each_turn (segments_from depth x (m + 1)) i x.intervals (with_intersection depth x i m g) i<)
        where
          later : (j : ℕ) (g : Figure) → i + 1 ≤ j → j < x.intervals → segments_from depth x m j g ≡ segments_from depth x (m + 1) j g
          later j g l k =
              each_turn (with_intersection depth x j) m x.segments g m<
              ∙ ap (segments_from depth x (m + 1) j) (segment_before j m k m< g (≤q-trans (a (m + 1)) (s (i + 1)) (s j)
              (<q-weaken (a (m + 1)) (s (i + 1)) inside_value) (rises_to x.intervals x.parameter parameters (i + 1) (j - (i + 1)) j
              (omega arith) (omega arith))))

      -- and is not the last, which ends at 1
      pub segment_remains : m + 1 < x.segments
      segment_remains = elim (dec_lt (m + 1) x.segments) [
        | yes l ↦ l
        | no l ↦
            let e : x.segments ≡ m + 1 = omega arith in
            absurd (never (a (m + 1)) (s (i + 1)) inside_value
            (subst (λ (z : ℚ). s (i + 1) ≤q z) (last_is x.intervals x.parameter parameters
            ∙ sym (last_is x.segments x.break breaks) ∙ ap a e)
            (rises_to x.intervals x.parameter parameters (i + 1) (x.intervals - (i + 1)) x.intervals (omega arith)
            (omega arith))))
      ]

    -- ---- the segment does not end inside the interval: the interval shares at most a point with every later segment
    pub next_interval : (g : Figure) → T (not (lt (x.break (m + 1)) (x.parameter (i + 1)))) → rest depth x i m g
        ≡ rest depth x (i + 1) m (with_intersection depth x i m g)
    unfolding rest
    next_interval g outside =
        each_turn (segments_from depth x m) i x.intervals g i<
        ∙ ap (rest depth x (i + 1) m) (each_turn (with_intersection depth x i) m x.segments g m< ∙ each_idle
        (with_intersection depth x i) (m +
        1) x.segments (with_intersection depth x i m g) later)
      where
        later : (k : ℕ) → m + 1 ≤ k → k < x.segments → with_intersection depth x i k (with_intersection depth x i m g)
            ≡ with_intersection depth x i m g
        later k l h =
            interval_before i k i< h (with_intersection depth x i m g)
            (≤q-trans (s (i + 1)) (a (m + 1)) (a k) (value_le_of_not_lt (x.parameter (i + 1)) (x.break (m + 1))
            (parameter_finite (i + 1) (omega arith)) (break_finite (m + 1) (omega arith)) outside)
            (rises_to x.segments x.break breaks (m + 1) (k - (m + 1)) k (omega arith) (omega arith)))
