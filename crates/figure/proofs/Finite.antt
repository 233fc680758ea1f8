-- A figure is given only where the coefficients and the waypoints are finite: a number that is not finite is no pair, an operation with no
-- pair gives none, and every coefficient and waypoint takes part in some intersection.
use mathlib.Core.Bool.{Bool, ◌&&◌, cond, false, true}
use mathlib.Core.Path.{◌≡◌, subst}
use Prim.Native.Nat.{ℕ, zero, suc, ◌+◌, ◌-◌, ◌<◌, ◌≤◌}
use native.Mathlib.Decide.{dec_lt}
use native.Mathlib.Omega.{arith}
use lib.Dec.{T}
use lib.Ieee.{Float, binary64}
use lib.Ieee.Scale.{finite}
use Rattle.fraction.specs.Binomial.{choose}
use Rattle.fraction.specs.Pair.{Ends, add_pairs, divide_pairs, finite_ends, is_pair, multiply_pairs, none, pair, subtract_pairs}
use Rattle.fraction.specs.Rational.{◌<q◌}
use Rattle.fraction.specs.Value.{value}
use Rattle.fraction.proofs.Rational.{≤q-<q-trans}
use Rattle.figure.specs.Distance.{Rises}
use Rattle.figure.specs.Figure.{Axis, absolute_end, figure, figure_of, intersection}
use Rattle.figure.specs.Intersection.{Intersection, bernstein, difference_bernstein, difference_power, line_at_left, offset, power, raised, scale, total}
use Rattle.figure.specs.Operations.{ends}
use Rattle.fraction.proofs.Pair.{Strict, add_strict, divide_strict, multiply_strict, subtract_strict}
use Rattle.figure.proofs.Largest.{Known, given_at_least, intersection_pairs}
use Rattle.figure.proofs.Overlap.{located, overlap}
use Rattle.figure.proofs.Rising.{rises_strictly, some_step}

-- ---- an operation that gives a pair had two
sides : (f : Ends → Ends → Ends) → Strict f → (X Y : Ends) → T (is_pair (f X Y)) → T (is_pair X) × T (is_pair Y)
sides f S none Y t = absurd (subst (λ (e : Ends). T (is_pair e)) (S.left Y) t)
sides f S (pair a b) none t = (tt, subst (λ (e : Ends). T (is_pair e)) (S.right a b) t)
sides f S (pair a b) (pair c d) t = (tt, tt)

number_finite : (x : Float) → T (is_pair (finite_ends x x)) → T (finite x)
unfolding finite_ends
number_finite x = go (finite x)
  where
    go : (b : Bool) → T (is_pair (cond (b && b) (pair x x) none)) → T b
    go true t = tt
    go false t = t

total_terms : (first count : ℕ) (f : ℕ → Ends) → T (is_pair (total ends first count f)) → (k : ℕ) → k < count → T (is_pair (f (first + k)))
unfolding total
total_terms first zero f t k l = absurd (omega arith)
total_terms first (suc n) f t k l =
    let h = sides (add_pairs binary64) (add_strict binary64) (total ends first n f) (f (first + n)) t in
    elim (dec_lt k n) [
      | yes a ↦ total_terms first n f h.0 k a
      | no a ↦ let e : n ≡ k = omega arith in subst (λ (j : ℕ). T (is_pair (f (first + j)))) e h.1
    ]

module _ (x : Intersection) (t : T (is_pair (difference_bernstein ends x 0))) where
  power_zero : T (is_pair (difference_power ends x 0))
  unfolding bernstein
  power_zero =
      let h = total_terms 0 1 (λ j. divide_pairs binary64 (multiply_pairs binary64 (difference_power ends x j) (ends.whole (choose 0 j)))
      (ends.whole (choose 5 j))) t 0 (omega arith) in
      (sides (multiply_pairs binary64) (multiply_strict binary64) (difference_power ends x 0) (ends.whole 1)
      (sides (divide_pairs binary64) (divide_strict binary64) (multiply_pairs binary64 (difference_power ends x 0) (ends.whole 1)) (ends.whole 1)
      h).0).0

  parts : T (is_pair (power ends (λ k. ends.number (x.coefficient k)) (offset ends x) (scale ends x) 0)) × T (is_pair (line_at_left ends x))
  parts = sides (subtract_pairs binary64) (subtract_strict binary64) (power ends (λ k. ends.number (x.coefficient k)) (offset ends x) (scale ends x)
      0) (line_at_left ends x) power_zero

  coefficient_finite : (k : ℕ) → k < 6 → T (finite (x.coefficient k))
  unfolding power
  coefficient_finite k l =
      let f : ℕ → Ends = λ k. multiply_pairs binary64 (multiply_pairs binary64 (ends.whole (choose k 0)) (ends.number (x.coefficient k)))
      (raised ends (offset ends x) (k - 0)) in
      let e : 0 + k ≡ k = omega arith in
      let h = subst (λ (j : ℕ). T (is_pair (f j))) e
      (total_terms 0 6 f (sides (multiply_pairs binary64) (multiply_strict binary64) (total ends 0 6 f) (raised ends (scale ends x) 0) parts.0).0
      k
      l) in
      number_finite (x.coefficient k)
      (sides (multiply_pairs binary64) (multiply_strict binary64) (ends.whole (choose k 0)) (ends.number (x.coefficient k))
      (sides (multiply_pairs binary64) (multiply_strict binary64) (multiply_pairs binary64 (ends.whole (choose k 0))
      (ends.number (x.coefficient k)))
      (raised ends (offset ends x) (k - 0)) h).0).1

  waypoints : T (finite x.first) × T (finite x.second)
  waypoints =
      let D = subtract_pairs binary64 (ends.number x.second) (ends.number x.first) in
      let q = divide_pairs binary64 (subtract_pairs binary64 (ends.number x.left) (ends.number x.from))
      (subtract_pairs binary64 (ends.number x.to) (ends.number x.from)) in
      let h = sides (add_pairs binary64) (add_strict binary64) (ends.number x.first) (multiply_pairs binary64 q D) parts.1 in
      let g = sides (subtract_pairs binary64) (subtract_strict binary64) (ends.number x.second) (ends.number x.first)
      (sides (multiply_pairs binary64) (multiply_strict binary64) q D h.1).1 in
      (number_finite x.first h.0, number_finite x.second g.0)

has_pair : (e : Ends) → Known (absolute_end e) → T (is_pair e)
unfolding absolute_end
has_pair (pair a b) h = tt
has_pair none h = absurd h

module _ (x : Axis) (breaks : Rises x.segments x.break) (parameters : Rises x.intervals x.parameter) (depth : ℕ) (F : Float)
    (given : figure_of depth x ≡ figure F) where
  counted : (m i : ℕ) → m < x.segments → i < x.intervals → value (x.break m) <q value (x.parameter (i + 1))
      → value (x.parameter i) <q value (x.break (m + 1)) → T (is_pair (difference_bernstein ends (intersection x i m) 0))
  counted m i m< i< p q =
      has_pair (difference_bernstein ends (intersection x i m) 0) (intersection_pairs depth (intersection x i m) (value F)
      (given_at_least depth x F given i m i< m< (overlap x breaks parameters m i m< i< p q)) 0
      (omega arith))

  -- the six coefficients of every segment are finite
  pub coefficients_finite : (m k : ℕ) → m < x.segments → k ≤ 5 → T (finite (x.coefficient m k))
  unfolding intersection
  coefficients_finite m k m< l =
      let w = located x.segments x.break x.intervals x.parameter breaks parameters m m< in
      coefficient_finite (intersection x w.place m)
      (counted m w.place m< w.inside w.below (≤q-<q-trans (value (x.parameter w.place)) (value (x.break m))
      (value (x.break (m + 1))) w.above (rises_strictly x.segments x.break breaks m m<))) k (omega arith)

  ends_finite : (i : ℕ) → i < x.intervals → T (finite (x.waypoint i)) × T (finite (x.waypoint (i + 1)))
  unfolding intersection
  ends_finite i i< =
      let w = located x.intervals x.parameter x.segments x.break parameters breaks i i< in
      waypoints (intersection x i w.place)
      (counted w.place i w.inside i< (≤q-<q-trans (value (x.break w.place)) (value (x.parameter i))
      (value (x.parameter (i + 1))) w.above (rises_strictly x.intervals x.parameter parameters i i<)) w.below)

  -- every waypoint is finite
  pub waypoints_finite : (i : ℕ) → i ≤ x.intervals → T (finite (x.waypoint i))
  waypoints_finite i l = elim (dec_lt i x.intervals) [
    | yes h ↦ (ends_finite i h).0
    | no h ↦
        let positive = some_step x.intervals x.parameter parameters in
        let e : i - 1 + 1 ≡ i = omega arith in
        subst (λ (k : ℕ). T (finite (x.waypoint k))) e (ends_finite (i - 1) (omega arith)).1
  ]
