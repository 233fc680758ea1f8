-- The enclosure theorems of end pairs: if x and y lie in their pairs, x + y, x - y, x * y and x / y lie in the pair that the operation
-- gives, where it gives one. Sums and differences rest on `directed_contains`, products and quotients on the step that they share,
-- `outward_contains`.
use mathlib.Core.Bool.{Bool, ◌&&◌, cond, false, true}
use mathlib.Core.List.{[], ◌∷◌}
use mathlib.Core.Path.{◌≡◌, refl, subst, sym}
use lib.Dec.{T}
use lib.Ieee.{Float, Format, div, lt, mul, neg, of_bits}
use lib.Ieee.Scale.{finite}
use lib.IntN.{pos}
use Rattle.fraction.specs.DirectedSum.{Downward, Upward, downward_sum, upward_sum}
use Rattle.fraction.specs.NextNumber.{next_down, next_up}
use Rattle.fraction.specs.Order.{le_one, le_two}
use Rattle.fraction.specs.Pair.{Between, Contains, Ends, add_pairs, divide_pairs, finite_ends, highest, highest_of, is_pair, largest_absolute, lowest_of, moved, multiply_pairs, none, outward, pair, point, subtract_pairs}
use Rattle.fraction.specs.Rational.{Above, ◌*q◌, ◌+q◌, ◌-q◌, ◌/q◌, ◌≤q◌, absolute, negq, ℚ, 𝟘}
use Rattle.fraction.specs.RationalRing.{rational_ring}
use Rattle.fraction.specs.Ring.{◌⊕◌, con, opposite, v0, v1, v2, v3}
use Rattle.fraction.specs.Rounding.{Rounded}
use Rattle.fraction.specs.Value.{absolute_float, value}
use Rattle.fraction.proofs.Corners.{Spans, product_spans, quotient_spans}
use Rattle.fraction.proofs.DirectedSum.{downward_sum_law, downward_unique, upward_sum_law, upward_unique}
use Rattle.fraction.proofs.Lowest.{four_finite, highest_among, highest_is, highest_of_four, lowest_among, lowest_of_four}
use Rattle.fraction.proofs.Neighbours.{highest_above, lowest_below, rounded_encoded}
use Rattle.fraction.proofs.Rational.{<q-≤q-trans, absolute_le, rational_order, ≤q-negated, ≤q-refl, ≤q-trans, ≤q-whole}
use Rattle.fraction.proofs.Rounding.{divide_rounded, mul_rounded, rounded_not_nan}
use Rattle.fraction.proofs.Value.{Encoded, above_zero, absolute_float_law, finite_bounds_above, finite_bounds_below, neg_finite, value_neg}

-- ---- where a step gives a pair
finite_ends_law : (a b : Float) → T (is_pair (finite_ends a b)) → T (finite a) × T (finite b) × (finite_ends a b ≡ pair a b)
unfolding finite_ends
finite_ends_law a b = go (finite a) (finite b)
  where
    go : (s t : Bool) → T (is_pair (cond (s && t) (pair a b) none)) → T s × T t × (cond (s && t) (pair a b) none ≡ pair a b)
    go true true h = (tt, tt, refl)
    go true false h = absurd h
    go false t h = absurd h

-- the pair that the shared step gives: its ends are finite before and after the move
pub record Outward (f : Format) (p q r s : Float) (e : Ends) : Type 0 where
  pub low_finite : T (finite (lowest_of p q r s))
  pub high_finite : T (finite (highest_of p q r s))
  pub low_moved_finite : T (finite (next_down f (lowest_of p q r s)))
  pub high_moved_finite : T (finite (next_up f (highest_of p q r s)))
  pub is : e ≡ pair (next_down f (lowest_of p q r s)) (next_up f (highest_of p q r s))

-- where the shared step gives a pair, it is that one
pub outward_is : (f : Format) (p q r s : Float) → T (is_pair (outward f p q r s)) → Outward f p q r s (outward f p q r s)
unfolding outward moved finite_ends
outward_is f p q r s = go (finite (lowest_of p q r s)) (finite (highest_of p q r s)) (λ t. t) (λ t. t)
  where
    go : (x y : Bool) → (T x → T (finite (lowest_of p q r s))) → (T y → T (finite (highest_of p q r s)))
        → T (is_pair (moved f (cond (x && y) (pair (lowest_of p q r s) (highest_of p q r s)) none)))
        → Outward f p q r s (moved f (cond (x && y) (pair (lowest_of p q r s) (highest_of p q r s)) none))
    go true true X Y h =
        let e = finite_ends_law (next_down f (lowest_of p q r s)) (next_up f (highest_of p q r s)) h in
        record { low_finite = X tt; high_finite = Y tt; low_moved_finite = e.0; high_moved_finite = e.1; is = e.2 }
    go true false X Y h = absurd h
    go false y X Y h = absurd h

-- ---- the shared step: it encloses all that lies between the lowest and the highest of the four exact combinations
module _ (f : Format) (p q r s : Float) (P Q R S z : ℚ) (rp : Rounded f p P) (rq : Rounded f q Q) (rr : Rounded f r R) (rs : Rounded f s S)
    (between : Spans P Q R S z) where
  lows_and_highs : (o : Outward f p q r s (outward f p q r s)) → Contains (pair (next_down f (lowest_of p q r s))
      (next_up f (highest_of p q r s))) z
  lows_and_highs o =
      let F = four_finite p q r s (rounded_not_nan f p P rp) (rounded_not_nan f q Q rq) (rounded_not_nan f r R rr)
      (rounded_not_nan f s S rs) o.low_finite o.high_finite in
      let ep = rounded_encoded f p P rp F.0 in
      let eq = rounded_encoded f q Q rq F.1 in
      let er = rounded_encoded f r R rr F.2 in
      let es = rounded_encoded f s S rs F.3 in
      let l = lowest_of p q r s in
      let h = highest_of p q r s in
      let ll = lowest_of_four p q r s F.0 F.1 F.2 F.3 in
      let hh = highest_of_four p q r s F.0 F.1 F.2 F.3 in
      let el = lowest_among (Encoded f) p q r s ep eq er es in
      let eh = highest_among (Encoded f) p q r s ep eq er es in
      let down : (x : Float) (X : ℚ) → Rounded f x X → T (finite x) → value l ≤q value x → value (next_down f l) ≤q X
      = λ x X R F k. finite_bounds_below (next_down f l) X o.low_moved_finite (lowest_below f l x X el R o.low_finite F k) in
      let up : (x : Float) (X : ℚ) → Rounded f x X → T (finite x) → value x ≤q value h → X ≤q value (next_up f h)
      = λ x X R F k. finite_bounds_above (next_up f h) X o.high_moved_finite (highest_above f h x X eh R o.high_finite F k) in
      record {
        low_finite = o.low_moved_finite;
        high_finite = o.high_moved_finite;
        above = between.low (value (next_down f l)) (down p P rp F.0 ll.0) (down q Q rq F.1 ll.1) (down r R rr F.2 ll.2)
            (down s S rs F.3 ll.3);
        below = between.high (value (next_up f h)) (up p P rp F.0 hh.0) (up q Q rq F.1 hh.1) (up r R rr F.2 hh.2)
            (up s S rs F.3 hh.3);
      }

  -- the four are the roundings of four exact combinations, and z lies between the lowest and the highest of these: z lies in the pair
  pub outward_contains : T (is_pair (outward f p q r s)) → Contains (outward f p q r s) z
  outward_contains h = let o = outward_is f p q r s h in subst (λ (e : Ends). Contains e z) (sym o.is) (lows_and_highs o)

-- ---- none
-- an operation that gives none where one side is none
pub record Strict (f : Ends → Ends → Ends) : Type 0 where
  pub left : (Y : Ends) → f none Y ≡ none
  pub right : (a b : Float) → f (pair a b) none ≡ none

pub add_strict : (f : Format) → Strict (add_pairs f)
unfolding add_pairs
add_strict f = record { left = λ Y. refl; right = λ a b. refl }

pub subtract_strict : (f : Format) → Strict (subtract_pairs f)
unfolding subtract_pairs
subtract_strict f = record { left = λ Y. refl; right = λ a b. refl }

pub multiply_strict : (f : Format) → Strict (multiply_pairs f)
unfolding multiply_pairs
multiply_strict f = record { left = λ Y. refl; right = λ a b. refl }

pub divide_strict : (f : Format) → Strict (divide_pairs f)
unfolding divide_pairs
divide_strict f = record { left = λ Y. refl; right = λ a b. refl }

-- ---- the four operations
-- what lies between two exact sums lies between the one downward and the other upward
directed_contains : (f : Format) (p q : Float) (P Q z : ℚ) → Downward f P p → Upward f Q q → P ≤q z → z ≤q Q → T (is_pair (finite_ends p q))
    → Contains (finite_ends p q) z
directed_contains f p q P Q z D U h k t =
    let e = finite_ends_law p q t in
    rw e.2 (record {
      low_finite = e.0;
      high_finite = e.1;
      above = ≤q-trans (value p) P z (finite_bounds_below p P e.0 D.not_above) h;
      below = ≤q-trans z Q (value q) k (finite_bounds_above q Q e.1 U.not_below);
    })

sum_order : (x y u v : ℚ) → x ≤q y → u ≤q v → x +q u ≤q y +q v
sum_order x y u v h k = le_two rational_ring ◌≤q◌ rational_order (x ∷ y ∷ u ∷ v ∷ []) (v0 ⊕ v2) (v1 ⊕ v3) (con (pos 1)) v0 v1 (con (pos 1))
    v2 v3 tt (≤q-whole 1) h (≤q-whole 1) k

-- x in X and y in Y: x + y is in X + Y, if that is a pair
pub add_contains : (f : Format) (X Y : Ends) (x y : ℚ) → Contains X x → Contains Y y → T (is_pair (add_pairs f X Y))
    → Contains (add_pairs f X Y) (x +q y)
unfolding add_pairs
add_contains f none Y x y h k t = absurd t
add_contains f (pair a b) none x y h k t = absurd t
add_contains f (pair a b) (pair c d) x y h k t =
    directed_contains f (downward_sum f a c) (upward_sum f b d) (value a +q value c) (value b +q value d) (x +q y)
    (downward_sum_law f a c h.low_finite k.low_finite) (upward_sum_law f b d h.high_finite k.high_finite)
    (sum_order (value a) x (value c) y h.above k.above) (sum_order x (value b) y (value d) h.below k.below) t

-- -y lies between the ends of -Y
negated : (a b : Float) (y : ℚ) → Between a b y → Between (neg b) (neg a) (negq y)
negated a b y h = record {
  low_finite = neg_finite b h.high_finite;
  high_finite = neg_finite a h.low_finite;
  above = rw (value_neg b h.high_finite) (≤q-negated y (value b) h.below);
  below = rw (value_neg a h.low_finite) (≤q-negated (value a) y h.above);
}

-- x in X and y in Y: x - y is in X - Y, if that is a pair
pub subtract_contains : (f : Format) (X Y : Ends) (x y : ℚ) → Contains X x → Contains Y y → T (is_pair (subtract_pairs f X Y))
    → Contains (subtract_pairs f X Y) (x -q y)
unfolding subtract_pairs add_pairs
subtract_contains f none Y x y h k t = absurd t
subtract_contains f (pair a b) none x y h k t = absurd t
subtract_contains f (pair a b) (pair c d) x y h k t = add_contains f (pair a b) (pair (neg d) (neg c)) x (negq y) h (negated c d y k) t

-- document 02, request 7, word for word: for finite ends, the pair of the sum is the largest number of the format not above a + c and the
-- smallest not below b + d, if both are finite; that of the difference, with a - d and b - c
module _ (f : Format) (a b c d l h : Float) (A : T (finite a)) (B : T (finite b)) (C : T (finite c)) (D : T (finite d)) where
  pub add_is : Downward f (value a +q value c) l → Upward f (value b +q value d) h → add_pairs f (pair a b) (pair c d) ≡ finite_ends l h
  unfolding add_pairs
  add_is L H = rw (
    downward_unique f (value a +q value c) (downward_sum f a c) l (downward_sum_law f a c A C) L,
    upward_unique f (value b +q value d) (upward_sum f b d) h (upward_sum_law f b d B D) H,
  )

  pub subtract_is : Downward f (value a -q value d) l → Upward f (value b -q value c) h
      → subtract_pairs f (pair a b) (pair c d) ≡ finite_ends l h
  unfolding subtract_pairs
  subtract_is L H =
      let low = subst (λ (z : ℚ). Downward f (value a +q z) (downward_sum f a (neg d))) (value_neg d D)
      (downward_sum_law f a (neg d) A (neg_finite d D)) in
      let high = subst (λ (z : ℚ). Upward f (value b +q z) (upward_sum f b (neg c))) (value_neg c C)
      (upward_sum_law f b (neg c) B (neg_finite c C)) in
      rw (
        downward_unique f (value a -q value d) (downward_sum f a (neg d)) l low L,
        upward_unique f (value b -q value c) (upward_sum f b (neg c)) h high H,
      )

-- x in X and y in Y: x * y is in X * Y, if that is a pair
pub multiply_contains : (f : Format) (X Y : Ends) (x y : ℚ) → Contains X x → Contains Y y → T (is_pair (multiply_pairs f X Y))
    → Contains (multiply_pairs f X Y) (x *q y)
unfolding multiply_pairs
multiply_contains f none Y x y h k t = absurd t
multiply_contains f (pair a b) none x y h k t = absurd t
multiply_contains f (pair a b) (pair c d) x y h k t =
    outward_contains f (mul f a c) (mul f a d) (mul f b c) (mul f b d) (value a *q value c) (value a *q value d) (value b *q value c)
    (value b *q value d) (x *q y)
    (mul_rounded f a c h.low_finite k.low_finite) (mul_rounded f a d h.low_finite k.high_finite)
    (mul_rounded f b c h.high_finite k.low_finite) (mul_rounded f b d h.high_finite k.high_finite)
    (product_spans x (value a) (value b) y (value c) (value d) h.above h.below k.above k.below) t

-- x in X and y in Y: x / y is in X / Y, if that is a pair
pub divide_contains : (f : Format) (X Y : Ends) (x y : ℚ) → Contains X x → Contains Y y → T (is_pair (divide_pairs f X Y))
    → Contains (divide_pairs f X Y) (x /q y)
unfolding divide_pairs
divide_contains f none Y x y h k t = absurd t
divide_contains f (pair a b) none x y h k t = absurd t
divide_contains f (pair a b) (pair c d) x y h k t = go (lt (of_bits f 0) c) (above_zero f c k.low_finite) t
  where
    go : (e : Bool) → (T e → Above (value c)) → T (is_pair (cond e (outward f (div f a c) (div f a d) (div f b c) (div f b d)) none))
        → Contains (cond e (outward f (div f a c) (div f a d) (div f b c) (div f b d)) none) (x /q y)
    go true A t =
        let C = A tt in
        let D = <q-≤q-trans 𝟘 y (value d) (<q-≤q-trans 𝟘 (value c) y C k.above) k.below in
        outward_contains f (div f a c) (div f a d) (div f b c) (div f b d) (value a /q value c) (value a /q value d) (value b /q value c)
        (value b /q value d) (x /q y)
        (divide_rounded f a c h.low_finite k.low_finite C) (divide_rounded f a d h.low_finite k.high_finite D)
        (divide_rounded f b c h.high_finite k.low_finite C) (divide_rounded f b d h.high_finite k.high_finite D)
        (quotient_spans x (value a) (value b) y (value c) (value d) h.above h.below C k.above k.below) t
    go false A t = absurd t

-- where X / Y is a pair, every y in Y is above 0
pub divisor_above : (f : Format) (X Y : Ends) (y : ℚ) → Contains Y y → T (is_pair (divide_pairs f X Y)) → Above y
unfolding divide_pairs
divisor_above f none Y y k t = absurd t
divisor_above f (pair a b) none y k t = absurd t
divisor_above f (pair a b) (pair c d) y k t = go (lt (of_bits f 0) c) (above_zero f c k.low_finite) t
  where
    go : (e : Bool) → (T e → Above (value c)) → T (is_pair (cond e (outward f (div f a c) (div f a d) (div f b c) (div f b d)) none))
        → Above y
    go true A t = <q-≤q-trans 𝟘 (value c) y (A tt) k.above
    go false A t = absurd t

-- a finite number lies in its own pair of equal ends
pub point_contains : (x : Float) → T (finite x) → Contains (point x) (value x)
point_contains x F = record { low_finite = F; high_finite = F; above = ≤q-refl (value x); below = ≤q-refl (value x) }

-- "the largest absolute end" of a pair bounds all that lies in it
pub largest_absolute_bounds : (a b : Float) (x : ℚ) → Between a b x → T (finite (largest_absolute a b))
    × (absolute x ≤q value (largest_absolute a b))
unfolding largest_absolute
largest_absolute_bounds a b x h =
    let A = absolute_float_law a h.low_finite in
    let B = absolute_float_law b h.high_finite in
    let m = highest (absolute_float a) (absolute_float b) in
    let H = highest_is (absolute_float a) (absolute_float b) A.0 B.0 in (
      H.is_finite,
      absolute_le x (value m)
          (≤q-trans (negq (value m)) (value a) x (≤q-trans (negq (value m)) (negq (value (absolute_float a))) (value a)
          (le_one rational_ring ◌≤q◌ rational_order (value m ∷ value (absolute_float a) ∷ []) (opposite v0) (opposite v1) (con (pos 1)) v1 v0
          tt (≤q-whole 1) H.first) A.1) h.above)
          (≤q-trans x (value b) (value m) h.below (≤q-trans (value b) (value (absolute_float b)) (value m) B.2 H.second)),
    )
