-- Laws of the lowest and the highest of two floats, and of four.
use mathlib.Core.Bool.{Bool, cond, false, not, true}
use lib.Dec.{T}
use lib.Ieee.{Float, fin, inf, is_nan, lt, nan}
use lib.Ieee.Scale.{finite}
use Rattle.fraction.specs.Pair.{highest, highest_of, lowest, lowest_of}
use Rattle.fraction.specs.Rational.{◌≤q◌}
use Rattle.fraction.specs.Value.{value}
use Rattle.fraction.proofs.Rational.{≤q-refl, ≤q-trans}
use Rattle.fraction.proofs.Value.{value_le_of_lt, value_le_of_not_lt}

plus_infinity : Float → Bool
plus_infinity nan = false
plus_infinity (inf s) = not s
plus_infinity (fin s m e) = false

minus_infinity_law : Float → Bool
minus_infinity_law nan = false
minus_infinity_law (inf s) = s
minus_infinity_law (fin s m e) = false

finite_of : (x : Float) → T (not (is_nan x)) → T (not (plus_infinity x)) → T (not (minus_infinity_law x)) → T (finite x)
unfolding is_nan plus_infinity minus_infinity_law
finite_of nan n p q = n
finite_of (inf true) n p q = q
finite_of (inf false) n p q = p
finite_of (fin s m e) n p q = tt

finite_not_plus : (x : Float) → T (finite x) → T (not (plus_infinity x))
unfolding plus_infinity
finite_not_plus nan F = tt
finite_not_plus (inf s) F = absurd F
finite_not_plus (fin s m e) F = tt

finite_not_minus : (x : Float) → T (finite x) → T (not (minus_infinity_law x))
unfolding minus_infinity_law
finite_not_minus nan F = tt
finite_not_minus (inf s) F = absurd F
finite_not_minus (fin s m e) F = tt

highest_infinite : (x y : Float) → T (not (is_nan x)) → T (not (plus_infinity (highest x y))) → T (not (plus_infinity x))
    × T (not (plus_infinity y))
unfolding highest lt is_nan plus_infinity
highest_infinite nan y n h = absurd n
highest_infinite (inf true) nan n h = (tt, tt)
highest_infinite (inf true) (inf true) n h = (tt, tt)
highest_infinite (inf true) (inf false) n h = absurd h
highest_infinite (inf true) (fin t k d) n h = (tt, tt)
highest_infinite (inf false) nan n h = absurd h
highest_infinite (inf false) (inf true) n h = absurd h
highest_infinite (inf false) (inf false) n h = absurd h
highest_infinite (inf false) (fin t k d) n h = absurd h
highest_infinite (fin s m e) nan n h = (tt, tt)
highest_infinite (fin s m e) (inf true) n h = (tt, tt)
highest_infinite (fin s m e) (inf false) n h = absurd h
highest_infinite (fin s m e) (fin t k d) n h = (tt, tt)

lowest_infinite : (x y : Float) → T (not (is_nan x)) → T (not (minus_infinity_law (lowest x y))) → T (not (minus_infinity_law x))
    × T (not (minus_infinity_law y))
unfolding lowest lt is_nan minus_infinity_law
lowest_infinite nan y n h = absurd n
lowest_infinite (inf false) nan n h = (tt, tt)
lowest_infinite (inf false) (inf true) n h = absurd h
lowest_infinite (inf false) (inf false) n h = (tt, tt)
lowest_infinite (inf false) (fin t k d) n h = (tt, tt)
lowest_infinite (inf true) nan n h = absurd h
lowest_infinite (inf true) (inf true) n h = absurd h
lowest_infinite (inf true) (inf false) n h = absurd h
lowest_infinite (inf true) (fin t k d) n h = absurd h
lowest_infinite (fin s m e) nan n h = (tt, tt)
lowest_infinite (fin s m e) (inf true) n h = absurd h
lowest_infinite (fin s m e) (inf false) n h = (tt, tt)
lowest_infinite (fin s m e) (fin t k d) n h = (tt, tt)

either_not_nan : (b : Bool) (x y : Float) → T (not (is_nan x)) → T (not (is_nan y)) → T (not (is_nan (cond b x y)))
either_not_nan true x y n k = n
either_not_nan false x y n k = k

highest_not_nan : (x y : Float) → T (not (is_nan x)) → T (not (is_nan y)) → T (not (is_nan (highest x y)))
unfolding highest
highest_not_nan x y n k = either_not_nan (lt x y) y x k n

lowest_not_nan : (x y : Float) → T (not (is_nan x)) → T (not (is_nan y)) → T (not (is_nan (lowest x y)))
unfolding lowest
lowest_not_nan x y n k = either_not_nan (lt y x) y x k n

-- if the lowest and the highest of four, none of them a NaN, are finite, then so are the four
pub four_finite : (p q r s : Float) → T (not (is_nan p)) → T (not (is_nan q)) → T (not (is_nan r)) → T (not (is_nan s))
    → T (finite (lowest_of p q r s)) → T (finite (highest_of p q r s))
    → T (finite p) × T (finite q) × T (finite r) × T (finite s)
four_finite p q r s P Q R S L H =
    let h = highest_infinite (highest p q) (highest r s) (highest_not_nan p q P Q) (finite_not_plus (highest_of p q r s) H) in
    let l = lowest_infinite (lowest p q) (lowest r s) (lowest_not_nan p q P Q) (finite_not_minus (lowest_of p q r s) L) in
    let hpq = highest_infinite p q P h.0 in
    let hrs = highest_infinite r s R h.1 in
    let lpq = lowest_infinite p q P l.0 in
    let lrs = lowest_infinite r s R l.1 in
    (finite_of p P hpq.0 lpq.0, finite_of q Q hpq.1 lpq.1, finite_of r R hrs.0 lrs.0, finite_of s S hrs.1 lrs.1)

-- w is finite, and at most each of the two
pub record IsLowest (x y w : Float) : Type 0 where
  pub is_finite : T (finite w)
  pub first : value w ≤q value x
  pub second : value w ≤q value y

-- w is finite, and at least each of the two
pub record IsHighest (x y w : Float) : Type 0 where
  pub is_finite : T (finite w)
  pub first : value x ≤q value w
  pub second : value y ≤q value w

-- the lower of two finite floats
pub lowest_is : (x y : Float) → T (finite x) → T (finite y) → IsLowest x y (lowest x y)
unfolding lowest
lowest_is x y X Y = go (lt y x) (value_le_of_lt y x Y X) (value_le_of_not_lt x y X Y)
  where
    go : (b : Bool) → (T b → value y ≤q value x) → (T (not b) → value x ≤q value y) → IsLowest x y (cond b y x)
    go true l g = record { is_finite = Y; first = l tt; second = ≤q-refl (value y) }
    go false l g = record { is_finite = X; first = ≤q-refl (value x); second = g tt }

-- the higher of two finite floats
pub highest_is : (x y : Float) → T (finite x) → T (finite y) → IsHighest x y (highest x y)
unfolding highest
highest_is x y X Y = go (lt x y) (value_le_of_lt x y X Y) (value_le_of_not_lt y x Y X)
  where
    go : (b : Bool) → (T b → value x ≤q value y) → (T (not b) → value y ≤q value x) → IsHighest x y (cond b y x)
    go true l g = record { is_finite = Y; first = l tt; second = ≤q-refl (value y) }
    go false l g = record { is_finite = X; first = ≤q-refl (value x); second = g tt }

either : (P : Float → Type 0) (b : Bool) (x y : Float) → P x → P y → P (cond b x y)
either P true x y h k = h
either P false x y h k = k

-- the lowest and the highest of four are among the four: what holds of all four holds of them
pub lowest_among : (P : Float → Type 0) (p q r s : Float) → P p → P q → P r → P s → P (lowest_of p q r s)
unfolding lowest
lowest_among P p q r s a b c d = either P (lt (lowest r s) (lowest p q)) (lowest r s) (lowest p q) (either P (lt s r) s r d c)
    (either P (lt q p) q p b a)

pub highest_among : (P : Float → Type 0) (p q r s : Float) → P p → P q → P r → P s → P (highest_of p q r s)
unfolding highest
highest_among P p q r s a b c d = either P (lt (highest p q) (highest r s)) (highest r s) (highest p q) (either P (lt r s) s r d c)
    (either P (lt p q) q p b a)

-- the lowest of four finite floats is at most each of them, and the highest at least each
pub lowest_of_four : (p q r s : Float) → T (finite p) → T (finite q) → T (finite r) → T (finite s)
    → (value (lowest_of p q r s) ≤q value p) × (value (lowest_of p q r s) ≤q value q) × (value (lowest_of p q r s) ≤q value r)
    × (value (lowest_of p q r s) ≤q value s)
lowest_of_four p q r s P Q R S =
    let w = value (lowest_of p q r s) in
    let a = lowest_is p q P Q in
    let b = lowest_is r s R S in
    let c = lowest_is (lowest p q) (lowest r s) a.is_finite b.is_finite in (
      ≤q-trans w (value (lowest p q)) (value p) c.first a.first,
      ≤q-trans w (value (lowest p q)) (value q) c.first a.second,
      ≤q-trans w (value (lowest r s)) (value r) c.second b.first,
      ≤q-trans w (value (lowest r s)) (value s) c.second b.second,
    )

pub highest_of_four : (p q r s : Float) → T (finite p) → T (finite q) → T (finite r) → T (finite s)
    → (value p ≤q value (highest_of p q r s)) × (value q ≤q value (highest_of p q r s)) × (value r ≤q value (highest_of p q r s))
    × (value s ≤q value (highest_of p q r s))
highest_of_four p q r s P Q R S =
    let w = value (highest_of p q r s) in
    let a = highest_is p q P Q in
    let b = highest_is r s R S in
    let c = highest_is (highest p q) (highest r s) a.is_finite b.is_finite in (
      ≤q-trans (value p) (value (highest p q)) w a.first c.first,
      ≤q-trans (value q) (value (highest p q)) w a.second c.first,
      ≤q-trans (value r) (value (highest r s)) w b.first c.second,
      ≤q-trans (value s) (value (highest r s)) w b.second c.second,
    )
