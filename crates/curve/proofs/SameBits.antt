-- Of two f64s, one of which is above 0, `==` tells whether their bits are the same; the difference of two numbers is above 0 exactly where
-- the first is below the second; so one test of a width tells both that its breaks rise and that it has the bits of their difference.
use mathlib.Core.Bool.{Bool, beq, true, false, not, cond, ◌&&◌, or-true}
use mathlib.Core.List.{[], ◌∷◌}
use mathlib.Core.Path.{◌≡◌, ◌∙◌, ap, refl, subst, sym}
use Prim.Native.Nat.{ℕ, ◌*◌}
use borrow.Author.Tests.{eq-eqb, ne_eqb}
use lib.Dec.{T, eqb}
use lib.IntN.{ℤ, pos}
use lib.Ieee.{Float, add, binary64, down, eq, fin, fits, inf, le, lt, nan, neg, of_bits, sub, to_bits, up}
use lib.Ieee.Bits.{of_bits-fits, of_bits-to_bits}
use lib.Ieee.Fits.{sub-fits}
use lib.Ieee.Positive.{above, positive, positive-finite}
use lib.Ieee.Scale.{finite}
use Rattle.arith.proofs.FloatOrder.{le_not_lt, lt_le_trans}
use Rattle.arith.proofs.Truth.{clash, never}
use Rattle.fraction.specs.DirectedSum.{Downward}
use Rattle.fraction.specs.Rational.{ℚ, ◌+q◌, negq, at_mostq, ◌≤q◌, 𝟘}
use Rattle.fraction.specs.RationalRing.{rational_ring}
use Rattle.fraction.specs.Ring.{◌⊖◌, con, solve, v0}
use Rattle.fraction.specs.Value.{value}
use Rattle.fraction.proofs.Comparison.{eq_finite, eq_value, positive_above}
use Rattle.fraction.proofs.Difference.{difference_above}
use Rattle.fraction.proofs.DirectedSum.{downward_unique}
use Rattle.fraction.proofs.OwnRounding.{rounds_below}
use Rattle.fraction.proofs.Rational as rational
use Rattle.fraction.proofs.Rounding.{sub_rounded}
use Rattle.fraction.proofs.Value.{above_zero, plus_zero, value_le_of_not_lt}
use Rattle.window.specs.Cells.{+0}

-- ---- a value other than 0 is the value of one f64
own : (x : Float) → T (fits binary64 x) → T (finite x) → (value x ≡ 𝟘 → ⊥) → Downward binary64 (value x) x
own nan F X n = absurd X
own (inf s) F X n = absurd X
own (fin s m e) F X n =
    record {
      of_format = F;
      not_above = rational.≤q-refl (value (fin s m e));
      largest = λ v W H h. h;
      zero = λ W z. absurd (n z);
    }

one_number : (x y : Float) → T (fits binary64 x) → T (fits binary64 y) → T (finite x) → T (finite y) → (value y ≡ 𝟘 → ⊥)
    → value x ≡ value y → x ≡ y
one_number x y F G X Y n e =
    downward_unique binary64 (value y) x y (subst (λ (z : ℚ). Downward binary64 z x) e (own x F X (λ z. n (sym e ∙ z)))) (own y G Y n)

-- ---- what equals a number above 0 is that number
worth_something : (y : Float) → T (positive y) → value y ≡ 𝟘 → ⊥
worth_something y p z =
    let a = above_zero binary64 y (positive-finite y p) (subst T (sym (positive_above binary64 y p)) tt) in
    rational.never 𝟘 (value y) a (subst (λ (w : ℚ). w ≤q 𝟘) (sym z) (rational.≤q-refl 𝟘))

same_sign : (s t : Bool) → beq s t ≡ true → s ≡ t
same_sign true true h = refl
same_sign true false h = never h
same_sign false true h = never h
same_sign false false h = refl

infinite : (x : Float) (s : Bool) → eq x (inf s) ≡ true → x ≡ inf s
unfolding eq
infinite nan s e = never e
infinite (inf r) s e = ap inf (same_sign r s e)
infinite (fin r m k) s e = never e

pub equal_above : (x y : Float) → T (fits binary64 x) → T (fits binary64 y) → T (above y) → eq x y ≡ true → x ≡ y
equal_above x nan F G a e = absurd a
equal_above x (inf s) F G a e = infinite x s e
equal_above x (fin true n d) F G a e = absurd a
equal_above x (fin false n d) F G a e =
    let y = fin false n d in
    let t : T (eq x y) = subst T (sym e) tt in
    one_number x y F G (eq_finite x y t tt) tt (worth_something y a) (eq_value x y tt t)

itself : (y : Float) → T (above y) → eq y y ≡ true
unfolding eq
itself nan a = absurd a
itself (inf true) a = absurd a
itself (inf false) a = refl
itself (fin true m e) a = absurd a
itself (fin false m e) a = rw (eq-eqb (m * up e * down e) (m * up e * down e) refl)

-- ---- bits
pub same_bits : (x y : Float) → T (fits binary64 x) → T (fits binary64 y) → to_bits binary64 x ≡ to_bits binary64 y → x ≡ y
same_bits x y F G h = sym (of_bits-to_bits binary64 x F) ∙ ap (of_bits binary64) h ∙ of_bits-to_bits binary64 y G

-- `==` tells whether the bits are the same
pub bits_test : (x y : Float) → T (fits binary64 x) → T (fits binary64 y) → T (above y)
    → eqb (to_bits binary64 x) (to_bits binary64 y) ≡ eq x y
bits_test x y F G a = go (eq x y) refl
  where
    go : (b : Bool) → eq x y ≡ b → eqb (to_bits binary64 x) (to_bits binary64 y) ≡ b
    go true e = eq-eqb _ _ (ap (to_bits binary64) (equal_above x y F G a e))
    go false e =
        ne_eqb _ _ (λ h. clash (ap (λ (z : Float). eq z y) (same_bits x y F G h) ∙ itself y a) e)

-- ---- y - x, where x is below y; infinities too
from_infinity : (s : Bool) (y : Float) → lt (inf s) y ≡ true → T (above (sub binary64 y (inf s)))
unfolding lt sub neg add
from_infinity s nan l = never l
from_infinity true (inf true) l = never l
from_infinity true (inf false) l = tt
from_infinity false (inf t) l = never l
from_infinity true (fin t n d) l = tt
from_infinity false (fin t n d) l = never l

from_number : (s : Bool) (m : ℕ) (e : ℤ) (y : Float) → T (fits binary64 (fin s m e)) → T (fits binary64 y) → lt (fin s m e) y ≡ true
    → T (above (sub binary64 y (fin s m e)))
unfolding lt sub neg add
from_number s m e nan F G l = never l
from_number s m e (inf true) F G l = never l
from_number s m e (inf false) F G l = tt
from_number s m e (fin t n d) F G l = difference_above binary64 (fin s m e) (fin t n d) F G tt tt (subst T (sym l) tt)

pub width_above : (x y : Float) → T (fits binary64 x) → T (fits binary64 y) → lt x y ≡ true → T (above (sub binary64 y x))
unfolding lt
width_above nan y F G l = never l
width_above (inf s) y F G l = from_infinity s y l
width_above (fin s m e) y F G l = from_number s m e y F G l

-- ---- y - x, where x is not below y
pub zero_finite : T (finite +0)
unfolding of_bits
zero_finite = tt

pub zero_value : value +0 ≡ 𝟘
unfolding at_mostq
zero_value = ap value (plus_zero binary64) ∙ rational.≤q-antisymmetric (value (fin false 0 (pos 0))) 𝟘 tt tt

not_above : (x y : Float) → T (finite x) → T (finite y) → lt x y ≡ false → lt +0 (sub binary64 y x) ≡ false
not_above x y X Y l =
    let z = value y +q negq (value x) in
    let h : z ≤q value x +q negq (value x) =
    rational.≤q-add (value y) (value x) (negq (value x)) (value_le_of_not_lt y x Y X (subst (λ (b : Bool). T (not b)) (sym l) tt)) in
    let e : value x +q negq (value x) ≡ value +0 = solve rational_ring (value x ∷ []) (v0 ⊖ v0) (con (pos 0)) tt ∙ sym zero_value in
    le_not_lt (sub binary64 y x) +0 (rounds_below binary64 +0 (of_bits-fits binary64 0) zero_finite (sub binary64 y x) z
    (sub_rounded binary64 y x Y X) (subst (λ (w : ℚ). z ≤q w) e h))

falling : (x y : Float) → lt x y ≡ false → lt +0 (sub binary64 y x) ≡ false
unfolding lt sub neg add of_bits
falling nan nan l = refl
falling (inf s) nan l = refl
falling (fin s m e) nan l = refl
falling nan (inf t) l = refl
falling nan (fin t n d) l = refl
falling (inf true) (inf true) l = refl
falling (inf true) (inf false) l = clash refl l
falling (inf false) (inf true) l = refl
falling (inf false) (inf false) l = refl
falling (inf true) (fin t n d) l = clash refl l
falling (inf false) (fin t n d) l = refl
falling (fin s m e) (inf true) l = refl
falling (fin s m e) (inf false) l = clash refl l
falling (fin s m e) (fin t n d) l = not_above (fin s m e) (fin t n d) tt tt l

-- ---- one test for both
above_lt : (y : Float) → T (above y) → lt +0 y ≡ true
unfolding lt of_bits
above_lt nan a = absurd a
above_lt (inf true) a = absurd a
above_lt (inf false) a = refl
above_lt (fin true m e) a = absurd a
above_lt (fin false m e) a = positive_above binary64 (fin false m e) a

equal_le : (x y : Float) → eq x y ≡ true → le x y ≡ true
unfolding le
equal_le x y h = rw h (or-true (lt x y))

-- A width above 0 that equals the difference of two numbers: they rise, and it has the bits of the difference.
pub width_test : (w x y : Float) → T (fits binary64 w) → T (fits binary64 x) → T (fits binary64 y)
    → cond (eq w (sub binary64 y x)) (lt +0 w) false
    ≡ (lt x y && eqb (to_bits binary64 w) (to_bits binary64 (sub binary64 y x)))
width_test w x y W X Y = go (lt x y) (eq w d) refl refl
  where
    d : Float
    d = sub binary64 y x

    D : T (fits binary64 d)
    D = sub-fits binary64 y x

    go : (b e : Bool) → lt x y ≡ b → eq w d ≡ e → cond e (lt +0 w) false ≡ (b && eqb (to_bits binary64 w) (to_bits binary64 d))
    go true true l h =
        let a = width_above x y X Y l in
        ap (lt +0) (equal_above w d W D a h) ∙ above_lt d a ∙ sym (bits_test w d W D a ∙ h)
    go true false l h = sym (bits_test w d W D (width_above x y X Y l) ∙ h)
    go false true l h = no (lt +0 w) refl
      where
        no : (b : Bool) → lt +0 w ≡ b → b ≡ false
        no true k = clash (lt_le_trans +0 w d k (equal_le w d h)) (falling x y l)
        no false k = refl
    go false false l h = refl
