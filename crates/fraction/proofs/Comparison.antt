-- What the tests `lt`, `eq` and `le` of floats say of their exact values, and the other way round.
use mathlib.Core.Bool.{Bool, ◌&&◌, ◌||◌, false, not, true}
use mathlib.Core.Path.{◌∙◌, ◌≡◌, ap, refl, subst, sym}
use std.Quotient.{eq/}
use Prim.Native.Nat.{ℕ, ◌*◌, ◌+◌, ◌<◌, ◌≤◌}
use native.Mathlib.Decide.{dec_lt}
use native.Mathlib.Nat.{mul-pos}
use native.Mathlib.Omega.{arith}
use borrow.Author.Tests.{eq-eqb, le-ltb, lt-ltb, ne_eqb}
use lib.Dec.{T, eqb, eqb→eq, ltb, ltb→lt, not_T}
use lib.Ieee.{Float, Format, below, down, eq, fin, inf, is_nan, le, level, lt, nan, of_bits, up}
use lib.Ieee.Fits.{up_pos}
use lib.Ieee.Positive.{above, positive}
use lib.Ieee.Scale.{finite}
use lib.IntN.{◌*ℤ◌, neg_ℤ, pos, ℤ}
use Rattle.fraction.specs.Integer.{◌≤z◌, signed}
use Rattle.fraction.specs.Rational.{◌<q◌, ◌≤q◌, at_mostq}
use Rattle.fraction.specs.Value.{exact_fraction, value}
use Rattle.fraction.proofs.Rational.{never, ≤q-means-≤f, ≤q-refl}
use Rattle.fraction.proofs.Value.{plus_zero, signed_mul, signed_order, value_le_of_not_lt}

-- ---- from the tests
-- the order of two values as that of signed numbers over one denominator
signed_le : (s u : Bool) (m n : ℕ) (e d : ℤ) → value (fin s m e) ≤q value (fin u n d)
    → signed s (m * up e * down d) ≤z signed u (n * up d * down e)
signed_le s u m n e d h =
    subst (λ (z : ℤ). signed s (m * up e * down d) ≤z z) (signed_mul u (n * up d) (down e))
    (subst (λ (z : ℤ). z ≤z signed u (n * up d) *ℤ pos (down e)) (signed_mul s (m * up e) (down d))
    (≤q-means-≤f (exact_fraction (fin s m e)) (exact_fraction (fin u n d)) h))

-- the test `lt` is true: x < y
pub lt_value : (x y : Float) → T (finite x) → T (finite y) → T (lt x y) → value x <q value y
unfolding lt
lt_value nan y X Y t = absurd X
lt_value (inf s) y X Y t = absurd X
lt_value (fin s m e) nan X Y t = absurd Y
lt_value (fin s m e) (inf u) X Y t = absurd Y
lt_value (fin s m e) (fin u n d) X Y t =
    not_T (at_mostq (value (fin u n d)) (value (fin s m e)))
    (λ h. go s u (m * up e * down d) (n * up d * down e) t (signed_le u s n m d e h))
  where
    go : (s u : Bool) (a b : ℕ) → T (below s a u b) → signed u b ≤z signed s a → ⊥
    go false false a b t h = omega (arith, ltb→lt a b t, signed_order false false b a h)
    go false true a b t h = absurd t
    go true false a b t h = omega (arith, ltb→lt 0 (a + b) t, (signed_order false true b a h).0, (signed_order false true b a h).1)
    go true true a b t h = omega (arith, ltb→lt b a t, signed_order true true b a h)

-- what lies between two others is finite
pub between_finite : (y x z : Float) → T (lt x y) → T (lt y z) → T (finite y)
unfolding lt
between_finite nan nan z a b = absurd a
between_finite nan (inf s) z a b = absurd a
between_finite nan (fin s m e) z a b = absurd a
between_finite (inf true) nan z a b = absurd a
between_finite (inf true) (inf true) z a b = absurd a
between_finite (inf true) (inf false) z a b = absurd a
between_finite (inf true) (fin s m e) z a b = absurd a
between_finite (inf false) x nan a b = absurd b
between_finite (inf false) x (inf t) a b = absurd b
between_finite (inf false) x (fin t n d) a b = absurd b
between_finite (fin t n d) x z a b = tt

-- what equals a finite number is finite, and has its value
pub eq_finite : (x y : Float) → T (eq x y) → T (finite y) → T (finite x)
unfolding eq
eq_finite nan y t Y = absurd t
eq_finite (inf s) nan t Y = absurd t
eq_finite (inf s) (inf u) t Y = absurd Y
eq_finite (inf s) (fin u n d) t Y = absurd t
eq_finite (fin s m e) y t Y = tt

pub eq_value : (x y : Float) → T (finite y) → T (eq x y) → value x ≡ value y
unfolding eq
eq_value nan y Y t = absurd t
eq_value (inf s) nan Y t = absurd t
eq_value (inf s) (inf u) Y t = absurd Y
eq_value (inf s) (fin u n d) Y t = absurd t
eq_value (fin s m e) nan Y t = absurd t
eq_value (fin s m e) (inf u) Y t = absurd t
eq_value (fin s m e) (fin u n d) Y t =
    eq/ (exact_fraction (fin s m e)) (exact_fraction (fin u n d))
    (signed_mul s (m * up e) (down d) ∙ go s u (m * up e * down d) (n * up d * down e) t ∙ sym (signed_mul u (n * up d) (down e)))
  where
    both : (a b : Bool) → T (a && b) → T a × T b
    both true b t = (tt, t)
    both false b t = absurd t

    none : (s : Bool) (a : ℕ) → a ≡ 0 → signed s a ≡ pos 0
    none false a e = ap pos e
    none true a e = ap (λ (z : ℕ). neg_ℤ (pos z)) e

    go : (s u : Bool) (a b : ℕ) → T (level s a u b) → signed s a ≡ signed u b
    go false false a b t = ap pos (eqb→eq a b (both (eqb a b) true t).0)
    go true true a b t = ap (λ (z : ℕ). neg_ℤ (pos z)) (eqb→eq a b (both (eqb a b) true t).0)
    go false true a b t =
        let h = both (eqb a b) (eqb a 0) t in
        let e = eqb→eq a b h.0 in
        let z = eqb→eq a 0 h.1 in none false a z ∙ sym (none true b (sym e ∙ z))
    go true false a b t =
        let h = both (eqb a b) (eqb a 0) t in
        let e = eqb→eq a b h.0 in
        let z = eqb→eq a 0 h.1 in none true a z ∙ sym (none false b (sym e ∙ z))

-- ---- to the tests
-- below or equal, of two numbers of which the first is at most the second
at_most : (a b : ℕ) → a ≤ b → (ltb a b || (eqb a b && true)) ≡ true
at_most a b h = elim (dec_lt a b) [
  | yes l ↦ rw (lt-ltb a b l)
  | no l ↦ let e : a ≡ b = omega arith in rw (le-ltb a b (omega arith), eq-eqb a b e)
]

-- x ≤ y: the test `le` is true
pub le_of_value : (x y : Float) → T (finite x) → T (finite y) → value x ≤q value y → le x y ≡ true
unfolding le lt eq
le_of_value nan y X Y h = absurd X
le_of_value (inf s) y X Y h = absurd X
le_of_value (fin s m e) nan X Y h = absurd Y
le_of_value (fin s m e) (inf u) X Y h = absurd Y
le_of_value (fin s m e) (fin u n d) X Y h = go s u (m * up e * down d) (n * up d * down e) (signed_le s u m n e d h)
  where
    go : (s u : Bool) (a b : ℕ) → signed s a ≤z signed u b → (below s a u b || level s a u b) ≡ true
    go false false a b h = at_most a b (signed_order false false a b h)
    go false true a b h =
        let z = signed_order false true a b h in rw (eq-eqb a b (omega (arith, z.0, z.1)), eq-eqb a 0 z.0)
    go true false a b h = elim (dec_lt 0 (a + b)) [
      | yes l ↦ rw (lt-ltb 0 (a + b) l)
      | no l ↦ rw (le-ltb 0 (a + b) (omega arith), eq-eqb a b (omega arith), eq-eqb a 0 (omega arith))
    ]
    go true true a b h = let l = signed_order true true a b h in
        elim (dec_lt b a) [
          | yes g ↦ rw (lt-ltb b a g)
          | no g ↦ rw (le-ltb b a (omega arith), eq-eqb a b (omega arith))
        ]

-- x < y: the test `lt` is true
pub lt_of_value : (x y : Float) → T (finite x) → T (finite y) → value x <q value y → lt x y ≡ true
lt_of_value x y X Y h = go (lt x y) (λ k. never (value x) (value y) h (value_le_of_not_lt y x Y X k))
  where
    go : (b : Bool) → (T (not b) → ⊥) → b ≡ true
    go true k = refl
    go false k = absurd (k tt)

-- a number is at or below itself
pub number_self : (x : Float) → T (not (is_nan x)) → le x x ≡ true
unfolding le lt eq is_nan
number_self nan h = absurd h
number_self (inf true) h = refl
number_self (inf false) h = refl
number_self (fin s m e) h = le_of_value (fin s m e) (fin s m e) tt tt (≤q-refl (value (fin s m e)))

-- what is above 0 is not at or below +0
pub above_not_le : (f : Format) (x : Float) → T (above x) → le x (of_bits f 0) ≡ false
unfolding le lt eq
above_not_le f x a = rw (plus_zero f) (go x a)
  where
    go : (x : Float) → T (above x) → le x (fin false 0 (pos 0)) ≡ false
    go nan a = absurd a
    go (inf true) a = absurd a
    go (inf false) a = refl
    go (fin true m e) a = absurd a
    go (fin false m e) a =
        let n = m * up e * 1 in
        let z = 0 * 1 * down e in
        let p : 0 < m * up e = mul-pos (ltb→lt 0 m a) (up_pos e) in
        rw (le-ltb n z (omega arith), ne_eqb n z (λ h. omega arith))

-- what is finite and above 0 has +0 below it
pub positive_above : (f : Format) (x : Float) → T (positive x) → lt (of_bits f 0) x ≡ true
unfolding lt
positive_above f x p = rw (plus_zero f) (go x p)
  where
    go : (x : Float) → T (positive x) → lt (fin false 0 (pos 0)) x ≡ true
    go nan h = absurd h
    go (inf s) h = absurd h
    go (fin true m e) h = absurd h
    go (fin false m e) h = lt-ltb (0 * 1 * down e) (m * up e * 1) (omega (arith, mul-pos (ltb→lt 0 m h) (up_pos e)))
