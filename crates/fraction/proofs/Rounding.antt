-- The four operations of floats are each one rounding of the exact result.
use mathlib.Core.Bool.{Bool, cond, false, not, true}
use mathlib.Core.List.{[], ◌∷◌}
use mathlib.Core.Path.{◌∙◌, ◌≡◌, ap, refl, subst, sym}
use std.Quotient.{eq/}
use Prim.Native.Nat.{◌*◌, ◌+◌, ◌-◌, ◌<◌, ◌^◌, ◌≤◌, suc, zero, ℕ}
use native.Mathlib.Nat.{le_of_lt, mul_comm, mul-pos}
use native.Mathlib.Omega.{arith}
use lib.Dec.{T, T_not, eqb, eqb-suc-zero, eqb→eq, ltb, ltb→lt, nltb→le}
use lib.Ieee.{Float, Format, add, div, down, fin, inf, is_nan, low, mul, nan, neg, odd, prec, round, sub, sum, units, unlike, up}
use lib.Ieee.Fits.{down_pos, round_is, up_pos}
use lib.Ieee.Order.{drop, kept}
use lib.Ieee.Positive.{positive}
use lib.Ieee.Scale.{finite, overflow}
use lib.IntN.{*ℤ_comm, +ℤ_comm, ◌*ℤ◌, ◌+ℤ◌, neg_ℤ, pos, ℤ}
use lib.Pow.{pow_pos}
use Rattle.fraction.specs.Integer.{◌≤z◌, equal_by_parts, integer_ring, negative_part, parts_add, parts_neg, positive_part, signed}
use Rattle.fraction.specs.Rational.{Above, ◌*q◌, ◌+q◌, ◌/q◌, at_mostq, negq, ℚ, 𝟘}
use Rattle.fraction.specs.Ring.{◌⊗◌, opposite, solve, v0, v1}
use Rattle.fraction.specs.Rounding.{Rounded, nonzero}
use Rattle.fraction.specs.Value.{fraction, value}
use Rattle.fraction.proofs.Inverse.{quotient_is}
use Rattle.fraction.proofs.Value.{fraction_le, neg_finite, signed_mul, value_neg}

signed_add : (s : Bool) (a b : ℕ) → signed s a +ℤ signed s b ≡ signed s (a + b)
signed_add s a b = equal_by_parts (signed s a +ℤ signed s b) (signed s (a + b)) (go s)
  where
    go : (s : Bool) → positive_part (signed s a +ℤ signed s b) + negative_part (signed s (a + b))
        ≡ positive_part (signed s (a + b)) + negative_part (signed s a +ℤ signed s b)
    go false = omega arith
    go true = omega (
      arith,
      parts_add (neg_ℤ (pos a)) (neg_ℤ (pos b)),
      (parts_neg (pos a)).0,
      (parts_neg (pos a)).1,
      (parts_neg (pos b)).0,
      (parts_neg (pos b)).1,
      (parts_neg (pos (a + b))).0,
      (parts_neg (pos (a + b))).1,
    )

-- a - b, for b ≤ a and for a ≤ b
signed_difference : (a b : ℕ) → b ≤ a → pos a +ℤ neg_ℤ (pos b) ≡ pos (a - b)
signed_difference a b l = equal_by_parts (pos a +ℤ neg_ℤ (pos b)) (pos (a - b))
    (omega (arith, parts_add (pos a) (neg_ℤ (pos b)), (parts_neg (pos b)).0, (parts_neg (pos b)).1))

signed_difference_below : (a b : ℕ) → a ≤ b → pos a +ℤ neg_ℤ (pos b) ≡ neg_ℤ (pos (b - a))
signed_difference_below a b l = equal_by_parts (pos a +ℤ neg_ℤ (pos b)) (neg_ℤ (pos (b - a)))
    (omega (
      arith,
      parts_add (pos a) (neg_ℤ (pos b)),
      (parts_neg (pos b)).0,
      (parts_neg (pos b)).1,
      (parts_neg (pos (b - a))).0,
      (parts_neg
          (pos (b - a))).1,
    ))

at : (f : Format) (s : Bool) (a c : ℕ) (C : 0 < c) (z : ℤ) → z ≡ signed s a → Rounded f (round f s a c) (fraction z c C)
at f s a c C z e = record { sign = s; over = a; under = c; positive = C; rounds = refl; exact = ap (λ (w : ℤ). fraction w c C) e }

sum_rounded : (f : Format) (s : Bool) (a : ℕ) (t : Bool) (b c : ℕ) (C : 0 < c) → Rounded f (sum f s a t b c) (fraction
    (signed s a +ℤ signed t b) c C)
unfolding sum
sum_rounded f false a false b c C = at f false (a + b) c C (pos a +ℤ pos b) refl
sum_rounded f true a true b c C = at f true (a + b) c C (signed true a +ℤ signed true b) (signed_add true a b)
sum_rounded f false a true b c C = go (ltb a b) (ltb→lt a b) (nltb→le a b)
  where
    go : (x : Bool) → (T x → a < b) → (T (not x) → b ≤ a) → Rounded f (cond x (round f true (b - a) c) (round f false (a - b) c))
        (fraction (pos a +ℤ neg_ℤ (pos b)) c C)
    go true l g = at f true (b - a) c C (pos a +ℤ neg_ℤ (pos b)) (signed_difference_below a b (le_of_lt (l tt)))
    go false l g = at f false (a - b) c C (pos a +ℤ neg_ℤ (pos b)) (signed_difference a b (g tt))
sum_rounded f true a false b c C = go (ltb a b) (ltb→lt a b) (nltb→le a b) (ltb b a) (nltb→le b a)
  where
    turn : neg_ℤ (pos a) +ℤ pos b ≡ pos b +ℤ neg_ℤ (pos a)
    turn = +ℤ_comm (neg_ℤ (pos a)) (pos b)

    none : a ≤ b → neg_ℤ (pos (a - b)) ≡ pos (a - b)
    none l = ap (λ (z : ℕ). neg_ℤ (pos z)) (zero' l) ∙ ap pos (sym (zero' l))
      where
        zero' : a ≤ b → a - b ≡ 0
        zero' l = omega arith

    go : (x : Bool) → (T x → a < b) → (T (not x) → b ≤ a) → (y : Bool) → (T (not y) → a ≤ b)
        → Rounded f (cond x (round f false (b - a) c) (round f y (a - b) c)) (fraction (neg_ℤ (pos a) +ℤ pos b) c C)
    go true l g y k = at f false (b - a) c C (neg_ℤ (pos a) +ℤ pos b) (turn ∙ signed_difference b a (le_of_lt (l tt)))
    go false l g true k = at f true (a - b) c C (neg_ℤ (pos a) +ℤ pos b) (turn ∙ signed_difference_below b a (g tt))
    go false l g false k = at f false (a - b) c C (neg_ℤ (pos a) +ℤ pos b) (turn ∙ signed_difference_below b a (g tt) ∙ none (k tt))

-- a sum, difference or product of finite floats is the exact one, rounded
pub add_rounded : (f : Format) (x y : Float) → T (finite x) → T (finite y) → Rounded f (add f x y) (value x +q value y)
unfolding add ◌+q◌
add_rounded f nan y X Y = absurd X
add_rounded f (inf s) y X Y = absurd X
add_rounded f (fin s m e) nan X Y = absurd Y
add_rounded f (fin s m e) (inf t) X Y = absurd Y
add_rounded f (fin s m e) (fin t n d) X Y =
    let C = mul-pos (down_pos e) (down_pos d) in
    subst (λ (z : ℤ). Rounded f (sum f s (m * up e * down d) t (n * up d * down e) (down e * down d)) (fraction z (down e * down d) C))
    (ap (λ (w : ℤ). w +ℤ signed t (n * up d * down e)) (sym (signed_mul s (m * up e) (down d)))
    ∙ ap (λ (w : ℤ). signed s (m * up e) *ℤ pos (down d) +ℤ w) (sym (signed_mul t (n * up d) (down e))))
    (sum_rounded f s (m * up e * down d) t (n * up d * down e) (down e * down d) C)

signed_product : (s t : Bool) (a b : ℕ) → signed s a *ℤ signed t b ≡ signed (unlike s t) (a * b)
signed_product false false a b = refl
signed_product true false a b = signed_mul true a b
signed_product false true a b = *ℤ_comm (pos a) (neg_ℤ (pos b)) ∙ signed_mul true b a ∙ ap (λ (z : ℕ). neg_ℤ (pos z)) (mul_comm b a)
signed_product true true a b = solve integer_ring (pos a ∷ pos b ∷ []) (opposite v0 ⊗ opposite v1) (v0 ⊗ v1) tt

pub mul_rounded : (f : Format) (x y : Float) → T (finite x) → T (finite y) → Rounded f (mul f x y) (value x *q value y)
unfolding mul ◌*q◌
mul_rounded f nan y X Y = absurd X
mul_rounded f (inf s) y X Y = absurd X
mul_rounded f (fin s m e) nan X Y = absurd Y
mul_rounded f (fin s m e) (inf t) X Y = absurd Y
mul_rounded f (fin s m e) (fin t n d) X Y = at f (unlike s t) (m * up e * (n * up d)) (down e * down d) (mul-pos (down_pos e) (down_pos d))
    (signed s (m * up e) *ℤ signed t (n * up d)) (signed_product s t (m * up e) (n * up d))

pub sub_rounded : (f : Format) (x y : Float) → T (finite x) → T (finite y) → Rounded f (sub f x y) (value x +q negq (value y))
unfolding sub
sub_rounded f x y X Y = subst (λ (z : ℚ). Rounded f (add f x (neg y)) (value x +q z)) (value_neg y Y)
    (add_rounded f x (neg y) X (neg_finite y Y))

unlike_back : (s t : Bool) → unlike (unlike s t) t ≡ s
unlike_back false false = refl
unlike_back false true = refl
unlike_back true false = refl
unlike_back true true = refl

-- a quotient by a float other than 0 is the exact one, rounded: z with z * y = x
pub div_rounded : (f : Format) (x y : Float) → T (finite x) → T (nonzero y) → (z : ℚ) × (z *q value y ≡ value x) × Rounded f (div f x y) z
unfolding div ◌*q◌
div_rounded f nan y X Y = absurd X
div_rounded f (inf s) y X Y = absurd X
div_rounded f (fin s m e) nan X Y = absurd Y
div_rounded f (fin s m e) (inf t) X Y = absurd Y
div_rounded f (fin s m e) (fin t zero d) X Y = absurd Y
div_rounded f (fin s m e) (fin t (suc n) d) X Y =
    let B = suc n * up d in
    let C = mul-pos (mul-pos (suc_pos n) (up_pos d)) (down_pos e) in
    let A = m * up e * down d in
    let q : ℚ = fraction (signed (unlike s t) A) (B * down e) C in (
      q,
      eq/ (record { numerator = signed (unlike s t) A *ℤ signed t B; denominator = B * down e * down d; positive = mul-pos C (down_pos d) })
          (record { numerator = signed s (m * up e); denominator = down e; positive = down_pos e })
          (ap (λ (z : ℤ). z *ℤ pos (down e)) (signed_product (unlike s t) t A B ∙ ap (λ (b : Bool). signed b (A * B)) (unlike_back s t))
          ∙ signed_mul s (A * B) (down e) ∙ ap (signed s) (same (m * up e) (down d) B (down e))
          ∙ sym (signed_mul s (m * up e) (B * down e * down d))),
      subst (λ (b : Bool). Rounded f (cond b (cond (eqb m 0) nan (inf (unlike s t))) (round f (unlike s t) A (B * down e))) q)
          (sym (eqb-suc-zero n)) (at f (unlike s t) A (B * down e) C (signed (unlike s t) A) refl),
    )
  where
    suc_pos : (n : ℕ) → 0 < suc n
    suc_pos n = omega arith

    same : (a d b e : ℕ) → a * d * b * e ≡ a * (b * e * d)
    same a d b e = omega arith

nonzero_of_above : (y : Float) → T (finite y) → Above (value y) → T (nonzero y)
unfolding at_mostq
nonzero_of_above nan F A = absurd F
nonzero_of_above (inf s) F A = absurd F
nonzero_of_above (fin s m e) F A = go (eqb m 0) (eqb→eq m 0)
  where
    none : (s : Bool) → m ≡ 0 → signed s (m * up e * 1) ≤z pos (0 * down e)
    none false h = omega (arith, ap (λ (z : ℕ). z * up e) h)
    none true h = omega (arith, (parts_neg (pos (m * up e * 1))).0, (parts_neg (pos (m * up e * 1))).1)

    go : (b : Bool) → (T b → m ≡ 0) → T (not b)
    go true h =
        absurd (T_not (at_mostq (value (fin s m e)) 𝟘) A (fraction_le (signed s (m * up e)) (pos 0) (down e) 1 (down_pos e) (pow_pos 0)
        (rw (signed_mul s (m * up e) 1) (none s (h tt)))))
    go false h = tt

-- a quotient of finite floats, by one above 0, is the exact one, rounded
pub divide_rounded : (f : Format) (x y : Float) → T (finite x) → T (finite y) → Above (value y) → Rounded f (div f x y) (value x /q value y)
divide_rounded f x y X Y A =
    let q = div_rounded f x y X (nonzero_of_above y Y A) in
    subst (λ (z : ℚ). Rounded f (div f x y) z) (quotient_is (value x) (value y) q.0 A q.1) q.2

units_not_nan : (f : Format) (s : Bool) (q k : ℕ) → T (not (is_nan (units f s q k)))
unfolding units odd is_nan
units_not_nan f s zero k = go (ltb (zero * 2 ^ k) (overflow f))
  where
    go : (b : Bool) → T (not (is_nan (cond b (odd (suc (prec f)) s zero k (low f)) (inf s))))
    go true = tt
    go false = tt
units_not_nan f s (suc q) k = go (ltb (suc q * 2 ^ k) (overflow f))
  where
    go : (b : Bool) → T (not (is_nan (cond b (odd (suc (prec f)) s (suc q) k (low f)) (inf s))))
    go true = tt
    go false = tt

-- what is the rounding of a fraction is no NaN: so with finite ends, and a divisor that is not 0, no combination is
pub rounded_not_nan : (f : Format) (r : Float) (z : ℚ) → Rounded f r z → T (not (is_nan r))
rounded_not_nan f r z R =
    subst (λ (x : Float). T (not (is_nan x))) (sym (R.rounds ∙ round_is f R.sign R.over R.under))
    (units_not_nan f R.sign (kept (prec f) (R.over * 2 ^ low f) R.under) (drop (prec f) (R.over * 2 ^ low f) R.under))

-- what holds of every number written so holds of every number above 0
pub of_positive : (P : Float → Type 0) → ((m : ℕ) (e : ℤ) → P (fin false (suc m) e)) → (y : Float) → T (positive y) → P y
of_positive P h nan p = absurd p
of_positive P h (inf s) p = absurd p
of_positive P h (fin true m e) p = absurd p
of_positive P h (fin false zero e) p = absurd p
of_positive P h (fin false (suc m) e) p = h m e

-- a quotient of a number by one above 0 is a number
pub quotient_number : (f : Format) (x : Float) → T (not (is_nan x)) → (y : Float) → T (positive y) → T (not (is_nan (div f x y)))
unfolding div is_nan
quotient_number f nan h = absurd h
quotient_number f (inf s) h = of_positive (λ y. T (not (is_nan (div f (inf s) y)))) (λ m e. tt)
quotient_number f (fin s n d) h =
    of_positive (λ y. T (not (is_nan (div f (fin s n d) y))))
    (λ m e. let y = fin false (suc m) e in let q = div_rounded f (fin s n d) y tt (subst (λ (b : Bool). T (not b)) (sym (eqb-suc-zero m))
    tt) in rounded_not_nan f (div f (fin s n d) y) q.0 q.2)
