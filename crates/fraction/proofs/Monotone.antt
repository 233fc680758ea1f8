-- Rounding keeps the order: of two fractions z ≤ z', the one rounded to r and the other to r', r' is not below r. Infinities are included.
use mathlib.Core.Bool.{Bool, beq, ◌||◌, cond, false, not, true}
use mathlib.Core.Logic.{◌⊎◌, inl, inr}
use mathlib.Core.Path.{◌∙◌, ◌≡◌, ap, refl, subst, sym}
use Prim.Native.Nat.{◌*◌, ◌+◌, ◌<◌, ◌^◌, ◌≤◌, suc, zero, ℕ}
use native.Mathlib.Nat.{add_comm, le_of_eq, le_of_lt}
use native.Mathlib.Omega.{arith}
use lib.Arith.{le→nltb}
use lib.Dec.{T, eqb, eqb→eq, ltb, ltb→lt}
use lib.Ieee.{Float, Format, below, binary32, binary64, climb, down, eq, fin, inf, le, level, low, lt, nan, neg, odd, prec, round, size, span, units, up}
use lib.Ieee.Fits.{and_l, and_r, round_is}
use lib.Ieee.Order.{drop, kept, round_mono}
use lib.Ieee.Scale.{overflow, round_same}
use lib.IntN.{◌*ℤ◌, pos, ℤ}
use lib.Pow.{pow_pos}
use Rattle.fraction.specs.Integer.{◌≤z◌, signed}
use Rattle.fraction.specs.Rational.{◌≤q◌, ℚ}
use Rattle.fraction.specs.Rounding.{Rounded}
use Rattle.fraction.specs.Value.{fraction}
use Rattle.fraction.proofs.Rational.{≤q-means-≤f}
use Rattle.fraction.proofs.Value.{signed_mul, signed_order}

-- ---- the model's tests
lt_neg : (x y : Float) → lt (neg x) (neg y) ≡ lt y x
unfolding lt neg
lt_neg nan nan = refl
lt_neg nan (inf t) = refl
lt_neg nan (fin t n d) = refl
lt_neg (inf s) nan = refl
lt_neg (inf false) (inf false) = refl
lt_neg (inf false) (inf true) = refl
lt_neg (inf true) (inf false) = refl
lt_neg (inf true) (inf true) = refl
lt_neg (inf false) (fin t n d) = refl
lt_neg (inf true) (fin t n d) = refl
lt_neg (fin s m e) nan = refl
lt_neg (fin s m e) (inf false) = refl
lt_neg (fin s m e) (inf true) = refl
lt_neg (fin s m e) (fin t n d) = go s t (m * up e * down d) (n * up d * down e)
  where
    go : (s t : Bool) (a b : ℕ) → below (not s) a (not t) b ≡ below t b s a
    go false false a b = refl
    go false true a b = ap (ltb 0) (add_comm a b)
    go true false a b = refl
    go true true a b = refl

or_cases : (x y : Bool) → T (x || y) → T x ⊎ T y
or_cases true y t = inl tt
or_cases false y t = inr t

not_lt_of_le : (x y : Float) → T (le x y) → T (not (lt y x))
unfolding le eq lt
not_lt_of_le nan y t = absurd t
not_lt_of_le (inf s) nan t = absurd t
not_lt_of_le (inf false) (inf false) t = tt
not_lt_of_le (inf false) (inf true) t = absurd t
not_lt_of_le (inf true) (inf false) t = tt
not_lt_of_le (inf true) (inf true) t = tt
not_lt_of_le (inf false) (fin u n d) t = absurd t
not_lt_of_le (inf true) (fin u n d) t = tt
not_lt_of_le (fin s m e) nan t = absurd t
not_lt_of_le (fin s m e) (inf false) t = tt
not_lt_of_le (fin s m e) (inf true) t = absurd t
not_lt_of_le (fin s m e) (fin u n d) t = go s u (m * up e * down d) (n * up d * down e) t
  where
    equal : (s u : Bool) (a b : ℕ) → T (level s a u b) → a ≡ b
    equal s u a b t = eqb→eq a b (and_l (eqb a b) (beq s u || eqb a 0) t)

    up_to : (a b : ℕ) → T (ltb a b) ⊎ (a ≡ b) → a ≤ b
    up_to a b (inl t) = le_of_lt (ltb→lt a b t)
    up_to a b (inr e) = le_of_eq e

    go : (s u : Bool) (a b : ℕ) → T (below s a u b || level s a u b) → T (not (below u b s a))
    go false false a b t = le→nltb b a (up_to a b (elim (or_cases (ltb a b) (level false a false b) t)
        [ inl l ↦ inl l | inr l ↦ inr (equal false false a b l) ]))
    go false true a b t = le→nltb 0 (b + a) (none (equal false true a b t) (eqb→eq a 0 (and_r (eqb a b) (eqb a 0) t)))
      where
        none : a ≡ b → a ≡ 0 → b + a ≤ 0
        none e z = omega arith
    go true false a b t = tt
    go true true a b t = le→nltb a b (up_to b a (elim (or_cases (ltb b a) (level true a true b) t)
        [ inl l ↦ inl l | inr l ↦ inr (sym (equal true true a b l)) ]))

-- ---- the sign of what is rounded
units_neg : (f : Format) (q k : ℕ) → units f true q k ≡ neg (units f false q k)
unfolding units odd neg
units_neg f zero k = go (ltb (zero * 2 ^ k) (overflow f))
  where
    go : (b : Bool) → cond b (odd (suc (prec f)) true zero k (low f)) (inf true) ≡ neg (cond b (odd (suc (prec f)) false zero k (low f))
        (inf false))
    go true = refl
    go false = refl
units_neg f (suc q) k = go (ltb (suc q * 2 ^ k) (overflow f))
  where
    go : (b : Bool) → cond b (odd (suc (prec f)) true (suc q) k (low f)) (inf true)
        ≡ neg (cond b (odd (suc (prec f)) false (suc q) k (low f)) (inf false))
    go true = refl
    go false = refl

-- a fraction below 0 rounds to the negative of what its size rounds to
pub round_neg : (f : Format) (a c : ℕ) → round f true a c ≡ neg (round f false a c)
round_neg f a c =
    round_is f true a c ∙ units_neg f (kept (prec f) (a * 2 ^ low f) c) (drop (prec f) (a * 2 ^ low f) c)
    ∙ ap neg (sym (round_is f false a c))

plain : Float → Bool
plain nan = false
plain (inf s) = not s
plain (fin s m e) = not s

units_plain : (f : Format) (q k : ℕ) → T (plain (units f false q k))
unfolding units odd plain
units_plain f zero k = go (ltb (zero * 2 ^ k) (overflow f))
  where
    go : (b : Bool) → T (plain (cond b (odd (suc (prec f)) false zero k (low f)) (inf false)))
    go true = tt
    go false = tt
units_plain f (suc q) k = go (ltb (suc q * 2 ^ k) (overflow f))
  where
    go : (b : Bool) → T (plain (cond b (odd (suc (prec f)) false (suc q) k (low f)) (inf false)))
    go true = tt
    go false = tt

round_plain : (f : Format) (a c : ℕ) → T (plain (round f false a c))
round_plain f a c = subst (λ (x : Float). T (plain x)) (sym (round_is f false a c)) (units_plain f (kept (prec f) (a * 2 ^ low f) c)
    (drop (prec f) (a * 2 ^ low f) c))

not_below_negative : (x y : Float) → T (plain x) → T (plain y) → T (not (lt x (neg y)))
unfolding lt neg plain
not_below_negative nan y p q = absurd p
not_below_negative (inf true) y p q = absurd p
not_below_negative (inf false) nan p q = absurd q
not_below_negative (inf false) (inf t) p q = tt
not_below_negative (inf false) (fin t n d) p q = tt
not_below_negative (fin true m e) y p q = absurd p
not_below_negative (fin false m e) nan p q = absurd q
not_below_negative (fin false m e) (inf true) p q = absurd q
not_below_negative (fin false m e) (inf false) p q = tt
not_below_negative (fin false m e) (fin true n d) p q = absurd q
not_below_negative (fin false m e) (fin false n d) p q = tt

zeros_level : (f : Format) → T (not (lt (round f true 0 1) (round f false 0 1)))
unfolding lt round size span climb units odd
zeros_level binary32 = tt
zeros_level binary64 = tt

-- z ≤ z', rounded to r and r': r' is not below r
pub rounded_monotone : (f : Format) (r r' : Float) (z z' : ℚ) → Rounded f r z → Rounded f r' z' → z ≤q z' → T (not (lt r' r))
rounded_monotone f r r' z z' R S h =
    rw (R.rounds, S.rounds) (go R.sign S.sign R.over S.over R.under S.under R.positive S.positive
    (subst (λ (x : ℚ). x ≤q fraction (signed S.sign S.over) S.under S.positive) R.exact
    (subst (λ (x : ℚ). z ≤q x) S.exact h)))
  where
    whole : (a d : ℕ) → 0 < d → a * d ≡ 0 → a ≡ 0
    whole zero d l e = refl
    whole (suc a) d l e = absurd (bad e)
      where
        bad : suc a * d ≡ 0 → ⊥
        bad e = omega arith

    order : (s t : Bool) (a b c d : ℕ) (C : 0 < c) (D : 0 < d) → fraction (signed s a) c C ≤q fraction (signed t b) d D
        → signed s (a * d) ≤z signed t (b * c)
    order s t a b c d C D h =
        subst (λ (x : ℤ). x ≤z signed t (b * c)) (signed_mul s a d) (subst (λ (x : ℤ). signed s a *ℤ pos d ≤z x) (signed_mul t b c)
        (≤q-means-≤f (record { numerator = signed s a; denominator = c; positive = C })
        (record { numerator = signed t b; denominator = d; positive = D }) h))

    go : (s t : Bool) (a b c d : ℕ) (C : 0 < c) (D : 0 < d) → fraction (signed s a) c C ≤q fraction (signed t b) d D
        → T (not (lt (round f t b d) (round f s a c)))
    go false false a b c d C D h = not_lt_of_le (round f false a c) (round f false b d) (round_mono f a c b d C D
        (signed_order false false (a * d) (b * c) (order false false a b c d C D h)))
    go true false a b c d C D h = rw (round_neg f a c) (not_below_negative (round f false b d) (round f false a c) (round_plain f b d)
        (round_plain f a c))
    go true true a b c d C D h =
        rw (round_neg f a c, round_neg f b d, lt_neg (round f false b d) (round f false a c))
        (not_lt_of_le (round f false b d) (round f false a c) (round_mono f b d a c D C
        (signed_order true true (a * d) (b * c) (order true true a b c d C D h))))
    go false true a b c d C D h =
        let o = signed_order false true (a * d) (b * c) (order false true a b c d C D h) in
        let x = round_same f false a c 0 1 C (pow_pos 0) (nil a c (whole a d D o.0)) in
        let y = round_same f true b d 0 1 D (pow_pos 0) (nil b d (whole b c C o.1)) in
        rw (x, y) (zeros_level f)
      where
        nil : (a c : ℕ) → a ≡ 0 → a * 1 ≡ 0 * c
        nil a c e = omega arith
