-- The directed sums are what their declarations say, and nothing else is: `downward_sum_law`, `upward_sum_law`, and that there is only one such
-- number. The sum upward follows from that downward, with all signs turned.
use mathlib.Core.Bool.{Bool, beq, ◌||◌, cond, false, not, true}
use mathlib.Core.List.{[], ◌∷◌}
use mathlib.Core.Logic.{◌⊎◌, inl, inr}
use mathlib.Core.Path.{◌∙◌, ◌≡◌, ap, refl, subst, sym}
use std.Quotient.{eq/}
use Prim.Native.Nat.{◌*◌, ◌+◌, ◌-◌, ◌<◌, ◌^◌, suc, zero, ℕ}
use native.Mathlib.Nat.{le_antisymm}
use native.Mathlib.Omega.{arith}
use lib.Dec.{T, T_not, eqb, eqb→eq}
use lib.Ieee.{Float, Format, add, binary32, binary64, down, eq, fin, fits, hid, inf, is_nan, level, low, lt, nan, neg, odd, of_bits, of_fields, ones, to_bits, top, up}
use lib.Ieee.Bits.{is_true, of_bits-fits, of_bits-to_bits}
use lib.Ieee.Fits.{and_l, cond-fits, down_pos, eq→eqb, nan-fits, neg-fits, round-fits, up_pos}
use lib.Ieee.Scale.{finite}
use lib.IntN.{neg_ℤ, pos, ℤ}
use lib.Pow.{pow_pos}
use Rattle.fraction.specs.DirectedSum.{Downward, Upward, downward_sum, is_above, plain_zero, upward_sum}
use Rattle.fraction.specs.Fraction.{whole_fraction}
use Rattle.fraction.specs.Integer.{◌≤z◌, equal_by_parts, negative_part, parts_neg, positive_part, signed}
use Rattle.fraction.specs.Magnitude.{magnitude}
use Rattle.fraction.specs.NextNumber.{down_bits, next_down}
use Rattle.fraction.specs.Rational.{◌+q◌, ◌<q◌, ◌≤q◌, at_mostq, negq, ℚ, 𝟘}
use Rattle.fraction.specs.RationalRing.{rational_ring}
use Rattle.fraction.specs.Ring.{◌⊕◌, opposite, solve, v0, v1}
use Rattle.fraction.specs.Rounding.{Rounded}
use Rattle.fraction.specs.Value.{BoundsAbove, BoundsBelow, exact_fraction, fraction, value}
use Rattle.fraction.proofs.Encoding.{hidden_pos}
use Rattle.fraction.proofs.Magnitude.{magnitude_zero}
use Rattle.fraction.proofs.Monotone.{rounded_monotone}
use Rattle.fraction.proofs.Neighbours.{rounded_lower}
use Rattle.fraction.proofs.NextNumber.{next_down_plus_infinity, next_up_largest, none_between_down, none_between_up}
use Rattle.fraction.proofs.Rational.{<q-weaken, equal_means_≈, ≤q-<q-trans, ≤q-antisymmetric, ≤q-negated, ≤q-or-<}
use Rattle.fraction.proofs.Rounding.{add_rounded, rounded_not_nan}
use Rattle.fraction.proofs.OwnRounding.{rounded_self}
use Rattle.fraction.proofs.Value.{Encoded, encoded, finite_bounds_above, finite_bounds_below, fraction_back, neg_finite, place_order, plus_zero, signed_mul, signed_order, value_le_of_not_lt, value_neg}

-- ---- zeros
nil_fraction : (s : Bool) (n c : ℕ) (C : 0 < c) → n ≡ 0 → fraction (signed s n) c C ≡ 𝟘
nil_fraction s n c C e = eq/ (record { numerator = signed s n; denominator = c; positive = C }) (whole_fraction (pos 0))
    (signed_mul s n 1 ∙ go s)
  where
    go : (s : Bool) → signed s (n * 1) ≡ pos (0 * c)
    go false = ap pos (omega arith)
    go true = equal_by_parts (neg_ℤ (pos (n * 1))) (pos (0 * c)) (omega (arith, (parts_neg (pos (n * 1))).0, (parts_neg (pos (n * 1))).1))

-- a zero is worth 0, and only a zero is
pub zero_value : (s : Bool) (m : ℕ) (e : ℤ) → m ≡ 0 → value (fin s m e) ≡ 𝟘
zero_value s m e h = nil_fraction s (m * up e) (down e) (down_pos e) (ap (λ (k : ℕ). k * up e) h ∙ none (up e))
  where
    none : (u : ℕ) → 0 * u ≡ 0
    none u = omega arith

value_zero : (s : Bool) (m : ℕ) (e : ℤ) → value (fin s m e) ≡ 𝟘 → m ≡ 0
value_zero s m e h = go m (up e) (up_pos e) (size s (m * up e * 1) (down e) (sym (signed_mul s (m * up e) 1) ∙ equal_means_≈
    (exact_fraction (fin s m e)) (whole_fraction (pos 0)) h))
  where
    size : (s : Bool) (n d : ℕ) → signed s n ≡ pos (0 * d) → n ≡ 0
    size false n d h = omega (arith, ap positive_part h)
    size true n d h = omega (arith, ap positive_part h, ap negative_part h, (parts_neg (pos n)).0, (parts_neg (pos n)).1)

    go : (m u : ℕ) → 0 < u → m * u * 1 ≡ 0 → m ≡ 0
    go zero u l e = refl
    go (suc m) u l e = absurd (bad e)
      where
        bad : suc m * u * 1 ≡ 0 → ⊥
        bad e = omega arith

-- the two cases of `plain_zero`
pub data Plain (f : Format) (w : Float) : Float → Type 0 where
  a_zero : T (finite w) → value w ≡ 𝟘 → Plain f w (fin false 0 (pos 0))
  no_zero : (T (finite w) → value w ≡ 𝟘 → ⊥) → Plain f w w

pub plain_cases : (f : Format) (w : Float) → Plain f w (plain_zero f w)
unfolding plain_zero eq
plain_cases f w = rw (plus_zero f) (go w)
  where
    nil : (m u d : ℕ) → m ≡ 0 → m * u * 1 ≡ 0 * 1 * d
    nil m u d e = omega (arith, ap (λ (k : ℕ). k * u) e)

    back : (m u d : ℕ) → 0 < u → m * u * 1 ≡ 0 * 1 * d → m ≡ 0
    back zero u d l e = refl
    back (suc m) u d l e = absurd (bad e)
      where
        bad : suc m * u * 1 ≡ 0 * 1 * d → ⊥
        bad e = omega arith

    level_zero : (s : Bool) (a b : ℕ) → a ≡ b → a ≡ 0 → level s a false b ≡ true
    level_zero s a b e z = rw (is_true (eqb a b) (eq→eqb e), is_true (eqb a 0) (eq→eqb z)) (either (beq s false))
      where
        either : (c : Bool) → (c || true) ≡ true
        either true = refl
        either false = refl

    go : (w : Float) → Plain f w (cond (eq w (fin false 0 (pos 0))) (fin false 0 (pos 0)) w)
    go nan = no_zero (λ F e. F)
    go (inf s) = no_zero (λ F e. F)
    go (fin s m e) = test (level s (m * up e * 1) false (0 * 1 * down e)) (λ t. eqb→eq (m * up e * 1) (0 * 1 * down e)
        (and_l (eqb (m * up e * 1) (0 * 1 * down e)) (beq s false || eqb (m * up e * 1) 0) t)) refl
      where
        test : (b : Bool) → (T b → m * up e * 1 ≡ 0 * 1 * down e) → level s (m * up e * 1) false (0 * 1 * down e) ≡ b → Plain f
            (fin s m e) (cond b (fin false 0 (pos 0)) (fin s m e))
        test true h k = a_zero tt (zero_value s m e (back m (up e) (down e) (up_pos e) (h tt)))
        test false h k = no_zero (λ F z.
            let i = value_zero s m e z in
            T_not false tt (subst T (sym (level_zero s (m * up e * 1) (0 * 1 * down e) (nil m (up e) (down e) i)
            (nil m (up e) 0 i ∙ refl)) ∙ k) tt))

-- a bound that holds of w holds of w with its zero made plain
module _ (f : Format) (z : ℚ) (w : Float) where
  plain_below : BoundsBelow w z → BoundsBelow (plain_zero f w) z
  plain_below h = go (plain_zero f w) (plain_cases f w)
    where
      go : (p : Float) → Plain f w p → BoundsBelow p z
      go _ (a_zero F e) = rw (zero_value false 0 (pos 0) refl) (rw e at (finite_bounds_below w z F h))
      go _ (no_zero n) = h

  plain_above : BoundsAbove w z → BoundsAbove (plain_zero f w) z
  plain_above h = go (plain_zero f w) (plain_cases f w)
    where
      go : (p : Float) → Plain f w p → BoundsAbove p z
      go _ (a_zero F e) = rw (zero_value false 0 (pos 0) refl) (rw e at (finite_bounds_above w z F h))
      go _ (no_zero n) = h

plain_held : (f : Format) (w : Float) → T (fits f w) → T (fits f (plain_zero f w))
unfolding plain_zero
plain_held f w h = cond-fits f (eq w (of_bits f 0)) (of_bits f 0) w (of_bits-fits f 0) h

plain_zero_law : (f : Format) (w : Float) → T (finite (plain_zero f w)) → value (plain_zero f w) ≡ 𝟘 → plain_zero f w ≡ of_bits f 0
plain_zero_law f w = go (plain_zero f w) (plain_cases f w)
  where
    go : (p : Float) → Plain f w p → T (finite p) → value p ≡ 𝟘 → p ≡ of_bits f 0
    go _ (a_zero F e) G h = sym (plus_zero f)
    go _ (no_zero n) G h = absurd (n G h)

-- ---- the next number is one of the format
next_down_held : (f : Format) (x : Float) → T (fits f (next_down f x))
unfolding next_down
next_down_held f x = cond-fits f (is_nan x) nan (of_bits f (down_bits f (to_bits f x))) (nan-fits f) (of_bits-fits f (down_bits f (to_bits f x)))

-- ---- the largest finite number
abbrev largest_finite : Format → Float
largest_finite f = of_bits f (ones f * hid f - 1)

largest_finite_law : (f : Format) → T (finite (largest_finite f))
unfolding of_bits of_fields odd
largest_finite_law binary32 = tt
largest_finite_law binary64 = tt

not_less : (x y : ℚ) → (y <q x → ⊥) → x ≤q y
not_less x y n = elim (≤q-or-< x y) [ inl h ↦ h | inr l ↦ absurd (n l) ]

finite_below_infinity : (x : Float) → T (finite x) → T (not (lt x (inf false))) → ⊥
unfolding lt
finite_below_infinity nan F t = F
finite_below_infinity (inf s) F t = F
finite_below_infinity (fin s m e) F t = t

infinity_below_finite : (x : Float) → T (finite x) → T (not (lt (inf true) x)) → ⊥
unfolding lt
infinity_below_finite nan F t = F
infinity_below_finite (inf s) F t = F
infinity_below_finite (fin s m e) F t = t

finite_above : (x : Float) (z : ℚ) → T (finite x) → z ≤q value x → BoundsAbove x z
finite_above nan z F h = F
finite_above (inf s) z F h = absurd F
finite_above (fin s m e) z F h = h

finite_below : (x : Float) (z : ℚ) → T (finite x) → value x ≤q z → BoundsBelow x z
finite_below nan z F h = F
finite_below (inf s) z F h = absurd F
finite_below (fin s m e) z F h = h

-- ---- z rounded to r, then moved where r is on the wrong side
module _ (f : Format) (z : ℚ) where
  rounded_fits : (r : Float) → Rounded f r z → T (fits f r)
  rounded_fits r R = subst (λ (x : Float). T (fits f x)) (sym R.rounds) (round-fits f R.sign R.over R.under)

  downward_below : (r : Float) → Rounded f r z → BoundsBelow (cond (is_above r z) (next_down f r) r) z
  unfolding is_nan
  downward_below nan R = absurd (rounded_not_nan f nan z R)
  downward_below (inf true) R = tt
  downward_below (inf false) R =
      rw (next_down_plus_infinity f) (finite_below (largest_finite f) z (largest_finite_law f)
      (not_less (value (largest_finite f)) z (λ l. finite_below_infinity (largest_finite f) (largest_finite_law f)
      (rounded_monotone f (inf false) (largest_finite f) z (value (largest_finite f)) R (rounded_self f (largest_finite f)
      (of_bits-fits f (ones f * hid f - 1)) (largest_finite_law f)) (<q-weaken z (value (largest_finite f)) l)))))
  downward_below (fin s m e) R = go (at_mostq (value (fin s m e)) z) (λ t. t)
    where
      go : (b : Bool) → (T b → value (fin s m e) ≤q z) → BoundsBelow (cond (not b) (next_down f (fin s m e)) (fin s m e)) z
      go true h = h tt
      go false h = rounded_lower f (fin s m e) z R tt

  downward_largest : (r : Float) → Rounded f r z → (v : Float) → T (fits f v) → T (finite v) → value v ≤q z → BoundsAbove
      (cond (is_above r z) (next_down f r) r) (value v)
  unfolding is_nan
  downward_largest nan R v fv G h = absurd (rounded_not_nan f nan z R)
  downward_largest (inf true) R v fv G h = infinity_below_finite v G (rounded_monotone f v (inf true) (value v) z (rounded_self f v fv G)
      R h)
  downward_largest (inf false) R v fv G h =
      rw (next_down_plus_infinity f) (finite_above (largest_finite f) (value v) (largest_finite_law f)
      (not_less (value v) (value (largest_finite f)) (λ l. subst (λ (x : Float). BoundsBelow x (value v)) (next_up_largest f)
      (none_between_up f (largest_finite f) v (of_bits-fits f (ones f * hid f - 1)) (largest_finite_law f) fv G l))))
  downward_largest (fin s m e) R v fv G h = go (at_mostq (value (fin s m e)) z) (λ t. t)
    where
      go : (b : Bool) → (T (not b) → z <q value (fin s m e)) → BoundsAbove (cond (not b) (next_down f (fin s m e)) (fin s m e)) (value v)
      go true k = value_le_of_not_lt v (fin s m e) G tt (rounded_monotone f v (fin s m e) (value v) z (rounded_self f v fv G) R h)
      go false k = none_between_down f (fin s m e) v (rounded_fits (fin s m e) R) tt fv G
          (≤q-<q-trans (value v) z (value (fin s m e)) h (k tt))

  downward_is : (r : Float) → Rounded f r z → Downward f z (plain_zero f (cond (is_above r z) (next_down f r) r))
  downward_is r R =
      let w = cond (is_above r z) (next_down f r) r in
      record {
        of_format = plain_held f w (cond-fits f (is_above r z) (next_down f r) r (next_down_held f r) (rounded_fits r R));
        not_above = plain_below f z w (downward_below r R);
        largest = λ v fv G h. plain_above f (value v) w (downward_largest r R v fv G h);
        zero = plain_zero_law f w;
      }

-- ---- the sums
pub downward_sum_law : (f : Format) (x y : Float) → T (finite x) → T (finite y) → Downward f (value x +q value y) (downward_sum f x y)
unfolding downward_sum
downward_sum_law f x y X Y = rw (is_true (finite x) X, is_true (finite y) Y) (downward_is f (value x +q value y) (add f x y)
    (add_rounded f x y X Y))

-- ---- with all signs turned
twice : (x : ℚ) → negq (negq x) ≡ x
twice x = solve rational_ring (x ∷ []) (opposite (opposite v0)) v0 tt

neg_above : (w : Float) (z : ℚ) → BoundsBelow w (negq z) → BoundsAbove (neg w) z
unfolding neg
neg_above nan z h = h
neg_above (inf true) z h = tt
neg_above (inf false) z h = h
neg_above (fin s m e) z h = rw (value_neg (fin s m e) tt) (rw (twice z) at (≤q-negated (value (fin s m e)) (negq z) h))

neg_below : (w : Float) (z : ℚ) → BoundsAbove w (negq z) → BoundsBelow (neg w) z
unfolding neg
neg_below nan z h = h
neg_below (inf true) z h = h
neg_below (inf false) z h = tt
neg_below (fin s m e) z h = rw (value_neg (fin s m e) tt) (rw (twice z) at (≤q-negated (negq z) (value (fin s m e)) h))

-- minus the largest number that is not above -z is the smallest that is not below z
upward_is : (f : Format) (z : ℚ) (w : Float) → Downward f (negq z) w → Upward f z (plain_zero f (neg w))
upward_is f z w D = record {
  of_format = plain_held f (neg w) (neg-fits f w D.of_format);
  not_below = plain_above f z (neg w) (neg_above w z D.not_above);
  smallest = λ v fv G h. plain_below f (value v) (neg w) (neg_below w (value v) (subst (BoundsAbove w) (value_neg v G)
      (D.largest (neg v) (neg-fits f v fv) (neg_finite v G) (rw (value_neg v G) (≤q-negated z (value v) h)))));
  zero = plain_zero_law f (neg w);
}

pub upward_sum_law : (f : Format) (x y : Float) → T (finite x) → T (finite y) → Upward f (value x +q value y) (upward_sum f x y)
unfolding upward_sum
upward_sum_law f x y X Y = upward_is f (value x +q value y) (downward_sum f (neg x) (neg y))
    (subst (λ (z : ℚ). Downward f z (downward_sum f (neg x) (neg y)))
    (ap (λ (z : ℚ). z +q value (neg y)) (value_neg x X) ∙ ap (λ (z : ℚ). negq (value x) +q z) (value_neg y Y)
    ∙ solve rational_ring (value x ∷ value y ∷ []) (opposite v0 ⊕ opposite v1) (opposite (v0 ⊕ v1)) tt)
    (downward_sum_law f (neg x) (neg y) (neg_finite x X) (neg_finite y Y)))

-- ---- there is only one such number
module _ (f : Format) (x y : Float) (fx : T (fits f x)) (fy : T (fits f y)) (F : T (finite x)) (G : T (finite y))
    (l : value x ≤q value y) (g : value y ≤q value x) where
  order : (x y : Float) (X : Encoded f x) (Y : Encoded f y) → value x ≤q value y → signed X.sign X.place ≤z signed Y.sign
      Y.place
  order x y X Y h =
      place_order (hid f) (hidden_pos f) X.sign Y.sign X.place Y.place
      (fraction_back (signed X.sign (magnitude (hid f) X.place)) (signed Y.sign (magnitude (hid f) Y.place)) (2 ^ low f)
      (pow_pos (low f)) (rw (X.exact, Y.exact) at h))

  -- two numbers of one value are one number, or zeros
  one_or_zero : (x ≡ y) ⊎ (value x ≡ 𝟘)
  one_or_zero = go (encoded f x fx F) (encoded f y fy G)
    where
      same : (s t : Bool) (p q : ℕ) → signed s p ≤z signed t q → signed t q ≤z signed s p → (cond s (top f) 0 + p ≡ cond t (top f) 0 + q)
          ⊎ (p ≡ 0)
      same false false p q a b = inl (ap (λ (k : ℕ). 0 + k) (le_antisymm (signed_order false false p q a)
          (signed_order false false q p b)))
      same true true p q a b = inl (ap (λ (k : ℕ). top f + k) (le_antisymm (signed_order true true q p b) (signed_order true true p q a)))
      same false true p q a b = inr (signed_order false true p q a).0
      same true false p q a b = inr (signed_order false true q p b).1

      go : Encoded f x → Encoded f y → (x ≡ y) ⊎ (value x ≡ 𝟘)
      go X Y = elim (same X.sign Y.sign X.place Y.place (order x y X Y l) (order y x Y X g)) [
        | inl e ↦ inl (sym (of_bits-to_bits f x fx) ∙ ap (of_bits f) (X.bits ∙ e ∙ sym Y.bits) ∙ of_bits-to_bits f y fy)
        | inr e ↦ inr (X.exact ∙ nil_fraction X.sign (magnitude (hid f) X.place) (2 ^ low f) (pow_pos (low f))
            (ap (magnitude (hid f)) e ∙ magnitude_zero (hid f) (hidden_pos f)))
      ]

  one : (value x ≡ 𝟘 → x ≡ of_bits f 0) → (value y ≡ 𝟘 → y ≡ of_bits f 0) → x ≡ y
  one a b = elim one_or_zero [ inl e ↦ e | inr z ↦ a z ∙ sym (b (≤q-antisymmetric (value y) (value x) g l ∙ z)) ]

pub downward_unique : (f : Format) (z : ℚ) (w v : Float) → Downward f z w → Downward f z v → w ≡ v
downward_unique f z nan v D E = absurd D.not_above
downward_unique f z (inf false) v D E = absurd D.not_above
downward_unique f z (inf true) nan D E = absurd E.not_above
downward_unique f z (inf true) (inf false) D E = absurd E.not_above
downward_unique f z (inf true) (inf true) D E = refl
downward_unique f z (inf true) (fin t n d) D E = absurd (D.largest (fin t n d) E.of_format tt E.not_above)
downward_unique f z (fin s m e) nan D E = absurd E.not_above
downward_unique f z (fin s m e) (inf false) D E = absurd E.not_above
downward_unique f z (fin s m e) (inf true) D E = absurd (E.largest (fin s m e) D.of_format tt D.not_above)
downward_unique f z (fin s m e) (fin t n d) D E =
    one f (fin s m e) (fin t n d) D.of_format E.of_format tt tt (E.largest (fin s m e) D.of_format tt D.not_above)
    (D.largest (fin t n d) E.of_format tt E.not_above) (D.zero tt) (E.zero tt)

pub upward_unique : (f : Format) (z : ℚ) (w v : Float) → Upward f z w → Upward f z v → w ≡ v
upward_unique f z nan v D E = absurd D.not_below
upward_unique f z (inf true) v D E = absurd D.not_below
upward_unique f z (inf false) nan D E = absurd E.not_below
upward_unique f z (inf false) (inf true) D E = absurd E.not_below
upward_unique f z (inf false) (inf false) D E = refl
upward_unique f z (inf false) (fin t n d) D E = absurd (D.smallest (fin t n d) E.of_format tt E.not_below)
upward_unique f z (fin s m e) nan D E = absurd E.not_below
upward_unique f z (fin s m e) (inf true) D E = absurd E.not_below
upward_unique f z (fin s m e) (inf false) D E = absurd (E.smallest (fin s m e) D.of_format tt D.not_below)
upward_unique f z (fin s m e) (fin t n d) D E =
    one f (fin s m e) (fin t n d) D.of_format E.of_format tt tt (D.smallest (fin t n d) E.of_format tt E.not_below)
    (E.smallest (fin s m e) D.of_format tt D.not_below) (D.zero tt) (E.zero tt)
