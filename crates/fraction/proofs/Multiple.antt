-- What is rounded keeps its unit: if a fraction is a multiple of 2 ^ j of the format's smallest number, so is what it rounds to. So a sum
-- of two floats and the rounded sum, where they differ, differ by at least the unit of the smaller of the two.
use mathlib.Core.Bool.{Bool, false, true}
use mathlib.Core.List.{[], ◌∷◌}
use mathlib.Core.Path.{◌∙◌, ◌≡◌, ap, subst, sym}
use Prim.Native.Nat.compare
use Prim.Native.Nat.{◌%◌, ◌*◌, ◌+◌, ◌-◌, ◌/◌, ◌<◌, ◌^◌, ◌≤◌, compare, suc, zero, ℕ}
use native.Mathlib.Decide.{dec_le}
use native.Mathlib.Nat.{mul_assoc, mul-div_cancel, mul-mod_left, mul-pos}
use native.Mathlib.Omega.{arith}
use lib.Dec.{T, T_not}
use lib.Ieee.{Float, Format, hid, low, nearest, prec, round}
use lib.Ieee.Nearest.{closest}
use lib.Ieee.Order.{drop, kept}
use lib.Ieee.Scale.{finite, grid}
use lib.IntN.{◌*ℤ◌, ◌+ℤ◌, negsuc, pos, ℤ}
use lib.Pow.{pow-add, pow_pos}
use Rattle.fraction.specs.Integer.{◌≤z◌, integer_order, integer_ring, negative_part, parts_add, parts_neg, positive_part, signed}
use Rattle.fraction.specs.Order.{le_one}
use Rattle.fraction.specs.Rational.{◌+q◌, ◌<q◌, ◌≤q◌, at_mostq, ℚ}
use Rattle.fraction.specs.Ring.{◌⊕◌, ◌⊗◌, con, solve, v0, v1, v2}
use Rattle.fraction.specs.Rounding.{Rounded}
use Rattle.fraction.specs.Value.{fraction, value}
use Rattle.fraction.specs.WellDefined.{natural_nonnegative}
use Rattle.fraction.proofs.Nearest.{fraction_add}
use Rattle.fraction.proofs.Rational.{equal_means_≈}
use Rattle.fraction.proofs.RoundedPlace.{round_value}
use Rattle.fraction.proofs.Value.{Encoded, fraction_same_le, signed_mul, value_is}

-- ---- in natural numbers
power_split : (i j : ℕ) → j ≤ i → 2 ^ i ≡ 2 ^ (i - j) * 2 ^ j
power_split i j l = ap (λ (z : ℕ). 2 ^ z) (back l) ∙ pow-add 2 (i - j) j
  where
    back : j ≤ i → i ≡ i - j + j
    back l = omega arith

-- a multiple of u, over u, is whole
closest_multiple : (t u : ℕ) → 0 < u → closest (t * u) u ≡ t
closest_multiple t (suc u) U =
    ap (λ (x : ℕ). nearest x (compare (t * suc u % suc u * 2) (suc u))) (mul-div_cancel t U)
    ∙ ap (λ (x : ℕ). nearest t (compare (x * 2) (suc u))) (mul-mod_left t (suc u))
    ∙ ap (nearest t) (compare.zero-suc u)
closest_multiple t zero U = absurd (omega arith)

-- n / c is a multiple of 2 ^ j: so is what is kept of it
grid_multiple : (p n c j t : ℕ) → 0 < c → n ≡ t * 2 ^ j * c → (u : ℕ) × (kept p n c * 2 ^ drop p n c ≡ u * 2 ^ j)
grid_multiple p n c j t C e = elim (dec_le j (drop p n c)) [
  | yes l ↦ (
    kept p n c * 2 ^ (drop p n c - j),
    ap (λ (z : ℕ). kept p n c * z) (power_split (drop p n c) j l) ∙ sym
        (mul_assoc (kept p n c) (2 ^ (drop p n c - j)) (2 ^ j)),
  )
  | no g ↦ (t, small (drop p n c) (less g))
]
  where
    less : ¬ (j ≤ drop p n c) → drop p n c ≤ j
    less g = omega arith

    small : (k : ℕ) → k ≤ j → closest n (c * 2 ^ k) * 2 ^ k ≡ t * 2 ^ j
    small k l =
        let w = t * 2 ^ (j - k) in
        let d : n ≡ w * (c * 2 ^ k) = e ∙ ap (λ (z : ℕ). t * z * c) (power_split j k l) ∙ regroup t (2 ^ (j - k)) (2 ^ k) c in
        ap (λ (z : ℕ). closest z (c * 2 ^ k) * 2 ^ k) d ∙ ap (λ (z : ℕ). z * 2 ^ k) (closest_multiple w (c * 2 ^ k)
        (mul-pos C (pow_pos k)))
        ∙ mul_assoc t (2 ^ (j - k)) (2 ^ k) ∙ ap (λ (z : ℕ). t * z) (sym (power_split j k l))
      where
        regroup : (a b d c : ℕ) → a * (b * d) * c ≡ a * b * (c * d)
        regroup a b d c = omega arith

-- ---- in whole numbers
absoluteℤ : ℤ → ℕ
absoluteℤ z = positive_part z + negative_part z

absolute_signed : (s : Bool) (n : ℕ) → absoluteℤ (signed s n) ≡ n
unfolding absoluteℤ
absolute_signed false n = omega arith
absolute_signed true n = omega (arith, (parts_neg (pos n)).0, (parts_neg (pos n)).1)

absolute_mul : (t : ℤ) (m : ℕ) → absoluteℤ (t *ℤ pos m) ≡ absoluteℤ t * m
unfolding absoluteℤ
absolute_mul (pos a) m = omega arith
absolute_mul (negsuc a) m = omega (arith, (parts_neg (pos (suc a * m))).0, (parts_neg (pos (suc a * m))).1)

-- a multiple of g below another is below it by at least g
multiples_apart : (t u : ℤ) (g : ℕ) → (u *ℤ pos g ≤z t *ℤ pos g → ⊥) → t *ℤ pos g +ℤ pos g ≤z u *ℤ pos g
multiples_apart t u g n = elim (dec_le (positive_part u + negative_part t) (positive_part t + negative_part u)) [
  | yes l ↦ absurd (n (le_one integer_ring ◌≤z◌ integer_order (u ∷ t ∷ pos g ∷ []) (v0 ⊗ v2) (v1 ⊗ v2) v2 v0 v1 tt (natural_nonnegative g)
      l))
  | no k ↦ le_one integer_ring ◌≤z◌ integer_order (t ∷ u ∷ pos g ∷ []) (v0 ⊗ v2 ⊕ v2) (v1 ⊗ v2) v2 (v0 ⊕ con (pos 1)) v1 tt
      (natural_nonnegative g) (next k)
]
  where
    next : ¬ (u ≤z t) → t +ℤ pos 1 ≤z u
    next k = omega (arith, parts_add t (pos 1))

-- ---- in fractions over the format's unit
module _ (f : Format) (j : ℕ) where
  -- t * 2 ^ j of the format's smallest number
  abbrev pub multiple : ℤ → ℚ
  multiple t = fraction (t *ℤ pos (2 ^ j)) (2 ^ low f) (pow_pos (low f))

  -- 2 ^ j of them
  abbrev pub unit : ℚ
  unit = fraction (pos (2 ^ j)) (2 ^ low f) (pow_pos (low f))

  pub multiple_add : (t u : ℤ) → multiple t +q multiple u ≡ multiple (t +ℤ u)
  multiple_add t u =
      fraction_add (t *ℤ pos (2 ^ j)) (u *ℤ pos (2 ^ j)) (2 ^ low f) (pow_pos (low f))
      ∙ ap (λ (z : ℤ). fraction z (2 ^ low f) (pow_pos (low f))) (solve integer_ring (t ∷ u ∷ pos (2 ^ j) ∷ []) (v0 ⊗ v2 ⊕ v1 ⊗ v2)
      ((v0 ⊕ v1) ⊗ v2) tt)

  -- two that differ, differ by a unit
  pub apart : (t u : ℤ) → multiple t <q multiple u → multiple t +q unit ≤q multiple u
  apart t u l =
      rw (fraction_add (t *ℤ pos (2 ^ j)) (pos (2 ^ j)) (2 ^ low f) (pow_pos (low f)))
      (fraction_same_le (t *ℤ pos (2 ^ j) +ℤ pos (2 ^ j)) (u *ℤ pos (2 ^ j)) (2 ^ low f) (pow_pos (low f))
      (multiples_apart t u (2 ^ j) (λ h. T_not (at_mostq (multiple u) (multiple t)) l (fraction_same_le (u *ℤ pos (2 ^ j))
      (t *ℤ pos (2 ^ j)) (2 ^ low f) (pow_pos (low f)) h))))

  -- a float whose exponent is j or more is such a multiple
  pub encoded_multiple : (x : Float) (X : Encoded f x) → j ≤ X.place / hid f - 1 → (t : ℤ) × (value x ≡ multiple t)
  encoded_multiple x X l =
      let k = X.place / hid f - 1 in
      let q = X.place - k * hid f in (
        signed X.sign (q * 2 ^ (k - j)),
        X.exact ∙ ap (λ (z : ℤ). fraction z (2 ^ low f) (pow_pos (low f)))
            (ap (λ (z : ℕ). signed X.sign (q * z)) (power_split k j l) ∙ ap (signed X.sign)
            (sym (mul_assoc q (2 ^ (k - j)) (2 ^ j))) ∙ sym (signed_mul X.sign (q * 2 ^ (k - j)) (2 ^ j))),
      )

  -- what a multiple rounds to is one
  pub rounded_multiple : (r : Float) (z : ℚ) (R : Rounded f r z) → T (finite r) → (t : ℤ) → z ≡ multiple t → (u : ℤ) ×
      (value r ≡ multiple u)
  rounded_multiple r z R F t e =
      let s = R.sign in
      let F' : T (finite (round f s R.over R.under)) = subst (λ (x : Float). T (finite x)) R.rounds F in
      let cross : signed s R.over *ℤ pos (2 ^ low f) ≡ t *ℤ pos (2 ^ j) *ℤ pos R.under
      = equal_means_≈ (record { numerator = signed s R.over; denominator = R.under; positive = R.positive })
      (record { numerator = t *ℤ pos (2 ^ j); denominator = 2 ^ low f; positive = pow_pos (low f) }) (sym R.exact ∙ e) in
      let n : R.over * 2 ^ low f ≡ absoluteℤ t * 2 ^ j * R.under
      = sym (absolute_signed s (R.over * 2 ^ low f)) ∙ ap absoluteℤ (sym (signed_mul s R.over (2 ^ low f)) ∙ cross) ∙ absolute_mul
      (t *ℤ pos (2 ^ j)) R.under ∙ ap (λ (z : ℕ). z * R.under) (absolute_mul t (2 ^ j)) in
      let g = grid_multiple (prec f) (R.over * 2 ^ low f) R.under j (absoluteℤ t) R.positive n in (
        signed s g.0,
        ap value R.rounds ∙ value_is (round f s R.over R.under) s (grid f R.over R.under) (2 ^ low f) (pow_pos (low f))
            (round_value f s R.over R.under R.positive F')
            ∙ ap (λ (z : ℤ). fraction z (2 ^ low f) (pow_pos (low f))) (ap (signed s) g.1 ∙ sym (signed_mul s g.0 (2 ^ j))),
      )
