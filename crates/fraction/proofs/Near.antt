-- How far a number is from what it was rounded from, and from the next number: at most one part in hid f of its size (2^-52 for
-- binary64), and the smallest number.
use mathlib.Core.Bool.{Bool, cond, false, true}
use mathlib.Core.List.{[], ◌∷◌}
use mathlib.Core.Logic.{◌⊎◌, inl, inr}
use mathlib.Core.Path.{◌∙◌, ◌≡◌, ap, refl, subst, sym}
use Prim.Native.Nat.{◌*◌, ◌+◌, ◌-◌, ◌/◌, ◌<◌, ◌^◌, ◌≤◌, suc, zero, ℕ}
use native.Mathlib.Decide.{dec_le, dec_lt}
use native.Mathlib.Nat.{add-zero, le-suc, le_trans, mul-le-mul_right, zero-add}
use native.Mathlib.Omega.{arith}
use lib.Dec.{T}
use lib.Ieee.{Float, Format, fits, hid, low, of_bits, ones, round, top}
use lib.Ieee.Scale.{finite}
use lib.IntN.{neg_ℤ, neg_ℤ-neg_ℤ, pos, ℤ}
use lib.Pow.{pow_pos}
use Rattle.fraction.specs.Integer.{signed}
use Rattle.fraction.specs.Magnitude.{magnitude}
use Rattle.fraction.specs.NextNumber.{down_bits, next_down, next_up, up_bits}
use Rattle.fraction.specs.Order.{le_one, le_two}
use Rattle.fraction.specs.Rational.{◌*q◌, ◌+q◌, ◌≤q◌, absolute, negq, wholeq, ℚ}
use Rattle.fraction.specs.RationalRing.{rational_ring}
use Rattle.fraction.specs.Ring.{◌⊕◌, ◌⊗◌, con, opposite, v0, v1, v2, v3, v4, v5}
use Rattle.fraction.specs.Rounding.{Rounded}
use Rattle.fraction.specs.Value.{fraction, value}
use Rattle.fraction.proofs.Encoding.{finite_below_sign, hidden_pos, of_bits_infinity, of_bits_value}
use Rattle.fraction.proofs.Magnitude.{magnitude_step, magnitude_suc, magnitude_zero, parts}
use Rattle.fraction.proofs.Neighbours.{rounded_encoded}
use Rattle.fraction.proofs.NextNumber.{down_negative, down_positive, down_when_plus_zero, next_down_finite, next_up_finite, smallest, suc_one, up_negative, up_positive, up_when_minus_zero}
use Rattle.fraction.proofs.Rational.{absolute_above, rational_order, ≤f-gives-≤q, ≤q-whole}
use Rattle.fraction.proofs.RoundedPlace.{place, round_above, round_below}
use Rattle.fraction.proofs.Value.{encoded, fraction_le, place_value, value_is}

-- 1 / hid f
abbrev pub part : Format → ℚ
part f = fraction (pos 1) (hid f) (hidden_pos f)

-- the smallest number above 0
abbrev pub least : Format → ℚ
least f = fraction (pos 1) (2 ^ low f) (pow_pos (low f))

-- what a rounding of z may cost
abbrev pub room : Format → ℚ → ℚ
room f z = part f *q absolute z +q least f

-- ---- in natural numbers
-- from one place to the next: at most one part in h more, and 1
magnitude_near : (h p : ℕ) → 0 < h → h * magnitude h (suc p) ≤ h * magnitude h p + magnitude h p + h
magnitude_near h p H =
    subst (λ (z : ℕ). h * z ≤ h * magnitude h p + magnitude h p + h) (sym (magnitude_suc h p H))
    (go (p - (p / h - 1) * h) (p / h - 1) (parts h p H (p / h) refl).0)
  where
    large : (q u : ℕ) → h ≤ q → h * (suc q * u) ≤ h * (q * u) + q * u + h
    large q u g = omega (arith, mul-le-mul_right u g)

    small : (q : ℕ) → h * (suc q * 1) ≤ h * (q * 1) + q * 1 + h
    small q = omega arith

    go : (q k : ℕ) → (h ≤ q) ⊎ (k ≡ 0) → h * (suc q * 2 ^ k) ≤ h * (q * 2 ^ k) + q * 2 ^ k + h
    go q k (inl g) = large q (2 ^ k) g
    go q k (inr e) = subst (λ (j : ℕ). h * (suc q * 2 ^ j) ≤ h * (q * 2 ^ j) + q * 2 ^ j + h) (sym e) (small q)

-- n / c lies between the values of the places before and after p: it is near p's, and p's is near it
place_above : (h n c p : ℕ) → 0 < h → ((b : ℕ) → suc b ≡ p → magnitude h b * c ≤ n) → h * (magnitude h p * c) ≤ h * n + n + h * c
place_above h n c zero H W = subst (λ (z : ℕ). h * (z * c) ≤ h * n + n + h * c) (sym (magnitude_zero h H)) (omega arith)
place_above h n c (suc b) H W = go (magnitude h b) (magnitude h (suc b)) (magnitude_near h b H) (W b refl)
  where
    scaled : (m : ℕ) → m * c ≤ n → h * (m * c) ≤ h * n
    scaled m l = omega (arith, mul-le-mul_right h l)

    go : (m v : ℕ) → h * v ≤ h * m + m + h → m * c ≤ n → h * (v * c) ≤ h * n + n + h * c
    go m v k l = omega (arith, mul-le-mul_right c k, scaled m l)

place_below : (h n c p : ℕ) → 0 < h → n ≤ magnitude h (suc p) * c → h * n ≤ h * (magnitude h p * c) + n + h * c
place_below h n c p H A = elim (dec_le (magnitude h p * c) n) [
  | yes l ↦ near (magnitude h p) (magnitude h (suc p)) (magnitude_near h p H) A l
  | no g ↦ plain (magnitude h p * c) g
]
  where
    near : (m v : ℕ) → h * v ≤ h * m + m + h → n ≤ v * c → m * c ≤ n → h * n ≤ h * (m * c) + n + h * c
    near m v k a l = omega (arith, mul-le-mul_right c k, mul-le-mul_right h a)

    plain : (w : ℕ) → ¬ (w ≤ n) → h * n ≤ h * w + n + h * c
    plain w g = omega (arith, mul-le-mul_right h (less g))
      where
        less : ¬ (w ≤ n) → n ≤ w
        less g = omega arith

-- ---- in ℚ, without signs
-- v / d ≤ z / c + (1 / h * (x / e) + 1 / w), by cross products
near_by : (h w v d z c x e : ℕ) (H : 0 < h) (W : 0 < w) (D : 0 < d) (C : 0 < c) (E : 0 < e)
    → v * (c * (h * e * w)) ≤ (z * (h * e * w) + (x * w + h * e) * c) * d
    → fraction (pos v) d D ≤q fraction (pos z) c C +q (fraction (pos 1) h H *q fraction (pos x) e E +q fraction (pos 1) w W)
unfolding ◌+q◌ ◌*q◌
near_by h w v d z c x e H W D C E l = ≤f-gives-≤q _ _ (omega (arith, l))

module _ (f : Format) where
  -- a / c, without a sign, and what its rounding may cost
  abbrev over : (a c : ℕ) → 0 < c → ℚ
  over a c C = fraction (pos a) c C

  abbrev cost : (a c : ℕ) → 0 < c → ℚ
  cost a c C = part f *q over a c C +q least f

  part_nonnegative : wholeq (pos 0) ≤q part f
  part_nonnegative = fraction_le (pos 0) (pos 1) 1 (hid f) (omega arith) (hidden_pos f) (omega arith)

  -- a / c is at most |z|, where z is it with a sign
  size_at_most : (s : Bool) (a c : ℕ) (C : 0 < c) → over a c C ≤q absolute (fraction (signed s a) c C)
  unfolding negq
  size_at_most false a c C = (absolute_above (fraction (pos a) c C)).0
  size_at_most true a c C =
      subst (λ (z : ℤ). fraction z c C ≤q absolute (fraction (neg_ℤ (pos a)) c C)) (neg_ℤ-neg_ℤ (pos a))
      (absolute_above (fraction (neg_ℤ (pos a)) c C)).1

  -- so the cost is at most the room
  within_room : (s : Bool) (a c : ℕ) (C : 0 < c) (x y : ℚ) → x ≤q y +q cost a c C → x ≤q y +q room f (fraction (signed s a) c C)
  within_room s a c C x y l =
      le_two rational_ring ◌≤q◌ rational_order
      (x ∷ y ∷ part f ∷ over a c C ∷ absolute (fraction (signed s a) c C) ∷ least f ∷ []) v0 (v1 ⊕ (v2 ⊗ v4 ⊕ v5)) (con (pos 1)) v0
      (v1 ⊕ (v2 ⊗ v3 ⊕ v5)) v2 v3 v4 tt (≤q-whole 1) l part_nonnegative (size_at_most s a c C)

  -- x ≤ y + r gives -y ≤ -x + r
  turned : (x y r : ℚ) → x ≤q y +q r → negq y ≤q negq x +q r
  turned x y r l = le_one rational_ring ◌≤q◌ rational_order (x ∷ y ∷ r ∷ []) (opposite v1) (opposite v0 ⊕ v2) (con (pos 1)) v0 (v1 ⊕ v2) tt
      (≤q-whole 1) l

  negated : (a d b c : ℕ) (D : 0 < d) (C : 0 < c) (r : ℚ) → over a d D ≤q over b c C +q r
      → fraction (neg_ℤ (pos b)) c C ≤q fraction (neg_ℤ (pos a)) d D +q r
  unfolding negq
  negated a d b c D C r l = turned (over a d D) (over b c C) r l

  -- two bounds on the sizes are two bounds on the numbers of either sign
  with_sign : (s : Bool) (a d b c : ℕ) (D : 0 < d) (C : 0 < c) (r : ℚ) → over a d D ≤q over b c C +q r → over b c C ≤q over a d D +q r
      → (fraction (signed s a) d D ≤q fraction (signed s b) c C +q r) × (fraction (signed s b) c C ≤q fraction (signed s a) d D +q r)
  with_sign false a d b c D C r l k = (l, k)
  with_sign true a d b c D C r l k = (negated b c a d C D r k, negated a d b c D C r l)

  -- ---- rounding
  module _ (a c p : ℕ) (C : 0 < c) where
    up_product : (h w m : ℕ) → h * (m * c) ≤ h * (a * w) + a * w + h * c
        → m * (c * (h * c * w)) ≤ (a * (h * c * w) + (a * w + h * c) * c) * w
    up_product h w m l = omega (arith, mul-le-mul_right (c * w) l)

    down_product : (h w m : ℕ) → h * (a * w) ≤ h * (m * c) + a * w + h * c
        → a * (w * (h * c * w)) ≤ (m * (h * c * w) + (a * w + h * c) * w) * c
    down_product h w m l = omega (arith, mul-le-mul_right (c * w) l)

    place_over : ((b : ℕ) → suc b ≡ p → magnitude (hid f) b * c ≤ a * 2 ^ low f)
        → over (magnitude (hid f) p) (2 ^ low f) (pow_pos (low f)) ≤q over a c C +q cost a c C
    place_over W =
        near_by (hid f) (2 ^ low f) (magnitude (hid f) p) (2 ^ low f) a c a c (hidden_pos f) (pow_pos (low f)) (pow_pos (low f)) C C
        (up_product (hid f) (2 ^ low f) (magnitude (hid f) p) (place_above (hid f) (a * 2 ^ low f) c p (hidden_pos f) W))

    place_under : a * 2 ^ low f ≤ magnitude (hid f) (suc p) * c
        → over a c C ≤q over (magnitude (hid f) p) (2 ^ low f) (pow_pos (low f)) +q cost a c C
    place_under A =
        near_by (hid f) (2 ^ low f) a c (magnitude (hid f) p) (2 ^ low f) a c (hidden_pos f) (pow_pos (low f)) C (pow_pos (low f)) C
        (down_product (hid f) (2 ^ low f) (magnitude (hid f) p) (place_below (hid f) (a * 2 ^ low f) c p (hidden_pos f) A))

    place_near : (s : Bool) → a * 2 ^ low f ≤ magnitude (hid f) (suc p) * c
        → ((b : ℕ) → suc b ≡ p → magnitude (hid f) b * c ≤ a * 2 ^ low f)
        → (place_value f s p ≤q fraction (signed s a) c C +q room f (fraction (signed s a) c C))
        × (fraction (signed s a) c C ≤q place_value f s p +q room f (fraction (signed s a) c C))
    place_near s A W =
        let m = over (magnitude (hid f) p) (2 ^ low f) (pow_pos (low f)) in
        with_sign s (magnitude (hid f) p) (2 ^ low f) a c (pow_pos (low f)) C (room f (fraction (signed s a) c C))
        (within_room s a c C m (over a c C) (place_over W)) (within_room s a c C (over a c C) m (place_under A))

  -- ---- the next number
  step_product : (h w m v x : ℕ) → h * v ≤ h * m + x + h → v * (w * (h * w * w)) ≤ (m * (h * w * w) + (x * w + h * w) * w) * w
  step_product h w m v x l = omega (arith, mul-le-mul_right (w * w * w) l)

  -- v is at most m, one part of x and 1, all in units of the smallest number; x has any sign
  step_near : (s : Bool) (m v x : ℕ) → hid f * v ≤ hid f * m + x + hid f → over v (2 ^ low f) (pow_pos (low f))
      ≤q over m (2 ^ low f) (pow_pos (low f)) +q room f (fraction (signed s x) (2 ^ low f) (pow_pos (low f)))
  step_near s m v x l =
      within_room s x (2 ^ low f) (pow_pos (low f)) (over v (2 ^ low f) (pow_pos (low f))) (over m (2 ^ low f) (pow_pos (low f)))
      (near_by (hid f) (2 ^ low f) v (2 ^ low f) m (2 ^ low f) x (2 ^ low f) (hidden_pos f) (pow_pos (low f)) (pow_pos (low f))
      (pow_pos (low f)) (pow_pos (low f)) (step_product (hid f) (2 ^ low f) m v x l))

  -- from a place to the next, the room being that of the lower or of the higher
  step_low : (s : Bool) (p : ℕ) → place_value f false (suc p) ≤q place_value f false p +q room f (place_value f s p)
  step_low s p = step_near s (magnitude (hid f) p) (magnitude (hid f) (suc p)) (magnitude (hid f) p) (magnitude_near (hid f) p
      (hidden_pos f))

  step_high : (s : Bool) (p : ℕ) → place_value f false (suc p) ≤q place_value f false p +q room f (place_value f s (suc p))
  step_high s p = step_near s (magnitude (hid f) p) (magnitude (hid f) (suc p)) (magnitude (hid f) (suc p))
      (omega (arith, magnitude_near (hid f) p (hidden_pos f), magnitude_step (hid f) p (hidden_pos f)))

  -- from 0 to the smallest number
  step_zero : (s : Bool) → least f ≤q fraction (pos 0) (2 ^ low f) (pow_pos (low f)) +q room f (fraction (signed s 0) (2 ^ low f)
      (pow_pos (low f)))
  step_zero s = step_near s 0 1 0 (omega arith)

  zero_place : (s : Bool) → place_value f s 0 ≡ fraction (pos 0) (2 ^ low f) (pow_pos (low f))
  zero_place s = ap (λ (z : ℕ). fraction (signed s z) (2 ^ low f) (pow_pos (low f))) (magnitude_zero (hid f) (hidden_pos f)) ∙ none s
    where
      none : (s : Bool) → fraction (signed s 0) (2 ^ low f) (pow_pos (low f)) ≡ fraction (pos 0) (2 ^ low f) (pow_pos (low f))
      none false = refl
      none true = refl

  -- a finite pattern is worth its place's value
  pattern_value : (s : Bool) (p : ℕ) → p ≤ ones f * hid f → T (finite (of_bits f (cond s (top f) 0 + p)))
      → value (of_bits f (cond s (top f) 0 + p)) ≡ place_value f s p
  pattern_value s p l F = elim (dec_lt p (ones f * hid f)) [
    | yes g ↦ value_is (of_bits f (cond s (top f) 0 + p)) s (magnitude (hid f) p) (2 ^ low f) (pow_pos (low f)) (of_bits_value f s p g)
    | no n ↦ absurd (subst (λ (x : Float). T (finite x)) (ap (λ (z : ℕ). of_bits f (cond s (top f) 0 + z)) (same l n) ∙ of_bits_infinity f s)
        F)
  ]
    where
      same : p ≤ ones f * hid f → ¬ (p < ones f * hid f) → p ≡ ones f * hid f
      same l n = omega arith

  up_go : (s : Bool) (p : ℕ) → p < ones f * hid f → T (finite (of_bits f (up_bits f (cond s (top f) 0 + p))))
      → value (of_bits f (up_bits f (cond s (top f) 0 + p))) ≤q place_value f s p +q room f (place_value f s p)
  up_go false p l F =
      let e : up_bits f (0 + p) ≡ 0 + suc p = ap (up_bits f) (zero-add p) ∙ up_positive f p l ∙ sym (zero-add (suc p)) in
      let G : T (finite (of_bits f (0 + suc p))) = subst (λ (b : ℕ). T (finite (of_bits f b))) e F in
      subst (λ (x : ℚ). x ≤q place_value f false p +q room f (place_value f false p))
      (sym (ap (λ (b : ℕ). value (of_bits f b)) e ∙ pattern_value false (suc p) l G)) (step_low false p)
  up_go true zero l F =
      let e : up_bits f (top f + 0) ≡ 1 = ap (up_bits f) (add-zero (top f)) ∙ up_when_minus_zero f (top f) refl in
      subst (λ (x : ℚ). value (of_bits f (up_bits f (top f + 0))) ≤q x +q room f x) (sym (zero_place true))
      (subst (λ (x : ℚ). x ≤q fraction (pos 0) (2 ^ low f) (pow_pos (low f)) +q room f (fraction (pos 0) (2 ^ low f) (pow_pos (low f))))
      (sym (ap (λ (b : ℕ). value (of_bits f b)) e ∙ smallest f false)) (step_zero false))
  up_go true (suc b) l F =
      subst (λ (x : ℚ). x ≤q place_value f true (suc b) +q room f (place_value f true (suc b)))
      (sym (ap (λ (b : ℕ). value (of_bits f b)) (up_negative f b) ∙ value_is (of_bits f (top f + b)) true (magnitude (hid f) b) (2 ^ low f)
      (pow_pos (low f)) (of_bits_value f true b (le_trans (le-suc (suc b)) l))))
      (negated (magnitude (hid f) (suc b)) (2 ^ low f) (magnitude (hid f) b) (2 ^ low f) (pow_pos (low f)) (pow_pos (low f))
      (room f (place_value f true (suc b))) (step_high true b))

  down_go : (s : Bool) (p : ℕ) → p < ones f * hid f → T (finite (of_bits f (down_bits f (cond s (top f) 0 + p))))
      → place_value f s p ≤q value (of_bits f (down_bits f (cond s (top f) 0 + p))) +q room f (place_value f s p)
  down_go true p l F =
      let e : down_bits f (top f + p) ≡ top f + suc p = down_negative f p l in
      let G : T (finite (of_bits f (top f + suc p))) = subst (λ (b : ℕ). T (finite (of_bits f b))) e F in
      subst (λ (x : ℚ). place_value f true p ≤q x +q room f (place_value f true p))
      (sym (ap (λ (b : ℕ). value (of_bits f b)) e ∙ pattern_value true (suc p) l G))
      (negated (magnitude (hid f) (suc p)) (2 ^ low f) (magnitude (hid f) p) (2 ^ low f) (pow_pos (low f)) (pow_pos (low f))
      (room f (place_value f true p)) (step_low true p))
  down_go false zero l F =
      let e : down_bits f (0 + 0) ≡ top f + 1 = ap (down_bits f) (zero-add 0) ∙ down_when_plus_zero f 0 refl ∙ suc_one (top f) in
      subst (λ (x : ℚ). x ≤q value (of_bits f (down_bits f (0 + 0))) +q room f x) (sym (zero_place false))
      (subst (λ (x : ℚ). fraction (pos 0) (2 ^ low f) (pow_pos (low f)) ≤q x +q room f (fraction (pos 0) (2 ^ low f) (pow_pos (low f))))
      (sym (ap (λ (b : ℕ). value (of_bits f b)) e ∙ smallest f true))
      (negated 1 (2 ^ low f) 0 (2 ^ low f) (pow_pos (low f)) (pow_pos (low f)) (room f (fraction (pos 0) (2 ^ low f) (pow_pos (low f))))
      (step_zero false)))
  down_go false (suc b) l F =
      let e : down_bits f (0 + suc b) ≡ 0 + b = ap (down_bits f) (zero-add (suc b)) ∙ down_positive f b (finite_below_sign f l)
      ∙ sym (zero-add b) in
      subst (λ (x : ℚ). place_value f false (suc b) ≤q x +q room f (place_value f false (suc b)))
      (sym (ap (λ (b : ℕ). value (of_bits f b)) e ∙ value_is (of_bits f (0 + b)) false (magnitude (hid f) b) (2 ^ low f)
      (pow_pos (low f)) (of_bits_value f false b (le_trans (le-suc (suc b)) l)))) (step_high false b)

-- what is rounded to nearest is not far from what it was
pub rounded_near : (f : Format) (r : Float) (z : ℚ) → Rounded f r z → T (finite r)
    → (value r ≤q z +q room f z) × (z ≤q value r +q room f z)
unfolding rounded_encoded
rounded_near f r z R F =
    let s = R.sign in
    let F' : T (finite (round f s R.over R.under)) = subst (λ (x : Float). T (finite x)) R.rounds F in
    let p = place f s R.over R.under R.positive F' in
    subst (λ (w : ℚ). (value r ≤q w +q room f w) × (w ≤q value r +q room f w)) (sym R.exact)
    (subst (λ (v : ℚ). (v ≤q fraction (signed s R.over) R.under R.positive +q room f
    (fraction (signed s R.over) R.under R.positive))
    × (fraction (signed s R.over) R.under R.positive ≤q v +q room f (fraction (signed s R.over) R.under R.positive)))
    (sym (rounded_encoded f r z R F).exact) (place_near f R.over R.under p R.positive s
    (round_above f s R.over R.under R.positive F') (round_below f s R.over R.under R.positive F')))

-- the next number up, and the next number down
pub up_near : (f : Format) (x : Float) → T (fits f x) → T (finite x) → T (finite (next_up f x))
    → value (next_up f x) ≤q value x +q room f (value x)
up_near f x fx F G =
    let E = encoded f x fx F in
    let e : next_up f x ≡ of_bits f (up_bits f (cond E.sign (top f) 0 + E.place)) = next_up_finite f x F
    ∙ ap (λ (b : ℕ). of_bits f (up_bits f b)) E.bits in
    subst (λ (v : ℚ). value (next_up f x) ≤q v +q room f v) (sym E.exact)
    (subst (λ (y : Float). value y ≤q place_value f E.sign E.place +q room f (place_value f E.sign E.place)) (sym e)
    (up_go f E.sign E.place E.below_infinity (subst (λ (y : Float). T (finite y)) e G)))

pub down_near : (f : Format) (x : Float) → T (fits f x) → T (finite x) → T (finite (next_down f x))
    → value x ≤q value (next_down f x) +q room f (value x)
down_near f x fx F G =
    let E = encoded f x fx F in
    let e : next_down f x ≡ of_bits f (down_bits f (cond E.sign (top f) 0 + E.place)) = next_down_finite f x F
    ∙ ap (λ (b : ℕ). of_bits f (down_bits f b)) E.bits in
    subst (λ (v : ℚ). v ≤q value (next_down f x) +q room f v) (sym E.exact)
    (subst (λ (y : Float). place_value f E.sign E.place ≤q value y +q room f (place_value f E.sign E.place)) (sym e)
    (down_go f E.sign E.place E.below_infinity (subst (λ (y : Float). T (finite y)) e G)))
