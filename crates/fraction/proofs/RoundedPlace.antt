-- Where `round` puts a fraction: the place, among the format's patterns, of what it is rounded to, and that the fraction lies between the
-- values one place on either side.
use mathlib.Core.Bool.{Bool, cond, false, not, true}
use mathlib.Core.Logic.{◌⊎◌, inl, inr}
use mathlib.Core.Path.{◌∙◌, ◌≡◌, ap, refl, subst, sym}
use Prim.Native.Nat.{Ordering, ◌%◌, ◌*◌, ◌+◌, ◌-◌, ◌/◌, ◌<◌, ◌^◌, ◌≤◌, compare, suc, ℕ}
use native.Mathlib.Decide.{dec_lt}
use native.Mathlib.Nat.{div-add-mod', div-div-eq-div-mul, div-mul-le_self, le-div_iff_mul-le, le_of_eq, le_of_lt, le_refl, le-suc, le_trans, lt-div-mul-add, mod-lt, mul-le-mul_right, mul-pos}
use native.Mathlib.Omega.{arith}
use lib.Arith.{lt_of_le-ne}
use lib.Dec.{T, eqb, eqb_refl, eqb→eq, compare_is_eq, is_le, leb→le, ltb, ltb→lt, nleb→lt}
use lib.Ieee.{Float, Format, hid, inf, low, nearest, odd, ones, prec, round, size, to_bits, top, units}
use lib.Ieee.Digits.{size_reaches}
use lib.Ieee.Exact.{HasValue, units_val}
use lib.Ieee.Fits.{kept-lt, nearest-le, round_is, two, two-le_pos}
use lib.Ieee.Nearest.{closest, nearest-ge}
use lib.Ieee.Order.{drop, kept}
use lib.Ieee.Scale.{finite, grid, overflow}
use lib.Pow.{pow-add, pow_pos}
use Rattle.fraction.specs.Magnitude.{magnitude}
use Rattle.fraction.proofs.Encoding.{hidden_pos, place_below_infinity, to_bits_value}
use Rattle.fraction.proofs.Magnitude.{magnitude_at, magnitude_mono, magnitude_step, power_twice}

near : (q : ℕ) (o : Ordering) → (nearest q o ≡ q) ⊎ (nearest q o ≡ suc q)
near q Ordering.lt = inl refl
near q Ordering.eq = elim (dec_lt (q % 2) 1) [ yes l ↦ inl (a l) | no g ↦ inr (b g (mod-lt q (pow_pos 1))) ]
  where
    a : q % 2 < 1 → q + q % 2 ≡ q
    a l = omega arith

    b : ¬ (q % 2 < 1) → q % 2 < 2 → q + q % 2 ≡ suc q
    b g l = omega arith
near q Ordering.gt = inr refl

under_of : (f : Format) (s : Bool) (q k : ℕ) → T (finite (units f s q k)) → q * 2 ^ k < overflow f
unfolding units
under_of f s q k = go (ltb (q * 2 ^ k) (overflow f)) (ltb→lt (q * 2 ^ k) (overflow f))
  where
    go : (b : Bool) → (T b → q * 2 ^ k < overflow f) → T (finite (cond b (odd (suc (prec f)) s q k (low f)) (inf s))) → q * 2 ^ k
        < overflow f
    go true h t = h tt
    go false h t = absurd t

-- what `compare` says
abbrev pub Compared : Ordering → ℕ → ℕ → Type 0
Compared Ordering.lt a b = a < b
Compared Ordering.eq a b = a ≡ b
Compared Ordering.gt a b = b < a

pub compared : (a b : ℕ) → Compared (compare a b) a b
compared a b = go (compare a b) (leb→le a b) (nleb→lt a b) (eqb→eq a b) (λ (e : a ≡ b). subst (λ (x : ℕ). T (eqb a x)) e (eqb_refl a))
  where
    go : (o : Ordering) → (T (is_le o) → a ≤ b) → (T (not (is_le o)) → b < a) → (T (compare_is_eq o) → a ≡ b) → (a ≡ b → T (compare_is_eq o)) → Compared o a b
    go Ordering.lt h k e n = lt_of_le-ne (h tt) n
    go Ordering.eq h k e n = e tt
    go Ordering.gt h k e n = k tt

-- the whole number nearest to n / u is at most half a unit away
closest_half : (n u : ℕ) → 0 < u → (2 * (closest n u * u) ≤ 2 * n + u) × (2 * n ≤ 2 * (closest n u * u) + u)
closest_half n u U = go (n / u) (n % u) (div-add-mod' n u) (mod-lt n U) (compare (n % u * 2) u) (compared (n % u * 2) u)
  where
    go : (q m : ℕ) → q * u + m ≡ n → m < u → (o : Ordering) → Compared o (m * 2) u → (2 * (nearest q o * u) ≤ 2 * n + u)
        × (2 * n ≤ 2 * (nearest q o * u) + u)
    go q m e l Ordering.lt h = (omega arith, omega arith)
    go q m e l Ordering.gt h = (omega arith, omega arith)
    go q m e l Ordering.eq h = elim (near q Ordering.eq) [
      | inl x ↦ subst (λ (z : ℕ). (2 * (z * u) ≤ 2 * n + u) × (2 * n ≤ 2 * (z * u) + u)) (sym x) (omega arith, omega arith)
      | inr x ↦ subst (λ (z : ℕ). (2 * (z * u) ≤ 2 * n + u) × (2 * n ≤ 2 * (z * u) + u)) (sym x) (omega arith, omega arith)
    ]

-- n / c lies from q to q + 1 units of 2 ^ k, and K, one of the two, is nearest to it: it lies between the middles of K's value and any
-- other
module _ (h q k c n : ℕ) (H : 0 < h) (side : (h ≤ q) ⊎ (k ≡ 0)) (Q : q < 2 * h) (lo : q * (c * 2 ^ k) ≤ n)
    (hi : n < q * (c * 2 ^ k) + c * 2 ^ k) where
  at_floor : magnitude h (k * h + q) ≡ q * 2 ^ k
  at_floor = magnitude_at h q k H side (le_of_lt Q)

  at_suc : magnitude h (k * h + suc q) ≡ suc q * 2 ^ k
  at_suc = magnitude_at h (suc q) k H (more side) Q
    where
      more : (h ≤ q) ⊎ (k ≡ 0) → (h ≤ suc q) ⊎ (k ≡ 0)
      more (inl g) = inl (le_trans g (le-suc q))
      more (inr z) = inr z

  middle_above : (K b : ℕ) → (K ≡ q) ⊎ (K ≡ suc q) → 2 * n ≤ 2 * (K * (c * 2 ^ k)) + c * 2 ^ k → k * h + K < b → 2 * n
      ≤ (magnitude h (k * h + K) + magnitude h b) * c
  middle_above K b (inl e) l g =
      let m : suc q * 2 ^ k * c ≤ magnitude h b * c = mul-le-mul_right c (le_trans (le_of_eq (sym at_suc))
      (magnitude_mono h (k * h + suc q) b H (next e g))) in
      subst (λ (z : ℕ). 2 * n ≤ (z + magnitude h b) * c) (sym (ap (λ (z : ℕ). magnitude h (k * h + z)) e ∙ at_floor))
      (omega (arith, subst (λ (z : ℕ). 2 * n ≤ 2 * (z * (c * 2 ^ k)) + c * 2 ^ k) e l))
    where
      next : K ≡ q → k * h + K < b → k * h + suc q ≤ b
      next e g = omega arith
  middle_above K b (inr e) l g =
      let m : suc q * 2 ^ k * c ≤ magnitude h b * c = mul-le-mul_right c (le_trans (le_of_eq (sym at_suc))
      (magnitude_mono h (k * h + suc q) b H (next e g))) in
      subst (λ (z : ℕ). 2 * n ≤ (z + magnitude h b) * c) (sym (ap (λ (z : ℕ). magnitude h (k * h + z)) e ∙ at_suc)) (omega arith)
    where
      next : K ≡ suc q → k * h + K < b → k * h + suc q ≤ b
      next e g = omega arith

  middle_below : (K b : ℕ) → (K ≡ q) ⊎ (K ≡ suc q) → 2 * (K * (c * 2 ^ k)) ≤ 2 * n + c * 2 ^ k → b < k * h + K
      → (magnitude h b + magnitude h (k * h + K)) * c ≤ 2 * n
  middle_below K b (inl e) l g =
      let m : magnitude h b * c ≤ q * 2 ^ k * c = mul-le-mul_right c (le_trans (magnitude_mono h b (k * h + q) H (prev e g))
      (le_of_eq at_floor)) in
      subst (λ (z : ℕ). (magnitude h b + z) * c ≤ 2 * n) (sym (ap (λ (z : ℕ). magnitude h (k * h + z)) e ∙ at_floor)) (omega arith)
    where
      prev : K ≡ q → b < k * h + K → b ≤ k * h + q
      prev e g = omega arith
  middle_below K b (inr e) l g =
      let m : magnitude h b * c ≤ q * 2 ^ k * c = mul-le-mul_right c (le_trans (magnitude_mono h b (k * h + q) H (prev e g))
      (le_of_eq at_floor)) in
      subst (λ (z : ℕ). (magnitude h b + z) * c ≤ 2 * n) (sym (ap (λ (z : ℕ). magnitude h (k * h + z)) e ∙ at_suc))
      (omega (arith, subst (λ (z : ℕ). 2 * (z * (c * 2 ^ k)) ≤ 2 * n + c * 2 ^ k) e l))
    where
      prev : K ≡ suc q → b < k * h + K → b ≤ k * h + q
      prev e g = omega arith

-- n / c in units, for a format of p digits
module _ (p n c : ℕ) (P : 0 < p) (C : 0 < c) where
  abbrev floor : ℕ
  floor = n / (c * 2 ^ drop p n c)

  unit_pos : 0 < c * 2 ^ drop p n c
  unit_pos = mul-pos C (pow_pos (drop p n c))

  floor_lt : floor < 2 ^ p
  floor_lt = subst (λ (x : ℕ). x < 2 ^ p) (div-div-eq-div-mul n c (2 ^ drop p n c)) (kept-lt p (n / c))

  floor_side : (2 ^ (p - 1) ≤ floor) ⊎ (drop p n c ≡ 0)
  floor_side = elim (dec_lt 0 (drop p n c)) [ yes l ↦ inl (big l) | no g ↦ inr (none (drop p n c) g) ]
    where
      none : (z : ℕ) → ¬ (0 < z) → z ≡ 0
      none z g = omega arith

      full : (z : ℕ) → 0 < z - p → p - 1 + (z - p) < z
      full z h = omega arith

      big : 0 < drop p n c → 2 ^ (p - 1) ≤ floor
      big l =
          subst (λ (x : ℕ). 2 ^ (p - 1) ≤ x) (div-div-eq-div-mul n c (2 ^ drop p n c))
          ((le-div_iff_mul-le (pow_pos (drop p n c))).1 (le_trans (le_of_eq (sym (pow-add 2 (p - 1) (drop p n c))))
          (size_reaches (n / c) (p - 1 + drop p n c) (full (size (n / c)) l))))

  kept_near : (kept p n c ≡ floor) ⊎ (kept p n c ≡ suc floor)
  kept_near = near floor (compare (n % (c * 2 ^ drop p n c) * 2) (c * 2 ^ drop p n c))

  kept_side : (2 ^ (p - 1) ≤ kept p n c) ⊎ (drop p n c ≡ 0)
  kept_side = go floor_side
    where
      go : (2 ^ (p - 1) ≤ floor) ⊎ (drop p n c ≡ 0) → (2 ^ (p - 1) ≤ kept p n c) ⊎ (drop p n c ≡ 0)
      go (inl g) = inl (le_trans g (nearest-ge floor (compare (n % (c * 2 ^ drop p n c) * 2) (c * 2 ^ drop p n c))))
      go (inr z) = inr z

  kept_top : kept p n c ≤ 2 ^ p
  kept_top = le_trans (nearest-le floor (compare (n % (c * 2 ^ drop p n c) * 2) (c * 2 ^ drop p n c))) floor_lt

  floor_lt2 : floor < 2 * 2 ^ (p - 1)
  floor_lt2 = subst (λ (z : ℕ). floor < z) (power_twice p P) floor_lt

  kept_middle_above : (b : ℕ) → drop p n c * 2 ^ (p - 1) + kept p n c < b → 2 * n ≤ (magnitude (2 ^ (p - 1))
      (drop p n c * 2 ^ (p - 1) + kept p n c) + magnitude (2 ^ (p - 1)) b) * c
  kept_middle_above b =
      middle_above (2 ^ (p - 1)) floor (drop p n c) c n (pow_pos (p - 1)) floor_side floor_lt2 (div-mul-le_self n (c * 2 ^ drop p n c))
      (lt-div-mul-add unit_pos) (kept p n c) b kept_near (closest_half n (c * 2 ^ drop p n c) unit_pos).1

  kept_middle_below : (b : ℕ) → b < drop p n c * 2 ^ (p - 1) + kept p n c → (magnitude (2 ^ (p - 1)) b + magnitude (2 ^ (p - 1))
      (drop p n c * 2 ^ (p - 1) + kept p n c)) * c ≤ 2 * n
  kept_middle_below b =
      middle_below (2 ^ (p - 1)) floor (drop p n c) c n (pow_pos (p - 1)) floor_side floor_lt2 (div-mul-le_self n (c * 2 ^ drop p n c))
      (lt-div-mul-add unit_pos) (kept p n c) b kept_near (closest_half n (c * 2 ^ drop p n c) unit_pos).0

-- ---- `round`: its bits, and what lies on either side of it
module _ (f : Format) (s : Bool) (a c : ℕ) (C : 0 < c) (F : T (finite (round f s a c))) where
  -- the place of the rounded value
  abbrev pub place : ℕ
  place = drop (prec f) (a * 2 ^ low f) c * hid f + kept (prec f) (a * 2 ^ low f) c

  -- what `round` gives is its place's value
  pub round_value : HasValue (round f s a c) s (grid f a c) (2 ^ low f)
  round_value =
      let K = kept (prec f) (a * 2 ^ low f) c in
      let k = drop (prec f) (a * 2 ^ low f) c in
      subst (λ (z : Float). HasValue z s (K * 2 ^ k) (2 ^ low f)) (sym (round_is f s a c))
      (units_val f s K k (under_of f s K k (subst (λ (z : Float). T (finite z)) (round_is f s a c) F)))

  -- and has that place's bits
  pub round_bits : to_bits f (round f s a c) ≡ cond s (top f) 0 + place
  round_bits =
      let P = two-le_pos (prec f) (two f) in
      to_bits_value f (round f s a c) s (kept (prec f) (a * 2 ^ low f) c) (drop (prec f) (a * 2 ^ low f) c) round_value
      (kept_side (prec f) (a * 2 ^ low f) c P C) (kept_top (prec f) (a * 2 ^ low f) c P C)

  -- a / c lies between the middle of the rounded value and any lower one, and the middle of it and any higher one
  pub round_middle_above : (b : ℕ) → place < b → 2 * (a * 2 ^ low f) ≤ (magnitude (hid f) place + magnitude (hid f) b) * c
  round_middle_above = kept_middle_above (prec f) (a * 2 ^ low f) c (two-le_pos (prec f) (two f)) C

  pub round_middle_below : (b : ℕ) → b < place → (magnitude (hid f) b + magnitude (hid f) place) * c ≤ 2 * (a * 2 ^ low f)
  round_middle_below = kept_middle_below (prec f) (a * 2 ^ low f) c (two-le_pos (prec f) (two f)) C

  -- so a / c is at most the value of the next place
  pub round_above : a * 2 ^ low f ≤ magnitude (hid f) (suc place) * c
  round_above = omega (
    arith,
    round_middle_above (suc place) (le_refl (suc place)),
    mul-le-mul_right c
        (magnitude_step (hid f) place (hidden_pos f)),
  )

  -- and at least the value of the place before
  pub round_below : (b : ℕ) → suc b ≡ place → magnitude (hid f) b * c ≤ a * 2 ^ low f
  round_below b e = omega (
    arith,
    round_middle_below b (le_of_eq e),
    mul-le-mul_right c (magnitude_mono (hid f) b place (hidden_pos f)
        (le_trans (le-suc b) (le_of_eq e))),
  )

  -- the place's magnitude is what `round` keeps
  pub place_magnitude : magnitude (hid f) place ≡ grid f a c
  place_magnitude =
      let P = two-le_pos (prec f) (two f) in
      magnitude_at (hid f) (kept (prec f) (a * 2 ^ low f) c) (drop (prec f) (a * 2 ^ low f) c) (hidden_pos f)
      (kept_side (prec f) (a * 2 ^ low f) c P C)
      (subst (λ (z : ℕ). kept (prec f) (a * 2 ^ low f) c ≤ z) (power_twice (prec f) P) (kept_top (prec f) (a * 2 ^ low f) c P C))

  -- the place is that of a finite number
  pub place_finite : place < ones f * hid f
  place_finite =
      place_below_infinity f place (subst (λ (z : ℕ). z < overflow f) (sym place_magnitude)
      (under_of f s (kept (prec f) (a * 2 ^ low f) c) (drop (prec f) (a * 2 ^ low f) c) (subst (λ (z : Float). T (finite z))
      (round_is f s a c) F)))
