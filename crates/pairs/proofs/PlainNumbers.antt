-- A number plus +0 is the number, and +0 for either zero.
use mathlib.Core.Bool.{Bool, cond, false, true, true≢false}
use mathlib.Core.List.{[], ◌∷◌}
use mathlib.Core.Path.{◌∙◌, ◌≡◌, ap, refl, subst, sym}
use Prim.Native.Nat.{◌*◌, ◌+◌, ◌-◌, ◌/◌, ◌^◌, ◌<◌, ◌≤◌, suc, zero, ℕ}
use native.Mathlib.Omega.{arith}
use native.Mathlib.Nat.{mul-pos, pow-suc, zero-mul}
use native.Mathlib.Decide.{dec_lt}
use mathlib.Core.Logic.{◌⊎◌, inl, inr}
use lib.Dec.{T, eqb, eqb→eq}
use lib.Pow.{pow_pos}
use lib.Ieee.{Float, add, binary64, down, eq, fin, fits, inf, is_nan, lt, nan, nan_bits, of_bits, round, sum, to_bits, up}
use lib.Ieee.Bits.{nan_bits_is, of_bits-fits, of_bits-to_bits}
use lib.Ieee.Exact.{HasValue, round_exact}
use lib.Ieee.Fits.{add-fits, cond-fits, down_pos, round-fits, up_pos}
use lib.Ieee.Scale.{finite}
use lib.IntN.{negsuc, pos, ℤ}
use Rattle.fraction.specs.DirectedSum.{Downward, plain_zero}
use Rattle.fraction.specs.Pair.{lowest}
use Rattle.fraction.specs.Rational.{◌+q◌, ◌≤q◌, at_mostq, ℚ, 𝟘}
use Rattle.fraction.specs.RationalRing.{rational_ring}
use Rattle.fraction.specs.Ring.{◌⊕◌, con, solve, v0}
use Rattle.fraction.specs.Rounding.{Rounded}
use Rattle.fraction.specs.Fraction.{whole_fraction}
use Rattle.fraction.specs.Integer.{parts_neg}
use Rattle.fraction.specs.Value.{exact_fraction, value}
use Rattle.fraction.proofs.DirectedSum.{Plain, a_zero, downward_unique, no_zero, plain_cases}
use Rattle.fraction.proofs.OwnRounding.{rounded_self, rounds_above, rounds_below}
use Rattle.fraction.proofs.Rational.{≤q-antisymmetric, ≤q-means-≤f, ≤q-refl}
use Rattle.fraction.proofs.Value.{signed_mul}
use Rattle.fraction.proofs.Rounding.{add_rounded}
use Rattle.pairs.specs.Spreads.{bounded}
use Rattle.pairs.specs.Structs.{largest_number}
use Rattle.fraction.specs.NextNumber.{next_up, up_bits}
use Rattle.fraction.proofs.NextNumber.{next_up_bits, up_not_nan}
use Rattle.pairs.proofs.BitSteps.{Below, below_bits, below_number, up_step}
use Rattle.pairs.proofs.Outward.{under_infinity}
use Rattle.pairs.proofs.Numbers.{between, rounded_same}
use Rattle.pairs.proofs.Spreading.{zero_value}

-- ---- plain numbers of one value are one number
own : (x : Float) → T (fits binary64 x) → T (finite x) → (p : Float) → Plain binary64 x p → Downward binary64 (value x) p
unfolding fits of_bits
own x F X p (a_zero G e) =
    record {
      of_format = tt;
      not_above = subst (λ (z : ℚ). z ≤q value x) (e ∙ sym zero_value) (≤q-refl (value x));
      largest = λ v W H h. subst (λ (z : ℚ). value v ≤q z) (e ∙ sym zero_value) h;
      zero = λ W e. refl;
    }
own (fin s m e) F X p (no_zero n) =
    record {
      of_format = F;
      not_above = ≤q-refl (value (fin s m e));
      largest = λ v W H h. h;
      zero = λ W z. absurd (n tt z);
    }
own nan F X p (no_zero n) = absurd X
own (inf s) F X p (no_zero n) = absurd X

pub plain_unique : (x y : Float) → T (fits binary64 x) → T (fits binary64 y) → T (finite x) → T (finite y) → value x ≡ value y
    → plain_zero binary64 x ≡ plain_zero binary64 y
plain_unique x y F G X Y e = downward_unique binary64 (value x) _ _ (own x F X _ (plain_cases binary64 x))
    (subst (λ (z : ℚ). Downward binary64 z (plain_zero binary64 y)) (sym e) (own y G Y _ (plain_cases binary64 y)))

-- ---- +0 is the only zero with its sign
no_exponent : (e : ℤ) → T (eqb (up e * down e) 1) → e ≡ pos 0
no_exponent (pos k) t = ap pos (go k (eqb→eq (2 ^ k * 1) 1 t))
  where
    go : (k : ℕ) → 2 ^ k * 1 ≡ 1 → k ≡ 0
    go zero h = refl
    go (suc k) h = let p = pow_pos k in let q : 2 ^ suc k ≡ 2 ^ k * 2 = pow-suc 2 k in absurd (omega arith)
no_exponent (negsuc k) t = let h = eqb→eq (1 * 2 ^ suc k) 1 t in
    let p = pow_pos k in let q : 2 ^ suc k ≡ 2 ^ k * 2 = pow-suc 2 k in absurd (omega arith)

zero_form : (x : Float) (c : ℕ) → 0 < c → T (fits binary64 x) → HasValue x false 0 c → x ≡ fin false 0 (pos 0)
unfolding fits
zero_form nan c C F v = absurd v
zero_form (inf s) c C F v = absurd v
zero_form (fin s zero e) c C F v = ap (λ (b : Bool). fin b 0 e) v.0 ∙ ap (fin false 0) (no_exponent e F)
zero_form (fin s (suc m) e) c C F v = let q : 0 < suc m = omega arith in let p = mul-pos (mul-pos q (up_pos e)) C in absurd (omega
    (arith, v.1))

round_nothing : (c : ℕ) → 0 < c → round binary64 false 0 c ≡ fin false 0 (pos 0)
round_nothing c C = zero_form (round binary64 false 0 c) c C (round-fits binary64 false 0 c)
    (round_exact binary64 false 0 c 0 0 C (pow_pos 53) (pow_pos 2098) (sym (zero-mul c)))

-- ---- plus +0
abbrev nothing : Float
nothing = fin false 0 (pos 0)

plus_nothing : (s : Bool) (e : ℤ) → add binary64 (fin s 0 e) nothing ≡ nothing
unfolding add sum
plus_nothing s e = rw (zero-mul (up e), zero-mul (down e)) (go s)
  where
    c : 0 < down e * 1
    c = let p = down_pos e in omega arith

    go : (s : Bool) → sum binary64 s 0 false 0 (down e * 1) ≡ nothing
    go false = round_nothing (down e * 1) c
    go true = round_nothing (down e * 1) c

zero_plain : (s : Bool) (e : ℤ) → plain_zero binary64 (fin s 0 e) ≡ nothing
unfolding plain_zero eq of_bits
zero_plain true e = rw (zero-mul (up e), zero-mul (down e)) refl
zero_plain false e = rw (zero-mul (up e), zero-mul (down e)) refl

-- a number that is no zero
not_nothing : (m : ℕ) (s : Bool) (e : ℤ) → value (fin s (suc m) e) ≡ 𝟘 → ⊥
not_nothing m false e h =
    let p : 0 < suc m = omega arith in
    let q = mul-pos p (up_pos e) in
    let k = ≤q-means-≤f (exact_fraction (fin false (suc m) e)) (whole_fraction (pos 0)) (subst (λ (z : ℚ). z ≤q 𝟘) (sym h) (≤q-refl 𝟘)) in
    absurd (omega (arith, q, k))
not_nothing m true e h =
    let p : 0 < suc m = omega arith in
    let q = mul-pos p (up_pos e) in
    let k = ≤q-means-≤f (whole_fraction (pos 0)) (exact_fraction (fin true (suc m) e)) (subst (λ (z : ℚ). 𝟘 ≤q z) (sym h) (≤q-refl 𝟘)) in
    absurd (omega (
      arith,
      q,
      rw (signed_mul true (suc m * up e) 1) at k,
      (parts_neg (pos (suc m * up e * 1))).0,
      (parts_neg (pos (suc m *
          up e * 1))).1,
    ))

plus_to_itself : (y : Float) → T (fits binary64 y) → T (finite y) → (value y ≡ 𝟘 → ⊥) → add binary64 y nothing ≡ plain_zero binary64 y
plus_to_itself y F Y n =
    let r = add binary64 y nothing in
    let R : Rounded binary64 r (value y) = subst (Rounded binary64 r) (ap (λ (z : ℚ). value y +q z) zero_value
    ∙ solve rational_ring (value y ∷ []) (v0 ⊕ con (pos 0)) v0 tt) (add_rounded binary64 y nothing Y tt) in
    let G = between r y y Y Y (rounds_above binary64 y F Y r (value y) R (≤q-refl (value y)))
    (rounds_below binary64 y F Y r (value y) R (≤q-refl (value y))) in
    let e = rounded_same r y (value y) R (rounded_self binary64 y F Y) G Y in
    sym (itself r _ (plain_cases binary64 r) e) ∙ plain_unique r y (add-fits binary64 y nothing) F G Y e
  where
    itself : (r p : Float) → Plain binary64 r p → value r ≡ value y → p ≡ r
    itself r p (a_zero G z) e = absurd (n (sym e ∙ z))
    itself r p (no_zero k) e = refl

pub add_plain : (y : Float) → T (fits binary64 y) → add binary64 y nothing ≡ plain_zero binary64 y
unfolding add plain_zero eq of_bits
add_plain nan F = refl
add_plain (inf s) F = refl
add_plain (fin s zero e) F = plus_nothing s e ∙ sym (zero_plain s e)
add_plain (fin s (suc m) e) F = plus_to_itself (fin s (suc m) e) F tt (not_nothing m s e)

-- ---- what the code steps from: its pattern is none of -0, of +∞ or of a NaN
largest_under : lt largest_number (inf false) ≡ true
unfolding lt of_bits
largest_under = refl

under : (x : Float) → lt (lowest largest_number x) (inf false) ≡ true
unfolding lowest
under x = go (lt x largest_number) refl
  where
    go : (b : Bool) → lt x largest_number ≡ b → lt (cond b x largest_number) (inf false) ≡ true
    go true t = under_infinity x t
    go false t = largest_under

pub lowest_fits : (x : Float) → T (fits binary64 x) → T (fits binary64 (lowest largest_number x))
unfolding lowest
lowest_fits x F = cond-fits binary64 (lt x largest_number) x largest_number F (of_bits-fits binary64 0x7fef_ffff_ffff_ffff)

negative : Float → Bool
negative nan = false
negative (inf s) = s
negative (fin s m e) = s

module _ (x : Float) (F : T (fits binary64 x)) where
  plain_fits : (p : Float) → Plain binary64 (lowest largest_number x) p → T (fits binary64 p)
  unfolding fits
  plain_fits p (a_zero G e) = tt
  plain_fits p (no_zero n) = lowest_fits x F

  pub bounded_fits : T (fits binary64 (bounded x))
  bounded_fits = plain_fits (bounded x) (plain_cases binary64 (lowest largest_number x))

  plain_under : (p : Float) → Plain binary64 (lowest largest_number x) p → lt p (inf false) ≡ true
  unfolding lt
  plain_under p (a_zero G e) = refl
  plain_under p (no_zero n) = under x

  pub bounded_under : lt (bounded x) (inf false) ≡ true
  bounded_under = plain_under (bounded x) (plain_cases binary64 (lowest largest_number x))

  minus_zero : value (of_bits binary64 0x8000_0000_0000_0000) ≡ 𝟘
  unfolding of_bits at_mostq
  minus_zero = ≤q-antisymmetric _ _ tt tt

  never : (p : Float) → Plain binary64 (lowest largest_number x) p → p ≡ of_bits binary64 0x8000_0000_0000_0000 → ⊥
  unfolding of_bits negative
  never p (a_zero G e) h = true≢false (sym (ap negative h))
  never p (no_zero n) h = n (subst (λ (z : Float). T (finite z)) (sym h) tt) (ap value h ∙ minus_zero)

  pub not_minus_zero : to_bits binary64 (bounded x) ≡ 0x8000_0000_0000_0000 → ⊥
  not_minus_zero h = never (bounded x) (plain_cases binary64 (lowest largest_number x)) (sym (of_bits-to_bits binary64 (bounded x)
      bounded_fits)
      ∙ ap (of_bits binary64) h)

  pub bounded_bits : ((to_bits binary64 (bounded x) < 0x7ff0_0000_0000_0000) ⊎ (0x8000_0000_0000_0000 < to_bits binary64 (bounded x)))
      × (to_bits binary64 (bounded x) ≤ 0xfff0_0000_0000_0000)
  bounded_bits = go (to_bits binary64 (bounded x)) (below_bits (bounded x) bounded_under bounded_fits) not_minus_zero
    where
      go : (b : ℕ) → Below b → (b ≡ 0x8000_0000_0000_0000 → ⊥) → ((b < 0x7ff0_0000_0000_0000) ⊎ (0x8000_0000_0000_0000 < b)) × (b ≤
          0xfff0_0000_0000_0000)
      go b B n = elim B.0 [
        | inl h ↦ (inl h, B.1)
        | inr h ↦ elim (dec_lt 0x8000_0000_0000_0000 b) [
          | yes g ↦ (inr g, B.1)
          | no g ↦ absurd (n (omega arith))
        ]
      ]

-- ---- the step
pub step_pattern : (b : ℕ) → ((b < 0x7ff0_0000_0000_0000) ⊎ (0x8000_0000_0000_0000 < b)) × (b ≤ 0xfff0_0000_0000_0000)
    → b + 1 - 2 * (b / 2 ^ 63) ≡ up_bits binary64 b
step_pattern b h = up_step b b ((λ e. absurd (elim h.0 [ inl l ↦ omega arith | inr l ↦ omega arith ])), (λ n. refl))
    (elim h.0 [ inl l ↦ inl l | inr l ↦ inr (omega arith) ], h.1)

pub bounded_not_nan : (x : Float) → T (fits binary64 x) → is_nan (bounded x) ≡ false
bounded_not_nan x F = below_number (bounded x) (bounded_under x F)

pub stepped : (x : Float) → T (fits binary64 x) → (t : Bool) → of_bits binary64 (cond t (up_bits binary64 (to_bits binary64 (bounded x)))
    (to_bits binary64 (bounded x))) ≡ cond t (next_up binary64 (bounded x)) (bounded x)
stepped x F true = sym (next_up_bits binary64 (bounded x) (bounded_not_nan x F))
stepped x F false = of_bits-to_bits binary64 (bounded x) (bounded_fits x F)

pub stepped_not_nan : (x : Float) → T (fits binary64 x) → (t : Bool) → nan_bits binary64 (cond t (up_bits binary64 (to_bits binary64
    (bounded x)))
    (to_bits binary64 (bounded x))) ≡ false
stepped_not_nan x F true = up_not_nan binary64 (bounded x) (bounded_fits x F) (rw (bounded_not_nan x F) tt)
stepped_not_nan x F false = nan_bits_is binary64 (to_bits binary64 (bounded x)) ∙ ap is_nan (of_bits-to_bits binary64 (bounded x)
    (bounded_fits x F))
    ∙ bounded_not_nan x F
