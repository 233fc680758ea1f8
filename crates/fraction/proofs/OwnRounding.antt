-- A number of a format rounds to itself; so what is at most it rounds to at most it, and what is at least it to at least it.
use mathlib.Core.Path.{◌≡◌, refl, sym, ap, subst, ◌∙◌}
use mathlib.Core.Bool.{true, false, not, cond}
use Prim.Native.Nat.{ℕ, suc, ◌+◌, ◌-◌, ◌*◌, ◌/◌, ◌^◌, ◌<◌}
use native.Mathlib.Nat.{le_of_lt}
use native.Mathlib.Omega.{arith}
use lib.Dec.{T}
use lib.Pow.{pow_pos}
use lib.Ieee.{Float, nan, inf, fin, Format, prec, low, hid, ones, top, is_nan, fits, lt, le, of_bits, round}
use lib.Ieee.Bits.{of_bits-to_bits}
use lib.Ieee.Fits.{round-fits, two, two-le_pos}
use lib.Ieee.Exact.{HasValue, round_exact}
use lib.Ieee.Scale.{finite, overflow}
use Rattle.fraction.specs.Magnitude.{magnitude}
use Rattle.fraction.specs.Value.{value}
use Rattle.fraction.specs.Rational.{ℚ, ◌≤q◌}
use Rattle.fraction.specs.Rounding.{Rounded}
use Rattle.fraction.proofs.Comparison.{le_of_value}
use Rattle.fraction.proofs.Encoding.{hidden_pos, magnitude_infinity, to_bits_value}
use Rattle.fraction.proofs.Magnitude.{magnitude_lt, parts, power_twice}
use Rattle.fraction.proofs.Monotone.{rounded_monotone}
use Rattle.fraction.proofs.Rounding.{rounded_not_nan}
use Rattle.fraction.proofs.Value.{encoded, value_le_of_not_lt}

under_overflow : (f : Format) (p : ℕ) → p < ones f * hid f → magnitude (hid f) p < overflow f
under_overflow f p l = subst (λ (z : ℕ). magnitude (hid f) p < z) (ap (magnitude (hid f)) (rest (ones f * hid f) l) ∙ magnitude_infinity f)
    (magnitude_lt (hid f) p (ones f * hid f - suc p) (hidden_pos f))
  where
    rest : (n : ℕ) → p < n → suc p + (n - suc p) ≡ n
    rest n l = omega arith

-- a number of the format is its own rounding
pub rounded_self : (f : Format) (x : Float) → T (fits f x) → T (finite x) → Rounded f x (value x)
rounded_self f x fx F =
    let X = encoded f x fx F in
    let s = X.sign in
    let k = X.place / hid f - 1 in
    let q = X.place - k * hid f in
    let w = parts (hid f) X.place (hidden_pos f) (X.place / hid f) refl in
    let few : q < 2 ^ prec f = subst (λ (z : ℕ). q < z) (sym (power_twice (prec f) (two-le_pos (prec f) (two f)))) w.1 in
    let r = round f s (q * 2 ^ k) (2 ^ low f) in
    let v : HasValue r s (q * 2 ^ k) (2 ^ low f) = round_exact f s (q * 2 ^ k) (2 ^ low f) q k (pow_pos (low f)) few
    (under_overflow f X.place X.below_infinity) refl in
    record {
      sign = s;
      over = q * 2 ^ k;
      under = 2 ^ low f;
      positive = pow_pos (low f);
      rounds = sym (of_bits-to_bits f x fx) ∙ ap (of_bits f) (X.bits ∙ ap (λ (z : ℕ). cond s (top f) 0 + z) w.2
          ∙ sym (to_bits_value f r s q k v w.0 (le_of_lt few))) ∙ of_bits-to_bits f r (round-fits f s (q * 2 ^ k) (2 ^ low f));
      exact = X.exact;
    }

-- ---- roundings beside a number x of the format
not_above_le : (r x : Float) → T (not (is_nan r)) → T (finite x) → T (not (lt x r)) → le r x ≡ true
unfolding is_nan le lt
not_above_le nan x N X k = absurd N
not_above_le (inf s) nan N X k = absurd X
not_above_le (inf s) (inf u) N X k = absurd X
not_above_le (inf true) (fin u m c) N X k = refl
not_above_le (inf false) (fin u m c) N X k = absurd k
not_above_le (fin s m c) x N X k = le_of_value (fin s m c) x tt X (value_le_of_not_lt (fin s m c) x tt X k)

not_below_le : (r x : Float) → T (not (is_nan r)) → T (finite x) → T (not (lt r x)) → le x r ≡ true
unfolding is_nan le lt
not_below_le nan x N X k = absurd N
not_below_le (inf s) nan N X k = absurd X
not_below_le (inf s) (inf u) N X k = absurd X
not_below_le (inf true) (fin u m c) N X k = absurd k
not_below_le (inf false) (fin u m c) N X k = refl
not_below_le (fin s m c) x N X k = le_of_value x (fin s m c) X tt (value_le_of_not_lt x (fin s m c) X tt k)

module _ (f : Format) (x : Float) (F : T (fits f x)) (X : T (finite x)) (r : Float) (z : ℚ) (R : Rounded f r z) where
  -- what is at most x rounds to at most x
  pub rounds_below : z ≤q value x → le r x ≡ true
  rounds_below h = not_above_le r x (rounded_not_nan f r z R) X (rounded_monotone f r x z (value x) R (rounded_self f x F X) h)

  -- and what is at least x to at least x
  pub rounds_above : value x ≤q z → le x r ≡ true
  rounds_above h = not_below_le r x (rounded_not_nan f r z R) X (rounded_monotone f x r (value x) z (rounded_self f x F X) R h)
