-- What a finite bit pattern is worth, and which pattern a value has: `of_bits` and `to_bits` by sign and magnitude.
use mathlib.Core.Bool.{Bool, cond, false, true}
use mathlib.Core.Logic.{◌⊎◌, inl, inr}
use mathlib.Core.Path.{◌∙◌, ◌≡◌, ap, refl, subst, sym}
use Prim.Native.Nat.{◌%◌, ◌*◌, ◌+◌, ◌-◌, ◌/◌, ◌<◌, ◌^◌, ◌≤◌, suc, zero, ℕ}
use native.Mathlib.Decide.{dec_lt}
use native.Mathlib.Nat.{add_assoc, add-mod_left, div-add-mod', div-lt_iff_lt-mul, div-one, eq-or-lt_of_le, le-add_right, le_of_eq, le_refl, le_trans, mod-eq_of_lt, mul-add-mod_self_left, mul-div_cancel, mul-le-mul_right, mul-mod_left, mul-one, pow-suc, zero-add}
use native.Mathlib.Omega.{arith}
use lib.Arith.{le→nltb, lt→nleb}
use lib.Dec.{T, eqb, eqb→eq, leb, le→leb, ltb}
use lib.Ieee.{Float, Format, down, emax, fin, hid, inf, low, nan, nan_bits, odd, of_bits, of_fields, ones, prec, size, to_bits, top, up}
use lib.Ieee.Bits.{is_false, is_true, nan_bits_above}
use lib.Ieee.Digits.{size-le}
use lib.Ieee.Exact.{HasValue, odd_sign}
use lib.Ieee.Fits.{down_pos, eq→eqb, two, two-le_pos}
use lib.Ieee.Scale.{overflow}
use lib.IntN.{ℤ}
use lib.Pow.{pow-add, pow_pos, shl_lt, shl-shr}
use Rattle.fraction.specs.Magnitude.{magnitude}
use Rattle.fraction.proofs.Magnitude.{magnitude_at, magnitude_le, power_twice, size_gt}

-- the weight of the exponent's field is above 0
pub hidden_pos : (f : Format) → 0 < hid f
hidden_pos f = pow_pos (prec f - 1)

fields_value : (f : Format) (s : Bool) (x t : ℕ) → x < ones f → HasValue (of_fields f s x t) s
    ((x * hid f + t - (x - 1) * hid f) * 2 ^ (x - 1)) (2 ^ low f)
unfolding of_fields
fields_value f s zero t X = subst (λ (z : ℕ). HasValue (odd (prec f) s t 0 (low f)) s z (2 ^ low f)) (same (hid f))
    (odd_sign (prec f) s t 0 (low f))
  where
    same : (h : ℕ) → t * 1 ≡ (0 * h + t - 0 * h) * 1
    same h = omega arith
fields_value f s (suc x) t X = go (eqb (suc x) (ones f)) (eqb→eq (suc x) (ones f))
  where
    pr : (k : ℕ) → suc k - 1 ≡ k
    pr k = omega arith

    cut : (h : ℕ) → h + t ≡ suc x * h + t - x * h
    cut h = omega arith

    never : suc x ≡ ones f → suc x < ones f → ⊥
    never e l = omega arith

    go : (b : Bool) → (T b → suc x ≡ ones f) → HasValue (cond b (cond (eqb t 0) (inf s) nan) (odd (prec f) s (hid f + t) x (low f))) s
        ((suc x * hid f + t - (suc x - 1) * hid f) * 2 ^ (suc x - 1)) (2 ^ low f)
    go true e = absurd (never (e tt) X)
    go false e =
        subst (λ (k : ℕ). HasValue (odd (prec f) s (hid f + t) x (low f)) s ((suc x * hid f + t - k * hid f) * 2 ^ k) (2 ^ low f))
        (sym (pr x))
        (subst (λ (z : ℕ). HasValue (odd (prec f) s (hid f + t) x (low f)) s (z * 2 ^ x) (2 ^ low f)) (cut (hid f))
        (odd_sign (prec f) s (hid f + t) x (low f)))

read : (f : Format) (s t : Bool) (b B : ℕ) → b < ones f * hid f → t ≡ s → B % top f ≡ b → B % hid f ≡ b % hid f
    → HasValue (of_fields f t (B % top f / hid f) (B % hid f)) s (magnitude (hid f) b) (2 ^ low f)
read f s t b B l e x y =
    let h = hid f in
    let v = fields_value f s (b / h) (b % h) ((div-lt_iff_lt-mul (hidden_pos f)).1 l) in
    rw (e, x, y) (subst (λ (z : ℕ). HasValue (of_fields f s (b / h) (b % h)) s ((z - (b / h - 1) * h) * 2 ^ (b / h - 1)) (2 ^ low f))
    (div-add-mod' b h) v)

-- a finite pattern, of sign s and place b, stands for b's magnitude, in the format's smallest unit
pub of_bits_value : (f : Format) (s : Bool) (b : ℕ) → b < ones f * hid f → HasValue (of_bits f (cond s (top f) 0 + b)) s (magnitude (hid f)
    b) (2 ^ low f)
unfolding of_bits
of_bits_value f true b l = read f true (leb (top f) (top f + b)) b (top f + b) l (is_true (leb (top f) (top f + b))
    (le→leb (top f) (top f + b) (le-add_right (top f) b)))
    (add-mod_left (top f) b ∙ mod-eq_of_lt (under (hid f) (ones f) l)) (mul-add-mod_self_left (hid f) (suc (ones f)) b)
  where
    under : (h o : ℕ) → b < o * h → b < h * suc o
    under h o l = omega arith
of_bits_value f false b l = read f false (leb (top f) (0 + b)) b (0 + b) l (is_false (leb (top f) (0 + b))
    (lt→nleb (top f) (0 + b) (under (hid f) (ones f) l))) (ap (λ (z : ℕ). z % top f) (zero-add b) ∙ mod-eq_of_lt
    (under' (hid f) (ones f) l)) (ap (λ (z : ℕ). z % hid f) (zero-add b))
  where
    under : (h o : ℕ) → b < o * h → 0 + b < h * suc o
    under h o l = omega arith

    under' : (h o : ℕ) → b < o * h → b < h * suc o
    under' h o l = omega arith

-- what `to_bits` writes for n units
abbrev idx : ℕ → ℕ → ℕ
idx p n = (size n - p) * 2 ^ (p - 1) + n / 2 ^ (size n - p)

idx_low : (p q : ℕ) → q < 2 ^ p → idx p q ≡ q
idx_low p q l = ap (λ (z : ℕ). z * 2 ^ (p - 1) + q / 2 ^ z) (none (size q) (size-le q p l))
    ∙ ap (λ (z : ℕ). 0 * 2 ^ (p - 1) + z) (div-one q) ∙ zero' (2 ^ (p - 1))
  where
    none : (z : ℕ) → z ≤ p → z - p ≡ 0
    none z h = omega arith

    zero' : (h : ℕ) → 0 * h + q ≡ q
    zero' h = omega arith

idx_mid : (p q k : ℕ) → 0 < p → 2 ^ (p - 1) ≤ q → q < 2 ^ p → idx p (q * 2 ^ k) ≡ k * 2 ^ (p - 1) + q
idx_mid p q k P g l =
    let n = q * 2 ^ k in
    let a : size n ≤ p + k = size-le n (p + k) (shl_lt p k l) in
    let b : p - 1 + k < size n = size_gt n (p - 1 + k) (le_trans (le_of_eq (pow-add 2 (p - 1) k)) (mul-le-mul_right (2 ^ k) g)) in
    ap (λ (z : ℕ). z * 2 ^ (p - 1) + n / 2 ^ z) (is (size n) a b) ∙ ap (λ (z : ℕ). k * 2 ^ (p - 1) + z) (shl-shr q k)
  where
    is : (z : ℕ) → z ≤ p + k → p - 1 + k < z → z - p ≡ k
    is z a b = omega arith

idx_at : (p q k : ℕ) → 0 < p → (2 ^ (p - 1) ≤ q) ⊎ (k ≡ 0) → q ≤ 2 ^ p → idx p (q * 2 ^ k) ≡ k * 2 ^ (p - 1) + q
idx_at p q k P side le = elim (eq-or-lt_of_le le) [ inl e ↦ last e | inr l ↦ inside l side ]
  where
    inside : q < 2 ^ p → (2 ^ (p - 1) ≤ q) ⊎ (k ≡ 0) → idx p (q * 2 ^ k) ≡ k * 2 ^ (p - 1) + q
    inside l (inl g) = idx_mid p q k P g l
    inside l (inr z) = subst (λ (j : ℕ). idx p (q * 2 ^ j) ≡ j * 2 ^ (p - 1) + q) (sym z) (ap (idx p) (mul-one q) ∙ idx_low p q l ∙ plain
        (2 ^ (p - 1)))
      where
        plain : (h : ℕ) → q ≡ 0 * h + q
        plain h = omega arith

    last : q ≡ 2 ^ p → idx p (q * 2 ^ k) ≡ k * 2 ^ (p - 1) + q
    last e =
        let t : 2 ^ p ≡ 2 * 2 ^ (p - 1) = power_twice p P in
        ap (idx p) (again (2 ^ (p - 1)) (e ∙ t)) ∙ idx_mid p (2 ^ (p - 1)) (suc k) P (le_refl (2 ^ (p - 1)))
        (half (2 ^ (p - 1)) (2 ^ p) t (pow_pos (p - 1))) ∙ fin' (2 ^ (p - 1)) (e ∙ t)
      where
        again : (h : ℕ) → q ≡ 2 * h → q * 2 ^ k ≡ h * 2 ^ suc k
        again h e = omega (arith, ap (λ (x : ℕ). h * x) (pow-suc 2 k), ap (λ (x : ℕ). x * 2 ^ k) e)

        half : (h w : ℕ) → w ≡ 2 * h → 0 < h → h < w
        half h w e l = omega arith

        fin' : (h : ℕ) → q ≡ 2 * h → suc k * h + h ≡ k * h + q
        fin' h e = omega arith

-- the pattern of q * 2 ^ k units
pub to_bits_finite : (f : Format) (s : Bool) (m : ℕ) (e : ℤ) (q k : ℕ) → HasValue (fin s m e) s (q * 2 ^ k) (2 ^ low f) → (hid f ≤ q)
    ⊎ (k ≡ 0) → q ≤ 2 ^ prec f
    → to_bits f (fin s m e) ≡ cond s (top f) 0 + (k * hid f + q)
unfolding to_bits
to_bits_finite f s m e q k v side le =
    let n : m * up e * 2 ^ low f / down e ≡ q * 2 ^ k = ap (λ (z : ℕ). z / down e) v.1 ∙ mul-div_cancel (q * 2 ^ k) (down_pos e) in
    let p = prec f in
    ap (λ (z : ℕ). cond s (top f) 0 + (size z - p) * hid f + z / 2 ^ (size z - p)) n
    ∙ add_assoc (cond s (top f) 0) ((size (q * 2 ^ k) - p) * hid f) (q * 2 ^ k / 2 ^ (size (q * 2 ^ k) - p))
    ∙ ap (λ (z : ℕ). cond s (top f) 0 + z) (idx_at p q k (two-le_pos p (two f)) side le)

-- the same of any float that has this value
pub to_bits_value : (f : Format) (x : Float) (s : Bool) (q k : ℕ) → HasValue x s (q * 2 ^ k) (2 ^ low f) → (hid f ≤ q) ⊎ (k ≡ 0) → q
    ≤ 2 ^ prec f → to_bits f x ≡ cond s (top f) 0 + (k * hid f + q)
to_bits_value f nan s q k v side le = absurd v
to_bits_value f (inf t) s q k v side le = absurd v
to_bits_value f (fin t m e) s q k v side le = to_bits_finite f t m e q k (refl, v.1) side le
    ∙ ap (λ (z : Bool). cond z (top f) 0 + (k * hid f + q)) v.0

-- the first infinity stands where the values would pass the largest
pub magnitude_infinity : (f : Format) → magnitude (hid f) (ones f * hid f) ≡ overflow f
magnitude_infinity f =
    ap (magnitude (hid f)) (last (emax f) (hid f)) ∙ magnitude_at (hid f) (hid f) (2 * emax f) (hidden_pos f) (inl (le_refl (hid f)))
    (dbl (hid f))
    ∙ sym (pow-add 2 (prec f - 1) (2 * emax f)) ∙ ap (λ (z : ℕ). 2 ^ z) (same (emax f) (prec f) (two f))
  where
    last : (e h : ℕ) → (2 * e + 1) * h ≡ 2 * e * h + h
    last e h = omega arith

    dbl : (h : ℕ) → h ≤ 2 * h
    dbl h = omega arith

    same : (e p : ℕ) → 2 ≤ p → p - 1 + 2 * e ≡ e + p - 2 + suc e
    same e p l = omega arith

-- what is below the overflow has a finite number's place
pub place_below_infinity : (f : Format) (b : ℕ) → magnitude (hid f) b < overflow f → b < ones f * hid f
place_below_infinity f b l = elim (dec_lt b (ones f * hid f)) [ yes g ↦ g | no n ↦ absurd (clash l (over n)) ]
  where
    clash : magnitude (hid f) b < overflow f → overflow f ≤ magnitude (hid f) b → ⊥
    clash x y = omega arith

    rest : (x : ℕ) → ¬ (b < x) → x + (b - x) ≡ b
    rest x n = omega arith

    over : ¬ (b < ones f * hid f) → overflow f ≤ magnitude (hid f) b
    over n = subst (λ (z : ℕ). z ≤ magnitude (hid f) b) (magnitude_infinity f)
        (subst (λ (z : ℕ). magnitude (hid f) (ones f * hid f) ≤ magnitude (hid f) z) (rest (ones f * hid f) n)
        (magnitude_le (hid f) (ones f * hid f) (b - ones f * hid f) (hidden_pos f)))

at_ones : (f : Format) (s : Bool) (x t : ℕ) → x ≡ ones f → t ≡ 0 → of_fields f s x t ≡ inf s
unfolding of_fields
at_ones f s zero t e z = absurd (never (emax f) e)
  where
    never : (m : ℕ) → 0 ≡ 2 * m + 1 → ⊥
    never m e = omega arith
at_ones f s (suc x) t e z =
    ap (λ (b : Bool). cond b (cond (eqb t 0) (inf s) nan) (lib.Ieee.odd (prec f) s (hid f + t) x (low f)))
    (is_true (eqb (suc x) (ones f)) (eq→eqb e))
    ∙ ap (λ (b : Bool). cond b (inf s) nan) (is_true (eqb t 0) (eq→eqb z))

-- the infinities' patterns
pub of_bits_infinity : (f : Format) (s : Bool) → of_bits f (cond s (top f) 0 + ones f * hid f) ≡ inf s
unfolding of_bits
of_bits_infinity f true =
    ap (λ (b : Bool). of_fields f b ((top f + ones f * hid f) % top f / hid f) ((top f + ones f * hid f) % hid f))
    (is_true (leb (top f) (top f + ones f * hid f)) (le→leb (top f) (top f + ones f * hid f) (le-add_right (top f) (ones f * hid f))))
    ∙ at_ones f true ((top f + ones f * hid f) % top f / hid f) ((top f + ones f * hid f) % hid f)
    (ap (λ (z : ℕ). z / hid f) (add-mod_left (top f) (ones f * hid f) ∙ mod-eq_of_lt (under (hid f) (ones f) (hidden_pos f)))
    ∙ mul-div_cancel (ones f) (hidden_pos f))
    (mul-add-mod_self_left (hid f) (suc (ones f)) (ones f * hid f) ∙ mul-mod_left (ones f) (hid f))
  where
    under : (h o : ℕ) → 0 < h → o * h < h * suc o
    under h o l = omega arith
of_bits_infinity f false =
    ap (of_bits f) (zero-add (ones f * hid f))
    ∙ ap (λ (b : Bool). of_fields f b (ones f * hid f % top f / hid f) (ones f * hid f % hid f))
    (is_false (leb (top f) (ones f * hid f)) (lt→nleb (top f) (ones f * hid f) (under (hid f) (ones f) (hidden_pos f))))
    ∙ at_ones f false (ones f * hid f % top f / hid f) (ones f * hid f % hid f)
    (ap (λ (z : ℕ). z / hid f) (mod-eq_of_lt (under (hid f) (ones f) (hidden_pos f))) ∙ mul-div_cancel (ones f) (hidden_pos f))
    (mul-mod_left (ones f) (hid f))
  where
    under : (h o : ℕ) → 0 < h → o * h < h * suc o
    under h o l = omega arith

-- a finite number's place is below the sign's weight
pub finite_below_sign : (f : Format) {b : ℕ} → b < ones f * hid f → b < top f
finite_below_sign f {b} l = go (hid f) (ones f) l
  where
    go : (h o : ℕ) → b < o * h → b < h * suc o
    go h o l = omega arith

-- a pattern at or below the infinity's is no NaN's
pub bits_not_nan : (f : Format) (s : Bool) (p : ℕ) → p ≤ ones f * hid f → nan_bits f (cond s (top f) 0 + p) ≡ false
bits_not_nan f s p l = nan_bits_above f (cond s (top f) 0 + p) ∙ is_false (ltb (ones f * hid f) ((cond s (top f) 0 + p) % top f))
    (le→nltb (ones f * hid f) ((cond s (top f) 0 + p) % top f) (subst (λ (z : ℕ). z ≤ ones f * hid f) (sym (cut s)) l))
  where
    under : (h o : ℕ) → 0 < h → p ≤ o * h → p < h * suc o
    under h o H l = omega arith

    cut : (s : Bool) → (cond s (top f) 0 + p) % top f ≡ p
    cut true = add-mod_left (top f) p ∙ mod-eq_of_lt (under (hid f) (ones f) (hidden_pos f) l)
    cut false = ap (λ (z : ℕ). z % top f) (zero-add p) ∙ mod-eq_of_lt (under (hid f) (ones f) (hidden_pos f) l)
