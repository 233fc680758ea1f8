-- The definition of the square root is what it says: `sqrt_of` gives a `SquareRoot`, no other value is one, and no tie occurs.
use mathlib.Core.Path.{◌≡◌, refl, sym, ap, ◌∙◌, subst}
use mathlib.Core.Bool.{Bool, true, false, not}
use mathlib.Core.Logic.{◌⊎◌, inl, inr}
use Prim.Native.Nat.{ℕ, zero, suc, ◌+◌, ◌-◌, ◌*◌, ◌/◌, ◌^◌, ◌<◌}
use native.Mathlib.Nat.{zero-add, mul-le-mul_right, le_of_mul-le-mul_right, mul-pos, lt_of_lt_of_le, le_trans, le-suc, le_of_eq, eq-or-lt_of_le, lt-div-mul-add}
use native.Mathlib.Omega.{arith}
use lib.Dec.{T, leb, leb→le, le→leb, nleb→lt}
use lib.Arith.{lt→nleb}
use lib.IntN.{ℤ, pos}
use lib.Pow.{pow_pos}
use lib.Ieee.{Float, nan, inf, fin, Format, prec, low, hid, ones, fits, to_bits, of_bits}
use lib.Ieee.Bits.{of_bits-to_bits}
use lib.Ieee.Exact.{HasValue}
use lib.Ieee.Fits.{two, two-le_pos}
use lib.Ieee.Positive.{positive, positive_of_value}
use lib.Ieee.Scale.{overflow, finite}
use Rattle.fraction.specs.Magnitude.{magnitude}
use Rattle.fraction.specs.NextNumber.{down_bits, next_up, next_down}
use Rattle.fraction.specs.Rational.{ℚ, ◌<q◌, at_mostq, ◌+q◌, ◌*q◌}
use Rattle.fraction.specs.Value.{fraction, value}
use Rattle.fraction.specs.WellDefined.{same_tests}
use Rattle.fraction.proofs.Encoding.{hidden_pos, of_bits_infinity, of_bits_value, finite_below_sign}
use Rattle.fraction.proofs.Magnitude.{power_twice}
use Rattle.fraction.proofs.NextNumber.{next_up_finite, next_down_finite, up_positive, down_positive}
use Rattle.fraction.proofs.Value.{value_is}
use Rattle.float.specs.Root.{middle², Even, NearestRoot, SquareRoot, root_of, sqrt_of}
use Rattle.float.proofs.Middles.{magnitude_some, magnitude_small, Upto, Between, IsRoot, only_root, nearest_root, strict_root, bits_some, bits_room}
use Rattle.float.proofs.RootCases.{placed, root_of_bits, root_fits}

-- ---- the square of the middle of u / l and v / l against n / l, on whole numbers
same_test : (x y a b k : ℕ) → 0 < k → x ≡ a * k → y ≡ b * k → leb x y ≡ leb a b
same_test x y a b k K p q = same_tests (leb x y) (leb a b) (λ t. le→leb a b (le_of_mul-le-mul_right (rw (p, q) at (leb→le x y t)) K))
    (λ t. le→leb x y (rw (p, q) (mul-le-mul_right k (leb→le a b t))))

module _ (u v n l : ℕ) (L : 0 < l) where
  abbrev square : ℚ
  square =
      let m = fraction (pos 1) 2 (pow_pos 1) *q (fraction (pos u) l L +q fraction (pos v) l L) in m *q m

  cube : 0 < l * l * l
  cube = mul-pos (mul-pos L L) L

  square_le : at_mostq square (fraction (pos n) l L) ≡ leb ((u + v) * (u + v)) (4 * (n * l))
  unfolding at_mostq ◌+q◌ ◌*q◌
  square_le = same_test (1 * (u * l + v * l) * (1 * (u * l + v * l)) * l + 0) (n * (2 * (l * l) * (2 * (l * l))) + 0) ((u + v) * (u + v))
      (4 * (n * l)) (l * l * l) cube (omega arith) (omega arith)

  le_square : at_mostq (fraction (pos n) l L) square ≡ leb (4 * (n * l)) ((u + v) * (u + v))
  unfolding at_mostq ◌+q◌ ◌*q◌
  le_square = same_test (n * (2 * (l * l) * (2 * (l * l))) + 0) (1 * (u * l + v * l) * (1 * (u * l + v * l)) * l + 0) (4 * (n * l))
      ((u + v) * (u + v)) (l * l * l) cube (omega arith) (omega arith)

-- what a test says, either way round
upto_of : {E : Type 0} (x y : Bool) (a b : ℕ) → x ≡ leb b a → y ≡ leb a b → Upto E a b → T (not x) ⊎ (T y × E)
upto_of x y a b p q (inl l) = inl (rw p (lt→nleb b a l))
upto_of x y a b p q (inr h) = inr (rw q (le→leb a b h.0), h.1)

of_upto : {E : Type 0} (x y : Bool) (a b : ℕ) → x ≡ leb b a → y ≡ leb a b → T (not x) ⊎ (T y × E) → Upto E a b
of_upto x y a b p q (inl l) = inl (nleb→lt b a (rw p at l))
of_upto x y a b p q (inr h) = inr (leb→le a b (rw q at h.0), h.1)

-- ---- a number above 0 by its bits, and its neighbours
finite_of : (x : Float) (s : Bool) (a c : ℕ) → HasValue x s a c → T (finite x)
finite_of nan s a c v = absurd v
finite_of (inf t) s a c v = absurd v
finite_of (fin t m e) s a c v = tt

module _ (f : Format) where
  -- the number at place b
  abbrev worth : ℕ → ℚ
  worth b = fraction (pos (magnitude (hid f) b)) (2 ^ low f) (pow_pos (low f))

  has_at : (b : ℕ) → b < ones f * hid f → HasValue (of_bits f b) false (magnitude (hid f) b) (2 ^ low f)
  has_at b h = subst (λ (z : ℕ). HasValue (of_bits f z) false (magnitude (hid f) b) (2 ^ low f)) (zero-add b) (of_bits_value f false b h)

  value_at : (b : ℕ) → b < ones f * hid f → value (of_bits f b) ≡ worth b
  value_at b h = value_is (of_bits f b) false (magnitude (hid f) b) (2 ^ low f) (pow_pos (low f)) (has_at b h)

  module _ (r : Float) (F : T (fits f r)) (some : 0 < to_bits f r) (room : suc (to_bits f r) < ones f * hid f) where
    abbrev b : ℕ
    b = to_bits f r

    small : b < ones f * hid f
    small = le_trans (le-suc (suc b)) room

    back : of_bits f b ≡ r
    back = of_bits-to_bits f r F

    has_r : HasValue r false (magnitude (hid f) b) (2 ^ low f)
    has_r = subst (λ (z : Float). HasValue z false (magnitude (hid f) b) (2 ^ low f)) back (has_at b small)

    finite_r : T (finite r)
    finite_r = finite_of r false (magnitude (hid f) b) (2 ^ low f) has_r

    above_r : T (positive r)
    above_r = positive_of_value r (magnitude (hid f) b) (2 ^ low f) has_r (magnitude_some f b some)

    value_r : value r ≡ worth b
    value_r = ap value (sym back) ∙ value_at b small

    up_r : next_up f r ≡ of_bits f (suc b)
    up_r = next_up_finite f r finite_r ∙ ap (of_bits f) (up_positive f b small)

    value_up : value (next_up f r) ≡ worth (suc b)
    value_up = ap value up_r ∙ value_at (suc b) room

    finite_up : T (finite (next_up f r))
    finite_up = rw up_r (finite_of (of_bits f (suc b)) false (magnitude (hid f) (suc b)) (2 ^ low f) (has_at (suc b) room))

    value_down : value (next_down f r) ≡ worth (b - 1)
    value_down = ap value (next_down_finite f r finite_r ∙ ap (of_bits f) (go b some small)) ∙ value_at (b - 1) (less b small)
      where
        one : (y : ℕ) → suc y - 1 ≡ y
        one y = omega arith

        go : (z : ℕ) → 0 < z → z < ones f * hid f → down_bits f z ≡ z - 1
        go zero h l = absurd (omega arith)
        go (suc y) h l = down_positive f y (finite_below_sign f l) ∙ sym (one y)

        less : {i : ℕ} (z : ℕ) → z < i → z - 1 < i
        less z l = omega arith

-- ---- squares on fractions and on whole numbers
module _ (f : Format) (r : Float) (F : T (fits f r)) (some : 0 < to_bits f r) (room : suc (to_bits f r) < ones f * hid f) (x : Float) (n : ℕ)
    (is : value x ≡ fraction (pos n) (2 ^ low f) (pow_pos (low f))) where
  abbrev u : ℕ
  u = magnitude (hid f) (to_bits f r - 1)

  abbrev v : ℕ
  v = magnitude (hid f) (to_bits f r)

  abbrev w : ℕ
  w = magnitude (hid f) (suc (to_bits f r))

  lower_le : at_mostq (middle² (next_down f r) r) (value x) ≡ leb ((u + v) * (u + v)) (4 * (n * 2 ^ low f))
  lower_le = rw (is, value_r f r F some room, value_down f r F some room) (square_le u v n (2 ^ low f) (pow_pos (low f)))

  le_lower : at_mostq (value x) (middle² (next_down f r) r) ≡ leb (4 * (n * 2 ^ low f)) ((u + v) * (u + v))
  le_lower = rw (is, value_r f r F some room, value_down f r F some room) (le_square u v n (2 ^ low f) (pow_pos (low f)))

  upper_le : at_mostq (middle² r (next_up f r)) (value x) ≡ leb ((v + w) * (v + w)) (4 * (n * 2 ^ low f))
  upper_le = rw (is, value_r f r F some room, value_up f r F some room) (square_le v w n (2 ^ low f) (pow_pos (low f)))

  le_upper : at_mostq (value x) (middle² r (next_up f r)) ≡ leb (4 * (n * 2 ^ low f)) ((v + w) * (v + w))
  le_upper = rw (is, value_r f r F some room, value_up f r F some room) (le_square v w n (2 ^ low f) (pow_pos (low f)))

  -- r is nearest by its place exactly where it is by fractions
  nearest_of : Between (Even f r) (hid f) (n * 2 ^ low f) (to_bits f r) → NearestRoot f x r
  nearest_of t =
      record {
        held = F;
        above = above_r f r F some room;
        inside = finite_up f r F some room;
        lower = upto_of _ _ ((u + v) * (u + v)) (4 * (n * 2 ^ low f)) le_lower lower_le t.lower;
        upper = upto_of _ _ (4 * (n * 2 ^ low f)) ((v + w) * (v + w)) upper_le le_upper t.upper;
      }

  of_nearest : NearestRoot f x r → IsRoot (hid f) (n * 2 ^ low f) (to_bits f r)
  of_nearest t =
      record {
        lower = of_upto _ _ ((u + v) * (u + v)) (4 * (n * 2 ^ low f)) le_lower lower_le t.lower;
        upper = of_upto _ _ (4 * (n * 2 ^ low f)) ((v + w) * (v + w)) upper_le le_upper t.upper;
      }

  strict_of : Between ⊥ (hid f) (n * 2 ^ low f) (to_bits f r) → (middle² (next_down f r) r <q value x) × (value x <q middle² r (next_up f r))
  strict_of t = (
    less (upto_of _ _ ((u + v) * (u + v)) (4 * (n * 2 ^ low f)) le_lower lower_le t.lower),
    less
        (upto_of _ _ (4 * (n * 2 ^ low f)) ((v + w) * (v + w)) upper_le le_upper t.upper),
  )
    where
      less : {A B : Type 0} → A ⊎ (B × ⊥) → A
      less (inl a) = a
      less (inr e) = absurd e.1

-- ---- the root of a finite number above 0
module _ (f : Format) (m : ℕ) (e : ℤ) (F : T (fits f (fin false (suc m) e))) where
  abbrev number : Float
  number = fin false (suc m) e

  abbrev bits : ℕ
  bits = to_bits f number

  abbrev n : ℕ
  n = magnitude (hid f) bits

  value_x : value number ≡ fraction (pos n) (2 ^ low f) (pow_pos (low f))
  value_x = value_is number false n (2 ^ low f) (pow_pos (low f)) (refl, (placed f m e F).exact)

  some : 0 < n
  some = magnitude_some f bits (placed f m e F).some

  bounded : n < overflow f
  bounded = magnitude_small f bits (placed f m e F).small

  abbrev root : Float
  root = root_of f n

  is_nearest : NearestRoot f number root
  is_nearest = nearest_of f root (root_fits f n) (bits_some f n some bounded) (bits_room f n some bounded) number n value_x
      (nearest_root f n some bounded)

  is_only : (r' : Float) → NearestRoot f number r' → r' ≡ root
  is_only r' t = go r' t.held t.above t.inside t
    where
      at : (r' : Float) → T (fits f r') → 0 < to_bits f r' → suc (to_bits f r') < ones f * hid f → NearestRoot f number r' → r' ≡ root
      at r' G p q t =
          sym (of_bits-to_bits f r' G)
          ∙ ap (of_bits f) (only_root (hid f) (n * 2 ^ low f) (to_bits f r') (to_bits f root) (hidden_pos f)
          (of_nearest f r' G p q number n value_x t) (nearest_root f n some bounded))
          ∙ of_bits-to_bits f root (root_fits f n)

      -- the number after r' is finite, so its place is below the infinity's
      below : (k : ℕ) (d : ℤ) (G : T (fits f (fin false (suc k) d))) → T (finite (next_up f (fin false (suc k) d)))
          → suc (to_bits f (fin false (suc k) d)) < ones f * hid f
      below k d G h = elim (eq-or-lt_of_le (placed f k d G).small) [ inl e ↦ absurd (never e) | inr l ↦ l ]
        where
          never : suc (to_bits f (fin false (suc k) d)) ≡ ones f * hid f → ⊥
          never e = subst (λ (z : Float). T (finite z)) (next_up_finite f (fin false (suc k) d) tt ∙ ap (of_bits f)
              (up_positive f (to_bits f (fin false (suc k) d)) (placed f k d G).small ∙ e ∙ sym (zero-add (ones f * hid f)))
              ∙ of_bits_infinity f false) h

      go : (r' : Float) → T (fits f r') → T (positive r') → T (finite (next_up f r')) → NearestRoot f number r' → r' ≡ root
      go nan G p q t = absurd p
      go (inf s) G p q t = absurd p
      go (fin true k d) G p q t = absurd p
      go (fin false zero d) G p q t = absurd p
      go (fin false (suc k) d) G p q t = at (fin false (suc k) d) G (placed f k d G).some (below k d G q) t

  is_strict : (middle² (next_down f root) root <q value number) × (value number <q middle² root (next_up f root))
  is_strict =
      let h = hid f in
      strict_of f root (root_fits f n) (bits_some f n some bounded) (bits_room f n some bounded) number n value_x
      (strict_root f n some bounded (bits - (bits / h - 1) * h) (bits / h - 1)
      (lt_of_lt_of_le (digits h (bits / h) (hidden_pos f) (lt-div-mul-add {a = bits} (hidden_pos f)))
      (le_of_eq (sym (power_twice (prec f) (two-le_pos (prec f) (two f)))))) refl)
    where
      digits : (h q : ℕ) → 0 < h → bits < q * h + h → bits - (q - 1) * h < 2 * h
      digits h zero H l = omega arith
      digits h (suc q) H l = rw (one q) (omega arith)
        where
          one : (q : ℕ) → suc q - 1 ≡ q
          one q = omega arith

-- ---- the main theorems
-- what the definition gives is the square root
pub sqrt_is : (f : Format) (x : Float) → T (fits f x) → SquareRoot f x (sqrt_of f x)
unfolding SquareRoot sqrt_of
sqrt_is f nan F = refl
sqrt_is f (inf true) F = refl
sqrt_is f (inf false) F = refl
sqrt_is f (fin s zero e) F = refl
sqrt_is f (fin true (suc m) e) F = refl
sqrt_is f (fin false (suc m) e) F = subst (NearestRoot f (fin false (suc m) e)) (root_of_bits f m e F) (is_nearest f m e F)

-- nothing else is
pub sqrt_only : (f : Format) (x r : Float) → T (fits f x) → SquareRoot f x r → r ≡ sqrt_of f x
unfolding SquareRoot sqrt_of
sqrt_only f nan r F h = h
sqrt_only f (inf true) r F h = h
sqrt_only f (inf false) r F h = h
sqrt_only f (fin s zero e) r F h = h
sqrt_only f (fin true (suc m) e) r F h = h
sqrt_only f (fin false (suc m) e) r F h = is_only f m e F r h ∙ root_of_bits f m e F

-- and no tie occurs: a finite number above 0 lies strictly between the squares of the two middles
pub sqrt_strict : (f : Format) (x : Float) → T (fits f x) → T (positive x) → (middle² (next_down f (sqrt_of f x)) (sqrt_of f x) <q value x)
    × (value x <q middle² (sqrt_of f x) (next_up f (sqrt_of f x)))
sqrt_strict f nan F p = absurd p
sqrt_strict f (inf s) F p = absurd p
sqrt_strict f (fin true m e) F p = absurd p
sqrt_strict f (fin false zero e) F p = absurd p
sqrt_strict f (fin false (suc m) e) F p = subst (λ (r : Float). (middle² (next_down f r) r <q value (fin false (suc m) e))
    × (value (fin false (suc m) e) <q middle² r (next_up f r))) (root_of_bits f m e F) (is_strict f m e F)
