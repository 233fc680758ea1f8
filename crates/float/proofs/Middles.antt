-- What `root_of` means, on whole numbers: of the format's numbers it is the one nearest to the root, told by squares, and the only one.
-- `magnitude h b` is the number at place b, counted from 0 on, in units of the smallest, so twice the middle of two neighbours is
-- magnitude h b + magnitude h (b + 1).
use mathlib.Core.Path.{◌≡◌, sym, ap, ◌∙◌, subst}
use mathlib.Core.Logic.{◌⊎◌, inl, inr}
use Prim.Native.Nat.{ℕ, zero, suc, ◌+◌, ◌-◌, ◌*◌, ◌/◌, ◌%◌, ◌^◌, ◌≤◌, ◌<◌, zero-le, compare, Ordering}
use native.Mathlib.Nat.{le_trans, le_of_eq, le-suc, lt_of_lt_of_le, lt_of_le_of_lt, mul-le-mul, mul-le-mul_right, mul-le-mul_left, mul-lt-mul_of_pos_right, pow-suc, mul_comm, mul_assoc, div-mul-le_self, lt-div-mul-add, le-div_iff_mul-le, add-suc, mul-one, one-mul, eq_of_mul-eq-mul_right}
use native.Mathlib.Decide.{dec_lt, dec_le}
use native.Mathlib.Omega.{arith}
use native.Mathlib.Numerals.{one-add}
use lib.Dec.{T, lit≤}
use lib.Pow.{pow-add, pow_pos, pow_mono}
use lib.Ieee.{Format, binary32, binary64, prec, emax, low, size, nearest, hid, ones, to_bits}
use lib.Ieee.Digits.{size-le, size_reaches, back}
use lib.Ieee.Fits.{kept-lt, nearest-le, two, two-le_pos}
use lib.Ieee.Nearest.{nearest-ge}
use lib.Ieee.Scale.{overflow}
use Rattle.fraction.specs.Magnitude.{magnitude}
use Rattle.fraction.proofs.Magnitude.{size_gt, magnitude_at, magnitude_le, magnitude_lt, magnitude_step, power_twice}
use Rattle.fraction.proofs.Encoding.{hidden_pos, magnitude_infinity}
use Rattle.float.specs.Root.{isqrt, root_of}
use Rattle.float.proofs.Squares.{side_lt, Cmp, cmp, isqrt_le, isqrt_lt}
use Rattle.float.proofs.Rounding.{root_bits_law}

-- a is less than b, or equal where ev holds
abbrev pub Upto : Type 0 → ℕ → ℕ → Type 0
Upto ev a b = (a < b) ⊎ ((a ≤ b) × ev)

-- n lies between the squares of the middles of the number at place b and its neighbours, and on one only where ev holds; doubled, to have
-- no fractions
pub record Between (ev : Type 0) (h n b : ℕ) : Type 0 where
  pub lower : Upto ev ((magnitude h (b - 1) + magnitude h b) * (magnitude h (b - 1) + magnitude h b)) (4 * n)
  pub upper : Upto ev (4 * n) ((magnitude h b + magnitude h (suc b)) * (magnitude h b + magnitude h (suc b)))

-- the number at place b is nearest to the root of n, and the even one at a tie
abbrev pub IsRoot : ℕ → ℕ → ℕ → Type 0
IsRoot h n b = Between (b % 2 ≡ 0) h n b

-- ---- there is one at most
upto_le : {ev : Type 0} {a b : ℕ} → Upto ev a b → a ≤ b
upto_le (inl l) = omega arith
upto_le (inr e) = omega (arith, e.0)

square_lt : (x y : ℕ) → suc x ≤ y → x * x < y * y
square_lt x y l = omega (arith, mul-le-mul l l)

circle : (a b c : ℕ) → a ≤ b → b < c → c ≤ a → ⊥
circle a b c p q r = omega arith

one_side : (h n b d : ℕ) → 0 < h → IsRoot h n b → IsRoot h n (suc b + d) → ⊥
one_side h n b zero H r t = go r.upper t.lower
  where
    same : (magnitude h b + magnitude h (suc b)) * (magnitude h b + magnitude h (suc b)) ≡ (magnitude h (suc b + 0 - 1) + magnitude h
        (suc b + 0)) * (magnitude h (suc b + 0 - 1) + magnitude h (suc b + 0))
    same =
        let p : suc b + 0 - 1 ≡ b = omega arith in
        let q : suc b + 0 ≡ suc b = omega arith in
        rw (p, q)

    go : Upto (b % 2 ≡ 0) (4 * n) ((magnitude h b + magnitude h (suc b)) * (magnitude h b + magnitude h (suc b)))
        → Upto ((suc b + 0) % 2 ≡ 0) ((magnitude h (suc b + 0 - 1) + magnitude h (suc b + 0)) *
        (magnitude h (suc b + 0 - 1) + magnitude h (suc b + 0))) (4 * n) → ⊥
    go (inl l) (inl k) = omega (arith, same)
    go (inl l) (inr k) = omega (arith, same, k.0)
    go (inr l) (inl k) = omega (arith, same, l.0)
    go (inr l) (inr k) = omega (arith, l.1, k.1)
one_side h n b (suc d) H r t = circle (4 * n) (x * x) (y * y) (upto_le r.upper)
    (square_lt x y (less (magnitude_le h b (suc d) H) (magnitude_lt h (suc b) d H))) (upto_le t.lower)
  where
    x : ℕ
    x = magnitude h b + magnitude h (suc b)

    y : ℕ
    y = magnitude h (suc b + suc d - 1) + magnitude h (suc b + suc d)

    less : magnitude h b ≤ magnitude h (b + suc d) → magnitude h (suc b) < magnitude h (suc (suc b) + d) → suc x ≤ y
    less p q =
        let u : suc b + suc d - 1 ≡ b + suc d = omega arith in
        let v : suc b + suc d ≡ suc (suc b) + d = omega arith in
        rw (u, v) (omega arith)

pub only_root : (h n b c : ℕ) → 0 < h → IsRoot h n b → IsRoot h n c → b ≡ c
only_root h n b c H r t = elim (dec_lt b c) [
  | yes l ↦ absurd (one_side h n b (c - suc b) H r (subst (IsRoot h n) (up l) t))
  | no k ↦ elim (dec_lt c b) [ yes l ↦ absurd (one_side h n c (b - suc c) H t (subst (IsRoot h n) (down l) r)) | no m ↦ same k m ]
]
  where
    up : b < c → c ≡ suc b + (c - suc b)
    up l = omega arith

    down : c < b → b ≡ suc c + (b - suc c)
    down l = omega arith

    same : ¬ (b < c) → ¬ (c < b) → b ≡ c
    same k m = omega arith

-- ---- the numbers above 0 that are finite, by their place
pub magnitude_some : (f : Format) (b : ℕ) → 0 < b → 0 < magnitude (hid f) b
magnitude_some f zero h = absurd (omega arith)
magnitude_some f (suc b) h = lt_of_le_of_lt zero-le (subst (λ (z : ℕ). magnitude (hid f) 0 < magnitude (hid f) z) (one-add b)
    (magnitude_lt (hid f) 0 b (hidden_pos f)))

pub magnitude_small : (f : Format) (b : ℕ) → b < ones f * hid f → magnitude (hid f) b < overflow f
magnitude_small f b h = subst (λ (z : ℕ). magnitude (hid f) b < z) (magnitude_infinity f)
    (subst (λ (z : ℕ). magnitude (hid f) b < magnitude (hid f) z) (rest (ones f * hid f) h)
    (magnitude_lt (hid f) b (ones f * hid f - suc b) (hidden_pos f)))
  where
    rest : (i : ℕ) → b < i → suc b + (i - suc b) ≡ i
    rest i h = omega arith

-- ---- squares of sums
pub under_floor : (u v s N : ℕ) → u < v → v ≤ s → s * s ≤ N → (u + v) * (u + v) < 4 * N
under_floor u v s N p q r = omega (arith, square_lt (u + v) (2 * s) (omega arith))

over_ceil : (v w s N : ℕ) → s < v → v ≤ w → N < suc s * suc s → 4 * N < (v + w) * (v + w)
over_ceil v w s N p q r =
    let l : 2 * suc s ≤ v + w = omega arith in
    omega (arith, mul-le-mul l l)

pub over_floor : (v w N : ℕ) → v ≤ w → N < v * v → 4 * N < (v + w) * (v + w)
over_floor v w N p q =
    let l : 2 * v ≤ v + w = omega arith in
    omega (arith, mul-le-mul l l)

square_of_law : (a m : ℕ) → a ≡ 2 * m → a * a ≡ 4 * (m * m)
square_of_law a m e = ap (λ (z : ℕ). z * z) e ∙ omega arith

under_mid : {E E' : Type 0} (t : E → E') (v w m N : ℕ) → v + w ≡ 2 * m → Upto E N (m * m) → Upto E' (4 * N) ((v + w) * (v + w))
under_mid t v w m N e (inl l) = inl (omega (arith, square_of_law (v + w) m e))
under_mid t v w m N e (inr l) = inr (omega (arith, square_of_law (v + w) m e, l.0), t l.1)

over_mid : {E E' : Type 0} (t : E → E') (u v m N : ℕ) → u + v ≡ 2 * m → Upto E (m * m) N → Upto E' ((u + v) * (u + v)) (4 * N)
over_mid t u v m N e (inl l) = inl (omega (arith, square_of_law (u + v) m e))
over_mid t u v m N e (inr l) = inr (omega (arith, square_of_law (u + v) m e, l.0), t l.1)

-- ---- the square of an odd number of more than p digits, times a power of two, has more than p digits
no_square : (q w T J P : ℕ) → w < P → P ≤ 2 * q → w * 2 ^ T ≡ (2 * q + 1) * (2 * q + 1) * 2 ^ J → ⊥
no_square q w T J P W l h = elim (dec_le T J) [ yes k ↦ few (J - T) (same k) | no k ↦ many (T - J - 1) (other k) ]
  where
    c : ℕ
    c = 2 * q + 1

    same : T ≤ J → w ≡ c * c * 2 ^ (J - T)
    same k =
        eq_of_mul-eq-mul_right (2 ^ T) (pow_pos T) w (c * c * 2 ^ (J - T))
        (h ∙ ap (λ (z : ℕ). c * c * 2 ^ z) (sym (back J T k)) ∙ ap (λ (z : ℕ). c * c * z) (pow-add 2 (J - T) T)
        ∙ sym (mul_assoc (c * c) (2 ^ (J - T)) (2 ^ T)))

    few : (d : ℕ) → w ≡ c * c * 2 ^ d → ⊥
    few d e = circle w (2 * q) (c * c * 2 ^ d) (omega arith)
        (lt_of_lt_of_le more (le_trans (le_of_eq (sym (mul-one (c * c)))) (mul-le-mul_left (c * c) (pow_pos d)))) (le_of_eq (sym e))
      where
        more : 2 * q < (2 * q + 1) * (2 * q + 1)
        more = omega arith

    other : ¬ (T ≤ J) → w * (2 * 2 ^ (T - J - 1)) ≡ c * c
    other k =
        eq_of_mul-eq-mul_right (2 ^ J) (pow_pos J) (w * (2 * 2 ^ (T - J - 1))) (c * c)
        (mul_assoc w (2 * 2 ^ (T - J - 1)) (2 ^ J)
        ∙ ap (λ (z : ℕ). w * z) (ap (λ (z : ℕ). z * 2 ^ J) (mul_comm 2 (2 ^ (T - J - 1)) ∙ sym (pow-suc 2 (T - J - 1)))
        ∙ sym (pow-add 2 (suc (T - J - 1)) J) ∙ ap (λ (z : ℕ). 2 ^ z) (whole k)) ∙ h)
      where
        whole : ¬ (T ≤ J) → suc (T - J - 1) + J ≡ T
        whole k = omega arith

    many : (i : ℕ) → w * (2 * 2 ^ i) ≡ c * c → ⊥
    many i e = go (w * 2 ^ i) (q * q) (omega (arith, e))
      where
        go : (a b : ℕ) → 2 * a ≡ 4 * b + 4 * q + 1 → ⊥
        go a b e = omega arith

-- ---- `root_of` is one
-- the digits of the root of n units: more than the format keeps, and not too many
module _ (f : Format) (n : ℕ) (some : 0 < n) (small : n < overflow f) where
  abbrev N : ℕ
  N = n * 2 ^ low f

  abbrev s : ℕ
  s = isqrt N

  fine : (f : Format) → prec f ≤ low f / 2
  fine binary32 = lit≤ tt
  fine binary64 = lit≤ tt

  one_le : (f : Format) → 1 ≤ emax f
  one_le binary32 = lit≤ tt
  one_le binary64 = lit≤ tt

  many : prec f < size s
  many = size_gt s (prec f) (le_trans (pow_mono (fine f))
      (le_of (side_lt (2 ^ (low f / 2)) (suc s) N (le_trans (le_of_eq (sym (pow-add 2 (low f / 2) (low f / 2))))
      (le_trans (pow_mono (half (low f))) (le_trans (le_of_eq (sym (one-mul (2 ^ low f)))) (mul-le-mul_right (2 ^ low f) some))))
      (isqrt_lt N))))
    where
      half : (l : ℕ) → l / 2 + l / 2 ≤ l
      half l = omega arith

      le_of : {a b : ℕ} → a < suc b → a ≤ b
      le_of h = omega arith

  few : size s ≤ low f + emax f
  few = size-le s (low f + emax f) (side_lt s (2 ^ (low f + emax f)) N (isqrt_le N)
      (lt_of_lt_of_le (mul-lt-mul_of_pos_right small (pow_pos (low f)))
      (le_trans (le_of_eq (sym (pow-add 2 (low f + suc (emax f)) (low f)))) (le_trans (pow_mono (room (low f) (emax f) (one_le f)))
      (le_of_eq (pow-add 2 (low f + emax f) (low f + emax f)))))))
    where
      room : (l e : ℕ) → 1 ≤ e → l + suc e + l ≤ l + e + (l + e)
      room l e h = omega arith

  abbrev j : ℕ
  j = size s - prec f - 1

  suc_j : suc j ≡ size s - prec f
  suc_j = go (size s) many
    where
      go : (z : ℕ) → prec f < z → suc (z - prec f - 1) ≡ z - prec f
      go z h = omega arith

  abbrev q : ℕ
  q = s / 2 ^ suc j

  hi : q < 2 ^ prec f
  hi = subst (λ (g : ℕ). s / 2 ^ g < 2 ^ prec f) (sym suc_j) (kept-lt (prec f) s)

  lo : hid f ≤ q
  lo = (le-div_iff_mul-le (pow_pos (suc j))).1 (le_trans (le_of_eq (sym (pow-add 2 (prec f - 1) (suc j))))
      (size_reaches s (prec f - 1 + suc j) (go (size s) (prec f) many (two-le_pos (prec f) (two f)))))
    where
      go : (z p : ℕ) → p < z → 0 < p → p - 1 + suc (z - p - 1) < z
      go z p h P = omega arith

  below : q * 2 ^ suc j ≤ s
  below = div-mul-le_self s (2 ^ suc j)

  above : s < suc q * 2 ^ suc j
  above = lt_of_lt_of_le (lt-div-mul-add (pow_pos (suc j))) (le_of_eq (next q (2 ^ suc j)))
    where
      next : (q g : ℕ) → q * g + g ≡ suc q * g
      next q g = omega arith

  room : prec f + suc j < low f + suc (emax f)
  room = go (size s) (prec f) (low f) (emax f) many few
    where
      go : (z p l e : ℕ) → p < z → z ≤ l + e → p + suc (z - p - 1) < l + suc e
      go z p l e h k = omega arith

  abbrev m : ℕ
  m = (2 * q + 1) * 2 ^ j

  bits_is : to_bits f (root_of f n) ≡ suc j * hid f + nearest q (compare N (m * m))
  bits_is = root_bits_law f n q j lo hi below above room

  -- the values at the two places
  at : (k : ℕ) → hid f ≤ k → k ≤ 2 ^ prec f → magnitude (hid f) (suc j * hid f + k) ≡ k * 2 ^ suc j
  at k l h = magnitude_at (hid f) k (suc j) (hidden_pos f) (inl l)
      (le_trans h (le_of_eq (power_twice (prec f) (two-le_pos (prec f) (two f)))))

  dbl : 2 ^ suc j ≡ 2 * 2 ^ j
  dbl = pow-suc 2 j ∙ mul_comm (2 ^ j) 2

  even : (k : ℕ) → k % 2 ≡ 0 → (suc j * hid f + k) % 2 ≡ 0
  even k h = go (suc j) (2 ^ (prec f - 2)) (hid f) (half (prec f) (two f))
    where
      half : (p : ℕ) → 2 ≤ p → 2 ^ (p - 1) ≡ 2 * 2 ^ (p - 2)
      half p h = ap (λ (z : ℕ). 2 ^ z) (pr p h) ∙ pow-suc 2 (p - 2) ∙ mul_comm (2 ^ (p - 2)) 2
        where
          pr : (p : ℕ) → 2 ≤ p → p - 1 ≡ suc (p - 2)
          pr p h = omega arith

      go : (g c h : ℕ) → h ≡ 2 * c → (g * h + k) % 2 ≡ 0
      go g c x e = ap (λ (z : ℕ). (g * z + k) % 2) e ∙ turn (g * c)
        where
          turn : (y : ℕ) → (g * (2 * c) + k) % 2 ≡ 0
          turn y = omega (arith, h)

  sum_is : q * 2 ^ suc j + suc q * 2 ^ suc j ≡ 2 * m
  sum_is = ap (λ (g : ℕ). q * g + suc q * g) dbl ∙ go q (2 ^ j)
    where
      go : (q g : ℕ) → q * (2 * g) + suc q * (2 * g) ≡ 2 * ((2 * q + 1) * g)
      go q g = omega arith

  -- the root is taken for q of the units
  down : {E E' : Type 0} (t : E → E') → Upto E N (m * m) → Between E' (hid f) N (suc j * hid f + q)
  down t c =
      let b = suc j * hid f + q in
      let e : magnitude (hid f) b ≡ q * 2 ^ suc j = at q lo (le_trans (le-suc q) hi) in
      let e' : magnitude (hid f) (suc b) ≡ suc q * 2 ^ suc j = ap (magnitude (hid f)) (sym (add-suc (suc j * hid f) q))
      ∙ at (suc q) (le_trans lo (le-suc q)) hi in
      record {
        lower = inl (under_floor (magnitude (hid f) (b - 1)) (magnitude (hid f) b) s N (before (suc j * hid f) q lo)
            (le_trans (le_of_eq e) below) (isqrt_le N));
        upper = under_mid t (magnitude (hid f) b) (magnitude (hid f) (suc b)) m N (ap (λ (z : ℕ). z + magnitude (hid f) (suc b)) e ∙ ap
            (λ (z : ℕ). q * 2 ^ suc j + z) e' ∙ sum_is) c;
      }
    where
      before : (g q : ℕ) → hid f ≤ q → magnitude (hid f) (g + q - 1) < magnitude (hid f) (g + q)
      before g q l = subst (λ (z : ℕ). magnitude (hid f) (g + q - 1) < magnitude (hid f) z) (go (hid f) (hidden_pos f) l)
          (magnitude_lt (hid f) (g + q - 1) 0 (hidden_pos f))
        where
          go : (h : ℕ) → 0 < h → h ≤ q → suc (g + q - 1) + 0 ≡ g + q
          go h H l = omega arith

  -- or for q + 1
  up : {E E' : Type 0} (t : E → E') → Upto E (m * m) N → Between E' (hid f) N (suc j * hid f + suc q)
  up t c =
      let b = suc j * hid f + suc q in
      let e : magnitude (hid f) b ≡ suc q * 2 ^ suc j = at (suc q) (le_trans lo (le-suc q)) hi in
      let e' : magnitude (hid f) (b - 1) ≡ q * 2 ^ suc j = ap (magnitude (hid f)) (back (suc j * hid f) q)
      ∙ at q lo (le_trans (le-suc q) hi) in
      record {
        lower = over_mid t (magnitude (hid f) (b - 1)) (magnitude (hid f) b) m N (ap (λ (z : ℕ). z + magnitude (hid f) b) e' ∙ ap
            (λ (z : ℕ). q * 2 ^ suc j + z) e ∙ sum_is) c;
        upper = inl (over_ceil (magnitude (hid f) b) (magnitude (hid f) (suc b)) s N (lt_of_lt_of_le above (le_of_eq (sym e)))
            (magnitude_step (hid f) b (hidden_pos f)) (isqrt_lt N));
      }
    where
      back : (g q : ℕ) → g + suc q - 1 ≡ g + q
      back g q = omega arith

  pub nearest_root : IsRoot (hid f) N (to_bits f (root_of f n))
  nearest_root = subst (IsRoot (hid f) N) (sym bits_is) (go (compare N (m * m)) (cmp N (m * m)))
    where
      go : (o : Ordering) → Cmp o N (m * m) → IsRoot (hid f) N (suc j * hid f + nearest q o)
      go Ordering.lt h = down (even q) (inl h)
      go Ordering.gt h = up (even (suc q)) (inl h)
      go Ordering.eq h = elim (dec_lt 0 (q % 2)) [
        | yes l ↦ subst (λ (k : ℕ). IsRoot (hid f) N (suc j * hid f + k)) (sym (odd_up q l))
            (up (even (suc q)) (inr (le_of_eq (sym h), odd_next q l)))
        | no l ↦ subst (λ (k : ℕ). IsRoot (hid f) N (suc j * hid f + k)) (sym (even_down q l))
            (down (even q) (inr (le_of_eq h, even_same q l)))
      ]
        where
          odd_up : (q : ℕ) → 0 < q % 2 → q + q % 2 ≡ suc q
          odd_up q l = omega arith

          odd_next : (q : ℕ) → 0 < q % 2 → suc q % 2 ≡ 0
          odd_next q l = omega arith

          even_down : (q : ℕ) → ¬ (0 < q % 2) → q + q % 2 ≡ q
          even_down q l = omega arith

          even_same : (q : ℕ) → ¬ (0 < q % 2) → q % 2 ≡ 0
          even_same q l = omega arith

  -- where n has no more digits than the format keeps, as the units of a value of the format have, there is no tie
  module _ (w t : ℕ) (W : w < 2 ^ prec f) (e : n ≡ w * 2 ^ t) where
    no_tie : N ≡ m * m → ⊥
    no_tie h =
        no_square q w (t + low f) (j + j) (2 ^ prec f) W (le_trans (le_of_eq (power_twice (prec f) (two-le_pos (prec f) (two f))))
        (mul-le-mul_left 2 lo))
        (ap (λ (z : ℕ). w * z) (pow-add 2 t (low f)) ∙ sym (mul_assoc w (2 ^ t) (2 ^ low f)) ∙ ap (λ (z : ℕ). z * 2 ^ low f) (sym e) ∙ h
        ∙ flat (2 * q + 1) (2 ^ j) ∙ ap (λ (z : ℕ). (2 * q + 1) * (2 * q + 1) * z) (sym (pow-add 2 j j)))
      where
        flat : (c g : ℕ) → c * g * (c * g) ≡ c * c * (g * g)
        flat c g = omega arith

    pub strict_root : Between ⊥ (hid f) N (to_bits f (root_of f n))
    strict_root = subst (Between ⊥ (hid f) N) (sym bits_is) (go (compare N (m * m)) (cmp N (m * m)))
      where
        go : (o : Ordering) → Cmp o N (m * m) → Between ⊥ (hid f) N (suc j * hid f + nearest q o)
        go Ordering.lt h = down {E = ⊥} (λ z. z) (inl h)
        go Ordering.gt h = up {E = ⊥} (λ z. z) (inl h)
        go Ordering.eq h = absurd (no_tie h)

  -- the root is no subnormal number, and far from the largest
  pub bits_some : 0 < to_bits f (root_of f n)
  bits_some = subst (λ (z : ℕ). 0 < z) (sym bits_is) (go (suc j * hid f) (hid f) (nearest q (compare N (m * m))) (hidden_pos f)
      (le_trans lo (nearest-ge q (compare N (m * m)))))
    where
      go : (g h k : ℕ) → 0 < h → h ≤ k → 0 < g + k
      go g h k H l = omega arith

  pub bits_room : suc (to_bits f (root_of f n)) < ones f * hid f
  bits_room =
      subst (λ (z : ℕ). suc z < ones f * hid f) (sym bits_is)
      (go (prec f) (emax f) (suc j) (hid f) (nearest q (compare N (m * m))) (two f) (pow_mono {i = 1} {j = prec f - 1}
      (pr (prec f) (two f))) (le_trans (le_trans (nearest-le q (compare N (m * m))) hi)
      (le_of_eq (power_twice (prec f) (two-le_pos (prec f) (two f))))) room)
    where
      pr : (p : ℕ) → 2 ≤ p → 1 ≤ p - 1
      pr p h = omega arith

      go : (p e g h k : ℕ) → 2 ≤ p → 2 ≤ h → k ≤ 2 * h → p + g < e + p - 2 + suc e → suc (g * h + k) < (2 * e + 1) * h
      go p e g h k P H l r =
          let t : g + 2 ≤ 2 * e = omega arith in
          omega (arith, mul-le-mul_right h t)
