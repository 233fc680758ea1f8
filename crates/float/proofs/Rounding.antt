-- What `round` makes of a root: where the root lies between q and q + 1 units of 2 ^ (j + 1), it is q or q + 1 of them, by how the number
-- under the root compares with the square of the middle.
use mathlib.Core.Path.{◌≡◌, sym, ap, ◌∙◌, subst}
use mathlib.Core.Bool.{Bool, true, false, cond}
use mathlib.Core.Logic.{inl}
use Prim.Native.Nat.{ℕ, zero, suc, ◌+◌, ◌-◌, ◌*◌, ◌/◌, ◌%◌, ◌^◌, ◌≤◌, ◌<◌, compare, Ordering}
use native.Mathlib.Nat.{le_refl, le_trans, le_of_eq, lt_of_lt_of_le, lt_of_le_of_lt, mul-le-mul_right, mul-lt-mul_of_pos_right, mul-pos, pow-suc, div-eq_of_lt-le, mod-eq-sub-div-mul, zero-add}
use native.Mathlib.Omega.{arith}
use lib.Dec.{T, eqb, eqb→eq, eqb_refl}
use lib.Pow.{pow-add, pow_pos, pow-lt}
use lib.Ieee.{Format, prec, emax, low, size, nearest, round, hid, to_bits}
use lib.Ieee.Digits.{size-le}
use lib.Ieee.Fits.{nearest-le, two, two-le_pos}
use lib.Ieee.Exact.{HasValue}
use lib.Ieee.Nearest.{closest, nearest-ge}
use lib.Ieee.Order.{drop, kept}
use lib.Ieee.Scale.{grid, overflow, round_val}
use Rattle.fraction.proofs.Magnitude.{size_gt}
use Rattle.fraction.proofs.Encoding.{to_bits_value}
use Rattle.float.specs.Root.{isqrt, sticky, root_of}
use Rattle.float.proofs.Squares.{side_lt, Cmp, cmp, cmp_is, isqrt_le, isqrt_lt}

-- ---- the root, with its sticky digit, compares with a number as the number under the root does with the square
sticky_cmp : (N H : ℕ) (o : Ordering) → Cmp o N (H * H) → Cmp o (2 * isqrt N + sticky (isqrt N) N) (2 * H)
sticky_cmp N H o h = go (isqrt N) (isqrt_le N) (isqrt_lt N) (eqb (isqrt N * isqrt N) N) (eqb→eq (isqrt N * isqrt N) N)
    (λ (e : isqrt N * isqrt N ≡ N). subst (λ (x : ℕ). T (eqb (isqrt N * isqrt N) x)) e (eqb_refl (isqrt N * isqrt N))) o h
  where
    go : (s : ℕ) → s * s ≤ N → N < suc s * suc s → (b : Bool) → (T b → s * s ≡ N) → (s * s ≡ N → T b) → (o : Ordering) → Cmp o N (H * H)
        → Cmp o (2 * s + cond b 0 1) (2 * H)
    go s lo hi true y n Ordering.lt h = omega (arith, side_lt s H N lo h)
    go s lo hi false y n Ordering.lt h = omega (arith, side_lt s H N lo h)
    go s lo hi true y n Ordering.eq h = omega (arith, side_lt s (suc H) N lo (omega arith), side_lt H (suc s) N (omega arith) hi)
    go s lo hi false y n Ordering.eq h =
        let e : s ≡ H = omega (arith, side_lt s (suc H) N lo (omega arith), side_lt H (suc s) N (omega arith) hi) in
        absurd (n (ap (λ (z : ℕ). z * z) e ∙ sym h))
    go s lo hi true y n Ordering.gt h =
        let g : H < suc s = side_lt H (suc s) N (omega arith) hi in
        omega (arith, side_lt H s (H * H) (le_refl (H * H)) (omega (arith, y tt)))
    go s lo hi false y n Ordering.gt h = omega (arith, side_lt H (suc s) N (omega arith) hi)

sticky_le : (s N : ℕ) → sticky s N ≤ 1
sticky_le s N = go (eqb (s * s) N)
  where
    go : (b : Bool) → cond b 0 1 ≤ 1
    go true = omega arith
    go false = omega arith

module _ (p L N q j : ℕ) (P : 0 < p) (Lp : 0 < L) (lo : 2 ^ (p - 1) ≤ q) (hi : q < 2 ^ p) (below : q * 2 ^ suc j ≤ isqrt N)
    (above : isqrt N < suc q * 2 ^ suc j) where
  abbrev A : ℕ
  A = 2 * isqrt N + sticky (isqrt N) N

  abbrev H : ℕ
  H = (2 * q + 1) * 2 ^ j

  whole : A * L / (2 * L) ≡ isqrt N
  whole = go (isqrt N) (sticky (isqrt N) N) (sticky_le (isqrt N) N)
    where
      go : (s t : ℕ) → t ≤ 1 → (2 * s + t) * L / (2 * L) ≡ s
      go s t h = div-eq_of_lt-le (2 * L) (omega arith) (omega (arith, mul-le-mul_right L h))

  size_is : size (isqrt N) ≡ p + suc j
  size_is =
      let a : size (isqrt N) ≤ p + suc j = size-le (isqrt N) (p + suc j)
      (lt_of_lt_of_le above (le_trans (mul-le-mul_right (2 ^ suc j) hi) (le_of_eq (sym (pow-add 2 p (suc j)))))) in
      let b : p - 1 + suc j < size (isqrt N) = size_gt (isqrt N) (p - 1 + suc j) (le_trans (le_of_eq (pow-add 2 (p - 1) (suc j)))
      (le_trans (mul-le-mul_right (2 ^ suc j) lo) below)) in
      is (size (isqrt N)) a b
    where
      is : (z : ℕ) → z ≤ p + suc j → p - 1 + suc j < z → z ≡ p + suc j
      is z a b = omega arith

  drop_is : drop p (A * L) (2 * L) ≡ suc j
  drop_is = ap (λ (z : ℕ). size z - p) whole ∙ ap (λ (z : ℕ). z - p) size_is ∙ cut
    where
      cut : p + suc j - p ≡ suc j
      cut = omega arith

  kept_is : kept p (A * L) (2 * L) ≡ nearest q (compare N (H * H))
  kept_is = ap (λ (z : ℕ). closest (A * L) (2 * L * 2 ^ z)) drop_is ∙ ap
      (λ (z : ℕ). nearest z (compare (A * L % (2 * L * 2 ^ suc j) * 2) (2 * L * 2 ^ suc j))) quot
      ∙ ap (nearest q) (cmp_is (compare N (H * H)) (A * L % (2 * L * 2 ^ suc j) * 2) (2 * L * 2 ^ suc j)
      (scaled (compare N (H * H)) (sticky_cmp N H (compare N (H * H)) (cmp N (H * H)))))
    where
      quot : A * L / (2 * L * 2 ^ suc j) ≡ q
      quot = go (isqrt N) (sticky (isqrt N) N) (2 ^ suc j) (sticky_le (isqrt N) N) below above
        where
          go : (s t g : ℕ) → t ≤ 1 → q * g ≤ s → s < suc q * g → (2 * s + t) * L / (2 * L * g) ≡ q
          go s t g h a b = div-eq_of_lt-le (2 * L * g) (omega (arith, mul-le-mul_right L a))
              (omega (arith, mul-le-mul_right L h, mul-le-mul_right L b))

      rest : A * L % (2 * L * 2 ^ suc j) ≡ A * L - q * (4 * L * 2 ^ j)
      rest = mod-eq-sub-div-mul (A * L) (2 * L * 2 ^ suc j) ∙ ap (λ (z : ℕ). A * L - z * (2 * L * 2 ^ suc j)) quot
          ∙ ap (λ (z : ℕ). A * L - q * z) dbl
        where
          dbl : 2 * L * 2 ^ suc j ≡ 4 * L * 2 ^ j
          dbl = omega (arith, ap (λ (z : ℕ). L * z) (pow-suc 2 j))

      scaled : (o : Ordering) → Cmp o A (2 * H) → Cmp o (A * L % (2 * L * 2 ^ suc j) * 2) (2 * L * 2 ^ suc j)
      scaled o h = subst (λ (z : ℕ). Cmp o (A * L % (2 * L * 2 ^ suc j) * 2) z) (sym dbl) (subst (λ (z : ℕ). Cmp o (z * 2) (4 * L * 2 ^ j))
          (sym rest) (go (2 ^ j) A o h))
        where
          dbl : 2 * L * 2 ^ suc j ≡ 4 * L * 2 ^ j
          dbl = omega (arith, ap (λ (z : ℕ). L * z) (pow-suc 2 j))

          go : (g a : ℕ) (o : Ordering) → Cmp o a (2 * ((2 * q + 1) * g)) → Cmp o ((a * L - q * (4 * L * g)) * 2) (4 * L * g)
          go g a Ordering.lt h = omega (arith, mul-lt-mul_of_pos_right h Lp, mul-pos Lp (pos_of g a h))
            where
              pos_of : (g a : ℕ) → a < 2 * ((2 * q + 1) * g) → 0 < g
              pos_of zero a h = absurd (omega arith)
              pos_of (suc g) a h = omega arith
          go g a Ordering.eq h = omega (arith, ap (λ (z : ℕ). z * L) h)
          go g a Ordering.gt h = omega (arith, mul-lt-mul_of_pos_right h Lp)

-- ---- the rounded root, and its bits
module _ (f : Format) (n q j : ℕ) (lo : hid f ≤ q) (hi : q < 2 ^ prec f) (below : q * 2 ^ suc j ≤ isqrt (n * 2 ^ low f))
    (above : isqrt (n * 2 ^ low f) < suc q * 2 ^ suc j) (room : prec f + suc j < low f + suc (emax f)) where
  abbrev N : ℕ
  N = n * 2 ^ low f

  abbrev mid : ℕ
  mid = (2 * q + 1) * 2 ^ j

  -- how many units of 2 ^ (j + 1)
  abbrev K : ℕ
  K = nearest q (compare N (mid * mid))

  K_top : K ≤ 2 ^ prec f
  K_top = le_trans (nearest-le q (compare N (mid * mid))) hi

  K_low : hid f ≤ K
  K_low = le_trans lo (nearest-ge q (compare N (mid * mid)))

  grid_is : grid f (2 * isqrt N + sticky (isqrt N) N) (2 * 2 ^ low f) ≡ K * 2 ^ suc j
  grid_is =
      let P = two-le_pos (prec f) (two f) in
      ap (λ (z : ℕ). kept (prec f) ((2 * isqrt N + sticky (isqrt N) N) * 2 ^ low f) (2 * 2 ^ low f) * 2 ^ z)
      (drop_is (prec f) (2 ^ low f) N q j P (pow_pos (low f)) lo hi below above)
      ∙ ap (λ (z : ℕ). z * 2 ^ suc j) (kept_is (prec f) (2 ^ low f) N q j P (pow_pos (low f)) lo hi below above)

  K_under : K * 2 ^ suc j < overflow f
  K_under = lt_of_le_of_lt (mul-le-mul_right (2 ^ suc j) K_top) (lt_of_le_of_lt (le_of_eq (sym (pow-add 2 (prec f) (suc j)))) (pow-lt room))

  root_value : HasValue (root_of f n) false (K * 2 ^ suc j) (2 ^ low f)
  unfolding root_of
  root_value =
      let A = 2 * isqrt N + sticky (isqrt N) N in
      subst (λ (z : ℕ). HasValue (round f false A (2 * 2 ^ low f)) false z (2 ^ low f)) grid_is
      (round_val f A (2 * 2 ^ low f) (subst (λ (z : ℕ). z < overflow f) (sym grid_is) K_under))

  pub root_bits_law : to_bits f (root_of f n) ≡ suc j * hid f + K
  root_bits_law = to_bits_value f (root_of f n) false K (suc j) root_value (inl K_low) K_top ∙ zero-add (suc j * hid f + K)
