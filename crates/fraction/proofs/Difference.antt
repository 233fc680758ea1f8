-- A difference of two numbers of a format, x below y, is above 0: it is at least the format's smallest number, and does not round to 0.
use mathlib.Core.Path.{◌≡◌, ap, ◌∙◌}
use mathlib.Core.Logic.{◌⊎◌, inl, inr}
use mathlib.Core.Bool.{Bool, true, false, not, ◌&&◌}
use Prim.Native.Nat.{ℕ, zero, suc, ◌+◌, ◌-◌, ◌*◌, ◌%◌, ◌^◌, ◌≤◌, ◌<◌}
use native.Mathlib.Nat.{mul-le-mul, mul-le-mul_right, mul-pos}
use native.Mathlib.Decide.{dec_lt}
use native.Mathlib.Omega.{arith}
use borrow.Author.Tests.{le-ltb, lt-ltb}
use lib.Dec.{T, eqb, leb, ltb, ltb→lt, leb→le, eqb→eq}
use lib.IntN.{ℤ, pos, negsuc}
use lib.Pow.{pow-add, pow_pos}
use lib.Ieee.{Float, nan, inf, fin, Format, binary32, binary64, prec, emax, up, down, low, fits, lt, below, round, size, span, climb, units, odd, sub, sum}
use lib.Ieee.Fits.{and_l, and_r, down_pos, up_pos}
use lib.Ieee.Order.{round_mono}
use lib.Ieee.Positive.{above, above_of_le, positive}
use lib.Ieee.Scale.{finite}

-- ---- in whole numbers: denominators are powers of two, so that one is a multiple of the other
Multiple : ℕ → ℕ → Type 0
Multiple a b = (k : ℕ) × (a ≡ b * k)

comparable : (e d : ℤ) → Multiple (down e) (down d) ⊎ Multiple (down d) (down e)
unfolding Multiple
comparable (pos a) d = inr (down d, omega arith)
comparable (negsuc a) (pos b) = inl (2 ^ suc a, omega arith)
comparable (negsuc a) (negsuc b) = elim (dec_lt a b) [
  | yes g ↦ inr (2 ^ (suc b - suc a), powers (suc a) (suc b) (omega arith))
  | no g ↦ inl (2 ^ (suc a - suc b), powers (suc b) (suc a) (omega arith))
]
  where
    powers : (i j : ℕ) → i ≤ j → 2 ^ j ≡ 2 ^ i * 2 ^ (j - i)
    powers i j l = let e : j ≡ i + (j - i) = omega arith in ap (λ (k : ℕ). 2 ^ k) e ∙ pow-add 2 i (j - i)

-- a / D and b / E apart differ by at least 1 / L, where L is at least D and E
module _ (D E L : ℕ) (D≤ : D ≤ L) (E≤ : E ≤ L) where
  widen : (x : ℕ) → (E ≤ x) ⊎ (D ≤ x) → D * E ≤ x * L
  widen x (inl h) = let g : E * D ≤ x * L = mul-le-mul h D≤ in omega arith
  widen x (inr h) = mul-le-mul h E≤

  apart : (a b : ℕ) → Multiple D E ⊎ Multiple E D → b * D < a * E → (E ≤ a * E - b * D) ⊎ (D ≤ a * E - b * D)
  unfolding Multiple
  apart a b (inl (k, e)) h = inl (elim (dec_lt (b * k) a) [
    | yes g ↦ omega (arith, mul-le-mul_right E g, ap (λ (z : ℕ). b * z) e)
    | no g ↦
        let l : a ≤ b * k = omega arith in omega (arith, mul-le-mul_right E l, ap (λ (z : ℕ). b * z) e)
  ])
  apart a b (inr (k, e)) h = inr (elim (dec_lt b (a * k)) [
    | yes g ↦ omega (arith, mul-le-mul_right D g, ap (λ (z : ℕ). a * z) e)
    | no g ↦
        let l : a * k ≤ b = omega arith in omega (arith, mul-le-mul_right D l, ap (λ (z : ℕ). a * z) e)
  ])

  some : (a b : ℕ) → 0 < b * D + a * E → (E ≤ a * E + b * D) ⊎ (D ≤ a * E + b * D)
  some zero zero h = absurd (omega arith)
  some zero (suc b) h = inr (omega arith)
  some (suc a) b h = inl (omega arith)

-- ---- the rounding of what is at least the smallest number
smallest : (f : Format) → T (positive (round f false 1 (2 ^ low f)))
unfolding round size span climb units odd
smallest binary32 = tt
smallest binary64 = tt

rounds_above : (f : Format) (n c : ℕ) → 0 < c → c ≤ n * 2 ^ low f → T (above (round f false n c))
rounds_above f n c C h = above_of_le (round f false 1 (2 ^ low f)) (round f false n c) (smallest f)
    (round_mono f 1 (2 ^ low f) n c (pow_pos (low f)) C (omega arith))

module _ (f : Format) (D E : ℕ) (D> : 0 < D) (E> : 0 < E) (D≤ : D ≤ 2 ^ low f) (E≤ : E ≤ 2 ^ low f) (M : Multiple D E ⊎ Multiple E D) where
  above_sum : (s t : Bool) (a b : ℕ) → T (below s (b * D) t (a * E)) → T (above (sum f t (a * E) (not s) (b * D) (D * E)))
  unfolding sum
  above_sum false false a b h =
      let l = ltb→lt (b * D) (a * E) h in
      rw (le-ltb (a * E) (b * D) (omega arith)) (rounds_above f (a * E - b * D) (D * E) (mul-pos D> E>)
      (widen D E (2 ^ low f) D≤ E≤ (a * E - b * D) (apart D E (2 ^ low f) D≤ E≤ a b M l)))
  above_sum false true a b h = absurd h
  above_sum true false a b h = rounds_above f (a * E + b * D) (D * E) (mul-pos D> E>) (widen D E (2 ^ low f) D≤ E≤ (a * E + b * D)
      (some D E (2 ^ low f) D≤ E≤ a b (ltb→lt 0 (b * D + a * E) h)))
  above_sum true true a b h =
      let l = ltb→lt (a * E) (b * D) h in
      let g = widen E D (2 ^ low f) E≤ D≤ (b * D - a * E) (apart E D (2 ^ low f) E≤ D≤ b a (other M) l) in
      rw (lt-ltb (a * E) (b * D) l) (rounds_above f (b * D - a * E) (D * E) (mul-pos D> E>) (omega arith))
    where
      other : Multiple D E ⊎ Multiple E D → Multiple E D ⊎ Multiple D E
      other (inl m) = inr m
      other (inr m) = inl m

-- ---- floats
small : (f : Format) (s : Bool) (m : ℕ) (e : ℤ) → T (fits f (fin s m e)) → down e ≤ 2 ^ low f
unfolding fits
small f s zero e h =
    let p = eqb→eq (up e * down e) 1 h in
    let q : 1 * down e ≤ up e * down e = mul-le-mul_right (down e) (up_pos e) in
    omega (arith, pow_pos (low f))
small f s (suc m) e h =
    let a = eqb (suc m % 2) 1 && ltb (suc m) (2 ^ prec f) in
    let b = leb (down e) (2 ^ low f) in
    leb→le (down e) (2 ^ low f) (and_r a b (and_l (a && b) (ltb (suc m * up e) (2 ^ suc (emax f) * down e)) h))

-- y - x is above 0; it may be infinite
pub difference_above : (f : Format) (x y : Float) → T (fits f x) → T (fits f y) → T (finite x) → T (finite y) → T (lt x y)
    → T (above (sub f y x))
unfolding lt sub
difference_above f nan y F G X Y h = absurd X
difference_above f (inf s) y F G X Y h = absurd X
difference_above f (fin s m e) nan F G X Y h = absurd Y
difference_above f (fin s m e) (inf t) F G X Y h = absurd Y
difference_above f (fin s m e) (fin t n d) F G X Y h = above_sum f (down d) (down e) (down_pos d) (down_pos e) (small f t n d G)
    (small f s m e F) (comparable d e) s t (n * up d) (m * up e) h
