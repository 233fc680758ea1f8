-- The curve on one span: the three readings agree there, and only six controls matter.
use mathlib.Core.Path.{◌≡◌, refl, ap, ◌∙◌}
use mathlib.Core.List.{[], ◌∷◌}
use Prim.Native.Nat.{ℕ, zero, suc, ◌+◌, ◌-◌, ◌≤◌, ◌<◌}
use native.Mathlib.Omega.{arith}
use Rattle.fraction.specs.Rational.{ℚ, ◌+q◌, ◌*q◌, ◌≤q◌, ◌<q◌, 𝟘}
use Rattle.fraction.specs.RationalRing.{rational_ring}
use Rattle.fraction.specs.Ring.{◌⊕◌, ◌⊗◌, solve, v0}
use Rattle.fraction.specs.Sum.{sum}
use Rattle.fraction.proofs.Sum.{sum_equal, sum_zero}
use Rattle.book.specs.Basis.{basis, half_open, on_span, Nondecreasing}
use Rattle.book.specs.Curve.{curve}
use Rattle.book.proofs.Terms.{n0}
use Rattle.book.proofs.Recurrence.{before_support, after_support}
use Rattle.book.proofs.Readings.{half_open_basis}

-- two readings with the same functions of degree 5 give the same curve
pub curve_reading : (t first first' : ℕ → ℚ) (m : ℕ) (c : ℕ → ℚ) (u : ℚ) → 0 < m → ((i : ℕ) → i < m → basis t first u 5 i ≡ basis t first' u
    5 i) → curve t first m c u ≡ curve t first' m c u
curve_reading t first first' m c u some h =
    sum_equal rational_ring (m - 1) (λ i. basis t first u 5 i *q c i) (λ i. basis t first' u 5 i *q c i)
    (λ i l. ap (λ (z : ℚ). z *q c i) (h i (omega arith)))

-- where u_span ≤ x < u_(span+1) the book's curve is that of the span
pub half_open_curve : (t : ℕ → ℚ) (m : ℕ) → Nondecreasing (m + 6) t → (span : ℕ) → span < m → (x : ℚ) → t span ≤q x → x <q t (span + 1)
    → (c : ℕ → ℚ)
    → curve t (half_open t x) m c x ≡ curve t (on_span span) m c x
half_open_curve t m sorted span h x low high c =
    curve_reading t (half_open t x) (on_span span) m c x (omega arith) (λ i l. half_open_basis t (m + 6) sorted span x low high (omega arith)
    5 i (omega arith))

-- ---- a sum whose terms are 0 but for six in a row
sum_six : (n a : ℕ) (f : ℕ → ℚ) → a + 5 ≤ n → ((i : ℕ) → i < a → f i ≡ 𝟘) → ((i : ℕ) → a + 5 < i → f i ≡ 𝟘) → sum rational_ring n f
    ≡ sum rational_ring 5 (λ r. f (a + r))
sum_six (suc (suc (suc (suc (suc zero))))) zero f h lo hi = refl
sum_six (suc (suc (suc (suc (suc (suc n)))))) zero f h lo hi =
    ap (λ (z : ℚ). f 0 +q (f 1 +q (f 2 +q (f 3 +q (f 4 +q (f 5 +q z))))))
    (sum_zero rational_ring n (λ i. f (suc (suc (suc (suc (suc (suc i))))))) (λ i l. hi (suc (suc (suc (suc (suc (suc i)))))) (omega arith)))
    ∙ ap (λ (z : ℚ). f 0 +q (f 1 +q (f 2 +q (f 3 +q (f 4 +q z))))) (solve rational_ring (f 5 ∷ []) (v0 ⊕ n0) v0 tt)
sum_six zero zero f h lo hi = absurd (omega arith)
sum_six (suc zero) zero f h lo hi = absurd (omega arith)
sum_six (suc (suc zero)) zero f h lo hi = absurd (omega arith)
sum_six (suc (suc (suc zero))) zero f h lo hi = absurd (omega arith)
sum_six (suc (suc (suc (suc zero)))) zero f h lo hi = absurd (omega arith)
sum_six zero (suc a) f h lo hi = absurd (omega arith)
sum_six (suc n) (suc a) f h lo hi =
    ap (λ (z : ℚ). z +q sum rational_ring n (λ i. f (suc i))) (lo 0 (omega arith))
    ∙ solve rational_ring (sum rational_ring n (λ i. f (suc i)) ∷ []) (n0 ⊕ v0) v0 tt
    ∙ sum_six n a (λ i. f (suc i)) (omega arith) (λ i l. lo (suc i) (omega arith)) (λ i l. hi (suc i) (omega arith))
    ∙ sum_equal rational_ring 5 (λ r. f (suc (a + r))) (λ r. f (suc a + r)) (λ r l. ap f (omega arith))

-- the curve of a span, by its six functions
pub curve_six : (t : ℕ → ℚ) (m : ℕ) (span : ℕ) → 5 ≤ span → span < m → (x : ℚ) (c : ℕ → ℚ)
    → curve t (on_span span) m c x ≡ sum rational_ring 5 (λ r. basis t (on_span span) x 5 (span - 5 + r) *q c (span - 5 + r))
curve_six t m span five h x c =
    sum_six (m - 1) (span - 5) (λ i. basis t (on_span span) x 5 i *q c i) (omega arith)
    (λ i l. none i (after_support t span x 5 i (omega arith)))
    (λ i l. none i (before_support t span x 5 i (omega arith)))
  where
    none : (i : ℕ) → basis t (on_span span) x 5 i ≡ 𝟘 → basis t (on_span span) x 5 i *q c i ≡ 𝟘
    none i e = rw e (solve rational_ring (c i ∷ []) (n0 ⊗ v0) n0 tt)
