-- The three readings of the functions of degree 0: where they agree.
use mathlib.Core.Path.{◌≡◌, refl, sym, ap, ◌∙◌}
use mathlib.Core.Bool.{Bool, true, false, not, ◌&&◌, cond}
use Prim.Native.Nat.{ℕ, ◌+◌, ◌-◌, ◌<◌}
use native.Mathlib.Omega.{arith}
use native.Mathlib.Decide.{dec_lt}
use lib.Ieee.Bits.{is_true, is_false}
use Rattle.fraction.proofs.Rational.{≤q-trans, <q-≤q-trans}
use Rattle.fraction.specs.Rational.{ℚ, at_mostq, ◌≤q◌, 𝟘, 𝟙, ◌<q◌}
use Rattle.book.specs.Basis.{basis, half_open, on_span, closed_at_end, Nondecreasing}
use Rattle.book.proofs.Order.{rises}
use Rattle.book.proofs.Recurrence.{basis_first, on_here, on_other}

module _ (t : ℕ → ℚ) (n : ℕ) (sorted : Nondecreasing n t) (span : ℕ) (x : ℚ) (low : t span ≤q x) (high : x <q t (span + 1))
    (room : span + 1 < n) where
  -- where u_span ≤ x < u_(span+1) the book's functions of degree 0 are those of that span
  half_open_on : (i : ℕ) → i + 1 < n → half_open t x i ≡ on_span span i
  unfolding half_open
  half_open_on i h = elim (dec_lt i span) [
    | yes l ↦
        second_fails (at_mostq (t i) x) (not (at_mostq (t (i + 1)) x))
        (ap not (is_true (at_mostq (t (i + 1)) x) (≤q-trans (t (i + 1)) (t span) x (rises t n sorted (i + 1) span (omega arith)
        (omega arith)) low)))
        ∙ sym (on_other span i (λ e. omega arith))
    | no l ↦ elim (dec_lt span i) [
      | yes g ↦
          first_fails (at_mostq (t i) x) (not (at_mostq (t (i + 1)) x))
          (is_false (at_mostq (t i) x) (<q-≤q-trans x (t (span + 1)) (t i) high (rises t n sorted (span + 1) i (omega arith) (omega arith))))
          ∙ sym (on_other span i (λ e. omega arith))
      | no g ↦
          let e : i ≡ span = omega arith in
          rw e (both_hold (at_mostq (t span) x) (not (at_mostq (t (span + 1)) x)) (is_true (at_mostq (t span) x) low)
          (ap not (is_false (at_mostq (t (span + 1)) x) high)) ∙ sym (on_here span))
    ]
  ]
    where
      second_fails : (a b : Bool) → b ≡ false → cond (a && b) 𝟙 𝟘 ≡ 𝟘
      second_fails true b e = rw e
      second_fails false b e = refl

      first_fails : (a b : Bool) → a ≡ false → cond (a && b) 𝟙 𝟘 ≡ 𝟘
      first_fails a b e = rw e

      both_hold : (a b : Bool) → a ≡ true → b ≡ true → cond (a && b) 𝟙 𝟘 ≡ 𝟙
      both_hold a b d e = rw (d, e)

  -- and so are those of degree p
  pub half_open_basis : (p i : ℕ) → i + p + 1 < n → basis t (half_open t x) x p i ≡ basis t (on_span span) x p i
  half_open_basis p i h = basis_first t (half_open t x) (on_span span) x p i (λ m a b. half_open_on m (omega arith))

-- at the right end, the closed reading is that of the last span
pub closed_last : (m : ℕ) (t : ℕ → ℚ) (x : ℚ) → at_mostq (t m) x ≡ true → x ≤q t m → (p i : ℕ) → basis t (closed_at_end m t x) x p i
    ≡ basis t (on_span (m - 1)) x p i
unfolding closed_at_end
closed_last m t x h k p i = basis_first t (closed_at_end m t x) (on_span (m - 1)) x p i (λ j a b. rw (h, is_true (at_mostq x (t m)) k))

-- before it, the book's
pub closed_before : (m : ℕ) (t : ℕ → ℚ) (x : ℚ) → at_mostq (t m) x ≡ false → (p i : ℕ) → basis t (closed_at_end m t x) x p i
    ≡ basis t (half_open t x) x p i
unfolding closed_at_end
closed_before m t x h p i = basis_first t (closed_at_end m t x) (half_open t x) x p i (λ j a b. rw h)
