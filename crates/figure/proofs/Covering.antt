-- Every exact fraction from 0 to 1 lies in a segment and in an interval.
use mathlib.Core.Logic.{inl, inr}
use mathlib.Core.Path.{◌≡◌, subst, sym}
use std.Quotient.{cls}
use Prim.Native.Nat.{ℕ, ◌+◌, ◌-◌, ◌<◌}
use native.Mathlib.Omega.{arith}
use lib.Ieee.{Float, of_bits, of_fields, odd}
use lib.IntN.{pos}
use Rattle.window.specs.Cells.{+0}
use Rattle.fraction.specs.Fraction.{Fraction, ◌≤f◌, whole_fraction}
use Rattle.fraction.specs.Rational.{◌≤q◌, at_mostq, wholeq, ℚ}
use Rattle.fraction.specs.Value.{exact_fraction, value}
use Rattle.fraction.proofs.Rational.{<q-weaken, ≤f-gives-≤q, ≤q-means-≤f, ≤q-or-<, ≤q-trans}
use Rattle.figure.specs.Distance.{Covered, LiesIn, Rises}
use Rattle.figure.specs.Figure.{Axis}
use Rattle.figure.proofs.Overlap.{find}
use Rattle.figure.proofs.Rising.{first_is, last_is, one, rises_to, some_step}

-- +0 is worth 0, and the float 1 is worth 1
zero_worth : value +0 ≤q wholeq (pos 0)
unfolding at_mostq of_bits of_fields odd
zero_worth = tt

one_worth : wholeq (pos 1) ≤q value one
unfolding at_mostq of_bits of_fields odd
one_worth = tt

-- the step of a list that t lies in
record Step (count : ℕ) (x : ℕ → Float) (t : Fraction) : Type 0 where
  place : ℕ
  inside : place < count
  lies : LiesIn (x place) (x (place + 1)) t

-- numbers that rise from 0 to 1 leave out no fraction from 0 to 1
step_at : (count : ℕ) (x : ℕ → Float) → Rises count x → (t : Fraction) → whole_fraction (pos 0) ≤f t → t ≤f whole_fraction (pos 1)
    → Step count x t
step_at count x r t t0 t1 = elim (≤q-or-< (value (x count)) (cls t)) [
  | inl k ↦
      let last : count - 1 + 1 ≡ count = omega (arith, some) in
      record {
        place = count - 1;
        inside = omega (arith, some);
        lies = record {
          above = ≤q-means-≤f (exact_fraction (x (count - 1))) t (≤q-trans (value (x (count - 1))) (value (x count)) (cls t)
              (rises_to count x r (count - 1) 1 count last (omega arith)) k);
          below = ≤q-means-≤f t (exact_fraction (x (count - 1 + 1))) (subst (λ (j : ℕ). cls t ≤q value (x j)) (sym last) high);
        };
      }
  | inr k ↦
      let w = find x (cls t) low count k in
      record {
        place = w.place;
        inside = w.inside;
        lies = record {
          above = ≤q-means-≤f (exact_fraction (x w.place)) t w.above;
          below = ≤q-means-≤f t (exact_fraction (x (w.place + 1))) (<q-weaken (cls t) (value (x (w.place + 1))) w.below);
        };
      }
]
  where
    some : 0 < count
    some = some_step count x r

    low : value (x 0) ≤q cls t
    low =
        subst (λ (z : ℚ). z ≤q cls t) (sym (first_is count x r)) (≤q-trans (value +0) (wholeq (pos 0)) (cls t) zero_worth
        (≤f-gives-≤q (whole_fraction (pos 0)) t t0))

    high : cls t ≤q value (x count)
    high =
        subst (λ (z : ℚ). cls t ≤q z) (sym (last_is count x r)) (≤q-trans (cls t) (wholeq (pos 1)) (value one)
        (≤f-gives-≤q t (whole_fraction (pos 1)) t1) one_worth)

pub covered : (x : Axis) → Rises x.segments x.break → Rises x.intervals x.parameter → (t : Fraction)
    → whole_fraction (pos 0) ≤f t → t ≤f whole_fraction (pos 1) → Covered x t
covered x breaks parameters t t0 t1 =
    let m = step_at x.segments x.break breaks t t0 t1 in
    let i = step_at x.intervals x.parameter parameters t t0 t1 in
    record {
      segment = m.place;
      interval = i.place;
      a_segment = m.inside;
      an_interval = i.inside;
      in_segment = m.lies;
      in_interval =
          i.lies;
    }
