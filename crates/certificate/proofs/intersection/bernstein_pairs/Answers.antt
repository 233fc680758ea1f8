use Rattle.std.proofs.Common.{◌≡◌, ◌∙◌, refl, false, arith}
use lib.Ieee.{binary64, of_bits, round}
use Rattle.fraction.specs.Binomial.{choose}
use Rattle.figure.specs.Intersection.{difference_power}
use Rattle.figure.specs.Operations.{ends}
use Rattle.estimate.specs.Structs.{intersection_of}
use Rattle.certificate.specs.Structs.{pair_at}
use Rattle.certificate.proofs.Sums.{bernstein_zero, holds_bernstein, holds_six, six_at}
use Rattle.certificate.proofs.intersection.bernstein_pairs.Goals as goal

pub returns : goal.returns
returns c =
    let p = difference_power ends (intersection_of c.args.x) in
    let h = holds_bernstein c.difference_powers-q.result p c.difference_powers-q.ensures in
    holds_six _ _ _ _ _ _ _
    (c.first-b.ensures ∙ bernstein_zero (pair_at c.difference_powers-q.result) ∙ h 0 (omega arith))
    (c.bernstein.ensures ∙ h 1 (omega arith))
    (c.bernstein-2.ensures ∙ h 2 (omega arith))
    (c.bernstein-3.ensures ∙ h 3 (omega arith))
    (c.bernstein-4.ensures ∙ h 4 (omega arith))
    (c.bernstein-5.ensures ∙ h 5 (omega arith))

pub bernstein-requires : goal.bernstein-requires
unfolding of_bits round
bernstein-requires c = (
  omega arith,
  c.first-b.ensures ∙ bernstein_zero (pair_at c.difference_powers-q.result),
  six_at _ _ _ _ _ _ (λ j. round binary64 false (choose 1 j) 1) refl refl refl refl refl refl,
  six_at _ _ _ _ _ _ (λ j. round binary64 false (choose 5 j) 1) refl refl refl refl refl refl,
)

pub bernstein-requires-2 : goal.bernstein-requires-2
unfolding of_bits round
bernstein-requires-2 c = (
  omega arith,
  c.first-b.ensures ∙ bernstein_zero (pair_at c.difference_powers-q.result),
  six_at _ _ _ _ _ _ (λ j. round binary64 false (choose 2 j) 1) refl refl refl refl refl refl,
  six_at _ _ _ _ _ _ (λ j. round binary64 false (choose 5 j) 1) refl refl refl refl refl refl,
)

pub bernstein-requires-3 : goal.bernstein-requires-3
unfolding of_bits round
bernstein-requires-3 c = (
  omega arith,
  c.first-b.ensures ∙ bernstein_zero (pair_at c.difference_powers-q.result),
  six_at _ _ _ _ _ _ (λ j. round binary64 false (choose 3 j) 1) refl refl refl refl refl refl,
  six_at _ _ _ _ _ _ (λ j. round binary64 false (choose 5 j) 1) refl refl refl refl refl refl,
)

pub bernstein-requires-4 : goal.bernstein-requires-4
unfolding of_bits round
bernstein-requires-4 c = (
  omega arith,
  c.first-b.ensures ∙ bernstein_zero (pair_at c.difference_powers-q.result),
  six_at _ _ _ _ _ _ (λ j. round binary64 false (choose 4 j) 1) refl refl refl refl refl refl,
  six_at _ _ _ _ _ _ (λ j. round binary64 false (choose 5 j) 1) refl refl refl refl refl refl,
)

pub bernstein-requires-5 : goal.bernstein-requires-5
unfolding of_bits round
bernstein-requires-5 c = (
  omega arith,
  c.first-b.ensures ∙ bernstein_zero (pair_at c.difference_powers-q.result),
  six_at _ _ _ _ _ _ (λ j. round binary64 false (choose 5 j) 1) refl refl refl refl refl refl,
  six_at _ _ _ _ _ _ (λ j. round binary64 false (choose 5 j) 1) refl refl refl refl refl refl,
)
