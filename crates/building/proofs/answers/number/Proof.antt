-- `answers::number` meets its contract: by cases on the answer.
use mathlib.Core.Path.{◌≡◌, sym, ap}
use borrow.Author.Rules.{rules}
use Rattle.smoothing.specs.Answer.{number_of}
use Rattle.building.specs.declared.Answer.{Answer}
use Rattle.building.specs.Outcome.{outcome_of}
use Rattle.building.proofs.answers.number.Statement.{statement}
use Rattle.building.proofs.answers.number.Tie as tie

-- the number of the case that it is
at : {a b : Answer} → a ≡ b → number_of (outcome_of b) ≡ number_of (outcome_of a)
at e = ap (λ (x : Answer). number_of (outcome_of x)) (sym e)

pub number_spec : {M : Type 1} → statement M
unfolding number_of
number_spec =
    tie.close
    (tie.spec
    (λ c. search rules)
    (λ c. search rules)
    (λ c. search rules)
    (λ c. search rules)
    (λ c. search rules)
    (λ c. search rules)
    (λ c. search rules)
    (λ c. search rules)
    (λ c. search rules)
    (λ c. search rules)
    (λ c. search rules)
    (λ c. search rules)
    (λ c. search rules)
    (λ c. search rules)
    (λ c. search rules)
    (λ c. search rules)
    (λ c. search rules)
    (λ c. search rules)
    (λ c. search rules)
    (λ c. search rules)
    (λ c. search rules)
    (λ c. search rules)
    (λ c. at c.in-Accepted.is)
    (λ c. at c.in-BadPoints.is)
    (λ c. at c.in-NoAxes.is)
    (λ c. at c.in-BadAxes.is)
    (λ c. at c.in-BadTolerance.is)
    (λ c. at c.in-BadParameters.is)
    (λ c. at c.in-BadRange.is)
    (λ c. at c.in-Overflow.is)
    (λ c. at c.in-InitialSegments.is)
    (λ c. at c.in-BadDiagonal.is)
    (λ c. at c.in-BadPivot.is)
    (λ c. at c.in-BadSolution.is)
    (λ c. at c.in-NotAbove.is)
    (λ c. at c.in-NotFinite.is)
    (λ c. at c.in-RefinementsUsedUp.is)
    (λ c. at c.in-SegmentsUsedUp.is)
    (λ c. at c.in-BadMidpoint.is)
    (λ c. at c.in-ErrorAboveTolerance.is)
    (λ c. at c.in-AboveDomain.is)
    (λ c. at c.in-ShortSlice.is)
    (λ c. at c.in-PointCells.is)
    (λ c. at c.in-ToleranceTooFine.is))
