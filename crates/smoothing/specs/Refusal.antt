-- What the stages refuse, as the definition's answers.
use Rattle.std.specs.Prelude.{ℕ, Result, Ok, Err}
use Rattle.normal.specs.Solve as solving
use Rattle.polynomial.specs.Outcome as audits
use Rattle.smoothing.specs.Answer.{Answer}
use Rattle.smoothing.specs.Answer.Answer.{done, refused, exhausted}
use Rattle.smoothing.specs.declared.refusal.Refusal.{Refusal}
use Rattle.smoothing.specs.declared.refusal.Refusal.TheVariants.{InitialSegments, Unsolved, Unaudited, RefinementsUsedUp, SegmentsUsedUp, BadMidpoint, ErrorAboveTolerance}

-- document 01's number
abbrev pub refusal_number : Refusal → ℕ
refusal_number InitialSegments = 8
refusal_number (Unsolved e) = solving.refusal_number e
refusal_number (Unaudited e) = audits.refusal_number e
refusal_number (RefinementsUsedUp ratio) = 14
refusal_number SegmentsUsedUp = 15
refusal_number BadMidpoint = 16
refusal_number ErrorAboveTolerance = 17

-- the definition's answer: the number alone, but 14 carries its ratio
abbrev pub refused_by : {A : Type 0} → Refusal → Answer A
refused_by InitialSegments = refused 8
refused_by (Unsolved e) = refused (solving.refusal_number e)
refused_by (Unaudited e) = refused (audits.refusal_number e)
refused_by (RefinementsUsedUp ratio) = exhausted ratio
refused_by SegmentsUsedUp = refused 15
refused_by BadMidpoint = refused 16
refused_by ErrorAboveTolerance = refused 17

-- a value that stands somewhere, unless it was refused
abbrev pub answered : {A B : Type 0} → Result A Refusal → B → Answer B
answered (Ok a) x = done x
answered (Err e) x = refused_by e
