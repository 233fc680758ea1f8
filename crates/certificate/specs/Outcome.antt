-- Document 01's number of each answer of the code, with its figure.
use Rattle.std.specs.Prelude.{ℕ, Float, Option, Result, Ok, Err}
use Rattle.figure.specs.Certify.{CertificateOutcome, outcome}
use Rattle.figure.specs.Figure.{no_figure}
use Rattle.certificate.specs.Structs.{figure_in}
use Rattle.certificate.specs.declared.certify.Refusal.{Refusal}
use Rattle.certificate.specs.declared.certify.Refusal.TheVariants.{TooDeep, AboveDomain, PointCells, BadPoints, BadParameters, BadRange, Malformed, NotSelected}

-- document 01's number of a refusal
abbrev pub refusal_number : Refusal → ℕ
refusal_number TooDeep = 23
refusal_number AboveDomain = 18
refusal_number PointCells = 20
refusal_number BadPoints = 1
refusal_number BadParameters = 5
refusal_number BadRange = 6
refusal_number Malformed = 24
refusal_number NotSelected = 3

-- and of an answer, with its figure
abbrev pub outcome_of : Result (Option Float) Refusal → CertificateOutcome
outcome_of (Ok f) = outcome 0 (figure_in f)
outcome_of (Err r) = outcome (refusal_number r) no_figure
