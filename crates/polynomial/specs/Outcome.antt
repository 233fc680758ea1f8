-- How an audit ends.
use Rattle.std.specs.Prelude.{ℕ, Bool, true, false, ⊤, Result, Ok, Err}
use Rattle.polynomial.specs.declared.interval.Unaudited.{Unaudited}
use Rattle.polynomial.specs.declared.interval.Unaudited.TheVariants.{NotAbove, NotFinite}

-- nothing was refused, or why
abbrev pub Outcome : Type 0
Outcome = Result ⊤ Unaudited

abbrev pub Done : Outcome
Done = Ok tt

-- document 01's number of a refusal
abbrev pub refusal_number : Unaudited → ℕ
refusal_number NotAbove = 12
refusal_number NotFinite = 13

-- the same of an outcome; 0 is none
abbrev pub number_of : Outcome → ℕ
number_of (Ok a) = 0
number_of (Err e) = refusal_number e

-- nothing was refused
abbrev pub is_done : Outcome → Bool
is_done (Ok a) = true
is_done (Err e) = false
