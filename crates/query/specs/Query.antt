-- One query: the source's `SmoothedSpline::evaluate`, with document 01's checks before it; and many queries in one call.
use Rattle.std.specs.Prelude.{Bool, not, ◌&&◌, ◌||◌, cond, List, ◌≡◌, ℕ, ◌+◌, ◌-◌, ◌*◌, leb, ltb, eqb, length, Float, is_none, Result, Ok, Err}
use Rattle.std.specs.Float.{binary64}
use Rattle.std.specs.Float.Ieee.{of_bits, sub, div}
use Rattle.window.specs.Cells.{at}
use Rattle.window.specs.Rows.{join, list_of}
use Rattle.curve.specs.declared.Curve.{Curve}
use Rattle.query.specs.declared.segment.Derivatives.{Derivatives}
use Rattle.query.specs.declared.range.Ranged.{Ranged}
use Rattle.query.specs.declared.entry.Refusal.{Refusal}
use Rattle.query.specs.declared.entry.Refusal.TheVariants.{Malformed, OrderAboveThree, TooShort, OutsideAt}
use Rattle.query.specs.declared.entry.Spans.{Spans}
use Rattle.arith.specs.First.{first_of}
use Rattle.curve.specs.Places.{axis_place}
use Rattle.curve.specs.Form.{Slices, well_formed}
use Rattle.query.specs.Segment.{located, axis_at}
use Rattle.query.specs.Row.{Outputs, filled, standing}
use Rattle.query.specs.Range.{ranged_of, answered_at}

-- `end - start`
abbrev pub parameter_length : Curve → Float
parameter_length c = sub binary64 c.end c.start

-- `let u = (x - start) / (end - start)`
abbrev pub normalised : Curve → Float → Float
normalised c x = div binary64 (sub binary64 x c.start) (parameter_length c)

-- `let scale = 1. / (end - start)`
abbrev pub scale_of : Curve → Float
scale_of c = div binary64 (of_bits binary64 0x3ff0_0000_0000_0000) (parameter_length c)

-- axis a at x, from start to end: its value with its three derivatives
unfoldable pub axis_derivatives : Curve → Slices → Float → ℕ → Derivatives
axis_derivatives c s x a =
    axis_at s.coefficients s.other_coefficients c.k (c.d - c.k) (axis_place c.axes c.k a) (located s.breaks (normalised c x))
    (located s.other_breaks (normalised c x)) (scale_of c)

-- one order of every axis, of a query that is answered: d cells
abbrev pub column_of : (Derivatives → Float) → Curve → Slices → Ranged → List Float
column_of part c s r = list_of c.d (λ a. part (standing r.outside (axis_derivatives c s r.at a)))

-- a call's number, 0 for an answer; of many parameters the place of the first that is refused, otherwise 0; what the four slices hold
-- after it
pub record Outcome : Type 0 where
  pub number : ℕ
  pub place : ℕ
  pub after : Outputs

abbrev pub outcome : ℕ → ℕ → Outputs → Outcome
outcome n i o = record { number = n; place = i; after = o }

-- "those up to the order asked need d cells": whether one of the slices, of these lengths, has fewer cells than are needed
unfoldable pub short_of : ℕ → ℕ → ℕ → ℕ → ℕ → ℕ → Bool
short_of order needed q dq ddq dddq =
    ltb q needed || (leb 1 order && ltb dq needed) || (leb 2 order && ltb ddq needed) || (leb 3 order && ltb dddq needed)

-- The checks that look at no parameter, in document 01's order, "Query: 24, 23, 19, 22", and then what follows. On a refusal nothing is
-- written.
unfoldable pub checked : Curve → Slices → ℕ → ℕ → Outputs → Outcome → Outcome
checked c s order needed o next =
    cond (not (well_formed c s)) (outcome 24 0 o)
    (cond (ltb 3 order) (outcome 23 0 o)
    (cond (short_of order needed (length o.q) (length o.dq) (length o.ddq) (length o.dddq)) (outcome 19 0 o) next))

-- The query at x, up to an order from 0 to 3: `evaluate`.
unfoldable pub evaluate_of : Curve → Slices → Float → ℕ → Outputs → Outcome
evaluate_of c s x order o =
    checked c s order c.d o
    (cond (is_none (ranged_of c x)) (outcome 22 0 o) (outcome 0 0 (filled order 0 (λ part. column_of part c s (answered_at c x)) o)))

-- the first of the parameters that is refused; their count where none is
abbrev pub first_refused : Curve → List Float → ℕ
first_refused c xs = first_of (length xs) (λ i. is_none (ranged_of c (at xs i)))

-- one order of every axis at every parameter, parameter after parameter: each as the single query has it
abbrev pub columns_of : (Derivatives → Float) → Curve → Slices → List Float → List Float
columns_of part c s xs = join (length xs) (λ i. column_of part c s (answered_at c (at xs i)))

-- Queries at all of xs in one call. The first that is refused refuses the call.
unfoldable pub evaluate_all_of : Curve → Slices → List Float → ℕ → Outputs → Outcome
evaluate_all_of c s xs order o =
    checked c s order (length xs * c.d) o
    (cond (ltb (first_refused c xs) (length xs))
    (outcome 22 (first_refused c xs) o)
    (outcome 0 0 (filled order 0 (λ part. columns_of part c s xs) o)))

-- the segment of a set in which the query at x is answered
abbrev pub span_at : Curve → List Float → Float → ℕ
span_at c breaks x = (located breaks (normalised c (answered_at c x).at)).span

-- "its last span": after a query with this number the segment of its answer; a refusal keeps the one before
abbrev pub kept_of : ℕ → Curve → List Float → Float → ℕ → ℕ
kept_of number c breaks x near = cond (eqb number 0) (span_at c breaks x) near

-- the segment of the selected set that its caller has after a query that was given `near`: the answer's, or `near` still
abbrev pub span_kept : Result Spans Refusal → ℕ → ℕ
span_kept (Ok here) near = here.span
span_kept (Err e) near = near

-- the same of the other set
abbrev pub other_span_kept : Result Spans Refusal → ℕ → ℕ
other_span_kept (Ok here) near = here.other_span
other_span_kept (Err e) near = near

-- the segments of the last of the first n parameters, if there is one
abbrev pub Last : Curve → Slices → List Float → ℕ → ℕ → ℕ → Type 0
Last c s xs n span other_span = (i : ℕ) → i + 1 ≡ n
    → (span ≡ span_at c s.breaks (at xs i)) × (other_span ≡ span_at c s.other_breaks (at xs i))

-- document 01's number of a refusal
abbrev pub refusal_number : Refusal → ℕ
refusal_number Malformed = 24
refusal_number OrderAboveThree = 23
refusal_number TooShort = 19
refusal_number (OutsideAt place) = 22

-- the same of an answer; 0 says that there is one
abbrev pub number_of : {T : Type 0} → Result T Refusal → ℕ
number_of (Ok x) = 0
number_of (Err e) = refusal_number e

-- which of many parameters is outside; 0 where another check refuses
abbrev pub outside_place : Refusal → ℕ
outside_place Malformed = 0
outside_place OrderAboveThree = 0
outside_place TooShort = 0
outside_place (OutsideAt place) = place

-- the same of an answer; 0 where nothing is refused
abbrev pub refused_place : {T : Type 0} → Result T Refusal → ℕ
refused_place (Ok x) = 0
refused_place (Err e) = outside_place e
