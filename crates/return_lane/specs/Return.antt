-- The return lane: document 02, request 12.
use Rattle.std.specs.Prelude.{Bool, not, cond, ◌&&◌, ◌||◌, List, ℕ, ◌+◌, ◌-◌, ◌*◌, ltb, length, take, Float, Result, Ok, Err}
use Rattle.std.specs.Float.{binary64}
use Rattle.std.specs.Float.Ieee.{of_bits, sub}
use Rattle.arith.specs.Operations.{floats}
use Rattle.window.specs.Cells.{at}
use Rattle.window.specs.Rows.{join, list_of, table, written}
use Rattle.curve.specs.declared.Curve.{Curve}
use Rattle.curve.specs.Form.{Slices, slices, breaks_rise, with_widths, well_formed}
use Rattle.return_lane.specs.declared.Refusal.{Refusal}
use Rattle.return_lane.specs.declared.Refusal.TheVariants.{Malformed, TooShort, NotRising}
use Rattle.return_lane.specs.Segment.{return_coefficient}

-- 1 minus the i-th break from the end
abbrev pub return_break : List Float → ℕ → Float
return_break breaks i = sub binary64 (of_bits binary64 0x3ff0_0000_0000_0000) (at breaks (length breaks - (i + 1)))

-- "breaks become 1 minus the old ones in reverse"
unfoldable pub return_breaks : List Float → List Float
return_breaks breaks = list_of (length breaks) (return_break breaks)

-- the coefficients of segment i, of m axes, driven back
unfoldable pub return_segment : ℕ → List Float → ℕ → List Float
return_segment m coefficients i = table m 6 (λ a k. return_coefficient floats (λ j. at coefficients (6 * (i * m + a) + j)) k)

-- "segments are taken in reverse": n of them
unfoldable pub return_coefficients : ℕ → ℕ → List Float → List Float
return_coefficients m n coefficients = join n (λ i. return_segment m coefficients (n - (i + 1)))

-- "both sets"; a width is kept for each segment, the rounded difference of the new breaks. "All else remains": the curve is the same.
abbrev pub return_slices : Curve → Slices → Slices
return_slices c s =
    let breaks = return_breaks s.breaks in
    let others = return_breaks s.other_breaks in
    slices breaks (with_widths breaks (return_coefficients c.k c.segments s.coefficients))
    others (with_widths others (return_coefficients (c.d - c.k) c.other_segments s.other_coefficients))

-- 19, "a lent slice too short": the return lane has as many cells as the lane
unfoldable pub short_for : Slices → Slices → Bool
short_for s lent =
    ltb (length lent.breaks) (length s.breaks) || ltb (length lent.coefficients) (length s.coefficients)
    || ltb (length lent.other_breaks) (length s.other_breaks)
    || ltb (length lent.other_coefficients) (length s.other_coefficients)

-- whether the breaks rise strictly
unfoldable pub rises_back : List Float → Bool
rises_back breaks = breaks_rise (return_breaks breaks) (length breaks - 1)

-- the lent slices with the return lane in their first cells; the others are unchanged
abbrev pub onto_slices : Slices → Slices → Slices
onto_slices s lent =
    slices (written 0 s.breaks lent.breaks) (written 0 s.coefficients lent.coefficients)
    (written 0 s.other_breaks lent.other_breaks) (written 0 s.other_coefficients lent.other_coefficients)

-- the first cells of the lent slices, as many as the lane has
abbrev pub used_by : Slices → Slices → Slices
used_by s lent =
    slices (take (length s.breaks) lent.breaks) (take (length s.coefficients) lent.coefficients)
    (take (length s.other_breaks) lent.other_breaks) (take (length s.other_coefficients) lent.other_coefficients)

-- a call's number, 0 for an answer; and what the lent slices hold after it
pub record Outcome : Type 0 where
  pub number : ℕ
  pub after : Slices

abbrev pub outcome : ℕ → Slices → Outcome
outcome n s = record { number = n; after = s }

-- "a return lane whose breaks don't rise strictly is 29, after 24 and 19"; a refusal writes nothing
unfoldable pub return_of : Curve → Slices → Slices → Outcome
return_of c s lent =
    cond (not (well_formed c s)) (outcome 24 lent)
    (cond (short_for s lent) (outcome 19 lent)
    (cond (not (rises_back s.breaks && rises_back s.other_breaks)) (outcome 29 lent)
    (outcome 0 (onto_slices (return_slices c s) lent))))

-- document 02's number of an answer, 0 where nothing is refused
abbrev pub number_of : Result (Unit {0}) Refusal → ℕ
number_of (Ok _) = 0
number_of (Err Malformed) = 24
number_of (Err TooShort) = 19
number_of (Err NotRising) = 29
