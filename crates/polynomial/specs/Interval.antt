-- One waypoint interval of the source's `audit`, step by step: the pieces that it has in common with the segments, on each piece the axes,
-- and of each axis the six Bernstein coefficients of curve less line. `breaks` and `coefficients` are the curve, s the waypoints'
-- parameters, y their coordinates, d axes each.
use Rattle.std.specs.Prelude.{◌≡◌, ℕ, ◌+◌, ◌*◌, Bool, true, ◌&&◌, cond, List, length, set, Float, Result, Ok, Err}
use Rattle.std.specs.Float.{binary64}
use Rattle.std.specs.Float.Ieee.{of_bits, add, div, neg, lt, le}
use Rattle.std.specs.Float.Ieee.Scale.{finite}
use Rattle.arith.specs.Operations.{floats}
use Rattle.arith.specs.Loop.{each, till, Step}
use Rattle.arith.specs.Loop.Step.{next, stop}
use Rattle.window.specs.Window.{window}
use Rattle.window.specs.Cells.{at, zeros}
use Rattle.fraction.specs.Value.{absolute_float}
use Rattle.float.specs.Order.{max_of, min_of}
use Rattle.float.specs.Power.{power_of}
use Rattle.polynomial.specs.declared.piece.Piece.{Piece}
use Rattle.polynomial.specs.declared.piece.Largest.{Largest}
use Rattle.polynomial.specs.Outcome.{Outcome}
use Rattle.polynomial.specs.Outcome.{Done}
use Rattle.polynomial.specs.declared.interval.Unaudited.{Unaudited}
use Rattle.polynomial.specs.declared.interval.Unaudited.TheVariants.{NotAbove, NotFinite}
use Rattle.polynomial.specs.declared.interval.Peak.{Peak}
use Rattle.polynomial.specs.declared.interval.Ended.{Ended}
use Rattle.polynomial.specs.Span.{advanced}
use Rattle.polynomial.specs.Piece.{PieceOver, piece_from, error_form}
use Rattle.polynomial.specs.Outcome.{is_done}

-- what was found so far: for each axis the largest absolute coefficient, the largest of all, and the middle of the piece that it is of
pub record Found : Type 0 where
  pub bounds : List Float
  pub peak : Float
  pub witness : Float
  pub outcome : Outcome

-- an audited interval: its bounds, an axis after the other, its witness, and the last segment that was used
pub record Interval : Type 0 where
  pub bounds : List Float
  pub witness : Float
  pub span : ℕ
  pub outcome : Outcome

-- the two, where the bounds stand in a slice of their own
abbrev pub found : List Float → Peak → Found
found bounds f = record { bounds = bounds; peak = f.peak; witness = f.witness; outcome = Done }

abbrev pub interval : List Float → Ended → Interval
interval bounds r = record { bounds = bounds; witness = r.witness; span = r.span; outcome = Done }

-- what the code answers, with these bounds: the two, or why not
abbrev pub Finds : List Float → Result Peak Unaudited → Found → Type 0
Finds bounds (Ok f) x = found bounds f ≡ x
Finds bounds (Err e) x = (bounds ≡ x.bounds) × (Err e ≡ x.outcome)

abbrev pub Ends : List Float → Result Ended Unaudited → Interval → Type 0
Ends bounds (Ok r) x = interval bounds r ≡ x
Ends bounds (Err e) x = (bounds ≡ x.bounds) × (Err e ≡ x.outcome)

-- the piece from left to right, in segment `span` and interval i, and its middle
unfoldable pub piece_at : List Float → List Float → ℕ → ℕ → Float → Float → Piece
piece_at breaks s i span left right =
    let q = piece_from floats (at breaks span) (at breaks (span + 1)) (at s i) (at s (i + 1)) left right in
    record {
      u = q.u;
      w = q.w;
      before = q.before;
      part = q.part;
      middle = div binary64 (add binary64 left right) (of_bits binary64 0x4000_0000_0000_0000);
    }

-- a piece without its middle
abbrev pub of_piece : Piece → PieceOver Float
of_piece q = record { u = q.u; w = q.w; before = q.before; part = q.part }

-- its Bernstein coefficients less the line: those of any arithmetic, at f64
abbrev pub errors_on : List Float → Float → Float → Piece → List Float
errors_on p start end q = error_form floats (power_of floats) p start end (of_piece q)

-- no coefficient is infinite or a NaN
unfoldable pub all_finite : List Float → Bool
all_finite b = each (λ k good. good && finite (at b k)) 0 6 true

-- coefficient k: `bounds[..] = bounds[..].max(v.abs())`, and `if v.abs() > peak { peak = v.abs(); witness[i] = .. }`
unfoldable pub largest_turn : List Float → Float → ℕ → Largest → Largest
largest_turn b middle k l =
    let v = absolute_float (at b k) in
    let higher = lt l.peak v in
    record {
      bound = max_of l.bound v;
      peak = cond higher v l.peak;
      witness = cond higher middle l.witness;
    }

-- the coefficients of an axis on a piece: segment by segment and axis by axis the six stand together
abbrev pub powers_at : List Float → ℕ → ℕ → List Float
powers_at coefficients first axis = window (6 * (first + axis)) (6 * (first + axis) + 6) coefficients

-- an axis on a piece: the first axis of the segment is number `first` of all, and the first of the interval's waypoint stands at `row` of y
unfoldable pub axis_turn : List Float → List Float → ℕ → ℕ → ℕ → Piece → ℕ → Found → Step Found Found
axis_turn coefficients y d first row q axis f =
    let b = errors_on (powers_at coefficients first axis) (at y (row + axis)) (at y (row + d + axis)) q in
    let l = each (largest_turn b q.middle) 0 6 (record { bound = at f.bounds axis; peak = f.peak; witness = f.witness }) in
    cond (all_finite b)
    (next (record { bounds = set f.bounds axis l.bound; peak = l.peak; witness = l.witness; outcome = f.outcome }))
    (stop (record { bounds = f.bounds; peak = f.peak; witness = f.witness; outcome = Err NotFinite }))

-- all axes on a piece
unfoldable pub axes_of : List Float → List Float → ℕ → ℕ → ℕ → Piece → Found → Found
axes_of coefficients y d first row q f = till (axis_turn coefficients y d first row q) (λ f. f) 0 d f

-- the walk along an interval: what it found up to `left`, which lies in segment `span` or after it
pub record Walk : Type 0 where
  pub left : Float
  pub span : ℕ
  pub found : Found

-- the interval, where the walk ends
unfoldable pub ended_by : Outcome → ℕ → Found → Interval
ended_by o span f = record { bounds = f.bounds; witness = f.witness; span = span; outcome = o }

-- the next piece, from `left` on
unfoldable pub walk_turn : List Float → List Float → List Float → List Float → ℕ → ℕ → ℕ → Walk → Step Walk Interval
walk_turn breaks coefficients s y d i _ w =
    let end = at s (i + 1) in
    let span = advanced breaks w.left w.span in
    let right = min_of end (at breaks (span + 1)) in
    let f = axes_of coefficients y d (span * d) (i * d) (piece_at breaks s i span w.left right) w.found in
    cond (lt w.left end)
    (cond (le right w.left) (stop (ended_by (Err NotAbove) span w.found))
    (cond (is_done f.outcome) (next (record { left = right; span = span; found = f })) (stop (ended_by f.outcome span f))))
    (stop (ended_by Done w.span w.found))

-- interval i, from segment `span` on, where its witness was `before`. It takes fewer turns than there are breaks
-- and two (`proofs/Walk`).
unfoldable pub interval_of : List Float → List Float → List Float → List Float → ℕ → ℕ → ℕ → Float → Interval
interval_of breaks coefficients s y d i span before =
    till (walk_turn breaks coefficients s y d i) (λ w. ended_by Done w.span w.found) 0 (length breaks + 2)
    (record {
      left = at s i;
      span = span;
      found = record { bounds = zeros d; peak = neg (of_bits binary64 0x3ff0_0000_0000_0000); witness = before; outcome = Done };
    })
