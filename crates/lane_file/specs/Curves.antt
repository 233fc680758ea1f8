-- A curve, and what a lane file holds of it. The cells of the coefficients are bit patterns: a NaN may stand there, whose bits an f64 does
-- not show. Behind the coefficients of a set lie the patterns of its widths (request 12), which a file does not hold. Start, end and breaks
-- of a well-formed curve are numbers, and an f64 that is no NaN has one pattern.
use Rattle.std.specs.Prelude.{◌≡◌, cond, List, ◌++◌, map, ℕ, ◌-◌, ◌^◌, ◌<◌, T, eqb, length, get_or, take, Float}
use Rattle.std.specs.Float.{binary64}
use Rattle.std.specs.Float.Ieee.{fits, of_bits, to_bits}
use Rattle.window.specs.Cells.{Doubles}
use Rattle.window.specs.Rows.{list_of}
use Rattle.curve.specs.declared.Curve.{Curve}
use Rattle.curve.specs.declared.Mode.{Mode}
use Rattle.curve.specs.declared.Mode.TheVariants.{Error, Clamp}
use Rattle.curve.specs.Form.{Slices, slices, width_of}
use Rattle.curve.specs.Places.{padded}
use Rattle.lane_file.specs.File.{Head, Patterns, coefficient_count, Contents, contents, file_form}

-- the four slices beside a curve
pub record Cells : Type 0 where
  pub breaks : List Float
  pub coefficients : List ℕ
  pub other_breaks : List Float
  pub other_coefficients : List ℕ

abbrev pub cells : List Float → List ℕ → List Float → List ℕ → Cells
cells b c ob oc = record { breaks = b; coefficients = c; other_breaks = ob; other_coefficients = oc }

-- the f64 of a pattern, and the pattern of an f64
abbrev pub number_of : ℕ → Float
number_of bits = of_bits binary64 bits

abbrev pub pattern_of : Float → ℕ
pattern_of x = to_bits binary64 x

-- the slices of the curve, as f64
abbrev pub slices_of : Cells → Slices
slices_of s = slices s.breaks (map number_of s.coefficients) s.other_breaks (map number_of s.other_coefficients)

-- what a curve in memory is: f64s, patterns of 64 bits, sixteen axes
pub record Storable (c : Curve) (s : Cells) : Type 0 where
  pub axes : length c.axes ≡ 16
  pub start : T (fits binary64 c.start)
  pub end : T (fits binary64 c.end)
  pub breaks : Doubles s.breaks
  pub coefficients : (i : ℕ) → get_or s.coefficients i 0 < 2 ^ 64
  pub other_breaks : Doubles s.other_breaks
  pub other_coefficients : (i : ℕ) → get_or s.other_coefficients i 0 < 2 ^ 64

-- "mode (0 Error, 1 Clamp)"
abbrev pub mode_number : Mode → ℕ
mode_number Error = 0
mode_number Clamp = 1

abbrev pub mode_of : ℕ → Mode
mode_of n = cond (eqb n 0) Error Clamp

-- what a file holds of a curve: of `axes` the first k
abbrev pub head_of : Curve → Head
head_of c =
    record {
      d = c.d;
      k = c.k;
      axes = take c.k c.axes;
      mode = mode_number c.mode;
      segments = c.segments;
      other_segments = c.other_segments;
    }

-- the patterns of the widths between breaks
abbrev pub width_patterns : List Float → List ℕ
width_patterns breaks = list_of (length breaks - 1) (λ i. pattern_of (width_of breaks i))

-- the coefficients of both sets, without the widths behind them
abbrev pub without_widths : Curve → Cells → Cells
without_widths c s =
    cells s.breaks (take (coefficient_count c.segments c.k) s.coefficients)
    s.other_breaks (take (coefficient_count c.other_segments (c.d - c.k)) s.other_coefficients)

-- and with them
abbrev pub widened : Cells → Cells
widened s =
    cells s.breaks (s.coefficients ++ width_patterns s.breaks)
    s.other_breaks (s.other_coefficients ++ width_patterns s.other_breaks)

-- the numbers of a file, from cells without widths
abbrev pub patterns_from : Curve → Cells → Patterns
patterns_from c s =
    record {
      start = pattern_of c.start;
      end = pattern_of c.end;
      breaks = map pattern_of s.breaks;
      coefficients = s.coefficients;
      other_breaks = map pattern_of s.other_breaks;
      other_coefficients = s.other_coefficients;
    }

-- request 12, of the widths: "lane files don't carry it"
abbrev pub patterns_of : Curve → Cells → Patterns
patterns_of c s = patterns_from c (without_widths c s)

-- the file of a curve
abbrev pub file_of : Curve → Cells → List ℕ
file_of c s = file_form.write (contents (head_of c) (patterns_of c s))

-- a curve with 0 in the cells of `axes` from k on, which mean nothing
abbrev pub cleared : Curve → Curve
cleared c =
    record {
      d = c.d;
      k = c.k;
      axes = padded (take c.k c.axes);
      start = c.start;
      end = c.end;
      mode = c.mode;
      segments = c.segments;
      other_segments = c.other_segments;
    }

-- the curve that a file holds; cells of `axes` from k on are 0
abbrev pub curve_of : Contents → Curve
curve_of x =
    record {
      d = x.head.d;
      k = x.head.k;
      axes = padded x.head.axes;
      start = number_of x.patterns.start;
      end = number_of x.patterns.end;
      mode = mode_of x.head.mode;
      segments = x.head.segments;
      other_segments = x.head.other_segments;
    }

-- its cells: the widths are made from the breaks
abbrev pub cells_of : Patterns → Cells
cells_of x = widened (cells (map number_of x.breaks) x.coefficients (map number_of x.other_breaks) x.other_coefficients)
