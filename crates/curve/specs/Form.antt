-- When a curve is well formed: document 01, "The request and the curve".
use Rattle.std.specs.Prelude.{Bool, ◌&&◌, cond, List, ◌++◌, ℕ, ◌+◌, ◌-◌, ◌*◌, leb, ltb, eqb, length, get_or, replicate, Float}
use Rattle.std.specs.Float.{binary64}
use Rattle.std.specs.Float.Ieee.{of_bits, to_bits, sub, lt, eq}
use Rattle.std.specs.Float.Ieee.Scale.{finite}
use Rattle.window.specs.Cells.{+0, at}
use Rattle.window.specs.Rows.{list_of}
use Rattle.curve.specs.declared.Curve.{Curve}
use Rattle.curve.specs.declared.Mode.{Mode}
use Rattle.arith.specs.First.{every}
use Rattle.curve.specs.Places.{position_of}

-- The four slices beside a curve: of the selected axes and of the other axes the breaks, and the coefficients. Behind the coefficients of a
-- set lie the widths of its segments, one cell each (document 02, request 12).
pub record Slices : Type 0 where
  pub breaks : List Float
  pub coefficients : List Float
  pub other_breaks : List Float
  pub other_coefficients : List Float

abbrev pub slices : List Float → List Float → List Float → List Float → Slices
slices b c ob oc = record { breaks = b; coefficients = c; other_breaks = ob; other_coefficients = oc }

-- "axes are distinct and below d": the first k are below d and each is none of those before it
unfoldable pub axes_formed : List ℕ → ℕ → ℕ → Bool
axes_formed axes k d = every k (λ i. ltb (get_or axes i 0) d && eqb (position_of axes i (get_or axes i 0)) i)

-- each of the first n breaks is below the next
abbrev pub breaks_rise : List Float → ℕ → Bool
breaks_rise breaks n = every n (λ i. lt (at breaks i) (at breaks (i + 1)))

-- Document 02, request 12: a segment's width is "the rounded difference of its breaks".
abbrev pub width_of : List Float → ℕ → Float
width_of breaks i = sub binary64 (at breaks (i + 1)) (at breaks i)

-- the coefficients of a set, and behind them the widths of its segments
abbrev pub with_widths : List Float → List Float → List Float
with_widths breaks coefficients = coefficients ++ list_of (length breaks - 1) (width_of breaks)

-- the widths that n segments keep, from the cell `from` on, are those: "a width that differs in bits is 24"
unfoldable pub widths_kept : ℕ → ℕ → List Float → List Float → Bool
widths_kept from n breaks cells = every n (λ i. eqb (to_bits binary64 (at cells (from + i))) (to_bits binary64 (width_of breaks i)))

-- A set of n segments with m axes in so many cells, but for what each segment is to have: "slice lengths match, each set has at least one
-- and at most 20,000 segments", breaks "from 0 to 1". Numbers are compared, so that a first break of -0 is 0.
abbrev pub set_shaped : ℕ → ℕ → List Float → ℕ → Bool
set_shaped m n breaks cells =
    leb 1 n && leb n 20000
    && eqb (length breaks) (n + 1) && eqb cells (6 * (n * m) + n)
    && eq (at breaks 0) +0 && eq (at breaks n) (of_bits binary64 0x3ff0_0000_0000_0000)

-- what each of n segments is to have: "breaks rise strictly", and from the cell `from` on the widths are kept
abbrev pub segments_formed : ℕ → ℕ → List Float → List Float → Bool
segments_formed from n breaks cells = breaks_rise breaks n && widths_kept from n breaks cells

-- a set of n segments with m axes
unfoldable pub set_formed : ℕ → ℕ → List Float → List Float → Bool
set_formed m n breaks coefficients =
    set_shaped m n breaks (length coefficients) && segments_formed (6 * (n * m)) n breaks coefficients

-- the n segments of the m other axes: "when k = d the other set has neither segments nor breaks", so the lengths are 0
unfoldable pub others_formed : ℕ → ℕ → List Float → List Float → Bool
others_formed m n breaks coefficients =
    cond (eqb m 0) (eqb n 0 && eqb (length breaks) 0 && eqb (length coefficients) 0) (set_formed m n breaks coefficients)

-- "start and end are finite and end - start is finite and above 0"
unfoldable pub range_formed : Float → Float → Bool
range_formed start end = finite start && finite end && finite (sub binary64 end start) && lt +0 (sub binary64 end start)

-- A curve "is well formed if 1 ≤ d ≤ 16, axes are distinct and below d, 1 ≤ k ≤ d", each set is well formed, and so is the range. The
-- cells of `axes` from k on mean nothing.
unfoldable pub well_formed : Curve → Slices → Bool
well_formed c s =
    leb 1 c.d && leb c.d 16
    && leb 1 c.k && leb c.k c.d
    && axes_formed c.axes c.k c.d
    && set_formed c.k c.segments s.breaks s.coefficients
    && others_formed (c.d - c.k) c.other_segments s.other_breaks s.other_coefficients
    && range_formed c.start c.end

-- ---- the same of a curve with breaks and numbers of cells, but for what each segment is to have: whatever the cells hold
abbrev pub others_shaped : ℕ → ℕ → List Float → ℕ → Bool
others_shaped m n breaks cells = cond (eqb m 0) (eqb n 0 && eqb (length breaks) 0 && eqb cells 0) (set_shaped m n breaks cells)

unfoldable pub well_shaped : Curve → List Float → ℕ → List Float → ℕ → Bool
well_shaped c breaks cells other_breaks other_cells =
    leb 1 c.d && leb c.d 16
    && leb 1 c.k && leb c.k c.d
    && axes_formed c.axes c.k c.d
    && set_shaped c.k c.segments breaks cells
    && others_shaped (c.d - c.k) c.other_segments other_breaks other_cells
    && range_formed c.start c.end

-- ---- the curve beside a refusal: without axes, so that it is not well formed
unfoldable pub no_curve : Mode → Curve
no_curve mode =
    record { d = 0; k = 0; axes = replicate 16 0; start = +0; end = +0; mode = mode; segments = 0; other_segments = 0 }
