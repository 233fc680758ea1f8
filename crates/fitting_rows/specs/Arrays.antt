-- What a fit works on: the source's `b`, `s` and `y`, and where they lie in a lent slice.
use Rattle.std.specs.Prelude.{ℕ, ◌+◌, ◌*◌, ◌≤◌, List, Float}
use Rattle.window.specs.Window.{window}
use Rattle.fitting_rows.specs.declared.Place.{Place}

pub record Arrays : Type 0 where
  -- the spline `b`: m + 6 knots t, m controls c of d axes
  pub t : List Float
  pub c : List Float
  pub m : ℕ
  pub d : ℕ
  -- the samples: n parameters s, and n points y of d axes
  pub s : List Float
  pub y : List Float
  pub n : ℕ

abbrev pub arrays : List Float → List Float → ℕ → ℕ → List Float → List Float → ℕ → Arrays
arrays t c m d s y n = record { t = t; c = c; m = m; d = d; s = s; y = y; n = n }

-- the arrays that lie in the cells l
abbrev pub arrays_at : Place → List Float → Arrays
arrays_at p l =
    record {
      t = window p.knots (p.knots + (p.count + 6)) l;
      c = window p.controls (p.controls + p.count * p.axes) l;
      m = p.count;
      d = p.axes;
      s = window p.parameters (p.parameters + p.samples) l;
      y = window p.points (p.points + p.samples * p.axes) l;
      n = p.samples;
    }

-- the arrays lie in the first `cells` cells
abbrev pub ArraysWithin : Place → ℕ → Type 0
ArraysWithin p cells =
    (6 ≤ p.count) × (2 ≤ p.samples) × (p.axes ≤ 16)
    × (p.knots + (p.count + 6) ≤ cells) × (p.controls + p.count * p.axes ≤ cells)
    × (p.parameters + p.samples ≤ cells) × (p.points + p.samples * p.axes ≤ cells)
