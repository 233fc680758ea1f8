-- The source's `Normal::add`, in two steps: the fitting row, with its residual against the controls; and the row added to the system.
use Rattle.std.specs.Prelude.{ℕ, ◌+◌, ◌-◌, ◌*◌, Bool, ◌&&◌, cond, List, leb, ltb, set, Float}
use Rattle.std.specs.Float.{binary64}
use Rattle.std.specs.Float.Ieee.{add, sub, mul, of_bits}
use Rattle.arith.specs.Loop.{each}
use Rattle.window.specs.Cells.{at, zeros}
use Rattle.normal.specs.System.{System}
use Rattle.normal.specs.declared.Row.{Row}

-- -0, where Rust's `sum` starts
abbrev pub -0 : Float
-0 = of_bits binary64 0x8000_0000_0000_0000

-- `b[j] * c[(start + j) * d + axis]`, added to the sum v
unfoldable pub term_of : List Float → ℕ → ℕ → List Float → ℕ → ℕ → Float → Float
term_of c d start b axis j v = add binary64 v (mul binary64 (at b j) (at c ((start + j) * d + axis)))

-- the row's `value` at the controls c
unfoldable pub value_of : List Float → ℕ → ℕ → List Float → ℕ → Float
value_of c d start b axis = each (term_of c d start b axis) 0 6 -0

-- `residual` of one axis, put in its place
unfoldable pub difference_of : List Float → ℕ → ℕ → List Float → Float → List Float → ℕ → List Float → List Float
difference_of c d start b weight target axis r = set r axis (mul binary64 weight (sub binary64 (at target axis) (value_of c d start b axis)))

-- the fitting row: residuals of d axes, +0 beyond. A row holds 16, so that this is the source's row for d ≤ 16, document 01's domain; `set`
-- drops the residual of any further axis.
unfoldable pub row_of : List Float → ℕ → ℕ → List Float → Float → List Float → Row
row_of c d start b weight target =
    record { start = start; basis = b; weight = weight; residual = each (difference_of c d start b weight target) 0 d (zeros 16) }

-- the control is one of the n active ones from a on
unfoldable pub active : ℕ → ℕ → ℕ → Bool
active a n control = leb a control && ltb control (a + n)

-- `if col >= self.a { self.h[row][i - j] += weight * b[i] * b[j]; }`
unfoldable pub product_of : ℕ → Row → ℕ → ℕ → List Float → List Float
product_of a row i j h =
    let k = 6 * (row.start + i - a) + (i - j) in
    cond (leb a (row.start + j)) (set h k (add binary64 (at h k) (mul binary64 (mul binary64 row.weight (at row.basis i))
    (at row.basis j)))) h

-- the products of one i, if its control is active
unfoldable pub products_of : ℕ → ℕ → Row → ℕ → List Float → List Float
products_of a n row i h = cond (active a n (row.start + i)) (each (product_of a row i) 0 (i + 1) h) h

-- the loop over the band
unfoldable pub add_band_of : ℕ → ℕ → Row → List Float → List Float
add_band_of a n row h = each (products_of a n row) 0 6 h

-- `if .. { self.rhs[(global - self.a) * self.d + axis] += value * residual; }`
unfoldable pub share_of : ℕ → ℕ → ℕ → Row → ℕ → ℕ → List Float → List Float
share_of a n d row axis i r =
    let k = (row.start + i - a) * d + axis in
    cond (active a n (row.start + i)) (set r k (add binary64 (at r k) (mul binary64 (at row.basis i) (at row.residual axis)))) r

-- the shares of one axis
unfoldable pub shares_of : ℕ → ℕ → ℕ → Row → ℕ → List Float → List Float
shares_of a n d row axis r = each (share_of a n d row axis) 0 6 r

-- the loop over the right sides
unfoldable pub add_right_of : ℕ → ℕ → ℕ → Row → List Float → List Float
add_right_of a n d row r = each (shares_of a n d row) 0 d r

-- `add`: the system of the n active controls from a on, with one row more
unfoldable pub add_of : ℕ → ℕ → ℕ → Row → System → System
add_of a n d row s =
    record {
      band = add_band_of a n row s.band;
      right = add_right_of a n d row s.right;
      scales = s.scales;
    }
