-- The system of the source's `Normal` for n active controls of d axes, and where its arrays lie in the lent cells.
use Rattle.std.specs.Prelude.{ℕ, ◌+◌, ◌*◌, List, Float}
use Rattle.window.specs.Window.{window}
use Rattle.window.specs.Cells.{zeros}

pub record System : Type 0 where
  -- `h`, the lower band: h[i][k], which is H(i, i - k), at 6 * i + k
  pub band : List Float
  -- `rhs`, the right sides: axis of control i at i * d + axis
  pub right : List Float
  -- `scales` of `solve`: one for each control
  pub scales : List Float

-- the largest `usize`
abbrev pub usize_max : ℕ
usize_max = 0xffff_ffff_ffff_ffff

-- how many cells the three arrays take
abbrev pub size_of : ℕ → ℕ → ℕ
size_of n d = 6 * n + n * d + n

-- the arrays, one after the other in so many cells
abbrev pub system_of : ℕ → ℕ → List Float → System
system_of n d l =
    record {
      band = window 0 (6 * n) l;
      right = window (6 * n) (6 * n + n * d) l;
      scales = window (6 * n + n * d) (6 * n + n * d + n) l;
    }

-- `Normal::new`: every cell is +0
abbrev pub new_of : ℕ → ℕ → System
new_of n d = record { band = zeros (6 * n); right = zeros (n * d); scales = zeros n }

-- the system with another band, with other right sides, with other scales
abbrev pub with_band : System → List Float → System
with_band s h = record { band = h; right = s.right; scales = s.scales }

abbrev pub with_right : System → List Float → System
with_right s r = record { band = s.band; right = r; scales = s.scales }

abbrev pub with_scales : System → List Float → System
with_scales s v = record { band = s.band; right = s.right; scales = v }
