-- The system of a window behind the arrays of a fit, in one lent slice.
use Rattle.std.specs.Prelude.{ℕ, ◌+◌, ◌-◌, ◌*◌, ◌≤◌, ◌≡◌, List, Float}
use Rattle.window.specs.Window.{window}
use Rattle.normal.specs.System.{System, size_of, system_of}
use Rattle.fitting_rows.specs.Arrays.{Arrays, arrays_at}
use Rattle.fitting_rows.specs.declared.Place.{Place}
use Rattle.fit.specs.declared.assembly.Window.{Window}

-- the cells before the system, where the arrays lie
abbrev pub before : Place → List Float → List Float
before p l = window 0 p.system l

-- the system of k active controls in the cells l
abbrev pub system_at : Place → ℕ → List Float → System
system_at p k l = system_of k p.axes (window p.system (p.system + size_of k p.axes) l)

-- they lie before the system of the window [a, z), which ends with the slice; there are few enough of them for their rows to be counted
abbrev pub WindowLaid : Place → ℕ → ℕ → ℕ → Type 0
WindowLaid p a z cells =
    (a ≤ z) × (z ≤ p.count) × (p.count ≤ 65536) × (p.samples ≤ 65536) × (p.system + size_of (z - a) p.axes ≡ cells)
    × (6 ≤ p.count) × (2 ≤ p.samples) × (p.axes ≤ 16)
    × (p.knots + (p.count + 6) ≤ p.system) × (p.controls + p.count * p.axes ≤ p.system)
    × (p.parameters + p.samples ≤ p.system) × (p.points + p.samples * p.axes ≤ p.system)

-- the same of a window with its place: the arrays, and the system
abbrev pub Laid : Window → ℕ → Type 0
Laid w cells = WindowLaid w.place w.a w.z cells

abbrev pub arrays_of : Window → List Float → Arrays
arrays_of w l = arrays_at w.place (before w.place l)

abbrev pub system_in : Window → List Float → System
system_in w l = system_at w.place (w.z - w.a) l
