-- The buffers of the program, and what fits them.
use Rattle.std.specs.Prelude.{ℕ, ◌≤◌}
use Rattle.job.specs.declared.Counts.{Counts}

-- "Its limits are d 2, n 100, max_refinements 200, max_segments 100"
abbrev pub Small : Counts → Type 0
Small c = (c.d ≤ 2) × (c.n ≤ 100) × (c.refinements ≤ 200) × (c.segments ≤ 100)

-- how many places they have at least: a text, the numbers of a job, and document 01's room for the limits, E being 116
abbrev pub Lent : ℕ → ℕ → ℕ → ℕ → ℕ → ℕ → ℕ → ℕ → Type 0
Lent out cells work breaks coefficients other_breaks other_coefficients errors =
    (256 ≤ out) × (201 ≤ cells) × (7424 ≤ work) × (101 ≤ breaks) × (1300 ≤ coefficients) × (100 ≤ other_breaks) × (1300 ≤ other_coefficients)
    × (2 ≤ errors)
