-- What the work slice is given, and what is taken from it.
use Rattle.std.specs.Prelude.{ℕ, cond, List, [], eqb, take, Float, Result, Ok, Err}
use Rattle.window.specs.Rows.{list_of}
use Rattle.bspline.specs.Segments.{Polynomial}
use Rattle.normal.specs.declared.Unsolved.{Unsolved}
use Rattle.normal.specs.Solve.{refusal_number}
use Rattle.request.specs.Parameters.{normalised_of}
use Rattle.smoothing.specs.Answer.{Answer}
use Rattle.smoothing.specs.Answer.Answer.{done, refused}
use Rattle.smoothing.specs.Rows.{Task, Units, task_of, gathered}
use Rattle.smoothing.specs.Interpolate.{interpolate_of}
use Rattle.interpolation.specs.Memory.{polynomial_in}

-- `s`, n normalised parameters
abbrev pub s_of : List Float → ℕ → List Float
s_of parameters n = list_of n (normalised_of parameters n)

-- the polynomial of the other axes, j of them: none where j is 0
abbrev pub other_in : ℕ → ℕ → ℕ → ℕ → List Float → Polynomial Float
other_in n j room segments w =
    cond (eqb j 0) (record { breaks = []; coefficients = [] }) (polynomial_in (record { samples = n; axes = j; room = room }) segments w)

-- the definition's answer of the other axes: their polynomial, or the refusal
abbrev pub other_answer : ℕ → ℕ → ℕ → Result ℕ Unsolved → List Float → Answer (Polynomial Float)
other_answer n j room (Ok segments) w = done (other_in n j room segments w)
other_answer n j room (Err e) w = refused (refusal_number e)

-- the first k of `axes` of n points of d rows, as handed in, and the first k tolerances
abbrev pub units_from : ℕ → ℕ → List Float → ℕ → List ℕ → List Float → Units
units_from n k points d axes eps = record { rows = gathered points d n (take k axes); eps = take k eps }

-- what is smoothed of them
abbrev pub task_from : ℕ → ℕ → List Float → Units → Task
task_from n k parameters u = task_of n k (s_of parameters n) u

-- `interpolate(points, &s, &other)`, if there is an other axis: j of them, with these rows
abbrev pub other_with : ℕ → ℕ → List Float → List Float → Answer (Polynomial Float)
other_with n j s rows =
    let none : Answer (Polynomial Float) = done (record { breaks = []; coefficients = [] }) in
    let some = interpolate_of n j s rows in
    cond (eqb j 0) none some

-- with the rows of the first j of `axes`
abbrev pub other_from : ℕ → ℕ → List Float → List Float → ℕ → List ℕ → Answer (Polynomial Float)
other_from n j parameters points d axes = other_with n j (s_of parameters n) (gathered points d n (take j axes))
