-- The source's `fit`: one window [a, z) of controls fitted anew.
use Rattle.std.specs.Prelude.{ℕ, ◌+◌, ◌-◌, ◌*◌, ◌≤◌, cond, List, ◌++◌, eqb, set, Float, Result, Ok, Err}
use Rattle.std.specs.Float.{binary64}
use Rattle.std.specs.Float.Ieee.{add}
use Rattle.arith.specs.Loop.{each}
use Rattle.window.specs.Cells.{at}
use Rattle.normal.specs.System.{System, new_of}
use Rattle.normal.specs.declared.Unsolved.{Unsolved}
use Rattle.normal.specs.Solve.{SolveOutcome, solve_of, refusal_number}
use Rattle.window.specs.Window.{splice}
use Rattle.fitting_rows.specs.declared.Place.{Place}
use Rattle.fitting_rows.specs.Arrays.{Arrays}
use Rattle.fit.specs.Region.{before}
use Rattle.fitting_rows.specs.Samples.{below}
use Rattle.fitting_rows.specs.Pieces.{at_or_below}
use Rattle.fit.specs.Assembly.{low, high, assembled_of}
use Rattle.fit.specs.declared.window_fit.Counts.{Counts}

-- What the source returns: document 01's number of the refusal, or 0 and `(first, last, rows)`; a refusal comes alone, with 0 for these.
pub record Answer : Type 0 where
  pub number : ℕ
  pub first : ℕ
  pub last : ℕ
  pub rows : ℕ

abbrev pub answer : ℕ → ℕ → ℕ → ℕ → Answer
answer number first last rows = record { number = number; first = first; last = last; rows = rows }

-- document 01's number of the code's answer, and its counts
abbrev pub answer_of : Result Counts Unsolved → Answer
answer_of (Ok k) = answer 0 k.first k.last k.rows
answer_of (Err e) = answer (refusal_number e) 0 0 0

-- the most rows that a fit of n samples and m controls has: one for each sample, and six for each piece of each span
abbrev pub rows_most : ℕ → ℕ → ℕ
rows_most n m = n + m * ((n + 1) * 6)

-- the samples that a window holds are among the n there are, and its rows are counted
abbrev pub Bounded : ℕ → ℕ → Answer → Type 0
Bounded n m k = (k.first ≤ n) × (k.last ≤ n) × (k.rows ≤ rows_most n m)

-- `b.c[a * b.d + i] += v`
unfoldable pub add_turn : List Float → ℕ → ℕ → List Float → List Float
add_turn delta from i c = set c (from + i) (add binary64 (at c (from + i)) (at delta i))

-- `for (i, v) in delta.iter().enumerate()`, over `count` cells
unfoldable pub added_to : List Float → ℕ → ℕ → List Float → List Float
added_to delta from count c = each (add_turn delta from) 0 count c

-- the answer, the controls after it, and the system as `solve` left it
pub record Fit : Type 0 where
  pub answered : Answer
  pub controls : List Float
  pub system : System

-- what `solve` gave; on a refusal the controls stay
unfoldable pub solved_of : Arrays → ℕ → ℕ → ℕ → SolveOutcome → Fit
solved_of x a z rows o =
    cond (eqb o.number 0)
    (record {
      answered = answer 0 (below x.s (low x a z)) (at_or_below x.s (high x a z)) rows;
      controls = added_to o.system.right (a * x.d) ((z - a) * x.d) x.c;
      system = o.system;
    })
    (record { answered = answer o.number 0 0 0; controls = x.c; system = o.system })

-- `fit(b, s, y, a, z, strength)`
unfoldable pub fit_of : Arrays → ℕ → ℕ → Float → Fit
fit_of x a z strength =
    let n = assembled_of x a z strength (new_of (z - a) x.d) in solved_of x a z n.rows (solve_of (z - a) x.d n.system)

-- the system's cells, array after array
abbrev pub cells_of : System → List Float
cells_of s = s.band ++ (s.right ++ s.scales)

-- the lent cells after a fit: those before the system, with new controls, then the system
abbrev pub cells_after : Place → Fit → List Float → List Float
cells_after p f l = splice p.controls (p.controls + p.count * p.axes) f.controls (before p l) ++ cells_of f.system
