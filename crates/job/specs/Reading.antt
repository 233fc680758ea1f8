-- A job as the code has it: the counts by value, its numbers in cells.
use Rattle.std.specs.Prelude.{Option, Some, None, Result, Ok, Err, List, ◌∷◌, ◌++◌, map, ℕ, length, drop, Float}
use Rattle.std.specs.Float.{binary64}
use Rattle.std.specs.Float.Ieee.{of_bits}
use Rattle.smoothing.specs.Answer.{Answer}
use Rattle.smoothing.specs.Answer.Answer.{done, refused, exhausted}
use Rattle.forms.specs.Read.{Read, got, bad}
use Rattle.job.specs.declared.Counts.{Counts}
use Rattle.job.specs.declared.Head.{Head}
use Rattle.job.specs.declared.Refusal.{Refusal}
use Rattle.job.specs.declared.Refusal.TheVariants.{AboveLimits, DoesNotRead}
use Rattle.job.specs.Job.{Job}

-- the counts with the bytes after them, and the place of these
abbrev pub read_in : List ℕ → Option Head → Read Counts
read_in l (Some h) = got h.counts (drop h.next l)
read_in l None = bad

abbrev pub end_of : Option Head → ℕ
end_of (Some h) = h.next
end_of None = 0

-- document 01's number of a refusal
abbrev pub refusal_number : Refusal → ℕ
refusal_number AboveLimits = 18
refusal_number DoesNotRead = 25

-- the counts, or the number of the refusal
abbrev pub told_by : Result Counts Refusal → Answer Counts
told_by (Ok c) = done c
told_by (Err r) = refused (refusal_number r)

-- the f64 of a bit pattern; any NaN's pattern is a NaN
abbrev pub number_of : ℕ → Float
number_of bits = of_bits binary64 bits

-- the tolerance and the points
abbrev pub cells_of : Job → List Float
cells_of j = number_of j.tolerance ∷ map number_of j.points

-- the cells hold these in front; a refusal leaves them as they were
unfoldable pub cells_after : Answer Job → List Float → List Float
cells_after (done j) l = cells_of j ++ drop (length (cells_of j)) l
cells_after (refused n) l = l
cells_after (exhausted x) l = l
