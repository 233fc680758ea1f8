-- What the program `lane` answers to the bytes of its input (document 01, "The program `lane`").
use Rattle.std.specs.Prelude.{ℕ, ◌+◌, ◌*◌, List, [], map, Float}
use Rattle.window.specs.Cells.{at}
use Rattle.window.specs.Window.{window}
use Rattle.request.specs.declared.parameters.Spacing.TheVariants.{Even}
use Rattle.smoothing.specs.Answer.{Answer, and_then}
use Rattle.smoothing.specs.Request.{Request}
use Rattle.smoothing.specs.Request.Axes.{all}
use Rattle.smoothing.specs.Request.Tolerance.{uniform}
use Rattle.smoothing.specs.Build.{Result, build_of}
use Rattle.job.specs.declared.Counts.{Counts}
use Rattle.job.specs.Job.{Job, job_of}
use Rattle.job.specs.Reading.{number_of}

-- "one tolerance, then points .. all axes are smoothed, parameters are even"
abbrev pub request_with : Counts → Float → List Float → Request
request_with c tolerance points =
    record {
      lane = record { d = c.d; n = c.n; axes = all; tolerance = uniform tolerance; spacing = Even; parameters = []; points = points };
      limits = record { refinements = c.refinements; segments = c.segments };
    }

abbrev pub request_of : Job → Request
request_of j = request_with j.counts (number_of j.tolerance) (map number_of j.points)

-- the same, of the cells in which the code has the numbers
abbrev pub request_in : Counts → List Float → Request
request_in c cells = request_with c (at cells 0) (window 1 (1 + c.d * c.n) cells)

-- the job, and then "`build`'s own order"
abbrev pub lane_of : List ℕ → Answer Result
lane_of bytes = and_then (job_of bytes) (λ j. build_of (request_of j))
