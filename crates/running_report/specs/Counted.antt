-- The counts of a report.
use Rattle.smoothing.specs.State.{Counts, counts}
use Rattle.running_report.specs.declared.Report.{Report}

-- the code's report as the definition's
abbrev pub counts_of : Report → Counts
counts_of r = counts r.refinements r.rows r.intervals
