-- `choices::count_of` meets its contract: by cases on the axes.
use mathlib.Core.Path.{sym}
use Rattle.smoothing.specs.Request as smoothing
use Rattle.checks.specs.Request.{axes_of}
use Rattle.checks.proofs.Selected.{all_count}
use Rattle.checks.proofs.choices.count_of.Goals as goal

pub returns-in-All : goal.returns-in-All
unfolding axes_of smoothing.axes_of
returns-in-All c = rw c.in-All.is (sym (all_count c.args.d))

pub returns-in-Listed : goal.returns-in-Listed
unfolding axes_of smoothing.axes_of
returns-in-Listed c = rw c.in-Listed.is
