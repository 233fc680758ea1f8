-- `choices::chosen` meets its contract: by cases on the axes.
use mathlib.Core.Path.{sym, ◌∙◌}
use native.Mathlib.Omega.{arith}
use Rattle.smoothing.specs.Request as smoothing
use Rattle.checks.specs.Request.{axes_of}
use Rattle.checks.proofs.Selected.{all_count}
use Rattle.checks.proofs.choices.chosen.Goals as goal

pub all-requires : goal.all-requires
unfolding axes_of smoothing.axes_of
all-requires c = let h = rw c.in-All.is at c.requires in omega (arith, all_count c.args.d)

pub listed-requires : goal.listed-requires
unfolding axes_of smoothing.axes_of
listed-requires c = rw c.in-Listed.is at c.requires

pub returns-in-All : goal.returns-in-All
unfolding axes_of smoothing.axes_of
returns-in-All c = rw c.in-All.is (c.all.ensures.0 ∙ sym (all_count c.args.d), c.all.ensures.1)

pub returns-in-Listed : goal.returns-in-Listed
unfolding axes_of smoothing.axes_of
returns-in-Listed c = rw c.in-Listed.is c.listed.ensures
