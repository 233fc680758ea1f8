-- `results::put_other` meets its contract.
use mathlib.Core.Path.{refl}
use Rattle.window.specs.Rows.{join}
use Rattle.work_slice.proofs.results.put_other.Goals as goal

pub returns-then-j-eq0-clause-coefficients_after : goal.returns-then-j-eq0-clause-coefficients_after
unfolding join
returns-then-j-eq0-clause-coefficients_after c = let e = c.if-j-eq0.true in rw e refl
