-- Cells copied are cells set one after the other.
use Rattle.polynomial.proofs.Placed.{bounds_copied}
use Rattle.polynomial.proofs.audit.put_bounds.Goals as goal

pub returns : goal.returns
returns c = let a = c.args in rw c.copy_from_slice.ensures.after (bounds_copied a.row a.d a.cells.now a.bounds.now c.requires.0 c.requires.1)
