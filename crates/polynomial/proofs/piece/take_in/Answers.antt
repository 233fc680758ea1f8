-- The largest does what all do (`largest_takes`).
use Rattle.polynomial.proofs.Largest.{largest_takes}
use Rattle.polynomial.proofs.piece.take_in.Goals as goal

pub returns-then-before-m : goal.returns-then-before-m
returns-then-before-m c =
    let h = largest_takes c.args.b c.args.middle c.args.before c.requires in
    rw (c.max-bound.ensures) (rw (← c.maximum-m.ensures, c.if-before-m.true) at h)

pub returns-else-before-m : goal.returns-else-before-m
returns-else-before-m c =
    let h = largest_takes c.args.b c.args.middle c.args.before c.requires in
    rw (c.max-bound.ensures) (rw (← c.maximum-m.ensures, c.if-before-m.false) at h)
