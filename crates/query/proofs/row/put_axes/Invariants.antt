-- The first a axes are written in each slice that is asked for.
use Rattle.std.proofs.Common.{◌≡◌, ℕ, List, Bool, Float, get_or}
use Rattle.window.specs.Rows.{list_of}
use Rattle.query.specs.declared.segment.Local.{Local}
use Rattle.query.specs.declared.segment.Derivatives.{Derivatives}
use Rattle.query.specs.Segment.{axis_at}
use Rattle.query.specs.Row.{outputs, filled, standing}
use Rattle.query.proofs.row.put_axes.Given as goal

-- axis b
abbrev pub axis : List Float → List Float → ℕ → ℕ → List ℕ → Local → Local → Float → Bool → ℕ → Derivatives
axis selected other k m table here there scale outside b = standing outside (axis_at selected other k m (get_or table b 0) here there scale)

abbrev pub invariant-loop-a : goal.invariant-loop-a
invariant-loop-a l = outputs l.q l.dq l.ddq l.dddq
    ≡ filled l.order l.at (λ part. list_of l.a (λ b. part (axis l.selected l.other l.k l.m l.table l.here l.there l.scale l.outside b)))
    (outputs l.fn.q l.fn.dq l.fn.ddq l.fn.dddq)
