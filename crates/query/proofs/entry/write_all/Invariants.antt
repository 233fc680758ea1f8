-- The first i queries are written in each slice that is asked for.
use Rattle.std.proofs.Common.{◌≡◌, List, Float, ℕ}
use Rattle.window.specs.Cells.{at}
use Rattle.window.specs.Rows.{join}
use Rattle.curve.specs.declared.Curve.{Curve}
use Rattle.curve.specs.Form.{Slices}
use Rattle.query.specs.Lent.{slices_of}
use Rattle.query.specs.declared.segment.Derivatives.{Derivatives}
use Rattle.query.specs.Row.{outputs, filled}
use Rattle.query.specs.Search.{Begins}
use Rattle.query.specs.Query.{column_of, Last}
use Rattle.query.specs.Range.{answered_at}
use Rattle.query.proofs.entry.write_all.Given as goal

-- one order of every axis at parameter j
abbrev pub column : Curve → Slices → List Float → (Derivatives → Float) → ℕ → List Float
column c s xs part j = column_of part c s (answered_at c (at xs j))

abbrev pub invariant-loop-i : goal.invariant-loop-i
invariant-loop-i l = let s = slices_of l.lent in
    record {
      begins : Begins l.lent.breaks.now l.span × Begins l.lent.other_breaks.now l.other_span;
      written : outputs l.q l.dq l.ddq l.dddq
          ≡ filled l.order 0 (λ part. join l.i (column l.lent.curve s l.xs part)) (outputs l.fn.q l.fn.dq l.fn.ddq l.fn.dddq);
      last : Last l.lent.curve s l.xs l.i l.span l.other_span;
    }
