-- The segment's form is that of its whole piece.
use Rattle.std.proofs.Common.{List, subst}
use lib.Ieee.{Float}
use Rattle.polynomial.specs.Piece.{piece_from}
use Rattle.heights.specs.Controls.{segment_form, segment_form_over}
use Rattle.heights.specs.Lifted.{ControlsFrom}
use Rattle.heights.proofs.controls.of_segment.Goals as goal

pub returns : goal.returns
unfolding segment_form segment_form_over piece_from
returns c = subst (λ (b : List Float). ControlsFrom b c.wholes.result) c.curve_form.ensures c.wholes.ensures
