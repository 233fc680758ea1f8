use Rattle.std.proofs.Common.{ℕ, List, set, length-set, refl, sym, ap, ◌+◌, ◌∙◌, arith}
use Rattle.window.specs.Rows.{join}
use Rattle.window.proofs.Written.{written_none, fill_next}
use Rattle.curve.specs.Form.{width_of}
use Rattle.lane_file.specs.Curves.{pattern_of}
use Rattle.lane_file.proofs.cells.put_widths.Goals as goal

pub loop-i-init : goal.loop-i-init
unfolding join
loop-i-init c = (refl, sym (written_none c.args.from c.args.cells.now))

pub loop-i-preserved : goal.loop-i-preserved
loop-i-preserved c =
    let a = c.args in
    let i = c.loop-i.i in (
      length-set c.loop-i.cells (a.from + i) c.pattern.result ∙ c.loop-i.invariant.0,
      ap (λ (x : List ℕ). set x (a.from + i) c.pattern.result) c.loop-i.invariant.1
          ∙ fill_next a.from (λ j. pattern_of (width_of a.breaks.now j)) i a.cells.now c.pattern.result
          (omega arith) c.pattern.ensures,
    )
