use Rattle.std.proofs.Common.{sym, ap, ◌∙◌, arith}
use lib.Ieee.{Float}
use Rattle.arith.proofs.Loops.{each_done, each_turn}
use lib.ListN.{set}
use Rattle.bspline.specs.Values.{inner_turn, inner_loop, Inner}
use Rattle.bspline.proofs.basis.raise.Goals as goal

pub loop-r-preserved : goal.loop-r-preserved
unfolding inner_turn
loop-r-preserved c = sym (each_turn _ _ _ _ (omega arith)) ∙ c.loop-r.invariant

pub returns : goal.returns
unfolding inner_loop
returns c =
    let e = sym (each_done _ _ _ _ (omega arith)) ∙ c.loop-r.invariant in
    ap (λ (k : Inner Float). set k.row c.args.j k.saved) e
