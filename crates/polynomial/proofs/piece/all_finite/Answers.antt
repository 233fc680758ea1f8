-- All of the six, one after the other.
use Rattle.std.proofs.Common.{rules, arith, tests, ◌∙◌}
use Rattle.std.proofs.lemmas.Iterator.{YieldsList-from_slice}
use Rattle.std.proofs.lemmas.Iterator.Search.{all_from_yields_List}
use lib.Ieee.Scale.{finite}
use Rattle.polynomial.proofs.Six.{six_finite}
use Rattle.polynomial.proofs.piece.all_finite.Goals as goal

pub returns : goal.returns
returns c =
    all_from_yields_List finite _ _ c.all.result c.all.ensures.ran (YieldsList-from_slice c.args.b cc) (λ x b q k. search (rules, tests))
    ∙ six_finite c.args.b (let w = c.iter.ensures.len in omega arith)
