-- `refusals::is_overflowing` meets its contract.
use mathlib.Core.Path.{◌∙◌}
use mathlib.Core.Bool.{not}
use lib.Ieee.Scale.{finite}
use Rattle.std.proofs.Common.{rules, tests}
use Rattle.std.proofs.lemmas.Iterator.{YieldsList-from_slice}
use Rattle.std.proofs.lemmas.Iterator.Search.{any_from_yields_List}
use Rattle.checks.proofs.Selected.{listed_any}
use Rattle.checks.proofs.refusals.is_overflowing.Goals as goal

pub returns : goal.returns
returns c =
    let y = c.args.y.now in
    any_from_yields_List (λ x. not (finite x)) _ _ c.any.result c.any.ensures.ran (YieldsList-from_slice y cc) (λ x b q k. search (rules, tests))
    ∙ listed_any (λ x. not (finite x)) y
