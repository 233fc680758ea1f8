use Rattle.std.proofs.Common.{◌≡◌, Bool, Option, Some, None, MatchOption, IsTrue, rules}
use lib.Ieee.{Float, ne}
use Rattle.sorting.specs.Thin.{distinct}
use Rattle.sorting.proofs.thin.is_distinct.Goals as goal

told : (last : Option Float) (x : Float) (r : Bool) (P : Float → Type 0) → ((v : Float) → P v → r ≡ ne x v)
    → MatchOption last (IsTrue r) P → r ≡ distinct last x
unfolding distinct
told None x r P k h = search rules
told (Some v) x r P k h = k v h

pub returns : goal.returns
returns c = told c.args.last c.args.x _ _ (λ v h. search rules) c.is_none_or.ensures
