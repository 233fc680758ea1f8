use Rattle.std.proofs.Common.{rules}
use Rattle.sorting.specs.Thin.{kept_of, apart}
use Rattle.sorting.proofs.thin.keep_apart.Goals as goal

pub returns-clause-value : goal.returns-clause-value
unfolding kept_of
returns-clause-value c = (c.thin.ensures apart (λ last x b h. search rules)).0

pub returns-clause-s_after : goal.returns-clause-s_after
unfolding kept_of
returns-clause-s_after c = (c.thin.ensures apart (λ last x b h. search rules)).1
