use Rattle.std.proofs.Common.{rules}
use Rattle.sorting.specs.Thin.{dedup_of, distinct}
use Rattle.sorting.proofs.thin.dedup.Goals as goal

pub returns-clause-value : goal.returns-clause-value
unfolding dedup_of
returns-clause-value c = (c.thin.ensures distinct (λ last x b h. search rules)).0

pub returns-clause-s_after : goal.returns-clause-s_after
unfolding dedup_of
returns-clause-s_after c = (c.thin.ensures distinct (λ last x b h. search rules)).1
