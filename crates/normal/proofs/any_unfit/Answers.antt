use Rattle.std.proofs.Common.{refl, ◌∙◌, rules, ◌||◌}
use Rattle.std.proofs.lemmas.Iterator.{YieldsList-from_slice}
use Rattle.std.proofs.lemmas.Iterator.Search.{any_from_yields_List}
use Rattle.std.proofs.lemmas.List.Recursion.{same_from_clauses}
use Rattle.std.specs.List.{list_any}
use Rattle.normal.specs.Solve.{unfit_of, any_unfit_of}
use Rattle.normal.proofs.any_unfit.Goals as goal

pub returns : goal.returns
unfolding any_unfit_of
returns c =
    let s = c.args.s.now in
    any_from_yields_List (unfit_of c.args.positive) _ _ _ c.any.ensures.ran (YieldsList-from_slice s cc) (λ x b q k. search rules)
    ∙ same_from_clauses (list_any (unfit_of c.args.positive)) (any_unfit_of c.args.positive) (λ x y. unfit_of c.args.positive x || y) refl (λ _ _. refl) (λ _ _. refl) s
