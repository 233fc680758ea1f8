-- `main` is safe and ends: `run` is lent the table of weights and enough cells.
use borrow.Author.Rules.{rules}
use Rattle.totals.proofs.main.Statement.{statement}
use Rattle.totals.proofs.main.Tie as tie

run-requires : tie.Need-run-requires
run-requires c κs = (
  (search rules, search rules),
  (
    (search rules, search rules, search rules, search rules),
    c.weight_table-weights.ensures.0,
  ),
)

pub main_spec : {M : Type 1} → statement M
main_spec =
    tie.close
    (tie.spec
    (λ c κs. search rules)
    (λ c κs. search rules)
    (λ c κs. search rules)
    (λ c. search rules)
    (λ c. search rules)
    (λ c. search rules)
    (λ c. search rules)
    (λ c. search rules)
    (λ c. search rules)
    (λ c. search rules)
    run-requires
    (λ c. search rules))
