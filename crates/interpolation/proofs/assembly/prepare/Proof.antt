-- `assembly::prepare` meets its contract: the knots are put, the controls and the system cleared.
use borrow.Author.Rules.{rules}
use Rattle.interpolation.proofs.Placing.{arrays_prepared, system_cleared}
use Rattle.interpolation.proofs.assembly.prepare.Statement.{statement}
use Rattle.interpolation.proofs.assembly.prepare.Tie as tie

returns : tie.Need-returns
returns c =
    let q = c.args.q in
    let w = c.args.work.now in
    let k = c.put_knots in
    let v₁ = c.clear in
    let v₂ = c.clear-2 in (
      arrays_prepared q w c.requires k.new.work v₁.new.s v₂.new.s k.ensures v₁.ensures v₂.ensures,
      system_cleared q w c.requires k.new.work v₁.new.s v₂.new.s k.ensures v₁.ensures v₂.ensures,
    )

pub prepare_spec : {M : Type 1} → statement M
prepare_spec =
    tie.close
    (tie.spec
    (λ c κs. search rules)
    (λ c. search rules)
    (λ c. search rules)
    (λ c. search rules)
    (λ c. search rules)
    (λ c. search rules)
    (λ c. search rules)
    (λ c κs. search rules)
    (λ c. search rules)
    (λ c. search rules)
    (λ c. search rules)
    (λ c. search rules)
    (λ c. search rules)
    (λ c. search rules)
    (λ c. search rules)
    (λ c. search rules)
    (λ c. search rules)
    (λ c κs. search rules)
    (λ c. search rules)
    returns)
