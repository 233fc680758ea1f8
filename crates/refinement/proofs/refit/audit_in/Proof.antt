-- `refit::audit_in` meets its contract.
use borrow.Author.Rules.{rules}
use Rattle.refinement.proofs.Audits.{audit_asks, audit_memory, checked_few}
use Rattle.refinement.proofs.refit.audit_in.Statement.{statement}
use Rattle.refinement.proofs.refit.audit_in.Tie as tie

audit-requires : tie.Need-audit-requires
audit-requires c κs =
    (audit_asks c.args.p c.args.work.now c.requires.0, c.requires.1, c.requires.2)

returns : tie.Need-returns
returns c =
    let a = c.args in
    let v = c.audit in (
      (v.ensures.0, v.ensures.1),
      (
        audit_memory a.p a.work.now c.requires.0 a.first a.last v.new.work v.ensures.2,
        checked_few a.p a.work.now c.requires.0 a.first a.last v.result.checked v.ensures.1 c.requires.2,
      ),
    )

pub audit_in_spec : {M : Type 1} → statement M
audit_in_spec =
    tie.close
    (tie.spec
    (λ c. search rules)
    (λ c. search rules)
    (λ c. search rules)
    (λ c. search rules)
    (λ c. search rules)
    (λ c. search rules)
    (λ c. search rules)
    (λ c. search rules)
    (λ c. search rules)
    (λ c. search rules)
    (λ c. search rules)
    (λ c. search rules)
    (λ c. search rules)
    (λ c. search rules)
    audit-requires
    (λ c. search rules)
    returns)
