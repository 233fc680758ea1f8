-- `put::head_length` meets its contract.
use native.Mathlib.Omega.{arith}
use borrow.Author.Rules.{rules}
use Rattle.lane_file.proofs.Parts.{head_length}
use Rattle.lane_file.proofs.put.head_length.Statement.{statement}
use Rattle.lane_file.proofs.put.head_length.Tie as tie

returns : tie.Need-returns
returns c =
    let e = head_length c.args.curve c.requires.0 c.requires.1 (search rules) c.requires.4 in (
      omega (arith, e, c.group_count-2.ensures.0, c.group_count.ensures.0),
      omega (arith, c.requires.1, c.group_count-2.ensures.1, c.group_count.ensures.1),
    )

pub head_length_spec : {M : Type 1} → statement M
head_length_spec =
    tie.close
    (tie.spec
    (λ c. search rules)
    (λ c κs. search rules)
    (λ c. search rules)
    (λ c κs. search rules)
    (λ c. search rules)
    returns)
