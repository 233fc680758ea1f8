-- `put::put_set` meets its contract.
use borrow.Author.Rules.{rules}
use Rattle.lane_file.proofs.Parts.{set_put}
use Rattle.lane_file.proofs.put.put_set.Statement.{statement}
use Rattle.lane_file.proofs.put.put_set.Tie as tie

returns : tie.Need-returns
returns c =
    (set_put c.args.breaks.now c.args.coefficients.now c.requires
    c.put_floats.ensures c.put_words.ensures).now

pub put_set_spec : {M : Type 1} → statement M
put_set_spec =
    tie.close
    (tie.spec
    (λ c κs. search rules)
    (λ c. search rules)
    (λ c. search rules)
    (λ c κs. search rules)
    (λ c. search rules)
    returns)
