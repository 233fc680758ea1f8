use Rattle.std.proofs.Common.{◌≤◌, length, take, sym, ap, ◌∙◌, arith}
use Rattle.std.proofs.lemmas.List.{drop_all}
use Rattle.std.proofs.Math.Seq.{take-nil}
use Rattle.listing.specs.Output.{printed, cells_text}
use Rattle.listing.proofs.Printing.{cells_none}
use Rattle.replay_requests.proofs.lines.part.Goals as goal

pub returns-in_default : goal.returns-in_default
returns-in_default c =
    let a = c.args in
    let short : length a.buffer.now ≤ 8 = grind (arith, c.in_default.ensures.lookup) in
    cells_none a.out.now ∙ sym (ap (λ t. printed a.out.now (cells_text t)) (ap (take a.n) (drop_all 8 a.buffer.now short) ∙ take-nil a.n))
