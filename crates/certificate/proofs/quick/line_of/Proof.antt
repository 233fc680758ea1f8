-- `quick::line_of` meets its contract.
use native.Mathlib.Omega.{arith}
use Rattle.pairs.proofs.SpreadSums.{stands_wider}
use borrow.Author.Rules.{rules}
use Rattle.certificate.proofs.quick.line_of.Statement.{statement}
use Rattle.certificate.proofs.quick.line_of.Tie as tie

returns : tie.Need-returns
returns c = λ M L D.
    let d = c.difference-d.ensures 100 (omega arith) M.second M.first in
    let s = c.over.ensures 2 2 _ _ (omega arith) L.4 L.1 D.4 D.1 in
    let t = c.times.ensures 63 101 _ _ (omega arith) s d in
    let f = stands_wider 100 165 (omega arith) _ _ (c.single.ensures 100 M.first) in
    let p = c.over-2.ensures 2 2 _ _ (omega arith) L.3 L.1 D.3 D.1 in (
      stands_wider 166 753 (omega arith) _ _ (c.add-left.ensures 165 _ _ (omega arith) f t),
      stands_wider 165 753 (omega arith) _ _ (c.times-rise.ensures 63 101 _ _ (omega arith) p d),
    )

pub line_of_spec : {M : Type 1} → statement M
line_of_spec = tie.close (tie.spec (λ c κs. search rules) (λ c κs. search rules) (λ c κs. search rules) (λ c κs. search rules) (λ c κs.
    search rules) (λ c κs. search rules) (λ c κs. search rules) returns)
