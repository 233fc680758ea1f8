-- `orders::pamitoye_cutting_order` meets its contract.
use borrow.Author.Rules.{rules}
use Rattle.pamitoye.proofs.orders.pamitoye_cutting_order.Statement.{statement}
use Rattle.pamitoye.proofs.orders.pamitoye_cutting_order.Tie as tie

returns : tie.Need-returns
returns c =
    let o = c.cutting_order.ensures in
    let e = c.number.ensures in
    (rw e o.0, rw e o.1)

pub pamitoye_cutting_order_spec : {M : Type 1} → statement M
pamitoye_cutting_order_spec = tie.close (tie.spec (λ c κs. search rules) (λ c κs. search rules) (λ c. search rules) returns)
