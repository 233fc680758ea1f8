use native.Mathlib.Omega.{arith}
use Rattle.float.proofs.Checks.{nearest_down, nearest_up, double_small, double_some}
use Rattle.float.proofs.root.nearest.Goals as goal

pub overflow_mul-w : goal.overflow_mul-w
overflow_mul-w c = omega (arith, double_small c.args.m c.args.t (omega arith) (omega arith))

pub confirm-requires : goal.confirm-requires
confirm-requires c = (double_small c.args.m c.args.t (omega arith) (omega arith), c.estimate-k.ensures)

pub returns-then-confirm : goal.returns-then-confirm
returns-then-confirm c = c.confirm.ensures c.if-confirm.true

pub digits-whole-requires : goal.digits-whole-requires
digits-whole-requires c = double_small c.args.m c.args.t (omega arith) (omega arith)

pub returns-then-whole : goal.returns-then-whole
returns-then-whole c =
    nearest_up _ c.digits-whole.result.root c.digits-whole.result.rest c.digits-whole.ensures (omega arith)

pub returns : goal.returns
returns c =
    let a = c.args in
    nearest_down _ c.digits-whole.result.root c.digits-whole.result.rest c.digits-whole.ensures (omega arith)
    (double_some a.m a.t (omega arith))
