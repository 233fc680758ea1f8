use Rattle.std.proofs.Common.{◌≡◌, ◌||◌, sym, ◌∙◌}
use lib.Ieee.{is_nan, lt}
use Rattle.float.proofs.OrderCases.{either, other, chosen_second, chosen_first}
use Rattle.float.proofs.order.min.Goals as goal
use Rattle.float.proofs.order.min.Goals.{then-is_nan, else-is_nan}

pub returns-then-y-x : goal.returns-then-y-x
returns-then-y-x c =
    let v : c.if-is_nan.value ≡ (is_nan c.args.x || lt c.args.y c.args.x) = elim c.if-is_nan.branch [
      | then-is_nan w ↦ either _ _ c.is_nan.ensures.value w.if-is_nan.true w.value-is
      | else-is_nan w ↦ other _ _ c.is_nan.ensures.value w.if-is_nan.false w.value-is
    ] in
    chosen_second (lt c.args.y c.args.x) c.args.x c.args.y (sym v ∙ c.if-y-x.true)

pub returns-else-y-x : goal.returns-else-y-x
returns-else-y-x c =
    let v : c.if-is_nan.value ≡ (is_nan c.args.x || lt c.args.y c.args.x) = elim c.if-is_nan.branch [
      | then-is_nan w ↦ either _ _ c.is_nan.ensures.value w.if-is_nan.true w.value-is
      | else-is_nan w ↦ other _ _ c.is_nan.ensures.value w.if-is_nan.false w.value-is
    ] in
    chosen_first (lt c.args.y c.args.x) c.args.x c.args.y (sym v ∙ c.if-y-x.false)
