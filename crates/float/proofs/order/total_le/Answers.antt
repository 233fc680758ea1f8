use Rattle.std.proofs.Common.{◌≡◌, ◌||◌, true, false, not, sym, ap, ◌∙◌}
use lib.Ieee.{is_nan, lt}
use Rattle.float.specs.Order.{negative}
use Rattle.float.proofs.Tests.{clash}
use Rattle.float.proofs.OrderCases.{either, other, negative_is, ne_eq, alike, le_early, le_rest}
use Rattle.float.proofs.order.total_le.Goals as goal
use Rattle.float.proofs.order.total_le.Goals.{then-is_nan, else-is_nan, then-x, else-x}

pub returns-then-x-y : goal.returns-then-x-y
returns-then-x-y c =
    let v : c.if-is_nan.value ≡ (is_nan c.args.y || lt c.args.x c.args.y) = elim c.if-is_nan.branch [
      | then-is_nan w ↦ either _ _ c.is_nan.ensures.value w.if-is_nan.true w.value-is
      | else-is_nan w ↦ other _ _ c.is_nan.ensures.value w.if-is_nan.false w.value-is
    ] in
    le_early c.args.x c.args.y v c.if-x-y.true

pub returns-then-is_sign_negative : goal.returns-then-is_sign_negative
returns-then-is_sign_negative c =
    let v : c.if-is_nan.value ≡ (is_nan c.args.y || lt c.args.x c.args.y) = elim c.if-is_nan.branch [
      | then-is_nan w ↦ either _ _ c.is_nan.ensures.value w.if-is_nan.true w.value-is
      | else-is_nan w ↦ other _ _ c.is_nan.ensures.value w.if-is_nan.false w.value-is
    ] in
    elim c.if-x.branch [
      | then-x w ↦
          c.if-is_sign_negative.true ∙ sym (alike c.args.x c.args.y c.if-x-y-2.true (ne_eq c.args.x _ w.if-x.true))
          ∙ le_rest c.args.x c.args.y true v c.if-x-y.false c.if-x-y-2.true
      | else-x w ↦
          let n : negative c.args.x ≡ true =
          sym (w.is_sign_negative.ensures ∙ negative_is c.args.x) ∙ (sym w.value-is ∙ c.if-is_sign_negative.true) in
          c.if-is_sign_negative.true ∙ (rw n at (le_rest c.args.x c.args.y true v c.if-x-y.false c.if-x-y-2.true))
    ]

pub returns-else-is_sign_negative : goal.returns-else-is_sign_negative
returns-else-is_sign_negative c =
    let v : c.if-is_nan.value ≡ (is_nan c.args.y || lt c.args.x c.args.y) = elim c.if-is_nan.branch [
      | then-is_nan w ↦ either _ _ c.is_nan.ensures.value w.if-is_nan.true w.value-is
      | else-is_nan w ↦ other _ _ c.is_nan.ensures.value w.if-is_nan.false w.value-is
    ] in
    elim c.if-x.branch [
      | then-x w ↦ clash w.if-x.true (sym w.value-is ∙ c.if-is_sign_negative.false)
      | else-x w ↦
          let n : negative c.args.x ≡ false =
          sym (w.is_sign_negative.ensures ∙ negative_is c.args.x) ∙ (sym w.value-is ∙ c.if-is_sign_negative.false) in
          c.is_sign_positive.ensures ∙ ap not (negative_is c.args.y)
          ∙ (rw n at (le_rest c.args.x c.args.y true v c.if-x-y.false c.if-x-y-2.true))
    ]

pub returns-else-x-y-2 : goal.returns-else-x-y-2
returns-else-x-y-2 c =
    let v : c.if-is_nan.value ≡ (is_nan c.args.y || lt c.args.x c.args.y) = elim c.if-is_nan.branch [
      | then-is_nan w ↦ either _ _ c.is_nan.ensures.value w.if-is_nan.true w.value-is
      | else-is_nan w ↦ other _ _ c.is_nan.ensures.value w.if-is_nan.false w.value-is
    ] in
    c.if-x-y-2.false ∙ le_rest c.args.x c.args.y false v c.if-x-y.false c.if-x-y-2.false
