use Rattle.std.proofs.Common.{List, ℕ, ◌++◌, take, ap, ◌∙◌, arith}
use Rattle.text.proofs.Digits.{decimal_is, few_digits}
use Rattle.text.proofs.number.Goals as goal

pub returns-clause-out_after : goal.returns-clause-out_after
returns-clause-out_after c =
    let s = c.args in
    let few = few_digits s.n c.decimal-count.result (omega arith) c.decimal-count.ensures.len in
    c.put.ensures.out_after
    ∙ ap (λ (t : List ℕ). take s.at s.out.now ++ t)
    (c.decimal-count.ensures.digits ∙ decimal_is 20 c.decimal-count.result s.n c.decimal-count.ensures.len few)
