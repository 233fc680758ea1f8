use Rattle.arith.proofs.Truth.{and_parts}
use Rattle.estimate.proofs.sizes.placed.Goals as goal

pub returns : goal.returns
returns c = λ h.
    let eight = and_parts _ _ h in
    let seven = and_parts _ _ eight.0 in
    let six = and_parts _ _ seven.0 in
    let five = and_parts _ _ six.0 in
    let four = and_parts _ _ five.0 in
    let three = and_parts _ _ four.0 in
    let two = and_parts _ _ three.0 in
    let one = and_parts _ _ two.0 in
    record {
      start = c.at_most.ensures one.0;
      end = c.at_most-2.ensures one.1;
      from = c.at_most-3.ensures two.1;
      to = c.at_most-4.ensures three.1;
      start_left = c.at_most-5.ensures four.1;
      left_right = c.at_most-6.ensures five.1;
      right_end = c.at_most-7.ensures six.1;
      from_left = c.at_most-8.ensures seven.1;
      right_to = c.at_most-9.ensures eight.1;
    }
