use Rattle.std.proofs.Common.{◌≡◌, ℕ, ◌+◌, ◌*◌, ◌^◌, ◌≤◌, ◌<◌}
use Rattle.float.proofs.root.digits.Given as goal

-- i digits of the root are found, and `left` is what is left of w, at the top of a word
pub record Found (w left root rest i : ℕ) : Type 0 where
  pub small : root < 2 ^ i
  pub less : rest ≤ 2 * root
  pub fit : left < 0x1_0000_0000_0000_0000
  pub is : (root * root + rest) * 0x1_0000_0000_0000_0000 + left ≡ w * 1024 * 4 ^ i

abbrev pub invariant-loop : goal.invariant-loop
invariant-loop l = Found l.w l.left l.root l.rest l.counter
