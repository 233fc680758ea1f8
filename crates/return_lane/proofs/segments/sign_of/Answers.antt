-- One k after the other.
use Rattle.std.proofs.Common.{arith, ◌≡◌, refl, ℕ, zero, suc, ◌%◌, ◌<◌}
use lib.Ieee.{Float, binary64, of_bits, neg, sub, add, round, sum}
use Rattle.arith.specs.Operations.{floats}
use Rattle.return_lane.specs.Segment.{sign}
use Rattle.return_lane.proofs.segments.sign_of.Goals as goal

abbrev one : Float
one = of_bits binary64 0x3ff0_0000_0000_0000

even : (k : ℕ) → k < 6 → k % 2 ≡ 0 → one ≡ sign floats k
unfolding of_bits sub neg add sum round
even zero l e = refl
even (suc zero) l e = absurd (omega arith)
even (suc (suc zero)) l e = refl
even (suc (suc (suc zero))) l e = absurd (omega arith)
even (suc (suc (suc (suc zero)))) l e = refl
even (suc (suc (suc (suc (suc zero))))) l e = absurd (omega arith)
even (suc (suc (suc (suc (suc (suc k)))))) l e = absurd (omega arith)

odd : (k : ℕ) → k < 6 → (k % 2 ≡ 0 → ⊥) → neg one ≡ sign floats k
unfolding of_bits sub neg add sum round
odd zero l e = absurd (e refl)
odd (suc zero) l e = refl
odd (suc (suc zero)) l e = absurd (e refl)
odd (suc (suc (suc zero))) l e = refl
odd (suc (suc (suc (suc zero)))) l e = absurd (e refl)
odd (suc (suc (suc (suc (suc zero))))) l e = refl
odd (suc (suc (suc (suc (suc (suc k)))))) l e = absurd (omega arith)

pub returns-then-k-eq0 : goal.returns-then-k-eq0
returns-then-k-eq0 c = even c.args.k c.requires c.if-k-eq0.true

pub returns-else-k-eq0 : goal.returns-else-k-eq0
unfolding of_bits neg
returns-else-k-eq0 c = odd c.args.k c.requires c.if-k-eq0.false
