-- `head::word_count` meets its contract: the numbers are small, so that no product is large.
use Prim.Native.Nat.{◌-◌, ◌*◌, ◌≤◌}
use native.Mathlib.Omega.{arith}
use borrow.Author.Rules.{rules}
use Rattle.lane_file.proofs.Heads.{product_small}
use Rattle.lane_file.proofs.head.word_count.Statement.{statement}
use Rattle.lane_file.proofs.head.word_count.Tie as tie

-- the products
module _ (s : tie.Start) where
  one : s.args.segments * s.args.k ≤ 4398042316801
  one = product_small s.args.segments s.args.k s.requires.2 (omega (arith, s.requires.0, s.requires.1))

  other : s.args.other_segments * (s.args.d - s.args.k) ≤ 4398042316801
  other = product_small s.args.other_segments (s.args.d - s.args.k) s.requires.3 (omega (arith, s.requires.0))

mul-result : tie.Need-overflow_mul-result
mul-result c = omega (arith, one c.before)

mul-result-2 : tie.Need-overflow_mul-result-2
mul-result-2 c = omega (arith, one c.before)

add-result-2 : tie.Need-overflow_add-result-2
add-result-2 c = omega (arith, one c.before, c.break_count.ensures.1, c.requires.2)

add-result-3 : tie.Need-overflow_add-result-3
add-result-3 c = omega (
  arith,
  one c.before.before,
  other
      c.before.before,
  c.break_count.ensures.1,
  c.break_count-2.ensures.1,
  c.requires.2,
  c.requires.3,
)

mul-result-3 : tie.Need-overflow_mul-result-3
mul-result-3 c = omega (
  arith,
  one c.before.before,
  other
      c.before.before,
  c.break_count.ensures.1,
  c.break_count-2.ensures.1,
  c.requires.2,
  c.requires.3,
)

mul-result-4 : tie.Need-overflow_mul-result-4
mul-result-4 c = omega (
  arith,
  one c.before.before,
  other
      c.before.before,
  c.break_count.ensures.1,
  c.break_count-2.ensures.1,
  c.requires.2,
  c.requires.3,
)

add-result-4 : tie.Need-overflow_add-result-4
add-result-4 c = omega (
  arith,
  one c.before.before,
  other
      c.before.before,
  c.break_count.ensures.1,
  c.break_count-2.ensures.1,
  c.requires.2,
  c.requires.3,
)

returns : tie.Need-returns
returns c = (
  omega (arith, c.break_count.ensures.0, c.break_count-2.ensures.0),
  omega (
    arith,
    one c.before.before,
    other
        c.before.before,
    c.break_count.ensures.1,
    c.break_count-2.ensures.1,
    c.requires.2,
    c.requires.3,
  ),
)

pub word_count_spec : {M : Type 1} → statement M
word_count_spec =
    tie.close
    (tie.spec
    (λ c κs. search rules)
    (λ c. search rules)
    mul-result
    mul-result-2
    add-result-2
    (λ c κs. search rules)
    add-result-3
    (λ c. search rules)
    mul-result-3
    mul-result-4
    add-result-4
    returns)
