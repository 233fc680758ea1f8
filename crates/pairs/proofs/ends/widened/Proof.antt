-- `pairs::ends::widened` meets its contract.
use mathlib.Core.Bool.{cond}
use mathlib.Core.Path.{◌∙◌, ◌≡◌, sym}
use lib.Ieee.{binary64, lt}
use Rattle.arith.proofs.Truth.{and_parts}
use Rattle.fraction.specs.NextNumber.{next_down, next_up}
use Rattle.fraction.specs.Pair.{none, outward, pair}
use Rattle.pairs.specs.Structs.{largest_number, lowest_number}
use Rattle.pairs.proofs.Outward.{outward_tested, over_infinity, under_infinity}
use borrow.Author.Rules.{rules}
use Rattle.pairs.proofs.ends.widened.Statement.{statement}
use Rattle.pairs.proofs.ends.widened.Tie as tie

step-down-requires : tie.Need-step_down-requires
step-down-requires c κs =
    over_infinity _ (and_parts (lt lowest_number c.lower-low.result) (lt c.higher-high.result
    largest_number) (sym c.movable.ensures ∙ c.if-movable.true)).0

step-up-requires : tie.Need-step_up-requires
step-up-requires c κs =
    under_infinity _ (and_parts (lt lowest_number c.lower-low.result) (lt c.higher-high.result
    largest_number) (sym c.movable.ensures ∙ c.if-movable.true)).1

-- the pair, if the test holds
pair_of : (c : tie.After-movable) → outward binary64 c.args.p
    c.args.q c.args.r
    c.args.s
    ≡ cond c.movable.result (pair (next_down binary64 c.lower-low.result)
    (next_up binary64 c.higher-high.result)) none
pair_of c =
    rw (
      c.movable.ensures,
      c.higher-high.ensures,
      c.higher-2.ensures,
      c.higher.ensures,
      c.lower-low.ensures,
      c.lower-2.ensures,
      c.lower.ensures,
    ) (outward_tested c.args.p c.args.q c.args.r c.args.s (rw c.well_formed.0.1 tt) (rw c.well_formed.1.0.1 tt)
    (rw c.well_formed.1.1.0.1 tt) (rw c.well_formed.1.1.1.0.1 tt))

returns : tie.Need-returns-then-movable
returns c =
    let e = pair_of c.before.before.before in
    rw (e, c.if-movable.true, c.step_up.ensures, c.step_down.ensures)

returns-2 : tie.Need-returns
returns-2 c = let e = pair_of c.before in rw (e, c.if-movable.false)

pub widened_spec : {M : Type 1} → statement M
widened_spec =
    tie.close
    (tie.spec (λ c κs. search rules) (λ c κs. search rules) (λ c κs. search rules) (λ c κs. search rules) (λ c κs. search rules)
    (λ c κs. search rules) (λ c κs. search rules) step-down-requires step-up-requires returns returns-2)
