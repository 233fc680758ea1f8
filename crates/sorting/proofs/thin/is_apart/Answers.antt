use Rattle.std.proofs.Common.{◌≡◌, Bool, Option, Some, None, true, false, MatchOption, IsTrue, sym, ◌∙◌, rules}
use lib.Ieee.{Float, lt, sub, binary64, mul, of_bits, round}
use Rattle.sorting.specs.Thin.{gap, inside, apart}
use Rattle.sorting.proofs.thin.is_apart.Goals as goal

-- what is inside is kept where it is over the gap from the last one
told : (last : Option Float) (x : Float) (r : Bool) (P : Float → Type 0) → ((v : Float) → P v → r ≡ lt gap (sub binary64 x v))
    → inside x ≡ true → MatchOption last (IsTrue r) P → r ≡ apart last x
unfolding apart
told None x r P k e h = rw e (search rules)
told (Some v) x r P k e h = rw e (k v h)

-- what is not inside is not kept
outside_apart : (last : Option Float) (x : Float) → inside x ≡ false → false ≡ apart last x
unfolding apart
outside_apart None x h = sym h
outside_apart (Some v) x h = rw h

pub returns-then-is_inside : goal.returns-then-is_inside
unfolding gap of_bits round mul
returns-then-is_inside c =
    told c.args.last c.args.x _ _ (λ v h. search rules) (sym c.is_inside.ensures ∙ c.if-is_inside.true) c.is_none_or.ensures

pub returns-else-is_inside : goal.returns-else-is_inside
returns-else-is_inside c =
    c.if-is_inside.false ∙ outside_apart c.args.last c.args.x (sym c.is_inside.ensures ∙ c.if-is_inside.false)
