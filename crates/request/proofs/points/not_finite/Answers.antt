use Rattle.std.proofs.Common.{◌≡◌, ℕ, ◌<◌, List, Bool, true, false, not, length, sym, arith, rules}
use lib.Ieee.{Float, nan}
use lib.Ieee.Scale.{finite}
use Rattle.window.specs.Cells.{at}
use Rattle.request.specs.Any.{any}
use Rattle.request.proofs.Anys.{any_found, any_all}
use Rattle.std.specs.Bool.{MatchBool}
use Rattle.std.specs.List.{HoldsAt, AllWithin}
use Rattle.std.proofs.lemmas.Iterator.{cases_from_any, YieldsList-from_slice}
use Rattle.request.proofs.points.not_finite.Goals as goal

-- `any` over the list, and over its places
settled : (s : List Float) (r : Bool) → MatchBool r ((k : ℕ) × (k < length s) × HoldsAt (λ x. not (finite x) ≡ true) s k)
    (AllWithin (λ x. not (finite x) ≡ false) s 0 (length s)) → r ≡ any (length s) (λ i. not (finite (at s i)))
settled s true h = sym (any_found (λ i. not (finite (at s i))) (length s) h.0 h.1 (h.2 nan))
settled s false h = sym (any_all (λ i. not (finite (at s i))) (length s) (λ i l. h i nan (omega arith) l))

pub returns : goal.returns
returns c =
    let s = c.args.points.now in
    settled s c.any.result (cases_from_any _ _ _ (λ x. not (finite x) ≡ true) (λ x. not (finite x) ≡ false) c.any.ensures.ran
    (YieldsList-from_slice s cc) (λ x q k. search rules) (λ x q k. search rules))
