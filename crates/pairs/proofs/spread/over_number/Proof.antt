-- `spread::over_number` meets its contract.
use native.Mathlib.Omega.{arith}
use mathlib.Core.Path.{◌≡◌, subst}
use Prim.Native.Nat.{◌+◌, suc, ℕ}
use Rattle.fraction.specs.Pair.{Ends}
use Rattle.pairs.specs.Spreads.{Stands}
use Rattle.pairs.specs.declared.spread.Spread.{Spread}
use Rattle.pairs.proofs.Spreading.{over_stands, whole_divisor}
use borrow.Author.Rules.{rules}
use Rattle.pairs.proofs.spread.over_number.Statement.{statement}
use Rattle.pairs.proofs.spread.over_number.Tie as tie

same : {e : Ends} {t : Spread} (a : ℕ) → Stands (suc (a + 0)) e t → Stands (suc a) e t
same {e = e} {t = t} a S = let z : a + 0 ≡ a = omega arith in subst (λ (k : ℕ). Stands (suc k) e t) z S

returns : tie.Need-returns
returns c = λ a b e l X C P. same a (over_stands a 0 (omega arith) e _ X _ (whole_divisor b _ C P) _ c.step.ensures c.step-2.ensures)

pub over_number_spec : {M : Type 1} → statement M
over_number_spec = tie.close (tie.spec (λ c κs. search rules) (λ c κs. search rules) returns)
