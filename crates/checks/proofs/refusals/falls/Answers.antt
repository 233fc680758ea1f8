-- `refusals::falls` meets its contract.
use mathlib.Core.Path.{◌≡◌, refl, sym, ap, ◌∙◌}
use Prim.Native.Nat.{ℕ, ◌+◌, ◌-◌}
use native.Mathlib.Omega.{arith}
use native.Mathlib.Decide.{dec_lt}
use lib.ListN.{length}
use lib.Ieee.{le}
use Rattle.window.specs.Cells.{at}
use Rattle.request.specs.Any.{any}
use Rattle.request.proofs.Anys.{any_next, any_found}
use Rattle.checks.proofs.refusals.falls.Invariants.{test}
use Rattle.checks.proofs.refusals.falls.Goals as goal

pub loop-i-init : goal.loop-i-init
unfolding any
loop-i-init c = refl

pub returns-then-s-i : goal.returns-then-s-i
returns-then-s-i c =
    let s = c.args.s.now in
    let i = c.loop-i.i in
    let k : i - 1 + 1 ≡ i = omega arith in
    sym (any_found (test s) (length s - 1) (i - 1) (omega arith) (ap (λ (j : ℕ). le (at s j) (at s (i - 1))) k ∙ c.if-s-i.true))

pub loop-i-preserved : goal.loop-i-preserved
loop-i-preserved c =
    let s = c.args.s.now in
    let i = c.loop-i.i in
    let k : i - 1 + 1 ≡ i = omega arith in
    let n : i + 1 - 1 ≡ i - 1 + 1 = omega arith in
    rw n (any_next (test s) (i - 1) c.loop-i.invariant (ap (λ (j : ℕ). le (at s j) (at s (i - 1))) k ∙ c.if-s-i.false))

pub returns : goal.returns
unfolding any
returns c =
    let s = c.args.s.now in
    elim (dec_lt 0 (length s)) [
      | yes h ↦ let e : length s - 1 ≡ c.loop-i.i - 1 = omega arith in rw e (sym c.loop-i.invariant)
      | no h ↦ let e : length s - 1 ≡ 0 = omega arith in rw e refl
    ]
