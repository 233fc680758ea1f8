use Rattle.std.proofs.Common.{◌≡◌, ℕ, ◌+◌, ◌-◌, List, refl, sym, arith}
use lib.Ieee.{Float, binary64, sub, div, le}
use Rattle.window.specs.Cells.{at}
use Rattle.request.specs.Any.{any}
use Rattle.request.specs.Parameters.{length_of, normalised_of, parameter_list}
use Rattle.request.proofs.Anys.{any_next, any_found, le_same}
use Rattle.request.proofs.parameters.falls.Goals as goal

-- a number, normalised as the code does it
normal : (p : List Float) (n : ℕ) (start range v : Float) (i : ℕ) → start ≡ at p 0 → range ≡ length_of p n → v ≡ at p i
    → div binary64 (sub binary64 v start) range ≡ normalised_of p n i
unfolding normalised_of
normal p n start range v i s r e = λ j. div binary64 (sub binary64 (e j) (s j)) (r j)

pub loop-i-init : goal.loop-i-init
unfolding any
loop-i-init c =
    let a = c.args in
    let p = parameter_list a.spacing a.list.now a.points.now a.d a.n in
    let s = c.first-start.ensures a.points.now a.d in
    (s, normal p a.n _ _ _ 0 s c.requires.range_value s, refl)

pub following-current-requires : goal.following-current-requires
following-current-requires c =
    record { n_bound = (omega arith, omega arith, omega arith, c.requires.le_n.3); current_value = c.loop-i.invariant.0 }

pub returns-then-x-previous : goal.returns-then-x-previous
returns-then-x-previous c =
    let a = c.args in
    let l = c.loop-i in
    let p = parameter_list a.spacing a.list.now a.points.now a.d a.n in
    let x = normalised_of p a.n in
    let s = c.first-start.ensures a.points.now a.d in
    let e = normal p a.n _ _ _ (l.i + 1) s c.requires.range_value c.following-current.ensures in
    sym (any_found (λ j. le (x (j + 1)) (x j)) (a.n - 1) l.i (omega arith)
    (le_same _ _ _ _ e l.invariant.1 c.if-x-previous.true))

pub loop-i-preserved : goal.loop-i-preserved
loop-i-preserved c =
    let a = c.args in
    let l = c.loop-i in
    let p = parameter_list a.spacing a.list.now a.points.now a.d a.n in
    let x = normalised_of p a.n in
    let s = c.first-start.ensures a.points.now a.d in
    let f = c.following-current.ensures in
    let e = normal p a.n _ _ _ (l.i + 1) s c.requires.range_value f in
    (f, e, any_next (λ j. le (x (j + 1)) (x j)) l.i l.invariant.2 (le_same _ _ _ _ e l.invariant.1 c.if-x-previous.false))

pub returns : goal.returns
returns c =
    let l = c.loop-i in
    let e : l.i ≡ c.args.n - 1 = omega arith in
    sym (rw e at l.invariant.2)
