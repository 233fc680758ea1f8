use Rattle.std.proofs.Common.{◌≡◌, ℕ, Bool, true, false, List, ◌+◌, ◌-◌, ◌/◌, ◌≤◌, ◌<◌, length, sym, ◌∙◌, arith}
use Rattle.std.proofs.lemmas.Bool.Decides.{nat_tests}
use borrow.Author.Tests.{lt-ltb, le-ltb}
use lib.ListN.{get_or}
use lib.Ieee.{Float, nan}
use Rattle.arith.specs.Loop.{whilst}
use Rattle.arith.proofs.Loops.{whilst_done, whilst_turn}
use Rattle.bspline.specs.Search.{Bisection, pick_of, halve, several, partition_point}
use Rattle.bspline.proofs.search.bisect.Goals as goal
use Rattle.bspline.proofs.search.bisect.Goals.{then-passes, else-passes}

module _ (test : Float → Bool) (list : List Float) where
  -- a turn halves the part
  turned : (n base size base' : ℕ) (r : Bisection) → 1 < size → size ≤ n
      → whilst several (halve nan test list) n (record { base = base; size = size }) ≡ r
      → pick_of nan test list (base + size / 2) (base + size / 2) base ≡ base'
      → (m : ℕ) × (size - size / 2 ≤ m) × (whilst several (halve nan test list) m (record { base = base'; size = size - size / 2 }) ≡ r)
  unfolding halve
  turned n base size base' r go fuel h e = (
    n - 1,
    omega arith,
    rw (← e) (sym (whilst_turn _ _ _ _ (omega arith) (lt-ltb _ _ go)) ∙ h),
  )

  picked : (at high low : ℕ) → test (get_or list at nan) ≡ true → pick_of nan test list at high low ≡ high
  unfolding pick_of
  picked at high low h = rw h

  passed : (at high low : ℕ) → test (get_or list at nan) ≡ false → pick_of nan test list at high low ≡ low
  unfolding pick_of
  passed at high low h = rw h

  -- the last element decides
  ended : (n base size at : ℕ) → 0 < length list → size ≤ 1
      → whilst several (halve nan test list) n (record { base = base; size = size })
      ≡ whilst several (halve nan test list) (length list) (record { base = 0; size = length list })
      → pick_of nan test list base (base + 1) base ≡ at → at ≡ partition_point nan test list
  unfolding partition_point
  ended n base size at some small h e =
      let q = sym (whilst_done _ _ _ _ (le-ltb _ _ small)) ∙ h in
      rw (lt-ltb 0 _ some, ← q) (sym e)

pub returns-then-is_empty : goal.returns-then-is_empty
unfolding partition_point
returns-then-is_empty g c = λ test h. let e : length c.args.list.now ≡ 0 = grind (arith, nat_tests) in rw e

pub loop-size-preserved : goal.loop-size-preserved
loop-size-preserved g c =
    let l = c.loop-size in
    let list = c.args.list.now in
    let mid = l.base + l.size / 2 in
    elim c.if-passes.branch [
      | then-passes w ↦ (
        omega arith,
        rw w.base-is (omega arith),
        λ test h. let k = l.invariant.2 test h in
            let t : test (get_or list mid nan) ≡ true = sym (h _ _ c.passes.ensures) ∙ w.if-passes.true in
            turned test list k.0 l.base l.size c.if-passes.base _ (omega arith) k.1 k.2
            (picked test list mid mid l.base t ∙ sym w.base-is),
      )
      | else-passes w ↦ (
        omega arith,
        rw w.base-is (omega arith),
        λ test h. let k = l.invariant.2 test h in
            let t : test (get_or list mid nan) ≡ false = sym (h _ _ c.passes.ensures) ∙ w.if-passes.false in
            turned test list k.0 l.base l.size c.if-passes.base _ (omega arith) k.1 k.2
            (passed test list mid mid l.base t ∙ sym w.base-is),
      )
    ]

pub returns-then-passes-2 : goal.returns-then-passes-2
returns-then-passes-2 g c =
    λ test h. let l = c.loop-size in
    let list = c.args.list.now in
    let k = l.invariant.2 test h in
    let t : test (get_or list l.base nan) ≡ true = sym (h _ _ c.passes-2.ensures) ∙ c.if-passes-2.true in
    ended test list k.0 l.base l.size (l.base + 1) (omega arith) (omega arith) k.2 (picked test list l.base (l.base + 1) l.base t)

pub returns : goal.returns
returns g c =
    λ test h. let l = c.loop-size in
    let list = c.args.list.now in
    let k = l.invariant.2 test h in
    let t : test (get_or list l.base nan) ≡ false = sym (h _ _ c.passes-2.ensures) ∙ c.if-passes-2.false in
    ended test list k.0 l.base l.size l.base (omega arith) (omega arith) k.2 (passed test list l.base (l.base + 1) l.base t)
