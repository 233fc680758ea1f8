-- The bisection never leaves the list, whatever the list: a partition point is at most its length.
use mathlib.Core.Bool.{Bool, true}
use mathlib.Core.Path.{◌≡◌}
use mathlib.Core.List.{List}
use Prim.Native.Nat.{ℕ, suc, ◌+◌, ◌/◌, ◌≤◌}
use native.Mathlib.Omega.{arith}
use native.Mathlib.Decide.{dec_lt}
use borrow.Author.Tests.{ltb-true, lt-ltb, le-ltb}
use lib.ListN.{length}
use Rattle.bspline.specs.Search.{Bisection, several, halve, partition_point}
use Rattle.bspline.proofs.PartitionPoint.{pick_le}
use Rattle.arith.proofs.Runs.{whilst_ends}

module _ {A : Type 0} (outside : A) (test : A → Bool) (list : List A) where
  -- the part that is still searched lies in the list
  record Inside (n : ℕ) (b : Bisection) : Type 0 where
    some : 1 ≤ b.size
    fuel : b.size ≤ n
    within : b.base + b.size ≤ length list

  halve_inside : (n : ℕ) (b : Bisection) → several b ≡ true → Inside (suc n) b → Inside n (halve outside test list b)
  unfolding halve
  halve_inside n b e a =
      let many = ltb-true 1 b.size e in
      let h = pick_le outside test list (b.base + b.size / 2) {high = b.base + b.size / 2} {low = b.base} {k = b.base + b.size / 2}
      (omega arith) (omega arith) in
      record { some = omega arith; fuel = omega (arith, a.fuel); within = omega (arith, a.within) }

  pub point_within : partition_point outside test list ≤ length list
  unfolding partition_point
  point_within = elim (dec_lt 0 (length list)) [
    | yes h ↦
        let r = whilst_ends Inside several (halve outside test list) halve_inside (λ s a. absurd (omega (arith, a.some, a.fuel)))
        (length list) (record { base = 0; size = length list })
        (record { some = h; fuel = omega arith; within = omega arith }) in
        let i = r.1 in
        rw (lt-ltb 0 (length list) h) (pick_le outside test list _ (omega (arith, i.some, i.within)) (omega (arith, i.some, i.within)))
    | no h ↦ rw (le-ltb 0 (length list) (omega arith)) (omega arith)
  ]
