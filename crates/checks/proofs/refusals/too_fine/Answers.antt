-- `refusals::too_fine` meets its contract.
use mathlib.Core.Path.{◌≡◌, refl, sym, ap, ◌∙◌}
use mathlib.Core.Bool.{false}
use mathlib.Core.List.{List}
use Prim.Native.Nat.{ℕ, ◌≤◌, ◌<◌}
use native.Mathlib.Omega.{arith}
use lib.ListN.{get_or, take}
use lib.Seq.{get_or-take}
use lib.Ieee.{Float, nan}
use Rattle.window.specs.Cells.{at}
use Rattle.request.specs.Any.{any}
use Rattle.request.proofs.Anys.{any_next, any_found}
use Rattle.smoothing.specs.Request.{Lane, axis_count, smoothed_axes, tolerance_list, tolerances_of}
use Rattle.smoothing.specs.Checks.{most_of, exceeds, any_exceeds, bad_axes, too_fine}
use Rattle.smoothing.proofs.Passed.{all_axes, good_axes}
use Rattle.curve.specs.Places.{padded}
use Rattle.curve.proofs.Padded.{padded_at}
use Rattle.checks.specs.Request.{lane_of}
use Rattle.checks.proofs.Passed.{one_each}
use Rattle.checks.proofs.Selected.{any_agree}
use Rattle.checks.proofs.refusals.too_fine.Invariants.{tried}
use Rattle.checks.proofs.refusals.too_fine.Goals as goal

-- the axes and the bounds in hand
module _ (l : Lane) (k : ℕ) (cells : List ℕ) (bounds : List Float) (few : l.d ≤ 16) (good : bad_axes l ≡ false)
    (k_is : k ≡ axis_count l)
    (cells_are : cells ≡ padded (smoothed_axes l))
    (bounds_are : take k bounds ≡ tolerances_of l.tolerance k) where
  k_few : k ≤ l.d
  k_few = omega (arith, k_is, all_axes l good)

  axis-is : (j : ℕ) → j < k → get_or cells j 0 ≡ get_or (smoothed_axes l) j 0
  axis-is j h =
      ap (λ (v : List ℕ). get_or v j 0) cells_are ∙ padded_at (smoothed_axes l) j (omega (arith, k_few, few))

  axis-below : (j : ℕ) → j < k → get_or cells j 0 < l.d
  axis-below j h = omega (arith, axis-is j h, (good_axes l good j (omega (arith, h, k_is))).0)

  bound-is : (j : ℕ) → j < k → at bounds j ≡ at (tolerance_list l) j
  bound-is j h =
      sym (get_or-take k bounds j nan h) ∙ ap (λ (v : List Float). at v j) bounds_are
      ∙ ap (λ (n : ℕ). at (tolerances_of l.tolerance n) j) k_is

  answer_is : any k (tried l.points l.d l.n cells bounds) ≡ too_fine l
  unfolding any_exceeds
  answer_is =
      any_agree k (tried l.points l.d l.n cells bounds) (tried l.points l.d l.n (smoothed_axes l) (tolerance_list l))
      (λ j h i. exceeds l.points l.d l.n (axis-is j h i) (most_of (bound-is j h i)))
      ∙ ap (λ (m : ℕ). any m (tried l.points l.d l.n (smoothed_axes l) (tolerance_list l))) k_is

pub chosen-c-requires : goal.chosen-c-requires
chosen-c-requires c = omega (arith, all_axes (lane_of c.args.r.now) c.requires.axes, c.requires.points)

pub tolerances_of-bounds-requires : goal.tolerances_of-bounds-requires
tolerances_of-bounds-requires c =
    let l = lane_of c.args.r.now in
    let k = c.chosen-c.ensures.0 in
    (omega (arith, k, all_axes l c.requires.axes, c.requires.points), rw k (one_each l c.requires.tolerances))

pub loop-a-init : goal.loop-a-init
unfolding any
loop-a-init c = refl

pub exceeds-requires : goal.exceeds-requires
exceeds-requires c =
    let l = lane_of c.args.r.now in
    let s = c.chosen-c in
    let b = axis-below l s.result.count s.result.axes c.tolerances_of-bounds.result c.requires.points.0 c.requires.axes s.ensures.0
    s.ensures.1 c.tolerances_of-bounds.ensures c.loop-a.a (omega arith) in
    (b, c.requires.points.0, c.requires.points.1, c.requires.points.2)

pub returns-then-exceeds : goal.returns-then-exceeds
returns-then-exceeds c =
    let r = c.args.r.now in
    let l = lane_of r in
    let s = c.chosen-c in
    let bounds = c.tolerances_of-bounds.result in
    let e = answer_is l s.result.count s.result.axes bounds c.requires.points.0 c.requires.axes s.ensures.0 s.ensures.1
    c.tolerances_of-bounds.ensures in
    sym (sym e ∙ any_found (tried r.points.now r.d r.n s.result.axes bounds) s.result.count c.loop-a.a (omega arith)
    (sym c.exceeds.ensures ∙ c.if-exceeds.true))

pub loop-a-preserved : goal.loop-a-preserved
loop-a-preserved c =
    let r = c.args.r.now in
    any_next (tried r.points.now r.d r.n c.chosen-c.result.axes c.tolerances_of-bounds.result) c.loop-a.a c.loop-a.invariant
    (sym c.exceeds.ensures ∙ c.if-exceeds.false)

pub returns : goal.returns
returns c =
    let l = lane_of c.args.r.now in
    let s = c.chosen-c in
    let e : c.loop-a.a ≡ s.result.count = omega arith in
    let h = answer_is l s.result.count s.result.axes c.tolerances_of-bounds.result c.requires.points.0 c.requires.axes s.ensures.0
    s.ensures.1 c.tolerances_of-bounds.ensures in
    sym (sym h ∙ rw e at c.loop-a.invariant)
