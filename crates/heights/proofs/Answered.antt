-- The answer to a call, check by check.
use mathlib.Core.Path.{◌≡◌, sym, ap, ◌∙◌, subst}
use mathlib.Core.Bool.{Bool, true, false, cond, not}
use mathlib.Core.List.{List}
use Prim.Native.Nat.{ℕ, ◌-◌, ◌*◌, ◌≤◌, ◌<◌}
use native.Mathlib.Omega.{arith}
use borrow.Author.Tests.{lt-ltb, le-ltb, ne_eqb}
use lib.Dec.{ltb, eqb}
use lib.IntN.{ℤ}
use lib.ListN.{length}
use Rattle.window.specs.Rows.{written}
use Rattle.curve.specs.declared.Curve.{Curve}
use Rattle.curve.specs.Form.{Slices, others_formed, well_formed}
use Rattle.curve.specs.Places.{axis_place}
use Rattle.curve.proofs.Formed.{set_parts, formed, axes_good}
use Rattle.curve.proofs.Placing.{place_below}
use Rattle.heights.specs.Controls.{AxisSet, all_fit}
use Rattle.heights.specs.Sets.{set_with, Sized}
use Rattle.heights.specs.Heights.{Outcome, outcome, axis_set, all_heights, heights_in, heights_of, EachWithinHalf}
use Rattle.heights.proofs.Placed.{given_within}

-- in a set: 19, 28, and the heights
module _ (x : AxisSet) (cells : List ℤ) where
  pub too_short : length cells < 257 * x.segments → outcome 19 cells ≡ heights_in x cells
  unfolding heights_in
  too_short h = rw (lt-ltb (length cells) (257 * x.segments) h)

  pub turned_away : 257 * x.segments ≤ length cells → all_fit x ≡ false → outcome 28 cells ≡ heights_in x cells
  unfolding heights_in
  turned_away h e = rw (le-ltb (length cells) (257 * x.segments) h, e)

  pub given : 257 * x.segments ≤ length cells → all_fit x ≡ true → outcome 0 (written 0 (all_heights x) cells) ≡ heights_in x cells
  unfolding heights_in
  given h e = rw (le-ltb (length cells) (257 * x.segments) h, e)

module _ (c : Curve) (s : Slices) (axis : ℕ) where
  -- 24 and 3
  pub malformed : (cells : List ℤ) → well_formed c s ≡ false → outcome 24 cells ≡ heights_of c s axis cells
  unfolding heights_of
  malformed cells w = rw w

  pub no_such_axis : (cells : List ℤ) → well_formed c s ≡ true → c.d ≤ axis → outcome 3 cells ≡ heights_of c s axis cells
  unfolding heights_of
  no_such_axis cells w h = rw (w, le-ltb axis c.d h)

  pub in_its_set : (cells : List ℤ) → well_formed c s ≡ true → axis < c.d → heights_in (axis_set c s axis) cells ≡ heights_of c s axis cells
  unfolding heights_of
  in_its_set cells w h = rw (w, lt-ltb axis c.d h)

  -- the axis's set
  module _ (w : well_formed c s ≡ true) (l : axis < c.d) (place : ℕ) (e : place ≡ axis_place c.axes c.k axis) where
    pub selected : place < c.k → axis_set c s axis ≡ set_with s.breaks s.coefficients c.segments c.k place
    unfolding axis_set
    selected h = rw (← e, lt-ltb place c.k h)

    pub others : c.k ≤ place
        → axis_set c s axis ≡ set_with s.other_breaks s.other_coefficients c.other_segments (c.d - c.k) (place - c.k)
    unfolding axis_set
    others h = rw (← e, le-ltb place c.k h)

    pub selected_answer : (o : Outcome) (cells : List ℤ) → place < c.k
        → o ≡ heights_in (set_with s.breaks s.coefficients c.segments c.k place) cells → o ≡ heights_of c s axis cells
    selected_answer o cells h g = g ∙ ap (λ (x : AxisSet). heights_in x cells) (sym (selected h)) ∙ in_its_set cells w l

    pub others_answer : (o : Outcome) (cells : List ℤ) → c.k ≤ place
        → o ≡ heights_in (set_with s.other_breaks s.other_coefficients c.other_segments (c.d - c.k) (place - c.k)) cells
        → o ≡ heights_of c s axis cells
    others_answer o cells h g = g ∙ ap (λ (x : AxisSet). heights_in x cells) (sym (others h)) ∙ in_its_set cells w l

    pub selected_sized : place < c.k → Sized c.segments c.k place s.breaks s.coefficients
    selected_sized h =
        let f = formed c s w in
        let z = set_parts c.k c.segments s.breaks s.coefficients f.set_formed_law in
        (h, omega (arith, f.k_high, f.d_high), z.most, z.breaks_length, omega (arith, z.coefficients_length))

    pub below_d : place < c.d
    below_d =
        let f = formed c s w in
        rw e (place_below c.axes c.k c.d f.k_high (axes_good c.axes c.k c.d f.axes_formed_law) axis l)

    pub others_sized : c.k ≤ place
        → Sized c.other_segments (c.d - c.k) (place - c.k) s.other_breaks s.other_coefficients
    unfolding others_formed
    others_sized h =
        let f = formed c s w in
        let m = c.d - c.k in
        let some : eqb m 0 ≡ false = ne_eqb m 0 (λ q. absurd (omega (arith, q, below_d, h))) in
        let z = set_parts m c.other_segments s.other_breaks s.other_coefficients (rw some at f.others_formed_law) in
        (omega (arith, below_d, h), omega (arith, f.d_high), z.most, z.breaks_length, omega (arith, z.coefficients_length))

  -- what is given is within half
  heights_within : (cells : List ℤ) → EachWithinHalf (axis_set c s axis) (heights_of c s axis cells)
  unfolding heights_of
  heights_within cells = go (well_formed c s) (ltb axis c.d)
    where
      go : (w l : Bool) → EachWithinHalf (axis_set c s axis) (cond (not w) (outcome 24 cells)
          (cond (not l) (outcome 3 cells) (heights_in (axis_set c s axis) cells)))
      go false l = λ e. absurd (omega (arith, e))
      go true false = λ e. absurd (omega (arith, e))
      go true true = given_within (axis_set c s axis) cells

  -- both promises of an answer
  pub answered : (o : Outcome) (cells : List ℤ) → o ≡ heights_of c s axis cells
      → (o ≡ heights_of c s axis cells) × EachWithinHalf (axis_set c s axis) o
  answered o cells e = (e, subst (EachWithinHalf (axis_set c s axis)) (sym e) (heights_within cells))
