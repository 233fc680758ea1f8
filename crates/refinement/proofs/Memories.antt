-- The arrays of `build` after some of them were written: what is read of the others is as it was.
use mathlib.Core.Path.{◌≡◌, refl, sym, ◌∙◌}
use mathlib.Core.List.{List}
use Prim.Native.Nat.{ℕ, ◌+◌, ◌-◌, ◌*◌, ◌≤◌}
use native.Mathlib.Omega.{arith}
use native.Mathlib.Nat.{mul-le-mul_right, mul-le-mul}
use lib.ListN.{length, drop}
use lib.Seq.{take-take, length-take-le}
use lib.Ieee.{Float}
use Rattle.window.specs.Window.{window, splice}
use Rattle.window.proofs.Windows.{length_window, window_before, window_after}
use Rattle.window.proofs.Seams.{same_window}
use Rattle.bspline.specs.Segments.{Polynomial}
use Rattle.bspline.specs.Placed.{knots_at}
use Rattle.polynomial.specs.Placed as audits
use Rattle.window.proofs.TwoParts.{Apart, both_before, both_between, both_after, both_first, both_second}
use Rattle.refinement.specs.declared.plan.Plan.{Plan}
use Rattle.refinement.specs.Memory.{block, points_place, knots_place, controls_place, bounds_place, witness_place, locations_place}
use Rattle.refinement.specs.Memory.{system_place, breaks_place, coefficients_place, spline_of, parts_of, Roomy, sized, Memory, memory}
use Rattle.refinement.specs.Memory.{memory_at, with_controls, with_polynomial, with_coefficients, with_bounds, locations_at}
use Rattle.refinement.specs.Kept.{Relocated}

-- memories are equal where each of their arrays is
memory_is : {x x' : Memory} → x.s ≡ x'.s → x.y ≡ x'.y → x.t ≡ x'.t → x.c ≡ x'.c → x.bounds ≡ x'.bounds → x.witness ≡ x'.witness
    → x.locations ≡ x'.locations → x.breaks ≡ x'.breaks → x.coefficients ≡ x'.coefficients → x ≡ x'
memory_is s y t c b w l k f = λ i. memory (s i) (y i) (t i) (c i) (b i) (w i) (l i) (k i) (f i)

-- ---- numbers
-- products that bound the arrays
pub record Products (p : Plan) : Type 0 where
  pub controls : p.count * p.axes ≤ block p
  pub points : p.samples * p.axes ≤ block p
  pub bounds : (p.samples - 1) * p.axes ≤ block p
  pub coefficients : (p.count - 5) * (6 * p.axes) ≤ 6 * block p
  pub window_rows : (i : ℕ) → i ≤ p.count → i * p.axes ≤ block p

pub products : (p : Plan) (cells : ℕ) → Roomy p cells → Products p
products p cells r =
    let g = r.knots_fit in
    let h = r.waypoints_fit in
    let k : (p.count - 5) * p.axes ≤ block p = mul-le-mul_right p.axes (omega arith) in
    record {
      controls = mul-le-mul_right p.axes (omega arith);
      points = mul-le-mul_right p.axes (omega arith);
      bounds = mul-le-mul_right p.axes (omega arith);
      coefficients = omega arith;
      window_rows = λ i l. mul-le-mul_right p.axes (omega arith);
    }

pub block_small : (p : Plan) (cells : ℕ) → Roomy p cells → block p ≤ 320256
block_small p cells r = let k : p.room * p.axes ≤ 20016 * 16 = mul-le-mul r.small r.few in omega arith

-- the bounds lie in the slice, where the block's size comes as an answer
pub bounds_numbers : (p : Plan) (w : List Float) → Roomy p (length w) → (b : ℕ) → b ≡ p.room * p.axes
    → ((p.samples - 1) * p.axes ≤ 320256) × (2 * p.room + 2 * b + (p.samples - 1) * p.axes ≤ length w)
bounds_numbers p w r b e =
    let q = products p (length w) r in
    let k = block_small p (length w) r in
    (omega (arith, q.bounds), omega (arith, q.bounds, r.cells_fit))

-- a plan with other controls
pub roomy_few : (p : Plan) (cells m segments : ℕ) → Roomy p cells → 6 ≤ m → m ≤ segments + 5 → segments + 16 ≤ p.room
    → Roomy (sized p m) cells
roomy_few p cells m segments r six h g =
    record {
      few = r.few;
      six = six;
      knots_fit = omega arith;
      waypoints_fit = r.waypoints_fit;
      two = r.two;
      small = r.small;
      cells_fit = r.cells_fit;
    }

-- with i of `count` knots more
pub roomy_more : (p : Plan) (cells cells' count m i : ℕ) → Roomy p cells → cells' ≡ cells → p.count + count + 7 ≤ p.room
    → m ≡ p.count + i → i ≤ count
    → Roomy (sized p m) cells'
roomy_more p cells cells' count m i r e h g l =
    rw e
    (record {
      few = r.few;
      six = omega (arith, r.six);
      knots_fit = omega arith;
      waypoints_fit = r.waypoints_fit;
      two = r.two;
      small = r.small;
      cells_fit = r.cells_fit;
    })

-- the first locations, read from the slice
pub locations_read : (p : Plan) (w : List Float) (count : ℕ) → count ≤ 3 * p.room
    → window (locations_place p) (locations_place p + count) w ≡ locations_at p count w
locations_read p w count h =
    let e : locations_place p + count - locations_place p ≡ count = omega arith in
    rw e (sym (take-take count (locations_place p + 3 * p.room - locations_place p) (drop (locations_place p) w) (omega arith)))

module _ (p : Plan) (w : List Float) (r : Roomy p (length w)) where
  -- ---- the lengths of the arrays
  pub record Lengths (x : Memory) : Type 0 where
    pub s : length x.s ≡ p.samples
    pub t : length x.t ≡ p.count + 6
    pub c : length x.c ≡ p.count * p.axes
    pub bounds : length x.bounds ≡ (p.samples - 1) * p.axes
    pub witness : length x.witness ≡ p.samples - 1
    pub locations : length x.locations ≡ 3 * p.room

  pub lengths : Lengths (memory_at p w)
  lengths =
      let q = products p (length w) r in
      record {
        s = length_window 0 (0 + p.samples) w (omega arith) (omega arith) ∙ omega arith;
        t = length_window (knots_place p) (knots_place p + (p.count + 6)) w (omega arith) (omega arith) ∙ omega arith;
        c = length_window (controls_place p) (controls_place p + p.count * p.axes) w (omega arith) (omega arith) ∙ omega arith;
        bounds = length_window (bounds_place p) (bounds_place p + (p.samples - 1) * p.axes) w (omega arith) (omega arith) ∙ omega arith;
        witness = length_window (witness_place p) (witness_place p + (p.samples - 1)) w (omega arith) (omega arith) ∙ omega arith;
        locations = length_window (locations_place p) (locations_place p + 3 * p.room) w (omega arith) (omega arith) ∙ omega arith;
      }

  pub locations_count : (count : ℕ) → count ≤ 3 * p.room → length (locations_at p count w) ≡ count
  locations_count count h = length-take-le count (memory_at p w).locations (omega (arith, lengths.locations))

  -- `bspline` writes the knots' end in another way
  pub knots_are : knots_at (spline_of p) w ≡ (memory_at p w).t
  knots_are = same_window (knots_place p) (knots_place p) (knots_place p + p.count + 6) (knots_place p + (p.count + 6)) w refl (omega arith)

  -- ---- a fit writes the controls and its system
  pub controls_written : (v y : List Float) (end : ℕ) → length v ≡ p.count * p.axes → system_place p ≤ end → end ≤ breaks_place p
      → length y ≡ end - system_place p
      → memory_at p (splice (system_place p) end y (splice (controls_place p) (controls_place p + p.count * p.axes) v w))
      ≡ with_controls v (memory_at p w)
  controls_written v y end lv lo hi ly =
      let q = products p (length w) r in
      let a : Apart (controls_place p) (controls_place p + p.count * p.axes) (system_place p) end v y w =
      record { be = omega arith; ew = omega arith; wf = lo; fl = omega arith; first_fits = lv ∙ omega arith; second_fits = ly } in
      let s-is = both_before a 0 (0 + p.samples) (omega arith) (omega arith) in
      let y-is = both_before a (points_place p) (points_place p + p.samples * p.axes) (omega arith) (omega arith) in
      let t_is = both_before a (knots_place p) (knots_place p + (p.count + 6)) (omega arith) (omega arith) in
      let c_is = both_first a in
      let b-is = both_between a (bounds_place p) (bounds_place p + (p.samples - 1) * p.axes) (omega arith) (omega arith) (omega arith) in
      let w_is = both_between a (witness_place p) (witness_place p + (p.samples - 1)) (omega arith) (omega arith) (omega arith) in
      let l-is = both_between a (locations_place p) (locations_place p + 3 * p.room) (omega arith) (omega arith) (omega arith) in
      let k_is = both_after a (breaks_place p) (breaks_place p + (p.count - 5) + 1) (omega arith) in
      let f-is = both_after a (coefficients_place p) (coefficients_place p + (p.count - 5) * (6 * p.axes)) (omega arith) in
      memory_is s-is y-is t_is c_is b-is w_is l-is k_is f-is

  -- ---- an audit writes the bounds and the witnesses
  pub bounds_written : (x z : List Float) → length x ≡ (p.samples - 1) * p.axes → length z ≡ p.samples - 1
      → memory_at p (audits.with_bounds (parts_of p) x z w) ≡ with_bounds x z (memory_at p w)
  bounds_written x z lx lz =
      let q = products p (length w) r in
      let a : Apart (bounds_place p) (bounds_place p + (p.samples - 1) * p.axes) (witness_place p)
      (witness_place p + (p.samples - 1)) x z w =
      record {
        be = omega arith;
        ew = omega arith;
        wf = omega arith;
        fl = omega arith;
        first_fits = lx ∙ omega arith;
        second_fits = lz ∙ omega arith;
      } in
      let s-is = both_before a 0 (0 + p.samples) (omega arith) (omega arith) in
      let y-is = both_before a (points_place p) (points_place p + p.samples * p.axes) (omega arith) (omega arith) in
      let t_is = both_before a (knots_place p) (knots_place p + (p.count + 6)) (omega arith) (omega arith) in
      let c_is = both_before a (controls_place p) (controls_place p + p.count * p.axes) (omega arith) (omega arith) in
      let b-is = both_first a in
      let w_is = both_second a in
      let l-is = both_after a (locations_place p) (locations_place p + 3 * p.room) (omega arith) in
      let k_is = both_after a (breaks_place p) (breaks_place p + (p.count - 5) + 1) (omega arith) in
      let f-is = both_after a (coefficients_place p) (coefficients_place p + (p.count - 5) * (6 * p.axes)) (omega arith) in
      memory_is s-is y-is t_is c_is b-is w_is l-is k_is f-is

  -- ---- a polynomial is written, with a segment for each span
  pub polynomial_written : (q : Polynomial Float) → length q.breaks ≡ p.count - 5 + 1
      → length q.coefficients ≡ (p.count - 5) * (6 * p.axes)
      → memory_at p
      (splice (coefficients_place p) (coefficients_place p + (p.count - 5) * (6 * p.axes)) q.coefficients
      (splice (breaks_place p) (breaks_place p + (p.count - 5) + 1) q.breaks w))
      ≡ with_polynomial q (memory_at p w)
  polynomial_written q lb lc =
      let n = products p (length w) r in
      let a : Apart (breaks_place p) (breaks_place p + (p.count - 5) + 1) (coefficients_place p)
      (coefficients_place p + (p.count - 5) * (6 * p.axes)) q.breaks q.coefficients w =
      record {
        be = omega arith;
        ew = omega arith;
        wf = omega arith;
        fl = omega arith;
        first_fits = lb ∙ omega arith;
        second_fits = lc ∙ omega arith;
      } in
      let s-is = both_before a 0 (0 + p.samples) (omega arith) (omega arith) in
      let y-is = both_before a (points_place p) (points_place p + p.samples * p.axes) (omega arith) (omega arith) in
      let t_is = both_before a (knots_place p) (knots_place p + (p.count + 6)) (omega arith) (omega arith) in
      let c_is = both_before a (controls_place p) (controls_place p + p.count * p.axes) (omega arith) (omega arith) in
      let b-is = both_before a (bounds_place p) (bounds_place p + (p.samples - 1) * p.axes) (omega arith) (omega arith) in
      let w_is = both_before a (witness_place p) (witness_place p + (p.samples - 1)) (omega arith) (omega arith) in
      let l-is = both_before a (locations_place p) (locations_place p + 3 * p.room) (omega arith) (omega arith) in
      let k_is = both_first a in
      let f-is = both_second a in
      memory_is s-is y-is t_is c_is b-is w_is l-is k_is f-is

  -- ---- what is written from the coefficients on
  pub coefficients_written : (v : List Float) → ((b g : ℕ) → b ≤ g → g ≤ coefficients_place p → window b g v ≡ window b g w)
      → memory_at p v ≡ with_coefficients (memory_at p v).coefficients (memory_at p w)
  coefficients_written v below =
      let q = products p (length w) r in
      let s-is = below 0 (0 + p.samples) (omega arith) (omega arith) in
      let y-is = below (points_place p) (points_place p + p.samples * p.axes) (omega arith) (omega arith) in
      let t_is = below (knots_place p) (knots_place p + (p.count + 6)) (omega arith) (omega arith) in
      let c_is = below (controls_place p) (controls_place p + p.count * p.axes) (omega arith) (omega arith) in
      let b-is = below (bounds_place p) (bounds_place p + (p.samples - 1) * p.axes) (omega arith) (omega arith) in
      let w_is = below (witness_place p) (witness_place p + (p.samples - 1)) (omega arith) (omega arith) in
      let l-is = below (locations_place p) (locations_place p + 3 * p.room) (omega arith) (omega arith) in
      let k_is = below (breaks_place p) (breaks_place p + (p.count - 5) + 1) (omega arith) (omega arith) in
      memory_is s-is y-is t_is c_is b-is w_is l-is k_is refl

  -- ---- a part of the locations is written
  pub locations_written : (a e : ℕ) (v : List Float) → locations_place p ≤ a → a ≤ e → e ≤ locations_place p + 3 * p.room → length v ≡ e - a
      → Relocated (memory_at p w) (memory_at p (splice a e v w))
  locations_written a e v lo ae hi lv =
      let q = products p (length w) r in
      let end : e ≤ length w = omega arith in
      let before : (b g : ℕ) → b ≤ g → g ≤ locations_place p → window b g (splice a e v w) ≡ window b g w =
      λ b g h k. window_before a e v w b g h (omega arith) (omega arith) in
      let after : (b g : ℕ) → locations_place p + 3 * p.room ≤ b → window b g (splice a e v w) ≡ window b g w =
      λ b g h. window_after a e v w b g (omega arith) ae end lv in
      let s-is = before 0 (0 + p.samples) (omega arith) (omega arith) in
      let y-is = before (points_place p) (points_place p + p.samples * p.axes) (omega arith) (omega arith) in
      let t_is = before (knots_place p) (knots_place p + (p.count + 6)) (omega arith) (omega arith) in
      let c_is = before (controls_place p) (controls_place p + p.count * p.axes) (omega arith) (omega arith) in
      let b-is = before (bounds_place p) (bounds_place p + (p.samples - 1) * p.axes) (omega arith) (omega arith) in
      let w_is = before (witness_place p) (witness_place p + (p.samples - 1)) (omega arith) (omega arith) in
      let k_is = after (breaks_place p) (breaks_place p + (p.count - 5) + 1) (omega arith) in
      let f-is = after (coefficients_place p) (coefficients_place p + (p.count - 5) * (6 * p.axes)) (omega arith) in
      memory_is s-is y-is t_is c_is b-is w_is refl k_is f-is
