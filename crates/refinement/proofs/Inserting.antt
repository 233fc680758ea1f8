-- The loop over locations, and the polynomial after it.
use mathlib.Core.Path.{◌≡◌, refl, sym, ap, subst, ◌∙◌}
use mathlib.Core.Bool.{Bool, true, false, cond, ◌||◌}
use mathlib.Core.List.{List, [], ◌∷◌}
use Prim.Native.Nat.{ℕ, suc, ◌+◌, ◌-◌, ◌*◌, ◌≤◌, ◌<◌}
use native.Mathlib.Omega.{arith}
use native.Mathlib.Numerals.{add-one}
use native.Mathlib.Nat.{mul-le-mul_right}
use lib.ListN.{length, get_or, take, drop, length-take, drop_of_length-le}
use lib.Seq.{drop-cons, get_or-take, length-take-le}
use lib.Ieee.{Float, nan, le}
use Rattle.arith.specs.Operations.{floats}
use Rattle.window.specs.Window.{splice}
use Rattle.window.specs.Cells.{at}
use Rattle.window.proofs.Windows.{window_cell}
use Rattle.window.proofs.Seams.{same_window}
use Rattle.bspline.specs.declared.Spline as placed
use Rattle.bspline.specs.Search.{span_of}
use Rattle.window.specs.Rows.{written}
use Rattle.bspline.specs.Insertion.{knots_with, controls_with}
use Rattle.bspline.specs.Segments.{Polynomial, polynomial_of}
use Rattle.bspline.specs.Placed.{inserted_at, polynomial_at}
use Rattle.bspline.proofs.InsertPlaced.{span_within}
use Rattle.bspline.proofs.WideSpans.{wide_breaks_length, wide_coefficients_length}
use Rattle.window.proofs.TwoParts.{Apart, splice_swap, both_before, both_after, both_first, both_second}
use Rattle.smoothing.specs.Answer.{Answer}
use Rattle.smoothing.specs.Answer.Answer.{done, refused}
use Rattle.smoothing.specs.State.{Spline, spline, polynomial_in}
use Rattle.smoothing.specs.Round.{span_in, outside, insert_of, insert_all}
use Rattle.smoothing.proofs.Sizes.{Formed, insert_formed}
use Rattle.refinement.specs.declared.plan.Plan.{Plan}
use Rattle.refinement.specs.Memory.{block, points_place, knots_place, controls_place, bounds_place, witness_place, locations_place}
use Rattle.refinement.specs.Memory.{breaks_place, coefficients_place, spline_of, Roomy, sized, Memory, memory_at, spline_in}
use Rattle.refinement.specs.Memory.{with_polynomial, Wide}
use Rattle.refinement.specs.Kept.{Beside}
use Rattle.refinement.proofs.Memories.{products, lengths, knots_are, polynomial_written}

-- ---- the span of x among the knots t of the plan
module _ (p : Plan) (w : List Float) (r : Roomy p (length w)) (t : List Float) (e : t ≡ (memory_at p w).t) (x : Float) (span : ℕ)
    (h : span ≡ span_of floats t p.count x) where
  -- its two knots are there
  pub span_inside : span + 1 < length t
  span_inside =
      let n : span < p.count = subst (λ (k : ℕ). k < p.count) (sym h) (span_within t p.count x (omega (arith, r.six))).1 in
      let l : length t ≡ p.count + 6 = ap length e ∙ (lengths p w r).t in
      omega arith

  abbrev second : Bool
  second = le (at t (span + 1)) x

  outside_is : outside (spline_in p (memory_at p w)) x ≡ (le x (at t span) || second)
  unfolding outside
  outside_is =
      sym (ap (λ (k : ℕ). le x (at t k) || le (at t (k + 1)) x) h
      ∙ ap (λ (l : List Float). le x (at l (span_of floats l p.count x)) || le (at l (span_of floats l p.count x + 1)) x) e)

  pub outside_below : le x (at t span) ≡ true → true ≡ outside (spline_in p (memory_at p w)) x
  outside_below b = sym (outside_is ∙ ap (λ (v : Bool). v || second) b)

  pub outside_above : le x (at t span) ≡ false → second ≡ outside (spline_in p (memory_at p w)) x
  outside_above b = sym (outside_is ∙ ap (λ (v : Bool). v || second) b)

-- ---- one knot more
module _ (p : Plan) (w : List Float) (r : Roomy p (length w)) (more : p.count + 8 ≤ p.room) (s : placed.Spline)
    (is : s ≡ spline_of p) where
  abbrev m : ℕ
  m = p.count

  abbrev d : ℕ
  d = p.axes

  abbrev x : Memory
  x = memory_at p w

  more_rows : (m + 1) * d ≤ block p
  more_rows = mul-le-mul_right d (omega arith)

  pub insert_asks : (5 < s.count) × (s.knots + s.count + 7 ≤ s.controls) × (s.controls + (s.count + 1) * s.axes ≤ length w)
  insert_asks =
      let q = more_rows in
      subst (λ (v : placed.Spline). (5 < v.count) × (v.knots + v.count + 7 ≤ v.controls)
      × (v.controls + (v.count + 1) * v.axes ≤ length w)) (sym is)
      (omega (arith, r.six), omega (arith, r.knots_fit), omega (arith, r.cells_fit))

  module _ (v : Float) (w' : List Float) (e : w' ≡ inserted_at s v w) where
    abbrev b : Spline
    b = spline_in p x

    abbrev T : List Float
    T = knots_with v (span_in b v) x.t

    abbrev C : List Float
    C = controls_with floats x.t v d m (span_in b v) x.c

    formed : Formed d (insert_of d v b)
    formed = insert_formed d v b (record { six = r.six; knots = (lengths p w r).t; controls = (lengths p w r).c })

    abbrev T_end : ℕ
    T_end = knots_place p + m + 6 + 1

    abbrev C_end : ℕ
    C_end = controls_place p + (m + 1) * d

    T_long : length T ≡ T_end - knots_place p
    unfolding insert_of
    T_long = formed.knots ∙ omega arith

    C_long : length C ≡ C_end - controls_place p
    unfolding insert_of
    C_long = formed.controls ∙ omega arith

    apart : Apart (knots_place p) T_end (controls_place p) C_end T C w
    apart =
        let q = more_rows in
        record {
          be = omega arith;
          ew = omega arith;
          wf = omega arith;
          fl = omega (arith, r.cells_fit);
          first_fits = T_long;
          second_fits = C_long;
        }

    after_is : w' ≡ splice (controls_place p) C_end C (splice (knots_place p) T_end T w)
    after_is =
        let q = more_rows in
        e
        ∙ ap (λ (z : placed.Spline). inserted_at z v w) is
        ∙ ap (λ (t : List Float). splice (knots_place p) T_end (knots_with v (span_of floats t m v) t)
        (splice (controls_place p) C_end (controls_with floats t v d m (span_of floats t m v) x.c) w)) (knots_are p w r)
        ∙ splice_swap (knots_place p) T_end T (controls_place p) C_end C w (omega arith) (omega arith) (omega arith)
        (omega (arith, r.cells_fit)) T_long C_long

    abbrev p' : Plan
    p' = sized p (m + 1)

    pub inserted_spline : spline_in p' (memory_at p' w') ≡ insert_of d v b
    unfolding insert_of
    inserted_spline =
        let t_is : (memory_at p' w').t ≡ T =
        ap (λ (l : List Float). (memory_at p' l).t) after_is
        ∙ same_window (knots_place p) (knots_place p) (knots_place p + (m + 1 + 6)) T_end _ refl (omega arith)
        ∙ both_first apart in
        let c_is : (memory_at p' w').c ≡ C = ap (λ (l : List Float). (memory_at p' l).c) after_is ∙ both_second apart in
        ap (λ (t : List Float). spline t (memory_at p' w').c (m + 1)) t_is ∙ ap (λ (c : List Float). spline T c (m + 1)) c_is

    pub inserted_beside : Beside x (memory_at p' w')
    inserted_beside =
        let q = products p (length w) r in
        let n = more_rows in
        let s-is = both_before apart 0 (0 + p.samples) (omega arith) (omega (arith, r.waypoints_fit)) in
        let y-is = both_before apart (points_place p) (points_place p + p.samples * d) (omega arith) (omega (arith, q.points)) in
        let b-is = both_after apart (bounds_place p) (bounds_place p + (p.samples - 1) * d) (omega arith) in
        let w_is = both_after apart (witness_place p) (witness_place p + (p.samples - 1)) (omega arith) in
        let l-is = both_after apart (locations_place p) (locations_place p + 3 * p.room) (omega arith) in
        record {
          same_s = ap (λ (l : List Float). (memory_at p' l).s) after_is ∙ s-is;
          same_y = ap (λ (l : List Float). (memory_at p' l).y) after_is ∙ y-is;
          same_bounds = ap (λ (l : List Float). (memory_at p' l).bounds) after_is ∙ b-is;
          same_witness = ap (λ (l : List Float). (memory_at p' l).witness) after_is ∙ w_is;
          same_locations = ap (λ (l : List Float). (memory_at p' l).locations) after_is ∙ l-is;
        }

-- ---- the locations, one after the other
pub location_is : (p : Plan) (w : List Float) (i : ℕ) → i < p.room → get_or w (locations_place p + i) nan ≡ at (memory_at p w).locations i
location_is p w i h = sym (window_cell (locations_place p) (locations_place p + 3 * p.room) w i nan (omega arith))

pub beside_then : {x y z : Memory} → Beside x y → Beside y z → Beside x z
beside_then h k =
    record {
      same_s = k.same_s ∙ h.same_s;
      same_y = k.same_y ∙ h.same_y;
      same_bounds = k.same_bounds ∙ h.same_bounds;
      same_witness = k.same_witness ∙ h.same_witness;
      same_locations = k.same_locations ∙ h.same_locations;
    }

pub beside_self : (x : Memory) → Beside x x
beside_self x = record { same_s = refl; same_y = refl; same_bounds = refl; same_witness = refl; same_locations = refl }

-- x is location i of `count` in L; L' are the locations as they are stored by then
module _ (d count : ℕ) (L L' : List Float) (i : ℕ) (x : Float) (b : Spline) (whole : Answer Spline) (long : count ≤ length L)
    (same : L' ≡ L) (is : x ≡ at L' i)
    (inv : insert_all d (drop i (take count L)) b ≡ whole) (h : i < count) where
  abbrev X : List Float
  X = take count L

  opened : insert_all d (x ∷ drop (i + 1) X) b ≡ whole
  opened =
      let n = length-take-le count L long in
      let e : at X i ≡ x = get_or-take count L i nan h ∙ ap (λ (l : List Float). at l i) (sym same) ∙ sym is in
      let c : drop i X ≡ x ∷ drop (i + 1) X =
      drop-cons X i nan (omega arith) ∙ ap (λ (v : Float). v ∷ drop (suc i) X) e ∙ ap (λ (k : ℕ). x ∷ drop k X) (sym (add-one i)) in
      ap (λ (l : List Float). insert_all d l b) (sym c) ∙ inv

  pub insert_next : (b' : Spline) → false ≡ outside b x → b' ≡ insert_of d x b → insert_all d (drop (i + 1) X) b' ≡ whole
  unfolding insert_all
  insert_next b' o e =
      ap (λ (z : Spline). insert_all d (drop (i + 1) X) z) e
      ∙ ap (λ (k : Bool). cond k (refused 16) (insert_all d (drop (i + 1) X) (insert_of d x b))) o
      ∙ opened

  pub insert_stopped : true ≡ outside b x → refused 16 ≡ whole
  unfolding insert_all
  insert_stopped o = ap (λ (k : Bool). cond k (refused 16) (insert_all d (drop (i + 1) X) (insert_of d x b))) o ∙ opened

pub inserts_done : (d count i : ℕ) (L : List Float) (b : Spline) (whole : Answer Spline) → count ≤ i
    → insert_all d (drop i (take count L)) b ≡ whole → done b ≡ whole
unfolding insert_all
inserts_done d count i L b whole h inv =
    let n = length-take count L in
    let k : length (take count L) ≤ i = omega arith in
    let e : drop i (take count L) ≡ [] = drop_of_length-le (take count L) k in
    ap (λ (l : List Float). insert_all d l b) (sym e) ∙ inv

-- ---- the polynomial of the whole spline
module _ (p : Plan) (w : List Float) (r : Roomy p (length w)) (wide : Wide (memory_at p w).t p.count) (s : placed.Spline)
    (is : s ≡ spline_of p) where
  abbrev Asked : placed.Spline → Type 0
  Asked v =
      (5 < v.count) × (v.knots + v.count + 6 ≤ v.controls) × (v.controls + v.count * v.axes ≤ breaks_place p)
      × (breaks_place p + v.count ≤ coefficients_place p + 4) × (coefficients_place p + (v.count - 5) * (6 * v.axes) ≤ length w)

  pub polynomial_asks : Asked s
  polynomial_asks =
      let q = products p (length w) r in
      subst Asked (sym is) (
        omega (arith, r.six),
        omega (arith, r.knots_fit),
        omega (arith, r.knots_fit),
        omega (arith, r.knots_fit),
        omega (arith, r.cells_fit),
      )

  abbrev y : Memory
  y = memory_at p w

  abbrev P : Polynomial Float
  P = polynomial_in p.axes (spline_in p y)

  same_splice : (a e f : ℕ) (v l : List Float) → e ≡ f → splice a e v l ≡ splice a f v l
  same_splice a e f v l h = rw h

  pub polynomial_memory : (w' : List Float) → w' ≡ polynomial_at s (breaks_place p) (coefficients_place p) w
      → memory_at p w' ≡ with_polynomial P y
  polynomial_memory w' e =
      let q = products p (length w) r in
      let B = breaks_place p in
      let B-end = breaks_place p + (p.count - 5) + 1 in
      let C = coefficients_place p in
      let C_end = coefficients_place p + (p.count - 5) * (6 * p.axes) in
      let lb = wide_breaks_length y.t y.c p.axes p.count wide r.six in
      let lc = wide_coefficients_length y.t y.c p.axes p.count wide r.six in
      let g : w' ≡ splice C C_end P.coefficients (splice B B-end P.breaks w) =
      e
      ∙ ap (λ (z : placed.Spline). polynomial_at z B C w) is
      ∙ ap (λ (t : List Float). let z = polynomial_of floats t y.c p.axes p.count in written B z.breaks
      (written C z.coefficients w)) (knots_are p w r)
      ∙ same_splice B (B + length P.breaks) B-end P.breaks (written C P.coefficients w) (omega (arith, lb))
      ∙ ap (λ (l : List Float). splice B B-end P.breaks l)
      (same_splice C (C + length P.coefficients) C_end P.coefficients w (omega (arith, lc)))
      ∙ splice_swap B B-end P.breaks C C_end P.coefficients w (omega arith) (omega (arith, r.knots_fit)) (omega arith)
      (omega (arith, r.cells_fit)) (lb ∙ omega arith) (lc ∙ omega arith) in
      ap (memory_at p) g ∙ polynomial_written p w r P lb lc
