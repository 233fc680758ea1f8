-- The locations of a round, in their place.
use mathlib.Core.Path.{◌≡◌, refl, sym, ap, subst, ◌∙◌}
use mathlib.Core.Bool.{Bool, true, false, cond}
use mathlib.Core.List.{List, [], ◌∷◌, ◌++◌, append-nil}
use Rattle.std.specs.Prelude.{None}
use Prim.Native.Nat.{ℕ, ◌+◌, ◌-◌, ◌*◌, ◌≤◌, ◌<◌}
use native.Mathlib.Omega.{arith}
use native.Mathlib.Numerals.{add-one}
use lib.ListN.{length, get_or, set, take, drop, length-drop, length-append}
use lib.Seq.{take-take, take_at, take-suc-set, take-set-lt, drop-set-add}
use lib.Ieee.{Float, nan, binary64, add, div, lt}
use Rattle.arith.specs.Operations.{floats}
use Rattle.arith.proofs.Rows.{row_end}
use Rattle.window.specs.Window.{window, splice}
use Rattle.window.specs.Cells.{at}
use Rattle.window.proofs.Windows.{window_same, window_cell}
use Rattle.bspline.specs.Search.{span_of}
use Rattle.window.specs.Rows.{join}
use Rattle.window.proofs.Written.{set_written}
use Rattle.sorting.specs.Sort.{sort_of}
use Rattle.sorting.specs.Thin.{dedup_of, distinct}
use Rattle.sorting.proofs.Sorted.{sort_count}
use Rattle.sorting.proofs.Kept.{thinned_count}
use Rattle.smoothing.specs.State.{counts}
use Rattle.smoothing.specs.Round.{selected, middle_of, raw_locations, locations_of}
use Rattle.refinement.specs.declared.plan.Plan.{Plan}
use Rattle.refinement.specs.Memory.{witness_place, locations_place, Roomy, Memory, memory_at, with_locations, task_in, state_in, spline_in}
use Rattle.refinement.specs.Memory.{task_at, state_at, locations_at}
use Rattle.refinement.specs.Kept.{Relocated}
use Rattle.refinement.specs.Round.{location_of, Located}
use Rattle.refinement.proofs.Memories.{lengths, locations_read, locations_count, locations_written}

-- ---- an interval's location
-- whether axis a of interval i is above 0.9
abbrev pub test : List Float → ℕ → ℕ → ℕ → Bool
test bounds i d a = lt (floats.literal 9 10) (at bounds (i * d + a))

-- the bounds of interval i are there
pub bounds_row : (p : Plan) (w : List Float) (r : Roomy p (length w)) (bounds : List Float) (i : ℕ) → bounds ≡ (memory_at p w).bounds
    → i + 1 < p.samples
    → i * p.axes + p.axes ≤ length bounds
bounds_row p w r bounds i e h =
    let n : length bounds ≡ (p.samples - 1) * p.axes = ap length e ∙ (lengths p w r).bounds in
    row_end i (p.samples - 1) p.axes (length bounds) (omega arith) (omega arith)

-- the middle of the span of interval i's witness
pub middle_is : (p : Plan) (w t : List Float) (i span : ℕ) → t ≡ (memory_at p w).t → i + 1 < p.samples
    → span ≡ span_of floats t p.count (get_or w (witness_place p + i) nan)
    → div binary64 (add binary64 (at t span) (at t (span + 1))) (floats.literal 2 1)
    ≡ middle_of (spline_in p (memory_at p w)) (at (memory_at p w).witness i)
unfolding middle_of
middle_is p w t i span e h g =
    ap (λ (k : ℕ). middle t k) g
    ∙ ap (λ (l : List Float). middle l (span_of floats l p.count (get_or w (witness_place p + i) nan))) e
    ∙ ap (λ (v : Float). middle (memory_at p w).t (span_of floats (memory_at p w).t p.count v))
    (sym (window_cell (witness_place p) (witness_place p + (p.samples - 1)) w i nan (omega arith)))
  where
    middle : List Float → ℕ → Float
    middle l k = div binary64 (add binary64 (at l k) (at l (k + 1))) (floats.literal 2 1)

module _ (p : Plan) (w : List Float) (r : Roomy p (length w)) where
  abbrev x : Memory
  x = memory_at p w

  -- one location more
  set_memory : (count : ℕ) (v : Float) → count < p.room → Relocated x (memory_at p (set w (locations_place p + count) v))
  set_memory count v h =
      let e = set_written w (locations_place p + count) v (omega (arith, r.cells_fit)) in
      subst (λ (l : List Float). Relocated x (memory_at p l)) (sym e)
      (locations_written p w r (locations_place p + count) (locations_place p + count + 1) (v ∷ []) (omega arith) (omega arith) (omega arith)
      (omega arith))

  set_list : (count : ℕ) (v : Float) → count < p.room
      → locations_at p (count + 1) (set w (locations_place p + count) v) ≡ locations_at p count w ++ (v ∷ [])
  set_list count v h =
      let L = locations_place p in
      let n = (lengths p w r).locations in
      rw (drop-set-add L w count v, take-set-lt (L + 3 * p.room - L) (drop L w) count v (omega arith), add-one)
      (take-suc-set x.locations count v (omega arith))

  module _ (i count : ℕ) (inside : i + 1 < p.samples) (few : count ≤ i) where
    abbrev Added : List Float → ℕ → Type 0
    Added w' k =
        Relocated x (memory_at p w') × ((locations_at p k w' ≡ locations_at p count w ++ location_of p x i) × (k ≤ count + 1))

    abbrev chosen : Bool → List Float
    chosen b = cond b (middle_of (spline_in p x) (at x.witness i) ∷ []) []

    pub location_added : (v : Float) → true ≡ selected p.axes x.bounds i → v ≡ middle_of (spline_in p x) (at x.witness i)
        → Added (set w (locations_place p + count) v) (count + 1)
    location_added v s h =
        let n : count < p.room = omega (arith, r.waypoints_fit) in
        let f : v ∷ [] ≡ location_of p x i = ap (λ (u : Float). u ∷ []) h ∙ ap chosen s in
        (set_memory count v n, (set_list count v n ∙ ap (λ (l : List Float). locations_at p count w ++ l) f, omega arith))

    pub location_none : false ≡ selected p.axes x.bounds i → Added w count
    location_none s =
        (refl, (sym (append-nil (locations_at p count w)) ∙ ap (λ (b : Bool). locations_at p count w ++ chosen b) s, omega arith))

  -- ---- sorted, each once
  module _ (count : ℕ) (few : count ≤ p.room) where
    abbrev L : ℕ
    L = locations_place p

    abbrev S : List Float
    S = sort_of (locations_at p count w)

    sorted_long : length S ≡ count
    sorted_long = sort_count (locations_at p count w) ∙ locations_count p w r count (omega arith)

    kept_few : length (dedup_of S) ≤ count
    unfolding dedup_of
    kept_few = omega (arith, thinned_count distinct None S, sorted_long)

    -- the cells v that `sort_once` leaves, k of them kept
    module _ (v : List Float) (k : ℕ) (e : k ≡ length (dedup_of (sort_of (window L (L + count) w))))
        (f : v ≡ dedup_of (sort_of (window L (L + count) w)) ++ drop k (sort_of (window L (L + count) w))) where
      read : sort_of (window L (L + count) w) ≡ S
      read = ap sort_of (locations_read p w count (omega arith))

      kept : k ≡ length (dedup_of S)
      kept = e ∙ ap (λ (l : List Float). length (dedup_of l)) read

      cells : v ≡ dedup_of S ++ drop k S
      cells = f ∙ ap (λ (l : List Float). dedup_of l ++ drop k l) read

      long : length v ≡ L + count - L
      long = ap length cells ∙ length-append (dedup_of S) (drop k S) ∙ omega (arith, length-drop k S, sorted_long, kept_few, kept)

      abbrev after : List Float
      after = splice L (L + count) v w

      first_kept : locations_at p k after ≡ dedup_of S
      first_kept =
          let n = kept_few in
          let m = kept in
          sym (take-take k count (memory_at p after).locations (omega arith))
          ∙ ap (take k) (sym (locations_read p after count (omega arith)) ∙ window_same L (L + count) v w (omega (arith, r.cells_fit)) long
          ∙ cells)
          ∙ take_at (dedup_of S) (drop k S) k (sym kept)

      pub settled_all : Relocated x (memory_at p after) × ((locations_at p k after ≡ dedup_of S) × (k ≡ length (dedup_of S)))
      settled_all = (locations_written p w r L (L + count) v (omega arith) (omega arith) (omega arith) long, (first_kept, kept))

-- ---- all intervals
-- one interval more, where the arrays were x₀ before the first
pub collect_next : (p : Plan) (i count k : ℕ) (x₀ x y : Memory) → Relocated x₀ x → take count x.locations ≡ join i (location_of p x₀)
    → Relocated x y → take k y.locations ≡ take count x.locations ++ location_of p x i
    → Relocated x₀ y × (take k y.locations ≡ join (i + 1) (location_of p x₀))
unfolding join
collect_next p i count k x₀ x y e h f g = (
  f ∙ ap (with_locations y.locations) e,
  rw add-one
      (g ∙ ap (λ (z : Memory). take count x.locations ++ location_of p z i) e ∙ ap (λ (l : List Float). l ++ location_of p x₀ i) h),
)

pub collected : (p : Plan) (n i : ℕ) (l : List Float) (x : Memory) → i ≡ n → n ≡ p.samples - 1 → l ≡ join i (location_of p x)
    → l ≡ raw_locations (task_in p x) (state_in p (counts 0 0 0) x)
unfolding raw_locations
collected p n i l x e f h = h ∙ ap (λ (k : ℕ). join k (location_of p x)) (e ∙ f)

-- then settled: the cells were w, are w₁ with the raw locations and w₂ with those kept
pub located : (p : Plan) (count k : ℕ) (w w₁ w₂ : List Float) → Relocated (memory_at p w) (memory_at p w₁)
    → locations_at p count w₁ ≡ raw_locations (task_at p w) (state_at p (counts 0 0 0) w) → Relocated (memory_at p w₁) (memory_at p w₂)
    → locations_at p k w₂ ≡ dedup_of (sort_of (locations_at p count w₁)) → k ≡ length (dedup_of (sort_of (locations_at p count w₁)))
    → Located p k w w₂
unfolding locations_of
located p count k w w₁ w₂ e h f g n =
    record {
      rest = f ∙ ap (with_locations (memory_at p w₂).locations) e;
      are = g ∙ ap (λ (l : List Float). dedup_of (sort_of l)) h;
      many = n ∙ ap (λ (l : List Float). length (dedup_of (sort_of l))) h;
    }
