-- How many rows a fit counts at most: one for each sample, and six for each piece of each span.
use mathlib.Core.Path.{◌≡◌, ◌∙◌, subst, sym}
use mathlib.Core.Bool.{Bool, true, false, cond}
use mathlib.Core.List.{List}
use Prim.Native.Nat.{ℕ, zero, suc, ◌+◌, ◌-◌, ◌*◌, ◌≤◌}
use native.Mathlib.Omega.{arith}
use native.Mathlib.Nat.{mul-le-mul_right, suc-mul}
use lib.ListN.{length}
use lib.Ieee.{Float, nan, binary64, sub, le, lt}
use Rattle.arith.specs.Loop.{turns, each}
use Rattle.window.specs.Cells.{at}
use Rattle.window.proofs.Windows.{length_window}
use Rattle.normal.specs.System.{System, new_of}
use Rattle.fitting_rows.specs.declared.pieces.Mesh.{Mesh}
use Rattle.fitting_rows.specs.declared.Place.{Place}
use Rattle.fitting_rows.specs.Arrays.{Arrays, arrays_at}
use Rattle.fitting_rows.specs.Samples.{below, dense_of, sample_span, sample_row_of}
use Rattle.fitting_rows.specs.Pieces.{at_or_below, node_row_of, passed_over, mesh_span}
use Rattle.bspline.proofs.PointWithin.{point_within}
use Rattle.fit.specs.Assembly.{Assembled, assembled, low, high, counted, sample_turn, samples_of, piece_of, mesh_turn, mesh_of, sparse_turn, sparse_of, assembled_of}
use Rattle.fit.specs.Fit.{Answer, Bounded, fit_of, rows_most}
use Rattle.fit.specs.Region.{WindowLaid, before}
use Rattle.fit.proofs.Bounds.{fit_either, fit_reach}

-- turns that count at most c rows each
turns_add : (f : ℕ → Assembled → Assembled) (c : ℕ) → ((i : ℕ) (n : Assembled) → (f i n).rows ≤ n.rows + c) → (k a : ℕ) (n : Assembled)
    → (turns f k a n).rows ≤ n.rows + k * c
unfolding turns
turns_add f c h zero a n = omega arith
turns_add f c h (suc k) a n = omega (arith, turns_add f c h k (a + 1) (f a n), h a n, suc-mul k c)

each_adds : (f : ℕ → Assembled → Assembled) (c : ℕ) → ((i : ℕ) (n : Assembled) → (f i n).rows ≤ n.rows + c) → (a b : ℕ) (n : Assembled)
    → (each f a b n).rows ≤ n.rows + (b - a) * c
unfolding each
each_adds f c h a b n = turns_add f c h (b - a) a n

module _ (x : Arrays) (a z : ℕ) where
  abbrev count : ℕ
  count = length x.s

  sample_adds : (i : ℕ) (n : Assembled) → (sample_turn x a z i n).rows ≤ n.rows + 1
  unfolding sample_turn counted
  sample_adds i n = go (dense_of x.t x.s (sample_span x i))
    where
      more : Assembled
      more = counted x a z (sample_row_of x i (sample_span x i)) n

      go : (b : Bool) → (cond b more n).rows ≤ n.rows + 1
      go true = omega arith
      go false = omega arith

  piece_adds : (from to : Float) (n : Assembled) → (piece_of x a z from to n).rows ≤ n.rows + 6
  unfolding piece_of counted
  piece_adds from to n =
      omega (arith, each_adds (λ r k. counted x a z (node_row_of x from (sub binary64 to from) r) k) 1 (λ i k. omega arith) 0 6 n)

  mesh_adds : (m : Mesh) (n : Assembled) → m.end ≤ count → (mesh_of x a z m n).rows ≤ n.rows + (count + 1) * 6
  unfolding mesh_of mesh_turn
  mesh_adds m n h =
      let e = each_adds (mesh_turn x a z m) 6 (λ j k. piece_adds _ _ k) m.begin (m.end + 1) n in
      let l : (m.end + 1 - m.begin) * 6 ≤ (count + 1) * 6 = mul-le-mul_right 6 (omega arith) in
      omega arith

  sparse_adds : (span : ℕ) (n : Assembled) → (sparse_turn x a z span n).rows ≤ n.rows + (count + 1) * 6
  unfolding sparse_turn mesh_span
  sparse_adds span n = go (passed_over x.t x.s (low x a z) (high x a z) span)
    where
      more : Assembled
      more = mesh_of x a z (mesh_span x span) n

      few : more.rows ≤ n.rows + (count + 1) * 6
      few = mesh_adds (mesh_span x span) n (point_within nan (λ v. lt v (at x.t (span + 1))) x.s)

      go : (b : Bool) → (cond b n more).rows ≤ n.rows + (count + 1) * 6
      go true = omega arith
      go false = few

  assembled_rows : (strength : Float) (s : System) → (assembled_of x a z strength s).rows ≤ rows_most count x.m
  unfolding assembled_of samples_of sparse_of
  assembled_rows strength s =
      let first = below x.s (low x a z) in
      let last = at_or_below x.s (high x a z) in
      let l = point_within nan (λ v. le v (high x a z)) x.s in
      let p = each_adds (sample_turn x a z) 1 sample_adds first last (assembled 0 s) in
      let q = each_adds (sparse_turn x a z) ((count + 1) * 6) sparse_adds 5 x.m (each (sample_turn x a z) first last (assembled 0 s)) in
      let r : (x.m - 5) * ((count + 1) * 6) ≤ x.m * ((count + 1) * 6) = mul-le-mul_right ((count + 1) * 6) (omega arith) in
      omega arith

  pub fit_rows : (strength : Float) → (fit_of x a z strength).answered.rows ≤ rows_most count x.m
  fit_rows strength =
      fit_either x a z strength (λ f. f.answered.rows ≤ rows_most count x.m) (assembled_rows strength (new_of (z - a) x.d))
      (omega arith)

-- the answer of a fit at a place, with the bounds of its counts
pub answer_bounded : {C : Type 0} (p : Place) (a z : ℕ) (strength : Float) (l : List Float) {k : Answer} → WindowLaid p a z (length l)
    → (k ≡ (fit_of (arrays_at p (before p l)) a z strength).answered) × C → (k ≡ (fit_of (arrays_at p (before p l)) a z strength).answered)
    × (C × Bounded p.samples p.count k)
answer_bounded p a z strength l h e =
    let x = arrays_at p (before p l) in
    let b : length (before p l) ≡ p.system = length_window 0 p.system l (omega arith) (omega arith) ∙ omega arith in
    let n : length x.s ≡ p.samples = length_window p.parameters (p.parameters + p.samples) (before p l) (omega arith) (omega arith)
    ∙ omega arith in
    let r = fit_reach x a z strength in
    let given : Bounded (length x.s) p.count (fit_of x a z strength).answered = (r.0, r.1, fit_rows x a z strength) in (
      e.0,
      (
        e.1,
        subst (Bounded p.samples p.count) (sym e.0)
            (subst (λ (i : ℕ). Bounded i p.count (fit_of x a z strength).answered) n given),
      ),
    )
