-- The rows that the code writes, waypoint after waypoint, are those that `smoothing` lists.
use mathlib.Core.Path.{◌≡◌, sym, ap, ◌∙◌}
use mathlib.Core.List.{List}
use Prim.Native.Nat.{ℕ, ◌+◌, ◌*◌, ◌≤◌, ◌<◌}
use native.Mathlib.Omega.{arith}
use lib.Ieee.{Float, nan, binary64, sub, div}
use lib.ListN.{length, take, get_or}
use lib.Seq.{length-take-le, get_or-take}
use Rattle.window.specs.Cells.{at}
use Rattle.window.specs.Rows.{join, list_of, table, written}
use Rattle.window.proofs.Joined.{join_length, list_length, table_at, table_ap}
use Rattle.window.proofs.Written.{written_all}
use Rattle.smoothing.specs.Rows.{gathered, centred}
use Rattle.gathering.specs.Rows.{cell_of, centred_cell}

-- n rows of k cells, over as many cells
pub rows_written : (n k : ℕ) (f : ℕ → ℕ → Float) (l₀ : List Float) {l : List Float} → length l₀ ≡ n * k
    → l ≡ written 0 (join n (λ i. list_of k (f i))) l₀ → l ≡ table n k f
unfolding table
rows_written n k f l₀ h e =
    e ∙ written_all (join n (λ i. list_of k (f i))) l₀
    (join_length n k (λ i. list_of k (f i)) (λ i l. list_length k (f i)) ∙ sym h)

module _ (points : List Float) (d n : ℕ) (axes : List ℕ) (k : ℕ) (within : k ≤ length axes) where
  pub gathered_rows : table n k (λ i. cell_of points axes (i * d)) ≡ gathered points d n (take k axes)
  unfolding gathered
  gathered_rows =
      rw (length-take-le k axes within)
      (table_ap n k (λ i. cell_of points axes (i * d)) (λ i. cell_of points (take k axes) (i * d)) (λ i a l m. rw (get_or-take k axes a 0 m)))

  -- row a of waypoint i
  gathered_at : (i a : ℕ) → i < n → a < k → at (gathered points d n (take k axes)) (i * k + a) ≡ cell_of points axes (i * d) a
  gathered_at i a l m =
      ap (λ (r : List Float). at r (i * k + a)) (sym gathered_rows)
      ∙ table_at n k (λ i. cell_of points axes (i * d)) nan i a l m

  pub centred_rows : (eps : List Float) → 1 ≤ n
      → table n k (λ i. centred_cell points axes eps (i * d)) ≡ centred (gathered points d n (take k axes)) (take k eps) n k
  unfolding centred
  centred_rows eps h =
      let r = gathered points d n (take k axes) in
      table_ap n k (λ i. centred_cell points axes eps (i * d))
      (λ i a. div binary64 (sub binary64 (at r (i * k + a)) (at r a)) (at (take k eps) a)) (λ i a l m.
      let e : 0 * k + a ≡ a = omega arith in
      let z : 0 * d + get_or axes a 0 ≡ get_or axes a 0 = omega arith in
      let first : at r a ≡ at points (get_or axes a 0) = rw (e, z) at (gathered_at 0 a h m) in
      rw (gathered_at i a l m, first, get_or-take k eps a nan m))
