-- Parameters that are normalised in their place: what is read is not yet written, and what counts are the first n.
use mathlib.Core.Path.{◌≡◌, ap, ◌∙◌}
use mathlib.Core.List.{List, ◌∷◌, []}
use Prim.Native.Nat.{ℕ, ◌+◌, ◌-◌, ◌≤◌, ◌<◌}
use native.Mathlib.Omega.{arith}
use lib.Ieee.{Float, nan, binary64, sub, div}
use lib.ListN.{length}
use Rattle.window.specs.Cells.{at}
use Rattle.window.specs.Rows.{list_of, written}
use Rattle.window.proofs.Joined.{join_ap, list_at, list_length}
use Rattle.window.proofs.Written.{splice_after}
use Rattle.request.specs.Parameters.{length_of, normalised_of}

-- the cell behind those that are written
pub read_next : (i : ℕ) (f : ℕ → Float) (l : List Float) → i < length l → at (written 0 (list_of i f) l) i ≡ at l i
read_next i f l h =
    let k = list_length i f in
    splice_after 0 (0 + length (list_of i f)) (list_of i f) l nan (omega arith) i (omega arith) (omega arith) (omega arith)

-- of lists with the same first n numbers
module _ (p q : List Float) (n : ℕ) (some : 1 ≤ n) (same : (i : ℕ) → i < n → at p i ≡ at q i) where
  pub same_length : length_of p n ≡ length_of q n
  unfolding length_of
  same_length = λ j. sub binary64 (same (n - 1) (omega arith) j) (same 0 (omega arith) j)

  pub same_normalised : list_of n (normalised_of p n) ≡ list_of n (normalised_of q n)
  unfolding normalised_of
  same_normalised =
      join_ap n (λ i. normalised_of p n i ∷ []) (λ i. normalised_of q n i ∷ [])
      (λ i l j. div binary64 (sub binary64 (same i l j) (same 0 (omega arith) j)) (same_length j) ∷ [])

-- the first n of p, normalised as a list of their own
module _ (p : List Float) (n : ℕ) (some : 1 ≤ n) {l : List Float} (is : l ≡ list_of n (at p)) where
  first_same : (i : ℕ) → i < n → at l i ≡ at p i
  first_same i h = ap (λ (v : List Float). at v i) is ∙ list_at n (at p) nan i h

  count : length l ≡ n
  count = ap length is ∙ list_length n (at p)

  pub first_length : length_of l (length l) ≡ length_of p n
  first_length = ap (length_of l) count ∙ same_length l p n some first_same

  pub first_normalised : list_of (length l) (normalised_of l (length l)) ≡ list_of n (normalised_of p n)
  first_normalised = ap (λ (m : ℕ). list_of m (normalised_of l m)) count ∙ same_normalised l p n some first_same
