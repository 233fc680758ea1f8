-- Rows that are written one after the other into a list, from values that are read of the same list.
use mathlib.Core.Path.{◌≡◌, refl, ap, ◌∙◌}
use mathlib.Core.List.{List, [], ◌∷◌, ◌++◌}
use Prim.Native.Nat.{ℕ, suc, ◌+◌, ◌*◌, ◌≤◌, ◌<◌}
use native.Mathlib.Omega.{arith}
use native.Mathlib.Numerals.{add-one}
use lib.ListN.{length, get_or, set}
use Rattle.arith.proofs.Rows.{row_end}
use Rattle.window.specs.Rows.{join, list_of, table, written}
use Rattle.window.proofs.Joined.{join_ap, table_length}
use Rattle.window.proofs.Written.{fill_next, written_next, splice_before, splice_after}

-- a row lies within
pub row_within : (i m d to cells : ℕ) → i < m → to + m * d ≤ cells → to + i * d + d ≤ cells
row_within i m d to cells h g = let e = row_end i m d (m * d) h (omega arith) in omega arith

module _ {A : Type 0} where
  -- what is read before and behind what was written
  pub before_written : (a : ℕ) (v l : List A) (z : A) (k : ℕ) → a ≤ length l → k < a → get_or (written a v l) k z ≡ get_or l k z
  before_written a v l z k h g = splice_before a (a + length v) v l z h k g

  pub behind_written : (a : ℕ) (v l : List A) (z : A) (k : ℕ) → a ≤ length l → a + length v ≤ k → get_or (written a v l) k z ≡ get_or l k z
  behind_written a v l z k h g = splice_after a (a + length v) v l z h k (omega arith) (omega arith) g

  -- the same elements, the same list
  pub list_ap : (n : ℕ) (f g : ℕ → A) → ((i : ℕ) → i < n → f i ≡ g i) → list_of n f ≡ list_of n g
  list_ap n f g h = join_ap n (λ j. f j ∷ []) (λ j. g j ∷ []) (λ j l. ap (λ (a : A). a ∷ []) (h j l))

  -- nothing of a row, nothing of a table
  pub list_none : (f : ℕ → A) → list_of 0 f ≡ []
  unfolding join
  list_none f = refl

  pub table_none : (d : ℕ) (f : ℕ → ℕ → A) → table 0 d f ≡ []
  unfolding table join
  table_none d f = refl

  -- one element more of a list
  pub list_more : (n : ℕ) (f : ℕ → A) → list_of (n + 1) f ≡ list_of n f ++ (f n ∷ [])
  unfolding join
  list_more n f = rw add-one refl

  -- one cell more of a row
  pub cell_next : (to j : ℕ) (f : ℕ → A) (w w₀ : List A) (x : A) → to + j < length w₀ → w ≡ written to (list_of j f) w₀ → x ≡ f j
      → set w (to + j) x ≡ written to (list_of (j + 1) f) w₀
  cell_next to j f w w₀ x h e g = ap (λ (l : List A). set l (to + j) x) e ∙ fill_next to f j w₀ x h g

  -- one row more of a table
  pub row_next : (to d i : ℕ) (F : ℕ → ℕ → A) (g : ℕ → A) (w w' w₀ : List A) → to + i * d ≤ length w₀ → w ≡ written to (table i d F) w₀
      → w' ≡ written (to + i * d) (list_of d g) w
      → ((a : ℕ) → a < d → g a ≡ F i a) → w' ≡ written to (table (i + 1) d F) w₀
  unfolding table join
  row_next to d i F g w w' w₀ h e e' q =
      let n = table_length i d F in
      let k : to + i * d ≡ to + length (table i d F) = omega arith in
      e'
      ∙ ap (λ (l : List A). written (to + i * d) l w) (list_ap d g (F i) q)
      ∙ ap (λ (l : List A). written (to + i * d) (list_of d (F i)) l) e
      ∙ ap (λ (p : ℕ). written p (list_of d (F i)) (written to (table i d F) w₀)) k
      ∙ written_next to (table i d F) w₀ (list_of d (F i)) (omega arith)
      ∙ ap (λ (p : ℕ). written to (table p d F) w₀) {x = suc i} {y = i + 1} (omega arith)
