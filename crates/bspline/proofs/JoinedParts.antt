-- Rows of one length r that fill a part of a list, row j from C + j * r on: the part is their join.
use mathlib.Core.Path.{◌≡◌, refl, sym, ap, ◌∙◌}
use mathlib.Core.List.{List, [], ◌++◌, append-nil}
use Prim.Native.Nat.{ℕ, zero, suc, ◌+◌, ◌-◌, ◌*◌, ◌<◌}
use native.Mathlib.Omega.{arith}
use native.Mathlib.Decide.{dec_lt}
use native.Mathlib.Nat.{suc-mul}
use lib.ListN.{length}
use Rattle.arith.proofs.Rows.{row_end}
use Rattle.window.specs.Window.{window}
use Rattle.window.proofs.Windows.{window_window}
use Rattle.window.proofs.Parts.{read_seam}
use Rattle.window.proofs.Seams.{same_window, window_append, window_front}
use Rattle.window.specs.Rows.{join}
use Rattle.window.proofs.Joined.{join_length}

module _ {A : Type 0} where
  -- rows that are known make the part
  pub rows_join : (C r n : ℕ) (f : ℕ → List A) (l : List A) → ((j : ℕ) → j < n → window (C + j * r) (C + j * r + r) l ≡ f j)
      → window C (C + n * r) l ≡ join n f
  unfolding join
  rows_join C r zero f l h = let e : C + 0 * r - C ≡ 0 = omega arith in rw e
  rows_join C r (suc n) f l h =
      let s = suc-mul n r in
      let e : C + suc n * r ≡ C + n * r + r = omega arith in
      window_append C (C + n * r) (C + suc n * r) l (omega arith) (omega arith)
      ∙ rw (rows_join C r n f l (λ j g. h j (omega arith)), e, h n (omega arith))

  -- row j of a join
  join_row : (n r : ℕ) (f : ℕ → List A) → ((i : ℕ) → i < n → length (f i) ≡ r) → (j : ℕ) → j < n → window (j * r) (j * r + r) (join n f)
      ≡ f j
  unfolding join
  join_row zero r f h j l = absurd (omega arith)
  join_row (suc n) r f h j l =
      let k = join_length n r f (λ i g. h i (omega arith)) in
      elim (dec_lt j n) [
        | yes a ↦
            let e = row_end j n r (n * r) a (omega arith) in
            window_front (j * r) (j * r + r) (join n f) (f n) (omega arith) (omega arith) ∙ join_row n r f (λ i g. h i (omega arith)) j a
        | no a ↦
            let q : j ≡ n = omega arith in
            rw q
            (ap (λ (x : List A). window (n * r) (n * r + r) (join n f ++ x)) (sym (append-nil (f n)))
            ∙ read_seam (join n f) (f n) [] (n * r) (n * r + r) k (h n (omega arith) ∙ omega arith))
      ]

  -- the part is known: its rows are
  pub row_of : (C r n : ℕ) (f : ℕ → List A) (l : List A) → ((i : ℕ) → i < n → length (f i) ≡ r) → window C (C + n * r) l ≡ join n f
      → (j : ℕ) → j < n → window (C + j * r) (C + j * r + r) l ≡ f j
  row_of C r n f l h e j g =
      let q = row_end j n r (n * r) g (omega arith) in
      same_window (C + j * r) (C + j * r) (C + j * r + r) (C + (j * r + r)) l refl (omega arith)
      ∙ sym (window_window C (C + n * r) (j * r) (j * r + r) l (omega arith) (omega arith))
      ∙ ap (λ (x : List A). window (j * r) (j * r + r) x) e
      ∙ join_row n r f h j g
