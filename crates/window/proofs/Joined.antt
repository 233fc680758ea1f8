-- The laws of `join`, `table` and `map`: their lengths and their elements.
use mathlib.Core.Path.{◌≡◌, refl, ap, ◌∙◌}
use mathlib.Core.List.{List, [], ◌∷◌, map}
use Prim.Native.Nat.{ℕ, zero, suc, ◌+◌, ◌*◌, ◌/◌, ◌%◌, ◌≤◌, ◌<◌}
use native.Mathlib.Omega.{arith}
use native.Mathlib.Nat.{suc-mul, div-add-mod', mod-lt, div-lt_iff_lt-mul, zero-lt-suc}
use native.Mathlib.Decide.{dec_lt}
use lib.ListN.{length, get_or, length-append, get_or-append}
use lib.Seq.{get_or-append-add}
use Rattle.arith.proofs.Rows.{row_end}
use Rattle.window.specs.Rows.{join, list_of, table}

module _ {A : Type 0} where
  -- rows of one length d
  pub join_length : (n d : ℕ) (f : ℕ → List A) → ((i : ℕ) → i < n → length (f i) ≡ d) → length (join n f) ≡ n * d
  unfolding join
  join_length zero d f h = omega arith
  join_length (suc n) d f h = length-append (join n f) (f n) ∙ (let e = join_length n d f (λ i l. h i (omega arith)) in let g = h n
      (omega arith) in let s = suc-mul n d in omega arith)

  -- element j of row i
  pub join_at : (n d : ℕ) (f : ℕ → List A) (z : A) → ((i : ℕ) → i < n → length (f i) ≡ d) → (i j : ℕ) → i < n → j < d
      → get_or (join n f) (i * d + j) z ≡ get_or (f i) j z
  unfolding join
  join_at zero d f z h i j l g = absurd (omega arith)
  join_at (suc n) d f z h i j l g =
      let e = join_length n d f (λ i l. h i (omega arith)) in
      elim (dec_lt i n) [
        | yes a ↦
            let r = row_end i n d (n * d) a (omega arith) in
            get_or-append (join n f) (f n) z (i * d + j) (omega arith) ∙ join_at n d f z (λ i l. h i (omega arith)) i j a g
        | no a ↦
            let q : i ≡ n = omega arith in
            rw q (rw (← e) (get_or-append-add (join n f) (f n) j z))
      ]

  -- at most one element of each
  pub join_most : (n : ℕ) (f : ℕ → List A) → ((i : ℕ) → length (f i) ≤ 1) → length (join n f) ≤ n
  unfolding join
  join_most zero f h = omega arith
  join_most (suc n) f h = omega (arith, length-append (join n f) (f n), join_most n f h, h n)

  -- equal rows, equal lists
  pub join_ap : (n : ℕ) (f g : ℕ → List A) → ((i : ℕ) → i < n → f i ≡ g i) → join n f ≡ join n g
  unfolding join
  join_ap zero f g h = refl
  join_ap (suc n) f g h = rw (join_ap n f g (λ i l. h i (omega arith)), h n (omega arith))

  -- lists of n elements
  pub list_length : (n : ℕ) (f : ℕ → A) → length (list_of n f) ≡ n
  list_length n f = join_length n 1 (λ j. f j ∷ []) (λ i l. refl) ∙ omega arith

  pub list_at : (n : ℕ) (f : ℕ → A) (z : A) (i : ℕ) → i < n → get_or (list_of n f) i z ≡ f i
  list_at n f z i l =
      let e : i ≡ i * 1 + 0 = omega arith in
      ap (λ (k : ℕ). get_or (list_of n f) k z) e ∙ join_at n 1 (λ j. f j ∷ []) z (λ i l. refl) i 0 l (omega arith)

  module _ (n d : ℕ) (f : ℕ → ℕ → A) where
    pub table_length : length (table n d f) ≡ n * d
    unfolding table
    table_length = join_length n d (λ i. list_of d (f i)) (λ i l. list_length d (f i))

    -- element j of row i
    pub table_at : (z : A) (i j : ℕ) → i < n → j < d → get_or (table n d f) (i * d + j) z ≡ f i j
    unfolding table
    table_at z i j l g = join_at n d (λ i. list_of d (f i)) z (λ i l. list_length d (f i)) i j l g ∙ list_at d (f i) z j g

  -- equal elements, equal tables
  pub table_ap : (n d : ℕ) (f g : ℕ → ℕ → A) → ((i j : ℕ) → i < n → j < d → f i j ≡ g i j) → table n d f ≡ table n d g
  unfolding table
  table_ap n d f g h = join_ap n (λ i. list_of d (f i)) (λ i. list_of d (g i)) (λ i l. join_ap d (λ j. f i j ∷ []) (λ j. g i j ∷ [])
      (λ j m. ap (λ (a : A). a ∷ []) (h i j l m)))

-- an element of a list whose elements were all replaced
pub map_at : {A B : Type 0} (f : A → B) (l : List A) (i : ℕ) (d : A) (e : B) → i < length l → get_or (map f l) i e ≡ f (get_or l i d)
map_at f [] i d e h = absurd (omega arith)
map_at f (x ∷ l) zero d e h = refl
map_at f (x ∷ l) (suc i) d e h = map_at f l i d e (omega arith)

-- what holds of every place by row and column holds of every place
pub by_row : (P : ℕ → Type 0) (n d : ℕ) → ((i j : ℕ) → i < n → j < d → P (i * d + j)) → (p : ℕ) → p < n * d → P p
by_row P n zero h p l = absurd (omega arith)
by_row P n (suc d) h p l =
    let e = div-add-mod' p (suc d) in
    let r : p / suc d < n = (div-lt_iff_lt-mul (zero-lt-suc d)).1 l in
    rw e at (h (p / suc d) (p % suc d) r (mod-lt p (zero-lt-suc d)))
