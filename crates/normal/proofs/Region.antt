-- The system's arrays in the lent cells: a cell of an array is read where it lies, and a cell or a whole array is written there.
use mathlib.Core.Path.{◌≡◌, sym, ap, ◌∙◌}
use mathlib.Core.List.{List}
use Prim.Native.Nat.{ℕ, ◌+◌, ◌-◌, ◌*◌, ◌≤◌, ◌<◌}
use native.Mathlib.Omega.{arith}
use lib.ListN.{length, take, drop, set}
use lib.Seq.{drop-set-add, drop-set-lt, take-set-lt, take-set-le, get_or-take}
use lib.Ieee.{Float, nan, binary64, sub, mul, div}
use Rattle.window.specs.Window.{window, splice}
use Rattle.window.specs.Cells.{at}
use Rattle.window.proofs.Windows.{window_cell, window_same, window_before, window_after}
use Rattle.normal.specs.System.{System, size_of, system_of, with_band, with_right, with_scales}

-- ---- a cell of a part
module _ (a e : ℕ) (l : List Float) where
  read_in_law : (k : ℕ) → a + k < e → at l (a + k) ≡ at (window a e l) k
  read_in_law k h = sym (window_cell a e l k nan h)

  set_in : (k : ℕ) (v : Float) → a + k < e → window a e (set l (a + k) v) ≡ set (window a e l) k v
  set_in k v h = rw (drop-set-add a l k v) (take-set-lt (e - a) (drop a l) k v (omega arith))

  set_before : (k : ℕ) (v : Float) → k < a → window a e (set l k v) ≡ window a e l
  set_before k v h = ap (take (e - a)) (drop-set-lt a l k v h)

  set_after : (k : ℕ) (v : Float) → a ≤ e → e ≤ k → window a e (set l k v) ≡ window a e l
  set_after k v g h =
      let i : a + (k - a) ≡ k = omega arith in
      ap (λ (j : ℕ). window a e (set l j v)) (sym i) ∙ rw (drop-set-add a l (k - a) v) (take-set-le (e - a) (drop a l) (k - a) v
      (omega arith))

same : {b b' r r' s s' : List Float} → b ≡ b' → r ≡ r' → s ≡ s' → ◌≡◌ {A = System} (record { band = b; right = r; scales = s })
    (record { band = b'; right = r'; scales = s' })
same p q t = rw (p, q, t)

-- ---- the three arrays
module _ (n d : ℕ) (l : List Float) where
  pub read_band : (k : ℕ) → k < 6 * n → at l k ≡ at (system_of n d l).band k
  read_band k h = sym (get_or-take (6 * n - 0) l k nan (omega arith))

  pub read_right : (k : ℕ) → k < n * d → at l (6 * n + k) ≡ at (system_of n d l).right k
  read_right k h = read_in_law (6 * n) (6 * n + n * d) l k (omega arith)

  pub read_scale : (k : ℕ) → k < n → at l (6 * n + n * d + k) ≡ at (system_of n d l).scales k
  read_scale k h = read_in_law (6 * n + n * d) (6 * n + n * d + n) l k (omega arith)

  pub put_band : (k : ℕ) (v : Float) → k < 6 * n → system_of n d (set l k v) ≡ with_band (system_of n d l) (set (system_of n d l).band k v)
  put_band k v h = same (take-set-lt (6 * n - 0) l k v (omega arith)) (set_before (6 * n) (6 * n + n * d) l k v h)
      (set_before (6 * n + n * d) (6 * n + n * d + n) l k v (omega arith))

  pub put_right : (k : ℕ) (v : Float) → k < n * d → system_of n d (set l (6 * n + k) v) ≡ with_right (system_of n d l) (set
      (system_of n d l).right k v)
  put_right k v h = same (set_after 0 (6 * n) l (6 * n + k) v (omega arith) (omega arith))
      (set_in (6 * n) (6 * n + n * d) l k v (omega arith)) (set_before (6 * n + n * d) (6 * n + n * d + n) l (6 * n + k) v (omega arith))

  pub put_scale : (k : ℕ) (v : Float) → k < n → system_of n d (set l (6 * n + n * d + k) v)
      ≡ with_scales (system_of n d l) (set (system_of n d l).scales k v)
  put_scale k v h = same (set_after 0 (6 * n) l (6 * n + n * d + k) v (omega arith) (omega arith))
      (set_after (6 * n) (6 * n + n * d) l (6 * n + n * d + k) v (omega arith) (omega arith))
      (set_in (6 * n + n * d) (6 * n + n * d + n) l k v (omega arith))

  -- the product of a band cell and a right side is taken from v
  pub less_product : (v : Float) (i k : ℕ) → i < 6 * n → k < n * d → sub binary64 v (mul binary64 (at l i) (at l (6 * n + k)))
      ≡ sub binary64 v (mul binary64 (at (system_of n d l).band i) (at (system_of n d l).right k))
  less_product v i k h g = rw (read_band i h, read_right k g)

  -- a right side of control i becomes v over the control's diagonal cell
  pub put_quotient : (i axis : ℕ) (v : Float) → i < n → i * d + axis < n * d → system_of n d (set l (6 * n + (i * d + axis))
      (div binary64 v (at l (6 * i)))) ≡ with_right (system_of n d l) (set (system_of n d l).right (i * d + axis)
      (div binary64 v (at (system_of n d l).band (6 * i))))
  put_quotient i axis v h g = put_right (i * d + axis) (div binary64 v (at l (6 * i))) g ∙ ap (λ (x : Float). with_right (system_of n d l)
      (set (system_of n d l).right (i * d + axis) (div binary64 v x))) (read_band (6 * i) (omega arith))

  module _ (v : List Float) (h : length l ≡ size_of n d) where
    pub lend_band : length v ≡ 6 * n → system_of n d (splice 0 (6 * n) v l) ≡ with_band (system_of n d l) v
    lend_band e = same (window_same 0 (6 * n) v l (omega arith) (omega arith)) (window_after 0 (6 * n) v l (6 * n) (6 * n + n * d)
        (omega arith) (omega arith) (omega arith) (omega arith)) (window_after 0 (6 * n) v l (6 * n + n * d) (6 * n + n * d + n)
        (omega arith) (omega arith) (omega arith) (omega arith))

    pub lend_right : length v ≡ n * d → system_of n d (splice (6 * n) (6 * n + n * d) v l) ≡ with_right (system_of n d l) v
    lend_right e = same (window_before (6 * n) (6 * n + n * d) v l 0 (6 * n) (omega arith) (omega arith) (omega arith))
        (window_same (6 * n) (6 * n + n * d) v l (omega arith) (omega arith)) (window_after (6 * n) (6 * n + n * d) v l (6 * n + n * d)
        (6 * n + n * d + n) (omega arith) (omega arith) (omega arith) (omega arith))
