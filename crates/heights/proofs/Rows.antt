-- The table of weights: its formula at every entry, and the total of every row, each by one law for all.
use mathlib.Core.Path.{◌≡◌, refl, ap, ◌∙◌}
use mathlib.Core.Bool.{Bool, true, false, ◌&&◌}
use mathlib.Core.List.{List, [], ◌∷◌}
use Prim.Native.Nat.{ℕ, ◌+◌, ◌*◌, ◌^◌, ◌≤◌, ◌<◌}
use native.Mathlib.Omega.{arith}
use borrow.Author.Tests.{eqb-true}
use lib.Dec.{eqb}
use lib.ListN.{get_or, length}
use Rattle.arith.specs.First.{first_of, every}
use Rattle.arith.proofs.Firsts.{every_at}
use Rattle.arith.proofs.Truth.{and_parts, never}
use Rattle.window.specs.Rows.{table}
use Rattle.window.proofs.Joined.{table_at, table_length}
use Rattle.heights.specs.Weights.{weight_of, weight_table, row_total}

pub weights_length : length weight_table ≡ 1542
unfolding weight_table
weights_length = table_length 257 6 weight_of

-- the formula, at every entry
pub weight_at_law : (j k : ℕ) → j ≤ 256 → k < 6 → get_or weight_table (6 * j + k) 0 ≡ weight_of j k
unfolding weight_table
weight_at_law j k g h =
    let e : 6 * j + k ≡ j * 6 + k = omega arith in
    ap (λ (i : ℕ). get_or (table 257 6 weight_of) i 0) e ∙ table_at 257 6 weight_of 0 j k (omega arith) h

-- two lists are the same, as a test
abbrev pub same : List ℕ → List ℕ → Bool
same [] [] = true
same (x ∷ l) (y ∷ m) = eqb x y && same l m
same [] (y ∷ m) = false
same (x ∷ l) [] = false

-- "its formula shown for all entries together": the test, passed, says so of each
pub same_is : (l m : List ℕ) → same l m ≡ true → l ≡ m
same_is [] [] e = refl
same_is [] (y ∷ m) e = never e
same_is (x ∷ l) [] e = never e
same_is (x ∷ l) (y ∷ m) e =
    let p = and_parts (eqb x y) (same l m) e in
    ap (λ (z : ℕ). z ∷ l) (eqb-true x y p.0) ∙ ap (λ (z : List ℕ). y ∷ z) (same_is l m p.1)

-- the weights of a step, in all
abbrev pub weights_total : ℕ → ℕ
weights_total j = weight_of j 0 + weight_of j 1 + weight_of j 2 + weight_of j 3 + weight_of j 4 + weight_of j 5

-- "each row totals 2^40": one test of all rows
all_total : every 257 (λ j. eqb (weights_total j) (2 ^ 40)) ≡ true
unfolding first_of
all_total = refl

pub weights_total_law : (j : ℕ) → j ≤ 256 → weights_total j ≡ 2 ^ 40
weights_total_law j h = eqb-true (weights_total j) (2 ^ 40) (every_at (λ j. eqb (weights_total j) (2 ^ 40)) 257 all_total j (omega arith))

-- the table's own rows
pub row_total_law : (t : List ℕ) → t ≡ weight_table → (j : ℕ) → j ≤ 256 → row_total t j ≡ 2 ^ 40
row_total_law t e j h =
    let w : (k : ℕ) → k < 6 → get_or t (6 * j + k) 0 ≡ weight_of j k =
    λ k l. ap (λ (t : List ℕ). get_or t (6 * j + k) 0) e ∙ weight_at_law j k h l in
    omega (
      arith,
      w 0 (omega arith),
      w 1 (omega arith),
      w 2 (omega arith),
      w 3 (omega arith),
      w 4 (omega arith),
      w 5 (omega arith),
      weights_total_law j h,
    )
