-- The sums of a height: they fit, and the sum of lifted controls stands for the sum of the controls, since each row of weights totals
-- 2 ^ 40.
use mathlib.Core.Path.{◌≡◌, refl, sym, ap, ◌∙◌, subst}
use mathlib.Core.Bool.{Bool, true, false, not, cond}
use mathlib.Core.List.{List, [], ◌∷◌, map}
use Prim.Native.Nat.{ℕ, zero, suc, ◌+◌, ◌-◌, ◌*◌, ◌/◌, ◌^◌, ◌≤◌, ◌<◌}
use native.Mathlib.Omega.{arith}
use native.Mathlib.Nat.{le_refl, mul-le-mul_right}
use native.Mathlib.Numerals.{add-one}
use native.Mathlib.Decide.{dec_lt}
use borrow.Author.Tests.{lt-ltb, le-ltb}
use lib.Dec.{T, ltb, ltb→lt, nltb→le}
use lib.IntN.{ℤ, pos, negsuc, neg_ℤ, ◌+ℤ◌, ◌-ℤ◌, ◌*ℤ◌}
use lib.ListN.{get_or, length}
use Rattle.fraction.specs.Integer.{integer_ring}
use Rattle.fraction.specs.Ring.{solve, ◌⊕◌, ◌⊗◌, con, opposite, v0, v1, v2, v3}
use Rattle.heights.specs.Weights.{weight_of, weight_table}
use Rattle.heights.specs.Height.{weighted, nearest_whole, height_of}
use Rattle.heights.specs.Lifted.{lowered, Lifted}
use Rattle.heights.proofs.Rows.{weights_total_law, weight_at_law, weights_length}

-- the weights of row j before column k, in all
unfoldable pub partial : ℕ → ℕ → ℕ
partial j zero = 0
partial j (suc k) = partial j k + weight_of j k

-- the sum of the first k lifted controls times their weights
unfoldable pub lifted_sum : List ℕ → ℕ → ℕ → ℕ
lifted_sum c j zero = 0
lifted_sum c j (suc k) = lifted_sum c j k + get_or c k 0 * weight_of j k

partial_grows : (j k n : ℕ) → k ≤ n → partial j k ≤ partial j n
unfolding partial
partial_grows j k zero h = subst (λ (m : ℕ). partial j m ≤ partial j 0) {x = 0} {y = k} (omega arith) (le_refl 0)
partial_grows j k (suc n) h = elim (dec_lt n k) [
  | yes l ↦ let e : k ≡ suc n = omega arith in rw e (le_refl (partial j n + weight_of j n))
  | no l ↦ let i = partial_grows j k n (omega arith) in omega arith
]

partial_all : (j : ℕ) → j ≤ 256 → partial j 6 ≡ 2 ^ 40
unfolding partial
partial_all j h = omega (arith, weights_total_law j h)

module _ (c : List ℕ) (j : ℕ) (hj : j ≤ 256) (hc : Lifted c) where
  sum_bound : (k : ℕ) → k ≤ 6 → lifted_sum c j k ≤ 4000000 * partial j k
  unfolding lifted_sum partial
  sum_bound zero h = omega arith
  sum_bound (suc k) h =
      let i = sum_bound k (omega arith) in
      let l = mul-le-mul_right (weight_of j k) (hc.1 k (omega arith)) in
      omega (arith, i, l)

  -- one term more fits
  pub room : (k : ℕ) → k < 6 → lifted_sum c j k + get_or c k 0 * weight_of j k ≤ 4398046511104000000
  unfolding lifted_sum
  room k h =
      let b = sum_bound (suc k) h in
      let g = partial_grows j (suc k) 6 h in
      omega (arith, b, g, partial_all j hj)

  pub sum_fits : lifted_sum c j 6 ≤ 4398046511104000000
  sum_fits = omega (arith, sum_bound 6 (omega arith), partial_all j hj)

-- the same with a list that is the table
module _ (weights c : List ℕ) (j : ℕ) (is : weights ≡ weight_table) (hj : j ≤ 256) (hc : Lifted c) where
  at_table : (k : ℕ) → k < 6 → get_or weights (6 * j + k) 0 ≡ weight_of j k
  at_table k h = ap (λ (l : List ℕ). get_or l (6 * j + k) 0) is ∙ weight_at_law j k hj h

  pub index_fits : (k : ℕ) → k < 6 → 6 * j + k < length weights
  index_fits k h = rw (is, weights_length) (omega arith)

  pub product_fits : (k : ℕ) → k < 6 → get_or c k 0 * get_or weights (6 * j + k) 0 ≤ 4398046511104000000
  product_fits k h = rw (at_table k h) (omega (arith, room c j hj hc k h))

  pub sum_room : (k s : ℕ) → k < 6 → s ≡ 549755813888 + lifted_sum c j k
      → s + get_or c k 0 * get_or weights (6 * j + k) 0 ≤ 4398047060859813888
  sum_room k s h e = rw (at_table k h) (omega (arith, e, room c j hj hc k h))

  pub sum_next : (k s : ℕ) → k < 6 → s ≡ 549755813888 + lifted_sum c j k
      → s + get_or c k 0 * get_or weights (6 * j + k) 0 ≡ 549755813888 + lifted_sum c j (k + 1)
  unfolding lifted_sum
  sum_next k s h e = rw (at_table k h, add-one) (omega (arith, e))

-- a control as it stands
pub lowered_at : (c : List ℕ) (k : ℕ) → k < length c → get_or (map lowered c) k (pos 0) ≡ lowered (get_or c k 0)
lowered_at [] k h = absurd (omega arith)
lowered_at (x ∷ c) zero h = refl
lowered_at (x ∷ c) (suc k) h = lowered_at c k (omega arith)

-- the two sums lie 2,000,000 times the weights apart
sums_apart : (c : List ℕ) (j k : ℕ) → k ≤ length c → weighted (map lowered c) j k ≡ pos (lifted_sum c j k) -ℤ pos (2000000 * partial j k)
unfolding weighted lifted_sum partial
sums_apart c j zero h = refl
sums_apart c j (suc k) h =
    let n = get_or c k 0 in
    let w = weight_of j k in
    ap (λ (x : ℤ). x +ℤ get_or (map lowered c) k (pos 0) *ℤ pos w) (sums_apart c j k (omega arith))
    ∙ ap (λ (x : ℤ). pos (lifted_sum c j k) -ℤ pos (2000000 * partial j k) +ℤ x *ℤ pos w) (lowered_at c k (omega arith))
    ∙ solve integer_ring (pos (lifted_sum c j k) ∷ pos (partial j k) ∷ pos n ∷ pos w ∷ [])
    ((v0 ⊕ opposite (con (pos 2000000) ⊗ v1)) ⊕ (v2 ⊕ opposite (con (pos 2000000))) ⊗ v3)
    ((v0 ⊕ v2 ⊗ v3) ⊕ opposite (con (pos 2000000) ⊗ (v1 ⊕ v3))) tt

-- a number that lies q above 2,000,000, or below it
pub lowered_above : (r q : ℕ) → r ≡ 2000000 + q → lowered r ≡ pos q
lowered_above r q e =
    ap lowered e ∙ solve integer_ring (pos q ∷ []) ((con (pos 2000000) ⊕ v0) ⊕ opposite (con (pos 2000000))) v0 tt

pub lowered_below : (r q : ℕ) → r + q ≡ 2000000 → lowered r ≡ neg_ℤ (pos q)
lowered_below r q e =
    ap (λ (b : ℕ). pos r -ℤ pos b) (sym e) ∙ solve integer_ring (pos r ∷ pos q ∷ []) (v0 ⊕ opposite (v0 ⊕ v1)) (opposite v1) tt

-- rounded away from zero, as the code has it: half is added, one less below 0
rounds : (s b : ℕ) → b ≡ cond (ltb s 2199023255552000000) 1 0
    → lowered ((s + 549755813888 - b) / 1099511627776) ≡ nearest_whole (pos s -ℤ pos 2199023255552000000) 1099511627776
rounds s b e = go (ltb s 2199023255552000000) (ltb→lt s 2199023255552000000) (nltb→le s 2199023255552000000) e
  where
    go : (t : Bool) → (T t → s < 2199023255552000000) → (T (not t) → 2199023255552000000 ≤ s) → b ≡ cond t 1 0
        → lowered ((s + 549755813888 - b) / 1099511627776)
        ≡ nearest_whole (cond t (negsuc (2199023255552000000 - suc s)) (pos (s - 2199023255552000000))) 1099511627776
    go true f g e =
        let h = f tt in
        lowered_below ((s + 549755813888 - b) / 1099511627776)
        ((2 * suc (2199023255552000000 - suc s) + 1099511627776) / (2 * 1099511627776)) (omega (arith, e, h))
    go false f g e =
        let h = g tt in
        lowered_above ((s + 549755813888 - b) / 1099511627776)
        ((2 * (s - 2199023255552000000) + 1099511627776) / (2 * 1099511627776)) (omega (arith, e, h))

-- a sum with half of 2 ^ 40 added is below 0 where the sum is
same_side : (s t : ℕ) → t ≡ 549755813888 + s → ltb t 2199023805307813888 ≡ ltb s 2199023255552000000
same_side s t e = elim (dec_lt s 2199023255552000000) [
  | yes l ↦ lt-ltb t 2199023805307813888 (omega (arith, e)) ∙ sym (lt-ltb s 2199023255552000000 l)
  | no l ↦ le-ltb t 2199023805307813888 (omega (arith, e)) ∙ sym (le-ltb s 2199023255552000000 (omega arith))
]

-- the height of lifted controls
pub lifted_height : (c : List ℕ) (j t b : ℕ) → j ≤ 256 → Lifted c → t ≡ 549755813888 + lifted_sum c j 6
    → b ≡ cond (ltb t 2199023805307813888) 1 0 → lowered ((t - b) / 1099511627776) ≡ height_of (map lowered c) j
lifted_height c j t b hj hc e g =
    let s = lifted_sum c j 6 in
    let p : 2000000 * partial j 6 ≡ 2199023255552000000 = omega (arith, partial_all j hj) in
    let q : t - b ≡ s + 549755813888 - b = omega (arith, e) in
    ap (λ (n : ℕ). lowered (n / 1099511627776)) q
    ∙ rounds s b (g ∙ ap (λ (x : Bool). cond x 1 0) (same_side s t e))
    ∙ ap (λ (z : ℤ). nearest_whole z 1099511627776)
    (ap (λ (n : ℕ). pos s -ℤ pos n) (sym p) ∙ sym (sums_apart c j 6 (omega (arith, hc.0))))

pub lifted_small : (t b : ℕ) → t ≤ 4398047060859813888 → (t - b) / 1099511627776 ≤ 4000000
lifted_small t b h = omega (arith, h)
