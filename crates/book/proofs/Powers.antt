-- The table of the code holds the Taylor coefficients: after level p, row r is N_{span-p+r,p} of the given span as a polynomial of y = ξ -
-- x.
use mathlib.Core.Path.{◌≡◌, refl, sym, ap, ◌∙◌}
use mathlib.Core.List.{List, [], ◌∷◌}
use Prim.Native.Nat.{ℕ, zero, suc, ◌+◌, ◌-◌, ◌*◌, ◌≤◌, ◌<◌}
use native.Mathlib.Omega.{arith}
use native.Mathlib.Nat.{ne_of_lt, ne_of_gt}
use native.Mathlib.Decide.{dec_lt}
use lib.ListN.{length, get_or, set, replicate, length-set, get_or-replicate}
use lib.Seq.{get_or-set_same, get_or-set_other}
use borrow.Author.Count.{below_more}
use borrow.Author.Tests.{lt-ltb}
use Rattle.arith.specs.Loop.{each, turns}
use Rattle.bspline.specs.Powers.{previous_of, expansion_turn, expand, put_turn, put_row, row_turn, degree_turn, powers_of, Expansion, Rows}
use Rattle.fraction.specs.Polynomial.{horner}
use Rattle.fraction.specs.Rational.{ℚ, ◌+q◌, ◌*q◌, inverse, 𝟘, 𝟙, ◌-q◌, ◌/q◌}
use Rattle.fraction.specs.RationalRing.{rational_ring}
use Rattle.fraction.specs.Ring.{var, ◌⊕◌, ◌⊖◌, ◌⊗◌, solve, combine, v0, v1, v2, v3, v4, v5, v6, v7, v8}
use Rattle.book.specs.Basis.{knot, basis, on_span}
use Rattle.book.specs.Fractions.{fractions}
use Rattle.arith.proofs.Loops.{each_runs}
use Rattle.book.proofs.Recurrence.{rising, basis_step, on_here, before_support, after_support}
use Rattle.book.proofs.Terms.{n0, n1, horner_term}

-- ---- a row of the table becomes `next`
record Put (b : List ℚ) (at : ℕ) (next : List ℚ) (n : ℕ) (r : List ℚ) : Type 0 where
  long : length r ≡ length b
  new : (k : ℕ) → k < n → get_or r (at + k) 𝟘 ≡ get_or next k 𝟘
  below : (q : ℕ) → q < at → get_or r q 𝟘 ≡ get_or b q 𝟘
  above : (q : ℕ) → at + 6 ≤ q → get_or r q 𝟘 ≡ get_or b q 𝟘

put_is : (b : List ℚ) (at : ℕ) (next : List ℚ) → at + 6 ≤ length b → Put b at next 6 (put_row fractions b at next)
unfolding put_row put_turn
put_is b at next h =
    each_runs (Put b at next) (put_turn fractions at next) 0 6 b (omega arith)
    (λ i r a z p.
    let v = get_or next i 𝟘 in
    let w : at + i < length r = rw p.long (omega arith) in
    record {
      long = length-set r (at + i) v ∙ p.long;
      new = below_more (λ (k : ℕ). get_or (set r (at + i) v) (at + k) 𝟘 ≡ get_or next k 𝟘) i
          (λ k g. get_or-set_other r (at + i) (at + k) v 𝟘 (ne_of_lt (omega arith)) ∙ p.new k g)
          (get_or-set_same r (at + i) v 𝟘 w);
      below = λ q g. get_or-set_other r (at + i) q v 𝟘 (ne_of_lt (omega arith)) ∙ p.below q g;
      above = λ q g. get_or-set_other r (at + i) q v 𝟘 (ne_of_gt (omega arith)) ∙ p.above q g;
    })
    (record { long = refl; new = λ k g. absurd (omega arith); below = λ q g. refl; above = λ q g. refl })

-- ---- the two rows that a turn makes, filled from the front: f k below n, and 0 from n on
record Filled (f : ℕ → ℚ) (n : ℕ) (l : List ℚ) : Type 0 where
  long : length l ≡ 6
  filled : (k : ℕ) → k < n → get_or l k 𝟘 ≡ f k
  none : (k : ℕ) → n ≤ k → k < 6 → get_or l k 𝟘 ≡ 𝟘

fill : (f : ℕ → ℚ) (n : ℕ) (l : List ℚ) (v : ℚ) → n < 6 → v ≡ f n → Filled f n l → Filled f (n + 1) (set l n v)
fill f n l v h e p =
    let w : n < length l = rw p.long h in
    record {
      long = length-set l n v ∙ p.long;
      filled = below_more (λ (k : ℕ). get_or (set l n v) k 𝟘 ≡ f k) n (λ k g. get_or-set_other l n k v 𝟘 (ne_of_lt g) ∙ p.filled k g)
          (get_or-set_same l n v 𝟘 w ∙ e);
      none = λ k g y. get_or-set_other l n k v 𝟘 (ne_of_gt (omega arith)) ∙ p.none k (omega arith) y;
    }

empty : (f : ℕ → ℚ) → Filled f 0 (replicate 6 𝟘)
empty f = record { long = refl; filled = λ k g. absurd (omega arith); none = λ k g y. get_or-replicate 6 k 𝟘 𝟘 y }

-- the coefficients c times i, moved up by one place
abbrev moved : (ℕ → ℚ) → ℚ → ℕ → ℚ
moved c i zero = 𝟘
moved c i (suc k) = c k *q i

prior_is : (b : List ℚ) (at k : ℕ) (den : ℚ) → previous_of fractions b at k den ≡ moved (λ j. get_or b (at + j) 𝟘) (inverse den) k
unfolding previous_of
prior_is b at zero den = refl
prior_is b at (suc k) den =
    let e : at + suc k - 1 ≡ at + k = omega arith in
    rw (lt-ltb 0 (suc k) (omega arith), e)

-- coefficient k of s + (r - y) i c, and of (l + y) i c, where s and c are polynomials of y
abbrev next_at : (ℕ → ℚ) → (ℕ → ℚ) → ℚ → ℚ → ℕ → ℚ
next_at c s r i k = s k +q r *q (c k *q i) -q moved c i k

abbrev upper_at : (ℕ → ℚ) → ℚ → ℚ → ℕ → ℚ
upper_at c l i k = l *q (c k *q i) +q moved c i k

module _ (b : List ℚ) (at : ℕ) (saved : List ℚ) (left right : ℚ) where
  abbrev cells : ℕ → ℚ
  cells j = get_or b (at + j) 𝟘

  abbrev iv : ℚ
  iv = inverse (left +q right)

  record Blend (n : ℕ) (s : Expansion ℚ) : Type 0 where
    next : Filled (next_at cells (λ j. get_or saved j 𝟘) right iv) n s.next
    upper : Filled (upper_at cells left iv) n s.upper

  blend_is : (j : ℕ) → j < 6 → Blend (j + 1) (expand fractions b at saved left right j)
  unfolding expand expansion_turn
  blend_is j h =
      each_runs Blend (expansion_turn fractions b at saved left right) 0 (j + 1) _ (omega arith)
      (λ i s a z p.
      let e = prior_is b at i (left +q right) in
      record {
        next = fill _ i s.next _ (omega arith) (ap (λ (q : ℚ). get_or saved i 𝟘 +q right *q (get_or b (at + i) 𝟘 /q (left +q right)) -q q) e)
            p.next;
        upper = fill _ i s.upper _ (omega arith) (ap (λ (q : ℚ). left *q (get_or b (at + i) 𝟘 /q (left +q right)) +q q) e) p.upper;
      })
      (record { next = empty _; upper = empty _ })

-- ---- polynomials of degree below 6, by their coefficients
horner_ap : (c d : ℕ → ℚ) (y : ℚ) → ((k : ℕ) → k < 6 → c k ≡ d k) → horner rational_ring 5 c y ≡ horner rational_ring 5 d y
horner_ap c d y h = rw (h 0 (omega arith), h 1 (omega arith), h 2 (omega arith), h 3 (omega arith), h 4 (omega arith), h 5 (omega arith))

-- what the two rows are as polynomials
upper_horner : (c : ℕ → ℚ) (l i y : ℚ) → c 5 ≡ 𝟘 → horner rational_ring 5 (upper_at c l i) y ≡ (l +q y) *q i *q horner rational_ring 5 c y
upper_horner c l i y z =
    combine rational_ring (c 0 ∷ c 1 ∷ c 2 ∷ c 3 ∷ c 4 ∷ c 5 ∷ y ∷ l ∷ i ∷ [])
    (horner_term v6 (v7 ⊗ (v0 ⊗ v8) ⊕ n0) (v7 ⊗ (v1 ⊗ v8) ⊕ v0 ⊗ v8) (v7 ⊗ (v2 ⊗ v8) ⊕ v1 ⊗ v8) (v7 ⊗ (v3 ⊗ v8) ⊕ v2 ⊗ v8)
    (v7 ⊗ (v4 ⊗ v8) ⊕ v3 ⊗ v8) (v7 ⊗ (v5 ⊗ v8) ⊕ v4 ⊗ v8))
    ((v7 ⊕ v6) ⊗ v8 ⊗ horner_term v6 v0 v1 v2 v3 v4 v5) (n0 ⊖ v6 ⊗ v6 ⊗ v6 ⊗ v6 ⊗ v6 ⊗ v6 ⊗ v8) v5 n0 tt z

next_horner : (c s : ℕ → ℚ) (r i y : ℚ) → c 5 ≡ 𝟘 → horner rational_ring 5 (next_at c s r i) y
    ≡ horner rational_ring 5 s y +q (r -q y) *q i *q horner rational_ring 5 c y
next_horner c s r i y z =
    combine rational_ring (c 0 ∷ c 1 ∷ c 2 ∷ c 3 ∷ c 4 ∷ c 5 ∷ y ∷ r ∷ i ∷ s 0 ∷ s 1 ∷ s 2 ∷ s 3 ∷ s 4 ∷ s 5 ∷ [])
    (horner_term v6 (var 9 ⊕ v7 ⊗ (v0 ⊗ v8) ⊖ n0) (var 10 ⊕ v7 ⊗ (v1 ⊗ v8) ⊖ v0 ⊗ v8) (var 11 ⊕ v7 ⊗ (v2 ⊗ v8) ⊖ v1 ⊗ v8)
    (var 12 ⊕ v7 ⊗ (v3 ⊗ v8) ⊖ v2 ⊗ v8) (var 13 ⊕ v7 ⊗ (v4 ⊗ v8) ⊖ v3 ⊗ v8) (var 14 ⊕ v7 ⊗ (v5 ⊗ v8) ⊖ v4 ⊗ v8))
    (horner_term v6 (var 9) (var 10) (var 11) (var 12) (var 13) (var 14) ⊕ (v7 ⊖ v6) ⊗ v8 ⊗ horner_term v6 v0 v1 v2 v3 v4 v5)
    (v6 ⊗ v6 ⊗ v6 ⊗ v6 ⊗ v6 ⊗ v6 ⊗ v8) v5 n0 tt z

-- ---- the levels
module _ (t : List ℚ) (span : ℕ) (x : ℚ) (five : 5 ≤ span) where
  abbrev T : ℕ → ℚ
  T i = knot t i

  abbrev first : ℕ → ℚ
  first = on_span span

  -- the coefficients c are those of N_{m,p} about x
  record Expands (p m : ℕ) (c : ℕ → ℚ) : Type 0 where
    degree : (k : ℕ) → p < k → k < 6 → c k ≡ 𝟘
    value : (y : ℚ) → horner rational_ring 5 c y ≡ basis T first (x +q y) p m

  expands_ap : {p m : ℕ} (c d : ℕ → ℚ) → ((k : ℕ) → k < 6 → c k ≡ d k) → Expands p m d → Expands p m c
  expands_ap c d h q = record { degree = λ k a z. h k z ∙ q.degree k a z; value = λ y. horner_ap c d y h ∙ q.value y }

  -- within level p + 1, before turn r
  record Turn (p r : ℕ) (s : Rows ℚ) : Type 0 where
    long : length s.rows ≡ 36
    done : (i m : ℕ) → i < r → m + suc p ≡ span + i → Expands (suc p) m (λ k. get_or s.rows (6 * i + k) 𝟘)
    todo : (i m : ℕ) → r ≤ i → i ≤ p → m + p ≡ span + i → Expands p m (λ k. get_or s.rows (6 * i + k) 𝟘)
    saved_degree : (k : ℕ) → suc p < k → k < 6 → get_or s.saved k 𝟘 ≡ 𝟘
    saved_value : (m : ℕ) (y : ℚ) → m + suc p ≡ span + r → horner rational_ring 5 (λ k. get_or s.saved k 𝟘) y ≡ rising T first (x +q y) p m

  module _ (p : ℕ) (p5 : p < 5) where
    -- a turn makes row i, and what the next row gets from it
    lift_keeps : (i : ℕ) (s : Rows ℚ) → i < suc p → Turn p i s → Turn p (i + 1) (row_turn fractions t span x (suc p) i s)
    unfolding row_turn
    lift_keeps i s h q =
        let b = s.rows in
        let m = span + 1 - suc p + i in
        let m' = span + i - suc p in
        let up : m ≡ m' + 1 = omega arith in
        let left : ℚ = x -q knot t (span + 1 - suc p + i) in
        let right : ℚ = knot t (span + i + 1) -q x in
        let c : ℕ → ℚ = λ k. get_or b (6 * i + k) 𝟘 in
        let o : ℕ → ℚ = λ k. get_or s.saved k 𝟘 in
        let bl = blend_is b (6 * i) s.saved left right (suc p) (omega arith) in
        let r = expand fractions b (6 * i) s.saved left right (suc p) in
        let pt = put_is b (6 * i) r.next (rw q.long (omega arith)) in
        let ic : Expands p m c = q.todo i m (omega arith) (omega arith) (omega arith) in
        let i' : ℚ = inverse (left +q right) in
        let c5 : c 5 ≡ 𝟘 = ic.degree 5 (omega arith) (omega arith) in
        let next_all : (k : ℕ) → k < 6 → get_or r.next k 𝟘 ≡ next_at c o right i' k =
        λ k z. elim (dec_lt k (suc p + 1)) [
          | yes l ↦ bl.next.filled k l
          | no g ↦ bl.next.none k (omega arith) z ∙ sym (zero_next c o right i' k (ic.degree k (omega arith) z)
              (q.saved_degree k (omega arith) z) (λ j e. ic.degree j (omega arith) (omega arith)))
        ] in
        let upper_all : (k : ℕ) → k < 6 → get_or r.upper k 𝟘 ≡ upper_at c left i' k =
        λ k z. elim (dec_lt k (suc p + 1)) [
          | yes l ↦ bl.upper.filled k l
          | no g ↦ bl.upper.none k (omega arith) z ∙ sym (zero_upper c left i' k (ic.degree k (omega arith) z)
              (λ j e. ic.degree j (omega arith) (omega arith)))
        ] in
        let di : knot t (span + i + 1) ≡ T (m + suc p) = ap T (omega arith) in
        record {
          long = pt.long ∙ q.long;
          done = λ j n g e. below_more (λ (j : ℕ). (n : ℕ) → n + suc p ≡ span + j → Expands (suc p) n (λ k. get_or
              (put_row fractions b (6 * i) r.next) (6 * j + k) 𝟘)) i
              (λ j g n e. expands_ap _ (λ k. get_or b (6 * j + k) 𝟘) (λ k z. pt.below (6 * j + k) (omega arith)) (q.done j n g e))
              (λ n e. record {
                degree = λ k a z. pt.new k z ∙ bl.next.none k (omega arith) z;
                value = λ y.
                    let en : n ≡ m' = omega arith in
                    horner_ap _ (λ k. get_or r.next k 𝟘) y (λ k z. pt.new k z)
                    ∙ horner_ap (λ k. get_or r.next k 𝟘) (next_at c o right i') y next_all
                    ∙ next_horner c o right i' y c5
                    ∙ ap (λ (z : ℚ). z +q (right -q y) *q i' *q horner rational_ring 5 c y) (q.saved_value m' y (omega arith))
                    ∙ ap (λ (z : ℚ). rising T first (x +q y) p m' +q (right -q y) *q i' *q z) (ic.value y)
                    ∙ ap (λ (z : ℚ). rising T first (x +q y) p m' +q z) (fall_is x y (T m) (knot t (span + i + 1))
                    (basis T first (x +q y) p m) ∙ rw (di, up))
                    ∙ sym (basis_step T first (x +q y) p m')
                    ∙ ap (basis T first (x +q y) (suc p)) (sym en);
              }) j g n e;
          todo = λ j n g l e. expands_ap _ (λ k. get_or b (6 * j + k) 𝟘) (λ k z. pt.above (6 * j + k) (omega arith))
              (q.todo j n (omega arith) l e);
          saved_degree = λ k a z. bl.upper.none k (omega arith) z;
          saved_value = λ n y e.
              let en : m ≡ n = omega arith in
              horner_ap (λ k. get_or r.upper k 𝟘) (upper_at c left i') y upper_all
              ∙ upper_horner c left i' y c5
              ∙ ap (λ (z : ℚ). (left +q y) *q i' *q z) (ic.value y)
              ∙ rise_is x y (T m) (knot t (span + i + 1)) (basis T first (x +q y) p m) ∙ rw di (ap (rising T first (x +q y) p) en);
        }
      where
        zero_moved : (c : ℕ → ℚ) (i : ℚ) (k : ℕ) → ((j : ℕ) → suc j ≡ k → c j ≡ 𝟘) → moved c i k ≡ 𝟘
        zero_moved c i zero h = refl
        zero_moved c i (suc k) h = rw (h k refl) (solve rational_ring (i ∷ []) (n0 ⊗ v0) n0 tt)

        zero_next : (c s : ℕ → ℚ) (r i : ℚ) (k : ℕ) → c k ≡ 𝟘 → s k ≡ 𝟘 → ((j : ℕ) → suc j ≡ k → c j ≡ 𝟘) → next_at c s r i k ≡ 𝟘
        zero_next c s r i k a z h = rw (a, z, zero_moved c i k h) (solve rational_ring (r ∷ i ∷ []) (n0 ⊕ v0 ⊗ (n0 ⊗ v1) ⊖ n0) n0 tt)

        zero_upper : (c : ℕ → ℚ) (l i : ℚ) (k : ℕ) → c k ≡ 𝟘 → ((j : ℕ) → suc j ≡ k → c j ≡ 𝟘) → upper_at c l i k ≡ 𝟘
        zero_upper c l i k a h = rw (a, zero_moved c i k h) (solve rational_ring (l ∷ i ∷ []) (v0 ⊗ (n0 ⊗ v1) ⊕ n0) n0 tt)

        -- the code divides by left + right, x - a and b - x: that is b - a
        den : (x a b : ℚ) → x -q a +q (b -q x) ≡ b -q a
        den x a b = solve rational_ring (x ∷ a ∷ b ∷ []) (v0 ⊖ v1 ⊕ (v2 ⊖ v0)) (v2 ⊖ v1) tt

        fall_is : (x y a b n : ℚ) → (b -q x -q y) *q inverse (x -q a +q (b -q x)) *q n ≡ (b -q (x +q y)) /q (b -q a) *q n
        fall_is x y a b n = ap (λ (z : ℚ). (b -q x -q y) *q inverse z *q n) (den x a b) ∙ solve rational_ring (x ∷ y ∷ b ∷ inverse (b -q a) ∷
            n ∷ []) ((v2 ⊖ v0 ⊖ v1) ⊗ v3 ⊗ v4) ((v2 ⊖ (v0 ⊕ v1)) ⊗ v3 ⊗ v4) tt

        rise_is : (x y a b n : ℚ) → (x -q a +q y) *q inverse (x -q a +q (b -q x)) *q n ≡ (x +q y -q a) /q (b -q a) *q n
        rise_is x y a b n = ap (λ (z : ℚ). (x -q a +q y) *q inverse z *q n) (den x a b) ∙ solve rational_ring (x ∷ y ∷ a ∷ inverse (b -q a) ∷
            n ∷ []) ((v0 ⊖ v2 ⊕ v1) ⊗ v3 ⊗ v4) ((v0 ⊕ v1 ⊖ v2) ⊗ v3 ⊗ v4) tt

    level_is : (b : List ℚ) → length b ≡ 36 → ((i m : ℕ) → i ≤ p → m + p ≡ span + i → Expands p m (λ k. get_or b (6 * i + k) 𝟘))
        → (length (degree_turn fractions t span x (suc p) b) ≡ 36) × ((i m : ℕ) → i ≤ suc p → m + suc p ≡ span + i → Expands (suc p) m
        (λ k. get_or (degree_turn fractions t span x (suc p) b) (6 * i + k) 𝟘))
    unfolding degree_turn
    level_is b long rows =
        let z = replicate 6 𝟘 in
        let none : (n : ℕ) (y : ℚ) → n + suc p ≡ span → basis T first (x +q y) p n ≡ 𝟘 = λ n y g. after_support T span (x +q y) p n (omega
        arith) in
        let over : (y : ℚ) → basis T first (x +q y) p (span + 1) ≡ 𝟘 = λ y. before_support T span (x +q y) p (span + 1) (omega arith) in
        let s = each (row_turn fractions t span x (suc p)) 0 (suc p) (record { rows = b; saved = z }) in
        let q : Turn p (suc p) s =
        each_runs (Turn p) (row_turn fractions t span x (suc p)) 0 (suc p) (record { rows = b; saved = z }) (omega arith)
        (λ j s a z y. lift_keeps j s z y)
        (record {
          long = long;
          done = λ j n a y. absurd (omega arith);
          todo = λ j n a z y. rows j n z y;
          saved_degree = λ k a l. get_or-replicate 6 k 𝟘 𝟘 l;
          saved_value = λ n y e.
              solve rational_ring (y ∷ []) (horner_term v0 n0 n0 n0 n0 n0 n0) n0 tt
              ∙ sym (rw (none n y (omega arith)) (solve rational_ring (((x +q y -q T n) /q (T (n + suc p) -q T n)) ∷ []) (v0 ⊗ n0) n0 tt));
        }) in
        let pt = put_is s.rows (6 * suc p) s.saved (rw q.long (omega arith)) in (
          pt.long ∙ q.long,
          λ i m h e. below_more (λ (j : ℕ). (n : ℕ) → n + suc p ≡ span + j → Expands (suc p) n (λ k. get_or
              (put_row fractions s.rows (6 * suc p) s.saved) (6 * j + k) 𝟘)) (suc p)
              (λ j g n e. expands_ap _ (λ k. get_or s.rows (6 * j + k) 𝟘) (λ k z. pt.below (6 * j + k) (omega arith)) (q.done j n g e))
              (λ n e. record {
                degree = λ k a z. pt.new k z ∙ q.saved_degree k a z;
                value = λ y.
                    let en : n + 1 ≡ span + 1 = omega arith in
                    horner_ap _ (λ k. get_or s.saved k 𝟘) y (λ k z. pt.new k z)
                    ∙ q.saved_value n y e
                    ∙ sym (basis_step T first (x +q y) p n ∙ rw (en, over y)
                    (solve rational_ring (rising T first (x +q y) p n ∷ ((T (span + 1 + suc p) -q (x +q y)) /q
                    (T (span + 1 + suc p) -q T (span + 1))) ∷ []) (v0 ⊕ v1 ⊗ n0) v0 tt));
              }) i (omega arith) m e,
        )

  -- after level 5
  rows_are : (i : ℕ) → i < 6 → Expands 5 (span - 5 + i) (λ k. get_or (powers_of fractions t span x) (6 * i + k) 𝟘)
  unfolding powers_of each turns basis
  rows_are i h =
      let z = set (replicate 36 𝟘) 0 𝟙 in
      let start : (i m : ℕ) → i ≤ 0 → m + 0 ≡ span + i → Expands 0 m (λ k. get_or z (6 * i + k) 𝟘) = λ i m a e. first_is i m a e in
      let go : ℕ → List ℚ → List ℚ = λ j b. degree_turn fractions t span x j b in
      let l1 = level_is 0 (omega arith) z refl start in
      let l2 = level_is 1 (omega arith) (go 1 z) l1.0 l1.1 in
      let l3 = level_is 2 (omega arith) (go 2 (go 1 z)) l2.0 l2.1 in
      let l4 = level_is 3 (omega arith) (go 3 (go 2 (go 1 z))) l3.0 l3.1 in
      (level_is 4 (omega arith) (go 4 (go 3 (go 2 (go 1 z)))) l4.0 l4.1).1 i (span - 5 + i) (omega arith) (omega arith)
    where
      later : (k : ℕ) → 0 < k → k < 6 → get_or (set (replicate 36 𝟘) 0 𝟙) (6 * 0 + k) 𝟘 ≡ 𝟘
      later k a h = get_or-set_other (replicate 36 𝟘) 0 (6 * 0 + k) 𝟙 𝟘 (ne_of_gt (omega arith))
          ∙ get_or-replicate 36 (6 * 0 + k) 𝟘 𝟘 (omega arith)

      first_is : (i m : ℕ) → i ≤ 0 → m + 0 ≡ span + i → Expands 0 m (λ k. get_or (set (replicate 36 𝟘) 0 𝟙) (6 * i + k) 𝟘)
      first_is zero m a e = record {
        degree = λ k g l. later k g l;
        value = λ y. solve rational_ring (y ∷ []) (horner_term v0 n1 n0 n0 n0 n0 n0) n1 tt ∙ sym (ap (on_span span) (omega arith) ∙ on_here
            span);
      }
      first_is (suc i) m a e = absurd (omega arith)

  -- row i as a polynomial: N_{span-5+i,5} of the span, at x + y for every y
  pub row_is : (i : ℕ) → i < 6 → (y : ℚ) → horner rational_ring 5 (λ k. get_or (powers_of fractions t span x) (6 * i + k) 𝟘) y
      ≡ basis (knot t) (on_span span) (x +q y) 5 (span - 5 + i)
  row_is i h = (rows_are i h).value
