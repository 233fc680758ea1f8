-- On a span wider than 0 every divisor of the steps is above 0. So it does not matter what a quotient by 0 is: with any division that is
-- the quotient for divisors above 0 the steps give the same.
use mathlib.Core.Path.{◌≡◌, refl, ap, ◌∙◌, subst}
use mathlib.Core.List.{List, [], ◌∷◌}
use Prim.Native.Nat.{ℕ, suc, ◌+◌, ◌-◌, ◌*◌, ◌≤◌, ◌<◌}
use native.Mathlib.Omega.{arith}
use lib.ListN.{length, get_or, set, replicate}
use Rattle.arith.specs.Loop.{each, turns}
use Rattle.arith.specs.Operations.{Arith}
use Rattle.bspline.specs.Insertion.{alpha_of}
use Rattle.bspline.specs.Powers.{previous_of, expansion_turn, expand, put_turn, put_row, row_turn, degree_turn, powers_of, Expansion}
use Rattle.bspline.specs.Values.{inner_turn, inner_loop, outer_turn, values_of, Inner, Outer}
use Rattle.fraction.proofs.Rational.{difference_above}
use Rattle.fraction.specs.Rational.{ℚ, ◌+q◌, Above, 𝟘, 𝟙, ◌<q◌, ◌-q◌, ◌/q◌}
use Rattle.fraction.specs.RationalRing.{rational_ring}
use Rattle.fraction.specs.Ring.{◌⊕◌, ◌⊖◌, solve, v0, v1, v2}
use Rattle.book.specs.Basis.{knot, Nondecreasing}
use Rattle.book.specs.Fractions.{fractions, fractions_by}
use Rattle.arith.proofs.Loops.{each_same}
use Rattle.book.proofs.Order.{wider}
use Rattle.book.proofs.Values.{Level, step_is, start}

module _ (divide : ℚ → ℚ → ℚ) (agree : (a b : ℚ) → Above b → divide a b ≡ a /q b) where
  abbrev any : Arith ℚ
  any = fractions_by divide

  -- ---- the steps, where their divisors are above 0
  turn_any : (l r : List ℚ) (j i : ℕ) (k : Inner ℚ) → Above (get_or r (i + 1) 𝟘 +q get_or l (j - i) 𝟘) → inner_turn any l r j i k
      ≡ inner_turn fractions l r j i k
  unfolding inner_turn
  turn_any l r j i k h = rw (agree (get_or k.row i 𝟘) (get_or r (i + 1) 𝟘 +q get_or l (j - i) 𝟘) h)

  row_any : (l r : List ℚ) (j : ℕ) (b : List ℚ) → ((i : ℕ) → i < j → Above (get_or r (i + 1) 𝟘 +q get_or l (j - i) 𝟘)) → inner_loop any l r j b
      ≡ inner_loop fractions l r j b
  unfolding inner_loop
  row_any l r j b h =
      rw (each_same (inner_turn any l r j) (inner_turn fractions l r j) 0 j (record { row = b; saved = 𝟘 })
      (λ i k l' a. turn_any l r j i k (h i a)))

  coef_any : (b : List ℚ) (at : ℕ) (saved : List ℚ) (left right : ℚ) (k : ℕ) (s : Expansion ℚ) → Above (left +q right)
      → expansion_turn any b at saved left right k s ≡ expansion_turn fractions b at saved left right k s
  unfolding expansion_turn previous_of
  coef_any b at saved left right k s h = rw (agree (get_or b (at + k) 𝟘) (left +q right) h, agree (get_or b (at + k - 1) 𝟘) (left +q right) h)

  blend_any : (b : List ℚ) (at : ℕ) (saved : List ℚ) (left right : ℚ) (j : ℕ) → Above (left +q right) → expand any b at saved left right j
      ≡ expand fractions b at saved left right j
  unfolding expand
  blend_any b at saved left right j h =
      each_same (expansion_turn any b at saved left right) (expansion_turn fractions b at saved left right) 0 (j + 1) _
      (λ k s l a. coef_any b at saved left right k s h)

  put_any : (b : List ℚ) (at : ℕ) (next : List ℚ) → put_row any b at next ≡ put_row fractions b at next
  unfolding put_row put_turn
  put_any b at next = refl

  module _ (t : List ℚ) (sorted : Nondecreasing (length t) (knot t)) (span : ℕ) (five : 5 ≤ span) (room : span + 5 < length t)
      (ok : knot t span <q knot t (span + 1)) (x : ℚ) where
    -- ---- the steps on the span: their divisors are widths of stretches of knots that hold it

    -- the width of a stretch of knots that holds the span
    width : (i j : ℕ) → i ≤ span → span < j → j ≤ span + 5 → Above (knot t j -q knot t i)
    width i j a b h = difference_above (knot t i) (knot t j) (wider (knot t) (length t) sorted span i j a b (omega arith) ok)

    level_any : (j : ℕ) (b : List ℚ) → 1 ≤ j → j ≤ 5 → degree_turn any t span x j b ≡ degree_turn fractions t span x j b
    unfolding degree_turn row_turn
    level_any j b l h =
        rw (
          each_same (row_turn any t span x j) (row_turn fractions t span x j) 0 j (record { rows = b; saved = replicate 6 𝟘 })
              (λ r s l a.
              let i = span + 1 - j + r in
              let e : knot t (span + r + 1) -q knot t i ≡ x -q knot t i +q (knot t (span + r + 1) -q x) = solve rational_ring
              (knot t i ∷ x ∷ knot t (span + r + 1) ∷ []) (v2 ⊖ v0) (v1 ⊖ v0 ⊕ (v2 ⊖ v1)) tt in
              rw (
                blend_any s.rows (6 * r) s.saved (x -q knot t i) (knot t (span + r + 1) -q x) j
                    (subst Above e (width i (span + r + 1) (omega arith) (omega arith) (omega arith))),
                put_any,
              )),
          put_any,
        )

    pub powers_any : powers_of any t span x ≡ powers_of fractions t span x
    unfolding powers_of each turns
    powers_any =
        let z = set (replicate 36 𝟘) 0 𝟙 in
        let go : ℕ → List ℚ → List ℚ = λ j b. degree_turn fractions t span x j b in
        rw (
          level_any 1 z (omega arith) (omega arith),
          level_any 2 (go 1 z) (omega arith) (omega arith),
          level_any 3 (go 2 (go 1 z)) (omega arith) (omega arith),
          level_any 4 (go 3 (go 2 (go 1 z))) (omega arith) (omega arith),
          level_any 5 (go 4 (go 3 (go 2 (go 1 z)))) (omega arith) (omega arith),
        )

    abbrev Lev : ℕ → Outer ℚ → Type 0
    Lev = Level t span x five

    step_any : (p : ℕ) (s : Outer ℚ) → p < 5 → Lev p s → outer_turn any t span x (suc p) s ≡ outer_turn fractions t span x (suc p) s
    unfolding outer_turn
    step_any p s h q =
        let n = step_is t span x five p s h q in
        let l = set s.left (suc p) (x -q knot t (span + 1 - suc p)) in
        let r = set s.right (suc p) (knot t (span + suc p) -q x) in
        rw (row_any l r (suc p) s.row
        (λ i a.
        let m = span + i - p in
        let el : get_or l (suc p - i) 𝟘 ≡ x -q knot t m = n.left (suc p - i) m (omega arith) (omega arith) (omega arith) in
        let er : get_or r (i + 1) 𝟘 ≡ knot t (span + (i + 1)) -q x = n.right (i + 1) (omega arith) (omega arith) in
        let e : knot t (span + (i + 1)) -q knot t m ≡ knot t (span + (i + 1)) -q x +q (x -q knot t m) = solve rational_ring
        (knot t m ∷ x ∷ knot t (span + (i + 1)) ∷ []) (v2 ⊖ v0) (v2 ⊖ v1 ⊕ (v1 ⊖ v0)) tt in
        rw (el, er) (subst Above e (width m (span + (i + 1)) (omega arith) (omega arith) (omega arith)))))

    pub values_any : values_of any t span x ≡ values_of fractions t span x
    unfolding values_of each turns
    values_any =
        let go : ℕ → Outer ℚ → Outer ℚ = λ j s. outer_turn fractions t span x j s in
        let up : (p : ℕ) (s : Outer ℚ) → p < 5 → Lev p s → Lev (suc p) (go (suc p) s) = step_is t span x five in
        let s0 : Outer ℚ = record { row = set (replicate 6 𝟘) 0 𝟙; left = replicate 6 𝟘; right = replicate 6 𝟘 } in
        let l0 : Lev 0 s0 = start t span x five in
        let l1 = up 0 s0 (omega arith) l0 in
        let l2 = up 1 (go 1 s0) (omega arith) l1 in
        let l3 = up 2 (go 2 (go 1 s0)) (omega arith) l2 in
        let l4 = up 3 (go 3 (go 2 (go 1 s0))) (omega arith) l3 in
        let an : ℕ → Outer ℚ → Outer ℚ = λ j s. outer_turn any t span x j s in
        ap (λ (s : Outer ℚ). (an 5 (an 4 (an 3 (an 2 s)))).row) (step_any 0 s0 (omega arith) l0)
        ∙ ap (λ (s : Outer ℚ). (an 5 (an 4 (an 3 s))).row) (step_any 1 (go 1 s0) (omega arith) l1)
        ∙ ap (λ (s : Outer ℚ). (an 5 (an 4 s)).row) (step_any 2 (go 2 (go 1 s0)) (omega arith) l2)
        ∙ ap (λ (s : Outer ℚ). (an 5 s).row) (step_any 3 (go 3 (go 2 (go 1 s0))) (omega arith) l3)
        ∙ ap (λ (s : Outer ℚ). s.row) (step_any 4 (go 4 (go 3 (go 2 (go 1 s0)))) (omega arith) l4)

    -- insertion divides only by such widths too
    pub alpha_any : (i : ℕ) → span < i + 5 → i ≤ span → alpha_of any t x i ≡ alpha_of fractions t x i
    alpha_any i b a = agree (x -q knot t i) (knot t (i + 5) -q knot t i) (width i (i + 5) a b (omega arith))
