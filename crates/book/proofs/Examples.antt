-- The definitions computed on worked examples of the book: they say what the book says.
use mathlib.Core.Path.{◌≡◌, refl}
use mathlib.Core.Bool.{Bool, true, false, ◌&&◌}
use mathlib.Core.List.{List, [], ◌∷◌}
use Prim.Native.Nat.{ℕ, suc}
use native.Mathlib.Omega.{arith}
use lib.IntN.{pos}
use lib.Dec.{T}
use std.Quotient.{cls}
use Rattle.fraction.specs.Rational.{ℚ, wholeq, ◌+q◌, ◌*q◌, negq, inverse, at_mostq, 𝟘, 𝟙}
use Rattle.book.specs.Basis.{knot, basis, half_open}
use Rattle.book.specs.Insertion.{alpha}
use Rattle.book.proofs.Order.{antisymmetric}

-- n / (d + 1)
abbrev ratio : ℕ → ℕ → ℚ
ratio n d = cls (record { numerator = pos n; denominator = suc d; positive = omega arith })

-- whether two lists are equal
abbrev pub all_equal : List ℚ → List ℚ → Bool
all_equal [] [] = true
all_equal [] (y ∷ k) = false
all_equal (x ∷ l) [] = false
all_equal (x ∷ l) (y ∷ k) = at_mostq x y && (at_mostq y x && all_equal l k)

-- the test is right
pub equal_lists : (l k : List ℚ) → T (all_equal l k) → l ≡ k
equal_lists [] [] h = refl
equal_lists [] (y ∷ k) h = absurd h
equal_lists (x ∷ l) [] h = absurd h
equal_lists (x ∷ l) (y ∷ k) h = go (equal_lists l k) (at_mostq x y) refl (at_mostq y x) refl h
  where
    go : (T (all_equal l k) → l ≡ k) → (a : Bool) → at_mostq x y ≡ a → (b : Bool) → at_mostq y x ≡ b → T (a && (b && all_equal l k)) → (x ∷ l)
        ≡ (y ∷ k)
    go rest true d true e h = rw (antisymmetric x y (rw d tt) (rw e tt), rest h)
    go rest true d false e h = absurd h
    go rest false d b e h = absurd h

-- section 2.2: p = 2, U = {0, 0, 0, 1, 1, 1}, u = 1/3. N_{0,1} is 0/0 times N_{0,0} plus 0 times N_{1,0}: 0. N_{0,2}, N_{1,2}, N_{2,2} are
-- (1 - u)^2, 2u(1 - u), u^2.
abbrev bezier : ℕ → ℕ → ℚ
bezier p i = basis (knot (𝟘 ∷ 𝟘 ∷ 𝟘 ∷ 𝟙 ∷ 𝟙 ∷ 𝟙 ∷ [])) (half_open (knot (𝟘 ∷ 𝟘 ∷ 𝟘 ∷ 𝟙 ∷ 𝟙 ∷ 𝟙 ∷ [])) (ratio 1 2)) (ratio 1 2) p i

bezier_basis : (bezier 1 0 ∷ bezier 2 0 ∷ bezier 2 1 ∷ bezier 2 2 ∷ []) ≡ (𝟘 ∷ ratio 4 8 ∷ ratio 4 8 ∷ ratio 1 8 ∷ [])
unfolding basis half_open at_mostq ◌+q◌ ◌*q◌ negq inverse
bezier_basis = equal_lists _ _ tt

-- section 2.5: p = 2, U = {0, 0, 0, 1, 2, 3, 4, 4, 5, 5, 5}, u = 5/2: N_{2,2}, N_{3,2}, N_{4,2} are 1/8, 6/8, 1/8
abbrev quadratic_knots : ℕ → ℚ
quadratic_knots = knot (𝟘 ∷ 𝟘 ∷ 𝟘 ∷ 𝟙 ∷ wholeq (pos 2) ∷ wholeq (pos 3) ∷ wholeq (pos 4) ∷ wholeq (pos 4) ∷ wholeq (pos 5) ∷ wholeq (pos 5) ∷
    wholeq (pos 5) ∷ [])

abbrev quadratic : ℕ → ℚ
quadratic i = basis quadratic_knots (half_open quadratic_knots (ratio 5 1)) (ratio 5 1) 2 i

quadratic_basis : (quadratic 1 ∷ quadratic 2 ∷ quadratic 3 ∷ quadratic 4 ∷ quadratic 5 ∷ [])
    ≡ (𝟘 ∷ ratio 1 7 ∷ ratio 6 7 ∷ ratio 1 7 ∷ 𝟘 ∷ [])
unfolding basis half_open at_mostq ◌+q◌ ◌*q◌ negq inverse
quadratic_basis = equal_lists _ _ tt

-- section 5.2: p = 3, U = {0, 0, 0, 0, 1, 2, 3, 4, 5, 5, 5, 5}, 5/2 goes into the span 5: α_2 to α_6 are 1, 5/6, 1/2, 1/6, 0
abbrev cubic_alpha : ℕ → ℚ
cubic_alpha i = alpha (knot (𝟘 ∷ 𝟘 ∷ 𝟘 ∷ 𝟘 ∷ 𝟙 ∷ wholeq (pos 2) ∷ wholeq (pos 3) ∷ wholeq (pos 4) ∷ wholeq (pos 5) ∷ wholeq (pos 5) ∷ wholeq
    (pos 5) ∷ wholeq (pos 5) ∷ [])) (ratio 5 1) 5 3 i

cubic_alphas : (cubic_alpha 2 ∷ cubic_alpha 3 ∷ cubic_alpha 4 ∷ cubic_alpha 5 ∷ cubic_alpha 6 ∷ [])
    ≡ (𝟙 ∷ ratio 5 5 ∷ ratio 1 1 ∷ ratio 1 5 ∷ 𝟘 ∷ [])
unfolding alpha at_mostq ◌+q◌ ◌*q◌ negq inverse
cubic_alphas = equal_lists _ _ tt
