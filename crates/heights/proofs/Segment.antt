-- Over exact fractions the six controls of a segment are those of its polynomial: what lies between the curve of the stored
-- coefficients and its controls is rounding alone.
use mathlib.Core.Path.{◌≡◌, ap, ◌∙◌}
use mathlib.Core.List.{List, [], ◌∷◌}
use lib.IntN.{pos}
use lib.ListN.{get_or}
use Rattle.float.specs.Power.{power_of}
use Rattle.fraction.specs.Bernstein.{bernstein_form}
use Rattle.fraction.specs.Polynomial.{polynomial}
use Rattle.fraction.specs.Rational.{ℚ, ◌+q◌, ◌-q◌, ◌*q◌, ◌/q◌, inverse, ◌<q◌, 𝟘, 𝟙}
use Rattle.fraction.specs.RationalRing.{rational_ring}
use Rattle.fraction.specs.Ring.{◌⊕◌, ◌⊖◌, ◌⊗◌, con, solve, v0, v1}
use Rattle.fraction.proofs.Inverse.{inverse_is}
use Rattle.fraction.proofs.Rational.{difference_above}
use Rattle.polynomial.specs.Piece.{bernstein_coefficients, bernstein_of, curve_form, error_of, piece_from, piece_power, piece_powers}
use Rattle.book.specs.Fractions.{fractions}
use Rattle.book.proofs.Audit.{piece_is}
use Rattle.heights.specs.Controls.{segment_form_over}

less_nothing : (x : ℚ) → x ≡ x -q 𝟘
less_nothing x = solve rational_ring (x ∷ []) v0 (v0 ⊖ con (pos 0)) tt

-- the powers of a piece are those less the line that is 0
powers_plain : (p : List ℚ) (u w : ℚ) → piece_powers fractions (power_of fractions) p u w ≡ error_of fractions (power_of fractions) p u w 𝟘 𝟘
unfolding piece_powers error_of
powers_plain p u w =
    let f = piece_power fractions (power_of fractions) p u w in
    ap (λ (x : ℚ). x ∷ f 1 ∷ f 2 ∷ f 3 ∷ f 4 ∷ f 5 ∷ []) (less_nothing (f 0))
    ∙ ap (λ (x : ℚ). (f 0 -q 𝟘) ∷ x ∷ f 2 ∷ f 3 ∷ f 4 ∷ f 5 ∷ []) (less_nothing (f 1))

form_is : (p : List ℚ) (u w y : ℚ) → bernstein_form rational_ring 5 (λ k. get_or (curve_form fractions (power_of fractions) p u w) k 𝟘) y
    ≡ polynomial rational_ring 5 (λ k. get_or p k 𝟘) (u +q w *q y) -q (𝟘 +q 𝟘 *q y)
unfolding curve_form bernstein_coefficients
form_is p u w y =
    ap (λ (q : List ℚ). bernstein_form rational_ring 5 (bernstein_of fractions q) y) (powers_plain p u w) ∙ piece_is p u w 𝟘 𝟘 y

-- the whole segment: u is 0, and w is 1
pub controls_exact : (p : List ℚ) (a b y : ℚ) → a <q b
    → bernstein_form rational_ring 5 (λ k. get_or (segment_form_over fractions (power_of fractions) a b p) k 𝟘) y
    ≡ polynomial rational_ring 5 (λ k. get_or p k 𝟘) y
unfolding segment_form_over piece_from
controls_exact p a b y h =
    let u : ℚ = (a -q a) /q (b -q a) in
    let w : ℚ = (b -q a) /q (b -q a) in
    let z : u ≡ 𝟘 = solve rational_ring (a ∷ inverse (b -q a) ∷ []) ((v0 ⊖ v0) ⊗ v1) (con (pos 0)) tt in
    let e : w ≡ 𝟙 = inverse_is (b -q a) (difference_above a b h) in
    form_is p u w y
    ∙ ap (λ (u : ℚ). polynomial rational_ring 5 (λ k. get_or p k 𝟘) (u +q w *q y) -q (𝟘 +q 𝟘 *q y)) z
    ∙ ap (λ (w : ℚ). polynomial rational_ring 5 (λ k. get_or p k 𝟘) (𝟘 +q w *q y) -q (𝟘 +q 𝟘 *q y)) e
    ∙ ap (λ (x : ℚ). polynomial rational_ring 5 (λ k. get_or p k 𝟘) x -q (𝟘 +q 𝟘 *q y))
    (solve rational_ring (y ∷ []) (con (pos 0) ⊕ con (pos 1) ⊗ v0) v0 tt)
    ∙ solve rational_ring (polynomial rational_ring 5 (λ k. get_or p k 𝟘) y ∷ y ∷ []) (v0 ⊖ (con (pos 0) ⊕ con (pos 0) ⊗ v1)) v0 tt
