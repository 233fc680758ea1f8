-- A figure that a caller is given is the one that is certified.
use mathlib.Core.Path.{◌≡◌, refl, sym, ◌∙◌}
use mathlib.Core.Bool.{Bool, true, false, true≢false}
use Prim.Native.Nat.{ℕ}
use borrow.Author.Tests.{eq-eqb}
use lib.Ieee.{Float}
use Rattle.certificate.specs.declared.certify.Refusal.{Refusal}
use Rattle.certificate.specs.declared.certify.Refusal.TheVariants.{TooDeep, AboveDomain, PointCells, BadPoints, BadParameters, BadRange, Malformed, NotSelected}
use Rattle.figure.specs.Figure.{Figure, figure, no_figure}
use Rattle.figure.specs.Certify.{outcome}
use Rattle.certificate.specs.Outcome.{refusal_number}
use Rattle.pamitoye.specs.Certificates.{given_after, figure_after}

-- the number n, what is given, g, and the figure z, where b and x stood before
pub given_figure : (k : ℕ) (f : Figure) (b : Bool) (x : Float) {n : ℕ} {g : Bool} {z : Float} → n ≡ k
    → g ≡ given_after k f b → z ≡ figure_after f x → n ≡ 0 → g ≡ true → outcome k f ≡ outcome 0 (figure z)
given_figure k (figure y) b x number given told fine there = λ i. outcome ((sym number ∙ fine) i) (figure (sym told i))
given_figure k no_figure b x {n} {g} number given told fine there =
    let e : g ≡ false = rw (eq-eqb k 0 (sym number ∙ fine)) at given in absurd (true≢false (sym there ∙ e))

-- a refusal leaves it as it was
pub given_kept : (r : Refusal) (b : Bool) → b ≡ given_after (refusal_number r) no_figure b
given_kept TooDeep b = refl
given_kept AboveDomain b = refl
given_kept PointCells b = refl
given_kept BadPoints b = refl
given_kept BadParameters b = refl
given_kept BadRange b = refl
given_kept Malformed b = refl
given_kept NotSelected b = refl
