-- Where an intersection's own figure is not above the largest so far, no depth makes a difference.
use mathlib.Core.Bool.{Bool, false, not, true}
use mathlib.Core.Path.{◌≡◌, refl, subst, sym}
use Prim.Native.Nat.{ℕ}
use native.Mathlib.Omega.{arith}
use lib.Dec.{T}
use lib.Ieee.{Float, fin, inf, lt, nan}
use lib.Ieee.Scale.{finite}
use Rattle.fraction.specs.Pair.{highest}
use Rattle.fraction.specs.Rational.{◌<q◌, ◌≤q◌}
use Rattle.fraction.specs.Value.{value}
use Rattle.fraction.proofs.Comparison.{lt_value}
use Rattle.fraction.proofs.Rational.{never, ≤q-trans}
use Rattle.fraction.proofs.Value.{value_le_of_not_lt}
use Rattle.figure.specs.Figure.{Figure, figure, halved_figure, intersection_figure, larger, no_figure, six_figure}
use Rattle.figure.specs.Intersection.{Intersection, difference_bernstein}
use Rattle.figure.specs.Operations.{ends}
use Rattle.figure.proofs.Deeper.{Under, intersection_deeper}

-- what is not below x is not below anything at most x, whatever it is
not_below : (s x h : Float) → T (finite x) → T (finite h) → value h ≤q value x → lt s x ≡ false → lt s h ≡ false
unfolding lt
not_below nan x h X H l e = refl
not_below (inf false) nan h X H l e = absurd X
not_below (inf false) (inf t) h X H l e = absurd X
not_below (inf false) (fin t m d) nan X H l e = absurd H
not_below (inf false) (fin t m d) (inf u) X H l e = absurd H
not_below (inf false) (fin t m d) (fin u n f) X H l e = refl
not_below (inf true) nan h X H l e = absurd X
not_below (inf true) (inf t) h X H l e = absurd X
not_below (inf true) (fin t m d) h X H l e = absurd (bad e)
  where
    bad : true ≡ false → ⊥
    bad p = subst T p tt
not_below (fin s m e) x h X H l q = below (lt (fin s m e) h) (λ t. lt_value (fin s m e) h tt H t)
  where
    at_most : value x ≤q value (fin s m e)
    at_most = value_le_of_not_lt x (fin s m e) X tt (subst (λ (b : Bool). T (not b)) (sym q) tt)

    below : (b : Bool) → (T b → value (fin s m e) <q value h) → b ≡ false
    below true f = absurd (never (value (fin s m e)) (value h) (f tt) (≤q-trans (value h) (value x) (value (fin s m e)) l at_most))
    below false f = refl

module _ (depth : ℕ) (x : Intersection) where
  -- its figure beside its own
  under : Under (intersection_figure depth x) (six_figure (difference_bernstein ends x))
  unfolding intersection_figure halved_figure
  under = intersection_deeper 0 depth x (omega arith)

  -- its own is not above the largest so far: that stays
  pub skipped : (s o : Float) → figure o ≡ six_figure (difference_bernstein ends x) → lt s o ≡ false
      → figure s ≡ larger (figure s) (intersection_figure depth x)
  unfolding larger highest
  skipped s o own e = go (intersection_figure depth x) (subst (Under (intersection_figure depth x)) (sym own) under)
    where
      go : (f : Figure) → Under f (figure o) → figure s ≡ larger (figure s) f
      go (figure h) u = rw (not_below s o h u.1 u.0 u.2 e)
      go no_figure u = absurd u

  -- it has none of its own, and so none
  pub none_own : (s : Figure) → no_figure ≡ six_figure (difference_bernstein ends x) → no_figure ≡ larger s (intersection_figure depth x)
  unfolding larger
  none_own s own = go s (intersection_figure depth x) (subst (Under (intersection_figure depth x)) (sym own) under)
    where
      go : (s f : Figure) → Under f no_figure → no_figure ≡ larger s f
      go (figure t) (figure h) u = absurd u
      go (figure t) no_figure u = refl
      go no_figure f u = refl
