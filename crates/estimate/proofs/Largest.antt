-- The largest of some numbers, and the figure of six pairs.
use mathlib.Core.Bool.{Bool, cond, false, true}
use mathlib.Core.Path.{◌≡◌, subst, sym}
use Prim.Native.Nat.{◌<◌, suc, zero, ℕ}
use native.Mathlib.Omega.{arith}
use lib.Dec.{T}
use lib.Ieee.{Float, fin, inf, lt, nan, neg}
use lib.Ieee.Scale.{finite}
use Rattle.arith.specs.Loop.{each, turns}
use Rattle.window.specs.Cells.{+0}
use Rattle.fraction.specs.Pair.{Ends, highest}
use Rattle.fraction.specs.Rational.{◌≤q◌, negq, ℚ}
use Rattle.fraction.specs.Value.{absolute_float, value}
use Rattle.fraction.proofs.Value.{value_neg}
use Rattle.figure.specs.Figure.{absolute_end, figure, larger, six_figure}

-- what bounds x and -x bounds |x|
pub absolute_below : (x : Float) → T (finite x) → (m : ℚ) → value x ≤q m → negq (value x) ≤q m → value (absolute_float x) ≤q m
unfolding neg
absolute_below nan X m h k = absurd X
absolute_below (inf s) X m h k = absurd X
absolute_below (fin false n e) X m h k = h
absolute_below (fin true n e) X m h k = subst (λ (z : ℚ). z ≤q m) (sym (value_neg (fin true n e) tt)) k

-- the highest of two is one of them
pub highest_either : (P : Float → Type 0) (x y : Float) → P x → P y → P (highest x y)
unfolding highest
highest_either P x y p q = go (lt x y)
  where
    go : (b : Bool) → P (cond b y x)
    go true = q
    go false = p

-- six pairs, one after the other
pub six_largest : (p : ℕ → Ends) (a b c d e f : Float) → figure a ≡ larger (figure +0) (absolute_end (p 0))
    → figure b ≡ larger (figure a) (absolute_end (p 1)) → figure c ≡ larger (figure b) (absolute_end (p 2))
    → figure d ≡ larger (figure c) (absolute_end (p 3)) → figure e ≡ larger (figure d) (absolute_end (p 4))
    → figure f ≡ larger (figure e) (absolute_end (p 5)) → six_figure p ≡ figure f
unfolding six_figure each turns
six_largest p a b c d e f h₀ h₁ h₂ h₃ h₄ h₅ = rw (sym h₀, sym h₁, sym h₂, sym h₃, sym h₄) (sym h₅)

-- what holds of 0 to 5
pub six_all : (P : ℕ → Type 0) → P 0 → P 1 → P 2 → P 3 → P 4 → P 5 → (k : ℕ) → k < 6 → P k
six_all P a b c d e f zero l = a
six_all P a b c d e f (suc zero) l = b
six_all P a b c d e f (suc (suc zero)) l = c
six_all P a b c d e f (suc (suc (suc zero))) l = d
six_all P a b c d e f (suc (suc (suc (suc zero)))) l = e
six_all P a b c d e f (suc (suc (suc (suc (suc zero))))) l = f
six_all P a b c d e f (suc (suc (suc (suc (suc (suc k)))))) l = absurd (omega arith)
