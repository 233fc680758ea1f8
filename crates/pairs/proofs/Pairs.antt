-- What the code's pairs come to: a pair that is kept only if a test holds.
use mathlib.Core.Bool.{Bool, ◌&&◌, cond, false, true}
use mathlib.Core.Path.{◌∙◌, ◌≡◌, refl, sym}
use lib.Ieee.{Float, binary64, mul}
use lib.Ieee.Scale.{finite}
use Rattle.fraction.specs.Pair.{Ends, finite_ends, multiply_pairs, none, outward, pair, point}
use Rattle.fraction.proofs.Pair.{Strict}

-- kept by its flag alone
pub kept_flag : (g h : Bool) (e : Ends) → cond (g && h) e none ≡ cond g (cond h e none) none
kept_flag true h e = refl
kept_flag false h e = refl

-- kept if both tests hold
pub kept_twice : (g h : Bool) (e r k : Ends) → r ≡ cond g k none → k ≡ cond h e none → r ≡ cond (g && h) e none
kept_twice true true e r k p q = p ∙ q
kept_twice true false e r k p q = p ∙ q
kept_twice false h e r k p q = p

-- an operation on pairs that may be none
pub operation_is : (f : Ends → Ends → Ends) → Strict f → (g h : Bool) (a b c d : Float) (r k e : Ends) → r ≡ cond g k none → k
    ≡ cond h e none → e ≡ f (pair a b) (pair c d)
    → r ≡ f (cond g (pair a b) none) (cond h (pair c d) none)
operation_is f S true true a b c d r k e p q w = p ∙ q ∙ w
operation_is f S true false a b c d r k e p q w = p ∙ q ∙ sym (S.right a b)
operation_is f S false h a b c d r k e p q w = p ∙ sym (S.left (cond h (pair c d) none))

-- a product of two numbers, the second one of which is read
pub product_is : (a b : Float) (r e : Ends) → r ≡ cond (finite b) e none → e ≡ outward binary64 (mul binary64 a b) (mul binary64 a b)
    (mul binary64 a b) (mul binary64 a b) → r ≡ multiply_pairs binary64 (point a) (finite_ends b b)
unfolding multiply_pairs finite_ends
product_is a b r e p q = go (finite b) p
  where
    go : (g : Bool) → r ≡ cond g e none → r ≡ multiply_pairs binary64 (point a) (cond (g && g) (pair b b) none)
    go true p = p ∙ q
    go false p = p
