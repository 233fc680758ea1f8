-- Powers by squaring: what is left of the digits, from the result and the base now, gives the power.
use mathlib.Core.Path.{◌≡◌, refl, sym, ap, ◌∙◌}
use mathlib.Core.Bool.{cond}
use Prim.Native.Nat.{ℕ, zero, suc, ◌*◌, ◌/◌, ◌%◌, ◌^◌, ◌<◌}
use native.Mathlib.Nat.{pow-suc}
use native.Mathlib.Omega.{arith}
use lib.Dec.{eqb, eqb→eq, not_T}
use lib.Ieee.{Float, binary64, mul}
use lib.Ieee.Bits.{is_true, is_false}
use lib.Ieee.Fits.{eq→eqb}
use Rattle.arith.specs.Operations.{floats}
use Rattle.float.specs.Power.{power_in, power_of}

-- d more digits are enough for what is left
abbrev pub Left : Float → ℕ → Float → Float → ℕ → Type 0
Left x n result base left = (d : ℕ) × (left < 2 ^ d) × (power_in floats d result base left ≡ power_of floats x n)

pub turn : (x : Float) (n : ℕ) (r b : Float) (k : ℕ) (r' : Float) → 0 < k → r' ≡ cond (eqb (k % 2) 1) (mul binary64 r b) r → Left x n r b k
    → Left x n r' (mul binary64 b b) (k / 2)
unfolding power_in
turn x n r b k r' h e (zero, l, p) = absurd (omega arith)
turn x n r b k r' h e (suc d, l, p) = (
  d,
  half (2 ^ d) (2 ^ suc d) (pow-suc 2 d) l,
  ap (λ (z : Float). power_in floats d z (mul binary64 b b)
      (k / 2)) e ∙ p,
)
  where
    half : (p q : ℕ) → q ≡ p * 2 → k < q → k / 2 < p
    half p q e l = omega arith

pub odd_digit : (k : ℕ) (r b : Float) → k % 2 ≡ 1 → mul binary64 r b ≡ cond (eqb (k % 2) 1) (mul binary64 r b) r
odd_digit k r b h = sym (rw (is_true (eqb (k % 2) 1) (eq→eqb h)))

pub even_digit : (k : ℕ) (r b : Float) → (k % 2 ≡ 1 → ⊥) → r ≡ cond (eqb (k % 2) 1) (mul binary64 r b) r
even_digit k r b h = sym (rw (is_false (eqb (k % 2) 1) (not_T (eqb (k % 2) 1) (λ t. h (eqb→eq (k % 2) 1 t)))))

none_left : (d : ℕ) (r b : Float) → power_in floats d r b 0 ≡ r
unfolding power_in
none_left zero r b = refl
none_left (suc d) r b = none_left d r (mul binary64 b b)

pub finish : (x : Float) (n : ℕ) (r b : Float) (k : ℕ) → k ≡ 0 → Left x n r b k → r ≡ power_of floats x n
finish x n r b k e (d, l, p) = sym (ap (power_in floats d r b) e ∙ none_left d r b) ∙ p
