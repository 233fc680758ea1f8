-- Texts put together.
use mathlib.Core.Path.{◌≡◌, refl, ap, ◌∙◌}
use mathlib.Core.Bool.{Bool, true, false, not, cond}
use mathlib.Core.List.{List, ◌∷◌, ◌++◌, append_assoc}
use Prim.Native.Nat.{ℕ, zero, suc, ◌+◌, ◌-◌, ◌≤◌, ◌<◌}
use native.Mathlib.Omega.{arith}
use lib.Dec.{T, ltb, ltb→lt, nltb→le}
use lib.IntN.{pos, negsuc, ◌-ℤ◌}
use Rattle.text.specs.Decimal.{decimal_of, whole_text}

-- two texts, one after the other
pub both_there : (o₀ o₁ o₂ a b : List ℕ) → o₁ ≡ o₀ ++ a → o₂ ≡ o₁ ++ b → o₂ ≡ o₀ ++ (a ++ b)
both_there o₀ o₁ o₂ a b e f = f ∙ ap (λ (t : List ℕ). t ++ b) e ∙ append_assoc o₀ a b

-- a difference in decimal
pub difference_below : (a b : ℕ) → a < b → whole_text (pos a -ℤ pos b) ≡ 45 ∷ decimal_of (b - a)
difference_below a zero h = absurd (omega arith)
difference_below a (suc b) h = go (ltb a (suc b)) (nltb→le a (suc b))
  where
    go : (t : Bool) → (T (not t) → suc b ≤ a) → whole_text (cond t (negsuc (suc b - suc a)) (pos (a - suc b))) ≡ 45 ∷ decimal_of (suc b - a)
    go true f = ap (λ (n : ℕ). 45 ∷ decimal_of n) {x = suc (suc b - suc a)} {y = suc b - a} (omega arith)
    go false f = absurd (omega (arith, f tt))

pub difference_above : (a b : ℕ) → b ≤ a → whole_text (pos a -ℤ pos b) ≡ decimal_of (a - b)
difference_above a zero h = ap decimal_of {x = a + 0} {y = a - 0} (omega arith)
difference_above a (suc b) h = go (ltb a (suc b)) (ltb→lt a (suc b))
  where
    go : (t : Bool) → (T t → a < suc b) → whole_text (cond t (negsuc (suc b - suc a)) (pos (a - suc b))) ≡ decimal_of (a - suc b)
    go true f = absurd (omega (arith, f tt))
    go false f = refl
