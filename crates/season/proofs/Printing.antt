-- Lines put together.
use mathlib.Core.Path.{◌≡◌, ap, ◌∙◌}
use mathlib.Core.List.{List, [], ◌++◌, append_assoc}
use Prim.Native.Nat.{ℕ}

-- three lines
pub three_lines : (o₁ o₂ o₃ a b c : List ℕ) → o₁ ≡ [] ++ a → o₂ ≡ o₁ ++ b → o₃ ≡ o₂ ++ c → o₃ ≡ a ++ (b ++ c)
three_lines o₁ o₂ o₃ a b c e f g = rw (g, f, e) (append_assoc a b c)

-- three lines more
pub six_lines : (o₃ o₄ o₅ o₆ a b c d e f : List ℕ) → o₃ ≡ a ++ (b ++ c) → o₄ ≡ o₃ ++ d → o₅ ≡ o₄ ++ e → o₆ ≡ o₅ ++ f
    → o₆ ≡ a ++ (b ++ (c ++ (d ++ (e ++ f))))
six_lines o₃ o₄ o₅ o₆ a b c d e f h i j k =
    rw (k, j, i, h) (append_assoc (((a ++ (b ++ c)) ++ d)) e f ∙ append_assoc (a ++ (b ++ c)) d (e ++ f)
    ∙ append_assoc a (b ++ c) (d ++ (e ++ f)) ∙ ap (λ (x : List ℕ). a ++ x) (append_assoc b c (d ++ (e ++ f))))
