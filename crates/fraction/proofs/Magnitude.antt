-- Laws of `magnitude`: the values rise with their patterns, by one unit of the pattern's exponent at each step.
use mathlib.Core.Logic.{◌⊎◌, inl, inr}
use mathlib.Core.Path.{◌∙◌, ◌≡◌, ap, refl, subst, sym}
use Prim.Native.Nat.{◌*◌, ◌+◌, ◌-◌, ◌/◌, ◌<◌, ◌^◌, ◌≤◌, suc, zero, zero-le, ℕ}
use native.Mathlib.Decide.{dec_le, dec_lt}
use native.Mathlib.Nat.{add-suc, add-zero, div-eq_of_lt, div-eq_of_lt-le, div-mul-le_self, eq-or-lt_of_le, le_of_eq, le_refl, le-suc, le_trans, lt-div-mul-add, lt_of_lt_of_le, mul_comm, mul-le-mul_right, mul-lt-mul_of_pos_right, pow-suc}
use native.Mathlib.Omega.{arith}
use lib.Ieee.{size}
use lib.Ieee.Digits.{size-lt}
use lib.Pow.{pow_mono, pow_pos}
use Rattle.fraction.specs.Magnitude.{magnitude}

magnitude_div : (h b x : ℕ) → b / h ≡ x → magnitude h b ≡ (b - (x - 1) * h) * 2 ^ (x - 1)
magnitude_div h b x e = ap (λ (z : ℕ). (b - (z - 1) * h) * 2 ^ (z - 1)) e

-- k * h + q stands for q * 2 ^ k
pub magnitude_at : (h q k : ℕ) → 0 < h → (h ≤ q) ⊎ (k ≡ 0) → q ≤ 2 * h → magnitude h (k * h + q) ≡ q * 2 ^ k
magnitude_at h q k H side le = elim (dec_lt q h) [
  | yes l ↦ first l side
  | no n ↦ elim (eq-or-lt_of_le le) [ inl e ↦ last e | inr l ↦ mid l (ge n) ]
]
  where
    ge : ¬ (q < h) → h ≤ q
    ge n = omega arith

    first : q < h → (h ≤ q) ⊎ (k ≡ 0) → magnitude h (k * h + q) ≡ q * 2 ^ k
    first l (inl g) = absurd (clash l g)
      where
        clash : q < h → h ≤ q → ⊥
        clash a b = omega arith
    first l (inr z) =
        subst (λ (j : ℕ). magnitude h (j * h + q) ≡ q * 2 ^ j) (sym z)
        (magnitude_div h (0 * h + q) 0 (div-eq_of_lt (omega arith)) ∙ ap (λ (x : ℕ). x * 1) (omega arith))

    mid : q < 2 * h → h ≤ q → magnitude h (k * h + q) ≡ q * 2 ^ k
    mid l g =
        magnitude_div h (k * h + q) (suc k) (div-eq_of_lt-le h (omega arith) (omega arith))
        ∙ ap (λ (x : ℕ). (k * h + q - x * h) * 2 ^ x) (pr k) ∙ ap (λ (x : ℕ). x * 2 ^ k) (back (k * h) q)
      where
        pr : (k : ℕ) → suc k - 1 ≡ k
        pr k = omega arith

        back : (a b : ℕ) → a + b - a ≡ b
        back a b = omega arith

    last : q ≡ 2 * h → magnitude h (k * h + q) ≡ q * 2 ^ k
    last e =
        magnitude_div h (k * h + q) (suc (suc k)) (div-eq_of_lt-le h (omega arith) (omega arith))
        ∙ ap (λ (x : ℕ). (k * h + q - x * h) * 2 ^ x) (pr k) ∙ ap (λ (x : ℕ). x * 2 ^ suc k) (back e) ∙ fin'
      where
        pr : (k : ℕ) → suc (suc k) - 1 ≡ suc k
        pr k = omega arith

        back : q ≡ 2 * h → k * h + q - suc k * h ≡ h
        back e = omega arith

        fin' : h * 2 ^ suc k ≡ q * 2 ^ k
        fin' = omega (arith, ap (λ (x : ℕ). h * x) (pow-suc 2 k), ap (λ (x : ℕ). x * 2 ^ k) e)

-- the first pattern is 0
pub magnitude_zero : (h : ℕ) → 0 < h → magnitude h 0 ≡ 0
magnitude_zero h H = ap (magnitude h) (plain h) ∙ magnitude_at h 0 0 H (inr refl) zero-le
  where
    plain : (h : ℕ) → 0 ≡ 0 * h + 0
    plain h = omega arith

-- every b is such a k * h + q
pub parts : (h b : ℕ) → 0 < h → (x : ℕ) → b / h ≡ x → ((h ≤ b - (x - 1) * h) ⊎ (x - 1 ≡ 0)) × (b - (x - 1) * h < 2 * h)
    × (b ≡ (x - 1) * h + (b - (x - 1) * h))
parts h b H zero e = (inr refl, omega (arith, lt-div-mul-add {a = b} H, ap (λ (z : ℕ). z * h) e), omega arith)
parts h b H (suc x) e =
    let lo : suc x * h ≤ b = le_trans (le_of_eq (ap (λ (z : ℕ). z * h) (sym e))) (div-mul-le_self b h) in
    let hi : b < suc x * h + h = subst (λ (z : ℕ). b < z * h + h) e (lt-div-mul-add {a = b} H) in
    subst (λ (z : ℕ). ((h ≤ b - z * h) ⊎ (z ≡ 0)) × (b - z * h < 2 * h) × (b ≡ z * h + (b - z * h))) (sym (pr x))
    (inl (omega arith), omega arith, omega arith)
  where
    pr : (k : ℕ) → suc k - 1 ≡ k
    pr k = omega arith

-- the next value up is one more of the same unit
pub magnitude_suc : (h b : ℕ) → 0 < h → magnitude h (suc b) ≡ suc (b - (b / h - 1) * h) * 2 ^ (b / h - 1)
magnitude_suc h b H =
    let k = b / h - 1 in
    let q = b - k * h in
    let w = parts h b H (b / h) refl in
    ap (magnitude h) (next k q w.2) ∙ magnitude_at h (suc q) k H (side w.0) w.1
  where
    next : (k q : ℕ) → b ≡ k * h + q → suc b ≡ k * h + suc q
    next k q e = omega arith

    side : {k q : ℕ} → (h ≤ q) ⊎ (k ≡ 0) → (h ≤ suc q) ⊎ (k ≡ 0)
    side {q = q} (inl g) = inl (le_trans g (le-suc q))
    side (inr z) = inr z

-- no less at the next pattern
pub magnitude_step : (h b : ℕ) → 0 < h → magnitude h b ≤ magnitude h (suc b)
magnitude_step h b H = subst (λ (z : ℕ). magnitude h b ≤ z) (sym (magnitude_suc h b H)) (mul-le-mul_right (2 ^ (b / h - 1))
    (le-suc (b - (b / h - 1) * h)))

-- no less at any later pattern
pub magnitude_le : (h b d : ℕ) → 0 < h → magnitude h b ≤ magnitude h (b + d)
magnitude_le h b zero H = le_of_eq (ap (magnitude h) (sym (add-zero b)))
magnitude_le h b (suc d) H = le_trans (magnitude_le h b d H) (subst (λ (z : ℕ). magnitude h (b + d) ≤ magnitude h z) (sym (add-suc b d))
    (magnitude_step h (b + d) H))

magnitude_next : (h b : ℕ) → 0 < h → magnitude h b < magnitude h (suc b)
magnitude_next h b H = subst (λ (z : ℕ). magnitude h b < z) (sym (magnitude_suc h b H))
    (mul-lt-mul_of_pos_right (le_refl (suc (b - (b / h - 1) * h))) (pow_pos (b / h - 1)))

-- more at any later pattern
pub magnitude_lt : (h b d : ℕ) → 0 < h → magnitude h b < magnitude h (suc b + d)
magnitude_lt h b d H = lt_of_lt_of_le (magnitude_next h b H) (magnitude_le h (suc b) d H)

-- the patterns are in the order of the magnitudes, and so the other way
pub magnitude_back : (h b d : ℕ) → 0 < h → magnitude h b ≤ magnitude h d → b ≤ d
magnitude_back h b d H l = elim (dec_le b d) [ yes g ↦ g | no n ↦ absurd (clash l (magnitude_lt h d (b - suc d) H) (rest n)) ]
  where
    rest : ¬ (b ≤ d) → suc d + (b - suc d) ≡ b
    rest n = omega arith

    clash : magnitude h b ≤ magnitude h d → magnitude h d < magnitude h (suc d + (b - suc d)) → suc d + (b - suc d) ≡ b → ⊥
    clash x y e = absurd (no_way (subst (λ (z : ℕ). magnitude h d < magnitude h z) e y))
      where
        no_way : magnitude h d < magnitude h b → ⊥
        no_way y = omega arith

pub magnitude_mono : (h b d : ℕ) → 0 < h → b ≤ d → magnitude h b ≤ magnitude h d
magnitude_mono h b d H l = subst (λ (z : ℕ). magnitude h b ≤ magnitude h z) (rest l) (magnitude_le h b (d - b) H)
  where
    rest : b ≤ d → b + (d - b) ≡ d
    rest l = omega arith

-- 2 ^ p is twice 2 ^ (p - 1)
pub power_twice : (p : ℕ) → 0 < p → 2 ^ p ≡ 2 * 2 ^ (p - 1)
power_twice zero h = elim h [ ]
power_twice (suc p) h = subst (λ (z : ℕ). 2 ^ suc p ≡ 2 * 2 ^ z) (pr p) (pow-suc 2 p ∙ mul_comm (2 ^ p) 2)
  where
    pr : (p : ℕ) → p ≡ suc p - 1
    pr p = omega arith

-- a number of at least 2 ^ j has more than j digits
pub size_gt : (n j : ℕ) → 2 ^ j ≤ n → j < size n
size_gt n j h = elim (dec_lt j (size n)) [ yes l ↦ l | no g ↦ absurd (clash (lt_of_lt_of_le (size-lt n) (pow_mono (ge g))) h) ]
  where
    ge : ¬ (j < size n) → size n ≤ j
    ge g = omega arith

    clash : n < 2 ^ j → 2 ^ j ≤ n → ⊥
    clash a b = omega arith
