-- An exponent from -1074 to 1023 as a signed number of 16 bits: what makes it and what is computed with it fits.
use mathlib.Core.Path.{◌≡◌, refl, sym, ap, subst, ◌∙◌}
use mathlib.Core.Bool.{Bool, true, false, not, cond}
use Prim.Native.Nat.{ℕ, zero, suc, ◌+◌, ◌-◌, ◌/◌, ◌%◌, ◌≤◌, ◌<◌}
use native.Mathlib.Omega.{arith}
use lib.Dec.{T, ltb, ltb→lt, nltb→le}
use lib.IntN.{ℤ, pos, negsuc, nat_abs, sub_ℕ, ◌+ℤ◌, ◌-ℤ◌}
use lib.Signed.{non_neg, shr_z, pos-nat_abs}
use mir.Syntax.{w16, w64}
use mir.Val.{Fits, SFits, to_z, of_z}
use mir.ValLaws.{to_z-of_z}
use Rattle.float.specs.RootSteps.{Exponent}

-- ---- differences of two counts
below : (a b : ℕ) → a < b → sub_ℕ a b ≡ negsuc (b - suc a)
below a b h = go (ltb a b) (nltb→le a b)
  where
    go : (c : Bool) → (T (not c) → b ≤ a) → cond c (negsuc (b - suc a)) (pos (a - b)) ≡ negsuc (b - suc a)
    go true f = refl
    go false f = absurd (omega (arith, f tt))

above : (a b : ℕ) → b ≤ a → sub_ℕ a b ≡ pos (a - b)
above a b h = go (ltb a b) (ltb→lt a b)
  where
    go : (c : Bool) → (T c → a < b) → cond c (negsuc (b - suc a)) (pos (a - b)) ≡ pos (a - b)
    go true f = absurd (omega (arith, f tt))
    go false f = refl

-- ---- -1022 - z, of a number below the normal ones with z digits missing
low_is : (z : ℕ) → z ≤ 52 → negsuc 1021 -ℤ pos z ≡ negsuc (1021 + z)
low_is zero h = refl
low_is (suc z) h = ap negsuc (omega arith)

pub low_place : (z : ℕ) → z ≤ 52 → negsuc 1021 -ℤ pos z ≡ pos (1074 - z) -ℤ pos 2096
low_place z h = low_is z h ∙ ap negsuc (flip z h) ∙ sym (below (1074 - z) 2096 (omega arith))
  where
    flip : (z : ℕ) → z ≤ 52 → 1021 + z ≡ 2096 - suc (1074 - z)
    flip z h = omega arith

-- ---- x - 1023, of a number with the field x
pub high_place : (x : ℕ) → pos x -ℤ pos 1023 ≡ pos (1073 + x) -ℤ pos 2096
high_place x = go (ltb x 1023) (ltb→lt x 1023) (nltb→le x 1023)
  where
    go : (c : Bool) → (T c → x < 1023) → (T (not c) → 1023 ≤ x) → sub_ℕ x 1023 ≡ sub_ℕ (1073 + x) 2096
    go true f g = below x 1023 (f tt) ∙ ap negsuc (flip x (f tt)) ∙ sym (below (1073 + x) 2096 (omega (arith, f tt)))
      where
        flip : (x : ℕ) → x < 1023 → 1023 - suc x ≡ 2096 - suc (1073 + x)
        flip x h = omega arith
    go false f g = above x 1023 (g tt) ∙ ap pos (flip x (g tt)) ∙ sym (above (1073 + x) 2096 (omega (arith, g tt)))
      where
        flip : (x : ℕ) → 1023 ≤ x → x - 1023 ≡ 1073 + x - 2096
        flip x h = omega arith

-- ---- e + 1074
pub lifted : (e : ℤ) (x : Exponent e) → e +ℤ pos 1074 ≡ pos (x.k - 1022)
lifted e x = ap (λ (z : ℤ). z +ℤ pos 1074) x.is ∙ go x.k x.from (ltb x.k 2096) (ltb→lt x.k 2096) (nltb→le x.k 2096)
  where
    go : (k : ℕ) → 1022 ≤ k → (c : Bool) → (T c → k < 2096) → (T (not c) → 2096 ≤ k) → sub_ℕ k 2096 +ℤ pos 1074 ≡ pos (k - 1022)
    go k l true f g =
        ap (λ (z : ℤ). z +ℤ pos 1074) (below k 2096 (f tt)) ∙ above 1074 (suc (2096 - suc k)) (omega (arith, f tt))
        ∙ ap pos (flip k l (f tt))
      where
        flip : (k : ℕ) → 1022 ≤ k → k < 2096 → 1074 - suc (2096 - suc k) ≡ k - 1022
        flip k l h = omega arith
    go k l false f g = ap (λ (z : ℤ). z +ℤ pos 1074) (above k 2096 (g tt)) ∙ ap pos (flip k (g tt))
      where
        flip : (k : ℕ) → 2096 ≤ k → k - 2096 + 1074 ≡ k - 1022
        flip k h = omega arith

-- ---- numbers that fit, read back from their 16 bits
-- a count
pub seen : (n : ℕ) → n < 32768 → to_z w16 n ≡ pos n
seen n h = to_z-of_z w16 (pos n) (record { sfits = h })

-- a sum or a difference
module _ (f : ℤ → ℤ) (z : ℤ) (fits : SFits w16 z) (h : SFits w16 (f z)) where
  pub fits_after : SFits w16 (f (to_z w16 (of_z w16 z)))
  fits_after = subst (λ (x : ℤ). SFits w16 (f x)) (sym (to_z-of_z w16 z fits)) h

  pub back_after : to_z w16 (of_z w16 (f (to_z w16 (of_z w16 z)))) ≡ f z
  back_after = to_z-of_z w16 (f (to_z w16 (of_z w16 z))) fits_after ∙ ap f (to_z-of_z w16 z fits)

-- an exponent
pub read_exponent : (e : ℤ) → Exponent e → to_z w16 (of_z w16 e) ≡ e
read_exponent e x =
    to_z-of_z w16 e (subst (SFits w16) (sym x.is) (go x.k x.upto (ltb x.k 2096) (ltb→lt x.k 2096) (nltb→le x.k 2096)))
  where
    go : (k : ℕ) → k ≤ 3119 → (c : Bool) → (T c → k < 2096) → (T (not c) → 2096 ≤ k) → SFits w16 (sub_ℕ k 2096)
    go k l true f g = subst (SFits w16) (sym (below k 2096 (f tt))) (record { sfits = omega arith })
    go k l false f g = subst (SFits w16) (sym (above k 2096 (g tt))) (record { sfits = omega arith })

-- what makes an exponent: -1022 - z, x - 1023
pub low_fits : (z : ℕ) → z ≤ 52 → SFits w16 (negsuc 1021 -ℤ to_z w16 z)
low_fits z h = subst (λ (x : ℤ). SFits w16 (negsuc 1021 -ℤ x)) (sym (seen z (omega arith)))
    (subst (SFits w16) (sym (low_is z h)) (record { sfits = omega arith }))

pub low_back : (z : ℕ) → z ≤ 52 → to_z w16 (of_z w16 (negsuc 1021 -ℤ to_z w16 z)) ≡ negsuc 1021 -ℤ pos z
low_back z h = to_z-of_z w16 (negsuc 1021 -ℤ to_z w16 z) (low_fits z h) ∙ ap (λ (x : ℤ). negsuc 1021 -ℤ x) (seen z (omega arith))

pub high_fits : (x : ℕ) → x ≤ 2046 → SFits w16 (to_z w16 x -ℤ pos 1023)
high_fits x h = subst (λ (z : ℤ). SFits w16 (z -ℤ pos 1023)) (sym (seen x (omega arith))) (go (ltb x 1023) (ltb→lt x 1023) (nltb→le x 1023))
  where
    go : (c : Bool) → (T c → x < 1023) → (T (not c) → 1023 ≤ x) → SFits w16 (sub_ℕ x 1023)
    go true f g = subst (SFits w16) (sym (below x 1023 (f tt))) (record { sfits = omega arith })
    go false f g = subst (SFits w16) (sym (above x 1023 (g tt))) (record { sfits = omega arith })

pub high_back : (x : ℕ) → x ≤ 2046 → to_z w16 (of_z w16 (to_z w16 x -ℤ pos 1023)) ≡ pos x -ℤ pos 1023
high_back x h = to_z-of_z w16 (to_z w16 x -ℤ pos 1023) (high_fits x h) ∙ ap (λ (z : ℤ). z -ℤ pos 1023) (seen x (omega arith))

-- e + 1074
pub lifted_fits : (e : ℤ) → Exponent e → SFits w16 (e +ℤ pos 1074)
lifted_fits e x = subst (SFits w16) (sym (lifted e x)) (record { sfits = omega (arith, x.upto) })

-- ---- half of a count, rounded down, and what is left
minus_is : (x y : ℤ) (a b : ℕ) → x ≡ pos a → y ≡ pos b → b ≤ a → x -ℤ y ≡ pos (a - b)
minus_is x y a b e g h = ap (λ (z : ℤ). z -ℤ y) e ∙ ap (λ (z : ℤ). pos a -ℤ z) g ∙ go b h
  where
    go : (b : ℕ) → b ≤ a → pos a -ℤ pos b ≡ pos (a - b)
    go zero h = ap pos (omega arith)
    go (suc b) h = above a (suc b) h

module _ (z : ℤ) (n : T (non_neg z)) (fits : SFits w16 z) where
  small : nat_abs z < 32768
  small = (subst (SFits w16) (sym (pos-nat_abs z n)) fits).sfits

  read : to_z w16 (of_z w16 z) ≡ pos (nat_abs z)
  read = to_z-of_z w16 z fits ∙ sym (pos-nat_abs z n)

  abbrev half : ℤ
  half = to_z w16 (of_z w16 (shr_z (to_z w16 (of_z w16 z)) 2))

  half_is : half ≡ pos (nat_abs z / 2)
  half_is = ap (λ (x : ℤ). to_z w16 (of_z w16 (shr_z x 2))) read ∙ seen (nat_abs z / 2) (omega (arith, small))

  -- less one half, and less both
  less_is : to_z w16 (of_z w16 z) -ℤ half ≡ pos (nat_abs z - nat_abs z / 2)
  less_is = minus_is (to_z w16 (of_z w16 z)) half (nat_abs z) (nat_abs z / 2) read half_is (omega arith)

  pub less_fits : SFits w16 (to_z w16 (of_z w16 z) -ℤ half)
  less_fits = subst (SFits w16) (sym less_is) (record { sfits = omega (arith, small) })

  left : to_z w16 (of_z w16 (to_z w16 (of_z w16 z) -ℤ half)) -ℤ half ≡ pos (nat_abs z % 2)
  left =
      minus_is (to_z w16 (of_z w16 (to_z w16 (of_z w16 z) -ℤ half))) half (nat_abs z - nat_abs z / 2) (nat_abs z / 2)
      (to_z-of_z w16 (to_z w16 (of_z w16 z) -ℤ half) less_fits ∙ less_is) half_is (omega arith)
      ∙ ap pos (rest (nat_abs z))
    where
      rest : (n : ℕ) → n - n / 2 - n / 2 ≡ n % 2
      rest n = omega arith

  pub left_fits : SFits w16 (to_z w16 (of_z w16 (to_z w16 (of_z w16 z) -ℤ half)) -ℤ half)
  left_fits = subst (SFits w16) (sym left) (record { sfits = omega arith })

  pub left_is : to_z w16 (of_z w16 (to_z w16 (of_z w16 (to_z w16 (of_z w16 z) -ℤ half)) -ℤ half)) ≡ pos (nat_abs z % 2)
  left_is = to_z-of_z w16 (to_z w16 (of_z w16 (to_z w16 (of_z w16 z) -ℤ half)) -ℤ half) left_fits ∙ left

  module _ (m : nat_abs z ≤ 2097) where
    pub field_fits : SFits w16 (half +ℤ pos 485)
    field_fits = subst (λ (x : ℤ). SFits w16 (x +ℤ pos 485)) (sym half_is) (record { sfits = omega (arith, m) })

    pub field_is : to_z w16 (of_z w16 (half +ℤ pos 485)) ≡ pos (nat_abs z / 2 + 485)
    field_is = ap (λ (x : ℤ). to_z w16 (of_z w16 (x +ℤ pos 485))) half_is ∙ seen (nat_abs z / 2 + 485) (omega (arith, m))

-- a count as an unsigned number of 64 bits
pub count_cast : (x : ℤ) (n : ℕ) → x ≡ pos n → n < 32768 → T (non_neg x) × Fits w64 (nat_abs x)
count_cast x n e h = subst (λ (z : ℤ). T (non_neg z) × Fits w64 (nat_abs z)) (sym e) (tt, record { fits = omega arith })
