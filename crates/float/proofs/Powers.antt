-- Where products are exact, that is associative with 1 as their unit, `power_of` is the n-fold product.
use mathlib.Core.Path.{◌≡◌, refl, sym, ap, ◌∙◌, subst}
use mathlib.Core.Bool.{Bool, true, false, cond}
use Prim.Native.Nat.{ℕ, zero, suc, ◌*◌, ◌/◌, ◌%◌, ◌^◌, ◌<◌}
use native.Mathlib.Nat.{pow-suc}
use native.Mathlib.Omega.{arith}
use lib.Dec.{T, eqb, eqb→eq}
use Rattle.arith.specs.Operations.{Arith}
use Rattle.float.specs.Power.{power_in, power_of}

-- base times base times .., n times
unfoldable pub product : {A : Type 0} → Arith A → A → ℕ → A
product F base zero = F.one
product F base (suc n) = F.times base (product F base n)

module _ {A : Type 0} (F : Arith A) (assoc : (a b c : A) → F.times (F.times a b) c ≡ F.times a (F.times b c))
    (unit : (a : A) → F.times a F.one ≡ a) where
  square : (b : A) (n : ℕ) → product F (F.times b b) n ≡ product F b (2 * n)
  unfolding product
  square b zero = refl
  square b (suc n) = ap (F.times (F.times b b)) (square b n) ∙ assoc b b (product F b (2 * n)) ∙ ap (product F b) (two n)
    where
      two : (n : ℕ) → suc (suc (2 * n)) ≡ 2 * suc n
      two n = omega arith

  in_is : (d : ℕ) (r b : A) (n : ℕ) → n < 2 ^ d → power_in F d r b n ≡ F.times r (product F b n)
  unfolding power_in product
  in_is zero r b n l =
      let e : 0 ≡ n = omega arith in
      sym (unit r) ∙ ap (λ (z : ℕ). F.times r (product F b z)) e
  in_is (suc d) r b n l =
      in_is d (cond (eqb (n % 2) 1) (F.times r b) r) (F.times b b) (n / 2) (half (2 ^ d) (2 ^ suc d) (pow-suc 2 d) l)
      ∙ ap (F.times (cond (eqb (n % 2) 1) (F.times r b) r)) (square b (n / 2))
      ∙ go (eqb (n % 2) 1) (eqb→eq (n % 2) 1) (λ (e : n % 2 ≡ 1). subst (λ (z : ℕ). T (eqb z 1)) (sym e) tt)
    where
      half : (p q : ℕ) → q ≡ p * 2 → n < q → n / 2 < p
      half p q e l = omega arith

      odd : n % 2 ≡ 1 → suc (2 * (n / 2)) ≡ n
      odd e = omega arith

      even : (n % 2 ≡ 1 → ⊥) → 2 * (n / 2) ≡ n
      even h = omega arith

      go : (t : Bool) → (T t → n % 2 ≡ 1) → (n % 2 ≡ 1 → T t) → F.times (cond t (F.times r b) r) (product F b (2 * (n / 2)))
          ≡ F.times r (product F b n)
      go true h k = assoc r b (product F b (2 * (n / 2))) ∙ ap (λ (z : ℕ). F.times r (product F b z)) (odd (h tt))
      go false h k = ap (λ (z : ℕ). F.times r (product F b z)) (even k)

  pub power_is : (x : A) (n : ℕ) → n < 2 ^ 32 → power_of F x n ≡ F.times F.one (product F x n)
  unfolding power_of
  power_is x n l = in_is 32 F.one x n l
