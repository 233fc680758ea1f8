-- Numbers that are finite and rise, tested from the first on: what the test of the parameters (5) keeps in its loop.
use mathlib.Core.Path.{◌≡◌, refl, sym, ap, ◌∙◌}
use mathlib.Core.Bool.{Bool, true, false, not, ◌||◌, or-true}
use Prim.Native.Nat.{ℕ, ◌+◌, ◌-◌, ◌≤◌, ◌<◌}
use native.Mathlib.Omega.{arith}
use lib.Ieee.{Float, le}
use lib.Ieee.Scale.{finite}
use Rattle.arith.proofs.Truth.{or_none}
use Rattle.request.specs.Any.{any}
use Rattle.request.specs.Parameters.{any_fall}
use Rattle.request.proofs.Anys.{any_next, any_found}

module _ (x : ℕ → Float) where
  -- the numbers up to i are finite, and none is at or below the one before it
  abbrev pub InPlace : ℕ → Type 0
  InPlace i = (any (i + 1) (λ j. not (finite (x j))) ≡ false) × (any i (λ j. le (x (j + 1)) (x j)) ≡ false)

  pub in_place_first : finite (x 0) ≡ true → InPlace 0
  unfolding any
  in_place_first h = (any_next (λ j. not (finite (x j))) 0 refl (ap not h), refl)

  -- one number more
  pub in_place_next : (i : ℕ) → InPlace i → (not (finite (x (i + 1))) || le (x (i + 1)) (x i)) ≡ false → InPlace (i + 1)
  in_place_next i s h =
      let e = or_none (not (finite (x (i + 1)))) (le (x (i + 1)) (x i)) h in
      (any_next (λ j. not (finite (x j))) (i + 1) s.0 e.0, any_next (λ j. le (x (j + 1)) (x j)) i s.1 e.1)

  module _ (n : ℕ) (some : 1 ≤ n) where
    pub in_place_last : (i : ℕ) → i ≡ n - 1 → InPlace i → (any n (λ j. not (finite (x j))) || any_fall n x) ≡ false
    in_place_last i e s =
        let g : i + 1 ≡ n = omega arith in
        let a : any n (λ j. not (finite (x j))) ≡ false = rw g at s.0 in
        let b : any_fall n x ≡ false = rw e at s.1 in
        rw (a, b)

    -- the first is not finite; a later one is not, or is at or below the one before it
    pub misplaced_first : finite (x 0) ≡ false → (any n (λ j. not (finite (x j))) || any_fall n x) ≡ true
    misplaced_first h = rw (any_found (λ j. not (finite (x j))) n 0 (omega arith) (ap not h))

    pub misplaced_found : (i : ℕ) → i < n - 1 → (not (finite (x (i + 1))) || le (x (i + 1)) (x i)) ≡ true
        → (any n (λ j. not (finite (x j))) || any_fall n x) ≡ true
    misplaced_found i l h = go (not (finite (x (i + 1)))) refl h
      where
        go : (b : Bool) → not (finite (x (i + 1))) ≡ b → (b || le (x (i + 1)) (x i)) ≡ true
            → (any n (λ j. not (finite (x j))) || any_fall n x) ≡ true
        go true e g = rw (any_found (λ j. not (finite (x j))) n (i + 1) (omega arith) e)
        go false e g = rw (any_found (λ j. le (x (j + 1)) (x j)) (n - 1) i l g) (or-true (any n (λ j. not (finite (x j)))))

-- the test of two numbers, by other names of them
pub test_same : {b : Bool} (x x' y y' : Float) → x ≡ x' → y ≡ y' → b ≡ (not (finite x) || le x y) → (not (finite x') || le x' y') ≡ b
test_same x x' y y' p q h = sym (h ∙ (λ i. not (finite (p i)) || le (p i) (q i)))
