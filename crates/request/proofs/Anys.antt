-- The laws of `any`: how a loop that tests one number after the other ends.
use mathlib.Core.Path.{◌≡◌, refl}
use mathlib.Core.Bool.{Bool, true, false, ◌||◌}
use Prim.Native.Nat.{ℕ, zero, suc, ◌+◌, ◌<◌}
use native.Mathlib.Omega.{arith}
use native.Mathlib.Decide.{dec_lt}
use native.Mathlib.Numerals.{add-one}
use lib.Ieee.{Float, le}
use Rattle.arith.proofs.Truth.{or_none}
use Rattle.request.specs.Any.{any}

module _ (test : ℕ → Bool) where
  -- none passed up to i, and i does not
  pub any_next : (i : ℕ) → any i test ≡ false → test i ≡ false → any (i + 1) test ≡ false
  unfolding any
  any_next i e t = rw (add-one, e, t)

  -- each fails
  pub any_all : (n : ℕ) → ((i : ℕ) → i < n → test i ≡ false) → any n test ≡ false
  unfolding any
  any_all zero h = refl
  any_all (suc n) h = rw (any_all n (λ i l. h i (omega arith)), h n (omega arith))

  -- one passes
  pub any_found : (n i : ℕ) → i < n → test i ≡ true → any n test ≡ true
  unfolding any
  any_found zero i l t = absurd (omega arith)
  any_found (suc n) i l t = elim (dec_lt i n) [
    | yes g ↦ rw (any_found n i g t)
    | no g ↦
        let e : n ≡ i = omega arith in rw (e, t) (or_true (any i test))
  ]
    where
      or_true : (b : Bool) → (b || true) ≡ true
      or_true true = refl
      or_true false = refl

  -- none passes
  pub any_none : (n : ℕ) → any n test ≡ false → (i : ℕ) → i < n → test i ≡ false
  unfolding any
  any_none zero h i l = absurd (omega arith)
  any_none (suc n) h i l =
      let p = or_none (any n test) (test n) h in elim (dec_lt i n) [
        | yes g ↦ any_none n p.0 i g
        | no g ↦
            let e : i ≡ n = omega arith in rw e p.1
      ]

-- a test of two numbers, by other names of them
pub le_same : {b : Bool} (x x' y y' : Float) → x ≡ x' → y ≡ y' → le x y ≡ b → le x' y' ≡ b
le_same x x' y y' p q h = rw (← p, ← q) h
