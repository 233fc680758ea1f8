-- The laws of `first_of` and `every`: how a loop that tests one number after the other finds the first that passes.
use mathlib.Core.Path.{◌≡◌, refl, ap}
use mathlib.Core.Bool.{Bool, true, false, not, cond}
use Prim.Native.Nat.{ℕ, zero, suc, ◌+◌, ◌≤◌, ◌<◌}
use native.Mathlib.Omega.{arith}
use native.Mathlib.Decide.{dec_lt}
use native.Mathlib.Numerals.{add-one}
use borrow.Author.Tests.{lt-ltb, le-ltb, eq-eqb, ne_eqb, eqb-true, ltb-true, ltb-false, not-false}
use lib.Dec.{ltb}
use Rattle.arith.specs.First.{first_of, every}

module _ (test : ℕ → Bool) where
  -- none passed up to i, and i does not
  pub first_next : (i : ℕ) → first_of i test ≡ i → test i ≡ false → first_of (i + 1) test ≡ i + 1
  unfolding first_of
  first_next i e t = rw (add-one, e, le-ltb i i (omega arith), t)

  -- none passed up to i, and i does
  pub first_found : (n i : ℕ) → i < n → first_of i test ≡ i → test i ≡ true → first_of n test ≡ i
  unfolding first_of
  first_found zero i l e t = absurd (omega arith)
  first_found (suc n) i l e t = elim (dec_lt i n) [
    | yes g ↦ rw (first_found n i g e t, lt-ltb i n g)
    | no g ↦
        let q : n ≡ i = omega arith in rw (q, e, le-ltb i i (omega arith), t)
  ]

  pub first_le : (n : ℕ) → first_of n test ≤ n
  unfolding first_of
  first_le zero = omega arith
  first_le (suc n) = go (ltb (first_of n test) n) (test n) (first_le n)
    where
      go : (b t : Bool) → first_of n test ≤ n → cond b (first_of n test) (cond t n (suc n)) ≤ suc n
      go true t h = omega arith
      go false true h = omega arith
      go false false h = omega arith

  -- none passes
  pub first_all : (n : ℕ) → ((j : ℕ) → j < n → test j ≡ false) → first_of n test ≡ n
  unfolding first_of
  first_all zero h = refl
  first_all (suc n) h = rw (first_all n (λ j l. h j (omega arith)), le-ltb n n (omega arith), h n (omega arith))

  -- one number more is tested
  pub first_more : (n : ℕ) → first_of n test ≡ n → first_of (suc n) test ≡ cond (test n) n (suc n)
  unfolding first_of
  first_more n e = rw (e, le-ltb n n (omega arith))

  -- what was found stays
  pub first_stays : (n : ℕ) → first_of n test < n → first_of (suc n) test ≡ first_of n test
  unfolding first_of
  first_stays n l = rw (lt-ltb (first_of n test) n l)

  -- none before the first passes
  pub first_before : (n j : ℕ) → j < first_of n test → test j ≡ false
  unfolding first_of
  first_before zero j l = absurd (omega arith)
  first_before (suc n) j l = go (ltb (first_of n test) n) refl (test n) refl l (first_before n j)
    where
      go : (b : Bool) → ltb (first_of n test) n ≡ b → (t : Bool) → test n ≡ t → j < cond b (first_of n test) (cond t n (suc n))
          → (j < first_of n test → test j ≡ false) → test j ≡ false
      go true e t f g again = again g
      go false e true f g again =
          let h = ltb-false (first_of n test) n e in again (omega arith)
      go false e false f g again = elim (dec_lt j n) [
        | yes m ↦
            let h = ltb-false (first_of n test) n e in again (omega arith)
        | no m ↦
            let q : j ≡ n = omega arith in rw q f
      ]

-- every number below n passes
module _ (test : ℕ → Bool) where
  pub every_all : (n : ℕ) → first_of n (λ i. not (test i)) ≡ n → every n test ≡ true
  every_all n e = eq-eqb (first_of n (λ i. not (test i))) n e

  pub every_not : (n i : ℕ) → i < n → first_of i (λ i. not (test i)) ≡ i → test i ≡ false → every n test ≡ false
  every_not n i l e t =
      let f = first_found (λ i. not (test i)) n i l e (ap not t) in
      ne_eqb (first_of n (λ i. not (test i))) n (λ g. absurd (omega arith))

  pub every_at : (n : ℕ) → every n test ≡ true → (i : ℕ) → i < n → test i ≡ true
  every_at n h i l =
      let e = eqb-true (first_of n (λ i. not (test i))) n h in
      not-false (test i) (first_before (λ i. not (test i)) n i (omega arith))

-- the first number that passes a test does pass it
pub first_passes : (test : ℕ → Bool) (n : ℕ) → first_of n test < n → test (first_of n test) ≡ true
unfolding first_of
first_passes test zero l = absurd (omega arith)
first_passes test (suc n) l = go (ltb (first_of n test) n) refl (test n) refl l (first_passes test n)
  where
    go : (b : Bool) → ltb (first_of n test) n ≡ b → (t : Bool) → test n ≡ t → cond b (first_of n test) (cond t n (suc n)) < suc n
        → (first_of n test < n → test (first_of n test) ≡ true) → test (cond b (first_of n test) (cond t n (suc n))) ≡ true
    go true e t f g again = again (ltb-true (first_of n test) n e)
    go false e true f g again = f
    go false e false f g again = absurd (omega arith)

-- the first that passes depends on the tests below the bound alone
pub first_same : (f g : ℕ → Bool) (n : ℕ) → ((i : ℕ) → i < n → f i ≡ g i) → first_of n f ≡ first_of n g
unfolding first_of
first_same f g zero h = refl
first_same f g (suc n) h =
    let e = first_same f g n (λ i l. h i (omega arith)) in rw (e, h n (omega arith))
