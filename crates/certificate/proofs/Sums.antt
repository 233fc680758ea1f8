-- What the code of an intersection is proved by: laws of its sums and powers, and of its arrays of six pairs or numbers.
use mathlib.Core.List.{List, [], ◌∷◌}
use mathlib.Core.Path.{◌∙◌, ◌≡◌, ap, refl}
use Prim.Native.Nat.{ℕ, zero, suc, ◌+◌, ◌-◌, ◌<◌}
use native.Mathlib.Omega.{arith}
use lib.Ieee.{Float}
use Rattle.window.specs.Cells.{at}
use Rattle.fraction.specs.Binomial.{choose}
use Rattle.fraction.specs.Pair as pairs
use Rattle.figure.specs.Operations.{Operations, ends}
use Rattle.figure.specs.Intersection.{bernstein, power, raised, total}
use Rattle.pairs.specs.Structs.{ends_of}
use Rattle.certificate.specs.Structs.{Holds, pair_at}
use Rattle.pairs.specs.declared.ends.Ends.{Ends}
use Rattle.figure.proofs.Enclosure.{Keeps, bernstein_keeps}

-- ---- sums and powers
module _ {A : Type 0} (o : Operations A) where
  -- no term
  pub total_none : (first n : ℕ) (f : ℕ → A) → n ≡ 0 → o.whole 0 ≡ total o first n f
  unfolding total
  total_none first n f e = rw e

  -- one more term, f i
  pub total_more : (first n m i : ℕ) (f : ℕ → A) (s t r : A) → first + n ≡ i → suc n ≡ m → s ≡ total o first n f → t ≡ f i → r ≡ o.plus s t
      → r ≡ total o first m f
  unfolding total
  total_more first n m i f s t r a b p q e = rw (e, p, q, ← a, ← b)

  -- the terms are the same
  total_same : (first n : ℕ) (f g : ℕ → A) → ((i : ℕ) → i < n → f (first + i) ≡ g (first + i)) → total o first n f ≡ total o first n g
  unfolding total
  total_same first zero f g h = refl
  total_same first (suc n) f g h =
      ap (λ (s : A). o.plus s (f (first + n))) (total_same first n f g (λ i l. h i (omega arith)))
      ∙ ap (o.plus (total o first n g)) (h n (omega arith))

-- each operation keeps equality
pub same_keeps : {A : Type 0} (o : Operations A) → Keeps o o (◌≡◌ {A = A})
same_keeps o =
    record {
      number = λ x. refl;
      whole = λ n l. refl;
      plus = λ a c b d p q. rw (p, q);
      minus = λ a c b d p q. rw (p, q);
      times = λ a c b d p q. rw (p, q);
      over = λ a c b d p q. rw (p, q);
    }

-- ---- an array of six pairs
pub holds_six : (p q r s t u : Ends) (f : ℕ → pairs.Ends) → ends_of p ≡ f 0 → ends_of q ≡ f 1 → ends_of r ≡ f 2 → ends_of s ≡ f 3 → ends_of t
    ≡ f 4 → ends_of u ≡ f 5
    → Holds (p ∷ q ∷ r ∷ s ∷ t ∷ u ∷ []) f
holds_six p q r s t u f a b c d e g zero l = a
holds_six p q r s t u f a b c d e g (suc zero) l = b
holds_six p q r s t u f a b c d e g (suc (suc zero)) l = c
holds_six p q r s t u f a b c d e g (suc (suc (suc zero))) l = d
holds_six p q r s t u f a b c d e g (suc (suc (suc (suc zero)))) l = e
holds_six p q r s t u f a b c d e g (suc (suc (suc (suc (suc zero))))) l = g
holds_six p q r s t u f a b c d e g (suc (suc (suc (suc (suc (suc j)))))) l = absurd (omega arith)

-- the Bernstein coefficients of the pairs that it holds
pub holds_bernstein : (l : List Ends) (f : ℕ → pairs.Ends) → Holds l f → (k : ℕ) → k < 6 → bernstein ends (pair_at l) k ≡ bernstein ends f k
holds_bernstein l f h k m = bernstein_keeps ends ends (◌≡◌ {A = pairs.Ends}) (same_keeps ends) (pair_at l) f k (omega arith)
    (λ j n. h j (omega arith))

-- the first one
pub bernstein_zero : (q : ℕ → pairs.Ends) → ends.plus (ends.whole 0) (ends.over (ends.times (q 0) (ends.whole 1)) (ends.whole 1))
    ≡ bernstein ends q 0
unfolding bernstein
bernstein_zero q = refl

-- power j, of the powers of u that it holds and of w^j
pub held_power : (p : ℕ → Float) (l : List Ends) (u w v : pairs.Ends) (j : ℕ) → j < 6 → Holds l (raised ends u) → v ≡ raised ends w j
    → ends.times (total ends j (6 - j) (λ k. ends.times (ends.times (ends.whole (choose k j)) (ends.number (p k))) (pair_at l (k -
    j)))) v
    ≡ power ends (λ k. ends.number (p k)) u w j
unfolding power
held_power p l u w v j m h e =
    rw e (ap (λ (s : pairs.Ends). ends.times s (raised ends w j)) (total_same ends j (6 - j) _ _
    (λ i n. ap (ends.times (ends.times (ends.whole (choose (j + i) j)) (ends.number (p (j + i))))) (h (j + i - j) (omega arith)))))

-- ---- an array of six numbers
pub six_at : (a b c d e g : Float) (f : ℕ → Float) → a ≡ f 0 → b ≡ f 1 → c ≡ f 2 → d ≡ f 3 → e ≡ f 4 → g ≡ f 5 → (i : ℕ) → i < 6
    → at (a ∷ b ∷ c ∷ d ∷ e ∷ g ∷ []) i ≡ f i
six_at a b c d e g f p q r s t u zero l = p
six_at a b c d e g f p q r s t u (suc zero) l = q
six_at a b c d e g f p q r s t u (suc (suc zero)) l = r
six_at a b c d e g f p q r s t u (suc (suc (suc zero))) l = s
six_at a b c d e g f p q r s t u (suc (suc (suc (suc zero)))) l = t
six_at a b c d e g f p q r s t u (suc (suc (suc (suc (suc zero))))) l = u
six_at a b c d e g f p q r s t u (suc (suc (suc (suc (suc (suc i)))))) l = absurd (omega arith)
