-- The audit's step over exact fractions: on a piece of a segment its six Bernstein coefficients are those of curve minus line, so that
-- their largest absolute value bounds the distance there. The loops are tied to the sums of crate `fraction`, whose laws hold for every
-- degree.
use mathlib.Core.Path.{◌≡◌, refl, sym, ap, ◌∙◌, subst}
use mathlib.Core.List.{List, [], ◌∷◌}
use Prim.Native.Nat.{ℕ, zero, suc, ◌+◌, ◌-◌, ◌^◌, ◌≤◌, ◌<◌}
use native.Mathlib.Omega.{arith}
use lib.IntN.{pos}
use lib.ListN.{get_or}
use Rattle.arith.specs.Loop.{each}
use Rattle.float.specs.Power.{power_of}
use Rattle.fraction.specs.Bernstein.{bernstein, bernstein_coefficient, bernstein_form}
use Rattle.fraction.specs.Binomial.{choose}
use Rattle.fraction.specs.Polynomial.{polynomial, expanded_coefficient}
use Rattle.fraction.specs.Rational.{ℚ, wholeq, ◌+q◌, ◌-q◌, ◌*q◌, ◌/q◌, negq, inverse, ◌≤q◌, ◌<q◌, 𝟘, 𝟙}
use Rattle.fraction.specs.RationalRing.{rational_ring}
use Rattle.fraction.specs.Ring.{◌⊕◌, ◌⊖◌, ◌⊗◌, solve, combine, v0, v1, v2, v3, v4, v5, v6, v7, v8}
use Rattle.fraction.specs.Sum.{sum, power}
use Rattle.fraction.proofs.Binomial.{choose_above}
use Rattle.fraction.proofs.Bernstein.{powers_to_bernstein, within}
use Rattle.fraction.proofs.Polynomial.{expand}
use Rattle.fraction.specs.Order.{le_one, nonnegative_difference}
use Rattle.fraction.proofs.Inverse.{inverse_is, inverse_nonnegative}
use Rattle.fraction.proofs.Rational.{rational_order, <q-weaken, ≤q-mul, difference_above}
use Rattle.fraction.proofs.Sum.{sum_equal, sum_scale, sum_last}
use Rattle.book.specs.Fractions.{fractions}
use Rattle.polynomial.specs.Piece.{add_term, piece_power, error_of, add_share, bernstein_of, bernstein_coefficients, piece_from, error_form}
use Rattle.book.specs.Audit.{line_at, piece_errors}
use Rattle.arith.proofs.Loops.{each_runs}
use Rattle.book.proofs.Terms.{n0, n1, power_term}
use Rattle.book.proofs.Binomials.{choose_is}
use Rattle.book.proofs.WholePowers.{power_of_is}

-- ---- a loop that adds f a to f (b - 1) gives the sum of all f 0 to f n, where the others are 0
module _ (f : ℕ → ℚ) where
  abbrev total : ℕ → ℚ
  total zero = 𝟘
  total (suc i) = total i +q f i

  total_sum : (n : ℕ) → total (suc n) ≡ sum rational_ring n f
  total_sum zero = solve rational_ring (f 0 ∷ []) (n0 ⊕ v0) v0 tt
  total_sum (suc n) = ap (λ (z : ℚ). z +q f (suc n)) (total_sum n) ∙ sym (sum_last rational_ring n f)

  -- terms that are 0 add nothing
  total_same : (i d : ℕ) → ((j : ℕ) → i ≤ j → j < i + d → f j ≡ 𝟘) → total (i + d) ≡ total i
  total_same i zero h = let e : i + 0 ≡ i = omega arith in rw e
  total_same i (suc d) h =
      let e : i + suc d ≡ suc (i + d) = omega arith in
      rw e (ap (λ (z : ℚ). total (i + d) +q z) (h (i + d) (omega arith) (omega arith)) ∙ solve rational_ring (total (i + d) ∷ []) (v0 ⊕
      n0) v0 tt
      ∙ total_same i d (λ j l g. h j l (omega arith)))

  pub loop_sum : (step : ℕ → ℚ → ℚ) (a b n : ℕ) → a ≤ b → b ≤ n + 1 → ((i : ℕ) (v : ℚ) → a ≤ i → i < b → step i v ≡ v +q f i)
      → ((i : ℕ) → i < a → f i ≡ 𝟘) → ((i : ℕ) → b ≤ i → i ≤ n → f i ≡ 𝟘) → each step a b 𝟘 ≡ sum rational_ring n f
  loop_sum step a b n ab bn adds low high =
      let e : suc n ≡ b + (n + 1 - b) = omega arith in
      let z : 0 + a ≡ a = omega arith in
      each_runs (λ (i : ℕ) (v : ℚ). v ≡ total i) step a b 𝟘 ab
      (λ i v l g h.
      let s : suc i ≡ i + 1 = omega arith in
      adds i v l g ∙ ap (λ (y : ℚ). y +q f i) h ∙ ap total s)
      (sym (rw z at (total_same 0 a (λ j l g. low j (omega arith)))))
      ∙ sym (total_same b (n + 1 - b) (λ j l g. high j l (omega arith))) ∙ ap total (sym e) ∙ total_sum n

-- ---- the Bernstein coefficients of six powers
bernstein_is : (p : List ℚ) (k : ℕ) → k ≤ 5 → bernstein_of fractions p k ≡ bernstein_coefficient 5 (λ j. get_or p j 𝟘) k
unfolding bernstein_of add_share
bernstein_is p k h =
    loop_sum (λ j. get_or p j 𝟘 *q wholeq (pos (choose k j)) /q wholeq (pos (choose 5 j))) (add_share fractions p k) 0 (k + 1) 5 (omega arith)
    (omega arith)
    (λ j v l g. rw (choose_is k j (omega arith) (omega arith), choose_is 5 j (omega arith) (omega arith)))
    (λ j l. absurd (omega arith))
    (λ j l g. rw (choose_above k j (omega arith)) (solve rational_ring (get_or p j 𝟘 ∷ inverse (wholeq (pos (choose 5 j))) ∷ []) (v0 ⊗ n0 ⊗ v1)
    n0 tt))

-- The code's coefficients are the Bernstein coefficients of the polynomial with powers p: their sum over B_{k,5}(y) (eq. 1.8) is its value
-- at y.
pub bernstein_form_law : (p : List ℚ) (y : ℚ) → bernstein_form rational_ring 5 (bernstein_of fractions p) y
    ≡ polynomial rational_ring 5 (λ j. get_or p j 𝟘) y
bernstein_form_law p y =
    sum_equal rational_ring 5 (λ k. bernstein_of fractions p k *q bernstein rational_ring 5 k y)
    (λ k. bernstein_coefficient 5 (λ j. get_or p j 𝟘) k *q bernstein rational_ring 5 k y)
    (λ k l. ap (λ (z : ℚ). z *q bernstein rational_ring 5 k y) (bernstein_is p k l))
    ∙ powers_to_bernstein 5 (λ j. get_or p j 𝟘) y

-- ---- the local parameter of an x from left to right lies from 0 to 1
fraction_low : (left right x : ℚ) → left <q right → left ≤q x → 𝟘 ≤q (x -q left) /q (right -q left)
fraction_low left right x piece h =
    ≤q-mul (x -q left) (inverse (right -q left)) (nonnegative_difference rational_ring ◌≤q◌ rational_order left x h)
    (inverse_nonnegative (right -q left) (nonnegative_difference rational_ring ◌≤q◌ rational_order left right (<q-weaken left right piece)))

fraction_high : (left right x : ℚ) → left <q right → x ≤q right → (x -q left) /q (right -q left) ≤q 𝟙
fraction_high left right x piece h =
    let w : ℚ = right -q left in
    let i = inverse_is w (difference_above left right piece) in
    subst (λ (z : ℚ). (x -q left) /q w ≤q z) i
    (le_one rational_ring ◌≤q◌ rational_order (x ∷ left ∷ right ∷ inverse w ∷ []) ((v0 ⊖ v1) ⊗ v3) ((v2 ⊖ v1) ⊗ v3) v3 v0 v2 tt
    (inverse_nonnegative w (nonnegative_difference rational_ring ◌≤q◌ rational_order left right (<q-weaken left right piece))) h)

-- ---- on a piece
small : (n : ℕ) → n < 6 → n < 2 ^ 32
small n h = omega arith

power_is : (p : List ℚ) (u w : ℚ) (j : ℕ) → j < 6 → piece_power fractions (power_of fractions) p u w j
    ≡ expanded_coefficient rational_ring 5 (λ k. get_or p k 𝟘) u w j
unfolding piece_power add_term
power_is p u w j h =
    let f : ℕ → ℚ = λ k. wholeq (pos (choose k j)) *q get_or p k 𝟘 *q power rational_ring u (k - j) in
    ap (λ (z : ℚ). z *q power_of fractions w j)
    (loop_sum f (add_term fractions (power_of fractions) p u j) j 6 5 (omega arith) (omega arith)
    (λ k v l g. rw (choose_is k j g l, power_of_is u (k - j) (small (k - j) (omega arith))))
    (λ k l. rw (choose_above k j l) (solve rational_ring (get_or p k 𝟘 ∷ power rational_ring u (k - j) ∷ []) (n0 ⊗ v0 ⊗ v1) n0 tt))
    (λ k l g. absurd (omega arith)))
    ∙ ap (λ (z : ℚ). sum rational_ring 5 f *q z) (power_of_is w j (small j h))
    ∙ rational_ring.mul_comm (sum rational_ring 5 f) (power rational_ring w j)
    ∙ sym (sum_scale rational_ring 5 (power rational_ring w j) f)
    ∙ sum_equal rational_ring 5 (λ k. power rational_ring w j *q f k) (λ k. wholeq (pos (choose k j)) *q
    (get_or p k 𝟘 *q (power rational_ring u (k - j) *q power rational_ring w j)))
    (λ k l. solve rational_ring (wholeq (pos (choose k j)) ∷ get_or p k 𝟘 ∷ power rational_ring u (k - j) ∷ power rational_ring w j ∷ [])
    (v3 ⊗ (v0 ⊗ v1 ⊗ v2)) (v0 ⊗ (v1 ⊗ (v2 ⊗ v3))) tt)

-- The powers less the line are those of the segment's polynomial at u + w y, less a + b y.
pub piece_powers_law : (p : List ℚ) (u w a b y : ℚ)
    → polynomial rational_ring 5 (λ j. get_or (error_of fractions (power_of fractions) p u w a b) j 𝟘) y
    ≡ polynomial rational_ring 5 (λ k. get_or p k 𝟘) (u +q w *q y) -q (a +q b *q y)
unfolding error_of
piece_powers_law p u w a b y =
    let e : ℕ → ℚ = λ j. expanded_coefficient rational_ring 5 (λ k. get_or p k 𝟘) u w j in
    rw (
      power_is p u w 0 (omega arith),
      power_is p u w 1 (omega arith),
      power_is p u w 2 (omega arith),
      power_is p u w 3 (omega arith),
      power_is p u w 4 (omega arith),
      power_is p u w 5 (omega arith),
    )
    (solve rational_ring (e 0 ∷ e 1 ∷ e 2 ∷ e 3 ∷ e 4 ∷ e 5 ∷ y ∷ a ∷ b ∷ [])
    ((v0 ⊖ v7) ⊗ power_term v6 0 ⊕ ((v1 ⊖ v8) ⊗ power_term v6 1 ⊕
    (v2 ⊗ power_term v6 2 ⊕ (v3 ⊗ power_term v6 3 ⊕ (v4 ⊗ power_term v6 4 ⊕ v5 ⊗ power_term v6 5)))))
    (v0 ⊗ power_term v6 0 ⊕ (v1 ⊗ power_term v6 1 ⊕ (v2 ⊗ power_term v6 2 ⊕
    (v3 ⊗ power_term v6 3 ⊕ (v4 ⊗ power_term v6 4 ⊕ v5 ⊗ power_term v6 5)))) ⊖ (v7 ⊕ v8 ⊗ v6)) tt
    ∙ ap (λ (z : ℚ). z -q (a +q b *q y)) (sym (expand rational_ring 5 (λ k. get_or p k 𝟘) u w y)))

-- Their Bernstein coefficients, summed over B_{k,5}(y), are that too: curve minus line on the piece.
pub piece_is : (p : List ℚ) (u w a b y : ℚ)
    → bernstein_form rational_ring 5 (bernstein_of fractions (error_of fractions (power_of fractions) p u w a b)) y
    ≡ polynomial rational_ring 5 (λ k. get_or p k 𝟘) (u +q w *q y) -q (a +q b *q y)
piece_is p u w a b y = bernstein_form_law (error_of fractions (power_of fractions) p u w a b) y ∙ piece_powers_law p u w a b y

-- one of the six, by its number
form_at : (p : List ℚ) (k : ℕ) → k ≤ 5 → get_or (bernstein_coefficients fractions p) k 𝟘 ≡ bernstein_of fractions p k
unfolding bernstein_coefficients
form_at p zero h = refl
form_at p (suc zero) h = refl
form_at p (suc (suc zero)) h = refl
form_at p (suc (suc (suc zero))) h = refl
form_at p (suc (suc (suc (suc zero)))) h = refl
form_at p (suc (suc (suc (suc (suc zero))))) h = refl
form_at p (suc (suc (suc (suc (suc (suc k)))))) h = absurd (omega arith)

-- The piece from left to right: where all six Bernstein coefficients lie from -M to M, so does the segment's value at x less the line's,
-- for every x of the piece.
pub piece_bound : (p : List ℚ) (a b s₀ s₁ y₀ y₁ left right M : ℚ) → left <q right
    → ((k : ℕ) → k ≤ 5 → (negq M ≤q get_or (piece_errors p a b s₀ s₁ y₀ y₁ left right) k 𝟘)
    × (get_or (piece_errors p a b s₀ s₁ y₀ y₁ left right) k 𝟘 ≤q M))
    → (x : ℚ) → left ≤q x → x ≤q right
    → (negq M ≤q polynomial rational_ring 5 (λ k. get_or p k 𝟘) ((x -q a) /q (b -q a)) -q line_at s₀ s₁ y₀ y₁ x)
    × (polynomial rational_ring 5 (λ k. get_or p k 𝟘) ((x -q a) /q (b -q a)) -q line_at s₀ s₁ y₀ y₁ x ≤q M)
unfolding error_form piece_from
piece_bound p a b s₀ s₁ y₀ y₁ left right M piece h x low high =
    let u : ℚ = (left -q a) /q (b -q a) in
    let w : ℚ = (right -q left) /q (b -q a) in
    let slope : ℚ = (right -q left) /q (s₁ -q s₀) *q (y₁ -q y₀) in
    let q = error_of fractions (power_of fractions) p u w (line_at s₀ s₁ y₀ y₁ left) slope in
    let r : ℚ = right -q left in
    let y : ℚ = (x -q left) /q r in
    let i = inverse_is r (difference_above left right piece) in
    let local : u +q w *q y ≡ (x -q a) /q (b -q a) =
    combine rational_ring (x ∷ left ∷ a ∷ r ∷ inverse r ∷ inverse (b -q a) ∷ []) ((v1 ⊖ v2) ⊗ v5 ⊕ v3 ⊗ v5 ⊗ ((v0 ⊖ v1) ⊗ v4))
    ((v0 ⊖ v2) ⊗ v5) ((v0 ⊖ v1) ⊗ v5) (v3 ⊗ v4) n1 tt i in
    let line : line_at s₀ s₁ y₀ y₁ left +q slope *q y ≡ line_at s₀ s₁ y₀ y₁ x =
    combine rational_ring (x ∷ left ∷ s₀ ∷ r ∷ inverse r ∷ inverse (s₁ -q s₀) ∷ y₀ ∷ (y₁ -q y₀) ∷ [])
    (v6 ⊕ (v1 ⊖ v2) ⊗ v5 ⊗ v7 ⊕ v3 ⊗ v5 ⊗ v7 ⊗ ((v0 ⊖ v1) ⊗ v4)) (v6 ⊕ (v0 ⊖ v2) ⊗ v5 ⊗ v7) ((v0 ⊖ v1) ⊗ v5 ⊗ v7) (v3 ⊗ v4) n1 tt i in
    subst (λ (z : ℚ). (negq M ≤q z) × (z ≤q M))
    (piece_powers_law p u w (line_at s₀ s₁ y₀ y₁ left) slope y
    ∙ ap (λ (z : ℚ). polynomial rational_ring 5 (λ k. get_or p k 𝟘) z -q (line_at s₀ s₁ y₀ y₁ left +q slope *q y)) local
    ∙ ap (λ (z : ℚ). polynomial rational_ring 5 (λ k. get_or p k 𝟘) ((x -q a) /q (b -q a)) -q z) line)
    (within 5 (λ j. get_or q j 𝟘) M y
    (λ k l. subst (λ (z : ℚ). (negq M ≤q z) × (z ≤q M)) (form_at q k l ∙ bernstein_is q k l) (h k l))
    (fraction_low left right x piece low) (fraction_high left right x piece high))
