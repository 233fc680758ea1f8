-- Every pair in the figure's computation encloses its exact value. `Keeps` says that a relation is kept by each operation;
-- `bernstein_keeps` follows for any two arithmetics and any such relation. At end pairs and exact fractions the relation is `Encloses`: so
-- the theorems above this file rest on the four operations enclosing, and on nothing else of them.
use mathlib.Core.Bool.{Bool, ◌&&◌, cond, false, true}
use mathlib.Core.Path.{◌≡◌, subst, sym}
use Prim.Native.Nat.{ℕ, zero, suc, ◌+◌, ◌-◌, ◌<◌, ◌≤◌}
use native.Mathlib.Decide.{dec_lt}
use native.Mathlib.Omega.{arith}
use lib.Dec.{T, leb, leb→le}
use lib.Ieee.{Float, binary64, climb, odd, round, size, span, units}
use lib.Ieee.Scale.{finite}
use lib.IntN.{pos}
use Rattle.fraction.specs.Binomial.{choose}
use Rattle.fraction.specs.Pair.{Between, Contains, Ends, add_pairs, divide_pairs, finite_ends, is_pair, multiply_pairs, none, pair, subtract_pairs}
use Rattle.fraction.specs.Rational.{◌*q◌, ◌+q◌, ◌-q◌, ◌/q◌, at_mostq, wholeq, ℚ}
use Rattle.fraction.specs.Value.{value}
use Rattle.fraction.proofs.Pair.{Strict, add_contains, add_strict, divide_contains, divide_strict, multiply_contains, multiply_strict, point_contains, subtract_contains, subtract_strict}
use Rattle.figure.specs.Operations.{Operations, ends}
use Rattle.figure.specs.Intersection.{Intersection, bernstein, difference_bernstein, difference_power, line_at_left, line_rise, offset, power, raised, scale, total, without}

-- the same operations on exact fractions
abbrev pub exact : Operations ℚ
exact = record { number = value; whole = λ n. wholeq (pos n); plus = ◌+q◌; minus = ◌-q◌; times = ◌*q◌; over = ◌/q◌ }

-- ---- a test of every number below n
all_below : ℕ → (ℕ → Bool) → Bool
all_below zero f = true
all_below (suc n) f = all_below n f && f n

both : (a b : Bool) → T (a && b) → T a × T b
both true b t = (tt, t)
both false b t = absurd t

below_is : (n : ℕ) (f : ℕ → Bool) → T (all_below n f) → (k : ℕ) → k < n → T (f k)
unfolding all_below
below_is zero f t k l = absurd (omega arith)
below_is (suc n) f t k l = elim (dec_lt k n) [
  | yes h ↦ below_is n f (both (all_below n f) (f n) t).0 k h
  | no h ↦ let e : n ≡ k = omega arith in subst (λ (z : ℕ). T (f z)) e (both (all_below n f) (f n) t).1
]

-- no binomial here is above 10
choose_small : (k j : ℕ) → k ≤ 5 → j ≤ 5 → choose k j ≤ 10
unfolding all_below
choose_small k j hk hj = leb→le (choose k j) 10 (below_is 6 (λ b. leb (choose k b) 10)
    (below_is 6 (λ a. all_below 6 (λ b. leb (choose a b) 10)) tt k (omega arith)) j (omega arith))

-- ---- relations that the operations keep
pub record Keeps {A B : Type 0} (o : Operations A) (e : Operations B) (R : A → B → Type 0) : Type 0 where
  pub number : (x : Float) → R (o.number x) (e.number x)
  pub whole : (n : ℕ) → n ≤ 10 → R (o.whole n) (e.whole n)
  pub plus : (a c : A) (b d : B) → R a b → R c d → R (o.plus a c) (e.plus b d)
  pub minus : (a c : A) (b d : B) → R a b → R c d → R (o.minus a c) (e.minus b d)
  pub times : (a c : A) (b d : B) → R a b → R c d → R (o.times a c) (e.times b d)
  pub over : (a c : A) (b d : B) → R a b → R c d → R (o.over a c) (e.over b d)

module _ {A B : Type 0} (o : Operations A) (e : Operations B) (R : A → B → Type 0) (K : Keeps o e R) where
  total_keeps : (first count : ℕ) (f : ℕ → A) (g : ℕ → B) → ((k : ℕ) → first ≤ k → k < first + count → R (f k) (g k))
      → R (total o first count f) (total e first count g)
  unfolding total
  total_keeps first zero f g h = K.whole 0 (omega arith)
  total_keeps first (suc n) f g h =
      K.plus (total o first n f) (f (first + n)) (total e first n g) (g (first + n))
      (total_keeps first n f g (λ k a l. h k a (omega arith))) (h (first + n) (omega arith) (omega arith))

  raised_keeps : (u : A) (v : B) (k : ℕ) → R u v → R (raised o u k) (raised e v k)
  unfolding raised
  raised_keeps u v zero h = K.whole 1 (omega arith)
  raised_keeps u v (suc k) h = K.times (raised o u k) u (raised e v k) v (raised_keeps u v k h) h

  binomial_keeps : (k j : ℕ) → k ≤ 5 → j ≤ 5 → R (o.whole (choose k j)) (e.whole (choose k j))
  binomial_keeps k j hk hj = K.whole (choose k j) (choose_small k j hk hj)

  pub power_keeps : (p : ℕ → A) (q : ℕ → B) (u w : A) (v z : B) (j : ℕ) → j ≤ 5 → ((k : ℕ) → k ≤ 5 → R (p k) (q k)) → R u v → R w z
      → R (power o p u w j) (power e q v z j)
  unfolding power
  power_keeps p q u w v z j l h U W =
      K.times _ _ _ _
      (total_keeps j (6 - j) _ _ (λ k a b. K.times _ _ _ _ (K.times _ _ _ _ (binomial_keeps k j (omega arith) l) (h k (omega arith)))
      (raised_keeps u v (k - j) U)))
      (raised_keeps w z j W)

  pub without_keeps : (c r : A) (d s : B) (p : ℕ → A) (q : ℕ → B) (j : ℕ) → R c d → R r s → R (p j) (q j)
      → R (without o c r p j) (without e d s q j)
  without_keeps c r d s p q zero hc hr h = K.minus _ _ _ _ h hc
  without_keeps c r d s p q (suc zero) hc hr h = K.minus _ _ _ _ h hr
  without_keeps c r d s p q (suc (suc j)) hc hr h = h

  pub bernstein_keeps : (p : ℕ → A) (q : ℕ → B) (k : ℕ) → k ≤ 5 → ((j : ℕ) → j ≤ 5 → R (p j) (q j)) → R (bernstein o p k) (bernstein e q k)
  unfolding bernstein
  bernstein_keeps p q k l h =
      total_keeps 0 (suc k) _ _ (λ j a b. K.over _ _ _ _ (K.times _ _ _ _ (h j (omega arith)) (binomial_keeps k j l (omega arith)))
      (binomial_keeps 5 j (omega arith) (omega arith)))

  -- the Bernstein coefficients of an intersection
  pub difference_keeps : (x : Intersection) (k : ℕ) → k ≤ 5 → R (difference_bernstein o x k) (difference_bernstein e x k)
  difference_keeps x k l =
      let minus : (a b : Float) → R (o.minus (o.number a) (o.number b)) (e.minus (e.number a) (e.number b)) = λ a b. K.minus _ _ _ _
      (K.number a) (K.number b) in
      let ratio : (a b c d : Float) → R (o.over (o.minus (o.number a) (o.number b)) (o.minus (o.number c) (o.number d)))
      (e.over (e.minus (e.number a) (e.number b)) (e.minus (e.number c) (e.number d)))
      = λ a b c d. K.over _ _ _ _ (minus a b) (minus c d) in
      bernstein_keeps (difference_power o x) (difference_power e x) k l (λ j m. without_keeps (line_at_left o x) (line_rise o x) (line_at_left e x)
      (line_rise e x)
      (power o (λ k. o.number (x.coefficient k)) (offset o x) (scale o x)) (power e (λ k. e.number (x.coefficient k)) (offset e x) (scale e x)) j
      (K.plus _ _ _ _ (K.number _) (K.times _ _ _ _ (ratio _ _ _ _) (minus _ _))) (K.times _ _ _ _ (ratio _ _ _ _) (minus _ _))
      (power_keeps (λ k. o.number (x.coefficient k)) (λ k. e.number (x.coefficient k)) (offset o x) (scale o x) (offset e x) (scale e x)
      j m (λ k _. K.number _) (ratio _ _ _ _) (ratio _ _ _ _)))

-- ---- end pairs enclose
-- z lies in the pair, where there is one
abbrev pub Encloses : Ends → ℚ → Type 0
Encloses (pair a b) z = Between a b z
Encloses none z = Unit {0}

number_encloses : (x : Float) → Encloses (finite_ends x x) (value x)
unfolding finite_ends
number_encloses x = go (finite x) (λ t. point_contains x t)
  where
    go : (b : Bool) → (T b → Between x x (value x)) → Encloses (cond (b && b) (pair x x) none) (value x)
    go true h = h tt
    go false h = tt

-- the f64 of a whole number up to 10 is that number
is_whole : ℕ → Bool
is_whole n = finite (round binary64 false n 1) && (at_mostq (value (round binary64 false n 1)) (wholeq (pos n)) && at_mostq (wholeq (pos n))
    (value (round binary64 false n 1)))

whole_tests : T (all_below 11 is_whole)
unfolding all_below is_whole round size span climb units odd at_mostq
whole_tests = tt

whole_encloses : (n : ℕ) → n ≤ 10 → Between (round binary64 false n 1) (round binary64 false n 1) (wholeq (pos n))
unfolding is_whole
whole_encloses n l =
    let w = round binary64 false n 1 in
    let t = both (finite w) (at_mostq (value w) (wholeq (pos n)) && at_mostq (wholeq (pos n)) (value w))
    (below_is 11 is_whole whole_tests n (omega arith)) in
    let u = both (at_mostq (value w) (wholeq (pos n))) (at_mostq (wholeq (pos n)) (value w)) t.1 in
    record { low_finite = t.0; high_finite = t.0; above = u.0; below = u.1 }

-- an operation that gives none where one side is none, and encloses where it gives a pair
lifted : (f : Ends → Ends → Ends) (g : ℚ → ℚ → ℚ) → Strict f
    → ((X Y : Ends) (x y : ℚ) → Contains X x → Contains Y y → T (is_pair (f X Y)) → Contains (f X Y) (g x y))
    → (X Y : Ends) (x y : ℚ) → Encloses X x → Encloses Y y → Encloses (f X Y) (g x y)
lifted f g S law none Y x y h k = subst (λ (e : Ends). Encloses e (g x y)) (sym (S.left Y)) tt
lifted f g S law (pair a b) none x y h k = subst (λ (e : Ends). Encloses e (g x y)) (sym (S.right a b)) tt
lifted f g S law (pair a b) (pair c d) x y h k = go (f (pair a b) (pair c d)) (law (pair a b) (pair c d) x y h k)
  where
    go : (e : Ends) → (T (is_pair e) → Contains e (g x y)) → Encloses e (g x y)
    go (pair l r) H = H tt
    go none H = tt

-- end pairs enclose exact fractions in every operation
pub ends_enclose : Keeps ends exact Encloses
ends_enclose =
    record {
      number = number_encloses;
      whole = whole_encloses;
      plus = lifted (add_pairs binary64) ◌+q◌ (add_strict binary64) (add_contains binary64);
      minus = lifted (subtract_pairs binary64) ◌-q◌ (subtract_strict binary64) (subtract_contains binary64);
      times = lifted (multiply_pairs binary64) ◌*q◌ (multiply_strict binary64) (multiply_contains binary64);
      over = lifted (divide_pairs binary64) ◌/q◌ (divide_strict binary64) (divide_contains binary64);
    }

-- each Bernstein pair of an intersection encloses the exact coefficient
pub bernstein_encloses : (x : Intersection) (k : ℕ) → k ≤ 5 → Encloses (difference_bernstein ends x k) (difference_bernstein exact x k)
bernstein_encloses = difference_keeps ends exact Encloses ends_enclose
