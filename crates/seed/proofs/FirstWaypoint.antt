-- The corridor of `seed` does not fail at the first waypoint after an anchor where the parameters rise by a finite number and the
-- coordinates are finite, so that there the source's loop ends.
use mathlib.Core.Path.{◌≡◌, refl, sym, subst, ◌∙◌}
use mathlib.Core.Bool.{Bool, true, false, not}
use mathlib.Core.List.{List, [], ◌∷◌}
use Prim.Native.Nat.{ℕ, suc, ◌+◌, ◌*◌, ◌≤◌, ◌<◌}
use native.Mathlib.Omega.{arith}
use native.Mathlib.Nat.{mul-pos, zero-lt-suc}
use lib.Dec.{T, eqb-suc-zero}
use lib.IntN.{ℤ, pos, negsuc}
use lib.Pow.{pow_pos}
use lib.ListN.{get_or-replicate}
use lib.Seq.{get_or-set_other}
use lib.Ieee.{Float, nan, inf, fin, binary64, up, down, is_nan, fits, lt, le, eq, round, size, span, climb, units, odd, neg, add, sub, div}
use lib.Ieee.Fits.{div-fits, down_pos, up_pos}
use lib.Ieee.Positive.{positive}
use lib.Ieee.Scale.{finite}
use Rattle.arith.specs.Operations.{floats}
use Rattle.arith.proofs.Loops.{each_runs}
use Rattle.window.specs.Cells.{+0, at}
use Rattle.fraction.specs.Integer.{signed}
use Rattle.fraction.specs.Order.{le_by}
use Rattle.fraction.specs.Rational.{wholeq, at_mostq, ◌≤q◌, ◌+q◌, negq}
use Rattle.fraction.specs.RationalRing.{rational_ring}
use Rattle.fraction.specs.Ring.{var, ◌⊕◌, ◌⊖◌}
use Rattle.fraction.specs.Value.{fraction, value}
use Rattle.fraction.proofs.Monotone.{rounded_monotone}
use Rattle.fraction.proofs.OwnRounding.{rounds_below, rounds_above}
use Rattle.fraction.proofs.Rational.{rational_order}
use Rattle.fraction.proofs.Rounding.{add_rounded, sub_rounded, rounded_not_nan, of_positive, quotient_number}
use Rattle.fraction.proofs.Value.{plus_zero, fraction_le, value_le_of_not_lt}
use Rattle.float.specs.Order.{chosen, max_of, min_of}
use Rattle.seed.specs.Corridor.{Corridor, corridor, lowest, highest, coordinate, slope_of, allowance, axis_turn, narrowed}

-- ---- x less q, and x and q, for a q that is a number or an infinity, not below 0
-- the larger of -infinity and r, where r is a NaN or at most x
lowered : (r x : Float) → T (not (is_nan x)) → (T (not (is_nan r)) → le r x ≡ true) → le (max_of (inf true) r) x ≡ true
unfolding chosen is_nan lt le
lowered nan nan N h = absurd N
lowered nan (inf s) N h = ends s
  where
    ends : (s : Bool) → le (inf true) (inf s) ≡ true
    ends true = refl
    ends false = refl
lowered nan (fin s m e) N h = refl
lowered (inf true) x N h = h tt
lowered (inf false) x N h = h tt
lowered (fin t n d) x N h = h tt

-- the smaller of infinity and r, where r is a NaN or at least x
raised : (r x : Float) → T (not (is_nan x)) → (T (not (is_nan r)) → le x r ≡ true) → le x (min_of (inf false) r) ≡ true
unfolding chosen is_nan lt le
raised nan nan N h = absurd N
raised nan (inf s) N h = ends s
  where
    ends : (s : Bool) → le (inf s) (inf false) ≡ true
    ends true = refl
    ends false = refl
raised nan (fin s m e) N h = refl
raised (inf true) x N h = h tt
raised (inf false) x N h = h tt
raised (fin t n d) x N h = h tt

-- its value is not below 0
not_negative : (q : Float) → T (finite q) → T (not (lt q +0)) → wholeq (pos 0) ≤q value q
unfolding at_mostq
not_negative q Q h = value_le_of_not_lt (fin false 0 (pos 0)) q tt Q (subst (λ (z : Float). T (not (lt q z))) (plus_zero binary64) h)

own_inf : (s : Bool) → le (inf s) (inf s) ≡ true
unfolding le lt eq
own_inf true = refl
own_inf false = refl

-- -infinity is below 0
infinite : {A : Type 0} → T (not (lt (inf true) +0)) → A
unfolding lt
infinite h = absurd (subst (λ (z : Float). T (not (lt (inf true) z))) (plus_zero binary64) h)

-- x - q is a NaN, or at most x
less : (x q : Float) → T (fits binary64 x) → T (not (is_nan q)) → T (not (lt q +0)) → T (not (is_nan (sub binary64 x q)))
    → le (sub binary64 x q) x ≡ true
unfolding sub add neg is_nan le lt
less nan q F N h k = absurd k
less (inf s) nan F N h k = absurd N
less (inf s) (inf true) F N h k = infinite h
less (inf true) (inf false) F N h k = own_inf true
less (inf false) (inf false) F N h k = absurd k
less (inf s) (fin t n d) F N h k = own_inf s
less (fin s m e) nan F N h k = absurd N
less (fin s m e) (inf true) F N h k = infinite h
less (fin s m e) (inf false) F N h k = refl
less (fin s m e) (fin t n d) F N h k =
    let x = fin s m e in
    let q = fin t n d in
    rounds_below binary64 x F tt (sub binary64 x q) (value x +q negq (value q)) (sub_rounded binary64 x q tt tt)
    (le_by rational_ring ◌≤q◌ rational_order (value x ∷ value q ∷ []) (var 0 ⊖ var 1) (var 0) (var 1) tt (not_negative q tt h))

-- x + q is a NaN, or at least x
more : (x q : Float) → T (fits binary64 x) → T (not (is_nan q)) → T (not (lt q +0)) → T (not (is_nan (add binary64 x q)))
    → le x (add binary64 x q) ≡ true
unfolding add is_nan le lt
more nan q F N h k = absurd k
more (inf s) nan F N h k = absurd N
more (inf s) (inf true) F N h k = infinite h
more (inf true) (inf false) F N h k = absurd k
more (inf false) (inf false) F N h k = own_inf false
more (inf s) (fin t n d) F N h k = own_inf s
more (fin s m e) nan F N h k = absurd N
more (fin s m e) (inf true) F N h k = infinite h
more (fin s m e) (inf false) F N h k = refl
more (fin s m e) (fin t n d) F N h k =
    let x = fin s m e in
    let q = fin t n d in
    rounds_above binary64 x F tt (add binary64 x q) (value x +q value q) (add_rounded binary64 x q tt tt)
    (le_by rational_ring ◌≤q◌ rational_order (value x ∷ value q ∷ []) (var 0) (var 0 ⊕ var 1) (var 1) tt (not_negative q tt h))

-- "-infinity raised to x - q" is at most x, "infinity lowered to x + q" at least x: the first bounds of a corridor hold their own slope
module _ (x q : Float) (F : T (fits binary64 x)) (X : T (not (is_nan x))) (N : T (not (is_nan q))) (h : T (not (lt q +0))) where
  low_step : le (max_of (inf true) (sub binary64 x q)) x ≡ true
  low_step = lowered (sub binary64 x q) x X (less x q F N h)

  high_step : le x (min_of (inf false) (add binary64 x q)) ≡ true
  high_step = raised (add binary64 x q) x X (more x q F N h)

-- ---- quotients by a number above 0
-- a fraction that is not below 0 does not round to below 0
not_below : (a c : ℕ) (C : 0 < c) → T (not (lt (round binary64 false a c) (round binary64 false 0 1)))
not_below a c C =
    let one : 0 < 1 = pow_pos 0 in
    rounded_monotone binary64 (round binary64 false 0 1) (round binary64 false a c) (fraction (signed false 0) 1 one)
    (fraction (signed false a) c C)
    (record { sign = false; over = 0; under = 1; positive = one; rounds = refl; exact = refl })
    (record { sign = false; over = a; under = c; positive = C; rounds = refl; exact = refl })
    (fraction_le (pos 0) (pos a) 1 c one C (omega arith))

zero_is : round binary64 false 0 1 ≡ +0
unfolding round size span climb units odd
zero_is = sym (plus_zero binary64)

-- 0.65
share_is : floats.literal 65 100 ≡ fin false 0x14_cccc_cccc_cccd (negsuc 52)
unfolding round size span climb units odd
share_is = refl

allowance_number : (ds : Float) → T (positive ds) → T (not (is_nan (allowance ds)))
unfolding is_nan
allowance_number ds p = rw share_is (quotient_number binary64 (fin false 0x14_cccc_cccc_cccd (negsuc 52)) tt ds p)

quotient_above : (m : ℕ) (e : ℤ) (y : Float) → T (positive y) → T (not (lt (div binary64 (fin false m e) y) +0))
unfolding div
quotient_above m e =
    of_positive (λ y. T (not (lt (div binary64 (fin false m e) y) +0)))
    (λ n c. rw (eqb-suc-zero n, ← zero_is) (not_below (m * up e * down c) (suc n * up c * down e)
    (mul-pos (mul-pos (zero-lt-suc n) (up_pos c)) (down_pos e))))

allowance_above : (ds : Float) → T (positive ds) → T (not (lt (allowance ds) +0))
allowance_above ds p =
    subst (λ (z : Float). T (not (lt (div binary64 z ds) +0))) (sym share_is) (quotient_above 0x14_cccc_cccc_cccd (negsuc 52) ds p)

-- ---- the corridor
module _ (s y : List Float) (d a : ℕ) (apart : T (positive (sub binary64 (at s (a + 1)) (at s a))))
    (finite-y : (j : ℕ) → j < d → T (finite (coordinate y d a j)) × T (finite (coordinate y d (a + 1) j))) where
  abbrev ds : Float
  ds = sub binary64 (at s (a + 1)) (at s a)

  abbrev slope : ℕ → Float
  slope j = slope_of y d a (a + 1) ds j

  slope_number : (j : ℕ) → j < d → T (not (is_nan (slope j)))
  slope_number j l =
      quotient_number binary64 (sub binary64 (coordinate y d (a + 1) j) (coordinate y d a j))
      (rounded_not_nan binary64 _ _ (sub_rounded binary64 (coordinate y d (a + 1) j) (coordinate y d a j) (finite-y j l).1
      (finite-y j l).0)) ds apart

  -- open from axis j on, and nothing has failed
  Open : ℕ → Corridor → Type 0
  Open j c = (c.ok ≡ true) × ((i : ℕ) → j ≤ i → i < d → at c.lo i ≡ inf true) × ((i : ℕ) → j ≤ i → i < d → at c.hi i ≡ inf false)

  axis_open : (j : ℕ) (c : Corridor) → 0 ≤ j → j < d → Open j c → Open (j + 1) (axis_turn s y d a (a + 1) j c)
  unfolding axis_turn Open
  axis_open j c l g (k, lo, hi) = (
    rw (
      k,
      lo j (omega arith) g,
      hi j (omega arith) g,
      low_step (slope j) (allowance ds) (div-fits binary64 _ ds) (slope_number j g) (allowance_number ds apart) (allowance_above ds apart),
      high_step (slope j) (allowance ds) (div-fits binary64 _ ds) (slope_number j g) (allowance_number ds apart) (allowance_above ds apart),
    ),
    (λ i f b. get_or-set_other c.lo j i _ nan (omega arith) ∙ lo i (omega arith) b),
    (λ i f b. get_or-set_other c.hi j i _ nan (omega arith) ∙ hi i (omega arith) b),
  )

  pub first_fits : (narrowed s y d a (a + 1) (lowest d) (highest d)).ok ≡ true
  unfolding narrowed Open
  first_fits =
      (each_runs Open (axis_turn s y d a (a + 1)) 0 d (corridor (lowest d) (highest d) true) (omega arith) axis_open
      (refl, (λ i f b. get_or-replicate d i (inf true) nan b), (λ i f b. get_or-replicate d i (inf false) nan b))).0
