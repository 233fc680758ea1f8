-- Where a rounded sum lies below the exact one, one of two differences shows it; the next number up is then the sum rounded upward.
use mathlib.Core.Bool.{Bool, ◌||◌, cond, false, not, true, true≢false}
use mathlib.Core.List.{[], ◌∷◌}
use mathlib.Core.Path.{◌∙◌, ◌≡◌, ap, refl, subst, sym}
use Prim.Native.Nat.{◌≤◌, suc, ℕ}
use native.Mathlib.Omega.{arith}
use lib.Dec.{T}
use lib.Ieee.{Float, add, binary64, fin, fits, inf, lt, nan, neg, of_bits, sub}
use lib.Ieee.Bits.{is_true}
use lib.Ieee.Fits.{neg-fits}
use lib.Ieee.Scale.{finite}
use Rattle.fraction.specs.DirectedSum.{Upward, is_above, plain_zero, upward_sum}
use Rattle.fraction.specs.NextNumber.{next_up}
use Rattle.fraction.specs.Rational.{◌+q◌, ◌-q◌, ◌<q◌, ◌≤q◌, at_mostq, negq, ℚ}
use Rattle.fraction.specs.RationalRing.{rational_ring}
use Rattle.fraction.specs.Ring.{◌⊕◌, ◌⊖◌, opposite, solve, v0, v1}
use Rattle.fraction.specs.Rounding.{Rounded}
use Rattle.fraction.specs.Value.{value}
use Rattle.fraction.proofs.Comparison.{lt_of_value, lt_value}
use Rattle.fraction.proofs.DirectedSum.{Plain, a_zero, no_zero, plain_cases, upward_sum_law}
use Rattle.fraction.proofs.Neighbours.{rounded_upper}
use Rattle.fraction.proofs.OwnRounding.{rounds_below}
use Rattle.fraction.proofs.Rational.{<q-≤q-trans, ≤q-antisymmetric, ≤q-negated}
use Rattle.fraction.proofs.Rounding.{add_rounded, sub_rounded}
use Rattle.fraction.proofs.SumTest.{above_test}
use Rattle.fraction.proofs.Value.{neg_finite, value_neg}
use Rattle.pairs.specs.Spreads.{Number, UpwardSum, bounded}
use Rattle.pairs.proofs.Numbers.{<q-negated, le_value, next_same, rounded_number, rounded_same, rounded_turned, turned, twice, up_least, up_number, wider}
use Rattle.pairs.proofs.PlainNumbers.{plain_unique}
use Rattle.pairs.proofs.Spreading.{bounded_number}
use Rattle.pairs.proofs.SpreadSums.{downward_bound, sum_size, up_sum, upward_bound}

-- a < b and c < d are one test, for a = -d and b = -c
lt_turned : (a b c d : Float) → T (finite a) → T (finite b) → T (finite c) → T (finite d) → value a ≡ negq (value d) → value b ≡ negq
    (value c)
    → lt a b ≡ lt c d
lt_turned a b c d A B C D e f = same (lt a b) (lt c d)
    (λ t. lt_of_value c d C D (subst (λ (z : ℚ). z <q value d) (twice (value c)) (subst (λ (z : ℚ). negq (negq (value c)) <q z) (twice
    (value d))
    (<q-negated (negq (value d)) (negq (value c)) (subst (λ (z : ℚ). z <q negq (value c)) e (subst (λ (z : ℚ). value a <q z) f
    (lt_value a b A B (subst T (sym t) tt))))))))
    (λ t. lt_of_value a b A B (rw (e, f) (<q-negated (value c) (value d) (lt_value c d C D (subst T (sym t) tt)))))
  where
    same : (p q : Bool) → (p ≡ true → q ≡ true) → (q ≡ true → p ≡ true) → p ≡ q
    same true q f g = sym (f refl)
    same false true f g = g refl
    same false false f g = refl

-- two roundings of z and -z
turned_value : (r r' : Float) (z z' : ℚ) → Rounded binary64 r z → Rounded binary64 r' z' → T (finite r) → T (finite r') → z' ≡ negq z
    → value r' ≡ negq (value r)
turned_value r r' z z' R S F G e =
    rounded_same r' (neg r) z' S (subst (Rounded binary64 (neg r)) (sym e) (rounded_turned r z R)) G (neg_finite r F) ∙ value_neg r F

-- the difference of a sum and one of its terms, with all signs turned
difference_turned : (r r' x : Float) (a : ℕ) → a ≤ 999 → Number a r → Number a r' → Number a x → value r' ≡ negq (value r)
    → T (finite (sub binary64 r x)) × T (finite (sub binary64 r' (neg x))) × (value (sub binary64 r' (neg x)) ≡ negq (value (sub binary64
    r x)))
difference_turned r r' x a l R S N e =
    let n = turned a x N in
    let m = turned a (neg x) n in
    let p = sub_rounded binary64 r x R.is_finite N.is_finite in
    let q = sub_rounded binary64 r' (neg x) S.is_finite n.is_finite in
    let i = sum_size a (value r) (negq (value x)) R.at_least R.at_most (rw (value_neg x N.is_finite) at n.at_least)
    (rw (value_neg x N.is_finite) at n.at_most) in
    let j = sum_size a (value r') (negq (value (neg x))) S.at_least S.at_most (rw (value_neg (neg x) n.is_finite) at m.at_least)
    (rw (value_neg (neg x) n.is_finite) at m.at_most) in
    let F = (rounded_number (suc a) (omega arith) (sub binary64 r x) _ p i.0 i.1).is_finite in
    let G = (rounded_number (suc a) (omega arith) (sub binary64 r' (neg x)) _ q j.0 j.1).is_finite in (
      F,
      G,
      turned_value _ _ _ _ p q F G (ap (λ (w : ℚ). w -q value (neg x)) e ∙ ap (λ (w : ℚ). negq (value r) -q w) (value_neg x N.is_finite)
          ∙ solve rational_ring (value r ∷ value x ∷ []) (opposite v0 ⊖ opposite v1) (opposite (v0 ⊖ v1)) tt),
    )

module _ (a : ℕ) (l : a ≤ 997) (x y : Float) (N : Number a x) (M : Number a y) where
  exact : ℚ
  exact = value x +q value y

  R : Rounded binary64 (add binary64 x y) (value x +q value y)
  R = add_rounded binary64 x y N.is_finite M.is_finite

  sum_is : Number (suc a) (add binary64 x y)
  sum_is = let s = sum_size a (value x) (value y) N.at_least N.at_most M.at_least M.at_most in
      rounded_number (suc a) (omega arith) (add binary64 x y) (value x +q value y) R s.0 s.1

  turned_exact : value (neg x) +q value (neg y) ≡ negq (value x +q value y)
  turned_exact =
      ap (λ (w : ℚ). w +q value (neg y)) (value_neg x N.is_finite) ∙ ap (λ (w : ℚ). negq (value x) +q w) (value_neg y M.is_finite)
      ∙ solve rational_ring (value x ∷ value y ∷ []) (opposite v0 ⊕ opposite v1) (opposite (v0 ⊕ v1)) tt

  turned_is : Number (suc a) (add binary64 (neg x) (neg y))
  turned_is =
      let n = turned a x N in
      let m = turned a y M in
      let s = sum_size a (value (neg x)) (value (neg y)) n.at_least n.at_most m.at_least m.at_most in
      rounded_number (suc a) (omega arith) _ _ (add_rounded binary64 (neg x) (neg y) n.is_finite m.is_finite) s.0 s.1

  sum_turned : value (add binary64 (neg x) (neg y)) ≡ negq (value (add binary64 x y))
  sum_turned = turned_value _ _ _ _ R (add_rounded binary64 (neg x) (neg y) (neg_finite x N.is_finite) (neg_finite y M.is_finite))
      sum_is.is_finite turned_is.is_finite turned_exact

  -- the code's test
  abbrev pub rises : Bool
  rises = lt (sub binary64 (add binary64 x y) x) y || lt (sub binary64 (add binary64 x y) y) x

  one_test : (u v : Float) → Number a u → Number a v
      → lt (neg v) (sub binary64 (add binary64 (neg x) (neg y)) (neg u)) ≡ lt (sub binary64 (add binary64 x y) u) v
  one_test u v U W =
      let d = difference_turned (add binary64 x y) (add binary64 (neg x) (neg y)) u (suc a) (omega arith) sum_is turned_is
      (wider a (suc a) (omega arith) u U) sum_turned in
      lt_turned (neg v) _ _ v (neg_finite v W.is_finite) d.1 d.0 W.is_finite (value_neg v W.is_finite) d.2

  test_is : rises ≡ is_above (add binary64 (neg x) (neg y)) (value (neg x) +q value (neg y))
  test_is =
      ap (λ (b : Bool). b || lt (sub binary64 (add binary64 x y) y) x) (sym (one_test x y N M))
      ∙ ap (λ (b : Bool). lt (neg y) (sub binary64 (add binary64 (neg x) (neg y)) (neg x)) || b) (sym (one_test y x M N))
      ∙ above_test binary64 (neg x) (neg y) (neg-fits binary64 x N.is_double) (neg-fits binary64 y M.is_double)
      ∙ rw (is_true (finite (neg x)) (neg_finite x N.is_finite), is_true (finite (neg y)) (neg_finite y M.is_finite)) refl

  above_is : (r : Float) (q : ℚ) → T (finite r) → is_above r q ≡ not (at_mostq (value r) q)
  above_is nan q F = absurd F
  above_is (inf s) q F = absurd F
  above_is (fin s m e) q F = refl

  both : rises ≡ not (at_mostq (negq (value (add binary64 x y))) (negq (value x +q value y)))
  both = test_is ∙ above_is (add binary64 (neg x) (neg y)) (value (neg x) +q value (neg y)) turned_is.is_finite ∙ ap (λ (w : ℚ). not
      (at_mostq w (value (neg x) +q value (neg y)))) sum_turned
      ∙ ap (λ (w : ℚ). not (at_mostq (negq (value (add binary64 x y))) w)) turned_exact

  -- it holds where the rounded sum is below the exact one
  when_true : rises ≡ true → value (add binary64 x y) <q value x +q value y
  when_true t = subst (λ (w : ℚ). w <q value x +q value y) (twice (value (add binary64 x y)))
      (subst (λ (w : ℚ). negq (negq (value (add binary64 x y))) <q w) (twice (value x +q value y))
      (<q-negated (negq (value x +q value y)) (negq (value (add binary64 x y))) (subst T (sym (sym both ∙ t)) tt)))

  when_false : rises ≡ false → value x +q value y ≤q value (add binary64 x y)
  when_false t = subst (λ (w : ℚ). w ≤q value (add binary64 x y)) (twice (value x +q value y))
      (subst (λ (w : ℚ). negq (negq (value x +q value y)) ≤q w) (twice (value (add binary64 x y)))
      (≤q-negated (negq (value (add binary64 x y))) (negq (value x +q value y)) (go (at_mostq (negq (value (add binary64 x y))) (negq
      (value x +q value y))) (sym both ∙ t))))
    where
      go : (b : Bool) → not b ≡ false → T b
      go true h = tt
      go false h = absurd (true≢false h)

  -- ---- the number that the code makes of it
  U : Upward binary64 (value x +q value y) (upward_sum binary64 x y)
  U = upward_sum_law binary64 x y N.is_finite M.is_finite

  u_number : Number (suc a) (upward_sum binary64 x y)
  u_number = up_sum a (omega arith) x y N M

  exact_below : value x +q value y ≤q value (upward_sum binary64 x y)
  exact_below = upward_bound (value x +q value y) (upward_sum binary64 x y) u_number.is_finite U.not_below

  least : (w : Float) → T (fits binary64 w) → T (finite w) → value x +q value y ≤q value w → value (upward_sum binary64 x y) ≤q value w
  least w F W h = downward_bound (value w) (upward_sum binary64 x y) u_number.is_finite (U.smallest w F W h)

  plain_again : plain_zero binary64 (upward_sum binary64 x y) ≡ upward_sum binary64 x y
  unfolding of_bits
  plain_again = go (plain_zero binary64 (upward_sum binary64 x y)) (plain_cases binary64 (upward_sum binary64 x y))
    where
      go : (p : Float) → Plain binary64 (upward_sum binary64 x y) p → p ≡ upward_sum binary64 x y
      go p (a_zero F e) = sym (U.zero F e)
      go p (no_zero n) = refl

  -- what has its value is it, up to a zero's sign
  upward_from : (w : Float) → T (fits binary64 w) → T (finite w) → value w ≡ value (upward_sum binary64 x y) → UpwardSum x y w
  upward_from w F W e = (F, plain_unique w (upward_sum binary64 x y) F u_number.is_double W u_number.is_finite e ∙ plain_again)

  -- w is the rounded sum, up to a zero's sign: it is the answer where the test fails, and the next number up is where it holds
  module _ (w : Float) (W : Number (suc a) w) (e : value w ≡ value (add binary64 x y)) where
    pub at_rest : rises ≡ false → UpwardSum x y w
    at_rest t = upward_from w W.is_double W.is_finite (≤q-antisymmetric (value w) (value (upward_sum binary64 x y))
        (subst (λ (q : ℚ). q ≤q value (upward_sum binary64 x y)) (sym e) (le_value (add binary64 x y) (upward_sum binary64 x y) sum_is.is_finite
        u_number.is_finite (rounds_below binary64 (upward_sum binary64 x y) u_number.is_double u_number.is_finite (add binary64 x y)
        (value x +q value y) R exact_below)))
        (least w W.is_double W.is_finite (subst (λ (q : ℚ). value x +q value y ≤q q) (sym e) (when_false t))))

    pub at_next : rises ≡ true → UpwardSum x y (next_up binary64 w)
    at_next t =
        let n = next_up binary64 w in
        let O = up_number (suc a) (omega arith) w W in
        let same = next_same (suc a) (omega arith) w (add binary64 x y) W sum_is e in
        let S = up_number (suc a) (omega arith) (add binary64 x y) sum_is in
        upward_from n O.is_double O.is_finite (≤q-antisymmetric (value n) (value (upward_sum binary64 x y))
        (le_value n (upward_sum binary64 x y) O.is_finite u_number.is_finite (up_least w W.is_double W.is_finite (upward_sum
        binary64 x y)
        u_number.is_double u_number.is_finite (subst (λ (q : ℚ). q <q value (upward_sum binary64 x y)) (sym e)
        (<q-≤q-trans (value (add binary64 x y)) (value x +q value y) (value (upward_sum binary64 x y)) (when_true t) exact_below))))
        (least n O.is_double O.is_finite (subst (λ (q : ℚ). value x +q value y ≤q q) (sym same)
        (upward_bound (value x +q value y) (next_up binary64 (add binary64 x y)) S.is_finite (rounded_upper binary64 (add binary64 x y)
        (value x +q value y) R sum_is.is_finite)))))

  -- both as the code has them
  pub upward_stepped : (t : Bool) → rises ≡ t → UpwardSum x y (cond t (next_up binary64 (bounded (add binary64 x y))) (bounded (add
      binary64 x y)))
  upward_stepped true h = let B = bounded_number (suc a) (omega arith) (add binary64 x y) sum_is in at_next (bounded (add binary64 x y))
      B.0 B.1 h
  upward_stepped false h = let B = bounded_number (suc a) (omega arith) (add binary64 x y) sum_is in at_rest (bounded (add binary64 x y))
      B.0 B.1 h
