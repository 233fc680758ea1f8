-- What an answer may become where the limits are raised, and how it goes through the steps, up to the rounds.
use Rattle.std.proofs.Common.{◌≡◌, ℕ, zero, suc, ◌+◌, ◌<◌, ◌≤◌, Bool, true, false, cond, ltb, ◌⊎◌, length, sym, refl, ◌∙◌, inl, inr, true≢false, arith, ltb-false, ltb-true, lt-ltb}
use Rattle.smoothing.specs.Answer.{Answer, and_then, number_of}
use Rattle.smoothing.specs.Answer.Answer.{done, refused, exhausted}
use Rattle.smoothing.specs.Rows.{Task}
use Rattle.smoothing.specs.State.{State}
use Rattle.smoothing.specs.Start.{first_knots, many_knots, first_state, start_of}
use Rattle.smoothing.specs.Round.{worst_of, settled, spans_after, round_of, refine_of}

-- ---- what an answer may become where the limits are raised, and how it goes through the steps
-- y may stand where x stood: it is the same, or max_segments grew (S) and x is 8 or 15, or max_refinements grew (R) and x is 14
pub data Raised (S R : Type 0) {A : Type 0} (x y : Answer A) : Type 0 where
  same : y ≡ x → Raised S R x y
  segments_grew : (number_of x ≡ 8) ⊎ (number_of x ≡ 15) → S → Raised S R x y
  refinements_grew : number_of x ≡ 14 → R → Raised S R x y

-- a refusal goes through
pub number_then : {A B : Type 0} (x : Answer A) (f : A → Answer B) → 0 < number_of x → number_of (and_then x f) ≡ number_of x
unfolding and_then number_of
number_then (done a) f h = absurd (omega arith)
number_then (refused n) f h = refl
number_then (exhausted w) f h = refl

either_then : {A B : Type 0} (x : Answer A) (f : A → Answer B) → (number_of x ≡ 8) ⊎ (number_of x ≡ 15)
    → (number_of (and_then x f) ≡ 8) ⊎ (number_of (and_then x f) ≡ 15)
either_then x f (inl e) = inl (number_then x f (omega arith) ∙ e)
either_then x f (inr e) = inr (number_then x f (omega arith) ∙ e)

module _ {S R : Type 0} where
  -- steps one after the other
  pub raised_then : {A B : Type 0} (x y : Answer A) (f g : A → Answer B) → Raised S R x y → ((a : A) → Raised S R (f a) (g a))
      → Raised S R (and_then x f) (and_then y g)
  unfolding and_then
  raised_then {A} x y f g (same e) k = rw e (next x)
    where
      next : (x : Answer A) → Raised S R (and_then x f) (and_then x g)
      next (done a) = k a
      next (refused n) = same refl
      next (exhausted w) = same refl
  raised_then x y f g (segments_grew n s) k = segments_grew (either_then x f n) s
  raised_then x y f g (refinements_grew n r) k = refinements_grew (number_then x f (omega arith) ∙ n) r

  -- a test that no limit has a part in
  pub raised_cond : {A : Type 0} (b : Bool) (x x' y y' : Answer A) → Raised S R x x' → Raised S R y y'
      → Raised S R (cond b x y) (cond b x' y')
  raised_cond true x x' y y' h k = h
  raised_cond false x x' y y' h k = k

  -- a test of max_segments, which fails less often where it grew
  pub raised_test : {A : Type 0} (n : ℕ) → (n ≡ 8) ⊎ (n ≡ 15) → (b c : Bool) (x y : Answer A) → (c ≡ true → b ≡ true)
      → (b ≡ true → c ≡ false → S) → Raised S R x y → Raised S R (cond b (refused n) x) (cond c (refused n) y)
  unfolding number_of
  raised_test n w true true x y h k r = same refl
  raised_test n w true false x y h k r = segments_grew w (k refl refl)
  raised_test n w false true x y h k r = absurd (true≢false (sym (h refl)))
  raised_test n w false false x y h k r = r

-- ---- the steps
-- a test `limit < x` under a higher limit
test_falls : (g g' x : ℕ) → g ≤ g' → ltb g' x ≡ true → ltb g x ≡ true
test_falls g g' x h e = let l = ltb-true g' x e in lt-ltb g x (omega arith)

test_grew : (g g' x : ℕ) → ltb g x ≡ true → ltb g' x ≡ false → g < g'
test_grew g g' x e f = omega (arith, ltb-true g x e, ltb-false g' x f)

-- no round may be made under the first limit, some under the second
none_left : {S R : Type 0} {A : Type 0} (b : Bool) (x : Answer A) (w : _) (y : Answer A) → R
    → Raised S R (cond b x (exhausted w)) (cond b x y)
unfolding number_of
none_left true x w y r = same refl
none_left false x w y r = refinements_grew refl r

module _ (g g' : ℕ) (G : g ≤ g') (q : Task) where
  pub start_raised : (R : Type 0) → Raised (g < g') R (start_of g q) (start_of g' q)
  unfolding start_of many_knots
  start_raised R =
      let x = length (first_knots q) + 1 in
      raised_test 8 (inl refl) (ltb g x) (ltb g' x) (first_state q) (first_state q) (test_falls g g' x G) (test_grew g g' x) (same refl)

  -- the rounds
  pub refine_raised : (r r' : ℕ) → r ≤ r' → (st : State) → Raised (g < g') (r < r') (refine_of g r q st) (refine_of g' r' q st)
  unfolding refine_of
  refine_raised zero zero h st = same refl
  refine_raised zero (suc r') h st =
      none_left (settled st) (done st) (worst_of st.bounds)
      (cond (ltb g' (spans_after q st)) (refused 15) (and_then (round_of q st) (λ after. refine_of g' r' q after))) (omega arith)
  refine_raised (suc r) zero h st = absurd (omega arith)
  refine_raised (suc r) (suc r') h st =
      let x = spans_after q st in
      let next = round_of q st in
      raised_cond (settled st) (done st) (done st) _ _ (same refl)
      (raised_test 15 (inr refl) (ltb g x) (ltb g' x) _ _ (test_falls g g' x G) (test_grew g g' x)
      (raised_then next next (λ after. refine_of g r q after) (λ after. refine_of g' r' q after) (same refl)
      (λ after. grown (refine_raised r r' (omega arith) after))))
    where
      grown : {A : Type 0} {x y : Answer A} → Raised (g < g') (r < r') x y → Raised (g < g') (suc r < suc r') x y
      grown (same e) = same e
      grown (segments_grew n s) = segments_grew n s
      grown (refinements_grew n s) = refinements_grew n (omega arith)
