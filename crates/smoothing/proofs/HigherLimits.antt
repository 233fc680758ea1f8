-- Request 11, "When a higher limit helps": for one lane, the answers under two pairs of limits, the second nowhere lower. And of
-- request 10: all accepted answers agree.
use Rattle.std.proofs.Common.{◌≡◌, ℕ, ◌<◌, ◌≤◌, max, false, ◌||◌, eqb, ltb, ◌⊎◌, sym, refl, ap, ◌∙◌, inl, inr, arith, ltb-false, le-ltb}
use Rattle.arith.proofs.Truth.{or_none}
use Rattle.smoothing.specs.Answer.{Answer, and_then, number_of}
use Rattle.smoothing.specs.Answer.Answer.{done, refused, exhausted}
use Rattle.smoothing.specs.Request.{Lane, Limits}
use Rattle.smoothing.specs.Checks.{wide_lane, wide_limits, refusal_of, miscounted_points}
use Rattle.smoothing.specs.Rows.{Task, Units, lane_task, lane_units}
use Rattle.smoothing.specs.Start.{start_of}
use Rattle.smoothing.specs.Round.{refine_of}
use Rattle.smoothing.specs.Finish.{finish_of}
use Rattle.smoothing.specs.Build.{Result, selected_of, other_of, result_of, smoothed_of, checked_of, build_of, answer_of}
use lib.Ieee.{Float}
use Rattle.smoothing.proofs.Accepted.{done_same, build_checked}
use Rattle.smoothing.proofs.RaisedRounds.{Raised, raised_then, raised_cond, start_raised, refine_raised}
use Rattle.smoothing.proofs.RaisedRounds.Raised.{same, segments_grew, refinements_grew}

module _ (m m' : Limits) (S : m.segments ≤ m'.segments) (R : m.refinements ≤ m'.refinements) where
  abbrev Grown : {A : Type 0} → Answer A → Answer A → Type 0
  Grown x y = Raised (m.segments < m'.segments) (m.refinements < m'.refinements) x y

  selected_raised : (q : Task) (u : Units) → Grown (selected_of m q u) (selected_of m' q u)
  unfolding selected_of
  selected_raised q u =
      raised_then _ _ (finish_of q u) (finish_of q u)
      (raised_then (start_of m.segments q) (start_of m'.segments q) (refine_of m.segments m.refinements q)
      (refine_of m'.segments m'.refinements q)
      (start_raised m.segments m'.segments S q (m.refinements < m'.refinements))
      (refine_raised m.segments m'.segments S q m.refinements m'.refinements R))
      (λ a. same refl)

  pub checked_raised : (l : Lane) → Grown (checked_of l m) (checked_of l m')
  unfolding checked_of smoothed_of
  checked_raised l =
      let q = lane_task l in
      let u = lane_units l in
      raised_cond (eqb (refusal_of l) 0) _ _ (refused (refusal_of l)) (refused (refusal_of l))
      (raised_then (selected_of m q u) (selected_of m' q u) (λ x. and_then (other_of l) (λ p. done (result_of l x p)))
      (λ x. and_then (other_of l) (λ p. done (result_of l x p))) (selected_raised q u) (λ a. same refl))
      (same refl)

-- ---- whole requests
lower_fit : (m m' : Limits) → m.segments ≤ m'.segments → m.refinements ≤ m'.refinements → wide_limits m' ≡ false → wide_limits m ≡ false
unfolding wide_limits
lower_fit m m' S R h =
    let p = or_none (ltb 20000 m'.segments) (ltb 200 m'.refinements) h in
    let a = ltb-false 20000 m'.segments p.0 in
    let b = ltb-false 200 m'.refinements p.1 in
    rw (le-ltb 20000 m.segments (omega arith), le-ltb 200 m.refinements (omega arith))

-- "Take two requests in document 01's domain, equal but for max_refinements and max_segments, the second's nowhere lower": one lane, two
-- pairs of limits.
-- The second answer is the first, with the ratio of a 14; or max_segments grew and the first number is 8 or 15; or max_refinements grew and
-- it is 14.
pub higher_limits : (l : Lane) (m m' : Limits) → m.segments ≤ m'.segments → m.refinements ≤ m'.refinements → wide_limits m' ≡ false
    → Raised (m.segments < m'.segments) (m.refinements < m'.refinements) (build_of (record { lane = l; limits = m }))
    (build_of (record { lane = l; limits = m' }))
unfolding build_of answer_of
higher_limits l m m' S R h =
    let e = lower_fit m m' S R h in
    rw (e, h) (raised_cond (wide_lane l || false) (refused 18) (refused 18) _ _ (same refl)
    (raised_cond (miscounted_points l) (refused 20) (refused 20) (checked_of l m) (checked_of l m') (same refl) (checked_raised m m' S R l)))

-- "If the first is accepted, so is the second", with the same result
pub stays_accepted : {S R : Type 0} {A : Type 0} (x y : Answer A) (a : A) → Raised S R x y → x ≡ done a → y ≡ done a
unfolding number_of
stays_accepted x y a (same e) h = e ∙ h
stays_accepted x y a (segments_grew (inl n) s) h = let z : ◌≡◌ {A = ℕ} 0 8 = rw h at n in absurd (omega arith)
stays_accepted x y a (segments_grew (inr n) s) h = let z : ◌≡◌ {A = ℕ} 0 15 = rw h at n in absurd (omega arith)
stays_accepted x y a (refinements_grew n r) h = let z : ◌≡◌ {A = ℕ} 0 14 = rw h at n in absurd (omega arith)

-- "If the first is refused, the second gets the same number, except ..": the same answer, ratio and all, unless 8 or 15 and max_segments
-- grew, or 14 and max_refinements grew
pub same_answer : {S R : Type 0} {A : Type 0} (x y : Answer A) → Raised S R x y → ((number_of x ≡ 8) ⊎ (number_of x ≡ 15) → S → ⊥)
    → (number_of x ≡ 14 → R → ⊥) → y ≡ x
same_answer x y (same e) h k = e
same_answer x y (segments_grew n s) h k = absurd (h n s)
same_answer x y (refinements_grew n r) h k = absurd (k n r)

-- "where max_refinements stays, a 14 keeps its ratio too"
pub ratio_stays : (l : Lane) (g g' r : ℕ) (ratio : Float) → g ≤ g' → wide_limits (record { refinements = r; segments = g' }) ≡ false
    → build_of (record { lane = l; limits = record { refinements = r; segments = g } }) ≡ exhausted ratio
    → build_of (record { lane = l; limits = record { refinements = r; segments = g' } }) ≡ exhausted ratio
unfolding number_of
ratio_stays l g g' r ratio G w h =
    let x = build_of (record { lane = l; limits = record { refinements = r; segments = g } }) in
    let n : number_of x ≡ 14 = ap number_of h in
    same_answer x _
    (higher_limits l (record { refinements = r; segments = g }) (record { refinements = r; segments = g' }) G (omega arith) w)
    (λ e s. other n e) (λ e s. omega arith) ∙ h
  where
    other : {k : ℕ} → k ≡ 14 → (k ≡ 8) ⊎ (k ≡ 15) → ⊥
    other n (inl e) = omega arith
    other n (inr e) = omega arith

-- ---- request 10, second part: "among requests equal but for max_refinements and max_segments, all accepted ones agree in every used cell
-- and every count"
pub accepted_agree : (l : Lane) (m m' : Limits) (x x' : Result) → build_of (record { lane = l; limits = m }) ≡ done x
    → build_of (record { lane = l; limits = m' }) ≡ done x' → x ≡ x'
accepted_agree l m m' x x' h h' =
    let top : Limits = record { refinements = max m.refinements m'.refinements; segments = max m.segments m'.segments } in
    let a = stays_accepted (checked_of l m) (checked_of l top) x (checked_raised m top (omega arith) (omega arith) l)
    (build_checked l m x h) in
    let b = stays_accepted (checked_of l m') (checked_of l top) x' (checked_raised m' top (omega arith) (omega arith) l)
    (build_checked l m' x' h') in
    done_same (sym a ∙ b)
