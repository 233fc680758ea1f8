-- Which numbers `build` refuses with.
use Rattle.std.specs.Prelude.{Ok, Err}
use Rattle.std.proofs.Common.{◌≡◌, ℕ, ◌+◌, ◌-◌, ◌<◌, ◌≤◌, Bool, true, false, cond, not, ◌&&◌, ◌||◌, T, eqb, leb, List, [], length, refl, ap, ◌∙◌, subst, true≢false, arith, leb→le, eq-eqb, ne_eqb, eqb-true, le-leb}
use borrow.Author.Tests.{eqb-false}
use lib.Ieee.{Float, lt}
use lib.Ieee.Fits.{and_l, and_r}
use Rattle.request.specs.Parameters.{misplaced, unreliable}
use Rattle.request.specs.Points.{unfit}
use Rattle.bspline.specs.Segments.{Polynomial, polynomial_of}
use Rattle.polynomial.specs.Outcome.{Outcome as Ending}
use Rattle.polynomial.specs.Outcome.{Done}
use Rattle.polynomial.specs.declared.interval.Unaudited.TheVariants.{NotAbove, NotFinite}
use Rattle.polynomial.specs.Outcome as audits
use Rattle.polynomial.specs.Audit.{Audit, audit_of}
use Rattle.polynomial.specs.Span.{segments}
use Rattle.polynomial.proofs.Above.{audit_not_12}
use Rattle.arith.specs.Operations.{floats}
use Rattle.window.specs.Cells.{at, Doubles}
use Rattle.smoothing.specs.Rising.{Rising}
use Rattle.smoothing.proofs.SegmentsRise.{breaks_count, break_at_law}
use Rattle.smoothing.proofs.KnotsRise.{KnotsRising, chord_rising, keeps_rising}
use Rattle.smoothing.proofs.Passed.{parameters_held, parameters_below}
use Rattle.normal.specs.Solve.{solve_of}
use Rattle.normal.proofs.Outcomes.{solve_number}
use Rattle.smoothing.specs.Answer.{Answer, and_then, unless}
use Rattle.smoothing.specs.Answer.Answer.{done, refused, exhausted}
use Rattle.smoothing.specs.Request.{Lane, Limits, Request, lane_parameters}
use Rattle.smoothing.specs.Checks.{Room, wide_lane, wide_limits, miscounted_points, no_axes, bad_axes, bad_tolerance, too_fine, overflows, refusal_of, short_room}
use Rattle.smoothing.specs.Rows.{Task, Units, lane_task, lane_units, parameters_of, other_axes, other_rows}
use Rattle.smoothing.specs.State.{Spline, State}
use Rattle.smoothing.specs.Start.{chord_state, start_of}
use Rattle.smoothing.specs.Round.{refine_of}
use Rattle.smoothing.specs.Finish.{physical_of, final_polynomial, errors_of, excessive, judged, finish_of}
use Rattle.smoothing.specs.Interpolate.{interpolation_system, interpolate_of}
use Rattle.smoothing.specs.Build.{selected_of, other_of, smoothed_of, checked_of, answer_of, build_of, build_in}
use Rattle.smoothing.proofs.Gives.{Gives, gives_then, gives_cond, gives_unless, gives_refused, gives_exhausted}
use Rattle.smoothing.proofs.Gives.Gives.{gives, refuses}
use Rattle.smoothing.proofs.Course.{Keeps, Refuses, course_gives}

-- the final audit
abbrev final_audit : Task → Units → State → Audit
final_audit q u st =
    let p = final_polynomial u q.k st.b in
    audit_of p.breaks p.coefficients q.s u.rows q.k 0 (q.n - 1) st.bounds st.witness

-- ---- the steps after the rounds
-- the final audit and its errors: 12, 13, 17
finish_gives : (P : ℕ → Type 0) (E : Type 0) (q : Task) (u : Units) (st : State)
    → (audits.number_of (final_audit q u st).outcome ≡ 12 → P 12) → P 13 → P 17
    → Gives (λ x. Unit {0}) P E (finish_of q u st)
unfolding finish_of judged
finish_gives P E q u st twelve thirteen seventeen =
    let a = final_audit q u st in
    gives_then {I = λ a. Unit {0}} (unless (audits.number_of a.outcome) a) _
    (gives_unless (audits.number_of a.outcome) a (λ e. tt) (number a.outcome twelve))
    (λ b k. gives_cond (excessive u.eps q.k (errors_of q a.bounds)) (refused 17) _ (λ e. refuses seventeen) (λ e. gives tt))
  where
    number : (o : Ending) → (audits.number_of o ≡ 12 → P 12) → eqb (audits.number_of o) 0 ≡ false → P (audits.number_of o)
    number (Ok a) t e = absurd (true≢false e)
    number (Err NotAbove) t e = t refl
    number (Err NotFinite) t e = thirteen

-- the other axes: 9, 10, 11
other_gives : (P : ℕ → Type 0) (E : Type 0) → P 9 → P 10 → P 11 → (l : Lane) → Gives (λ x. Unit {0}) P E (other_of l)
unfolding other_of interpolate_of
other_gives P E nine ten eleven l =
    let none : Answer (Polynomial Float) = done (record { breaks = []; coefficients = [] }) in
    let d = length (other_axes l) in
    let s = parameters_of l in
    let x = interpolation_system l.n d s (other_rows l) in
    gives_cond (eqb d 0) none (interpolate_of l.n d s (other_rows l)) (λ e. gives tt)
    (λ e. gives_unless (solve_of (l.n + 4) d x).number _ (λ e. tt)
    (solve_number (λ n. eqb n 0 ≡ false → P n) (λ e. absurd (true≢false e)) (λ e. nine) (λ e. ten) (λ e. eleven) (l.n + 4) d x))

-- the whole after 18, 20, 19, from what the selected axes give
module _ (P : ℕ → Type 0) (E : Type 0) (nine : P 9) (ten : P 10) (eleven : P 11) (eighteen : P 18) (nineteen : P 19) (twenty : P 20) where
  answer_gives : (short : Bool) (l : Lane) (m : Limits)
      → (refusal_of l ≡ 0 → Gives (λ x. Unit {0}) P E (selected_of m (lane_task l) (lane_units l)))
      → (eqb (refusal_of l) 0 ≡ false → P (refusal_of l)) → Gives (λ x. Unit {0}) P E (answer_of short (record { lane = l; limits = m }))
  unfolding answer_of checked_of smoothed_of
  answer_gives short l m h k =
      gives_cond (wide_lane l || wide_limits m) (refused 18) _ (λ e. refuses eighteen)
      (λ e. gives_cond (miscounted_points l) (refused 20) _ (λ e. refuses twenty)
      (λ e. gives_cond short (refused 19) _ (λ e. refuses nineteen)
      (λ e. gives_cond (eqb (refusal_of l) 0) _ (refused (refusal_of l))
      (λ e. gives_then (selected_of m (lane_task l) (lane_units l)) _ (h (eqb-true (refusal_of l) 0 e))
      (λ x i. gives_then (other_of l) _ (other_gives P E nine ten eleven l) (λ p i. gives tt)))
      (λ e. refuses (k e)))))

-- ---- the numbers of each part, and of the whole
-- from a to z, and 14 not among them
unfoldable among : ℕ → ℕ → ℕ → Bool
among a z n = leb a n && leb n z && not (eqb n 14)

among_means : (a z n : ℕ) → T (among a z n) → (a ≤ n) × (n ≤ z) × (n ≡ 14 → ⊥)
unfolding among
among_means a z n h =
    let p = and_l (leb a n && leb n z) (not (eqb n 14)) h in (
      leb→le a n (and_l (leb a n) (leb n z) p),
      leb→le n z (and_r (leb a n) (leb n z) p),
      λ e. subst T (ap not (eq-eqb n 14 e)) (and_r (leb a n && leb n z) (not (eqb n 14)) h),
    )

means_among : (a z n : ℕ) → a ≤ n → n ≤ z → (n ≡ 14 → ⊥) → T (among a z n)
unfolding among
means_among a z n l r h = rw (le-leb a n l, le-leb n z r, ne_eqb n 14 h) tt

-- from what holds of these, whatever is kept
selected_gives : (P : ℕ → Type 0) → P 8 → P 9 → P 10 → P 11 → P 12 → P 13 → P 15 → P 16 → P 17 → (m : Limits) (q : Task) (u : Units)
    → Gives (λ x. Unit {0}) P Unit (selected_of m q u)
unfolding selected_of
selected_gives P eight nine ten eleven twelve thirteen fifteen sixteen seventeen m q u =
    gives_then (and_then (start_of m.segments q) (refine_of m.segments m.refinements q)) (finish_of q u)
    (course_gives m.segments q (λ left st. Unit {0}) keeps rests m.refinements (λ e. tt))
    (λ st h. finish_gives P Unit q u st (λ e. twelve) thirteen seventeen)
  where
    keeps : Keeps m.segments q (λ left st. Unit {0})
    keeps = record { fit = λ left a z strength st st' l r h e. tt; audit = λ left from to st st' l h e. tt; insert = λ left st b t h e. tt }

    rests : Refuses q (λ left st. Unit {0}) P Unit
    rests =
        record {
          eight = eight;
          nine = nine;
          ten = ten;
          eleven = eleven;
          twelve = λ left from to st h e. twelve;
          thirteen = thirteen;
          fourteen = tt;
          fifteen = fifteen;
          sixteen = sixteen;
        }

-- the selected axes
pub selected_refused : (m : Limits) (q : Task) (u : Units) (n : ℕ) → selected_of m q u ≡ refused n → (8 ≤ n) × (n ≤ 17) × (n ≡ 14 → ⊥)
unfolding among
selected_refused m q u n e = among_means 8 17 n (gives_refused (selected_gives (λ n. T (among 8 17 n)) tt tt tt tt tt tt tt tt tt m q u) e)

-- the other axes
pub other_refused : (l : Lane) (n : ℕ) → other_of l ≡ refused n → (9 ≤ n) × (n ≤ 11)
other_refused l n e =
    gives_refused
    (other_gives (λ n. (9 ≤ n) × (n ≤ 11)) ⊥ (omega arith, omega arith) (omega arith, omega arith) (omega arith, omega arith) l) e

pub other_not_exhausted : (l : Lane) (ratio : Float) → other_of l ≡ exhausted ratio → ⊥
other_not_exhausted l ratio e = gives_exhausted (other_gives (λ n. Unit {0}) ⊥ tt tt tt l) e

-- the checks 1 to 7, and 26
pub refusal_most : (l : Lane) → 7 < refusal_of l → refusal_of l ≡ 26
unfolding refusal_of
refusal_most l =
    pick (unfit l.d l.n l.points) 1 _ (λ h. omega arith)
    (pick (no_axes l) 2 _ (λ h. omega arith)
    (pick (bad_axes l) 3 _ (λ h. omega arith)
    (pick (bad_tolerance l) 4 _ (λ h. omega arith)
    (pick (too_fine l) 26 _ (λ h. refl)
    (pick (misplaced (lane_parameters l) l.n) 5 _ (λ h. omega arith)
    (pick (unreliable (lane_parameters l) l.n) 6 _ (λ h. omega arith)
    (pick (overflows (lane_task l)) 7 0 (λ h. omega arith) (λ h. omega arith))))))))
  where
    pick : (b : Bool) (k m : ℕ) → (7 < k → k ≡ 26) → (7 < m → m ≡ 26) → 7 < cond b k m → cond b k m ≡ 26
    pick true k m h g = h
    pick false k m h g = g

-- a whole request: 1 to 20 and 26, and 14 only with its ratio
abbrev pub Refusal : ℕ → Type 0
Refusal n = (1 ≤ n) × (n ≡ 14 → ⊥) × (20 < n → n ≡ 26)

answer_refused : (short : Bool) (r : Request) → Gives (λ x. Unit {0}) Refusal Unit (answer_of short r)
unfolding among
answer_refused short r =
    let l = r.lane in
    let k : (n : ℕ) → T (among 1 20 n) → Refusal n = λ n h. let p = among_means 1 20 n h in (p.0, p.2, λ g. omega arith) in
    answer_gives Refusal Unit (k 9 tt) (k 10 tt) (k 11 tt) (k 18 tt) (k 19 tt) (k 20 tt) short l r.limits
    (λ e. selected_gives Refusal (k 8 tt) (k 9 tt) (k 10 tt) (k 11 tt) (k 12 tt) (k 13 tt) (k 15 tt) (k 16 tt) (k 17 tt) r.limits
    (lane_task l) (lane_units l))
    (λ e. (omega (arith, eqb-false (refusal_of l) 0 e), λ f. omega (arith, refusal_most l (omega arith)), λ g. refusal_most l (omega arith)))

pub build_refused : (r : Request) (n : ℕ) → build_of r ≡ refused n → Refusal n
unfolding build_of
build_refused r n e = gives_refused (answer_refused false r) e

pub build_in_refused : (room : Room) (r : Request) (n : ℕ) → build_in room r ≡ refused n → Refusal n
unfolding build_in
build_in_refused room r n e = gives_refused (answer_refused (short_room room r.lane r.limits) r) e

-- ---- 12, "audit: the right end not above the left", can't be reached: the breaks end at 1, and no parameter lies above it
module _ (q : Task) (below : (i : ℕ) → lt floats.one (at q.s i) ≡ false) where
  spline_not_12 : (b : Spline) (c y : List Float) (from to : ℕ) (bounds witness : List Float) → Rising b.t b.m
      → let p = polynomial_of floats b.t c q.k b.m in
      audits.number_of (audit_of p.breaks p.coefficients q.s y q.k from to bounds witness).outcome ≡ 12 → ⊥
  spline_not_12 b c y from to bounds witness r =
      let p = polynomial_of floats b.t c q.k b.m in
      let n = breaks_count b.t b.m r c q.k in
      let six = r.six in
      let e : segments p.breaks ≡ b.m - 5 = omega arith in
      let g : 5 + (b.m - 5) ≡ b.m = omega arith in
      let last : at p.breaks (segments p.breaks) ≡ floats.one = ap (λ (k : ℕ). at p.breaks k) e
      ∙ break_at_law b.t b.m r c q.k (b.m - 5) (omega arith) ∙ ap (λ (k : ℕ). at b.t k) g ∙ r.last in
      audit_not_12 p.breaks p.coefficients q.s y q.k (λ i. rw last (below (i + 1))) from to bounds witness (omega arith)

  pub selected_not_12 : (m : Limits) (u : Units) → Doubles q.s → Gives (λ x. Unit {0}) (λ n. n ≡ 12 → ⊥) Unit (selected_of m q u)
  unfolding selected_of chord_state final_polynomial
  selected_not_12 m u D =
      gives_then (and_then (start_of m.segments q) (refine_of m.segments m.refinements q)) (finish_of q u)
      (course_gives m.segments q (λ left st. KnotsRising st) (keeps_rising m.segments q) rests m.refinements (λ t. chord_rising q D))
      (λ st h. finish_gives (λ n. n ≡ 12 → ⊥) Unit q u st
      (λ e. absurd (spline_not_12 st.b (physical_of u q.k st.b) u.rows 0 (q.n - 1) st.bounds st.witness h.1 e))
      (λ e. omega arith) (λ e. omega arith))
    where
      rests : Refuses q (λ left st. KnotsRising st) (λ n. n ≡ 12 → ⊥) Unit
      rests =
          record {
            eight = λ e. omega arith;
            nine = λ e. omega arith;
            ten = λ e. omega arith;
            eleven = λ e. omega arith;
            twelve = λ left from to st h e. absurd (spline_not_12 st.b st.b.c q.y from to st.bounds st.witness h e);
            thirteen = λ e. omega arith;
            fourteen = tt;
            fifteen = λ e. omega arith;
            sixteen = λ e. omega arith;
          }

answer_not_12 : (short : Bool) (l : Lane) (m : Limits) → Doubles l.parameters
    → Gives (λ x. Unit {0}) (λ n. n ≡ 12 → ⊥) Unit (answer_of short (record { lane = l; limits = m }))
answer_not_12 short l m F =
    answer_gives (λ n. n ≡ 12 → ⊥) Unit (λ e. omega arith) (λ e. omega arith) (λ e. omega arith) (λ e. omega arith) (λ e. omega arith)
    (λ e. omega arith) short l m
    (λ h. selected_not_12 (lane_task l) (parameters_below l F h) m (lane_units l) (parameters_held l))
    (λ h e. omega (arith, refusal_most l (omega arith)))

pub build_not_12 : (r : Request) → Doubles r.lane.parameters → build_of r ≡ refused 12 → ⊥
unfolding build_of
build_not_12 r F e = gives_refused (answer_not_12 false r.lane r.limits F) e refl

pub build_in_not_12 : (room : Room) (r : Request) → Doubles r.lane.parameters → build_in room r ≡ refused 12 → ⊥
unfolding build_in
build_in_not_12 room r F e = gives_refused (answer_not_12 (short_room room r.lane r.limits) r.lane r.limits F) e refl
