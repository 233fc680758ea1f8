-- The course of `build` up to the final scaling, walked once for every property: what its steps keep, and the refusals that they give.
use Rattle.std.specs.Prelude.{Ok, Err}
use Rattle.std.proofs.Common.{◌≡◌, ℕ, zero, suc, ◌-◌, ◌≤◌, min, false, eqb, ltb, List, [], ◌∷◌, sym, refl, ap, ◌∙◌, true≢false, arith}
use lib.Ieee.{Float}
use Rattle.polynomial.specs.Outcome.{Outcome}
use Rattle.polynomial.specs.Outcome.{Done}
use Rattle.polynomial.specs.declared.interval.Unaudited.TheVariants.{NotAbove, NotFinite}
use Rattle.polynomial.specs.Outcome as audits
use Rattle.polynomial.specs.Audit.{Audit, audit_of}
use Rattle.fitting_rows.specs.Arrays.{arrays}
use Rattle.fit.proofs.Bounds.{fit_number}
use Rattle.seed.specs.Regions.{Range, regions_of}
use Rattle.seed.proofs.Windows.{Inner, Inners, regions_inner}
use Rattle.smoothing.specs.Answer.{and_then}
use Rattle.smoothing.specs.Answer.Answer.{done, refused, exhausted}
use Rattle.smoothing.specs.Rows.{Task}
use Rattle.smoothing.specs.State.{Spline, State, state, add_refinement, polynomial_in, fit_in, fitted, audited, audit_in}
use Rattle.smoothing.specs.Start.{curved, first_knots, many_knots, chord_state, first_strength, first_fit, first_state, start_of}
use Rattle.smoothing.specs.Round.{settled, worst_of, locations_of, spans_after, strength_of, outside, insert_of, insert_all, refit_of, refit_all, refitted, round_of, refine_of}
use Rattle.smoothing.proofs.Accepted.{unless_done}
use Rattle.smoothing.proofs.Gives.{Gives, gives_then, gives_cond, gives_unless, gives_more, gives_done}
use Rattle.smoothing.proofs.Gives.Gives.{gives, refuses, exhausts}

-- the audit of a state
abbrev pub audit_at : Task → ℕ → ℕ → State → Audit
audit_at q left right st =
    let p = polynomial_in q.k st.b in
    audit_of p.breaks p.coefficients q.s q.y q.k left right st.bounds st.witness

-- The rounds, from what one round keeps under max_segments g, with `left` rounds left.
pub rounds_give : {P : ℕ → Type 0} {E : Type 0} (g : ℕ) (q : Task) (I : ℕ → State → Type 0) → E → P 15
    → ((left : ℕ) (st : State) → ltb g (spans_after q st) ≡ false → I (suc left) st → Gives (I left) P E (round_of q st))
    → (left : ℕ) (st : State) → I left st → Gives (λ st. (left : ℕ) × I left st) P E (refine_of g left q st)
unfolding refine_of
rounds_give g q I fourteen fifteen round zero st h =
    gives_cond (settled st) (done st) (exhausted (worst_of st.bounds)) (λ e. gives (zero, h)) (λ e. exhausts fourteen)
rounds_give g q I fourteen fifteen round (suc left) st h =
    gives_cond (settled st) (done st) _ (λ e. gives (suc left, h))
    (λ e. gives_cond (ltb g (spans_after q st)) (refused 15) _ (λ t. refuses fifteen)
    (λ t. gives_then (round_of q st) (refine_of g left q) (round left st t h)
    (λ after k. rounds_give g q I fourteen fifteen round left after k)))

-- What every step keeps, under max_segments g, with `left` rounds left. A fit is of a window without the first and the last control; an
-- audit's intervals are intervals of waypoints; knots are inserted once 15 let them through.
pub record Keeps (g : ℕ) (q : Task) (I : ℕ → State → Type 0) : Type 0 where
  pub fit : (left a z : ℕ) (strength : Float) (st st' : State) → 1 ≤ a → z ≤ st.b.m - 1 → I left st
      → fitted (fit_in q a z strength st.b) st ≡ done st' → I left st'
  pub audit : (left from to : ℕ) (st st' : State) → to ≤ q.n - 1 → I left st → audit_in q from to st ≡ done st' → I left st'
  pub insert : (left : ℕ) (st : State) (b : Spline) → ltb g (spans_after q st) ≡ false → I (suc left) st
      → insert_all q.k (locations_of q st) st.b ≡ done b
      → I left (state b st.bounds st.witness (add_refinement st.report))

-- P of every number but 14 that a step refuses with, and E where the refinements are used up; 12 may follow from what is kept
pub record Refuses (q : Task) (I : ℕ → State → Type 0) (P : ℕ → Type 0) (E : Type 0) : Type 0 where
  pub eight : P 8
  pub nine : P 9
  pub ten : P 10
  pub eleven : P 11
  pub twelve : (left from to : ℕ) (st : State) → I left st → audits.number_of (audit_at q from to st).outcome ≡ 12 → P 12
  pub thirteen : P 13
  pub fourteen : E
  pub fifteen : P 15
  pub sixteen : P 16

-- where nothing is asked of a refusal
any_refusal : (q : Task) (I : ℕ → State → Type 0) → Refuses q I (λ n. Unit {0}) Unit
any_refusal q I =
    record {
      eight = tt;
      nine = tt;
      ten = tt;
      eleven = tt;
      twelve = λ left from to st h e. tt;
      thirteen = tt;
      fourteen = tt;
      fifteen = tt;
      sixteen = tt;
    }

module _ {P : ℕ → Type 0} {E : Type 0} (g : ℕ) (q : Task) (I : ℕ → State → Type 0) (keeps : Keeps g q I) (rest : Refuses q I P E) where
  -- what is kept, and the controls are m
  abbrev Same : ℕ → ℕ → State → Type 0
  Same left m st = I left st × (st.b.m ≡ m)

  fit_gives : (left m a z : ℕ) (strength : Float) (st : State) → 1 ≤ a → z ≤ m - 1 → Same left m st
      → Gives (Same left m) P E (fitted (fit_in q a z strength st.b) st)
  unfolding fitted fit_in
  fit_gives left m a z strength st l r h =
      let f = fit_in q a z strength st.b in
      gives_more (fitted f st)
      (λ st' e k. (
        keeps.fit left a z strength st st' l (omega (arith, h.1)) h.0 e,
        ap (λ (s : State). s.b.m) (sym (unless_done f.answered.number _ st' e).1) ∙ h.1,
      ))
      (gives_unless {I = λ s. Unit {0}} f.answered.number _ (λ e. tt)
      (fit_number (arrays st.b.t st.b.c st.b.m q.k q.s q.y q.n) a z strength (λ n. eqb n 0 ≡ false → P n)
      (λ e. absurd (true≢false e))
      (λ e. rest.nine) (λ e. rest.ten) (λ e. rest.eleven)))

  audit_gives : (left m from to : ℕ) (st : State) → to ≤ q.n - 1 → Same left m st → Gives (Same left m) P E (audit_in q from to st)
  unfolding audit_in audited
  audit_gives left m from to st l h =
      let a = audit_at q from to st in
      gives_more (audit_in q from to st)
      (λ st' e k. (
        keeps.audit left from to st st' l h.0 e,
        ap (λ (s : State). s.b.m) (sym (unless_done (audits.number_of a.outcome) _ st' e).1) ∙ h.1,
      ))
      (gives_unless {I = λ s. Unit {0}} (audits.number_of a.outcome) _ (λ e. tt)
      (number a.outcome (rest.twelve left from to st h.0)))
    where
      number : (o : Outcome) → (audits.number_of o ≡ 12 → P 12) → eqb (audits.number_of o) 0 ≡ false → P (audits.number_of o)
      number (Ok a) t e = absurd (true≢false e)
      number (Err NotAbove) t e = t refl
      number (Err NotFinite) t e = rest.thirteen

  refit_gives : (left m : ℕ) (r : Range) (st : State) → Inner m r → Same left m st → Gives (Same left m) P E (refit_of q r st)
  unfolding refit_of
  refit_gives left m r st i h =
      let f = fit_in q r.a r.z (strength_of st.report.refinements) st.b in
      gives_then (fitted f st) (audit_in q (f.answered.first - 1) (min f.answered.last (q.n - 1)))
      (fit_gives left m r.a r.z (strength_of st.report.refinements) st i.0 i.1 h)
      (λ after k. audit_gives left m (f.answered.first - 1) (min f.answered.last (q.n - 1)) after (omega arith) k)

  refit_all_gives : (left m : ℕ) (l : List Range) (st : State) → Inners m l → Same left m st → Gives (Same left m) P E (refit_all q l st)
  unfolding refit_all
  refit_all_gives left m [] st i h = gives h
  refit_all_gives left m (r ∷ l) st i h =
      gives_then (refit_of q r st) (refit_all q l) (refit_gives left m r st i.0 h) (λ after k. refit_all_gives left m l after i.1 k)

  insert_gives : (l : List Float) (b : Spline) → Gives (λ b. Unit {0}) P E (insert_all q.k l b)
  unfolding insert_all
  insert_gives [] b = gives tt
  insert_gives (x ∷ l) b =
      gives_cond (outside b x) (refused 16) _ (λ e. refuses rest.sixteen) (λ e. insert_gives l (insert_of q.k x b))

  -- one round
  pub round_gives : (left : ℕ) (st : State) → ltb g (spans_after q st) ≡ false → I (suc left) st → Gives (I left) P E (round_of q st)
  unfolding round_of refitted
  round_gives left st t h =
      let x = locations_of q st in
      gives_then (insert_all q.k x st.b) (refitted q x st)
      (gives_more (insert_all q.k x st.b) (λ b e k. keeps.insert left st b t h e) (insert_gives x st.b))
      (λ b k. gives_more (refitted q x st b) (λ st' e s. s.0)
      (refit_all_gives left b.m (regions_of b.t b.m x) _ (regions_inner b.t b.m x) (k, refl)))

  -- the rounds
  pub refine_gives : (left : ℕ) (st : State) → I left st → Gives (λ st. (left : ℕ) × I left st) P E (refine_of g left q st)
  refine_gives left st h = rounds_give g q I rest.fourteen rest.fifteen round_gives left st h

  -- the first curve
  pub start_gives : (left : ℕ) → (many_knots g q ≡ false → I left (chord_state q (first_knots q))) → Gives (I left) P E (start_of g q)
  unfolding start_of first_state first_fit
  start_gives left h =
      let st = chord_state q (first_knots q) in
      let m = st.b.m in
      gives_cond (many_knots g q) (refused 8) _ (λ e. refuses rest.eight)
      (λ e. gives_more (first_state q) (λ st' d k. k.0)
      (gives_then (first_fit q st) (audit_in q 0 (q.n - 1))
      (gives_cond (curved q) _ (done st) (λ c. fit_gives left m 1 (m - 1) first_strength st (omega arith) (omega arith) (h e, refl))
      (λ c. gives (h e, refl)))
      (λ after k. audit_gives left m 0 (q.n - 1) after (omega arith) k)))

  -- both
  pub course_gives : (left : ℕ) → (many_knots g q ≡ false → I left (chord_state q (first_knots q)))
      → Gives (λ st. (left : ℕ) × I left st) P E (and_then (start_of g q) (refine_of g left q))
  course_gives left h = gives_then (start_of g q) (refine_of g left q) (start_gives left h) (λ st k. refine_gives left st k)

-- what is kept, of a state that the course comes to
module _ (g : ℕ) (q : Task) (I : ℕ → State → Type 0) (keeps : Keeps g q I) where
  pub start_keeps : (left : ℕ) (st : State) → (many_knots g q ≡ false → I left (chord_state q (first_knots q))) → start_of g q ≡ done st
      → I left st
  start_keeps left st h e = gives_done (start_gives g q I keeps (any_refusal q I) left h) e

  pub round_keeps : (left : ℕ) (st st' : State) → ltb g (spans_after q st) ≡ false → I (suc left) st → round_of q st ≡ done st' → I left st'
  round_keeps left st st' t h e = gives_done (round_gives g q I keeps (any_refusal q I) left st t h) e

  pub refine_keeps : (left : ℕ) (st st' : State) → I left st → refine_of g left q st ≡ done st' → (left : ℕ) × I left st'
  refine_keeps left st st' h e = gives_done (refine_gives g q I keeps (any_refusal q I) left st h) e

  pub course_keeps : (left : ℕ) (st : State) → (many_knots g q ≡ false → I left (chord_state q (first_knots q)))
      → and_then (start_of g q) (refine_of g left q) ≡ done st → (left : ℕ) × I left st
  course_keeps left st h e = gives_done (course_gives g q I keeps (any_refusal q I) left h) e
