-- The start, the rounds and the finish, one after the other.
use mathlib.Core.Path.{◌≡◌, sym, ap, ◌∙◌}
use Prim.Native.Nat.{◌+◌, ◌-◌, ◌*◌, ◌≤◌}
use native.Mathlib.Omega.{arith}
use native.Mathlib.Nat.{mul-le-mul}
use lib.ListN.{length}
use Rattle.smoothing.specs.Answer.{Answer, and_then}
use Rattle.smoothing.specs.Answer.Answer.{done}
use Rattle.smoothing.specs.Refusal.{refused_by}
use Rattle.smoothing.specs.declared.refusal.Refusal.{Refusal}
use Rattle.smoothing.proofs.Refused.{then_refused, stops_there}
use Rattle.smoothing.specs.Request.{Limits}
use Rattle.smoothing.specs.Rows.{Task, Units}
use Rattle.smoothing.specs.State.{State}
use Rattle.smoothing.specs.Start.{start_of}
use Rattle.smoothing.specs.Round.{refine_of}
use Rattle.smoothing.specs.Finish.{Selected, finish_of}
use Rattle.smoothing.specs.Build.{selected_of}
use Rattle.smoothing.proofs.Sizes.{Within, start_within, refine_within}
use Rattle.smoothing.proofs.Tallies.{course_counts}

module _ (m : Limits) (q : Task) (u : Units) where
  -- 8 to 13
  pub start_refuses : (e : Refusal) → refused_by e ≡ start_of m.segments q → refused_by e ≡ selected_of m q u
  unfolding selected_of
  start_refuses e h =
      stops_there e (and_then (start_of m.segments q) (refine_of m.segments m.refinements q)) (finish_of q u)
      (stops_there e (start_of m.segments q) (refine_of m.segments m.refinements q) h)

  module _ (s : State) (started : done s ≡ start_of m.segments q) where
    -- as the rounds end
    rounds_end : (a : Answer State) → a ≡ refine_of m.segments m.refinements q s → and_then a (finish_of q u) ≡ selected_of m q u
    unfolding selected_of and_then
    rounds_end a h =
        ap (λ (a : Answer State). and_then a (finish_of q u)) h
        ∙ ap (λ (b : Answer State). and_then (and_then b (refine_of m.segments m.refinements q)) (finish_of q u)) started

    -- 9 to 16
    pub rounds_refuse : (e : Refusal) → refused_by e ≡ refine_of m.segments m.refinements q s → refused_by e ≡ selected_of m q u
    rounds_refuse e h = sym (then_refused e (finish_of q u)) ∙ rounds_end (refused_by e) h

    -- the finish
    module _ (s₁ : State) (settled : done s₁ ≡ refine_of m.segments m.refinements q s) where
      pub rounds_settle : (q₁ : Task) (a : Answer Selected) → q₁ ≡ q → a ≡ finish_of q₁ u s₁ → a ≡ selected_of m q u
      unfolding and_then
      rounds_settle q₁ a t f = f ∙ ap (λ (t : Task). finish_of t u s₁) t ∙ rounds_end (done s₁) settled

      within : Within m.segments q s
      within = (start_within m.segments q s (sym started)).0

      pub settled_few : s₁.b.m ≤ m.segments + 5
      settled_few = (refine_within m.segments m.refinements q s s₁ within (sym settled)).0.few

      -- few enough to be added up
      pub settled_intervals : length q.s ≡ q.n → q.n ≤ 20000 → m.refinements ≤ 200 → s₁.report.intervals ≤ 4611686018427387904
      unfolding and_then
      settled_intervals n few rounds =
          let a : q.n - 1 ≤ 20000 = omega arith in
          let b : (q.n - 1) * (q.n - 1) ≤ 20000 * 20000 = mul-le-mul a a in
          let k : m.refinements * ((q.n - 1) * (q.n - 1)) ≤ 200 * (20000 * 20000) = mul-le-mul rounds b in
          let g = ap (λ (x : Answer State). and_then x (refine_of m.segments m.refinements q)) (sym started) ∙ sym settled in
          omega (arith, (course_counts m.segments q n m.refinements s₁ g).1, k)
