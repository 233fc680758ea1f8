-- Refinement: a round with its locations, and the rounds.
use mathlib.Core.Path.{◌≡◌, refl, sym, ap, subst, ◌∙◌}
use mathlib.Core.Bool.{Bool, true, false, cond}
use mathlib.Core.List.{List}
use Prim.Native.Nat.{ℕ, zero, suc, ◌+◌, ◌-◌, ◌≤◌, ◌<◌}
use native.Mathlib.Omega.{arith}
use borrow.Author.Tests.{lt-ltb, le-ltb}
use lib.Dec.{ltb}
use lib.ListN.{length}
use lib.Ieee.{Float, le}
use Rattle.arith.specs.Operations.{floats}
use Rattle.smoothing.specs.Answer.{Answer, and_then}
use Rattle.smoothing.specs.Answer.Answer.{done, refused, exhausted}
use Rattle.smoothing.specs.Refusal.{refused_by}
use Rattle.smoothing.specs.declared.refusal.Refusal.{Refusal}
use Rattle.smoothing.proofs.Refused.{then_refused}
use Rattle.smoothing.specs.Rows.{Task}
use Rattle.smoothing.specs.State.{State, Counts, counts}
use Rattle.smoothing.specs.Round.{worst_of, settled, raw_locations, locations_of, spans_after, round_of, refine_of}
use Rattle.smoothing.specs.Rising.{Rising, All, Number}
use Rattle.smoothing.proofs.Sizes.{locations_few}
use Rattle.smoothing.proofs.Everywhere.{locations_numbers}
use Rattle.refinement.specs.declared.plan.Plan.{Plan}
use Rattle.refinement.specs.Memory.{Memory, memory_at, task_in, state_in, task_at, state_at, locations_at}
use Rattle.refinement.specs.Round.{Located, round_with, Standing}
use Rattle.refinement.specs.Refined.{tried}

-- ---- a round that 15 lets through: k locations were found, which made the cells w₁ of w
module _ (p : Plan) (w w₁ : List Float) (k : ℕ) (f : Located p k w w₁) where
  abbrev q : Task
  q = task_at p w

  pub located_few : k ≤ p.samples - 1
  located_few = omega (arith, f.many, locations_few q (state_at p (counts 0 0 0) w))

  pub located_rising : Rising (memory_at p w).t p.count → Rising (memory_at p w₁).t p.count
  located_rising r = subst (λ (t : List Float). Rising t p.count) (sym (ap (λ (y : Memory). y.t) f.rest)) r

  pub located_numbers : Rising (memory_at p w).t p.count → All Number (locations_at p k w₁)
  located_numbers r = subst (All Number) (sym f.are) (locations_numbers q (state_at p (counts 0 0 0) w) r)

  module _ (report : Counts) (segments : ℕ) where
    abbrev st : State
    st = state_at p report w

    -- the locations don't depend on the report
    same : locations_of q (state_at p (counts 0 0 0) w) ≡ locations_of q st
    unfolding locations_of raw_locations
    same = refl

    spans_are : ltb segments (spans_after q st) ≡ ltb segments (p.count - 5 + k)
    unfolding spans_after
    spans_are = ap (λ (i : ℕ). ltb segments (p.count - 5 + i)) (sym (f.many ∙ ap length same))

    pub try_refused : segments < p.count - 5 + k → refused 15 ≡ tried segments q st
    try_refused l = sym (ap (λ (b : Bool). cond b (refused 15) (round_of q st)) (spans_are ∙ lt-ltb segments (p.count - 5 + k) l))

    pub try_goes : (answer : Answer State) → p.count - 5 + k ≤ segments
        → answer ≡ round_with (task_at p w₁) (locations_at p k w₁) (state_at p report w₁) → answer ≡ tried segments q st
    unfolding round_of
    try_goes answer l a =
        a
        ∙ ap (λ (y : Memory). round_with (task_in p y) (locations_at p k w₁) (state_in p report y)) f.rest
        ∙ ap (λ (v : List Float). round_with q v st) (f.are ∙ same)
        ∙ sym (ap (λ (b : Bool). cond b (refused 15) (round_of q st)) (spans_are ∙ le-ltb segments (p.count - 5 + k) l))

  -- what stands after the round, in terms of the cells before the search for locations
  pub try_stands : (m : ℕ) (w₂ : List Float) → Standing p m w₁ w₂ → Standing p m w w₂
  try_stands m w₂ s = record { same_task = s.same_task ∙ ap (task_in p) f.rest; rising = s.rising }

-- ---- the rounds
module _ (segments : ℕ) (q : Task) (st : State) where
  refine_settled : (left : ℕ) → settled st ≡ true → done st ≡ refine_of segments left q st
  unfolding refine_of
  refine_settled zero s = sym (ap (λ (b : Bool). cond b (done st) (exhausted (worst_of st.bounds))) s)
  refine_settled (suc left) s =
      sym (ap (λ (b : Bool). cond b (done st)
      (cond (ltb segments (spans_after q st)) (refused 15) (and_then (round_of q st) (λ after. refine_of segments left q after)))) s)

  refine_exhausted : (left : ℕ) → left ≡ 0 → settled st ≡ false → exhausted (worst_of st.bounds) ≡ refine_of segments left q st
  unfolding refine_of
  refine_exhausted left e s =
      sym (ap (λ (i : ℕ). refine_of segments i q st) e ∙ ap (λ (b : Bool). cond b (done st) (exhausted (worst_of st.bounds))) s)

  pushed : (b : Bool) (r : Answer State) (f : State → Answer State) → cond b (refused 15) (and_then r f) ≡ and_then (cond b (refused 15) r) f
  unfolding and_then
  pushed true r f = refl
  pushed false r f = refl

  opened : (left : ℕ) → settled st ≡ false → refine_of segments (suc left) q st ≡ and_then (tried segments q st) (refine_of segments left q)
  unfolding refine_of
  opened left s =
      ap (λ (b : Bool). cond b (done st)
      (cond (ltb segments (spans_after q st)) (refused 15) (and_then (round_of q st) (λ after. refine_of segments left q after)))) s
      ∙ pushed (ltb segments (spans_after q st)) (round_of q st) (refine_of segments left q)

  -- the test: w is the worst bound
  module _ (w : Float) (is : w ≡ worst_of st.bounds) (left : ℕ) (whole : Answer State) (inv : refine_of segments left q st ≡ whole) where
    settled_is : (b : Bool) → le w (floats.literal 99 100) ≡ b → settled st ≡ b
    unfolding settled
    settled_is b h = ap (λ (v : Float). le v (floats.literal 99 100)) (sym is) ∙ h

    pub refine_done : le w (floats.literal 99 100) ≡ true → done st ≡ whole
    refine_done h = refine_settled left (settled_is true h) ∙ inv

    module _ (h : le w (floats.literal 99 100) ≡ false) where
      pub refine_used_up : left ≡ 0 → exhausted w ≡ whole
      refine_used_up z = ap exhausted is ∙ refine_exhausted left z (settled_is false h) ∙ inv

      module _ (some : 0 < left) where
        turn : (answer : Answer State) → answer ≡ tried segments q st
            → refine_of segments left q st ≡ and_then answer (refine_of segments (left - 1) q)
        turn answer t =
            let e : left ≡ suc (left - 1) = omega arith in
            ap (λ (i : ℕ). refine_of segments i q st) e
            ∙ opened (left - 1) (settled_is false h)
            ∙ ap (λ (a : Answer State). and_then a (refine_of segments (left - 1) q)) (sym t)

        pub refine_refused : (e : Refusal) → refused_by e ≡ tried segments q st → refused_by e ≡ whole
        refine_refused e t = sym (turn (refused_by e) t ∙ then_refused e (refine_of segments (left - 1) q)) ∙ inv

        pub refine_next : (s : State) → done s ≡ tried segments q st → refine_of segments (left - 1) q s ≡ whole
        unfolding and_then
        refine_next s t = sym (turn (done s) t) ∙ inv
