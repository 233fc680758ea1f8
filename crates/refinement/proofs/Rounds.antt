-- A round: the insertions, the polynomial, the regions.
use mathlib.Core.Path.{◌≡◌, refl, sym, ap, subst, ◌∙◌}
use mathlib.Core.List.{List}
use Prim.Native.Nat.{ℕ, ◌<◌}
use native.Mathlib.Omega.{arith}
use borrow.Author.Tests.{ne_eqb}
use lib.ListN.{take}
use lib.Ieee.{Float}
use Rattle.seed.specs.Regions.{regions_of}
use Rattle.smoothing.specs.Answer.{Answer, and_then, unless}
use Rattle.smoothing.specs.Answer.Answer.{done, refused}
use Rattle.smoothing.specs.State.{Spline, State, state, Counts, add_refinement, polynomial_in}
use Rattle.smoothing.specs.Round.{insert_all, refit_all, refitted}
use Rattle.smoothing.specs.Rising.{Rising, All, Number}
use Rattle.smoothing.proofs.KnotsRise.{insert_all_rising}
use Rattle.smoothing.proofs.SegmentsRise.{wide}
use Rattle.refinement.specs.declared.plan.Plan.{Plan}
use Rattle.refinement.specs.Memory.{Memory, memory_at, task_in, spline_in, state_in, sized, with_polynomial, Stored, Wide}
use Rattle.refinement.specs.Kept.{Beside}
use Rattle.refinement.specs.Refit.{Same}
use Rattle.refinement.specs.Round.{round_with, Standing}

-- ---- 16
pub round_refused : {A B : Type 0} (number : ℕ) (a : A) (b : B) (x : Answer A) (f : A → Answer B) → 0 < number → unless number a ≡ x
    → unless number b ≡ and_then x f
unfolding unless and_then
round_refused number a b x f l e =
    let n = ne_eqb number 0 (λ e. omega arith) in
    let u : unless number a ≡ refused number = rw n in
    let v : unless number b ≡ refused number = rw n in
    v ∙ sym (ap (λ z. and_then z f) (sym e ∙ u))

-- ---- all knots are in: the arrays were x, are x₁ then, and x₂ with the polynomial
module _ (p : Plan) (m count : ℕ) (x x₁ : Memory)
    (inserted : done (spline_in (sized p m) x₁) ≡ insert_all p.axes (take count x.locations) (spline_in p x)) where
  abbrev p' : Plan
  p' = sized p m

  abbrev X : List Float
  X = take count x.locations

  done_is : insert_all p.axes X (spline_in p x) ≡ done (spline_in p' x₁)
  done_is = sym inserted

  pub knots_rise : Rising x.t p.count → All Number X → Rising x₁.t m
  knots_rise r a = insert_all_rising p.axes X (spline_in p x) (spline_in p' x₁) a r done_is

  pub knots_wide : Rising x.t p.count → All Number X → Wide x₁.t m
  knots_wide r a = wide x₁.t m (knots_rise r a)

  module _ (x₂ : Memory) (rebuilt : x₂ ≡ with_polynomial (polynomial_in p.axes (spline_in p' x₁)) x₁) where
    pub rebuilt_wide : Rising x.t p.count → All Number X → Wide x₂.t m
    rebuilt_wide r a = subst (λ (y : Memory). Wide y.t m) (sym rebuilt) (knots_wide r a)

    pub rebuilt_stored : Stored p' x₂
    rebuilt_stored = subst (Stored p') (sym rebuilt) (record { breaks_are = refl; coefficients_are = refl })

    module _ (beside : Beside x x₁) where
      -- what the regions give is the rest of the round
      pub round_is : (report : Counts) (answer : Answer State)
          → answer ≡ refit_all (task_in p' x₂) (regions_of x₂.t m (take count x₂.locations)) (state_in p' (add_refinement report) x₂)
          → answer ≡ round_with (task_in p x) X (state_in p report x)
      unfolding and_then refitted
      round_is report answer e =
          e
          ∙ ap (λ (y : Memory). refit_all (task_in p' y) (regions_of y.t m (take count y.locations))
          (state_in p' (add_refinement report) y)) rebuilt
          ∙ ap (λ (l : List Float). G l x₁.y x₁.locations x₁.bounds x₁.witness) beside.same_s
          ∙ ap (λ (l : List Float). G x.s l x₁.locations x₁.bounds x₁.witness) beside.same_y
          ∙ ap (λ (l : List Float). G x.s x.y l x₁.bounds x₁.witness) beside.same_locations
          ∙ ap (λ (l : List Float). G x.s x.y x.locations l x₁.witness) beside.same_bounds
          ∙ ap (λ (l : List Float). G x.s x.y x.locations x.bounds l) beside.same_witness
          ∙ ap (λ (z : Answer Spline). and_then z (refitted (task_in p x) X (state_in p report x))) (sym done_is)
        where
          G : List Float → List Float → List Float → List Float → List Float → Answer State
          G s y l bounds witness =
              refit_all (record { n = p.samples; k = p.axes; s = s; y = y }) (regions_of x₁.t m (take count l))
              (state (spline_in p' x₁) bounds witness (add_refinement report))

      -- what stands then
      kept_task : (x₃ : Memory) → Same x₂ x₃ → task_in p' x₃ ≡ task_in p x
      kept_task x₃ h =
          let s : x₃.s ≡ x.s = h.same_s ∙ ap (λ (y : Memory). y.s) rebuilt ∙ beside.same_s in
          let y : x₃.y ≡ x.y = h.same_y ∙ ap (λ (y : Memory). y.y) rebuilt ∙ beside.same_y in
          λ i. record { n = p.samples; k = p.axes; s = s i; y = y i }

      kept_rising : (x₃ : Memory) → Same x₂ x₃ → Rising x.t p.count → All Number X → Rising x₃.t m
      kept_rising x₃ h r a =
          subst (λ (t : List Float). Rising t m) (sym (h.same_t ∙ ap (λ (y : Memory). y.t) rebuilt)) (knots_rise r a)

-- the same of the cells, w before the round and w₁, w₂, w₃ after the insertions, the polynomial and the regions
pub round_stands : (p : Plan) (m count : ℕ) (w w₁ w₂ w₃ : List Float)
    → let x = memory_at p w in let x₁ = memory_at (sized p m) w₁ in let x₂ = memory_at (sized p m) w₂ in
    done (spline_in (sized p m) x₁) ≡ insert_all p.axes (take count x.locations) (spline_in p x)
    → x₂ ≡ with_polynomial (polynomial_in p.axes (spline_in (sized p m) x₁)) x₁ → Beside x x₁ → Same x₂ (memory_at (sized p m) w₃)
    → Rising x.t p.count → All Number (take count x.locations) → Standing p m w w₃
round_stands p m count w w₁ w₂ w₃ i e b s r a =
    record {
      same_task = kept_task p m count (memory_at p w) (memory_at (sized p m) w₁) i (memory_at (sized p m) w₂) e b
          (memory_at (sized p m) w₃) s;
      rising = kept_rising p m count (memory_at p w) (memory_at (sized p m) w₁) i (memory_at (sized p m) w₂) e b
          (memory_at (sized p m) w₃) s r a;
    }
