-- The loop over regions.
use mathlib.Core.Path.{◌≡◌, refl, sym, ap, subst, ◌∙◌}
use mathlib.Core.List.{List, [], ◌∷◌}
use Prim.Native.Nat.{ℕ, ◌*◌, ◌≤◌, ◌<◌}
use native.Mathlib.Omega.{arith}
use lib.ListN.{length, take, drop, length-take, drop_of_length-le}
use lib.Ieee.{Float}
use Rattle.seed.specs.Regions.{Range, range, regions_of}
use Rattle.seed.proofs.Joining.{region_inside}
use Rattle.smoothing.specs.Answer.{Answer, and_then}
use Rattle.smoothing.specs.Answer.Answer.{done}
use Rattle.smoothing.specs.Refusal.{refused_by}
use Rattle.smoothing.specs.declared.refusal.Refusal.{Refusal}
use Rattle.smoothing.proofs.Refused.{then_refused}
use Rattle.smoothing.specs.State.{State}
use Rattle.smoothing.specs.Round.{refit_of, refit_all}
use Rattle.refinement.specs.declared.plan.Plan.{Plan}
use Rattle.refinement.specs.Memory.{Memory, memory_at, locations_at, Roomy, task_in}
use Rattle.refinement.specs.Refit.{Same}
use Rattle.refinement.specs.Round.{refits_from}
use Rattle.refinement.proofs.Memories.{locations_count}

-- ---- a region
-- as it is read from the knots t and the locations X: it lies among the controls, and the next one behind it
module _ (p : Plan) (w : List Float) (r : Roomy p (length w)) (count from a z next : ℕ) (few : count ≤ 3 * p.room) where
  abbrev After : List Float → List Float → Type 0
  After t X = regions_of t p.count (drop from X) ≡ range a z ∷ regions_of t p.count (drop next X)

  within : After (memory_at p w).t (locations_at p count w) → (from < next) × (next ≤ length (locations_at p count w))
      → (a ≤ z) × (z ≤ p.count) × (from < next) × (next ≤ count)
  within e n =
      let t = (memory_at p w).t in
      let X = locations_at p count w in
      let i = region_inside t p.count (drop from X) (range a z) (regions_of t p.count (drop next X)) (omega (arith, r.six)) e in
      let l = locations_count p w r count few in
      let s : a < z = i.some in
      let b = i.before_last in
      (omega arith, omega (arith, b), n.0, omega arith)

  pub region_is : (t X : List Float) → t ≡ (memory_at p w).t → X ≡ locations_at p count w → After t X → (from < next) × (next ≤ length X)
      → After (memory_at p w).t (locations_at p count w) × ((a ≤ z) × (z ≤ p.count) × (from < next) × (next ≤ count))
  region_is t X et eX e n =
      let f : After (memory_at p w).t (locations_at p count w) = subst (λ (u : List Float). After (memory_at p w).t u) eX
      (subst (λ (u : List Float). After u X) et e) in
      (f, within f (subst (λ (u : List Float). (from < next) × (next ≤ length u)) eX n))

-- ---- one turn
pub turn_is : (p : Plan) (count from next a z : ℕ) (x : Memory) (st : State) (answer : Answer State)
    → answer ≡ refit_of (task_in p x) (range a z) st
    → regions_of x.t p.count (drop from (take count x.locations))
    ≡ range a z ∷ regions_of x.t p.count (drop next (take count x.locations))
    → refits_from p count from x st ≡ and_then answer (refits_from p count next x)
unfolding refit_all
turn_is p count from next a z x st answer e s =
    ap (λ (l : List Range). refit_all (task_in p x) l st) s ∙ ap (λ (v : Answer State). and_then v (refits_from p count next x)) (sym e)

-- the same arrays, the same turns
same_turns : (p : Plan) (count from : ℕ) (x₀ x : Memory) (st : State) → Same x₀ x
    → refits_from p count from x st ≡ refits_from p count from x₀ st
same_turns p count from x₀ x st h =
    ap (λ (s : List Float). G s x.y x.t x.locations) h.same_s
    ∙ ap (λ (y : List Float). G x₀.s y x.t x.locations) h.same_y
    ∙ ap (λ (t : List Float). G x₀.s x₀.y t x.locations) h.same_t
    ∙ ap (λ (l : List Float). G x₀.s x₀.y x₀.t l) h.same_locations
  where
    G : List Float → List Float → List Float → List Float → Answer State
    G s y t l = refit_all (record { n = p.samples; k = p.axes; s = s; y = y }) (regions_of t p.count (drop from (take count l))) st

pub same_then : {x y z : Memory} → Same x y → Same y z → Same x z
same_then h k =
    record {
      same_s = k.same_s ∙ h.same_s;
      same_y = k.same_y ∙ h.same_y;
      same_t = k.same_t ∙ h.same_t;
      same_locations = k.same_locations ∙ h.same_locations;
    }

pub same_self : (x : Memory) → Same x x
same_self x = record { same_s = refl; same_y = refl; same_t = refl; same_locations = refl }

-- ---- the turns left, from the arrays x, which were x₀ before the first
module _ (p : Plan) (count from : ℕ) (x₀ x : Memory) (st : State) (whole : Answer State) (h : Same x₀ x)
    (inv : refits_from p count from x₀ st ≡ whole) where
  pub turn_next : (next : ℕ) (st' : State)
      → refits_from p count from x st ≡ and_then (done st') (refits_from p count next x)
      → refits_from p count next x₀ st' ≡ whole
  unfolding and_then
  turn_next next st' t =
      sym (same_turns p count next x₀ x st' h)
      ∙ sym t
      ∙ same_turns p count from x₀ x st h
      ∙ inv

  pub turn_refused : (next : ℕ) (e : Refusal)
      → refits_from p count from x st ≡ and_then (refused_by e) (refits_from p count next x)
      → refused_by e ≡ whole
  turn_refused next e t =
      sym (then_refused e (refits_from p count next x)) ∙ sym t ∙ same_turns p count from x₀ x st h ∙ inv

  pub turns_done : count ≤ from → done st ≡ whole
  unfolding refit_all regions_of
  turns_done l =
      let n = length-take count x₀.locations in
      let k : length (take count x₀.locations) ≤ from = omega arith in
      let e : drop from (take count x₀.locations) ≡ [] = drop_of_length-le (take count x₀.locations) k in
      ap (λ (v : List Float). refit_all (task_in p x₀) (regions_of x₀.t p.count v) st) (sym e) ∙ inv
