-- The curve of an accepted request is well formed in the used cells of the results.
use mathlib.Core.Path.{◌≡◌, refl, sym, ap, subst, ◌∙◌}
use mathlib.Core.Bool.{Bool, true, false, cond, ◌&&◌, ◌||◌}
use mathlib.Core.List.{List}
use Prim.Native.Nat.{ℕ, ◌+◌, ◌-◌, ◌*◌}
use native.Mathlib.Omega.{arith}
use borrow.Author.Tests.{lt-ltb, le-ltb, eqb-true, eqb-false}
use lib.Dec.{eqb, ltb}
use lib.ListN.{length, take, drop}
use lib.Seq.{take_at}
use lib.Ieee.{Float}
use Rattle.window.specs.Cells.{Doubles, onto}
use Rattle.arith.proofs.Truth.{and_parts}
use Rattle.curve.specs.Form.{Slices, slices, set_formed, others_formed, well_formed}
use Rattle.curve.proofs.Formed.{set_parts, formed}
use Rattle.smoothing.specs.Answer.{Answer, number_of}
use Rattle.smoothing.specs.Answer.Answer.{done, refused, exhausted}
use Rattle.smoothing.specs.Request.{Lane, Limits, Request}
use Rattle.smoothing.specs.Checks.{Room, wide_lane, wide_limits, miscounted_points, short_room}
use Rattle.smoothing.specs.Build.{Result, curve_of, slices_of, answer_of, build_of, build_in}
use Rattle.smoothing.proofs.Accepted.{refused_done, not_refused}
use Rattle.smoothing.proofs.Refusals.{build_in_refused}
use Rattle.smoothing.proofs.WellFormed.{accepted_well_formed}
use Rattle.building.specs.Outcome.{reported, Results, results_after, curve_after}
use Rattle.pamitoye.specs.Choices.{chosen_mode}
use Rattle.pamitoye.specs.Builds.{BuildOutputs, build_outputs_after, used_cells, FormedCurve}

-- how many cells the other axes use
others_used : (d k m : ℕ) (breaks coefficients : List Float) → others_formed (d - k) m breaks coefficients ≡ true
    → (length breaks ≡ cond (ltb k d) (m + 1) 0) × (length coefficients ≡ 6 * (m * (d - k)) + m)
unfolding others_formed
others_used d k m breaks coefficients h = go (eqb (d - k) 0) refl h
  where
    Used : Type 0
    Used = (length breaks ≡ cond (ltb k d) (m + 1) 0) × (length coefficients ≡ 6 * (m * (d - k)) + m)

    go : (b : Bool) → eqb (d - k) 0 ≡ b
        → cond b (eqb m 0 && eqb (length breaks) 0 && eqb (length coefficients) 0) (set_formed (d - k) m breaks coefficients) ≡ true → Used
    go true e h =
        let none = eqb-true (d - k) 0 e in
        let p = and_parts (eqb m 0 && eqb (length breaks) 0) (eqb (length coefficients) 0) h in
        let q = and_parts (eqb m 0) (eqb (length breaks) 0) p.0 in
        let c = eqb-true (length coefficients) 0 p.1 in (
          rw (le-ltb k d (omega (arith, none))) (eqb-true (length breaks) 0 q.1),
          rw none (omega (arith, c, eqb-true m 0 q.0)),
        )
    go false e h =
        let some = eqb-false (d - k) 0 e in
        let s = set_parts (d - k) m breaks coefficients h in
        (rw (lt-ltb k d (omega (arith, some))) s.breaks_length, s.coefficients_length)

-- where every slice is long enough
accepted_in : (room : Room) (r : Request) (x : Result) → build_in room r ≡ done x → build_of r ≡ done x
unfolding build_in build_of answer_of
accepted_in room r x h = go (short_room room r.lane r.limits) h
  where
    go : (b : Bool) → answer_of b r ≡ done x → answer_of false r ≡ done x
    go true e =
        let a = (not_refused (wide_lane r.lane || wide_limits r.limits) 18 _ x e).1 in
        absurd (refused_done (not_refused (miscounted_points r.lane) 20 _ x a).1)
    go false e = e

front : (v l : List Float) {n : ℕ} → length v ≡ n → take n (onto v l) ≡ v
front v l {n} e = take_at v (drop (length v) l) n e

-- the first cells of the results are the curve's
used_cells_law : (clamp : Bool) (d : ℕ) (x : Result) (s : Results) → well_formed (curve_of (chosen_mode clamp) d x) (slices_of x) ≡ true
    → used_cells d (length x.axes) x.report.segments x.report.interpolated (results_after (done x) s) ≡ slices_of x
unfolding curve_of results_after
used_cells_law clamp d x s h =
    let f = formed (curve_of (chosen_mode clamp) d x) (slices_of x) h in
    let t = slices_of x in
    let a = set_parts (length x.axes) x.report.segments t.breaks t.coefficients f.set_formed_law in
    let o = others_used d (length x.axes) x.report.interpolated t.other_breaks t.other_coefficients f.others_formed_law in
    λ i. slices (front t.breaks s.breaks a.breaks_length i) (front t.coefficients s.coefficients a.coefficients_length i)
    (front t.other_breaks s.other_breaks o.0 i) (front t.other_coefficients s.other_coefficients o.1 i)

module _ (l : Lane) (m : Limits) (doubles : Doubles l.parameters) (clamp : Bool) (room : Room) (w : BuildOutputs) where
  abbrev answer : Answer Result
  answer = build_in room (record { lane = l; limits = m })

  accepted_formed : (y : Answer Result) → answer ≡ y → number_of (reported y) ≡ 0
      → FormedCurve l.d clamp (build_outputs_after (chosen_mode clamp) l.d y w)
  unfolding reported number_of curve_after curve_of
  accepted_formed (done x) e h =
      let f = accepted_well_formed l m x (chosen_mode clamp) doubles (accepted_in room (record { lane = l; limits = m }) x e) in
      ap (λ (s : Slices). well_formed (curve_of (chosen_mode clamp) l.d x) s) (used_cells_law clamp l.d x w.results f) ∙ f
  accepted_formed (refused n) e h =
      absurd (omega (arith, h, (build_in_refused room (record { lane = l; limits = m }) n e).0))
  accepted_formed (exhausted q) e h = absurd (omega (arith, h))

  -- the number n, and all that was written, v
  pub formed_curve : {n : ℕ} {v : BuildOutputs} → n ≡ number_of (reported answer)
      → v ≡ build_outputs_after (chosen_mode clamp) l.d answer w → n ≡ 0
      → FormedCurve l.d clamp v
  formed_curve {n} {v} number told fine =
      subst (λ (z : BuildOutputs). FormedCurve l.d clamp z) (sym told) (accepted_formed answer refl (sym number ∙ fine))
