-- Slices as long as `pamitoye_room` tells are never too short.
use mathlib.Core.Path.{◌≡◌, refl, sym, ap, ◌∙◌}
use mathlib.Core.Bool.{Bool, false, ◌||◌}
use Prim.Native.Nat.{ℕ}
use native.Mathlib.Omega.{arith}
use borrow.Author.Tests.{le-ltb}
use lib.Dec.{eqb}
use Rattle.smoothing.specs.Answer.{Answer}
use Rattle.smoothing.specs.Answer.Answer.{done, refused, exhausted}
use Rattle.smoothing.specs.Request.{Lane, Limits}
use Rattle.smoothing.specs.Checks.{Room, wide_lane, wide_limits, miscounted_points, refusal_of, short_room}
use Rattle.smoothing.specs.Rows.{lane_task, lane_units}
use Rattle.smoothing.specs.Build.{selected_of, other_of, smoothed_of, checked_of, answer_of, build_in}
use Rattle.smoothing.proofs.Gives.{Gives, gives_then, gives_cond, gives_refused}
use Rattle.smoothing.proofs.Gives.Gives.{gives, refuses, exhausts}
use Rattle.smoothing.proofs.Refusals.{selected_refused, other_refused, refusal_most}
use Rattle.pamitoye.specs.Rooms.{room_cells, AtLeast, Enough}

long : (s : Room) (l : Lane) (m : Limits) → AtLeast (room_cells l.d l.n m.segments) s → short_room s l m ≡ false
unfolding short_room
long s l m h =
    rw (le-ltb _ _ h.0, le-ltb _ _ h.1, le-ltb _ _ h.2, le-ltb _ _ h.3, le-ltb _ _ h.4, le-ltb _ _ h.5) refl

-- what is known of each number that an answer refuses with
by_number : {A : Type 0} {P : ℕ → Type 0} (x : Answer A) → ((n : ℕ) → x ≡ refused n → P n) → Gives (λ a. Unit {0}) P Unit x
by_number (done a) k = gives tt
by_number (refused n) k = refuses (k n refl)
by_number (exhausted w) k = exhausts tt

not_19 : (l : Lane) (m : Limits)
    → Gives (λ x. Unit {0}) (λ n. n ≡ 19 → ⊥) Unit (answer_of false (record { lane = l; limits = m }))
unfolding answer_of checked_of smoothed_of
not_19 l m =
    gives_cond (wide_lane l || wide_limits m) (refused 18) _ (λ e. refuses (λ z. omega arith))
    (λ e. gives_cond (miscounted_points l) (refused 20) _ (λ e. refuses (λ z. omega arith))
    (λ e. gives_cond (eqb (refusal_of l) 0) _ (refused (refusal_of l))
    (λ e. gives_then (selected_of m (lane_task l) (lane_units l)) _
    (by_number (selected_of m (lane_task l) (lane_units l)) (λ n e z. omega (arith, selected_refused m (lane_task l) (lane_units l) n e)))
    (λ x i. gives_then (other_of l) _ (by_number (other_of l) (λ n e z. omega (arith, other_refused l n e))) (λ p i. gives tt)))
    (λ e. refuses (λ z. omega (arith, refusal_most l (omega arith))))))

pub enough : (d n segments : ℕ) → Enough d n segments (room_cells d n segments)
unfolding build_in
enough d n segments s r rows waypoints most h e =
    let long_enough : AtLeast (room_cells r.lane.d r.lane.n r.limits.segments) s = rw (rows, waypoints, most) h in
    gives_refused (not_19 r.lane r.limits)
    (sym (ap (λ (b : Bool). answer_of b r) (long s r.lane r.limits long_enough)) ∙ e) refl
