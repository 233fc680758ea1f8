-- Refinement: one round as a function of the state, in which the limits have no part; and the rounds, with the limits' tests 14 and 15
-- between.
use Rattle.std.specs.Prelude.{ℕ, zero, suc, ◌+◌, ◌-◌, ◌*◌, min, Bool, cond, ◌||◌, List, [], ◌∷◌, length, nat_lt, Float}
use Rattle.std.specs.Float.{binary64}
use Rattle.std.specs.Float.Ieee.{add, mul, div, le, lt}
use Rattle.arith.specs.Operations.{floats}
use Rattle.arith.specs.Loop.{each}
use Rattle.window.specs.Cells.{+0, at}
use Rattle.float.specs.Order.{max_of}
use Rattle.float.specs.Power.{power_of}
use Rattle.bspline.specs.Search.{span_of}
use Rattle.window.specs.Rows.{join}
use Rattle.bspline.specs.Insertion.{knots_with, controls_with}
use Rattle.sorting.specs.Sort.{sort_of}
use Rattle.sorting.specs.Thin.{dedup_of}
use Rattle.seed.specs.Regions.{Range, regions_of}
use Rattle.request.specs.Any.{any}
use Rattle.smoothing.specs.Answer.{Answer, and_then}
use Rattle.smoothing.specs.Answer.Answer.{done, refused, exhausted}
use Rattle.smoothing.specs.Rows.{Task}
use Rattle.smoothing.specs.State.{Spline, spline, State, state, add_refinement, fit_in, fitted, audit_in}

-- `bounds.iter().copied().fold(0., f64::max)`
unfoldable pub worst_of : List Float → Float
worst_of bounds = each (λ i w. max_of w (at bounds i)) 0 (length bounds) +0

-- "Refinement stops at worst ≤ 0.99"
unfoldable pub settled : State → Bool
settled st = le (worst_of st.bounds) (floats.literal 99 100)

-- "yet selects every interval above 0.9": `bounds[i * k..(i + 1) * k].iter().any(|v| *v > 0.9)`
unfoldable pub selected : ℕ → List Float → ℕ → Bool
selected k bounds i = any k (λ a. lt (floats.literal 9 10) (at bounds (i * k + a)))

-- `b.span(x)`
abbrev pub span_in : Spline → Float → ℕ
span_in b x = span_of floats b.t b.m x

-- `(b.t[span] + b.t[span + 1]) / 2.`, the middle of the witness's span
unfoldable pub middle_of : Spline → Float → Float
middle_of b w =
    let span = span_in b w in div binary64 (add binary64 (at b.t span) (at b.t (span + 1))) (floats.literal 2 1)

-- the locations of n - 1 intervals, one for each that is selected
unfoldable pub raw_locations : Task → State → List Float
raw_locations q st = join (q.n - 1) (λ i. cond (selected q.k st.bounds i) (middle_of st.b (at st.witness i) ∷ []) [])

-- `locations.sort_by(f64::total_cmp); locations.dedup()`
unfoldable pub locations_of : Task → State → List Float
locations_of q st = dedup_of (sort_of (raw_locations q st))

-- `b.m() - 5 + locations.len()`: the spans that there will be
unfoldable pub spans_after : Task → State → ℕ
spans_after q st = st.b.m - 5 + length (locations_of q st)

-- `x <= b.t[span] || x >= b.t[span + 1]`
unfoldable pub outside : Spline → Float → Bool
outside b x = le x (at b.t (span_in b x)) || le (at b.t (span_in b x + 1)) x

-- `b.insert(x)`
unfoldable pub insert_of : ℕ → Float → Spline → Spline
insert_of k x b =
    spline (knots_with x (span_in b x) b.t) (controls_with floats b.t x k b.m (span_in b x) b.c) (b.m + 1)

-- `for &x in &locations`; 16, "a midpoint not strictly inside its span"
unfoldable pub insert_all : ℕ → List Float → Spline → Answer Spline
insert_all k [] b = done b
insert_all k (x ∷ rest) b =
    let more = insert_all k rest (insert_of k x b) in cond (outside b x) (refused 16) more

-- `0.001 * 0.25f64.powi(report.refinements as i32)`
unfoldable pub strength_of : ℕ → Float
strength_of r = mul binary64 (floats.literal 1 1000) (power_of floats (floats.literal 1 4) r)

-- a region fitted anew, 9, 10, 11, and its intervals audited, 12, 13: from `first.saturating_sub(1)` to `last.min(n - 1)`
unfoldable pub refit_of : Task → Range → State → Answer State
refit_of q r st =
    let f = fit_in q r.a r.z (strength_of st.report.refinements) st.b in
    and_then (fitted f st) (audit_in q (f.answered.first - 1) (min f.answered.last (q.n - 1)))

-- `for (a, z) in regions(&b, &locations)`
unfoldable pub refit_all : Task → List Range → State → Answer State
refit_all q [] st = done st
refit_all q (r ∷ rest) st = and_then (refit_of q r st) (λ after. refit_all q rest after)

-- once the knots are in: `report.refinements += 1`, and the regions of the new spline
unfoldable pub refitted : Task → List Float → State → Spline → Answer State
refitted q x st b = refit_all q (regions_of b.t b.m x) (state b st.bounds st.witness (add_refinement st.report))

-- one round
unfoldable pub round_of : Task → State → Answer State
round_of q st =
    let x = locations_of q st in and_then (insert_all q.k x st.b) (refitted q x st)

-- The rounds. `left` of them may still be made: `report.refinements >= cfg.max_refinements` is none left, 14. 15 is "spans + new knots
-- above max_segments".
unfoldable pub refine_of : ℕ → ℕ → Task → State → Answer State
refine_of segments zero q st = cond (settled st) (done st) (exhausted (worst_of st.bounds))
refine_of segments (suc left) q st =
    let next = and_then (round_of q st) (λ after. refine_of segments left q after) in
    let tried = cond (nat_lt segments (spans_after q st)) (refused 15) next in
    cond (settled st) (done st) tried
