-- The answer to a call, and what the lent slice holds after it: document 02, request 9.
use Rattle.std.specs.Prelude.{◌≡◌, cond, not, List, ℕ, ◌+◌, ◌-◌, ◌*◌, ◌≤◌, ◌<◌, ltb, ℤ, pos, length, get_or, Result, Ok, Err}
use Rattle.window.specs.Rows.{join, list_of, written}
use Rattle.curve.specs.declared.Curve.{Curve}
use Rattle.curve.specs.Form.{Slices, well_formed}
use Rattle.curve.specs.Places.{axis_place}
use Rattle.heights.specs.declared.entry.Refusal.{Refusal}
use Rattle.heights.specs.declared.entry.Refusal.TheVariants.{Malformed, NoSuchAxis, TooShort, HeightTooLarge}
use Rattle.heights.specs.Controls.{AxisSet, controls_on, wholes_of, all_fit}
use Rattle.heights.specs.Height.{height_of}
use Rattle.heights.specs.Exact.{WithinHalf}

-- the answer's number in the papers; 0 says that the heights stand in the slice
abbrev pub number_of : Result (Unit {0}) Refusal → ℕ
number_of (Ok _) = 0
number_of (Err Malformed) = 24
number_of (Err NoSuchAxis) = 3
number_of (Err TooShort) = 19
number_of (Err HeightTooLarge) = 28

-- the answer's number, and the cells of the lent slice after it
pub record Outcome : Type 0 where
  pub number : ℕ
  pub cells : List ℤ

abbrev pub outcome : ℕ → List ℤ → Outcome
outcome n cells = record { number = n; cells = cells }

-- the set that holds the axis, the selected one where its place is below k
unfoldable pub axis_set : Curve → Slices → ℕ → AxisSet
axis_set c s axis =
    let place = axis_place c.axes c.k axis in
    cond (ltb place c.k)
    (record { breaks = s.breaks; coefficients = s.coefficients; segments = c.segments; axes = c.k; place = place })
    (record {
      breaks = s.other_breaks;
      coefficients = s.other_coefficients;
      segments = c.other_segments;
      axes = c.d - c.k;
      place = place - c.k;
    })

-- the 257 heights of segment i
abbrev pub segment_heights : AxisSet → ℕ → List ℤ
segment_heights x i = list_of 257 (height_of (wholes_of (controls_on x i)))

-- "257 whole numbers for each segment, segment after segment"
unfoldable pub all_heights : AxisSet → List ℤ
all_heights x = join x.segments (segment_heights x)

-- "19, then 28"; the slice's "further cells, and all of it on a refusal, are unchanged"
unfoldable pub heights_in : AxisSet → List ℤ → Outcome
heights_in x cells =
    cond (ltb (length cells) (257 * x.segments)) (outcome 19 cells)
    (cond (not (all_fit x)) (outcome 28 cells) (outcome 0 (written 0 (all_heights x) cells)))

-- "Checks: 24, axis not below d 3, 19, then 28"
unfoldable pub heights_of : Curve → Slices → ℕ → List ℤ → Outcome
heights_of c s axis cells =
    cond (not (well_formed c s)) (outcome 24 cells)
    (cond (not (ltb axis c.d)) (outcome 3 cells) (heights_in (axis_set c s axis) cells))

-- "Each height is within half a hundredth of the exact polynomial of the whole controls."
abbrev pub EachWithinHalf : AxisSet → Outcome → Type 0
EachWithinHalf x o = o.number ≡ 0 → (i j : ℕ) → i < x.segments → j ≤ 256 → WithinHalf (wholes_of (controls_on x i)) j
    (get_or o.cells (257 * i + j) (pos 0))
