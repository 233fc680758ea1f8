-- The row that the code writes is the column of the definition.
use mathlib.Core.Path.{◌≡◌, ◌∙◌}
use mathlib.Core.List.{List, [], ◌∷◌}
use Prim.Native.Nat.{ℕ, ◌+◌, ◌-◌, ◌≤◌, ◌<◌}
use native.Mathlib.Omega.{arith}
use lib.ListN.{length, get_or}
use lib.Ieee.{Float, binary64, sub, div}
use Rattle.window.proofs.Joined.{join_ap, list_length}
use Rattle.curve.specs.declared.Curve.{Curve}
use Rattle.curve.specs.Form.{Slices}
use Rattle.curve.specs.Places.{axis_place}
use Rattle.query.specs.declared.segment.Derivatives.{Derivatives}
use Rattle.query.specs.declared.segment.Local.{Local}
use Rattle.query.specs.declared.range.Ranged.{Ranged}
use Rattle.query.specs.Segment.{axis_at, located}
use Rattle.query.specs.Row.{Outputs, standing, row_of, filled}
use Rattle.query.specs.Range.{answered_at}
use Rattle.query.specs.Query.{parameter_length, normalised, scale_of, axis_derivatives, column_of, span_at}

-- the axes of a query that is answered so, which stand at these places
module _ (c : Curve) (s : Slices) (r : Ranged) (places : List ℕ) where
  abbrev x : Float
  x = r.at

  abbrev row : (Derivatives → Float) → List Float
  row part =
      row_of part s.coefficients s.other_coefficients c.k (c.d - c.k) places (located s.breaks (normalised c x))
      (located s.other_breaks (normalised c x)) (scale_of c) r.outside

  abbrev axis : ℕ → Derivatives
  axis place =
      axis_at s.coefficients s.other_coefficients c.k (c.d - c.k) place (located s.breaks (normalised c x))
      (located s.other_breaks (normalised c x)) (scale_of c)

  module _ (h : c.k ≤ c.d) (g : (a : ℕ) → a < c.d → get_or places a 0 ≡ axis_place c.axes c.k a) where
    row_column : (part : Derivatives → Float) → row part ≡ column_of part c s r
    unfolding axis_derivatives
    row_column part =
        let e : c.k + (c.d - c.k) ≡ c.d = omega arith in
        rw e (join_ap c.d (λ a. part (standing r.outside (axis (get_or places a 0))) ∷ [])
        (λ a. part (standing r.outside (axis_derivatives c s x a)) ∷ []) (λ a l. rw (g a l)))

    -- the same of what the code has found and computed
    pub rows_columns : (order a : ℕ) (o o' : Outputs) (here there : Local) (answered : Ranged) (whole scale : Float) → answered ≡ r
        → whole ≡ parameter_length c
        → scale ≡ scale_of c → here ≡ located s.breaks (div binary64 (sub binary64 answered.at c.start) whole)
        → there ≡ located s.other_breaks (div binary64 (sub binary64 answered.at c.start) whole)
        → o' ≡ filled order a (λ part. row_of part s.coefficients s.other_coefficients c.k (c.d - c.k) places here there scale
        answered.outside) o
        → o' ≡ filled order a (λ part. column_of part c s r) o
    rows_columns order a o o' here there answered whole scale e w v hr tr p =
        p ∙ rw (hr, tr, e, w, v) (λ i. filled order a (λ part. row_column part i) o)

-- a column has d cells
pub column_length : (part : Derivatives → Float) (c : Curve) (s : Slices) (r : Ranged) → length (column_of part c s r) ≡ c.d
column_length part c s r = list_length c.d (λ a. part (standing r.outside (axis_derivatives c s r.at a)))

-- the segment that the code has found is the one in which the query is answered
pub span_found : (c : Curve) (breaks : List Float) (here : Local) (x : Float) (answered : Ranged) (whole : Float) → answered ≡ answered_at c x
    → whole ≡ parameter_length c → here ≡ located breaks (div binary64 (sub binary64 answered.at c.start) whole)
    → here.span ≡ span_at c breaks x
span_found c breaks here x answered whole a w e = rw (e, a, w)
