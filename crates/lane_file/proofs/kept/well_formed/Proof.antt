-- `kept::well_formed` meets its contract: what does not ask for each segment, then the segments of each set.
use mathlib.Core.Path.{◌≡◌, sym, ◌∙◌}
use mathlib.Core.Bool.{true, ◌&&◌}
use native.Mathlib.Omega.{arith}
use borrow.Author.Rules.{rules}
use borrow.Author.Tests.{not-true, not-false}
use lib.ListN.{length, length-map}
use Rattle.curve.specs.declared.Curve.{Curve}
use Rattle.curve.specs.Form.{well_shaped, well_formed}
use Rattle.curve.proofs.Shaped.{shape_and_segments, selected_formed, remaining_formed, Shaped, shaped}
use Rattle.lane_file.specs.Curves.{Cells, cells, number_of, slices_of}
use Rattle.lane_file.proofs.kept.well_formed.Statement.{statement}
use Rattle.lane_file.proofs.kept.well_formed.Tie as tie

-- in the words of the code: cells have as many patterns as numbers
split : (c : Curve) (s : Cells) → well_formed c (slices_of s)
    ≡ (well_shaped c s.breaks (length s.coefficients) s.other_breaks (length s.other_coefficients)
    && (selected_formed c (slices_of s) && remaining_formed c (slices_of s)))
split c s =
    shape_and_segments c (slices_of s)
    ∙ (λ i. well_shaped c s.breaks (length-map s.coefficients number_of i) s.other_breaks
    (length-map s.other_coefficients number_of i)
    && (selected_formed c (slices_of s) && remaining_formed c (slices_of s)))

module _ (s : tie.Start) where
  abbrev lent : Cells
  lent = let a = s.args in cells a.breaks.now a.coefficients.now a.other_breaks.now a.other_coefficients.now

abbrev start : tie.Else-not-well_shaped → tie.Start
start c = c.before.before.before.before.before.before

passed : (c : tie.Else-not-well_shaped) → let a = (start c).args in well_shaped a.curve a.breaks.now (length a.coefficients.now)
    a.other_breaks.now (length a.other_coefficients.now) ≡ true
passed c = sym c.well_shaped.ensures ∙ not-false _ c.if-not-well_shaped.false-raw

sizes : (c : tie.Else-not-well_shaped) → let a = (start c).args in Shaped a.curve a.breaks.now (length a.coefficients.now)
    a.other_breaks.now (length a.other_coefficients.now)
sizes c = let a = (start c).args in shaped a.curve a.breaks.now _ a.other_breaks.now _ (passed c)

returns : tie.Need-returns-then-not-well_shaped
returns c =
    let p = c.before.before.before.before.before.before in
    sym (split c.args.curve (lent p) ∙ rw (sym c.well_shaped.ensures ∙ not-true _ c.if-not-well_shaped.true-raw))

segments-formed-requires : tie.Need-segments_formed-requires
segments-formed-requires c κs = let z = sizes c in (z.set.enough, z.set.room)

returns-2 : tie.Need-returns-then-not-segments_formed
returns-2 c = sym (split (start c.before.before).args.curve (lent (start c.before.before))
    ∙ rw (passed c.before.before, sym c.segments_formed.ensures ∙ not-true _ c.if-not-segments_formed.true-raw))

segments-formed-requires-2 : tie.Need-segments_formed-requires-2
segments-formed-requires-2 c κs = let z = sizes c.before.before in (z.others.enough, z.others.room)

returns-3 : tie.Need-returns
returns-3 c = c.segments_formed-2.ensures
    ∙ sym (split (start c.before.before.before).args.curve (lent (start c.before.before.before))
    ∙ rw (passed c.before.before.before, sym c.segments_formed.ensures ∙ not-false _ c.if-not-segments_formed.false-raw))

pub well_formed_spec : {M : Type 1} → statement M
well_formed_spec =
    tie.close
    (tie.spec
    (λ c κs. search rules)
    returns
    (λ c. omega (arith, (sizes c).set_few))
    (λ c. omega (arith, (sizes c).set_few))
    segments-formed-requires
    returns-2
    (λ c. omega (arith, (sizes c.before.before).k_high))
    (λ c. omega (arith, (sizes c.before.before).others_few))
    (λ c. omega (arith, (sizes c.before.before).others_few))
    segments-formed-requires-2
    returns-3)
