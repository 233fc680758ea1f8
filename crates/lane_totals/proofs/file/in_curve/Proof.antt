-- `file::in_curve` meets its contract.
use native.Mathlib.Omega.{arith}
use Rattle.curve.proofs.Formed.{Formed, formed}
use Rattle.lane_file.specs.Curves.{Cells, cells, slices_of}
use Rattle.lane_file.specs.Outcome.{used_cells}
use Rattle.lane_file.proofs.FormedCurves.{Small, formed_small}
use Rattle.heights.proofs.Answered.{selected_sized, others_sized}
use Rattle.lane_totals.proofs.Answers.{in_selected, in_others, set_lent, set_cut}
use Rattle.lane_totals.proofs.file.in_curve.Statement.{statement}
use Rattle.lane_totals.proofs.file.in_curve.Tie as tie

-- the used cells of the slices
abbrev used : tie.Start → Cells
used s =
    let a = s.args in
    used_cells a.curve (cells a.breaks.now a.coefficients.now a.other_breaks.now a.other_coefficients.now)

form : (s : tie.Start) → Formed s.args.curve (slices_of (used s))
form s = formed s.args.curve (slices_of (used s)) s.requires.0

small : (s : tie.Start) → Small s.args.curve (used s)
small s = formed_small s.args.curve (used s) s.requires.0

abbrev start : tie.After-axis_place-at → tie.Start
start c = c.before.before.before.before.before.before.before.before

axis-place-requires : tie.Need-axis_place-at-requires
axis-place-requires c κs =
    let f = form c.before.before.before.before.before.before.before in (omega (arith, f.k_high, f.d_high), omega arith)

of-set-requires : tie.Need-of_set-requires
of-set-requires c κs =
    let s = start c.before in
    let a = s.args in
    let h = selected_sized a.curve (slices_of (used s)) 0 s.requires.0 (form s).d_low c.axis_place-at.result c.axis_place-at.ensures
    c.if-at-k.true in (
      set_lent a.curve.segments a.curve.k c.axis_place-at.result a.breaks.now a.coefficients.now h (small s).set,
      s.requires.1,
    )

returns : tie.Need-returns-then-at-k
returns c =
    let s = start c.before.before in
    let a = s.args in
    let h = selected_sized a.curve (slices_of (used s)) 0 s.requires.0 (form s).d_low c.axis_place-at.result c.axis_place-at.ensures
    c.if-at-k.true in (
      in_selected a.curve (slices_of (used s)) s.requires.0 (form s).d_low c.axis_place-at.result c.axis_place-at.ensures _
          c.if-at-k.true
          (set_cut a.curve.segments a.curve.k c.axis_place-at.result a.breaks.now a.coefficients.now h (small s).set _
          c.of_set.ensures.0),
      c.of_set.ensures.1,
    )

sub-of-set : tie.Need-overflow_sub-d
sub-of-set c = omega (arith, (form (start c.before)).k_high)

of-set-requires-2 : tie.Need-of_set-requires-2
of-set-requires-2 c κs =
    let s = start c.before in
    let a = s.args in
    let h = others_sized a.curve (slices_of (used s)) 0 s.requires.0 (form s).d_low c.axis_place-at.result c.axis_place-at.ensures
    c.if-at-k.false in
    (set_lent _ _ _ a.other_breaks.now a.other_coefficients.now h (small s).others, s.requires.1)

returns-2 : tie.Need-returns
returns-2 c =
    let s = start c.before.before in
    let a = s.args in
    let h = others_sized a.curve (slices_of (used s)) 0 s.requires.0 (form s).d_low c.axis_place-at.result c.axis_place-at.ensures
    c.if-at-k.false in (
      in_others a.curve (slices_of (used s)) s.requires.0 (form s).d_low c.axis_place-at.result c.axis_place-at.ensures _ c.if-at-k.false
          (set_cut _ _ _ a.other_breaks.now a.other_coefficients.now h (small s).others _ c.of_set-2.ensures.0),
      c.of_set-2.ensures.1,
    )

pub in_curve_spec : {M : Type 1} → statement M
in_curve_spec = tie.close (tie.spec axis-place-requires of-set-requires returns sub-of-set of-set-requires-2 returns-2)
