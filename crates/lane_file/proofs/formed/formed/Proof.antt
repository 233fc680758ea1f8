-- `formed::formed` meets its contract: by cases on the tests, in their order.
use mathlib.Core.Path.{◌≡◌, sym, ◌∙◌}
use Prim.Native.Nat.{◌+◌}
use borrow.Author.Rules.{rules}
use borrow.Author.Tests.{not-true, not-false}
use Rattle.curve.specs.declared.Curve.{Curve}
use Rattle.curve.specs.Form.{Slices, range_formed}
use Rattle.lane_file.specs.Curves.{slices_of}
use Rattle.lane_file.specs.Reading.{cells_at, curve_at}
use Rattle.lane_file.proofs.Forming.{no_axis, many_axes, none_selected, bad_axes_law, bad_sets, range_left, number_at}
use Rattle.lane_file.proofs.formed.formed.Statement.{statement}
use Rattle.lane_file.proofs.formed.formed.Tie as tie

module _ (s : tie.Start) where
  abbrev curve : Curve
  curve = curve_at s.args.file.now s.args.head

  abbrev slices : Slices
  slices = slices_of (cells_at s.args.file.now s.args.head)

returns : tie.Need-returns-then-d-lt1
returns c = no_axis (curve c.before.before.before) (slices c.before.before.before) c.if-d-lt1.true

returns-2 : tie.Need-returns-then-d-gt16
returns-2 c = many_axes (curve c.before.before.before.before) (slices c.before.before.before.before) c.if-d-gt16.true

returns-3 : tie.Need-returns-then-k-lt1
returns-3 c = none_selected (curve c.before.before.before.before.before) (slices c.before.before.before.before.before) c.if-k-lt1.true

returns-4 : tie.Need-returns-then-not-axes_formed
returns-4 c =
    let p = c.before.before.before.before.before.before.before.before in
    bad_axes_law (curve p) (slices p) (sym c.axes_formed.ensures ∙ not-true _ c.if-not-axes_formed.true-raw)

returns-5 : tie.Need-returns-then-not-sets_formed
returns-5 c =
    let p = c.before.before.before.before.before.before.before.before.before.before in
    bad_sets (curve p) (slices p) (sym c.sets_formed.ensures ∙ not-true _ c.if-not-sets_formed.true-raw)

returns-6 : tie.Need-returns
returns-6 c =
    let p = c.before.before.before.before.before.before.before.before.before.before.before.before.before.before.before in
    let l = c.args.file.now in
    let next = c.args.head.next in
    let x : c.float.result ≡ (curve p).start = c.float.ensures ∙ number_at l next in
    let y : c.float-2.result ≡ (curve p).end = c.float-2.ensures ∙ number_at l (next + 8) in
    c.range_formed.ensures ∙ (λ i. range_formed (x i) (y i))
    ∙ range_left (curve p) (slices p)
    c.if-d-lt1.false
    c.if-d-gt16.false
    c.if-k-lt1.false c.requires.k_high
    (sym c.axes_formed.ensures ∙ not-false _ c.if-not-axes_formed.false-raw)
    (sym c.sets_formed.ensures ∙ not-false _ c.if-not-sets_formed.false-raw)

pub formed_spec : {M : Type 1} → statement M
formed_spec =
    tie.close
    (tie.spec
    returns
    returns-2
    returns-3
    (λ c κs. search rules)
    returns-4
    (λ c κs. search rules)
    returns-5
    (λ c. search rules)
    (λ c. search rules)
    (λ c. search rules)
    (λ c. search rules)
    (λ c. search rules)
    (λ c κs. search rules)
    (λ c. search rules)
    (λ c. search rules)
    (λ c. search rules)
    (λ c κs. search rules)
    (λ c κs. search rules)
    returns-6)
