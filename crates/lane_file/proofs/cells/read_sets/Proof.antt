-- `cells::read_sets` meets its contract: one set, then the other.
use mathlib.Core.Path.{ap, ◌∙◌}
use mathlib.Core.List.{◌++◌}
use Prim.Native.Nat.{ℕ, ◌-◌}
use native.Mathlib.Omega.{arith}
use borrow.Author.Rules.{rules}
use lib.ListN.{length}
use Rattle.lane_file.specs.Curves.{cells, width_patterns}
use Rattle.window.specs.Cells.{onto}
use Rattle.lane_file.specs.Reading.{breaks_at, coefficients_at}
use Rattle.lane_file.proofs.Taking.{Room, room}
use Rattle.lane_file.proofs.cells.read_sets.Statement.{statement}
use Rattle.lane_file.proofs.cells.read_sets.Tie as tie

module _ (s : tie.Start) where
  enough : Room s.args.head (length s.args.breaks.now) (length s.args.coefficients.now) (length s.args.other_breaks.now)
      (length s.args.other_coefficients.now)
  enough = room s.args.head _ _ _ _ s.requires.1

read-set-requires : tie.Need-read_set-requires
read-set-requires c κs =
    let r = enough c.before.before.before.before.before.before.before.before in
    (c.requires.0.segments_small, omega (arith, c.requires.0.long), r.breaks, r.coefficients)

read-set-requires-2 : tie.Need-read_set-requires-2
read-set-requires-2 c κs =
    let p = c.before.before.before.before.before.before.before.before.before.before.before.before.before.before.before.before.before in
    let r = enough p in (
      c.requires.0.others_small,
      omega (arith, c.requires.0.long, c.other_place-other.ensures.0),
      r.other_breaks,
      r.other_coefficients,
    )

returns : tie.Need-returns
returns c =
    let a = c.args in
    let l = a.file.now in
    let f = a.head in
    let e = c.read_set.ensures in
    let o = c.read_set-2.ensures in
    let p = c.other_place-other.ensures.0 in
    let ob = o.0 ∙ ap (λ (at : ℕ). onto (breaks_at l at f.other_segments) a.other_breaks.now) p in
    let ok = o.1 ∙ ap (λ (at : ℕ). onto (coefficients_at l at f.other_segments (f.d - f.k)
    ++ width_patterns (breaks_at l at f.other_segments)) a.other_coefficients.now) p in
    λ i. cells (e.0 i) (e.1 i) (ob i) (ok i)

pub read_sets_spec : {M : Type 1} → statement M
read_sets_spec =
    tie.close
    (tie.spec
    (λ c. search rules)
    read-set-requires
    (λ c κs. search rules)
    (λ c. search rules)
    read-set-requires-2
    (λ c. search rules)
    (λ c. search rules)
    (λ c. search rules)
    (λ c. search rules)
    returns)
