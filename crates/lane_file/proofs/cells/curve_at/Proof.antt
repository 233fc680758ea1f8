-- `cells::curve_at` meets its contract: start and end are read where they stand.
use mathlib.Core.Path.{◌≡◌, ◌∙◌}
use Prim.Native.Nat.{◌+◌}
use borrow.Author.Rules.{rules}
use Rattle.lane_file.specs.Reading.{curve_at}
use Rattle.lane_file.proofs.Forming.{number_at}
use Rattle.lane_file.proofs.cells.curve_at.Statement.{statement}
use Rattle.lane_file.proofs.cells.curve_at.Tie as tie

returns : tie.Need-returns
returns c =
    let a = c.args in
    let l = a.file.now in
    let x : c.float-start.result ≡ (curve_at l a.head).start = c.float-start.ensures
    ∙ number_at l a.head.next in
    let y : c.float-end.result ≡ (curve_at l a.head).end = c.float-end.ensures ∙ number_at l (a.head.next + 8) in
    λ i. record {
      d = a.head.d;
      k = a.head.k;
      axes = a.head.axes;
      start = x i;
      end = y i;
      mode = c.mode_of-mode.ensures i;
      segments = a.head.segments;
      other_segments = a.head.other_segments;
    }

pub curve_at_spec : {M : Type 1} → statement M
curve_at_spec =
    tie.close
    (tie.spec
    (λ c. search rules)
    (λ c. search rules)
    (λ c. search rules)
    (λ c. search rules)
    (λ c. search rules)
    (λ c κs. search rules)
    (λ c. search rules)
    (λ c. search rules)
    (λ c. search rules)
    (λ c κs. search rules)
    (λ c κs. search rules)
    returns)
