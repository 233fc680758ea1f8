-- `cells::read_set` meets its contract.
use mathlib.Core.Path.{◌≡◌}
use mathlib.Core.List.{List, ◌++◌}
use Prim.Native.Nat.{ℕ, ◌-◌}
use native.Mathlib.Omega.{arith}
use borrow.Author.Rules.{rules}
use lib.ListN.{take, drop}
use lib.Ieee.{Float}
use Rattle.lane_file.specs.File.{break_count, coefficient_count}
use Rattle.window.specs.Cells.{onto}
use Rattle.lane_file.specs.Reading.{breaks_at, coefficients_at}
use Rattle.lane_file.proofs.Taking.{breaks_put, coefficients_put, widths_put, breaks_again, widths_room}
use Rattle.lane_file.proofs.cells.read_set.Statement.{statement}
use Rattle.lane_file.proofs.cells.read_set.Tie as tie

-- what was put so far
module _ (w : tie.After-wholes) where
  abbrev first : tie.After-floats
  first = w.before.before.before.before.before

  abbrev start : tie.Start
  start = first.before.before.before.before.before.before.before

  abbrev count : ℕ
  count = first.break_count-count.result

  abbrev breaks : List Float
  breaks = first.floats.new.cells ++ drop (count - 0) start.args.breaks.now

  abbrev cells : List ℕ
  cells = w.wholes.new.cells ++ drop (coefficient_count start.args.n start.args.m - 0) start.args.coefficients.now

  break-count : count ≡ break_count start.args.n
  break-count = first.break_count-count.ensures.0

  breaks_are : breaks ≡ onto (breaks_at start.args.file.now start.args.at start.args.n) start.args.breaks.now
  breaks_are = let a = start.args in
      breaks_put a.file.now a.at a.n count a.breaks.now first.floats.new.cells break-count
      (omega (arith, break-count, start.requires.2)) first.floats.ensures

  cells_are : cells
      ≡ onto (coefficients_at start.args.file.now start.args.at start.args.n start.args.m) start.args.coefficients.now
  cells_are = let a = start.args in
      coefficients_put a.file.now a.at a.n a.m count a.coefficients.now w.wholes.new.cells break-count
      (omega (arith, start.requires.3)) w.wholes.ensures

  taken : take (count - 0) breaks ≡ breaks_at start.args.file.now start.args.at start.args.n
  taken = let a = start.args in breaks_again a.file.now a.at a.n count breaks a.breaks.now break-count breaks_are

put-widths-requires : tie.Need-put_widths-requires
put-widths-requires c κs =
    let p = c.before.before.before.before in
    let a = (start p).args in
    widths_room a.file.now a.at a.n a.m a.coefficients.now (cells p) (take (count p - 0) (breaks p)) (taken p)
    (cells_are p) (start p).requires.3

returns : tie.Need-returns
returns c =
    let p = c.before.before.before.before.before.before.before in
    let a = (start p).args in (
      breaks_are p,
      widths_put a.file.now a.at a.n a.m a.coefficients.now (cells p) c.put_widths.new.cells
          (take (count p - 0) (breaks p)) (taken p) (cells_are p) c.put_widths.ensures,
    )

pub read_set_spec : {M : Type 1} → statement M
read_set_spec =
    tie.close
    (tie.spec
    (λ c κs. search rules)
    (λ c. search rules)
    (λ c. search rules)
    (λ c. search rules)
    (λ c. search rules)
    (λ c. search rules)
    (λ c. search rules)
    (λ c. search rules)
    (λ c. search rules)
    (λ c. search rules)
    (λ c. search rules)
    (λ c. search rules)
    (λ c. search rules)
    (λ c κs. search rules)
    (λ c. search rules)
    (λ c. search rules)
    (λ c. search rules)
    (λ c. search rules)
    (λ c. search rules)
    (λ c. search rules)
    (λ c κs. search rules)
    (λ c. search rules)
    (λ c. search rules)
    (λ c. search rules)
    put-widths-requires
    (λ c. search rules)
    (λ c. search rules)
    returns)
