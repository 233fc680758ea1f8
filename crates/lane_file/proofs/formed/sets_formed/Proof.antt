-- `formed::sets_formed` meets its contract: the selected axes' set, then the other.
use mathlib.Core.Path.{◌≡◌, sym, ap, ◌∙◌}
use mathlib.Core.List.{List, map}
use Prim.Native.Nat.{ℕ, ◌+◌, ◌-◌, ◌*◌}
use native.Mathlib.Omega.{arith}
use borrow.Author.Rules.{rules}
use borrow.Author.Tests.{not-true, not-false}
use lib.Ieee.{Float}
use Rattle.curve.specs.Form.{with_widths, set_formed, others_formed}
use Rattle.lane_file.specs.declared.head.FoundHead.{FoundHead}
use Rattle.lane_file.specs.Curves.{number_of, slices_of}
use Rattle.lane_file.specs.Reading.{set_place, other_place, breaks_at, coefficients_at, cells_at}
use Rattle.lane_file.proofs.Widths.{widened_numbers}
use Rattle.lane_file.proofs.Forming.{coefficients_count, set_in, others_in}
use Rattle.lane_file.proofs.formed.sets_formed.Statement.{statement}
use Rattle.lane_file.proofs.formed.sets_formed.Tie as tie

-- the selected axes
module _ (c : tie.After-set_formed) where
  abbrev start : tie.Start
  start = c.before.before.before.before.before

  abbrev file : List ℕ
  file = start.args.file.now

  abbrev head : FoundHead
  head = start.args.head

  abbrev numbers : List Float
  numbers = map number_of (coefficients_at file (set_place head) head.segments head.k)

  selected : c.set_formed.result ≡ set_formed head.k head.segments (slices_of (cells_at file head)).breaks
      (slices_of (cells_at file head)).coefficients
  selected =
      set_in file (set_place head) head.segments (set_place head + 8 * c.break_count.result - set_place head)
      (omega (arith, c.break_count.ensures.0)) _ head.k numbers
      (c.set_formed.ensures head.k numbers (coefficients_count file (set_place head) head.segments head.k))
      ∙ ap (set_formed head.k head.segments (breaks_at file (set_place head) head.segments))
      (sym (widened_numbers (breaks_at file (set_place head) head.segments)
      (coefficients_at file (set_place head) head.segments head.k)))

returns : tie.Need-returns-then-not-set_formed
returns c = rw (sym (selected c.before) ∙ not-true _ c.if-not-set_formed.true-raw)

returns-2 : tie.Need-returns
returns-2 c =
    let q = c.before.before.before.before.before.before in
    let p = c.other_place-other.ensures.0 in
    let at = c.other_place-other.result in
    let n = (head q).other_segments in
    let m = (head q).d - (head q).k in
    let t = map number_of (coefficients_at (file q) (other_place (head q)) n m) in
    let r = c.break_count-2 in
    rw (sym (selected q) ∙ not-false _ c.if-not-set_formed.false-raw)
    (others_in (file q) at n (at + 8 * r.result - at) (omega (arith, r.ensures.0)) _ m t
    (c.others_formed.ensures t (coefficients_count (file q) (other_place (head q)) n m))
    ∙ ap (λ (at : ℕ). others_formed m n (breaks_at (file q) at n) (with_widths (breaks_at (file q) at n) t)) p
    ∙ ap (others_formed m n (breaks_at (file q) (other_place (head q)) n))
    (sym (widened_numbers (breaks_at (file q) (other_place (head q)) n) (coefficients_at (file q) (other_place (head q)) n m))))

pub sets_formed_spec : {M : Type 1} → statement M
sets_formed_spec =
    tie.close
    (tie.spec
    (λ c. search rules)
    (λ c κs. search rules)
    (λ c. search rules)
    (λ c. search rules)
    (λ c. search rules)
    (λ c. search rules)
    (λ c. search rules)
    (λ c κs. search rules)
    returns
    (λ c κs. search rules)
    (λ c κs. search rules)
    (λ c. search rules)
    (λ c. search rules)
    (λ c. search rules)
    (λ c. search rules)
    (λ c. search rules)
    (λ c. search rules)
    (λ c κs. search rules)
    returns-2)
