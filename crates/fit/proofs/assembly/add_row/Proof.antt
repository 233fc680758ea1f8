-- `assembly::add_row` meets its contract: the row is added to the system, and the arrays are as before.
use mathlib.Core.Path.{◌≡◌, ap, ◌∙◌}
use Prim.Native.Nat.{◌+◌, ◌-◌, ◌*◌}
use native.Mathlib.Omega.{arith}
use borrow.Author.Rules.{rules}
use lib.ListN.{length}
use Rattle.normal.specs.System.{system_of}
use Rattle.fit.proofs.Placing.{front_kept, back_written}
use Rattle.fit.proofs.assembly.add_row.Statement.{statement}
use Rattle.fit.proofs.assembly.add_row.Tie as tie

returns : tie.Need-returns
returns c =
    let a = c.args in
    let v = c.add in
    let g = a.w.place.system in
    let n = a.w.z - a.w.a in
    let e = g + (6 * n + n * a.w.place.axes + n) in
    let lies : e ≡ length a.work.now = omega arith in
    let fills : length v.new.sys ≡ e - g = omega arith in (
      front_kept g e v.new.sys a.work.now (omega arith) lies fills,
      ap (system_of n a.w.place.axes) (back_written g e v.new.sys a.work.now (omega arith) lies fills) ∙ v.ensures,
    )

pub add_row_spec : {M : Type 1} → statement M
add_row_spec =
    tie.close
    (tie.spec
    (λ c. search rules)
    (λ c. search rules)
    (λ c. search rules)
    (λ c. search rules)
    (λ c. search rules)
    (λ c. search rules)
    (λ c. search rules)
    (λ c. search rules)
    (λ c. search rules)
    (λ c. search rules)
    (λ c κs. search rules)
    (λ c. search rules)
    returns)
