-- `window_fit::clear_system` meets its contract: the system is cleared, and the arrays are as before.
use mathlib.Core.Path.{◌≡◌, ap, ◌∙◌}
use Prim.Native.Nat.{◌+◌, ◌-◌, ◌*◌}
use native.Mathlib.Omega.{arith}
use borrow.Author.Rules.{rules}
use lib.ListN.{length}
use Rattle.window.specs.Window.{window}
use Rattle.window.specs.Cells.{zeros}
use Rattle.window.proofs.Windows.{length_window}
use Rattle.normal.specs.System.{size_of, system_of}
use Rattle.normal.proofs.Arrays.{new_system}
use Rattle.fit.proofs.Placing.{front_kept, back_written}
use Rattle.fit.proofs.window_fit.clear_system.Statement.{statement}
use Rattle.fit.proofs.window_fit.clear_system.Tie as tie

returns : tie.Need-returns
returns c =
    let a = c.args in
    let v = c.clear in
    let w = a.work.now in
    let g = a.p.system in
    let n = a.z - a.a in
    let d = a.p.axes in
    let e = g + (6 * n + n * d + n) in
    let lies : e ≡ length w = omega arith in
    let fills : length v.new.s ≡ e - g = omega arith in
    let size : length (window g e w) ≡ size_of n d = length_window g e w (omega arith) (omega arith) ∙ omega arith in (
      front_kept g e v.new.s w (omega arith) lies fills,
      ap (system_of n d) (back_written g e v.new.s w (omega arith) lies fills ∙ v.ensures ∙ ap zeros size) ∙ new_system n d,
    )

pub clear_system_spec : {M : Type 1} → statement M
clear_system_spec =
    tie.close
    (tie.spec
    (λ c. search rules)
    (λ c. search rules)
    (λ c. search rules)
    (λ c. search rules)
    (λ c. search rules)
    (λ c. search rules)
    (λ c. search rules)
    (λ c. search rules)
    (λ c. search rules)
    (λ c. search rules)
    (λ c κs. search rules)
    (λ c. search rules)
    returns)
