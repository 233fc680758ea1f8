-- `physical::errors` meets its contract.
use mathlib.Core.Path.{◌≡◌, refl, sym, ap, ◌∙◌}
use mathlib.Core.List.{List, ◌∷◌, [], ◌++◌}
use Prim.Native.Nat.{◌+◌}
use native.Mathlib.Omega.{arith}
use native.Mathlib.Numerals.{add-one}
use lib.ListN.{take, set, length-set}
use lib.Seq.{take-suc-set}
use lib.Ieee.{Float}
use Rattle.window.specs.Rows.{list_of}
use Rattle.smoothing.specs.Finish.{error_of}
use Rattle.selected_axes.proofs.Tables.{list_none, list_more}
use Rattle.selected_axes.proofs.physical.errors.Goals as goal

pub loop-a-init : goal.loop-a-init
loop-a-init c =
    let a = c.args in (refl, sym (list_none (error_of (a.n + 1) a.d a.bounds.now)))

pub loop-a-preserved : goal.loop-a-preserved
loop-a-preserved c =
    let a = c.args in
    let l = c.loop-a in
    let f = error_of (a.n + 1) a.d a.bounds.now in
    let one : take (l.a + 1) (set l.e l.a c.error.result) ≡ take l.a l.e ++ (c.error.result ∷ []) =
    rw add-one (take-suc-set l.e l.a c.error.result (omega arith)) in (
      simp length-set l.invariant.0,
      one ∙ ap (λ (k : List Float). k ++ (c.error.result ∷ [])) l.invariant.1
          ∙ ap (λ (v : Float). list_of l.a f ++ (v ∷ [])) c.error.ensures ∙ sym (list_more l.a f),
    )
