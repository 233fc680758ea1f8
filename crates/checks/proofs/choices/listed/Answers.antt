-- `choices::listed` meets its contract.
use mathlib.Core.Path.{refl, ap, ◌∙◌}
use mathlib.Core.List.{List, ◌++◌}
use Prim.Native.Nat.{ℕ}
use lib.ListN.{length, drop, replicate}
use Rattle.checks.proofs.Selected.{padded_list}
use Rattle.checks.proofs.choices.listed.Goals as goal

pub returns : goal.returns
returns c =
    let list = c.args.list.now in (
      refl,
      ap (λ (v : List ℕ). v ++ drop (length list) (replicate 16 0)) c.copy_from_slice.ensures.after
          ∙ padded_list list (replicate 16 0) refl c.requires,
    )
