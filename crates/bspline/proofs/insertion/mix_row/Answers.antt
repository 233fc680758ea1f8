use Rattle.std.proofs.Common.{◌≡◌, ◌+◌, ◌-◌, ◌≤◌, ◌<◌, length, ℕ, sym, arith}
use mathlib.Core.List.{List}
use lib.ListN.{get_or, set}
use lib.Ieee.{Float, nan}
use Rattle.arith.specs.Operations.{floats}
use Rattle.window.specs.Rows.{join, list_of, written}
use Rattle.bspline.specs.Insertion.{mixed}
use Rattle.window.proofs.Written.{fill_next, written_none, splice_before, splice_after}
use Rattle.window.proofs.Joined.{list_length}
use Rattle.bspline.proofs.insertion.mix_row.Goals as goal

-- the axes of the control at `at`, mixed with those of the control before it
abbrev axis : List Float → ℕ → ℕ → Float → ℕ → Float
axis c d at a i = mixed floats a (get_or c (at - d + i) nan) (get_or c (at + i) nan)

-- one axis more
mix_next : (c₀ c : List Float) (d at : ℕ) (a : Float) (j : ℕ) → d ≤ at → at + d ≤ length c₀ → j < d → c
    ≡ written at (list_of j (axis c₀ d at a)) c₀
    → set c (at + j) (axis c d at a j) ≡ written at (list_of (j + 1) (axis c₀ d at a)) c₀
mix_next c₀ c d at a j h g l e =
    let v = list_of j (axis c₀ d at a) in
    let k = list_length j (axis c₀ d at a) in
    let y = splice_before at (at + length v) v c₀ nan (omega arith) (at - d + j) (omega arith) in
    let z = splice_after at (at + length v) v c₀ nan (omega arith) (at + j) (omega arith) (omega arith) (omega arith) in
    rw e (fill_next at (axis c₀ d at a) j c₀ _ (omega arith) (rw (y, z)))

pub loop-j-init : goal.loop-j-init
unfolding join
loop-j-init c = sym (written_none c.args.at c.args.c.now)

pub loop-j-preserved : goal.loop-j-preserved
loop-j-preserved c =
    let l = c.loop-j in
    let a = c.args in
    mix_next a.c.now l.c a.d a.at a.a l.j (omega arith) (omega arith) (omega arith) l.invariant

pub returns : goal.returns
returns c =
    let a = c.args in
    let l = c.loop-j in
    let e : l.j ≡ a.d = omega arith in
    let k = list_length a.d (axis a.c.now a.d a.at a.a) in
    rw (l.invariant, e, k)
