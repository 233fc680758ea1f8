use Rattle.std.proofs.Common.{◌≡◌, ◌++◌, List, Float, ℕ, min, length, length-set, take, drop, arith}
use Rattle.window.specs.Window.{copied}
use Rattle.window.proofs.Filling.{copy_more}
use Rattle.window.proofs.copy.Goals as goal

-- the loop ends where the shorter of the two ends
copied_at : (src dst : List Float) (i : ℕ) {l : List Float} → i ≡ min (length src) (length dst) → l ≡ take i src ++ drop i dst
    → l ≡ copied src dst
copied_at src dst i e h = rw e at h

pub loop-i-preserved : goal.loop-i-preserved
loop-i-preserved c =
    let l = c.loop-i in
    let a = c.args in
    (simp length-set l.invariant.0, rw l.invariant.1 (copy_more a.src.now a.dst.now l.i _ (omega arith) (omega arith)))

pub returns : goal.returns
returns c = copied_at c.args.src.now c.args.dst.now c.loop-i.i (omega arith) c.loop-i.invariant.1
