-- A segment more.
use Rattle.std.proofs.Common.{arith, ◌≡◌, sym, ap, ◌∙◌, List, ℕ, ◌+◌, ◌*◌, ◌≤◌, length}
use borrow.Author.Tests.{not-true}
use lib.IntN.{ℤ}
use Rattle.arith.proofs.Firsts.{every_at}
use Rattle.window.specs.Window.{splice}
use Rattle.window.specs.Rows.{join, list_of, written}
use Rattle.window.proofs.Joined.{list_length}
use Rattle.window.proofs.Windows.{length_window}
use Rattle.window.proofs.Written.{row_next, written_none}
use Rattle.heights.specs.Height.{height_of}
use Rattle.heights.specs.Controls.{AxisSet, controls_on, wholes_of, segment_fits}
use Rattle.heights.specs.Sets.{set_with}
use Rattle.heights.specs.Heights.{segment_heights, all_heights}
use Rattle.heights.proofs.Filled.{all_there}
use Rattle.heights.proofs.entry.put_segments.Goals as goal

-- one segment more
next : (x : AxisSet) (i : ℕ) (out out₀ v : List ℤ) → 257 * i ≤ length out₀ → out ≡ written 0 (join i (segment_heights x)) out₀
    → v ≡ segment_heights x i → splice (257 * i) (257 * i + 257) v out ≡ written 0 (join (i + 1) (segment_heights x)) out₀
next x i out out₀ v h e g =
    let z : 0 + 257 * i ≡ 257 * i = omega arith in
    ap (splice (257 * i) (257 * i + 257) v) e
    ∙ ap (λ (v : List ℤ). splice (257 * i) (257 * i + 257) v (written 0 (join i (segment_heights x)) out₀)) g
    ∙ ap (λ (a : ℕ). splice a (a + 257) (segment_heights x i) (written 0 (join i (segment_heights x)) out₀)) (sym z)
    ∙ row_next 0 257 i (segment_heights x) out₀ (λ j l. list_length 257 (height_of (wholes_of (controls_on x j)))) (omega arith)

pub loop-i-init : goal.loop-i-init
unfolding join
loop-i-init c = sym (written_none 0 _)

pub unwrap-cells-requires : goal.unwrap-cells-requires
unwrap-cells-requires c =
    let a = c.args in
    let x = set_with a.breaks.now a.coefficients.now a.n a.m a.at in
    all_there (controls_on x c.loop-i.i) _ c.on_segment.ensures
    (not-true _ (every_at (segment_fits x) a.n c.requires.3 c.loop-i.i c.loop-i-test.true))

pub put_steps-requires : goal.put_steps-requires
put_steps-requires c =
    let l = c.loop-i in
    let w = rw c.unwrap-cells.ensures at c.on_segment.ensures in
    (length_window (257 * l.i) (257 * l.i + 257) l.out (omega arith) (omega (arith, c.requires.2)) ∙ omega arith, c.requires.1, w.2)

pub loop-i-preserved : goal.loop-i-preserved
loop-i-preserved c =
    let l = c.loop-i in
    let a = c.args in
    let x = set_with a.breaks.now a.coefficients.now a.n a.m a.at in
    let w = rw c.unwrap-cells.ensures at c.on_segment.ensures in
    next x l.i l.out a.out.now _ (omega (arith, c.requires.2)) l.invariant
    (c.put_steps.ensures ∙ ap (λ (w : List ℤ). list_of 257 (height_of w)) w.1)

pub returns : goal.returns
unfolding all_heights
returns c =
    let l = c.loop-i in
    let a = c.args in
    let x = set_with a.breaks.now a.coefficients.now a.n a.m a.at in
    let e : l.i ≡ a.n = omega arith in
    l.invariant ∙ ap (λ (n : ℕ). written 0 (join n (segment_heights x)) a.out.now) e
