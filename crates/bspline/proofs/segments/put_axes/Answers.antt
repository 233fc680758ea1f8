use Rattle.std.proofs.Common.{◌≡◌, ℕ, ◌+◌, ◌*◌, ◌≤◌, ◌<◌, List, length, refl, sym, ap, ◌∙◌, arith}
use lib.Ieee.{Float}
use Rattle.arith.specs.Operations.{floats}
use Rattle.window.specs.Window.{window, splice}
use Rattle.window.specs.Rows.{join, written}
use Rattle.window.proofs.Filling.{copied_all}
use Rattle.window.proofs.Windows.{length_window, window_before}
use Rattle.window.proofs.Joined.{join_length}
use Rattle.window.proofs.Written.{written_none, written_length, row_next}
use Rattle.bspline.specs.Segments.{segment_of}
use Rattle.bspline.proofs.Lengths.{segment_length}
use Rattle.bspline.proofs.segments.put_axes.Goals as goal

-- the segments of the axes
abbrev segments : List Float → List Float → Float → ℕ → ℕ → ℕ → List Float
segments rows c h at d i = segment_of floats rows h c (at + i) d

-- where the first i segments stand, the next one is written
put_next : (rows : List Float) (h : Float) (c e at d to : ℕ) (w₀ w : List Float) (i : ℕ) (p : List Float) → e ≤ to → c ≤ e → i < d
    → to + 6 * d ≤ length w₀
    → w ≡ written to (join i (segments rows (window c e w₀) h at d)) w₀ → p ≡ segment_of floats rows h (window c e w) (at + i) d
    → splice (to + 6 * i) (to + 6 * i + 6) p w
    ≡ written to (join (i + 1) (segments rows (window c e w₀) h at d)) w₀
put_next rows h c e at d to w₀ w i p et ce l room inv q =
    let f = segments rows (window c e w₀) h at d in
    let six : (j : ℕ) → j < i + 1 → length (f j) ≡ 6 = λ j g. segment_length floats rows h (window c e w₀) (at + j) d in
    let n = join_length i 6 f (λ j g. six j (omega arith)) in
    let same : window c e w ≡ window c e w₀ = rw inv (window_before to (to + length (join i f)) (join i f) w₀ c e ce et (omega arith)) in
    let v : p ≡ f i = q ∙ rw same in
    rw (v, inv) (row_next to 6 i f w₀ (λ j g. six j (omega arith))
    (omega arith))

-- the slice keeps its length
with_length : (rows : List Float) (h : Float) (c : List Float) (at d to i : ℕ) (w₀ : List Float) {w : List Float} → i ≤ d → to + 6 * d
    ≤ length w₀
    → w ≡ written to (join i (segments rows c h at d)) w₀ → (length w ≡ length w₀) × (w ≡ written to (join i (segments rows c h at d)) w₀)
with_length rows h c at d to i w₀ l room e =
    let n = join_length i 6 (segments rows c h at d) (λ j g. segment_length floats rows h c (at + j) d) in
    (ap length e ∙ written_length to (join i (segments rows c h at d)) w₀ (omega arith), e)

pub loop-i-init : goal.loop-i-init
unfolding join
loop-i-init c = (refl, sym (written_none c.args.to c.args.work.now))

pub loop-i-preserved : goal.loop-i-preserved
loop-i-preserved c =
    let a = c.args in
    let l = c.loop-i in
    let s = c.segment-p in
    let from = a.to + 6 * l.i in
    let six : length s.result ≡ 6 = ap length s.ensures ∙ segment_length floats a.rows.now a.h (window a.c a.e l.work) (a.at + l.i) a.d in
    let part : length (window from (from + 6) l.work) ≡ length s.result = length_window from (from + 6) l.work (omega arith)
    (omega (arith, l.invariant.0)) ∙ omega (arith, six) in
    with_length a.rows.now a.h (window a.c a.e a.work.now) a.at a.d a.to (l.i + 1) a.work.now (omega arith) (omega arith)
    (rw (c.copy.ensures, copied_all s.result (window from (from + 6) l.work) part)
    (put_next a.rows.now a.h a.c a.e a.at a.d a.to a.work.now l.work l.i s.result
    (omega arith) (omega arith) (omega arith) (omega arith) l.invariant.1 s.ensures))

pub returns : goal.returns
returns c =
    let e : c.loop-i.i ≡ c.args.d = omega arith in
    c.loop-i.invariant.1 ∙ rw e
