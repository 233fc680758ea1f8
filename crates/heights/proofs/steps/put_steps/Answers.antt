-- A step more.
use Rattle.std.proofs.Common.{arith, ◌≡◌, sym, ap, ◌∙◌, List, map, ℕ, ◌+◌, ◌<◌, length, set}
use lib.IntN.{ℤ}
use Rattle.window.specs.Rows.{join, list_of, written}
use Rattle.window.proofs.Joined.{list_length}
use Rattle.window.proofs.Written.{fill_next, written_none, written_all}
use Rattle.heights.specs.Height.{height_of}
use Rattle.heights.specs.Lifted.{lowered}
use Rattle.heights.proofs.Signed.{stored_back}
use Rattle.heights.proofs.steps.put_steps.Goals as goal

-- one step more
next : (f : ℕ → ℤ) (j : ℕ) (out out₀ : List ℤ) (x : ℤ) → j < length out₀ → out ≡ written 0 (list_of j f) out₀ → x ≡ f j
    → set out j x ≡ written 0 (list_of (j + 1) f) out₀
next f j out out₀ x h e g =
    let z : 0 + j ≡ j = omega arith in
    ap (λ (l : List ℤ). set l j x) e ∙ ap (λ (n : ℕ). set (written 0 (list_of j f) out₀) n x) (sym z)
    ∙ fill_next 0 f j out₀ x (omega arith) g

-- all steps
all : (f : ℕ → ℤ) (j : ℕ) (out out₀ : List ℤ) → j ≡ 257 → length out₀ ≡ 257 → out ≡ written 0 (list_of j f) out₀ → out ≡ list_of 257 f
all f j out out₀ e h g =
    g ∙ ap (λ (n : ℕ). written 0 (list_of n f) out₀) e ∙ written_all (list_of 257 f) out₀ (list_length 257 f ∙ sym h)

pub loop-j-init : goal.loop-j-init
unfolding join
loop-j-init c = sym (written_none 0 _)

pub loop-j-preserved : goal.loop-j-preserved
loop-j-preserved c =
    let l = c.loop-j in
    let a = c.args in
    let n = c.height in
    next (height_of (map lowered a.controls.now)) l.j l.out a.out.now _ (omega (arith, c.requires.0)) l.invariant
    (stored_back n.result c.lower.result n.ensures.1 c.lower.ensures ∙ n.ensures.0)

pub returns : goal.returns
returns c =
    let l = c.loop-j in
    all (height_of (map lowered c.args.controls.now)) l.j l.out c.args.out.now (omega arith) c.requires.0 l.invariant
