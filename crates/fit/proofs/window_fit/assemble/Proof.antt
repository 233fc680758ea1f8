-- `window_fit::assemble` meets its contract: the system is cleared, then the three loops add their rows.
use mathlib.Core.Path.{sym, ap, ◌∙◌}
use mathlib.Core.List.{List}
use Prim.Native.Nat.{ℕ, ◌-◌}
use native.Mathlib.Omega.{arith}
use borrow.Author.Rules.{rules}
use lib.Ieee.{Float}
use Rattle.normal.specs.System.{System, new_of}
use Rattle.fitting_rows.specs.Arrays.{arrays_at}
use Rattle.fit.specs.Region.{before, system_at}
use Rattle.fitting_rows.specs.Samples.{below}
use Rattle.fitting_rows.specs.Pieces.{at_or_below}
use Rattle.fit.specs.Assembly.{assembled, low, high, samples_of, sparse_of, penalties_of}
use Rattle.fit.proofs.Fitting.{assembly_is}
use Rattle.fit.proofs.window_fit.assemble.Statement.{statement}
use Rattle.fit.proofs.window_fit.assemble.Tie as tie

add-sparse-requires : tie.Need-add_sparse-rows-requires
add-sparse-requires c κs =
    let a = c.args in
    let r = c.reach_of-r.ensures in
    let b = sym c.add_samples-dense.ensures.0 in (
      (omega arith, omega (arith, c.add_samples-dense.ensures.1.1)),
      (
        r.0.0 ∙ ap (λ (l : List Float). low (arrays_at a.p l) a.a a.z) b,
        r.0.1
            ∙ ap (λ (l : List Float). high (arrays_at a.p l) a.a a.z) b,
      ),
    )

add-penalties-requires : tie.Need-add_penalties-requires
add-penalties-requires c κs =
    let a = c.args in
    let r = c.reach_of-r.ensures in
    let b = sym c.add_samples-dense.ensures.0
    ∙ sym c.add_sparse-rows.ensures.0 in (
      omega arith,
      (
        r.0.0 ∙ ap (λ (l : List Float). low (arrays_at a.p l) a.a a.z) b,
        r.0.1
            ∙ ap (λ (l : List Float). high (arrays_at a.p l) a.a a.z) b,
      ),
    )

returns : tie.Need-returns
returns c =
    let a = c.args in
    let p = a.p in
    let r = c.reach_of-r in
    let v₁ = c.clear_system.ensures in
    let v₂ = c.add_samples-dense.ensures in
    let v₃ = c.add_sparse-rows.ensures in
    let v₄ = c.add_penalties.ensures in
    let b₁ = v₁.0 in
    let b₂ = v₂.0 ∙ b₁ in
    let b₃ = v₃.0 ∙ b₂ in
    let x = arrays_at p (before p a.work.now) in
    let first = r.ensures.1.0.0 ∙ ap (λ (l : List Float). below (arrays_at p l).s (low (arrays_at p l) a.a a.z)) b₁ in
    let last = r.ensures.1.0.1 ∙ ap (λ (l : List Float). at_or_below (arrays_at p l).s (high (arrays_at p l) a.a a.z)) b₁ in
    let k = a.z - a.a in
    let e =
    v₂.1.0
    ∙ ap (λ (l : List Float). samples_of (arrays_at p l) a.a a.z r.result.first r.result.last
    (assembled 0 (system_at p k c.clear_system.new.work))) b₁
    ∙ ap (λ (s : System). samples_of x a.a a.z r.result.first r.result.last (assembled 0 s)) v₁.1
    ∙ ap (λ (i : ℕ). samples_of x a.a a.z i r.result.last (assembled 0 (new_of k p.axes))) first
    ∙ ap (λ (i : ℕ). samples_of x a.a a.z (below x.s (low x a.a a.z)) i (assembled 0 (new_of k p.axes))) last in
    let f = v₃.1 ∙ ap (λ (l : List Float). sparse_of (arrays_at p l) a.a a.z
    (assembled c.add_samples-dense.result
    (system_at p k c.add_samples-dense.new.work))) b₂ in
    let g = v₄.1 ∙ ap (λ (l : List Float). penalties_of (arrays_at p l) a.a a.z a.strength
    (system_at p k c.add_sparse-rows.new.work)) b₃ in
    (v₄.0 ∙ b₃, (assembly_is x a.a a.z a.strength _ _ _ _ _ _ e f g, (first, last)))

pub assemble_spec : {M : Type 1} → statement M
assemble_spec =
    tie.close
    (tie.spec
    (λ c κs. search rules)
    (λ c. search rules)
    (λ c. search rules)
    (λ c. search rules)
    (λ c κs. search rules)
    (λ c κs. search rules)
    add-sparse-requires
    add-penalties-requires
    (λ c. search rules)
    returns)
