use Rattle.std.proofs.Common.{◌≡◌, ℕ, ◌+◌, ◌/◌, ◌%◌, ◌<◌, List, [], ◌∷◌, ◌++◌, length, get_or, take, set, sym, refl, ap, ◌∙◌, add-one, arith, length-set, take_all, take-suc-set}
use Rattle.listing.specs.Axes.{byte_of, axes_of}
use Rattle.listing.proofs.axes.axes_of.Goals as goal

-- one axis more
axis-more : (listed wholes : List ℕ) (from i x : ℕ) → i < length listed → x ≡ byte_of (get_or wholes (from + i / 4) 0) (i % 4)
    → take i listed ≡ axes_of i wholes from → take (i + 1) (set listed i x) ≡ axes_of (i + 1) wholes from
unfolding axes_of
axis-more listed wholes from i x h e k =
    rw add-one (take-suc-set listed i x h ∙ ap (λ l. l ++ (x ∷ [])) k ∙ ap (λ x. axes_of i wholes from ++ (x ∷ [])) e)

pub loop-i-init : goal.loop-i-init
unfolding axes_of
loop-i-init c = (refl, refl)

pub loop-i-preserved : goal.loop-i-preserved
loop-i-preserved c =
    let l = c.loop-i in
    let a = c.args in (
      simp length-set (omega arith),
      axis-more l.listed a.wholes.now a.from l.i c.byte_of.result (omega arith) c.byte_of.ensures l.invariant.1,
    )

pub returns : goal.returns
returns c =
    let l = c.loop-i in
    let a = c.args in
    let e : l.i ≡ 16 = omega arith in
    sym (take_all l.i l.listed (omega arith)) ∙ l.invariant.1 ∙ ap (λ i. axes_of i a.wholes.now a.from) e
