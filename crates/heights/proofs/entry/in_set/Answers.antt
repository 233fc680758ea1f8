use Rattle.std.proofs.Common.{◌≡◌, true, sym, ap, ◌∙◌}
use Rattle.heights.specs.Controls.{all_fit}
use Rattle.heights.specs.Sets.{set_with}
use Rattle.heights.specs.Heights.{outcome}
use Rattle.heights.proofs.Answered.{too_short, turned_away, given}
use Rattle.heights.proofs.entry.in_set.Goals as goal

pub returns-then-out-n : goal.returns-then-out-n
returns-then-out-n c =
    let a = c.args in
    too_short (set_with a.breaks.now a.coefficients.now a.n a.m a.at) a.out.now c.if-out-n.true

pub returns-then-not-all_fit : goal.returns-then-not-all_fit
returns-then-not-all_fit c =
    let a = c.args in
    turned_away (set_with a.breaks.now a.coefficients.now a.n a.m a.at) a.out.now c.if-out-n.false
    (sym c.all_fit.ensures ∙ c.if-not-all_fit.true)

pub returns : goal.returns
returns c =
    let a = c.args in
    let set = set_with a.breaks.now a.coefficients.now a.n a.m a.at in
    let fit : all_fit set ≡ true = sym c.all_fit.ensures ∙ c.if-not-all_fit.false in
    ap (outcome 0) c.put_segments.ensures ∙ given set a.out.now c.if-out-n.false fit
