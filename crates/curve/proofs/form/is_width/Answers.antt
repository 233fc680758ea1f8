-- One test tells both (`width_test`).
use mathlib.Core.Bool.{Bool, true, false, cond}
use Rattle.std.proofs.Common.{◌≡◌, ◌∙◌, ap, subst, sym, ◌&&◌, eqb}
use lib.Dec.{T}
use lib.Ieee.{Float, binary64, eq, fits, lt, sub, to_bits}
use Rattle.window.specs.Cells.{+0}
use Rattle.curve.proofs.SameBits.{width_test}
use Rattle.curve.proofs.form.is_width.Goals as goal

known : (x : Float) → fits binary64 x ≡ true → T (fits binary64 x)
known x e = subst T (sym e) tt

-- what the test tells, for either answer of `==`
told : (w from to : Float) (b : Bool) → fits binary64 w ≡ true → fits binary64 from ≡ true → fits binary64 to ≡ true
    → eq w (sub binary64 to from) ≡ b
    → cond b (lt +0 w) false ≡ (lt from to && eqb (to_bits binary64 w) (to_bits binary64 (sub binary64 to from)))
told w from to b f g k h =
    sym (ap (λ (b : Bool). cond b (lt +0 w) false) h) ∙ width_test w from to (known w f) (known from g) (known to k)

pub returns-then-width-to : goal.returns-then-width-to
returns-then-width-to c =
    let a = c.args in
    let w = c.well_formed in
    told a.width a.from a.to true w.0.1 w.1.0.1 w.1.1.0.1 c.if-width-to.true

pub returns-else-width-to : goal.returns-else-width-to
returns-else-width-to c =
    let a = c.args in
    let w = c.well_formed in
    c.if-width-to.false ∙ told a.width a.from a.to false w.0.1 w.1.0.1 w.1.1.0.1 c.if-width-to.false
