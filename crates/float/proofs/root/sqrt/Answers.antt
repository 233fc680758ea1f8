use Rattle.std.proofs.Common.{◌≡◌, T, sym, ap, ◌∙◌, subst}
use lib.Ieee.{Float, binary64, fits, to_bits, of_bits}
use Rattle.float.specs.Root.{SquareRoot, sqrt_of}
use Rattle.float.proofs.Tests.{nan_is}
use Rattle.float.proofs.RootCases.{above_zero, asked, root_infinity, root_zero, root_none, bits_back, bits_no_nan}
use Rattle.float.proofs.SquareRoot.{sqrt_is}
use Rattle.float.proofs.root.sqrt.Goals as goal

-- an answer that is the definition's is the square root
square : (x : Float) {r : Float} → T (fits binary64 x) → r ≡ sqrt_of binary64 x → SquareRoot binary64 x r
square x F e = subst (SquareRoot binary64 x) (sym e) (sqrt_is binary64 x F)

pub root_bits-requires : goal.root_bits-requires
root_bits-requires c =
    let q = asked (subst T (sym c.well_formed.0.1) tt) (above_zero c.args.x c.if-x.true) c.if-x-2.true in (q.some, q.small)

pub float_from_bits-result : goal.float_from_bits-result
float_from_bits-result c = rw (c.root_bits.ensures, bits_no_nan binary64 (to_bits binary64 c.args.x)) tt

pub returns-then-x-2-clause-value : goal.returns-then-x-2-clause-value
returns-then-x-2-clause-value c =
    ap (of_bits binary64) c.root_bits.ensures ∙ bits_back binary64 (to_bits binary64 c.args.x)
    ∙ (asked (subst T (sym c.well_formed.0.1) tt) (above_zero c.args.x c.if-x.true) c.if-x-2.true).is

pub returns-then-x-2-clause-square_root : goal.returns-then-x-2-clause-square_root
returns-then-x-2-clause-square_root c =
    square c.args.x (subst T (sym c.well_formed.0.1) tt)
    (ap (of_bits binary64) c.root_bits.ensures ∙ bits_back binary64 (to_bits binary64 c.args.x)
    ∙ (asked (subst T (sym c.well_formed.0.1) tt) (above_zero c.args.x c.if-x.true) c.if-x-2.true).is)

pub returns-then-x-clause-value : goal.returns-then-x-clause-value
returns-then-x-clause-value c = root_infinity (above_zero c.args.x c.if-x.true) c.if-x-2.false

pub returns-then-x-clause-square_root : goal.returns-then-x-clause-square_root
returns-then-x-clause-square_root c =
    square c.args.x (subst T (sym c.well_formed.0.1) tt)
    (root_infinity (above_zero c.args.x c.if-x.true) c.if-x-2.false)

pub returns-then-x-3-clause-value : goal.returns-then-x-3-clause-value
returns-then-x-3-clause-value c = root_zero c.args.x c.if-x-3.true

pub returns-then-x-3-clause-square_root : goal.returns-then-x-3-clause-square_root
returns-then-x-3-clause-square_root c =
    square c.args.x (subst T (sym c.well_formed.0.1) tt)
    (root_zero c.args.x c.if-x-3.true)

pub returns-clause-value : goal.returns-clause-value
returns-clause-value c = nan_is ∙ root_none c.args.x c.if-x.false c.if-x-3.false

pub returns-clause-square_root : goal.returns-clause-square_root
returns-clause-square_root c =
    square c.args.x (subst T (sym c.well_formed.0.1) tt)
    (nan_is ∙ root_none c.args.x c.if-x.false c.if-x-3.false)
