-- By the bits.
use Rattle.std.proofs.Common.{arith, ◌≡◌, refl, sym, ap, ◌∙◌, subst, ℕ, ◌+◌, ◌-◌, ◌%◌, ◌≤◌, Some}
use borrow.Author.Tests.{le-leb, lt-leb}
use lib.Dec.{T, leb}
use lib.Ieee.{Float, binary64, fits, to_bits}
use Rattle.arith.proofs.Nan.{is_nan_law, differs_nan, equal_number}
use Rattle.fraction.specs.Integer.{signed}
use Rattle.heights.specs.Controls.{beyond}
use Rattle.heights.specs.Places.{whole_place}
use Rattle.heights.specs.Lifted.{lowered, RoundedFrom}
use Rattle.heights.proofs.Sums.{lowered_above, lowered_below}
use Rattle.heights.proofs.Rounds.{far, near}
use Rattle.heights.proofs.rounding.nearest_whole.Goals as goal

-- a number with its whole number n
kept : (x : Float) (n size : ℕ) → T (fits binary64 x) → to_bits binary64 x % 0x8000_0000_0000_0000 ≤ 0x413E_8480_0000_0000
    → size ≡ whole_place (to_bits binary64 x % 0x8000_0000_0000_0000) → n ≤ 4000000
    → lowered n ≡ signed (leb 0x8000_0000_0000_0000 (to_bits binary64 x)) size
    → RoundedFrom x (Some n)
kept x n size f h e l g =
    ((near x f h).0, g ∙ ap (signed (leb 0x8000_0000_0000_0000 (to_bits binary64 x))) e ∙ sym (near x f h).1, l)

pub returns-then-x : goal.returns-then-x
unfolding beyond
returns-then-x c =
    let x = c.args.x in
    ap beyond (is_nan_law x (differs_nan x c.if-x.true))

pub float_to_bits-bits : goal.float_to_bits-bits
float_to_bits-bits c = rw (equal_number c.args.x c.if-x.false) tt

pub returns-then-place-gt4701340746312056832 : goal.returns-then-place-gt4701340746312056832
returns-then-place-gt4701340746312056832 c =
    far c.args.x (subst T (sym c.well_formed.0.1) tt) c.if-place-gt4701340746312056832.true

pub returns-then-bits-lt9223372036854775808 : goal.returns-then-bits-lt9223372036854775808
returns-then-bits-lt9223372036854775808 c =
    let p = c.nearest_place-size in
    kept c.args.x (2000000 + p.result) p.result (subst T (sym c.well_formed.0.1) tt) c.if-place-gt4701340746312056832.false p.ensures.0
    (omega (arith, p.ensures.1))
    (rw (lt-leb 0x8000_0000_0000_0000 (to_bits binary64 c.args.x) c.if-bits-lt9223372036854775808.true)
    (lowered_above (2000000 + p.result) p.result refl))

pub returns-else-bits-lt9223372036854775808 : goal.returns-else-bits-lt9223372036854775808
returns-else-bits-lt9223372036854775808 c =
    let p = c.nearest_place-size in
    kept c.args.x (2000000 - p.result) p.result (subst T (sym c.well_formed.0.1) tt) c.if-place-gt4701340746312056832.false p.ensures.0
    (omega arith)
    (rw (le-leb 0x8000_0000_0000_0000 (to_bits binary64 c.args.x) c.if-bits-lt9223372036854775808.false)
    (lowered_below (2000000 - p.result) p.result (omega (arith, p.ensures.1))))
