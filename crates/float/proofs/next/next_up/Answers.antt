use mathlib.Core.Path.{◌≡◌, sym, ap, ◌∙◌, subst}
use Prim.Native.Nat.{ℕ, ◌%◌, ◌≤◌}
use native.Mathlib.Omega.{arith}
use lib.Dec.{T}
use mathlib.Core.Bool.{Bool, false}
use lib.Ieee.{Float, binary64, fits, is_nan, to_bits, of_bits}
use lib.Ieee.Bits.{of_bits-to_bits, to_bits-lt}
use Rattle.fraction.specs.NextNumber.{up_bits, next_up}
use Rattle.fraction.proofs.NextNumber.{next_up_bits, next_up_nan, up_when_positive, up_when_infinity, up_when_minus_zero, up_when_negative}
use Rattle.float.proofs.Tests.{is_nan_yes, bits_plain, plain_bits}
use Rattle.float.proofs.next.next_up.Goals as goal

-- of an x that the code found to be no NaN
module _ (x : Float) {r : Bool} (is : r ≡ is_nan x) (no : r ≡ false) where
  plain : T (fits binary64 x) → to_bits binary64 x % 0x8000_0000_0000_0000 ≤ 0x7ff0_0000_0000_0000
  plain F = plain_bits x F (sym is ∙ no)

  answer : (n : ℕ) → up_bits binary64 (to_bits binary64 x) ≡ n → of_bits binary64 n ≡ next_up binary64 x
  answer n e = sym (next_up_bits binary64 x (sym is ∙ no) ∙ ap (of_bits binary64) e)

pub returns-then-is_nan : goal.returns-then-is_nan
returns-then-is_nan c = rw (is_nan_yes c.args.x (sym c.is_nan.ensures.value ∙ c.if-is_nan.true)) (sym (next_up_nan binary64))

pub float_from_bits-result : goal.float_from_bits-result
float_from_bits-result c =
    let p = plain c.args.x c.is_nan.ensures.value c.if-is_nan.false (subst T (sym c.well_formed.0.1) tt) in
    bits_plain _ (omega arith)

pub returns-then-b-lt9218868437227405312 : goal.returns-then-b-lt9218868437227405312
returns-then-b-lt9218868437227405312 c =
    answer c.args.x c.is_nan.ensures.value c.if-is_nan.false _
    (up_when_positive binary64 _ c.if-b-lt9218868437227405312.true)

pub returns-then-b-lt9223372036854775808 : goal.returns-then-b-lt9223372036854775808
returns-then-b-lt9223372036854775808 c =
    sym (of_bits-to_bits binary64 _ (subst T (sym c.well_formed.0.1) tt))
    ∙ answer c.args.x c.is_nan.ensures.value c.if-is_nan.false _
    (up_when_infinity binary64 _ c.if-b-lt9218868437227405312.false c.if-b-lt9223372036854775808.true)

pub returns-then-b : goal.returns-then-b
returns-then-b c =
    answer c.args.x c.is_nan.ensures.value c.if-is_nan.false 1
    (up_when_minus_zero binary64 _ c.if-b.true)

pub float_from_bits-result-2 : goal.float_from_bits-result-2
float_from_bits-result-2 c =
    let p = plain c.args.x c.is_nan.ensures.value c.if-is_nan.false (subst T (sym c.well_formed.0.1) tt) in
    bits_plain _ (omega (arith, to_bits-lt binary64 _ (subst T (sym c.well_formed.0.1) tt)))

pub returns : goal.returns
returns c =
    answer c.args.x c.is_nan.ensures.value c.if-is_nan.false _
    (up_when_negative binary64 _ c.if-b-lt9223372036854775808.false c.if-b.false)

pub float_from_bits-result-then-b : goal.float_from_bits-result-then-b
float_from_bits-result-then-b c = bits_plain 1 (omega arith)
