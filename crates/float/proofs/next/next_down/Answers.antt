use mathlib.Core.Path.{◌≡◌, sym, ap, ◌∙◌, subst}
use Prim.Native.Nat.{ℕ, ◌%◌, ◌≤◌}
use native.Mathlib.Omega.{arith}
use lib.Dec.{T}
use mathlib.Core.Bool.{Bool, false}
use lib.Ieee.{Float, binary64, fits, is_nan, to_bits, of_bits}
use lib.Ieee.Bits.{of_bits-to_bits}
use Rattle.fraction.specs.NextNumber.{down_bits, next_down}
use Rattle.fraction.proofs.NextNumber.{next_down_bits, next_down_nan, down_when_plus_zero, down_when_positive, down_when_negative, down_when_infinity}
use Rattle.float.proofs.Tests.{is_nan_yes, bits_plain, plain_bits}
use Rattle.float.proofs.next.next_down.Goals as goal

-- of an x that the code found to be no NaN
module _ (x : Float) {r : Bool} (is : r ≡ is_nan x) (no : r ≡ false) where
  plain : T (fits binary64 x) → to_bits binary64 x % 0x8000_0000_0000_0000 ≤ 0x7ff0_0000_0000_0000
  plain F = plain_bits x F (sym is ∙ no)

  answer : (n : ℕ) → down_bits binary64 (to_bits binary64 x) ≡ n → of_bits binary64 n ≡ next_down binary64 x
  answer n e = sym (next_down_bits binary64 x (sym is ∙ no) ∙ ap (of_bits binary64) e)

pub returns-then-is_nan : goal.returns-then-is_nan
returns-then-is_nan c = rw (is_nan_yes c.args.x (sym c.is_nan.ensures.value ∙ c.if-is_nan.true)) (sym (next_down_nan binary64))

pub returns-then-b-eq0 : goal.returns-then-b-eq0
returns-then-b-eq0 c =
    answer c.args.x c.is_nan.ensures.value c.if-is_nan.false _
    (down_when_plus_zero binary64 _ c.if-b-eq0.true)

pub float_from_bits-result-then-b-lt9223372036854775808 : goal.float_from_bits-result-then-b-lt9223372036854775808
float_from_bits-result-then-b-lt9223372036854775808 c =
    let p = plain c.args.x c.is_nan.ensures.value c.if-is_nan.false (subst T (sym c.well_formed.0.1) tt) in
    bits_plain _ (omega arith)

pub returns-then-b-lt9223372036854775808 : goal.returns-then-b-lt9223372036854775808
returns-then-b-lt9223372036854775808 c =
    answer c.args.x c.is_nan.ensures.value c.if-is_nan.false _
    (down_when_positive binary64 _ c.if-b-eq0.false c.if-b-lt9223372036854775808.true)

pub float_from_bits-result-then-b-lt18442240474082181120 : goal.float_from_bits-result-then-b-lt18442240474082181120
float_from_bits-result-then-b-lt18442240474082181120 c = bits_plain _ (omega arith)

pub returns-then-b-lt18442240474082181120 : goal.returns-then-b-lt18442240474082181120
returns-then-b-lt18442240474082181120 c =
    answer c.args.x c.is_nan.ensures.value c.if-is_nan.false _
    (down_when_negative binary64 _ c.if-b-lt9223372036854775808.false c.if-b-lt18442240474082181120.true)

pub returns : goal.returns
returns c =
    sym (of_bits-to_bits binary64 _ (subst T (sym c.well_formed.0.1) tt))
    ∙ answer c.args.x c.is_nan.ensures.value c.if-is_nan.false _ (down_when_infinity binary64 _ c.if-b-lt18442240474082181120.false)

pub float_from_bits-result : goal.float_from_bits-result
float_from_bits-result c = bits_plain 0x8000_0000_0000_0001 (omega arith)
