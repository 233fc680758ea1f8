use Rattle.std.proofs.Common.{◌≡◌, ◌-◌, ◌+◌, ◌%◌, ◌/◌, ◌≤◌, ◌<◌, ℕ, suc, List, length, drop, set, length-set, sym, ap, ◌∙◌, arith}
use Rattle.encoding.specs.Text.{digit_of, hex_digits}
use Rattle.encoding.proofs.Laws.{drop_set}
use Rattle.encoding.proofs.digits.Goals as goal

-- one digit more
digit-more : (i rest d : ℕ) (bytes : List ℕ) → 0 < i → i ≤ length bytes → d ≡ digit_of (rest % 16)
    → hex_digits (i - 1) (rest / 16) (drop (i - 1) (set bytes (i - 1) d)) ≡ hex_digits i rest (drop i bytes)
unfolding hex_digits
digit-more i rest d bytes h k e =
    let n : i ≡ suc (i - 1) = omega arith in
    let m : i - 1 + 1 ≡ i = omega arith in
    rw (drop_set bytes (i - 1) d (omega arith), m, e) (sym (ap (λ (j : ℕ). hex_digits j rest (drop i bytes)) n))

pub loop-i-preserved : goal.loop-i-preserved
loop-i-preserved c =
    let l = c.loop-i in (
      simp length-set (omega arith),
      digit-more l.i l.rest c.digit.result l.bytes (omega arith) (omega arith) c.digit.ensures ∙ l.invariant.1,
    )

pub returns : goal.returns
unfolding hex_digits
returns c =
    let l = c.loop-i in
    let e : l.i ≡ 0 = omega arith in
    rw e at l.invariant.1
