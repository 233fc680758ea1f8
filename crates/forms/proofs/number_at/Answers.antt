use Rattle.std.proofs.Common.{◌≡◌, ◌+◌, get_or, arith, rules}
use Rattle.forms.proofs.Places.{answer1, answer2, answer3, answer4, answer5, answer6, answer7, answer8, answer9}
use Rattle.forms.proofs.number_at.Goals as goal
use Rattle.forms.proofs.number_at.Goals.{then-c-eq-PADDING-via-then-c-eq-PADDING, then-c-eq-PADDING-via-else-c-eq-PADDING+then-c-ge-FOURTH_FOLLOWS}

pub returns-in_err-get : goal.returns-in_err-get
returns-in_err-get c = rw c.from_residual.ensures (answer1 c.args.bytes.now c.args.at (search rules))

pub returns-then-a-lt128 : goal.returns-then-a-lt128
returns-then-a-lt128 c =
    let l = c.args.bytes.now in
    let ea : c.from-a.result ≡ get_or l c.args.at 0 = search rules in
    rw ea (answer2 l c.args.at (search rules) (omega arith))

pub returns-in_err-get-2 : goal.returns-in_err-get-2
returns-in_err-get-2 c =
    let l = c.args.bytes.now in
    let ea : c.from-a.result ≡ get_or l c.args.at 0 = search rules in
    rw c.from_residual-in_err-get-2.ensures (answer3 l c.args.at (search rules) (omega arith) (search rules))

pub returns-then-b-eq-PADDING : goal.returns-then-b-eq-PADDING
returns-then-b-eq-PADDING c =
    let l = c.args.bytes.now in
    let ea : c.from-a.result ≡ get_or l c.args.at 0 = search rules in
    let eb : c.from-b.result ≡ get_or l (c.args.at + 1) 0 = search rules in
    answer4 l c.args.at (search rules) (omega arith) (omega arith) (omega arith)

pub returns-then-b-lt128 : goal.returns-then-b-lt128
returns-then-b-lt128 c =
    let l = c.args.bytes.now in
    let ea : c.from-a.result ≡ get_or l c.args.at 0 = search rules in
    let eb : c.from-b.result ≡ get_or l (c.args.at + 1) 0 = search rules in
    rw (ea, eb) (answer5 l c.args.at (search rules) (omega arith) (omega arith) (omega arith))

pub returns-in_err-get-3 : goal.returns-in_err-get-3
returns-in_err-get-3 c =
    let l = c.args.bytes.now in
    let ea : c.from-a.result ≡ get_or l c.args.at 0 = search rules in
    let eb : c.from-b.result ≡ get_or l (c.args.at + 1) 0 = search rules in
    rw c.from_residual-in_err-get-3.ensures (answer6 l c.args.at (search rules) (omega arith) (omega arith) (search rules))

pub returns-then-c-eq-PADDING : goal.returns-then-c-eq-PADDING
returns-then-c-eq-PADDING c =
    let l = c.args.bytes.now in
    let ea : c.from-a.result ≡ get_or l c.args.at 0 = search rules in
    let eb : c.from-b.result ≡ get_or l (c.args.at + 1) 0 = search rules in
    let ec : c.from-c.result ≡ get_or l (c.args.at + 1 + 1) 0 = search rules in
    elim c.then-c-eq-PADDING.branch [
      | then-c-eq-PADDING-via-then-c-eq-PADDING w ↦
          answer7 l c.args.at (search rules) (omega arith) (omega arith) (omega (arith, w.if-c-eq-PADDING.true)) (omega (arith, w.if-c-eq-PADDING.true))
      | then-c-eq-PADDING-via-else-c-eq-PADDING+then-c-ge-FOURTH_FOLLOWS w ↦
          answer9 l c.args.at (search rules) (omega arith) (omega arith) (omega (arith, w.if-c-ge-FOURTH_FOLLOWS.true))
    ]

pub returns : goal.returns
returns c =
    let l = c.args.bytes.now in
    let ea : c.from-a.result ≡ get_or l c.args.at 0 = search rules in
    let eb : c.from-b.result ≡ get_or l (c.args.at + 1) 0 = search rules in
    let ec : c.from-c.result ≡ get_or l (c.args.at + 1 + 1) 0 = search rules in
    rw (ea, eb, ec) (answer8 l c.args.at (search rules) (omega arith) (omega arith) (omega arith) (omega arith))
