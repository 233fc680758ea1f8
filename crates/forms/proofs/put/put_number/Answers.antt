use Rattle.std.proofs.Common.{◌≡◌, ◌+◌, ◌≤◌, ℕ, List, length, sym, ap, ◌∙◌, arith}
use Rattle.window.specs.Rows.{written}
use Rattle.window.proofs.Written.{set_written}
use Rattle.forms.specs.Groups.{groups_of}
use Rattle.forms.proofs.Putting.{one_group, two_groups, three_groups, two_bytes, three_bytes}
use Rattle.forms.proofs.put.put_number.Goals as goal

-- what was put are the groups
put : (l after groups : List ℕ) (at n to : ℕ) → groups_of 3 n ≡ groups → after ≡ written at groups l → to ≡ at + length groups
    → to ≤ at + 3 → (after ≡ written at (groups_of 3 n) l) × (to ≡ at + length (groups_of 3 n)) × (to ≤ at + 3)
put l after groups at n to e h g m =
    (h ∙ ap (λ (v : List ℕ). written at v l) (sym e), g ∙ ap (λ (v : List ℕ). at + length v) (sym e), m)

pub returns-then-n-lt128 : goal.returns-then-n-lt128
returns-then-n-lt128 c =
    let a = c.args in
    put a.file.now _ _ a.at a.n _ (one_group a.n c.if-n-lt128.true) (set_written a.file.now a.at _ (omega arith))
    (omega arith) (omega arith)

pub returns-then-rest-lt128 : goal.returns-then-rest-lt128
returns-then-rest-lt128 c =
    let a = c.args in
    put a.file.now _ _ a.at a.n _ (two_groups a.n c.if-n-lt128.false c.if-rest-lt128.true)
    (two_bytes a.file.now a.at _ _ (omega arith)) (omega arith) (omega arith)

pub returns : goal.returns
returns c =
    let a = c.args in
    put a.file.now _ _ a.at a.n _ (three_groups a.n (omega arith) c.if-rest-lt128.false)
    (three_bytes a.file.now a.at _ _ _ (omega arith)) (omega arith) (omega arith)
