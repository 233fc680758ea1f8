-- `formed::set_formed` meets its contract: by cases on the tests.
use mathlib.Core.Path.{◌∙◌}
use Prim.Native.Nat.{◌+◌, ◌*◌, ◌≤◌}
use native.Mathlib.Omega.{arith}
use borrow.Author.Rules.{rules}
use lib.ListN.{length}
use Rattle.lane_file.proofs.ByteBreaks.{none, many, not_zero, not_one, rise_left, breaks_room}
use Rattle.lane_file.proofs.formed.set_formed.Statement.{statement}
use Rattle.lane_file.proofs.formed.set_formed.Tie as tie

-- room for the breaks
room : (c : tie.Else-n-lt1) → 8 * (c.args.n + 1) ≤ length c.args.bytes.now
room c = breaks_room c.args.n _ c.if-n-lt1.false c.requires

returns : tie.Need-returns-then-n-lt1
returns c m l e = let a = c.args in none a.bytes.now a.n m l e c.if-n-lt1.true

returns-2 : tie.Need-returns-then-n-gt20000
returns-2 c m l e = let a = c.args in many a.bytes.now a.n m l e c.if-n-gt20000.true

part-float-end : tie.Need-slice_bounds-float-end
part-float-end c = omega (arith, room c.before)

part-float-end-2 : tie.Need-slice_bounds-float-end-then-float
part-float-end-2 c = omega (arith, room c.before.before.before.before)

rise-requires : tie.Need-rise-requires
rise-requires c κs = room c.before.before.before.before.before.before.before

returns-3 : tie.Need-returns-then-float-2
returns-3 c m l e =
    let a = c.args in
    c.rise.ensures
    ∙ rise_left a.bytes.now a.n m l e c.if-n-lt1.false c.if-n-gt20000.false c.float.result c.float.ensures
    c.float-then-float.result c.float-then-float.ensures c.if-float.true c.if-float-2.true

returns-4 : tie.Need-returns-else-float-2
returns-4 c m l e =
    let a = c.args in
    not_one a.bytes.now a.n m l e c.if-n-lt1.false c.if-n-gt20000.false c.float.result c.float.ensures
    c.float-then-float.result c.float-then-float.ensures c.if-float.true c.if-float-2.false

returns-5 : tie.Need-returns-else-float
returns-5 c m l e =
    let a = c.args in
    not_zero a.bytes.now a.n m l e c.if-n-lt1.false c.if-n-gt20000.false c.float.result c.float.ensures
    c.if-float.false

pub set_formed_spec : {M : Type 1} → statement M
set_formed_spec =
    tie.close
    (tie.spec
    returns
    returns-2
    (λ c. search rules)
    (λ c. search rules)
    (λ c. search rules)
    (λ c. search rules)
    part-float-end
    (λ c κs. search rules)
    (λ c. search rules)
    (λ c. search rules)
    part-float-end-2
    (λ c κs. search rules)
    rise-requires
    returns-3
    returns-4
    returns-5)
