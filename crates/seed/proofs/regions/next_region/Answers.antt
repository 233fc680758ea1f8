use Rattle.std.proofs.Common.{◌≡◌, ◌+◌, length, sym, ◌∙◌, arith}
use borrow.Author.Tests.{le-leb, lt-leb}
use Rattle.seed.specs.Regions.{range}
use Rattle.seed.proofs.Joining.{region_opens, region_grows, region_parts, region_ends}
use Rattle.seed.proofs.regions.next_region.Goals as goal

pub loop-i-init : goal.loop-i-init
loop-i-init c =
    let a = c.args in
    let r = c.affected-first in
    region_opens a.t.now a.m a.x.now a.from (range r.result.start r.result.end) (omega arith) r.ensures

pub loop-i-preserved : goal.loop-i-preserved
loop-i-preserved c =
    let l = c.loop-i in
    let r = c.affected-r in
    let a = c.args in
    rw c.max-z.ensures
    (sym (region_grows a.t.now a.m a.x.now l.i _ l.z (range r.result.start r.result.end) (omega arith) r.ensures
    (le-leb r.result.start (l.z + 5) (omega arith)))
    ∙ l.invariant)

pub returns-then-z-saturating_sub-clause-x_value : goal.returns-then-z-saturating_sub-clause-x_value
returns-then-z-saturating_sub-clause-x_value c =
    let l = c.loop-i in
    let r = c.affected-r in
    let a = c.args in
    sym l.invariant
    ∙ region_parts a.t.now a.m a.x.now l.i _ l.z (range r.result.start r.result.end) (omega arith) r.ensures
    (lt-leb r.result.start (l.z + 5) (omega arith))

pub returns-clause-x_value : goal.returns-clause-x_value
returns-clause-x_value c =
    let l = c.loop-i in
    let a = c.args in
    let e : l.i ≡ length a.x.now = omega arith in
    sym l.invariant ∙ rw (← e) (region_ends a.t.now a.m a.x.now l.i _ l.z (omega arith))
