use Rattle.std.proofs.Common.{◌≡◌, ℕ, List, Float, ◌*◌, ◌+◌, ◌-◌, ◌<◌, length, arith}
use Rattle.std.specs.Float.{binary64}
use Rattle.std.specs.Float.Ieee.{div, sub}
use Rattle.arith.proofs.Rows.{row_end}
use Rattle.window.specs.Cells.{at}
use Rattle.request.specs.Parameters.{normalised_of, length_of, parameter_list}
use Rattle.certificate.proofs.Standing.{standing_first, standing_interval, standing_last, standing_segment}
use Rattle.certificate.proofs.walk.walk.Goals as goal

-- a parameter, normalised as the code does it
normal : (p : List Float) (n : ℕ) (v start range : Float) (i : ℕ) → start ≡ at p 0 → range ≡ length_of p n → v ≡ at p i
    → div binary64 (sub binary64 v start) range ≡ normalised_of p n i
unfolding normalised_of
normal p n v start range i s r e = λ j. div binary64 (sub binary64 (e j) (s j)) (r j)

pub loop-i-init : goal.loop-i-init
loop-i-init c =
    let a = c.args in
    let p = parameter_list a.spacing a.parameters.now a.points.now a.d a.n in
    let s = c.first-start.ensures a.points.now a.d in
    record {
      standing = standing_first (omega arith) (omega arith) (normal p a.n _ _ _ 0 s c.requires.range_value s)
          (normal p a.n _ _ _ 1 s c.requires.range_value (c.next-current.ensures (omega arith)));
      current = λ l. c.next-current.ensures l;
    }

pub intersect-x-requires : goal.intersect-x-requires
intersect-x-requires c =
    let a = c.args in
    let l = c.loop-i in
    let s = row_end l.m (length a.breaks.now - 1) a.k ((length a.breaks.now - 1) * a.k) (omega arith) (omega arith) in
    let w = row_end (l.i + 1) a.n a.d (a.n * a.d) (omega arith) (omega arith) in
    (omega arith, omega arith, omega arith, omega arith, omega arith, omega arith)

pub loop-i-preserved-then-breaks-m : goal.loop-i-preserved-then-breaks-m
loop-i-preserved-then-breaks-m c = record {
  standing = standing_segment c.loop-i.invariant.standing c.requires.rises (omega arith) c.intersect-x.ensures
      c.with_intersection-so_far.ensures c.if-breaks-m.true;
  current = c.loop-i.invariant.current;
}

pub loop-i-preserved : goal.loop-i-preserved
loop-i-preserved c =
    let a = c.args in
    let p = parameter_list a.spacing a.parameters.now a.points.now a.d a.n in
    record {
      standing = standing_interval c.loop-i.invariant.standing c.requires.rises (omega arith) c.intersect-x.ensures
          c.with_intersection-so_far.ensures c.if-breaks-m.false
          (λ h. normal p a.n _ _ _ (c.loop-i.i + 1 + 1) (c.first-start.ensures a.points.now a.d) c.requires.range_value
          (c.next-current-else-breaks-m.ensures h));
      current = c.next-current-else-breaks-m.ensures;
    }

pub returns : goal.returns
returns c = standing_last c.loop-i.invariant.standing (omega arith)
