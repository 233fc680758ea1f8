use Rattle.std.proofs.Common.{◌≡◌, ℕ, ◌-◌, ◌≤◌, ◌<◌, Bool, true, false, not, take, sym, ◌∙◌, arith}
use borrow.Author.Tests.{lt-ltb, le-ltb}
use lib.Ieee.{inf, of_bits}
use Rattle.seed.specs.Corridor.{corridor}
use Rattle.seed.specs.Anchors.{fits, next_anchor}
use Rattle.seed.proofs.Narrowing.{take_replicate, later}
use Rattle.seed.proofs.Scanning.{next_on, next_here, next_ends}
use Rattle.seed.proofs.corridor.next_anchor.Goals as goal
use Rattle.seed.proofs.corridor.next_anchor.Goals.{else-not-ok-via-then-not-ok+else-i-anchor-gt1, else-not-ok-via-else-not-ok}

module _ (a i : ℕ) (h : a < i) where
  breaks : (ok : Bool) → ok ≡ false → 1 < i - a → not (fits ok a i) ≡ true
  unfolding fits
  breaks ok e g = rw e (sym (later a i h) ∙ lt-ltb 1 (i - a) g)

  follows : (ok : Bool) → ok ≡ false → i - a ≤ 1 → not (fits ok a i) ≡ false
  unfolding fits
  follows ok e g = rw e (sym (later a i h) ∙ le-ltb 1 (i - a) g)

  holds : (ok : Bool) → ok ≡ true → not (fits ok a i) ≡ false
  unfolding fits
  holds ok e = rw e

pub loop-i-init : goal.loop-i-init
unfolding next_anchor of_bits
loop-i-init c = rw (take_replicate c.args.d 16 (inf true) c.requires.0, take_replicate c.args.d 16 (inf false) c.requires.0)

pub returns-then-i-anchor-gt1 : goal.returns-then-i-anchor-gt1
returns-then-i-anchor-gt1 c =
    let l = c.loop-i in
    let a = c.args in
    let n = c.narrow-ok in
    next_here a.s.now a.y.now a.d a.anchor l.i _ _ (corridor (take a.d n.new.c.lo) (take a.d n.new.c.hi) n.result) n.ensures (omega arith)
    (breaks a.anchor l.i (omega arith) n.result c.if-not-ok.true (omega arith))
    ∙ l.invariant

pub loop-i-preserved : goal.loop-i-preserved
loop-i-preserved c =
    let l = c.loop-i in
    let a = c.args in
    let n = c.narrow-ok in
    let f : not (fits n.result a.anchor l.i) ≡ false = elim c.else-not-ok.branch [
      | else-not-ok-via-then-not-ok+else-i-anchor-gt1 w ↦ follows a.anchor l.i (omega arith) n.result w.if-not-ok.true (omega arith)
      | else-not-ok-via-else-not-ok w ↦ holds a.anchor l.i (omega arith) n.result w.if-not-ok.false
    ] in
    next_on a.s.now a.y.now a.d a.anchor l.i _ _ (corridor (take a.d n.new.c.lo) (take a.d n.new.c.hi) n.result) n.ensures (omega arith) f
    ∙ l.invariant

pub returns : goal.returns
returns c =
    let l = c.loop-i in
    sym (next_ends _ _ _ _ l.i _ _ (omega arith)) ∙ l.invariant
