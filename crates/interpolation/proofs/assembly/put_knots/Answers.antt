use Rattle.std.proofs.Common.{◌+◌, ◌-◌, refl, ◌∙◌, arith}
use lib.ListN.{length-set}
use Rattle.window.specs.Window.{window}
use Rattle.fitting_rows.specs.Arrays.{arrays_at}
use Rattle.smoothing.specs.Start.{open_knots}
use Rattle.window.proofs.Windows.{length_window}
use Rattle.interpolation.proofs.Knots.{knots_long, none_written, next_written, all_written}
use Rattle.interpolation.proofs.assembly.put_knots.Goals as goal

pub loop-j-init : goal.loop-j-init
loop-j-init c =
    let a = c.args in
    let w = a.work.now in
    record { length_same = refl; knots_put = none_written w (open_knots (window 1 (a.q.samples - 1) (arrays_at a.q w).s)) a.q.knots }

pub knot-v-requires : goal.knot-v-requires
knot-v-requires c =
    let q = c.args.q in
    let k = length_window q.parameters (q.parameters + q.samples) c.loop-j.work (omega arith) (omega arith) in
    (c.requires.two, omega arith, omega arith)

pub loop-j-preserved : goal.loop-j-preserved
loop-j-preserved c =
    let q = c.args.q in
    let l = c.loop-j in
    record {
      length_same = simp length-set l.invariant.length_same;
      knots_put = next_written c.args.work.now l.work q.samples q.parameters q.knots l.j c.knot-v.result c.requires.two
          c.requires.parameters_fit (omega arith) (omega arith) l.invariant.knots_put c.knot-v.ensures;
    }

pub shape_of-work : goal.shape_of-work
shape_of-work c = c.loop-j.invariant.length_same

pub returns : goal.returns
returns c =
    let q = c.args.q in
    let w = c.args.work.now in
    let l = c.loop-j in
    let n = length_window q.parameters (q.parameters + q.samples) w (omega arith) (omega arith) in
    let k = knots_long (arrays_at q w).s q.samples c.requires.two (omega arith) in
    let knots = open_knots (window 1 (q.samples - 1) (arrays_at q w).s) in
    l.invariant.knots_put ∙ all_written w knots q.knots l.j (q.count + 6) (omega arith) (omega arith)
