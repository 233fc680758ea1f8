use Rattle.std.proofs.Common.{◌+◌, ◌*◌, ◌≤◌, ◌<◌, get_or, length, ◌∙◌, arith, rules}
use Rattle.arith.proofs.Rows.{row_end}
use Rattle.gathering.proofs.Gathered.{centred_rows}
use Rattle.gathering.specs.Rows.{centred_cell}
use Rattle.gathering.proofs.rows.put_centred.Goals as goal

pub put_each-requires : goal.put_each-requires
put_each-requires c =
    let g = c.args in
    let q = c.requires in
    record {
      size = q.3;
      callable = λ i a h m.
          let r = row_end i g.n g.d (length g.points.now) h q.4 in
          let b = q.5 a m in
          let w : i * g.d + get_or g.axes.now a 0 < length g.points.now = omega arith in
          let t : a < 16 = omega arith in
          search rules;
    }

pub returns : goal.returns
returns c =
    let g = c.args in
    let q = c.requires in
    let within : g.k ≤ length g.axes.now = omega arith in
    c.put_each.ensures (λ i a. centred_cell g.points.now g.axes.now g.eps.now (i * g.d) a) (λ i a v h m p. search rules)
    ∙ centred_rows g.points.now g.d g.n g.axes.now g.k within g.eps.now q.6
