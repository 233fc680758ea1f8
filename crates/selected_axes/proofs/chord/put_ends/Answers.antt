-- `chord::put_ends` meets its contract.
use lib.Ieee.{of_bits, round}
use Rattle.selected_axes.proofs.Placed.{opened}
use Rattle.selected_axes.proofs.chord.put_ends.Goals as goal

pub returns : goal.returns
unfolding of_bits round
returns c =
    let k = c.block_of-b in
    let u = c.clear in
    let v = c.fill in
    let h = opened c.args.p c.args.work.now c.requires u.new.s v.new.self k.result k.ensures.0 u.ensures (v.ensures.after (λ y e. e)) in
    record { work_after = h.0; work_unchanged = h.1 }
