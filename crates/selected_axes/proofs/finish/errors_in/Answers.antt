-- `finish::errors_in` meets its contract.
use Rattle.selected_axes.proofs.Finishing.{errors_are}
use Rattle.selected_axes.proofs.finish.errors_in.Goals as goal

pub returns : goal.returns
returns c =
    let k = c.block_of-b in
    errors_are c.args.p c.args.work.now c.errors.result k.result c.requires k.ensures.0 c.errors.ensures
