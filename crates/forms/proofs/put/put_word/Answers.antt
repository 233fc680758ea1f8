use Rattle.std.proofs.Common.{◌∙◌, arith}
use Rattle.forms.proofs.Putting.{put_bytes}
use Rattle.forms.proofs.put.put_word.Goals as goal

pub returns : goal.returns
returns c =
    put_bytes c.args.bits c.args.file.now c.copy_from_slice.new.self c.args.at _ (omega arith)
    (c.copy_from_slice.ensures.after ∙ c.to_le_bytes.ensures)
