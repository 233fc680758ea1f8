use Rattle.std.proofs.Common.{append-nil, sym, ap, ◌∙◌}
use Rattle.listing.specs.Output.{printed, refused_word, whole_text}
use Rattle.replay_requests.proofs.Printing.{then_text}
use Rattle.replay_requests.proofs.lines.refused.Goals as goal

pub returns-in-Some : goal.returns-in-Some
returns-in-Some c = rw c.in-Some.is (then_text _ refused_word _ (then_text _ _ _ c.cell.ensures c.whole.ensures) c.text.ensures)

pub returns-in_default : goal.returns-in_default
returns-in_default c =
    let number = sym (ap (printed c.text.new.self) (append-nil (whole_text c.args.number))) in
    rw c.in_default.is (then_text _ refused_word _ (c.whole.ensures ∙ number) c.text.ensures)
