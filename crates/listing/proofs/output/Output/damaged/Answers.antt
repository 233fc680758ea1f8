use Rattle.std.proofs.Common.{◌∙◌}
use Rattle.listing.specs.Output.{whole_text, end_text, damaged_words, damaged_text}
use Rattle.listing.proofs.Printing.{three_texts}
use Rattle.listing.proofs.output.Output.damaged.Goals as goal

pub returns : goal.returns
unfolding damaged_text
returns c =
    let a = c.args in
    c.end.ensures ∙ three_texts a.self.now damaged_words (whole_text a.place) end_text c.whole.ensures c.text.ensures
