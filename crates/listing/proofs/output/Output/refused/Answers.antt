use Rattle.std.proofs.Common.{◌∙◌}
use Rattle.listing.specs.Output.{whole_text, end_text, refused_word, refused_text}
use Rattle.listing.proofs.Printing.{three_texts}
use Rattle.listing.proofs.output.Output.refused.Goals as goal

pub returns : goal.returns
unfolding refused_text
returns c =
    let a = c.args in
    c.end.ensures ∙ three_texts a.self.now refused_word (whole_text a.number) end_text c.whole.ensures c.text.ensures
