use Rattle.std.proofs.Common.{◌≡◌, sym, refl, ◌∙◌, eqb-true}
use Rattle.encoding.specs.Bytes.{low_first}
use Rattle.listing.specs.Cases.{opening}
use Rattle.listing.proofs.list.opens.Goals as goal

-- the number in the source
opening-is : 0x3130_5941_4c50_4552 ≡ opening
unfolding low_first
opening-is = refl

pub returns : goal.returns
returns c h = sym c.whole.ensures ∙ eqb-true _ _ h ∙ opening-is
