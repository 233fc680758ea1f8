use Rattle.std.proofs.Common.{◌+◌, ◌*◌, ◌≤◌, length, get_or, refl, ap, ◌∙◌, arith}
use Rattle.forms.proofs.Putting.{words_next, word_length}
use Rattle.forms.proofs.put.put_words.Goals as goal

pub loop-i-preserved : goal.loop-i-preserved
loop-i-preserved c =
    let a = c.args in
    let l = c.loop-i in
    let e = c.put_word.ensures in
    let room : a.at + 8 * l.i + 8 ≤ length l.file = omega (arith, l.invariant.0, c.requires) in (
      ap length e ∙ word_length (a.at + 8 * l.i) (get_or a.cells.now l.i 0) l.file room ∙ l.invariant.0,
      rw e (words_next a.file.now a.at a.cells.now l.file l.i _ (omega arith) room refl l.invariant.1),
    )
