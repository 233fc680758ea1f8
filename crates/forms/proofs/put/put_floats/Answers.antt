use Rattle.std.proofs.Common.{◌≡◌, ◌+◌, ◌*◌, ◌≤◌, length, map, get_or, sym, ap, ◌∙◌, arith}
use lib.ListN.{length-map}
use lib.Ieee.{nan, binary64, to_bits}
use Rattle.window.proofs.Joined.{map_at}
use Rattle.forms.proofs.Putting.{words_next, word_length}
use Rattle.forms.proofs.put.put_floats.Goals as goal

pub loop-i-preserved : goal.loop-i-preserved
loop-i-preserved c =
    let a = c.args in
    let l = c.loop-i in
    let patterns = map (λ x. to_bits binary64 x) a.cells.now in
    let x = c.pattern.result in
    let e = c.put_word.ensures in
    let q : x ≡ get_or patterns l.i 0 = c.pattern.ensures
    ∙ sym (map_at (λ x. to_bits binary64 x) a.cells.now l.i nan 0 (omega arith)) in
    let m : length patterns ≡ length a.cells.now = length-map a.cells.now (λ x. to_bits binary64 x) in
    let room : a.at + 8 * l.i + 8 ≤ length l.file = omega (arith, l.invariant.0, c.requires) in (
      ap length e ∙ word_length (a.at + 8 * l.i) x l.file room ∙ l.invariant.0,
      rw e (words_next a.file.now a.at patterns l.file l.i x (omega arith) room q l.invariant.1),
    )
