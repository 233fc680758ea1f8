use Rattle.std.proofs.Common.{length, get_or, ap, ◌∙◌, arith}
use lib.Seq.{take-length}
use Rattle.listing.specs.Output.{put, printed}
use Rattle.listing.proofs.Printing.{printed_none, bytes_next, same_take, text_at_once}
use Rattle.listing.proofs.output.Output.text.Goals as goal

pub loop-b-init : goal.loop-b-init
loop-b-init c = printed_none _

pub loop-b-preserved : goal.loop-b-preserved
loop-b-preserved c =
    let l = c.loop-b in
    let a = c.args in
    c.byte.ensures
    ∙ ap (λ g. put g (get_or a.words.now l.b-index 0)) l.invariant
    ∙ bytes_next a.self.now a.words.now l.b-index (omega arith)

pub returns-then-words-self : goal.returns-then-words-self
returns-then-words-self c =
    let s = c.self.inside in
    let words = c.args.words.now in
    text_at_once words s.buffer c.copy_from_slice.new.self s.at _ (omega arith) c.copy_from_slice.ensures.after (omega arith)
    ∙ ap (λ g. printed g words) c.self.view_is

pub returns : goal.returns
returns c =
    let l = c.loop-b in
    let a = c.args in
    l.invariant
    ∙ ap
    (printed a.self.now)
    (same_take (length a.words.now) l.b-index a.words.now (omega arith) (omega arith) ∙ take-length a.words.now)
