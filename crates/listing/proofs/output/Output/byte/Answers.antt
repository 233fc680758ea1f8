use Rattle.std.proofs.Common.{◌≡◌, min, length, set, sym, ap, ◌∙◌, arith}
use Rattle.listing.specs.Output.{put}
use Rattle.listing.proofs.Printing.{put_room, put_full}
use Rattle.listing.proofs.output.Output.byte.Goals as goal

pub returns-then-self-lt4096 : goal.returns-then-self-lt4096
returns-then-self-lt4096 c =
    let s = c.self.inside in
    let b = c.args.b in
    sym (ap (λ g. put g b) (sym c.self.view_is) ∙ put_room s.buffer s.at b (omega arith))

pub returns : goal.returns
returns c =
    let s = c.self.inside in
    let b = c.args.b in
    let e : min 1 (length s.buffer) ≡ 1 = omega arith in
    sym (ap (λ g. put g b) (sym c.self.view_is) ∙ put_full s.buffer s.at b (omega arith) ∙ ap (λ n. (set s.buffer 0 b, n)) e)
