-- The spans that the window reaches.
use Rattle.std.proofs.Common.{length}
use Rattle.refinement.proofs.Refreshed.{refresh_asks, refresh_memory, refresh_stored}
use Rattle.refinement.proofs.refit.refresh.Goals as goal

pub put_spans-requires : goal.put_spans-requires
put_spans-requires c =
    let a = c.args in
    let s = c.spline_of-s in
    refresh_asks a.p s.result s.ensures a.a a.z _ _ c.max-from.ensures c.min-to.ensures (length a.work.now) c.requires.0 c.requires.1 c.requires.2

pub returns : goal.returns
returns c =
    let a = c.args in
    let s = c.spline_of-s in
    let v = c.put_spans in
    record {
      work_after = refresh_memory a.p s.result s.ensures a.a a.z _ _ c.max-from.ensures c.min-to.ensures a.work.now v.new.work c.requires.0 c.requires.1
          c.requires.2 c.requires.3 c.requires.4 v.ensures;
      stored = refresh_stored a.p s.result s.ensures a.a a.z _ _ c.max-from.ensures c.min-to.ensures a.work.now v.new.work c.requires.0 c.requires.1
          c.requires.2 c.requires.3 c.requires.4 v.ensures;
    }
