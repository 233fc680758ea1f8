use Rattle.pamitoye.proofs.lane_files.put_numbers.Goals as goal

pub returns : goal.returns
returns c =
    let r = c.args.read in
    λ i. record {
      d = r.d;
      k = r.k;
      axes = r.axes;
      start = r.start;
      end = r.end;
      mode = c.is_clamp.ensures i;
      segments = r.segments;
      other_segments = r.other_segments;
    }
