-- What the code's structs stand for.
use Rattle.window.specs.Cells.{at}
use Rattle.figure.specs.Intersection as intersections
use Rattle.estimate.specs.declared.intersection.Intersection.{Intersection}

-- the numbers of an intersection
abbrev pub intersection_of : Intersection → intersections.Intersection
intersection_of x =
    record {
      start = x.start;
      end = x.end;
      coefficient = λ k. at x.coefficients k;
      left = x.left;
      right = x.right;
      from = x.from;
      to = x.to;
      first = x.first;
      second = x.second;
    }
