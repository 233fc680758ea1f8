-- Document 01's starred lanes ("Lanes to try"), as rows of one table with the float leaves' lines and document 02's refusal 26 and
-- chords. A line's answer is a list of whole numbers: the refusal's number alone, or 0 and the fields that `lane` prints, an error
-- standing by its bits.
use Rattle.std.specs.Prelude.{ℕ, List, [], ◌∷◌, ◌++◌, map, from_bits, to_bits}
use Rattle.std.specs.Float.{binary64}
use Rattle.float.specs.Samples.{Line, float_lines}
use Rattle.request.specs.declared.parameters.Spacing.TheVariants.{Listed, Even, Chord}
use Rattle.smoothing.specs.Request.{Axes, Request}
use Rattle.smoothing.specs.Request.Axes.{all, listed}
use Rattle.smoothing.specs.Request.Tolerance.{uniform}
use Rattle.smoothing.specs.Answer.{Answer}
use Rattle.smoothing.specs.Answer.Answer.{done, refused, exhausted}
use Rattle.smoothing.specs.Build.{Report, Result, build_of}

-- the fields of a report
unfoldable pub fields_of : Report → List ℕ
fields_of r =
    r.segments ∷ r.interpolated ∷ r.work.refinements ∷ r.work.rows ∷ r.work.intervals ∷ map (to_bits binary64) r.errors

-- an answer as whole numbers
unfoldable pub numbers_of : Answer Result → List ℕ
numbers_of (done r) = 0 ∷ fields_of r.report
numbers_of (refused n) = n ∷ []
numbers_of (exhausted x) = 14 ∷ to_bits binary64 x ∷ []

-- d rows, n points and max_segments; 20 refinements
abbrev pub even : ℕ → ℕ → Axes → ℕ → ℕ → List ℕ → Request
even d n axes eps segments points =
    record {
      lane = record {
        d = d;
        n = n;
        axes = axes;
        tolerance = uniform (from_bits binary64 eps);
        spacing = Even;
        parameters = [];
        points = map (from_bits binary64) points;
      };
      limits = record { refinements = 20; segments = segments };
    }

-- d rows, n points by their chords and max_segments; 20 refinements
abbrev pub chord : ℕ → ℕ → Axes → ℕ → ℕ → List ℕ → Request
chord d n axes eps segments points =
    record {
      lane = record {
        d = d;
        n = n;
        axes = axes;
        tolerance = uniform (from_bits binary64 eps);
        spacing = Chord;
        parameters = [];
        points = map (from_bits binary64) points;
      };
      limits = record { refinements = 20; segments = segments };
    }

-- points 0 and `last`, tolerance 1, with two listed parameters
abbrev pub spread : ℕ → ℕ → ℕ → Request
spread last from to =
    record {
      lane = record {
        d = 1;
        n = 2;
        axes = all;
        tolerance = uniform (from_bits binary64 0x3ff0_0000_0000_0000);
        spacing = Listed;
        parameters = from_bits binary64 from ∷ from_bits binary64 to ∷ [];
        points = from_bits binary64 0 ∷ from_bits binary64 last ∷ [];
      };
      limits = record { refinements = 20; segments = 20000 };
    }

abbrev line : Request → List ℕ → Line
line r l = record { given = numbers_of (build_of r); told = l }

unfoldable pub lane_lines : List Line
lane_lines =
    -- d 1, points 0 0, tolerance 1: accepted, 1 segment, 0 rows, 2 intervals, error 0
    line (even 1 2 all 0x3ff0_0000_0000_0000 20000 (0 ∷ 0 ∷ [])) (0 ∷ 1 ∷ 0 ∷ 0 ∷ 0 ∷ 2 ∷ 0 ∷ [])
    -- the same, max_segments 0: 8
    ∷ line (even 1 2 all 0x3ff0_0000_0000_0000 0 (0 ∷ 0 ∷ [])) (8 ∷ [])
    -- one waypoint; and one waypoint with empty axes: 1
    ∷ line (even 1 1 all 0x3ff0_0000_0000_0000 20000 (0 ∷ [])) (1 ∷ [])
    ∷ line (even 1 1 (listed []) 0x3ff0_0000_0000_0000 20000 (0 ∷ [])) (1 ∷ [])
    -- axes empty: 2; axes 0 0: 3
    ∷ line (even 1 2 (listed []) 0x3ff0_0000_0000_0000 20000 (0 ∷ 0 ∷ [])) (2 ∷ [])
    ∷ line (even 1 2 (listed (0 ∷ 0 ∷ [])) 0x3ff0_0000_0000_0000 20000 (0 ∷ 0 ∷ [])) (3 ∷ [])
    -- tolerance 0: 4; parameters 1 1: 5
    ∷ line (even 1 2 all 0 20000 (0 ∷ 0 ∷ [])) (4 ∷ [])
    ∷ line (spread 0 0x3ff0_0000_0000_0000 0x3ff0_0000_0000_0000) (5 ∷ [])
    -- parameters -1.5e308, 1.5e308: 6
    ∷ line (spread 0 0xffea_b36d_48e1_acf0 0x7fea_b36d_48e1_acf0) (6 ∷ [])
    -- points -1.7e308, 1.7e308, tolerance 1e300: 7 (1e300 times 2^48 overflows, and is exceeded by none)
    ∷ line (even 1 2 all 0x7e37_e43c_8800_759c 20000 (0xffee_42d1_3077_3b76 ∷ 0x7fee_42d1_3077_3b76 ∷ [])) (7 ∷ [])
    -- d 17: 18
    ∷ line (even 17 2 all 0x3ff0_0000_0000_0000 20000 []) (18 ∷ [])
    ∷ []

-- document 02, request 4: the largest absolute coordinate against 2^48 times the tolerance
unfoldable pub fine_lines : List Line
fine_lines =
    -- points 0 2^48, tolerance 1: equal is not exceeded; the next number above, and the next one below the opposite: 26
    line (even 1 2 all 0x3ff0_0000_0000_0000 20000 (0 ∷ 0x42f0_0000_0000_0000 ∷ [])) (0 ∷ 1 ∷ 0 ∷ 0 ∷ 0 ∷ 2 ∷ 0 ∷ [])
    ∷ line (even 1 2 all 0x3ff0_0000_0000_0000 20000 (0 ∷ 0x42f0_0000_0000_0001 ∷ [])) (26 ∷ [])
    ∷ line (even 1 2 all 0x3ff0_0000_0000_0000 20000 (0 ∷ 0xc2f0_0000_0000_0001 ∷ [])) (26 ∷ [])
    -- points 2^49 2^49, tolerance 1: flat, yet 26
    ∷ line (even 1 2 all 0x3ff0_0000_0000_0000 20000 (0x4300_0000_0000_0000 ∷ 0x4300_0000_0000_0000 ∷ [])) (26 ∷ [])
    -- tolerance 0: 4 comes before; parameters 1 1, last point 2^49: 5 comes after
    ∷ line (even 1 2 all 0 20000 (0 ∷ 0x4300_0000_0000_0000 ∷ [])) (4 ∷ [])
    ∷ line (spread 0x4300_0000_0000_0000 0x3ff0_0000_0000_0000 0x3ff0_0000_0000_0000) (26 ∷ [])
    -- d 2, axis 0 smoothed and flat, row 1 = 0 2^49: an axis that is not smoothed has no part in it (8: max_segments 0)
    ∷ line (even 2 2 (listed (0 ∷ [])) 0x3ff0_0000_0000_0000 0 (0 ∷ 0 ∷ 0 ∷ 0x4300_0000_0000_0000 ∷ [])) (8 ∷ [])
    ∷ []

-- document 02, request 3: parameters by chords
unfoldable pub chord_lines : List Line
chord_lines =
    -- points 1 1, tolerance 1, equal neighbours: 5; 0 2^-600, whose chord rounds to 0: 5
    line (chord 1 2 all 0x3ff0_0000_0000_0000 20000 (0x3ff0_0000_0000_0000 ∷ 0x3ff0_0000_0000_0000 ∷ [])) (5 ∷ [])
    ∷ line (chord 1 2 all 0x3ff0_0000_0000_0000 20000 (0 ∷ 0x1a70_0000_0000_0000 ∷ [])) (5 ∷ [])
    -- points 0 2^53 0 1, tolerance 1024: the last chord, 1, is lost in the sum 2^54: 5
    ∷ line (chord 1 4 all 0x4090_0000_0000_0000 20000 (0 ∷ 0x4340_0000_0000_0000 ∷ 0 ∷ 0x3ff0_0000_0000_0000 ∷ [])) (5 ∷ [])
    -- points 0 1e200, tolerance 1e200, an infinite chord: 5
    ∷ line (chord 1 2 all 0x6974_e718_d7d7_625a 20000 (0 ∷ 0x6974_e718_d7d7_625a ∷ [])) (5 ∷ [])
    -- points 0 0, tolerance 0: 4 comes before; points 2^49 2^49, tolerance 1: 26 comes before
    ∷ line (chord 1 2 all 0 20000 (0 ∷ 0 ∷ [])) (4 ∷ [])
    ∷ line (chord 1 2 all 0x3ff0_0000_0000_0000 20000 (0x4300_0000_0000_0000 ∷ 0x4300_0000_0000_0000 ∷ [])) (26 ∷ [])
    -- d 2, axis 0 smoothed and flat, row 1 = 0 4: a row that is not smoothed counts (8: max_segments 0)
    ∷ line (chord 2 2 (listed (0 ∷ [])) 0x3ff0_0000_0000_0000 0 (0 ∷ 0 ∷ 0 ∷ 0x4010_0000_0000_0000 ∷ [])) (8 ∷ [])
    ∷ []

-- all of them
abbrev pub lines : List Line
lines = lane_lines ++ fine_lines ++ chord_lines ++ float_lines
