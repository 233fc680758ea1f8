-- A lane file as the code reads it: what it begins with by value, the numbers at their places in the bytes.
use Rattle.std.specs.Prelude.{◌≡◌, Option, Some, None, MatchOption, Bool, ◌&&◌, ◌||◌, List, [], ℕ, ◌+◌, ◌-◌, ◌*◌, ◌≤◌, ◌<◌, ltb, length, take, drop, Float}
use Rattle.encoding.specs.Bytes.{low_first, wholes_of, floats_of}
use Rattle.forms.specs.Read.{Read, got, bad}
use Rattle.forms.specs.Form.{groups, read_all, read_whole}
use Rattle.curve.specs.declared.Curve.{Curve}
use Rattle.curve.specs.Form.{set_formed, others_formed}
use Rattle.curve.specs.Places.{padded}
use Rattle.lane_file.specs.declared.head.Axes.{Axes}
use Rattle.lane_file.specs.declared.head.FoundHead.{FoundHead}
use Rattle.lane_file.specs.declared.head.Tail.{Tail}
use Rattle.lane_file.specs.File as file
use Rattle.lane_file.specs.File.{Head, head_form, break_count, coefficient_count, Contents, file_form}
use Rattle.lane_file.specs.Curves.{Cells, cells, widened, number_of, slices_of, mode_of, curve_of, cells_of}

-- ---- the head
-- k axes from a place on: the list that they read as, its first sixteen, and the place after them
pub record AxesIn (l : List ℕ) (at k : ℕ) (r : Axes) : Type 0 where
  pub list : List ℕ
  pub read : read_all groups k (drop at l) ≡ got list (drop r.next l)
  pub held : r.axes ≡ padded list
  pub ended : r.next ≤ length l

abbrev pub AxesAt : List ℕ → ℕ → ℕ → Option Axes → Type 0
AxesAt l at k r = MatchOption r (read_all groups k (drop at l) ≡ bad) (λ found. AxesIn l at k found)

-- the mode and both segment counts, with the bytes after them
abbrev pub tail_in : List ℕ → Option Tail → Read file.Tail
tail_in l (Some t) =
    got (record { first = t.mode; second = record { first = t.segments; second = t.other_segments } }) (drop t.next l)
tail_in l None = bad

abbrev pub tail_end : Option Tail → ℕ
tail_end (Some t) = t.next
tail_end None = 0

-- the head, with its list of axes
abbrev pub head_in : FoundHead → List ℕ → Head
head_in f axes =
    record {
      d = f.d;
      k = f.k;
      axes = axes;
      mode = f.mode;
      segments = f.segments;
      other_segments = f.other_segments;
    }

pub record HeadAt (l : List ℕ) (f : FoundHead) : Type 0 where
  pub axes : List ℕ
  pub read : head_form.read l ≡ got (head_in f axes) (drop f.next l)
  pub held : f.axes ≡ padded axes
  pub ended : f.next ≤ length l

-- ---- the numbers
-- how many follow the head
abbrev pub word_count : ℕ → ℕ → ℕ → ℕ → ℕ
word_count d k segments others =
    2 + break_count segments + coefficient_count segments k + break_count others + coefficient_count others (d - k)

-- where both sets stand
abbrev pub set_place : FoundHead → ℕ
set_place f = f.next + 16

abbrev pub other_place : FoundHead → ℕ
other_place f = set_place f + 8 * (break_count f.segments + coefficient_count f.segments f.k)

-- n segments with m axes, from a place on: breaks, then coefficients
abbrev pub breaks_at : List ℕ → ℕ → ℕ → List Float
breaks_at l at n = floats_of (break_count n) (drop at l)

abbrev pub coefficients_at : List ℕ → ℕ → ℕ → ℕ → List ℕ
coefficients_at l at n m = wholes_of (coefficient_count n m) (drop (at + 8 * break_count n) l)

abbrev pub cells_at : List ℕ → FoundHead → Cells
cells_at l f =
    widened (cells (breaks_at l (set_place f) f.segments) (coefficients_at l (set_place f) f.segments f.k)
    (breaks_at l (other_place f) f.other_segments) (coefficients_at l (other_place f) f.other_segments (f.d - f.k)))

abbrev pub curve_at : List ℕ → FoundHead → Curve
curve_at l f =
    record {
      d = f.d;
      k = f.k;
      axes = f.axes;
      start = number_of (low_first (take 8 (drop f.next l)));
      end = number_of (low_first (take 8 (drop (f.next + 8) l)));
      mode = mode_of f.mode;
      segments = f.segments;
      other_segments = f.other_segments;
    }

-- all of the file reads
pub record FileAt (l : List ℕ) (f : FoundHead) : Type 0 where
  pub contents : Contents
  pub read : read_whole file_form l ≡ got contents []
  pub good : file_form.Good contents
  pub spelled : l ≡ file_form.write contents
  pub curve : curve_of contents ≡ curve_at l f
  pub cells : cells_of contents.patterns ≡ cells_at l f
  pub long : length l ≡ f.next + 8 * word_count f.d f.k f.segments f.other_segments
  pub d_small : f.d < 2097152
  pub k_high : f.k ≤ f.d
  pub segments_small : f.segments < 2097152
  pub others_small : f.other_segments < 2097152

-- both sets are well formed
abbrev pub sets_formed : List ℕ → FoundHead → Bool
sets_formed l f =
    let s = slices_of (cells_at l f) in
    set_formed f.k f.segments s.breaks s.coefficients
    && others_formed (f.d - f.k) f.other_segments s.other_breaks s.other_coefficients

-- slices of these lengths are too short for the numbers and the widths
abbrev pub short_of : FoundHead → ℕ → ℕ → ℕ → ℕ → Bool
short_of f breaks coefficients other_breaks other_coefficients =
    ltb breaks (break_count f.segments) || ltb coefficients (coefficient_count f.segments f.k + f.segments)
    || ltb other_breaks (break_count f.other_segments)
    || ltb other_coefficients (coefficient_count f.other_segments (f.d - f.k) + f.other_segments)
