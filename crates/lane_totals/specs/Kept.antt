-- Totals as the code keeps them: each height as the number by which it lies above -2,000,000, so that no number is below 0.
use Rattle.std.specs.Prelude.{cond, ◌≡◌, ℕ, ◌+◌, ◌*◌, ◌≤◌, min, max, eqb, ℤ, pos, ◌-ℤ◌}
use Rattle.std.proofs.Math.Option.{Option, some, none}
use Rattle.heights.specs.Lifted.{lowered}
use Rattle.lane_totals.specs.declared.sums.Sums.{Sums}
use Rattle.lane_totals.specs.Totals.{Totals}

-- a lowest or highest, where there are n heights or segments
abbrev pub kept_as : ℕ → ℕ → Option ℤ
kept_as n kept = cond (eqb n 0) none (some (lowered kept))

-- the totals that are kept so: 256 heights to a segment
abbrev pub totals_in : Sums → Totals
totals_in s =
    record {
      lanes = s.lanes;
      segments = s.segments;
      lowest = kept_as s.segments s.lowest;
      highest = kept_as s.segments s.highest;
      sum = pos s.sum -ℤ pos (512000000 * s.segments);
      turned_away = s.turned_away;
    }

-- what holds of the kept totals of n files with at most m segments: without a segment the lowest is the largest number kept, the highest 0
pub record Kept (n m : ℕ) (s : Sums) : Type 0 where
  pub files : s.lanes + s.turned_away ≡ n
  pub segments : s.segments ≤ m
  pub lowest : s.lowest ≤ 4000000
  pub highest : s.highest ≤ 4000000
  pub sum : s.sum ≤ 1024000000 * s.segments
  pub none_lowest : s.segments ≡ 0 → s.lowest ≡ 4000000
  pub none_highest : s.segments ≡ 0 → s.highest ≡ 0

-- the kept totals of both
abbrev pub merged_of : Sums → Sums → Sums
merged_of a b =
    record {
      lanes = a.lanes + b.lanes;
      segments = a.segments + b.segments;
      lowest = min a.lowest b.lowest;
      highest = max a.highest b.highest;
      sum = a.sum + b.sum;
      turned_away = a.turned_away + b.turned_away;
    }

-- small enough to be added
abbrev pub Small : Sums → Type 0
Small s = (s.lanes ≤ 65535) × (s.segments ≤ 1310700000) × (s.sum ≤ 1342156800000000000) × (s.turned_away ≤ 65535)

-- four lent slices of at least n cells each
abbrev pub Lent : ℕ → ℕ → ℕ → ℕ → ℕ → Type 0
Lent n breaks coefficients other_breaks other_coefficients =
    (n ≤ breaks) × (n ≤ coefficients) × (n ≤ other_breaks) × (n ≤ other_coefficients)
