-- What was read from standard input so far: no contract can say what a read brings, so the bytes are any.
use Rattle.std.specs.Prelude as std
use Rattle.std.specs.Prelude.{List, ◌++◌, ◌≡◌, ◌≤◌, ◌<◌, ℕ, take}
use Rattle.lane_totals.specs.declared.sums.Sums.{Sums}
use Rattle.season.specs.declared.Turn.{Turn}
use Rattle.season.specs.declared.Turn.TheVariants.{Ended as Done, Goes}
use Rattle.season.specs.Files.{run_of}
use Rattle.season.specs.Run.{files_in, Running, Reached, outcome_of}

-- a turn reads a part more: where the run has ended it is the run over all that was read
abbrev pub Told : List ℕ → List ℕ → Turn → Type 0
Told seen buffer (Done o) = run_of seen ≡ outcome_of o
Told seen buffer (Goes filled sums) = Reached seen (take filled buffer) sums

pub record ReadMore (seen buffer : List ℕ) (r : Turn) : Type 0 where
  pub part : List ℕ
  pub told : Told (seen ++ part) buffer r

-- where it goes on, a file was taken in
abbrev pub Onward : Sums → Turn → Type 0
Onward before (Done o) = std.IfSome o Running
Onward before (Goes filled sums) = Running sums × (filled ≤ 60002) × (files_in before < files_in sums)

-- the turns so far: what they read, and the totals
pub record Course (buffer : List ℕ) (filled : ℕ) (s : Sums) : Type 0 where
  pub seen : List ℕ
  pub reached : Reached seen (take filled buffer) s

-- the run over what was read
pub record Ended (o : std.Option Sums) : Type 0 where
  pub input : List ℕ
  pub run : run_of input ≡ outcome_of o
