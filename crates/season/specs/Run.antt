-- A run over bytes that come in parts: what has been taken in, and that it does not matter in which parts they come.
use Rattle.std.specs.Prelude as std
use Rattle.std.specs.Prelude.{Bool, true, false, List, ◌++◌, ◌≡◌, ℕ, ◌+◌, ◌-◌, ◌*◌, ◌≤◌, ◌<◌, length, take, drop}
use Rattle.std.proofs.Math.Option.{Option, some, none}
use Rattle.lane_totals.specs.declared.sums.Sums.{Sums}
use Rattle.lane_totals.specs.Totals.{Totals}
use Rattle.lane_totals.specs.Kept.{totals_in, Kept}
use Rattle.season.specs.declared.Turn.{Turn}
use Rattle.season.specs.declared.Turn.TheVariants.{Ended, Goes}
use Rattle.season.specs.declared.run.Taken.{Taken}
use Rattle.season.specs.Files.{run_from, run_of}
use Rattle.season.specs.Next.{Follows}

-- files so far
abbrev pub files_in : Sums → ℕ
files_in s = s.lanes + s.turned_away

-- the run from these totals on, over the bytes left
abbrev pub goes_on : Sums → List ℕ → Option Totals
goes_on s l = run_from (totals_in s) (65535 - files_in s) l

-- "at most .. 65,535 files", of at most 20,000 segments each
abbrev pub Running : Sums → Type 0
Running s = (files_in s ≤ 65535) × Kept (files_in s) (20000 * files_in s) s

-- ---- in the bytes that were read so far
-- the run stops at a place, whatever follows
abbrev pub Stops : List ℕ → ℕ → Bool → Sums → Type 0
Stops l at last s = (rest : List ℕ) → Follows last rest → goes_on s (drop at l ++ rest) ≡ none

-- the bytes from a place on are taken in, up to another
pub record WentOn (l : List ℕ) (at : ℕ) (last : Bool) (s : Sums) (r : Taken) : Type 0 where
  -- the run goes on as from there
  pub goes : (rest : List ℕ) → Follows last rest → goes_on s (drop at l ++ rest) ≡ goes_on r.sums (drop r.at l ++ rest)
  pub inside : r.at ≤ length l
  -- whole files were taken in, if any bytes were
  pub more : (files_in s ≤ files_in r.sums) × (at < r.at → files_in s < files_in r.sums)
  pub kept : Running r.sums

abbrev pub TakenIn : List ℕ → ℕ → Bool → Sums → std.Option Taken → Type 0
TakenIn l at last s r = std.MatchOption r (Stops l at last s) (λ t. WentOn l at last s t)

-- no file is whole there: what is left is less than a count and a file, and the input has not ended
abbrev pub Waits : List ℕ → ℕ → Bool → Type 0
Waits l at last = (last ≡ false) × (length l ≤ at + 60002)

-- all whole files are taken in: what is left is less than a count and a file, and nothing where the input has ended
abbrev pub Rests : List ℕ → ℕ → Bool → Type 0
Rests l at last = (length l ≤ at + 60002) × (last ≡ true → at ≡ length l)

-- ---- in all bytes of a run
-- all bytes seen so far but the last ones, `left`, are taken in: whatever follows, the run over all of them goes on from these totals
abbrev pub Reached : List ℕ → List ℕ → Sums → Type 0
Reached seen left s = (rest : List ℕ) → run_of (seen ++ rest) ≡ goes_on s (left ++ rest)

-- what a run that has ended comes to
abbrev pub outcome_of : std.Option Sums → Option Totals
outcome_of (std.Some s) = some (totals_in s)
outcome_of std.None = none

-- a turn after which the bytes seen so far are taken in, but those that the buffer now begins with
abbrev pub Turned : Bool → List ℕ → List ℕ → Turn → Type 0
-- the run has ended: this is the run over all bytes, with whatever may follow
Turned last seen buffer (Ended o) = (rest : List ℕ) → Follows last rest → run_of (seen ++ rest) ≡ outcome_of o
-- it goes on
Turned last seen buffer (Goes filled sums) = Reached seen (take filled buffer) sums

-- what holds of the totals and the bytes that are left after a turn over bytes up to an end: of more bytes than a count and a file have, a
-- file was taken in
abbrev pub Rested : Bool → ℕ → Sums → Turn → Type 0
Rested last end before (Ended o) = std.IfSome o Running
Rested last end before (Goes filled sums) =
    (last ≡ false) × Running sums × (filled ≤ 60002) × (60002 < end → files_in before < files_in sums)
