-- The files of a run: document 02, request 13, "lane files one after another .., each led by its byte count in seven-bit groups, at most
-- 60,000 bytes and 65,535 files"; "a bad leading count, a short file or a count beyond either limit stops the run".
use Rattle.std.specs.Prelude.{Bool, cond, ◌||◌, List, [], ◌∷◌, ◌++◌, map, ℕ, zero, suc, ltb, length, take, drop}
use Rattle.std.proofs.Math.Option.{Option, some, none}
use Rattle.forms.specs.Read.{Read, got, bad}
use Rattle.forms.specs.Groups.{groups_of, read_groups}
use Rattle.lane_totals.specs.Totals.{Totals, nothing, merge, season}
use Rattle.lane_totals.specs.Lanes.{lane_totals}

-- a file before the others
abbrev pub before : {A : Type 0} → A → Option (List A) → Option (List A)
before f (some fs) = some (f ∷ fs)
before f none = none

-- the n bytes of a file are too many, or not there
abbrev pub no_file : ℕ → List ℕ → Bool
no_file n rest = ltb 60000 n || ltb (length rest) n

-- the file that the count leads, and what `next` makes of the bytes after it
abbrev pub counted : Read ℕ → (List ℕ → Option (List (List ℕ))) → Option (List (List ℕ))
counted (got n rest) next = cond (no_file n rest) none (before (take n rest) (next (drop n rest)))
counted bad next = none

-- no files where no bytes are left, and otherwise what follows
abbrev pub when_more : List ℕ → Option (List (List ℕ)) → Option (List (List ℕ))
when_more [] next = some []
when_more (b ∷ l) next = next

-- the files that the bytes are, at most `left` of them; none where the run stops. A count has at most three groups and no padding.
unfoldable pub files_of : ℕ → List ℕ → Option (List (List ℕ))
files_of zero l = when_more l none
files_of (suc left) l = when_more l (counted (read_groups 3 l) (files_of left))

-- the totals so far with those of the files; none where the run stopped
abbrev pub totalled : Totals → Option (List (List ℕ)) → Option Totals
totalled so_far (some files) = some (merge so_far (season (map lane_totals files)))
totalled so_far none = none

-- the totals of a run over the bytes, from some on, with at most `left` files; none where it stops
abbrev pub run_from : Totals → ℕ → List ℕ → Option Totals
run_from so_far left l = totalled so_far (files_of left l)

-- the totals of a run
abbrev pub run_of : List ℕ → Option Totals
run_of l = run_from nothing 65535 l

-- the bytes of some files, each led by its count
abbrev pub bytes_of : List (List ℕ) → List ℕ
bytes_of [] = []
bytes_of (f ∷ files) = groups_of 3 (length f) ++ (f ++ bytes_of files)
