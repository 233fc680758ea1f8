-- The next file in the bytes that were read so far, of a run whose further bytes are any.
use Rattle.std.specs.Prelude.{Bool, true, false, List, [], ◌++◌, ◌≡◌, ℕ, suc, ◌+◌, ◌≤◌, ◌<◌, length, drop}
use Rattle.std.proofs.Math.Option.{none}
use Rattle.window.specs.Window.{window}
use Rattle.season.specs.declared.files.Next.{Next}
use Rattle.season.specs.declared.files.Next.TheVariants.{File, More, Bad}
use Rattle.season.specs.Files.{before, files_of}

-- what may follow: nothing, where the input has ended
abbrev pub Follows : Bool → List ℕ → Type 0
Follows last rest = last ≡ true → rest ≡ []

-- from a place of the bytes on: a file that stands whole there; or not enough bytes; or none, whatever follows
abbrev pub NextIn : List ℕ → ℕ → Bool → Next → Type 0
NextIn l at last (File from to) =
    (at < to) × (to ≤ length l) × (from ≤ to) × (to ≤ from + 60000) × ((rest : List ℕ) → Follows last rest → (left : ℕ)
    → files_of (suc left) (drop at l ++ rest) ≡ before (window from to l) (files_of left (drop to l ++ rest)))
NextIn l at last More = (last ≡ false) × (length l ≤ at + 60002)
NextIn l at last Bad = (rest : List ℕ) → Follows last rest → (left : ℕ) → files_of left (drop at l ++ rest) ≡ none
