-- What a case's line, and a turn of the programs' loop, leave.
use Rattle.std.specs.Prelude.{◌≡◌, ℕ, List, Option, None, Some, IsNone}
use Rattle.listing.specs.declared.list.Stop.{Stop}
use Rattle.listing.specs.declared.list.Stop.TheVariants.{End, Damaged}
use Rattle.listing.specs.Output.{printed, damaged_text}

-- a case that is not answered writes nothing
abbrev pub Unanswered : {A : Type 0} → List ℕ × ℕ → List ℕ × ℕ → Option A → Type 0
Unanswered before after r = IsNone r → after ≡ before

-- the buffer after the last case: as it was at the end of the list, with the line on the damage otherwise
abbrev pub closed_by : Stop → List ℕ × ℕ → ℕ → List ℕ × ℕ
closed_by End out place = out
closed_by Damaged out place = printed out (damaged_text place)

-- the buffer after a case: as it was where it has its line, with the line on the damage otherwise
abbrev pub closed_unless : {A : Type 0} → Option A → List ℕ × ℕ → ℕ → List ℕ × ℕ
closed_unless (Some line) out place = out
closed_unless None out place = closed_by Damaged out place
