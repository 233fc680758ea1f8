-- What a request of the list asks for, and the parts of the buffers that it lends.
use Rattle.std.specs.Prelude.{ℕ, ◌+◌, ◌≤◌, length, ⊤}
use Rattle.checks.specs.declared.Axes.{Axes}
use Rattle.checks.specs.declared.Axes.TheVariants.{All, Listed}
use Rattle.replay_requests.specs.declared.parts.Lent.{Lent}

-- a list of axes has at most 16
abbrev pub FewListed : Axes → Type 0
FewListed All = ⊤
FewListed (Listed list) = length list.now ≤ 16

-- document 01's room is at most that of its largest request
abbrev pub Room01 : Lent ℕ → Type 0
Room01 r =
    (r.work ≤ 5764608)
    × (r.breaks ≤ 20001)
    × (r.coefficients ≤ 1940000)
    × (r.other_breaks ≤ 20000)
    × (r.other_coefficients ≤ 1940000)
    × (r.errors ≤ 16)

-- a part begins at cell 8
abbrev pub Ends : Lent ℕ → Type 0
Ends p =
    (8 ≤ p.work)
    × (8 ≤ p.breaks)
    × (8 ≤ p.coefficients)
    × (8 ≤ p.other_breaks)
    × (8 ≤ p.other_coefficients)
    × (8 ≤ p.errors)

-- buffers of these lengths have the parts, with eight cells behind each
abbrev pub Within : Lent ℕ → Lent ℕ → Type 0
Within p lengths =
    (p.work + 8 ≤ lengths.work)
    × (p.breaks + 8 ≤ lengths.breaks)
    × (p.coefficients + 8 ≤ lengths.coefficients)
    × (p.other_breaks + 8 ≤ lengths.other_breaks)
    × (p.other_coefficients + 8 ≤ lengths.other_coefficients)
    × (p.errors + 8 ≤ lengths.errors)
