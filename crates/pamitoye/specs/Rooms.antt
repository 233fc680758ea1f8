-- The lengths of the slices to lend.
use Rattle.std.specs.Prelude.{ℕ, ◌+◌, ◌*◌, ◌≤◌, max, ◌≡◌, cond, ◌||◌, List, [], ◌∷◌, eqb, ltb, get_or}
use Rattle.smoothing.specs.Answer.Answer.{refused}
use Rattle.smoothing.specs.Request.{Request}
use Rattle.smoothing.specs.Checks.{Room}
use Rattle.smoothing.specs.Build.{build_in}

-- "With E = max(n, max_segments) + 16, the lent room needed is: work E times (16d + 32); selected breaks max_segments + 1 and coefficients
-- 6d times max_segments; other breaks n and coefficients 6dn; errors d"; and, behind the coefficients, max_segments and n cells for the
-- widths (document 02, request 12)
abbrev pub room_cells : ℕ → ℕ → ℕ → List ℕ
room_cells d n segments =
    ((max n segments + 16) * (16 * d + 32)) ∷ (segments + 1) ∷ (segments * (6 * d) + segments) ∷ n ∷ (n * (6 * d) + n) ∷ d ∷ []

-- 18, "d, n, max_segments .. above the domain"
abbrev pub room_number : ℕ → ℕ → ℕ → ℕ
room_number d n segments = cond (ltb 16 d || ltb 20000 n || ltb 20000 segments) 18 0

-- the cells are written where the number is 0
abbrev pub room_after : ℕ → ℕ → ℕ → List ℕ → List ℕ
room_after d n segments old = cond (eqb (room_number d n segments) 0) (room_cells d n segments) old

-- lent slices of at least so many cells
abbrev pub AtLeast : List ℕ → Room → Type 0
AtLeast cells s =
    (get_or cells 0 0 ≤ s.work) × (get_or cells 1 0 ≤ s.breaks) × (get_or cells 2 0 ≤ s.coefficients)
    × (get_or cells 3 0 ≤ s.other_breaks) × (get_or cells 4 0 ≤ s.other_coefficients) × (get_or cells 5 0 ≤ s.errors)

-- a request of these sizes in such slices is never refused with 19
abbrev pub Enough : ℕ → ℕ → ℕ → List ℕ → Type 0
Enough d n segments cells =
    (s : Room) (r : Request) → r.lane.d ≡ d → r.lane.n ≡ n → r.limits.segments ≡ segments → AtLeast cells s
    → build_in s r ≡ refused 19 → ⊥
