-- Numbers in groups of seven bits: document 01, "in groups of seven bits, low group first, top bit set on all but the last, at most three
-- groups and no padding".
use Rattle.std.specs.Prelude.{Option, Some, None, cond, List, [], ◌∷◌, ℕ, zero, suc, ◌+◌, ◌*◌, ◌-◌, ◌/◌, ◌%◌, ltb, eqb, length, drop}
use Rattle.forms.specs.Read.{Read, got, bad, after}
use Rattle.forms.specs.declared.Number.{Number}

-- the groups of an n below 128 ^ k, at most k of them
unfoldable pub groups_of : ℕ → ℕ → List ℕ
groups_of zero n = []
groups_of (suc k) n = cond (ltb n 128) (n ∷ []) ((128 + n % 128) ∷ groups_of k (n / 128))

-- the number in front, in at most k groups; higher groups that are 0 in all are padding
unfoldable pub read_groups : ℕ → List ℕ → Read ℕ
read_groups zero l = bad
read_groups (suc k) [] = bad
read_groups (suc k) (b ∷ l) =
    cond (ltb b 128) (got b l) (after (read_groups k l) (λ high rest. cond (eqb high 0) bad (got (b - 128 + 128 * high) rest)))

-- a number, and the place after it
abbrev pub number_to : ℕ → ℕ → Option Number
number_to v next = Some (record { value = v; next = next })

-- a number read from n bytes, with the place after it
abbrev pub found : ℕ → Read ℕ → Option Number
found n (got v rest) = number_to v (n - length rest)
found n bad = None

-- the number in at most three groups, from a place of the bytes on
abbrev pub number_at : List ℕ → ℕ → Option Number
number_at l at = found (length l) (read_groups 3 (drop at l))
