-- The six basis functions of a span at a parameter: the source's `BSpline::values`, the triangular recurrence of Cox and de Boor in degree
-- five (Piegl and Tiller, algorithm A2.2), step by step.
use Rattle.std.specs.Prelude.{ℕ, ◌+◌, ◌-◌, List, get_or, set, replicate}
use Rattle.arith.specs.Operations.{Arith}
use Rattle.arith.specs.Loop.{each}

-- what the loop over r changes: the values `b`, and `saved`
pub record Inner (A : Type 0) : Type 0 where
  pub row : List A
  pub saved : A

-- its turn r, in degree j
unfoldable pub inner_turn : {A : Type 0} → Arith A → List A → List A → ℕ → ℕ → Inner A → Inner A
inner_turn o left right j r s =
    let v = o.over (get_or s.row r o.outside) (o.plus (get_or right (r + 1) o.outside) (get_or left (j - r) o.outside)) in
    record {
      row = set s.row r (o.plus s.saved (o.times (get_or right (r + 1) o.outside) v));
      saved = o.times (get_or left (j - r) o.outside) v;
    }

-- the values of degree j, from those of degree j - 1
unfoldable pub inner_loop : {A : Type 0} → Arith A → List A → List A → ℕ → List A → List A
inner_loop o left right j b =
    let s = each (inner_turn o left right j) 0 j (record { row = b; saved = o.zero }) in
    set s.row j s.saved

-- what the loop over j changes: the values, and the distances from the knots on the left and to those on the right
pub record Outer (A : Type 0) : Type 0 where
  pub row : List A
  pub left : List A
  pub right : List A

-- its turn j
unfoldable pub outer_turn : {A : Type 0} → Arith A → List A → ℕ → A → ℕ → Outer A → Outer A
outer_turn o t span x j s =
    let l = set s.left j (o.minus x (get_or t (span + 1 - j) o.outside)) in
    let r = set s.right j (o.minus (get_or t (span + j) o.outside) x) in
    record { row = inner_loop o l r j s.row; left = l; right = r }

-- the values of degree five at x, on the given span
unfoldable pub values_of : {A : Type 0} → Arith A → List A → ℕ → A → List A
values_of o t span x =
    let z = replicate 6 o.zero in
    (each (outer_turn o t span x) 1 6 (record { row = set z 0 o.one; left = z; right = z })).row
