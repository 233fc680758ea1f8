-- The six basis functions of a span as powers about x: the source's `BSpline::powers`, step by step. Row i of its table, the six
-- coefficients of function i, stands at 6 * i of a list of 36.
use Rattle.std.specs.Prelude.{ℕ, ◌+◌, ◌-◌, ◌*◌, cond, List, ltb, get_or, set, replicate}
use Rattle.arith.specs.Operations.{Arith}
use Rattle.arith.specs.Loop.{each}

-- `prev`: the coefficient before k of the row at `at`, over den; zero before the first
unfoldable pub previous_of : {A : Type 0} → Arith A → List A → ℕ → ℕ → A → A
previous_of o b at k den = cond (ltb 0 k) (o.over (get_or b (at + k - 1) o.outside) den) o.zero

-- what a row of degree j - 1 gives: `next` to the row in its place, `upper` to the one after it
pub record Expansion (A : Type 0) : Type 0 where
  pub next : List A
  pub upper : List A

-- the turn k of the loop over coefficients
unfoldable pub expansion_turn : {A : Type 0} → Arith A → List A → ℕ → List A → A → A → ℕ → Expansion A → Expansion A
expansion_turn o b at saved left right k s =
    let den = o.plus left right in
    let v = o.over (get_or b (at + k) o.outside) den in
    let prev = previous_of o b at k den in
    record {
      next = set s.next k (o.minus (o.plus (get_or saved k o.outside) (o.times right v)) prev);
      upper = set s.upper k (o.plus (o.times left v) prev);
    }

unfoldable pub expand : {A : Type 0} → Arith A → List A → ℕ → List A → A → A → ℕ → Expansion A
expand o b at saved left right j =
    let z = replicate 6 o.zero in each (expansion_turn o b at saved left right) 0 (j + 1) (record { next = z; upper = z })

-- the row at `at` becomes `row`
unfoldable pub put_turn : {A : Type 0} → Arith A → ℕ → List A → ℕ → List A → List A
put_turn o at row k b = set b (at + k) (get_or row k o.outside)

unfoldable pub put_row : {A : Type 0} → Arith A → List A → ℕ → List A → List A
put_row o b at row = each (put_turn o at row) 0 6 b

-- what the loop over rows changes: the table, and `saved`
pub record Rows (A : Type 0) : Type 0 where
  pub rows : List A
  pub saved : List A

-- its turn r, in degree j
unfoldable pub row_turn : {A : Type 0} → Arith A → List A → ℕ → A → ℕ → ℕ → Rows A → Rows A
row_turn o t span x j r s =
    let left = o.minus x (get_or t (span + 1 - j + r) o.outside) in
    let right = o.minus (get_or t (span + r + 1) o.outside) x in
    let p = expand o s.rows (6 * r) s.saved left right j in
    record { rows = put_row o s.rows (6 * r) p.next; saved = p.upper }

-- the turn j of the loop over degrees
unfoldable pub degree_turn : {A : Type 0} → Arith A → List A → ℕ → A → ℕ → List A → List A
degree_turn o t span x j b =
    let s = each (row_turn o t span x j) 0 j (record { rows = b; saved = replicate 6 o.zero }) in
    put_row o s.rows (6 * j) s.saved

-- the table of degree five about x, on the given span
unfoldable pub powers_of : {A : Type 0} → Arith A → List A → ℕ → A → List A
powers_of o t span x = each (degree_turn o t span x) 1 6 (set (replicate 36 o.zero) 0 o.one)
