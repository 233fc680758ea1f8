-- Tests of every number below a bound.
use Rattle.std.specs.Prelude.{Bool, not, cond, ℕ, zero, suc, ltb, eqb}

-- the first number below n that passes the test; n where none does
unfoldable pub first_of : ℕ → (ℕ → Bool) → ℕ
first_of zero test = 0
first_of (suc n) test =
    let i = first_of n test in cond (ltb i n) i (cond (test n) n (suc n))

-- every number below n passes the test
abbrev pub every : ℕ → (ℕ → Bool) → Bool
every n test = eqb (first_of n (λ i. not (test i))) n
