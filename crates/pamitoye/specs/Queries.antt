-- What a call of many queries writes beside the four slices.
use Rattle.std.specs.Prelude.{ℕ, cond, eqb}

-- the place of the first parameter that is refused is written with 22
abbrev pub place_after : ℕ → ℕ → ℕ → ℕ
place_after number place old = cond (eqb number 22) place old
