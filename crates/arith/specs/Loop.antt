-- Loops as functions of a state, so that a definition can follow the source's loops step by step.
use Rattle.std.specs.Prelude.{ℕ, zero, suc, ◌+◌, ◌-◌, Bool, cond}

-- the n turns f i, f (i + 1), .. of s
unfoldable pub turns : {S : Type 0} → (ℕ → S → S) → ℕ → ℕ → S → S
turns f zero i s = s
turns f (suc n) i s = turns f n (i + 1) (f i s)

-- `for i in a..b`: s after the turns f a, f (a + 1), .. f (b - 1)
unfoldable pub each : {S : Type 0} → (ℕ → S → S) → ℕ → ℕ → S → S
each f a b s = turns f (b - a) a s

-- `while p { f }`, cut off after n turns
unfoldable pub whilst : {S : Type 0} → (S → Bool) → (S → S) → ℕ → S → S
whilst p f zero s = s
whilst p f (suc n) s =
    let r = whilst p f n (f s) in cond (p s) r s

-- the n turns f (a + n - 1), .. f a of s
unfoldable pub backs : {S : Type 0} → (ℕ → S → S) → ℕ → ℕ → S → S
backs f zero a s = s
backs f (suc n) a s = backs f n a (f (a + n) s)

-- `for i in (a..b).rev()`: s after the turns f (b - 1), .. f a
unfoldable pub back : {S : Type 0} → (ℕ → S → S) → ℕ → ℕ → S → S
back f a b s = backs f (b - a) a s

-- a turn goes on with a state, or ends the loop with a result
pub data Step (S R : Type 0) : Type 0 where
  next : S → Step S R
  stop : R → Step S R

-- n turns from i on, of which any may end the loop; `out` of the state where none does
unfoldable pub tries : {S R : Type 0} → (ℕ → S → Step S R) → (S → R) → ℕ → ℕ → S → R
tries f out zero i s = out s
tries f out (suc n) i s =
    elim (f i s) [ next s' ↦ tries f out n (i + 1) s' | stop r ↦ r ]

-- `for i in a..b { .. return .. }`
unfoldable pub till : {S R : Type 0} → (ℕ → S → Step S R) → (S → R) → ℕ → ℕ → S → R
till f out a b s = tries f out (b - a) a s
