-- Knot insertion (Piegl and Tiller, section 5.2): u goes in between the knots k and k + 1, for the degree p.
use Rattle.std.specs.Prelude.{cond, ℕ, ◌+◌, ◌-◌, leb, eqb}
use Rattle.fraction.specs.Rational.{ℚ, ◌+q◌, ◌*q◌, 𝟘, 𝟙, ◌-q◌, ◌/q◌}

-- the knots with u among them: those up to k, then u, then those from k + 1 on
unfoldable pub inserted_knot : (ℕ → ℚ) → ℚ → ℕ → ℕ → ℚ
inserted_knot t u k i = cond (leb i k) (t i) (cond (eqb i (k + 1)) u (t (i - 1)))

-- α_i (eq. 5.15): 1 up to k - p, the quotient from k - p + 1 to k, 0 from k + 1 on
unfoldable pub alpha : (ℕ → ℚ) → ℚ → ℕ → ℕ → ℕ → ℚ
alpha t u k p i = cond (leb (i + p) k) 𝟙 (cond (leb i k) ((u -q t i) /q (t (i + p) -q t i)) 𝟘)

-- Q_i = α_i P_i + (1 - α_i) P_(i-1) (eq. 5.15)
unfoldable pub inserted_control : (ℕ → ℚ) → ℚ → ℕ → ℕ → (ℕ → ℚ) → ℕ → ℚ
inserted_control t u k p c i = alpha t u k p i *q c i +q (𝟙 -q alpha t u k p i) *q c (i - 1)

-- the old span that a span of the new knots is a part of
unfoldable pub old_span : ℕ → ℕ → ℕ
old_span k s = cond (leb s k) s (s - 1)
