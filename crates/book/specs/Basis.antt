-- The B-spline basis functions (Piegl and Tiller, section 2.2, eq. 2.5). The book's functions of degree 0 are 1 on a half-open span and 0
-- elsewhere; here they are a parameter, with three readings below.
use Rattle.std.specs.Prelude.{not, ◌&&◌, cond, List, ℕ, zero, suc, ◌+◌, ◌-◌, ◌<◌, eqb, get_or}
use Rattle.fraction.specs.Rational.{ℚ, ◌+q◌, ◌*q◌, at_mostq, ◌≤q◌, 𝟘, 𝟙, ◌-q◌, ◌/q◌}

-- the knot u_i of a list
abbrev pub knot : List ℚ → ℕ → ℚ
knot t i = get_or t i 𝟘

-- the first n knots never fall: the book's knot vectors are nondecreasing (section 2.2)
abbrev pub Nondecreasing : ℕ → (ℕ → ℚ) → Type 0
Nondecreasing n t = (i : ℕ) → i + 1 < n → t i ≤q t (i + 1)

-- N_{i,p}(u) over the knots t (eq. 2.5), where `first i` is N_{i,0}(u)
unfoldable pub basis : (ℕ → ℚ) → (ℕ → ℚ) → ℚ → ℕ → ℕ → ℚ
basis t first u zero i = first i
basis t first u (suc p) i =
    (u -q t i) /q (t (i + suc p) -q t i) *q basis t first u p i
    +q (t (i + suc p + 1) -q u) /q (t (i + suc p + 1) -q t (i + 1)) *q basis t first u p (i + 1)

-- The book's N_{i,0}(u): 1 if u_i ≤ u < u_(i+1), and 0 otherwise (eq. 2.5).
unfoldable pub half_open : (ℕ → ℚ) → ℚ → ℕ → ℚ
half_open t u i = cond (at_mostq (t i) u && not (at_mostq (t (i + 1)) u)) 𝟙 𝟘

-- Relative to a span: 1 at that span, and 0 otherwise. Then N_{i,p} is, for every u, the polynomial that it is on that span.
unfoldable pub on_span : ℕ → ℕ → ℚ
on_span span i = cond (eqb i span) 𝟙 𝟘

-- The book's, with the right end of the domain, u = u_m, taken into the last of the spans below m (the special case of algorithm A2.1,
-- FindSpan).
unfoldable pub closed_at_end : ℕ → (ℕ → ℚ) → ℚ → ℕ → ℚ
closed_at_end m t u i = cond (at_mostq (t m) u && at_mostq u (t m)) (on_span (m - 1) i) (half_open t u i)
