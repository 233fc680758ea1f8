-- One knot more, and the same curve: the source's `BSpline::insert`, which is Boehm's insertion (Piegl and Tiller, section 5.2). It says
-- what the knots and the controls are, not how cells move.
use Rattle.std.specs.Prelude.{ℕ, ◌+◌, ◌-◌, ◌*◌, cond, List, ◌∷◌, ◌++◌, leb, get_or, take, drop}
use Rattle.arith.specs.Operations.{Arith}
use Rattle.window.specs.Rows.{list_of, table}

-- `t.insert(k + 1, x)`: the knots with x after the knot at k
abbrev pub knots_with : {A : Type 0} → A → ℕ → List A → List A
knots_with x k t = take (k + 1) t ++ (x ∷ drop (k + 1) t)

-- α of control i (Piegl and Tiller, eq. 5.15, where it is neither 0 nor 1)
abbrev pub alpha_of : {A : Type 0} → Arith A → List A → A → ℕ → A
alpha_of o t x i = o.over (o.minus x (get_or t i o.outside)) (o.minus (get_or t (i + 5) o.outside) (get_or t i o.outside))

-- axis j of control i, of d axes
abbrev pub control : {A : Type 0} → Arith A → ℕ → List A → ℕ → ℕ → A
control o d c i j = get_or c (i * d + j) o.outside

-- (1 - α) times one control's axis, plus α times the next one's, in the source's order of roundings
abbrev pub mixed : {A : Type 0} → Arith A → A → A → A → A
mixed o a before after = o.plus (o.times (o.minus o.one a) before) (o.times a after)

-- the d axes at `at`, each mixed with that of the control before
abbrev pub mixed_row : {A : Type 0} → Arith A → A → ℕ → ℕ → List A → List A
mixed_row o a d at c = list_of d (λ j. mixed o a (get_or c (at - d + j) o.outside) (get_or c (at + j) o.outside))

-- axis j of the new control i, by cases: those up to k - 5 are the old ones, k - 4 to k are mixed, those after k are the old ones before
-- them
unfoldable pub new_control : {A : Type 0} → Arith A → (ℕ → A) → ℕ → ℕ → List A → ℕ → ℕ → A
new_control o alpha d k c i j =
    cond (leb (i + 5) k)
    (control o d c i j)
    (cond (leb i k) (mixed o (alpha i) (control o d c (i - 1) j) (control o d c i j)) (control o d c (i - 1) j))

-- the m + 1 new controls of d axes from the m old ones, for a knot in span k, with the weights α
abbrev pub mixed_controls : {A : Type 0} → Arith A → (ℕ → A) → ℕ → ℕ → ℕ → List A → List A
mixed_controls o alpha d m k c = table (m + 1) d (new_control o alpha d k c)

-- the m + 1 controls with the knot x in span k, from the m old ones and the old knots t
abbrev pub controls_with : {A : Type 0} → Arith A → List A → A → ℕ → ℕ → ℕ → List A → List A
controls_with o t x d m k c = mixed_controls o (alpha_of o t x) d m k c

-- the weights of the controls k - 4 to k
abbrev pub weights_of : {A : Type 0} → Arith A → List A → A → ℕ → List A
weights_of o t x k = list_of 5 (λ r. alpha_of o t x (k - 4 + r))

-- weight i of that list, wherever control i is mixed
abbrev pub weight_at : {A : Type 0} → Arith A → List A → ℕ → ℕ → A
weight_at o weights k i = get_or weights (i - (k - 4)) o.outside
